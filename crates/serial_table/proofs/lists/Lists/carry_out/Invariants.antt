use Rattle.std.proofs.Common.{◌≡◌, ℕ, ◌+◌, ◌≤◌, IsTrue, List, length, take, drop, map, false, vec_len}
use Rattle.std.specs.List.{list_all}
use Rattle.sid_core.specs.declared.ids.Spot.{Spot}
use Rattle.serial_table.specs.View.{view}
use Rattle.serial_table.specs.Change.{perform_all}
use Rattle.serial_table.specs.Wake.{some_frees}
use Rattle.serial_table.specs.InPlace.{table_of, judge, is_made, HasRoom, AreEnough}
use Rattle.serial_table.proofs.lists.Lists.carry_out.Given as goal

-- the changes so far are made, the spots are judged by them, and there is room for the rest
abbrev pub invariant-loop-change : goal.invariant-loop-change
invariant-loop-change l = record {
  table : table_of l.self ≡ perform_all (take l.change-index l.changes) (table_of l.fn.self);
  judged : (spots : List Spot) → l.fn.candidates.items ≡ map (judge (λ _. false)) spots → l.candidates.items ≡ map (judge (some_frees (take l.change-index l.changes) (view (table_of l.fn.self)))) spots;
  len : vec_len l.candidates ≡ vec_len l.fn.candidates;
  room : (more : ℕ) → HasRoom l.fn.self (length l.changes + more) → HasRoom l.self (length (drop l.change-index l.changes) + more);
  made : IsTrue (list_all is_made (drop l.change-index l.changes));
  waiters : vec_len l.self.waiters ≤ vec_len l.fn.self.waiters + l.change-index;
  enough : AreEnough l.scope (drop l.change-index l.changes) (table_of l.self);
}
