use Rattle.std.proofs.Common.{◌≡◌, ℕ, map, take}
use Rattle.serial_table.specs.Change.{perform_all}
use Rattle.serial_table.specs.Decision.{waits_no_more}
use Rattle.serial_table.specs.InPlace.{table_of, HasRoom}
use Rattle.serial_table.proofs.lists.Lists.drop_woken.Given as goal

abbrev pub invariant-loop-watch : goal.invariant-loop-watch
invariant-loop-watch l = record {
  table : table_of l.self ≡ perform_all (map waits_no_more (take l.watch-index l.woken)) (table_of l.fn.self);
  room : (more : ℕ) → HasRoom l.fn.self more → HasRoom l.self more;
}
