use Rattle.std.proofs.Common.{◌≡◌, ◌++◌, ◌+◌, ◌-◌, length}
use Rattle.serial_table.specs.Settle.{settle}
use Rattle.opendb_run.specs.Order.{in_turn, in_order}
use Rattle.opendb_run.specs.Play.{after_calls}
use Rattle.opendb_run.specs.Playing.{text_of_calls, TakesCalls}
use Rattle.opendb_run.proofs.play.play_phase.Given as goal

-- the workers so far and those that are left are all of them
abbrev pub invariant-loop-place : goal.invariant-loop-place
invariant-loop-place g l = record {
  table : after_calls l.setup l.table l.phase.moment (in_turn (l.place + 1) (length l.setup.workers - l.place) l.phase.calls) ≡ after_calls l.setup l.fn.table l.phase.moment (in_order l.setup l.phase.calls);
  text : l.text ++ text_of_calls l.setup l.table l.phase.moment (in_turn (l.place + 1) (length l.setup.workers - l.place) l.phase.calls) ≡ l.fn.text ++ text_of_calls l.setup l.fn.table l.phase.moment (in_order l.setup l.phase.calls);
  taken : TakesCalls l.setup l.table l.phase.moment (in_turn (l.place + 1) (length l.setup.workers - l.place) l.phase.calls);
  settled : settle l.table ≡ l.table;
}
