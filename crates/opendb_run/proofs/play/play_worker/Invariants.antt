use Rattle.std.proofs.Common.{◌≡◌, ◌++◌, drop}
use Rattle.serial_table.specs.Settle.{settle}
use Rattle.opendb_run.specs.Order.{calls_by}
use Rattle.opendb_run.specs.Play.{after_calls}
use Rattle.opendb_run.specs.Playing.{text_of_calls, TakesCalls}
use Rattle.opendb_run.proofs.play.play_worker.Given as goal

-- the calls so far and those that are left are all of them
abbrev pub invariant-loop-planned : goal.invariant-loop-planned
invariant-loop-planned g l = record {
  table : after_calls l.setup l.table l.phase.moment (calls_by l.worker (drop l.planned-index l.planned-items)) ≡ after_calls l.setup l.fn.table l.phase.moment (calls_by l.worker l.phase.calls);
  text : l.text ++ text_of_calls l.setup l.table l.phase.moment (calls_by l.worker (drop l.planned-index l.planned-items)) ≡ l.fn.text ++ text_of_calls l.setup l.fn.table l.phase.moment (calls_by l.worker l.phase.calls);
  taken : TakesCalls l.setup l.table l.phase.moment (calls_by l.worker (drop l.planned-index l.planned-items));
  items : l.planned-items ≡ l.phase.calls;
  settled : settle l.table ≡ l.table;
}
