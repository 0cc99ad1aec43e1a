use Rattle.std.proofs.Common.{◌≡◌, ◌++◌, map, take, drop}
use Rattle.serial_table.specs.Change.{begin_session}
use Rattle.serial_table.proofs.perform.begin_sessions.Given as goal

abbrev pub invariant-loop-worker : goal.invariant-loop-worker
invariant-loop-worker l = l.worker-items ≡ map (begin_session l.sid l.moment) (take l.worker-index l.initial.worker-items) ++ drop l.worker-index l.initial.worker-items
