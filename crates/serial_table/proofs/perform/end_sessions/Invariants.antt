use Rattle.std.proofs.Common.{◌≡◌, ◌++◌, map, take, drop}
use Rattle.serial_table.specs.Change.{end_session}
use Rattle.serial_table.proofs.perform.end_sessions.Given as goal

abbrev pub invariant-loop-worker : goal.invariant-loop-worker
invariant-loop-worker l = l.worker-items ≡ map (end_session l.sid) (take l.worker-index l.initial.worker-items) ++ drop l.worker-index l.initial.worker-items
