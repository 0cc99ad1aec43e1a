use Rattle.serial_table.specs.Change.{end_session}
use Rattle.serial_table.proofs.Rewriting.{map_next}
use Rattle.serial_table.proofs.perform.end_sessions.Goals as goal

pub loop-worker-preserved : goal.loop-worker-preserved
loop-worker-preserved c = map_next (end_session c.args.sid) _ _ _ _ _ c.loop-worker-test.true c.loop-worker.invariant c.end_session.ensures
