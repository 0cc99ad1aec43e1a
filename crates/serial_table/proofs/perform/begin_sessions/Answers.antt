use Rattle.serial_table.specs.Change.{begin_session}
use Rattle.serial_table.proofs.Rewriting.{map_next}
use Rattle.serial_table.proofs.perform.begin_sessions.Goals as goal

pub loop-worker-preserved : goal.loop-worker-preserved
loop-worker-preserved c = map_next (begin_session c.args.sid c.args.moment) _ _ _ _ _ c.loop-worker-test.true c.loop-worker.invariant c.begin_session.ensures
