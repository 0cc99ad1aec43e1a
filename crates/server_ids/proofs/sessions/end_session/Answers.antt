use Rattle.std.proofs.Common.{arith}
use Rattle.server_ids.specs.Sessions.{worker_row}
use Rattle.server_ids.proofs.Ends.{one_more_end, dies, begins_next}
use Rattle.server_ids.proofs.sessions.end_session.Goals as goal

pub returns-then-next-clause-worker : goal.returns-then-next-clause-worker
returns-then-next-clause-worker c = λ pid. rw c.if-next.true (begins_next (worker_row pid c.args.rec.now) c.args.now)

pub returns-else-next-clause-worker : goal.returns-else-next-clause-worker
returns-else-next-clause-worker c = λ pid. rw c.if-next.false (dies (worker_row pid c.args.rec.now) c.args.now)

pub returns-then-next-clause-ends : goal.returns-then-next-clause-ends
returns-then-next-clause-ends c = λ pid.
    one_more_end pid c.args.rec.now.ended _ c.args.now.0 c.args.rec.now.session c.in_ok-push.ensures.ok
    (omega (arith, c.requires.sets.ended_of_living c.requires.alive, c.requires.sets.first_session))

pub returns-else-next-clause-ends : goal.returns-else-next-clause-ends
returns-else-next-clause-ends c = λ pid.
    one_more_end pid c.args.rec.now.ended _ c.args.now.0 c.args.rec.now.session c.in_ok-push.ensures.ok
    (omega (arith, c.requires.sets.ended_of_living c.requires.alive, c.requires.sets.first_session))
