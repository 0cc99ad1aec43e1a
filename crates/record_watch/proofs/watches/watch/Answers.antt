use Rattle.std.proofs.Common.{ap}
use Rattle.std.specs.Prelude.{Some}
use Rattle.record_watch.proofs.Boxes.{on_ok_then}
use Rattle.record_watch.proofs.watches.watch.Goals as goal

pub returns-in-Some-clause-blocker : goal.returns-in-Some-clause-blocker
returns-in-Some-clause-blocker c = rw c.in-Some.is (on_ok_then c.add_behind.result _ _ (λ is. ap Some is) c.add_behind.ensures)
