use Rattle.dbwrap_core.specs.Plain.{beside_of, shown_at}
use Rattle.txn_work.specs.Ready.{IsReady}
use Rattle.txn_work.proofs.work.stamp_six_each.Given as goal

abbrev pub invariant-loop : goal.invariant-loop
invariant-loop g l = record { ready : IsReady 6 l.counter (beside_of l.cells) (shown_at l.cells 0) }
