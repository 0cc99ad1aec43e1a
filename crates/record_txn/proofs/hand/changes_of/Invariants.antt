use Rattle.std.proofs.Common.{◌≡◌}
use Rattle.record_txn.specs.Hand.{changes_of}
use Rattle.record_txn.proofs.hand.changes_of.Given as goal

abbrev pub invariant-loop-held : goal.invariant-loop-held
invariant-loop-held l = l.changes.items ≡ changes_of l.yielded
