use Rattle.std.proofs.Common.{◌≡◌, ◌+◌, drop}
use Rattle.record_txn.specs.Hand.{place_of}
use Rattle.record_txn.proofs.hand.place_of.Given as goal

abbrev pub invariant-loop-place : goal.invariant-loop-place
invariant-loop-place l = l.place + place_of l.number (drop l.place l.hand) ≡ place_of l.number l.hand
