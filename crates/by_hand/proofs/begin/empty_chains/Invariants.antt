use Rattle.std.proofs.Common.{◌≡◌, [], replicate}
use Rattle.by_hand.proofs.begin.empty_chains.Given as goal

abbrev pub invariant-loop : goal.invariant-loop
invariant-loop l = record { made : l.chains.items ≡ replicate l.counter [] }
