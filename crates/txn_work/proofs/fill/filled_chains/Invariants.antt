use Rattle.std.proofs.Common.{◌≡◌, length}
use Rattle.txn_work.proofs.fill.filled_chains.Given as goal

abbrev pub invariant-loop : goal.invariant-loop
invariant-loop l = record { long : length l.chains.items ≡ l.counter }
