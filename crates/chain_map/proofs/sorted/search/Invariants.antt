use Rattle.std.proofs.Common.{◌≤◌, ◌-◌, length}
use Rattle.chain_map.proofs.Found.{AreLess, AreGreater}
use Rattle.chain_map.proofs.sorted.search.Given as goal

abbrev pub invariant-loop-low : goal.invariant-loop-low
invariant-loop-low l = (l.low ≤ l.high) × ((l.high ≤ length l.pairs) × (AreLess l.key l.pairs l.low × AreGreater l.key l.pairs l.high))

abbrev pub decreases-loop-low : goal.decreases-loop-low
decreases-loop-low l = l.high - l.low
