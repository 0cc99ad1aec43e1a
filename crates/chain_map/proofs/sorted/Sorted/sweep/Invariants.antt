use Rattle.std.proofs.Common.{◌≡◌, ◌≤◌, ◌++◌, length, take, drop}
use Rattle.chain_map.specs.Marks.{kept}
use Rattle.chain_map.proofs.sorted.Sorted.sweep.Given as goal

-- the pairs before the place as they were, and what is kept of those from there on
abbrev pub invariant-loop-at : goal.invariant-loop-at
invariant-loop-at l = (l.self-inside.pairs.items ≡ take l.at l.initial.self-inside.pairs.items ++ kept l.mark l.at (drop l.at l.initial.self-inside.pairs.items)) × (l.at ≤ length l.initial.self-inside.pairs.items)

abbrev pub decreases-loop-at : goal.decreases-loop-at
decreases-loop-at l = l.at
