use Rattle.std.proofs.Common.{◌≡◌, ◌++◌, ◌∷◌, length}
use Rattle.chain_map.specs.Leaves.{joined}
use Rattle.chain_map.specs.Marks.{kept_each}
use Rattle.chain_map.proofs.entries.BelowIterator.next.Given as goal

abbrev pub invariant-loop-pair : goal.invariant-loop-pair
invariant-loop-pair l = l.self-inside.leaf ++ joined (kept_each l.self-inside.leaves.now (l.self-inside.mark ∷ l.self-inside.marks.now))
    ≡ l.initial.self-inside.leaf ++ joined (kept_each l.initial.self-inside.leaves.now (l.initial.self-inside.mark ∷ l.initial.self-inside.marks.now))

abbrev pub decreases-loop-pair : goal.decreases-loop-pair
decreases-loop-pair l = length l.self-inside.leaves.now
