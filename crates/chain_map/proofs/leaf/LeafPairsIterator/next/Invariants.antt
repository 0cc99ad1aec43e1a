use Rattle.std.proofs.Common.{◌≡◌, ◌+◌, ◌≤◌, length}
use Rattle.chain_map.specs.Marks.{kept}
use Rattle.chain_map.proofs.leaf.LeafPairsIterator.next.Given as goal

-- what was passed over is marked
abbrev pub invariant-loop-pair : goal.invariant-loop-pair
invariant-loop-pair l = (kept l.self-inside.mark l.self-inside.place l.self-inside.pairs.now ≡ kept l.initial.self-inside.mark l.initial.self-inside.place l.initial.self-inside.pairs.now) × (l.self-inside.place + length l.self-inside.pairs.now ≤ 64)

abbrev pub decreases-loop-pair : goal.decreases-loop-pair
decreases-loop-pair l = length l.self-inside.pairs.now
