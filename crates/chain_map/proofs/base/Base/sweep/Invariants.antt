use Rattle.std.proofs.Common.{◌≡◌, ◌≤◌, length}
use Rattle.chain_map.specs.Pairs.{IsRising}
use Rattle.chain_map.specs.Leaves.{joined, IsFilled}
use Rattle.chain_map.specs.Marks.{kept_each}
use Rattle.chain_map.proofs.base.Base.sweep.Given as goal

abbrev pub invariant-loop-at : goal.invariant-loop-at
invariant-loop-at l = record {
  pairs : joined (kept_each l.self-inside.leaves.items l.marks) ≡ joined (kept_each l.initial.self-inside.leaves.items l.initial.marks);
  rising : IsRising (joined l.self-inside.leaves.items);
  filled : IsFilled l.self-inside.leaves.items;
  fits : length l.self-inside.leaves.items ≤ length l.marks;
  before : l.at ≤ length l.self-inside.leaves.items;
}

abbrev pub decreases-loop-at : goal.decreases-loop-at
decreases-loop-at l = l.at
