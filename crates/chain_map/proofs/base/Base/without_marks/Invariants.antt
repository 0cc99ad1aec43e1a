use Rattle.std.proofs.Common.{◌≡◌, ◌++◌, ◌-◌, ◌≤◌, length, drop}
use Rattle.chain_map.specs.Leaves.{joined, IsFilled}
use Rattle.chain_map.specs.Marks.{kept_each}
use Rattle.chain_map.proofs.base.Base.without_marks.Given as goal

-- what was taken over, and what is left
abbrev pub invariant-loop-at : goal.invariant-loop-at
invariant-loop-at l = record {
  pairs : joined l.leaves.items ++ joined (kept_each (drop l.at l.self) (drop l.at l.marks)) ≡ joined (kept_each l.self l.marks);
  filled : IsFilled l.leaves.items;
  within : l.at ≤ length l.self;
}

abbrev pub decreases-loop-at : goal.decreases-loop-at
decreases-loop-at l = length l.self - l.at
