use Rattle.std.proofs.Common.{◌≡◌, ◌≤◌, length}
use Rattle.chain_map.specs.Laid.{leaves_of, shown}
use Rattle.chain_map.proofs.chain.merge.Given as goal

abbrev pub invariant-loop-left : goal.invariant-loop-left
invariant-loop-left l = record {
  same : shown (leaves_of l.base) l.marks l.over ≡ shown (leaves_of l.initial.base) l.initial.marks l.initial.over;
  fits : length (leaves_of l.base) ≤ length l.marks;
}

abbrev pub decreases-loop-left : goal.decreases-loop-left
decreases-loop-left l = l.left
