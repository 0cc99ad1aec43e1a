use Rattle.std.proofs.Common.{◌≡◌, ◌≤◌, length}
use Rattle.chain_map.specs.Leaves.{joined}
use Rattle.chain_map.specs.Laid.{laid}
use Rattle.chain_map.proofs.base.Base.take_in_all.Given as goal

abbrev pub invariant-loop-at : goal.invariant-loop-at
invariant-loop-at l = record {
  same : laid l.over (joined l.self) ≡ laid l.initial.over (joined l.initial.self);
  len : length l.self ≡ length l.initial.self;
  before : l.at ≤ length l.over;
}

abbrev pub decreases-loop-at : goal.decreases-loop-at
decreases-loop-at l = l.at
