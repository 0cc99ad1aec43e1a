use Rattle.std.proofs.Common.{◌≡◌, length}
use Rattle.std.specs.Ordering.{nat_cmp}
use Rattle.std.specs.Cmp.Lexicographic.{slice_cmp}
use Rattle.chain_map.proofs.Words.{AreBytes}
use Rattle.chain_map.proofs.compare.order_by_words.Given as goal

abbrev pub invariant-loop-x : goal.invariant-loop-x
invariant-loop-x l = (slice_cmp nat_cmp l.x l.y ≡ slice_cmp nat_cmp l.left l.right) × (AreBytes l.x × AreBytes l.y)

abbrev pub decreases-loop-x : goal.decreases-loop-x
decreases-loop-x l = length l.x
