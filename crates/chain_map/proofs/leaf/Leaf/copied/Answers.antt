use Rattle.std.proofs.Common.{◌≡◌, ◌++◌, ap, sym, subst, arith, length, append-nil}
use Rattle.chain_map.specs.Pairs.{IsRising}
use Rattle.chain_map.specs.Marks.{kept}
use Rattle.chain_map.proofs.Kept.{IsRising-kept, length-kept}
use Rattle.chain_map.proofs.leaf.Leaf.copied.Goals as goal

-- all that is kept was copied
all : (c : goal.In-None) → c.loop-pair.pairs.items ≡ kept c.args.mark 0 c.args.self.now
all c =
    let parts : c.loop-pair.pairs.items ++ c.loop-pair.pair-iterator ≡ kept c.args.mark 0 c.args.self.now = c.loop-pair.invariant in
    simp append-nil at (rw c.in-None.ensures.steps.0 at parts)

pub from_vec-requires : goal.from_vec-requires
from_vec-requires c = subst IsRising (sym (all c)) (IsRising-kept c.args.mark 0 c.args.self.now c.pairs-pair-items.ensures.rising)

pub returns-clause-few : goal.returns-clause-few
returns-clause-few c =
    let parts : c.loop-pair.pairs.items ++ c.loop-pair.pair-iterator ≡ kept c.args.mark 0 c.args.self.now = c.loop-pair.invariant in
    let all : c.loop-pair.pairs.items ≡ kept c.args.mark 0 c.args.self.now = simp append-nil at (rw c.in-None.ensures.steps.0 at parts) in
    omega (arith, ap length c.from_vec.ensures, ap length all, length-kept c.args.mark 0 c.args.self.now, c.pairs-pair-items.ensures.few)
