use Rattle.std.proofs.Common.{◌≡◌, ap, subst, sym, arith, length, ◌∙◌}
use Rattle.chain_map.specs.Pairs.{IsRising}
use Rattle.chain_map.specs.Marks.{kept}
use Rattle.chain_map.proofs.Kept.{IsRising-kept, length-kept, swept_live, swept_all}
use Rattle.chain_map.proofs.sorted.Sorted.sweep.Goals as goal

all : (c : goal.After-loop-at) → c.loop-at.self-inside.pairs.items ≡ kept c.args.mark 0 c.self.inside.pairs.items
all c = swept_all c.args.mark c.loop-at.at c.self.inside.pairs.items c.loop-at.self-inside.pairs.items c.loop-at-test.false c.loop-at.invariant.0

pub invariant_of-self : goal.invariant_of-self
invariant_of-self c = subst IsRising (sym (all c)) (IsRising-kept c.args.mark 0 c.self.inside.pairs.items c.self.invariant)

pub returns-clause-kept : goal.returns-clause-kept
returns-clause-kept c = rw (← c.self.view_is) (all c)

pub returns-clause-fewer : goal.returns-clause-fewer
returns-clause-fewer c = omega (arith, ap length (all c), length-kept c.args.mark 0 c.self.inside.pairs.items, ap length c.self.view_is)

pub loop-at-preserved : goal.loop-at-preserved
loop-at-preserved c =
    (swept_live c.args.mark c.loop-at.at c.self.inside.pairs.items c.loop-at.self-inside.pairs.items c.loop-at-test.true c.loop-at.invariant.1 c.loop-at.invariant.0 (sym c.is_gone.ensures ∙ c.if-is_gone.false), omega (arith, c.loop-at.invariant.1))
