use Rattle.std.proofs.Common.{ap, subst, sym, ◌∙◌}
use Rattle.chain_map.specs.Leaves.{joined, IsFilled}
use Rattle.chain_map.proofs.Homes.{joined-snoc, IsFilled-snoc, filled_from_test}
use Rattle.chain_map.proofs.base.push_filled.Goals as goal

pub returns-in_ok-push-clause-pairs : goal.returns-in_ok-push-clause-pairs
returns-in_ok-push-clause-pairs c = ap joined c.in_ok-push.ensures.items ∙ joined-snoc c.args.leaves.now.items c.args.leaf

pub returns-in_ok-push-clause-filled : goal.returns-in_ok-push-clause-filled
returns-in_ok-push-clause-filled c filled =
    subst IsFilled (sym c.in_ok-push.ensures.items)
    (IsFilled-snoc c.args.leaves.now.items c.args.leaf filled (filled_from_test c.args.leaf c.as_slice.result.now (sym c.is_empty.ensures ∙ c.if-not-is_empty.true) c.as_slice.ensures.pairs))
