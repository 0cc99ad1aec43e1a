use Rattle.std.proofs.Common.{ap, ◌∙◌}
use Rattle.chain_map.specs.Leaves.{joined}
use Rattle.chain_map.specs.Marks.{kept_each}
use Rattle.chain_map.specs.Laid.{laid}
use Rattle.chain_map.proofs.Each.{shown_clean}
use Rattle.chain_map.proofs.chain.settle_own.Goals as goal

pub returns-then-is_clean-clause-same : goal.returns-then-is_clean-clause-same
returns-then-is_clean-clause-same c = shown_clean c.take_in_all.new.self c.args.base.now c.args.marks.now c.args.marks.now c.take_in_all.new.over c.args.over.now (c.is_clean.ensures c.if-is_clean.true) (c.is_clean.ensures c.if-is_clean.true) c.take_in_all.ensures.same

pub returns-then-is_clean-2-clause-same : goal.returns-then-is_clean-2-clause-same
returns-then-is_clean-2-clause-same c =
    let clean = c.is_clean-2.ensures c.if-is_clean-2.true in
    shown_clean c.take_in_all-then-is_clean-2.new.self c.sweep.new.self c.review.new.self c.review.new.self c.take_in_all-then-is_clean-2.new.over c.args.over.now clean clean c.take_in_all-then-is_clean-2.ensures.same
    ∙ ap (λ marks. laid c.args.over.now (joined (kept_each c.sweep.new.self marks))) c.review.ensures
    ∙ ap (laid c.args.over.now) c.sweep.ensures.pairs
