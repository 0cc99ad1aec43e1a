use Rattle.chain_map.specs.Leaves.{joined}
use Rattle.chain_map.specs.Laid.{laid}
use Rattle.chain_map.proofs.Each.{shown_clean}
use Rattle.chain_map.proofs.chain.merge_last.Goals as goal

pub returns-in_err-fit-clause-same : goal.returns-in_err-fit-clause-same
returns-in_err-fit-clause-same c = shown_clean c.args.base.now c.args.base.now c.fit.new.self c.args.marks.now c.args.over.now c.args.over.now c.in_err-fit.ensures.clean (c.is_clean.ensures c.if-is_clean.true) (λ i. laid c.args.over.now (joined c.args.base.now))

pub returns-in_err-merge_last-clause-same : goal.returns-in_err-merge_last-clause-same
returns-in_err-merge_last-clause-same c = shown_clean c.merge_last.new.self c.args.base.now c.fit.new.self c.args.marks.now c.merge_last.new.over c.args.over.now c.in_ok-fit.ensures.clean (c.is_clean.ensures c.if-is_clean.true) c.in_err-merge_last.ensures.same

pub returns-in_ok-merge_last-clause-same : goal.returns-in_ok-merge_last-clause-same
returns-in_ok-merge_last-clause-same c = shown_clean c.merge_last.new.self c.args.base.now c.trim.new.self c.args.marks.now c.merge_last.new.over c.args.over.now c.trim.ensures.clean (c.is_clean.ensures c.if-is_clean.true) c.in_ok-merge_last.ensures.same
