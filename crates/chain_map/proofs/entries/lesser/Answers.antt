use Rattle.std.proofs.Common.{ap, sym, ◌∙◌}
use Rattle.std.specs.Option.{option_copied}
use Rattle.chain_map.specs.Pairs.{byte_order}
use Rattle.chain_map.proofs.Merged.{step_last, step_less, step_equal, step_greater}
use Rattle.chain_map.proofs.entries.lesser.Goals as goal

pub returns-in_default-first-clause-some : goal.returns-in_default-first-clause-some
returns-in_default-first-clause-some c rest upper lower is =
    step_last c.args.over.now c.in-Some.pair.now c.in-Some.rest.now (option_copied c.args.first) rest upper lower c.in-Some.ensures.cases.0 (ap option_copied c.in_default-first.is) is

pub returns-in-Less-clause-some : goal.returns-in-Less-clause-some
returns-in-Less-clause-some c rest upper lower is =
    step_less c.args.over.now c.in-Some.pair.now c.in-Some.rest.now (option_copied c.args.first) rest upper lower c.in-Some.ensures.cases.0 c.in-Some-first.first.now (ap option_copied c.in-Some-first.is)
    (ap (byte_order c.in-Some.pair.now.0) (sym c.key.ensures) ∙ sym c.cmp_key.ensures ∙ c.in-Less.is)

pub returns-in-Equal-clause-some : goal.returns-in-Equal-clause-some
returns-in-Equal-clause-some c rest upper lower is =
    step_equal c.args.over.now c.in-Some.pair.now c.in-Some.rest.now (option_copied c.args.first) rest upper lower c.in-Some.ensures.cases.0 c.in-Some-first.first.now (ap option_copied c.in-Some-first.is)
    (ap (byte_order c.in-Some.pair.now.0) (sym c.key.ensures) ∙ sym c.cmp_key.ensures ∙ c.in-Equal.is)

pub returns-in-Greater-clause-some : goal.returns-in-Greater-clause-some
returns-in-Greater-clause-some c rest upper lower is =
    step_greater c.args.over.now c.in-Some.pair.now c.in-Some.rest.now (option_copied c.args.first) rest upper lower c.in-Some.ensures.cases.0 c.in-Some-first.first.now (ap option_copied c.in-Some-first.is)
    (ap (byte_order c.in-Some.pair.now.0) (sym c.key.ensures) ∙ sym c.cmp_key.ensures ∙ c.in-Greater.is)
