use Rattle.by_hand.proofs.Beginning.{row_first, begins, if_ok}
use Rattle.by_hand.proofs.begin.begin_by_hand.Goals as goal

pub start-requires-clause-first : goal.start-requires-clause-first
start-requires-clause-first c = row_first c.args.setup.now c.in_ok-first.first.items c.requires c.in_ok-first.ensures

pub returns : goal.returns
returns c = if_ok c.start.result c.start.ensures (λ cells begun. begins cells _ c.in_ok-first.first.items c.requires c.in_ok-first.ensures begun)
