use Rattle.std.proofs.Common.{ap, ◌∙◌}
use Rattle.chain_map.specs.Leaves.{joined}
use Rattle.chain_map.proofs.Each.{each_clean}
use Rattle.chain_map.proofs.chain.own.Goals as goal

pub returns-clause-same : goal.returns-clause-same
returns-clause-same c = ap joined (each_clean _ c.in_ok-clean.clean c.in_ok-clean.ensures.clean ∙ c.in_ok-fresh-2.ensures.ok) ∙ c.in_ok-fresh.ensures
