use Rattle.std.proofs.Common.{subst}
use Rattle.chain_map.specs.Pairs.{IsRising}
use Rattle.chain_map.proofs.Each.{IsRising-each}
use Rattle.chain_map.proofs.Laid.{IsRising-laid}
use Rattle.chain_map.proofs.chain.Chain.entries.Goals as goal

pub returns-clause-rising : goal.returns-clause-rising
returns-clause-rising c = subst IsRising c.self.view_is (IsRising-laid c.self.inside.over _ (IsRising-each _ c.self.inside.marks c.leaves_of.ensures.rising))
