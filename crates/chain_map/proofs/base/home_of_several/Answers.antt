use Rattle.std.proofs.Common.{rules, subst, sym}
use Rattle.std.proofs.lemmas.Fn.{always_returns_same}
use Rattle.chain_map.specs.Leaves.{starts_by, IsHome}
use Rattle.chain_map.proofs.Homes.{partitioned, home_found, IsHome-in_range}
use Rattle.chain_map.proofs.base.home_of_several.Goals as goal

pub returns-clause-home : goal.returns-clause-home
returns-clause-home c =
    let sides = c.partition_point.ensures.partitioned (starts_by c.args.key.now) (always_returns_same _ _ _ (λ a r f' called. (search rules, search rules)))
    (partitioned c.args.key.now c.args.leaves.now c.requires.rising c.requires.filled) in
    subst (IsHome c.args.key.now c.args.leaves.now) (sym c.saturating_sub.ensures)
    (home_found c.args.key.now c.args.leaves.now c.requires.rising c.requires.filled c.partition_point.result sides.0 sides.1 c.partition_point.ensures.bound c.requires.some)

pub returns-clause-within : goal.returns-clause-within
returns-clause-within c = IsHome-in_range c.args.key.now c.args.leaves.now _ (returns-clause-home c)
