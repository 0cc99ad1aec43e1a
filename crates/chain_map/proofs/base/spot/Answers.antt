use Rattle.std.proofs.Common.{[], ap, subst, sym, ◌∙◌, arith}
use Rattle.std.proofs.lemmas.List.{get_or_default}
use Rattle.chain_map.specs.Pairs.{find}
use Rattle.chain_map.specs.Place.{IsAt}
use Rattle.chain_map.proofs.Place.{IsAt-in_range, find_gap}
use Rattle.chain_map.proofs.Homes.{find_home}
use Rattle.chain_map.proofs.base.spot.Goals as goal

pub returns-in-Ok-clause-some : goal.returns-in-Ok-clause-some
returns-in-Ok-clause-some c = (
  c.home-leaf.ensures.home,
  subst (λ leaf. IsAt c.args.key.now leaf c.in-Ok.place) (c.index-leaves-leaf.is ∙ get_or_default c.args.leaves.now c.home-leaf.result c.index-leaves-leaf.result [] c.home-leaf.ensures.within) c.in-Ok.ensures.found,
)

pub returns-in-Ok-clause-place : goal.returns-in-Ok-clause-place
returns-in-Ok-clause-place c = omega (arith, IsAt-in_range _ _ _ c.in-Ok.ensures.found, c.in-Ok.ensures.few)

pub returns-in-Err-clause-none : goal.returns-in-Err-clause-none
returns-in-Err-clause-none c =
    find_home c.args.key.now c.args.leaves.now c.home-leaf.result c.index-leaves-leaf.result c.home-leaf.ensures.home
    ∙ ap (find c.args.key.now) (sym c.index-leaves-leaf.is) ∙ find_gap c.args.key.now c.index-leaves-leaf.result c.in-Err.field-0 c.in-Err.ensures.absent
