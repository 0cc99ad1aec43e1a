use Rattle.std.proofs.Common.{◌≡◌, ◌<◌, true, [], get_or, ap, subst, sym, arith, length, ◌∙◌}
use Rattle.std.proofs.lemmas.List.{get_or_default}
use Rattle.chain_map.specs.Pairs.{IsRising}
use Rattle.chain_map.specs.Leaves.{joined, has_pairs, both}
use Rattle.chain_map.proofs.Homes.{filled_at, joined_spliced, length-spliced, IsFilled-spliced}
use Rattle.chain_map.proofs.base.Base.open.Goals as goal

pub index-requires : goal.index-requires
index-requires c = omega (arith, c.home-home.ensures.within, ap length c.as_slice.ensures.value)

pub opened-requires : goal.opened-requires
opened-requires c =
    let within : c.home-home.result < length c.self.inside.leaves.items = omega (arith, c.home-home.ensures.within, ap length c.as_slice.ensures.value) in
    subst (λ leaf. has_pairs leaf ≡ true) (sym c.index.ensures) (filled_at c.self.inside.leaves.items c.home-home.result c.index.result.now c.self.invariant.1 within)

pub splice-requires : goal.splice-requires
splice-requires c = omega (arith, c.home-home.ensures.within, ap length c.as_slice.ensures.value)

same : (c : goal.In_ok-splice) → joined c.splice.new.leaves.items ≡ joined c.self.inside.leaves.items
same c =
    let leaves = c.self.inside.leaves.items in
    let within : c.home-home.result < length leaves = omega (arith, c.home-home.ensures.within, ap length c.as_slice.ensures.value) in
    let is : both c.in_ok-leaf.leaf c.in_ok-leaf.next ≡ get_or leaves c.home-home.result [] = c.in_ok-leaf.ensures.pairs ∙ c.index.ensures ∙ get_or_default leaves c.home-home.result c.index.result.now [] within in
    ap joined c.in_ok-splice.ensures.ok ∙ joined_spliced leaves c.home-home.result c.in_ok-leaf.leaf c.in_ok-leaf.next within is

pub returns-clause-pairs : goal.returns-clause-pairs
returns-clause-pairs c = same c ∙ ap joined c.self.view_is

pub returns-clause-len : goal.returns-clause-len
returns-clause-len c =
    let leaves = c.self.inside.leaves.items in
    let within : c.home-home.result < length leaves = omega (arith, c.home-home.ensures.within, ap length c.as_slice.ensures.value) in
    omega (arith, ap length c.in_ok-splice.ensures.ok, length-spliced leaves c.home-home.result c.in_ok-leaf.leaf c.in_ok-leaf.next within, ap length c.self.view_is)

pub invariant_of-self : goal.invariant_of-self
invariant_of-self c = rw c.in_err-splice.ensures.err c.self.invariant

pub invariant_of-self-2 : goal.invariant_of-self-2
invariant_of-self-2 c = (
  subst IsRising (sym (same c)) c.self.invariant.0,
  rw c.in_ok-splice.ensures.ok (IsFilled-spliced c.self.inside.leaves.items c.home-home.result c.in_ok-leaf.leaf c.in_ok-leaf.next c.self.invariant.1 c.in_ok-leaf.ensures.filled),
)
