use Rattle.std.proofs.Common.{◌≡◌, set, ap, subst, sym, arith, length, ◌∙◌}
use Rattle.std.proofs.lemmas.List.{set-get_or}
use Rattle.chain_map.specs.Pairs.{IsRising}
use Rattle.chain_map.specs.Leaves.{joined, IsFilled}
use Rattle.chain_map.proofs.base.Base.grow.Goals as goal

pub index_mut-requires : goal.index_mut-requires
index_mut-requires c = omega (arith, c.home-home.ensures.within, ap length c.as_slice.ensures.value)

left : (c : goal.After-self-1) → set c.self.inside.leaves.items c.home-home.result c.grow.new.self ≡ c.self.inside.leaves.items
left c =
    ap (set c.self.inside.leaves.items c.home-home.result) (c.grow.ensures ∙ c.index_mut.ensures.value)
    ∙ set-get_or c.self.inside.leaves.items c.home-home.result c.index_mut.result.now

pub invariant_of-self : goal.invariant_of-self
invariant_of-self c = (subst (λ leaves. IsRising (joined leaves)) (sym (left c)) c.self.invariant.0, subst IsFilled (sym (left c)) c.self.invariant.1)

pub returns : goal.returns
returns c = left c ∙ c.self.view_is
