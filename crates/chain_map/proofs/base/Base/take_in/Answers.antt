use Rattle.std.proofs.Common.{◌≡◌, ℕ, Bool, true, false, not, List, set, refl, ap, subst, sym, ◌∙◌}
use Rattle.std.proofs.lemmas.List.{set-get_or}
use Rattle.chain_map.specs.Pairs.{IsRising, put}
use Rattle.chain_map.specs.Place.{pair_at}
use Rattle.chain_map.specs.Leaves.{joined, has_pairs, IsFilled, IsHome}
use Rattle.chain_map.specs.Laid.{laid}
use Rattle.chain_map.proofs.Order.{IsRising-put}
use Rattle.chain_map.proofs.Place.{pair_at_from}
use Rattle.chain_map.proofs.Homes.{put_home, IsFilled-set, has_pairs-put}
use Rattle.chain_map.proofs.Laid.{laid_moved}
use Rattle.chain_map.proofs.base.Base.take_in.Goals as goal

-- the leaf is the home of the pair's key
home_is : (c : goal.After-self-1) → IsHome (pair_at c.args.over.now c.args.at).0 c.self.inside.leaves.items c.home-home.result
home_is c =
    let key : c.key.result.now ≡ (pair_at c.args.over.now c.args.at).0 = c.key.ensures ∙ ap (λ (pair : List ℕ × List ℕ). pair.0) (pair_at_from _ _ _ _ c.as_slice-2.ensures.pairs c.requires c.index-as_slice-at.is) in
    subst (λ key. IsHome key c.self.inside.leaves.items c.home-home.result) key
    (subst (λ leaves. IsHome c.key.result.now leaves c.home-home.result) c.as_slice.ensures.value c.home-home.ensures.home)

moved : (c : goal.After-self-1) → c.take_in.result ≡ true →
    joined (set c.self.inside.leaves.items c.home-home.result c.take_in.new.self) ≡ put (pair_at c.args.over.now c.args.at).0 (pair_at c.args.over.now c.args.at).1 (joined c.self.inside.leaves.items)
moved c e =
    let pair = pair_at c.args.over.now c.args.at in
    put_home pair.0 pair.1 c.self.inside.leaves.items c.home-home.result c.index_mut.result.now c.take_in.new.self (home_is c)
    (c.take_in.ensures.moved e ∙ ap (put pair.0 pair.1) c.index_mut.ensures.value)

left : (c : goal.After-self-1) → c.take_in.result ≡ false → set c.self.inside.leaves.items c.home-home.result c.take_in.new.self ≡ c.self.inside.leaves.items
left c e =
    ap (set c.self.inside.leaves.items c.home-home.result) (c.take_in.ensures.left (ap not e) ∙ c.index_mut.ensures.value)
    ∙ set-get_or c.self.inside.leaves.items c.home-home.result c.index_mut.result.now

pub invariant_of-self : goal.invariant_of-self
invariant_of-self c = go c.take_in.result refl
  where
    go : (b : Bool) → c.take_in.result ≡ b →
        IsRising (joined (set c.self.inside.leaves.items c.home-home.result c.take_in.new.self)) × IsFilled (set c.self.inside.leaves.items c.home-home.result c.take_in.new.self)
    go true e =
        let pair = pair_at c.args.over.now c.args.at in
        let some : has_pairs c.take_in.new.self ≡ true = subst (λ leaf. has_pairs leaf ≡ true) (sym (c.take_in.ensures.moved e)) (has_pairs-put pair.0 pair.1 c.index_mut.result.now) in
        (subst IsRising (sym (moved c e)) (IsRising-put pair.0 pair.1 (joined c.self.inside.leaves.items) c.self.invariant.0), IsFilled-set c.self.inside.leaves.items c.home-home.result c.take_in.new.self c.self.invariant.1 some)
    go false e = (subst (λ leaves. IsRising (joined leaves)) (sym (left c e)) c.self.invariant.0, subst IsFilled (sym (left c e)) c.self.invariant.1)

pub returns-clause-same : goal.returns-clause-same
returns-clause-same c = go c.take_in.result refl ∙ ap (λ leaves. laid c.args.over.now (joined leaves)) c.self.view_is
  where
    go : (b : Bool) → c.take_in.result ≡ b →
        laid c.take_in.new.other (joined (set c.self.inside.leaves.items c.home-home.result c.take_in.new.self)) ≡ laid c.args.over.now (joined c.self.inside.leaves.items)
    go true e = (λ i. laid (c.take_in.ensures.taken e i) (moved c e i)) ∙ laid_moved c.args.over.now (joined c.self.inside.leaves.items) c.args.at c.as_slice-2.ensures.rising c.self.invariant.0 c.requires
    go false e = λ i. laid (c.take_in.ensures.kept (ap not e) i) (joined (left c e i))
