use Rattle.std.proofs.Common.{◌≡◌, true, List, ℕ, refl, ap, subst, sym, arith, length, ◌∙◌}
use Rattle.std.specs.Prelude.{is_ok}
use Rattle.std.specs.List.{insert}
use Rattle.chain_map.specs.Pairs.{IsRising, put}
use Rattle.chain_map.specs.Place.{IsAt, IsGap, pair_at}
use Rattle.chain_map.proofs.Order.{IsRising-put}
use Rattle.chain_map.proofs.Place.{IsAt-in_range, IsGap-in_range, set_at, insert_gap, pair_at_from}
use Rattle.chain_map.proofs.sorted.Sorted.take_in.Goals as goal

pub index_mut-requires : goal.index_mut-requires
index_mut-requires c = omega (arith, IsAt-in_range _ _ _ c.in-Ok.ensures.found, ap length c.self.view_is)

pub insert-requires : goal.insert-requires
insert-requires c = omega (arith, IsGap-in_range _ _ _ c.in-Err.ensures.absent, ap length c.self.view_is)

-- the key's pair is written over
pub returns-in-Ok-clause-moved : goal.returns-in-Ok-clause-moved
returns-in-Ok-clause-moved c t =
    let moved = pair_at c.args.other.now c.args.at in
    let key : c.key.result.now ≡ moved.0 = c.key.ensures ∙ ap (λ (pair : List ℕ × List ℕ). pair.0) (pair_at_from _ _ _ _ c.as_slice.ensures.pairs c.requires c.index-as_slice-at.is) in
    let at : IsAt moved.0 c.args.self.now c.in-Ok.place = subst (λ key. IsAt key c.args.self.now c.in-Ok.place) key c.in-Ok.ensures.found in
    rw (c.self.view_is, c.take.ensures.pair) (set_at moved.0 moved.1 c.args.self.now c.in-Ok.place at)

pub invariant_of-self : goal.invariant_of-self
invariant_of-self c =
    let moved = pair_at c.args.other.now c.args.at in
    subst IsRising (sym (returns-in-Ok-clause-moved c refl)) (IsRising-put moved.0 moved.1 c.args.self.now (subst IsRising c.self.view_is c.self.invariant))

-- the pair is put into the gap
moved_in : (c : goal.Joined-insert) → c.insert.new.self.items ≡ put (pair_at c.args.other.now c.args.at).0 (pair_at c.args.other.now c.args.at).1 c.args.self.now
moved_in c =
    let moved = pair_at c.args.other.now c.args.at in
    let key : c.key.result.now ≡ moved.0 = c.key.ensures ∙ ap (λ (pair : List ℕ × List ℕ). pair.0) (pair_at_from _ _ _ _ c.as_slice.ensures.pairs c.requires c.index-as_slice-at.is) in
    let gap : IsGap moved.0 c.args.self.now c.in-Err.place = subst (λ key. IsGap key c.args.self.now c.in-Err.place) key c.in-Err.ensures.absent in
    let done : is_ok c.insert.result ≡ true = c.insert.ensures.succeeds (omega (arith, c.if-len-capacity.true, c.len-len.ensures, c.capacity.ensures)) in
    let now : c.insert.new.self.items ≡ insert c.self.inside.pairs.items c.in-Err.place c.take-pair.result = rw done at c.insert.ensures.items in
    rw (now, c.self.view_is, c.take-pair.ensures.pair) (insert_gap moved.0 moved.1 c.args.self.now c.in-Err.place gap)

pub returns-then-len-capacity-clause-moved : goal.returns-then-len-capacity-clause-moved
returns-then-len-capacity-clause-moved c t = moved_in c

pub invariant_of-self-then-len-capacity : goal.invariant_of-self-then-len-capacity
invariant_of-self-then-len-capacity c =
    let moved = pair_at c.args.other.now c.args.at in
    subst IsRising (sym (moved_in c)) (IsRising-put moved.0 moved.1 c.args.self.now (subst IsRising c.self.view_is c.self.invariant))
