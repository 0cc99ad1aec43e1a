use Rattle.std.proofs.Common.{◌≡◌, List, length, get_or, sym, ap, subst, ◌∙◌, arith}
use Rattle.record_txn.specs.Hand.{place_of}
use Rattle.record_txn.specs.declared.hand.Held.{Held}
use Rattle.record_txn.proofs.Hands.{place_within, found, chain_is}
use Rattle.record_txn.proofs.hand.chain_in.Goals as goal

pub index-requires : goal.index-requires
index-requires c = let slice = c.as_slice.ensures in let r = c.requires in
    omega (arith, place_within c.args.number c.place_of-place.result r.0 c.args.hand.now.items (c.place_of-place.ensures ∙ ap (place_of c.args.number) slice.value) r.1, slice.len, ap (λ (t : List Held). length t) slice.value)

pub returns : goal.returns
returns c = let r = c.requires in let items = c.args.hand.now.items in let h = c.index.result.now in let at = c.place_of-place.ensures ∙ ap (place_of c.args.number) c.as_slice.ensures.value in
    ap (λ (k : Held). k.chain) (subst (λ k. h ≡ get_or items k h) at c.index.ensures) ∙ (found c.args.number r.0 items h r.1).2 ∙ sym (chain_is c.args.number r.0 items r.1)
