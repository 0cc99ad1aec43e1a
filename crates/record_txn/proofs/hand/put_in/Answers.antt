use Rattle.std.proofs.Common.{List, length, ap, ◌∙◌, arith}
use Rattle.chain_map.specs.Pairs.{put}
use Rattle.record_txn.specs.Hand.{place_of}
use Rattle.record_txn.specs.declared.hand.Held.{Held}
use Rattle.record_txn.proofs.Hands.{place_within, edited}
use Rattle.record_txn.proofs.hand.put_in.Goals as goal

pub index_mut-held-requires : goal.index_mut-held-requires
index_mut-held-requires c = let slice = c.as_slice.ensures in let r = c.requires in
    omega (arith, place_within c.args.number c.place_of-place.result r.0 c.args.hand.now.items (c.place_of-place.ensures ∙ ap (place_of c.args.number) slice.value) r.1, slice.len, ap (λ (t : List Held). length t) slice.value)

pub returns-clause-ok : goal.returns-clause-ok
returns-clause-ok c = let r = c.requires in
    edited (put c.args.key.items c.args.value.items) c.args.number c.place_of-place.result c.put.new.self r.0 c.args.hand.now.items c.index_mut-held.result.now (c.place_of-place.ensures ∙ ap (place_of c.args.number) c.as_slice.ensures.value) r.1 c.index_mut-held.ensures.value c.in_ok-put.ensures.ok
