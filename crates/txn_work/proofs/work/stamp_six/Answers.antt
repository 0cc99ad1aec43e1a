use Rattle.std.specs.Prelude.{[], ◌∷◌, length}
use Rattle.std.proofs.Common.{refl, arith}
use Rattle.dbwrap_core.specs.Plain.{beside_of, shown_at}
use Rattle.stored_table.specs.Places.{chain_at}
use Rattle.chain_map.specs.Pairs.{put}
use Rattle.txn_work.specs.Stamps.{key, stamp, stamped}
use Rattle.txn_work.proofs.Deciding.{stamped_is, no_parts, one_part_more, decided, ready_again, on_ok}
use Rattle.txn_work.proofs.work.stamp_six.Goals as goal

pub by_hand-requires-clause-decided : goal.by_hand-requires-clause-decided
by_hand-requires-clause-decided g c = let k = (beside_of c.args.cells.now).chains in let ready = c.requires.ready in
    let l = ready.chains in
    decided (shown_at c.args.cells.now 0) k _ 6 _ ready.rule ready.chains (omega arith) (omega arith) refl refl refl refl (refl, (refl, (refl, (refl, (refl, (refl, tt))))))
    (one_part_more 32 (put (key 32) stamp (chain_at k 32)) ((33, put (key 33) stamp (chain_at k 33)) ∷ (34, put (key 34) stamp (chain_at k 34)) ∷ (35, put (key 35) stamp (chain_at k 35)) ∷ (36, put (key 36) stamp (chain_at k 36)) ∷ (37, put (key 37) stamp (chain_at k 37)) ∷ []) (stamped 6 k) (stamped_is 6 32 k refl (omega arith)) (one_part_more 33 (put (key 33) stamp (chain_at k 33)) ((34, put (key 34) stamp (chain_at k 34)) ∷ (35, put (key 35) stamp (chain_at k 35)) ∷ (36, put (key 36) stamp (chain_at k 36)) ∷ (37, put (key 37) stamp (chain_at k 37)) ∷ []) (stamped 6 k) (stamped_is 6 33 k refl (omega arith)) (one_part_more 34 (put (key 34) stamp (chain_at k 34)) ((35, put (key 35) stamp (chain_at k 35)) ∷ (36, put (key 36) stamp (chain_at k 36)) ∷ (37, put (key 37) stamp (chain_at k 37)) ∷ []) (stamped 6 k) (stamped_is 6 34 k refl (omega arith)) (one_part_more 35 (put (key 35) stamp (chain_at k 35)) ((36, put (key 36) stamp (chain_at k 36)) ∷ (37, put (key 37) stamp (chain_at k 37)) ∷ []) (stamped 6 k) (stamped_is 6 35 k refl (omega arith)) (one_part_more 36 (put (key 36) stamp (chain_at k 36)) ((37, put (key 37) stamp (chain_at k 37)) ∷ []) (stamped 6 k) (stamped_is 6 36 k refl (omega arith)) (one_part_more 37 (put (key 37) stamp (chain_at k 37)) ([]) (stamped 6 k) (stamped_is 6 37 k refl (omega arith)) (no_parts (stamped 6 k))))))))

pub returns : goal.returns
returns g c = let b = beside_of c.args.cells.now in let v = shown_at c.args.cells.now 0 in let e = c.by_hand.ensures in
    on_ok c.by_hand.result e.carried_out (λ out. ready_again 6 (length v.own) v (shown_at c.by_hand.new.cells 0) b (beside_of c.by_hand.new.cells) _ c.requires.ready e.same e.leaves e.idle out)
