-- The record of a lease is exact, and its sets are the named ones.
use Rattle.std.proofs.Common.{◌≡◌, ℕ, ◌+◌, ◌*◌, ◌^◌, ◌<◌, Bool, true, false, leb, length, refl, lit<, arith}
use Rattle.std.specs.Prelude.{◌↔◌, codes}
use Rattle.std.proofs.lemmas.Bool.{eqb-true, eq-eqb, leb-true, le-leb}
use Rattle.sid_core.specs.Values.{is_part_of}
use Rattle.record_codec.specs.declared.lease_rec.LeaseRef.{LeaseRef}
use Rattle.record_codec.specs.declared.lease_rec.LeaseRec.{LeaseRec}
use Rattle.record_codec.specs.Fields.{u64_in, is_proper_part_of, lowered}
use Rattle.record_codec.specs.LeaseRec.{lease_ref, IsLeaseRef, needed, expires, IsExpiry, lease_fields, lease_rec, IsLeaseRec}
use Rattle.record_codec.proofs.Exact.{IsExact, seq_exact, via_exact}
use Rattle.record_codec.proofs.Fields.{both, u32_exact, u64_in_exact, truth_exact, state_exact, state_in_exact, open_id_exact, sid_exact, list_exact}
use Rattle.record_codec.proofs.Sets.{and, states, truth_valid, open_id_set, sid_set, list_set, state_in_set, by_break}
use Rattle.record_codec.proofs.Sizes.{items_size}
use Rattle.record_codec.proofs.Stored.{stored_exact, stored_set}

pub lease_ref_exact : IsExact lease_ref
unfolding lease_ref
lease_ref_exact = via_exact _ _ _ (λ y. refl) (λ x v. refl)
    (seq_exact _ _ (open_id_exact 10 11) (λ _.
    seq_exact _ _ (sid_exact 12 13) (λ _.
    u32_exact 14)))

pub lease_ref_set : (r : LeaseRef) → IsLeaseRef r ↔ lease_ref.valid r
unfolding lease_ref
lease_ref_set r = (
  λ i. ((open_id_set 10 11 r.id).0 i.id, ((sid_set 12 13 r.owner).0 i.owner, (i.durable, refl))),
  λ v. record { id = (open_id_set 10 11 r.id).1 v.0; owner = (sid_set 12 13 r.owner).1 v.1.0; durable = v.1.1.0 },
)

pub lease_ref_size : (r : LeaseRef) → length (lease_ref.spell r) ≡ 20
unfolding lease_ref
lease_ref_size r = refl

lease_fields_exact : IsExact lease_fields
unfolding lease_fields
lease_fields_exact = via_exact _ _ _ (λ y. refl) (λ x v. refl)
    (seq_exact _ _ (u32_exact 3) (λ _.
    seq_exact _ _ (state_exact 4) (λ held.
    seq_exact _ _ (truth_exact 5) (λ breaking.
    seq_exact _ _ (state_in_exact 6 (lowered breaking held)) (λ asked.
    seq_exact _ _ (state_in_exact 7 (needed breaking asked)) (λ _.
    seq_exact _ _ (u64_in_exact 8 (expires breaking)) (λ _.
    list_exact 9 lease_ref lease_ref_exact)))))))

pub lease_exact : IsExact lease_rec
lease_exact = stored_exact (codes "LEAS") 2 2 (λ _. lease_fields) (λ _. lease_fields_exact)

expiry_set : (field : ℕ) (breaking : Bool) (n : ℕ) → (breaking ≡ false → n ≡ 0) × (breaking ≡ true → IsExpiry n) ↔ (u64_in field (expires breaking)).valid n
expiry_set field false n = (
  λ p. let zero : n ≡ 0 = p.0 refl in (omega (arith, zero), eq-eqb n 0 zero),
  λ v. (λ e. eqb-true n 0 v.1, λ e. absurd cc),
)
expiry_set field true n = (
  λ p.
      let i = p.1 refl in
      let small : n < 256 ^ 8 = omega (arith, i.last) in
      (small, and (leb 35 n) (leb n 10000000034) (le-leb _ _ i.first) (le-leb _ _ i.last)),
  λ v.
      let p = both (leb 35 n) (leb n 10000000034) v.1 in
      (λ e. absurd cc, λ e. record { first = leb-true _ _ p.0; last = leb-true _ _ p.1 }),
)

pub lease_fields_set : (r : LeaseRec) → IsLeaseRec r ↔ lease_fields.valid r
unfolding lease_fields
lease_fields_set r =
    let asked = by_break r.breaking r.asked.0 (is_proper_part_of r.asked.0 r.held.0) in
    let last = by_break r.breaking r.needed.0 (is_part_of r.needed.0 r.asked.0) in
    let asked_in = state_in_set 6 (lowered r.breaking r.held) r.asked in
    let needed_in = state_in_set 7 (needed r.breaking r.asked) r.needed in
    let until = expiry_set 8 r.breaking r.until in
    let refs = list_set 9 lease_ref IsLeaseRef lease_ref_set r.refs in (
      λ i. (
        (i.file, refl),
        (
          (states 4 r.held).1 i.held,
          (
            truth_valid 5 r.breaking,
            (
              asked_in.0 (i.asked, asked.0 (i.unbroken_asked, i.broken_asked)),
              (
                needed_in.0 (i.needed, last.0 (i.unbroken_needed, i.broken_needed)),
                (until.0 (i.unbroken_until, i.broken_until), refs.0 i.refs),
              ),
            ),
          ),
        ),
      ),
      λ v. record {
        file = v.0.0;
        held = (states 4 r.held).0 v.1.0;
        asked = (asked_in.1 v.1.1.1.0).0;
        needed = (needed_in.1 v.1.1.1.1.0).0;
        unbroken_asked = (asked.1 (asked_in.1 v.1.1.1.0).1).0;
        unbroken_needed = (last.1 (needed_in.1 v.1.1.1.1.0).1).0;
        broken_asked = (asked.1 (asked_in.1 v.1.1.1.0).1).1;
        broken_needed = (last.1 (needed_in.1 v.1.1.1.1.0).1).1;
        unbroken_until = (until.1 v.1.1.1.1.1.0).0;
        broken_until = (until.1 v.1.1.1.1.1.0).1;
        refs = refs.1 v.1.1.1.1.1.1;
      },
    )

pub lease_set : (r : LeaseRec) → IsLeaseRec r ↔ lease_rec.valid (2, r)
lease_set r = stored_set (codes "LEAS") 2 2 2 (λ _. lease_fields) IsLeaseRec (lit< tt) (lit< tt) refl lease_fields_set r

pub lease_size : (r : LeaseRec) → length (lease_fields.spell r) ≡ 20 + 20 * length r.refs
unfolding lease_fields
lease_size r = let a = items_size lease_ref.spell 20 lease_ref_size r.refs in omega (arith, a)
