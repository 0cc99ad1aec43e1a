-- The record of the byte ranges of a file is exact, and its sets are the named ones.
use Rattle.std.proofs.Common.{◌≡◌, ℕ, ◌+◌, ◌*◌, ◌-◌, ◌^◌, ◌<◌, ◌≤◌, ◌||◌, Bool, true, false, eqb, leb, length, refl, lit<, arith}
use Rattle.std.specs.Prelude.{◌↔◌, IsTrue, codes}
use Rattle.std.specs.List.{flat_map}
use Rattle.std.proofs.lemmas.Bool.{eqb-true, eqb-false, leb-true, le-leb}
use Rattle.std.proofs.lemmas.List.{length-append}
use Rattle.sid_core.specs.Values.{IsU64}
use Rattle.record_codec.specs.declared.range_rec.RangeItem.{RangeItem}
use Rattle.record_codec.specs.declared.range_rec.RangeRec.{RangeRec}
use Rattle.record_codec.specs.Fields.{list, watch, IsWatch}
use Rattle.record_codec.specs.RangeRec.{range_length, range_item, IsRangeItem, range_fields, range_rec, IsRangeRec}
use Rattle.record_codec.proofs.Exact.{IsExact, seq_exact, via_exact}
use Rattle.record_codec.proofs.Fields.{u32_exact, u64_exact, u64_in_exact, open_id_exact, mode_exact, list_exact, watch_exact}
use Rattle.record_codec.proofs.Sets.{mode_valid, open_id_set, watch_set, list_set}
use Rattle.record_codec.proofs.Sizes.{items_size}
use Rattle.record_codec.proofs.Stored.{stored_exact, stored_set}

pub range_item_exact : IsExact range_item
unfolding range_item
range_item_exact = via_exact _ _ _ (λ y. refl) (λ x v. refl)
    (seq_exact _ _ (open_id_exact 5 6) (λ _.
    seq_exact _ _ (u64_exact 7) (λ start.
    seq_exact _ _ (u64_in_exact 8 (range_length start)) (λ _.
    mode_exact 9))))

length_set : (start len : ℕ) → (0 < len → IsU64 (start + len - 1)) ↔ IsTrue (range_length start len)
length_set start len = (λ f. go (eqb len 0) refl f, λ h lt. back (eqb len 0) refl h lt) where
  go : (b : Bool) → eqb len 0 ≡ b → (0 < len → IsU64 (start + len - 1)) → (b || leb (start + len - 1) (2 ^ 64 - 1)) ≡ true
  go true e f = refl
  go false e f =
      let some : 0 < len = omega (arith, eqb-false _ _ e) in
      let u : start + len - 1 < 2 ^ 64 = f some in
      let most : start + len - 1 ≤ 2 ^ 64 - 1 = omega (arith, u) in
      le-leb _ _ most

  back : (b : Bool) → eqb len 0 ≡ b → (b || leb (start + len - 1) (2 ^ 64 - 1)) ≡ true → 0 < len → IsU64 (start + len - 1)
  back true e h lt = absurd (omega (arith, eqb-true _ _ e, lt))
  back false e h lt =
      let most : start + len - 1 ≤ 2 ^ 64 - 1 = leb-true _ _ h in
      omega (arith, most)

pub range_item_set : (r : RangeItem) → IsRangeItem r ↔ range_item.valid r
unfolding range_item
range_item_set r = (
  λ i. ((open_id_set 5 6 r.id).0 i.id, ((i.start, refl), ((i.length, (length_set r.start r.length).0 i.last), mode_valid 9 r.mode))),
  λ v. record { id = (open_id_set 5 6 r.id).1 v.0; start = v.1.0.0; length = v.1.1.0.0; last = (length_set r.start r.length).1 v.1.1.0.1 },
)

pub range_item_size : (r : RangeItem) → length (range_item.spell r) ≡ 25
unfolding range_item
range_item_size r = refl

range_fields_exact : IsExact range_fields
unfolding range_fields
range_fields_exact = via_exact _ _ _ (λ y. refl) (λ x v. refl)
    (seq_exact _ _ (u32_exact 3) (λ _.
    seq_exact _ _ (list_exact 4 range_item range_item_exact) (λ _.
    list_exact 10 _ (watch_exact 11 12 13))))

pub range_exact : IsExact range_rec
range_exact = stored_exact (codes "BRLK") 1 1 (λ _. range_fields) (λ _. range_fields_exact)

pub range_fields_set : (r : RangeRec) → IsRangeRec r ↔ range_fields.valid r
unfolding range_fields
range_fields_set r =
    let ranges = list_set 4 range_item IsRangeItem range_item_set r.ranges in
    let watchers = list_set 10 (watch 11 12 13) IsWatch (watch_set 11 12 13) r.watchers in (
      λ i. ((i.file, refl), (ranges.0 i.ranges, watchers.0 i.watchers)),
      λ v. record { file = v.0.0; ranges = ranges.1 v.1.0; watchers = watchers.1 v.1.1 },
    )

pub range_set : (r : RangeRec) → IsRangeRec r ↔ range_rec.valid (1, r)
range_set r = stored_set (codes "BRLK") 1 1 1 (λ _. range_fields) IsRangeRec (lit< tt) (lit< tt) refl range_fields_set r

pub range_size : (r : RangeRec) → length (range_fields.spell r) ≡ 12 + 25 * length r.ranges + 12 * length r.watchers
unfolding range_fields
range_size r =
    let a = items_size range_item.spell 25 range_item_size r.ranges in
    let b = items_size (watch 0 0 0).spell 12 (λ w. refl) r.watchers in
    omega (arith, length-append (flat_map range_item.spell r.ranges) ((list 10 (watch 0 0 0)).spell r.watchers), a, b)
