-- What is found in a record is what a table finds that has the ranges that count.
use Rattle.std.proofs.Common.{◌≡◌, ◌&&◌, ◌||◌, ℕ, Bool, true, false, cond, List, [], ◌∷◌, filter, map, find, Option, Some, None, refl, ap, sym, ◌∙◌}
use Rattle.std.proofs.Math.Bool.{and-false, and-true}
use Rattle.std.specs.Option.{option_map}
use Rattle.std.specs.List.{list_any}
use Rattle.sid_core.specs.declared.ids.OpenId.{OpenId}
use Rattle.sid_core.specs.declared.call.Span.{Span}
use Rattle.sid_core.specs.declared.call.Mode.{Mode}
use Rattle.sid_core.specs.Ids.{same_id}
use Rattle.serial_table.specs.declared.rows.OpenRow.{OpenRow}
use Rattle.serial_table.specs.declared.rows.RangeRow.{RangeRow}
use Rattle.serial_table.specs.File.{FileView}
use Rattle.serial_table.specs.Range.{range_conflict}
use Rattle.serial_table.specs.ReadWrite.{forbids_read, forbids_write}
use Rattle.serial_table.proofs.Finding.{find-of_map, find-of_filter}
use Rattle.record_codec.specs.declared.range_rec.RangeItem.{RangeItem}
use Rattle.record_codec.specs.declared.share_rec.ShareEntry.{ShareEntry}
use Rattle.record_codec.specs.declared.share_rec.ShareRec.{ShareRec}
use Rattle.record_codec.specs.Counts.{Records, entry_counts, entry_of_id_counts, range_counts}
use Rattle.record_rows.specs.Rows.{range_row}
use Rattle.brlock.specs.Ranges.{counted_ranges, AreValid, valid_ids, AsksAmong}
use Rattle.brlock.specs.Answer.{forbids}
use Rattle.brlock.specs.Scans.{open_with, is_valid, is_in_the_way, item_forbids, is_forbidding}

find_alike : {X : Type 0} (p q : X → Bool) → ((x : X) → p x ≡ q x) → (xs : List X) → find p xs ≡ find q xs
find_alike p q h [] = refl
find_alike p q h (x ∷ xs) = ap (λ b. cond b (Some x) (find p xs)) (h x) ∙ ap (cond (q x) (Some x)) (find_alike p q h xs)

-- ---- which opens count

any_in_ids : (id : OpenId) (b : Bool) (e : ShareEntry) (es : List ShareEntry) (c : Bool) → list_any (λ v. same_id v id) (map (λ (e : ShareEntry). e.id) es) ≡ c
    → list_any (λ v. same_id v id) (map (λ (e : ShareEntry). e.id) (cond b (e ∷ es) es)) ≡ ((same_id e.id id && b) || c)
any_in_ids id true e es c more = ap (λ d. same_id e.id id || d) more ∙ ap (λ d. d || c) (sym (and-true (same_id e.id id)))
any_in_ids id false e es c more = more ∙ ap (λ d. d || c) (sym (and-false (same_id e.id id)))

ids_of_counted : (records : Records) (file : ℕ) (id : OpenId) (es : List ShareEntry)
    → list_any (λ v. same_id v id) (map (λ (e : ShareEntry). e.id) (filter (entry_counts records file) es)) ≡ list_any (λ e. same_id e.id id && entry_counts records file e) es
ids_of_counted records file id [] = refl
ids_of_counted records file id (e ∷ es) =
    any_in_ids id (entry_counts records file e) e (filter (entry_counts records file) es) (list_any (λ e. same_id e.id id && entry_counts records file e) es) (ids_of_counted records file id es)

pub ids_are_valid : (records : Records) (file : ℕ) (share : ShareRec) → records.share file ≡ Some share → AreValid records file (valid_ids records file share)
ids_are_valid records file share is = λ id. ids_of_counted records file id share.entries ∙ ap (entry_of_id_counts records file id) (sym is)

-- ---- what is found

module _ (records : Records) (file : ℕ) (valid : List OpenId) (are : AreValid records file valid) (ranges : List RangeItem) where
  pub found : (p : RangeRow → Bool) → find p (counted_ranges records file ranges) ≡ option_map (range_row file) (find (λ r. is_valid valid r.id && p (range_row file r)) ranges)
  found p =
      find-of_map p (range_row file) (filter (range_counts records file) ranges)
      ∙ ap (option_map (range_row file)) (find-of_filter (λ r. p (range_row file r)) (range_counts records file) ranges
      ∙ find_alike (λ r. range_counts records file r && p (range_row file r)) (λ r. is_valid valid r.id && p (range_row file r)) (λ r. ap (λ b. b && p (range_row file r)) (sym (are r.id))) ranges)

id_of_row : (file : ℕ) (o : Option RangeItem) → option_map (λ (held : RangeRow). held.id) (option_map (range_row file) o) ≡ option_map (λ (r : RangeItem). r.id) o
id_of_row file None = refl
id_of_row file (Some r) = refl

module _ (records : Records) (file : ℕ) (valid : List OpenId) (ranges : List RangeItem) (id : OpenId) (f : FileView) (open_row : OpenRow) (asks : AsksAmong records file valid ranges id f open_row) where
  pub conflict_found : (span : Span) (mode : Mode) → find (λ held. range_conflict held open_row.id span mode) f.ranges ≡ option_map (range_row file) (find (is_in_the_way valid id span mode) ranges)
  conflict_found span mode =
      ap (find (λ held. range_conflict held open_row.id span mode)) asks.before.ranges_are
      ∙ found records file valid asks.valid_are ranges (λ held. range_conflict held open_row.id span mode)
      ∙ ap (λ x. option_map (range_row file) (find (is_in_the_way valid x span mode) ranges)) asks.before.id_is

  pub conflict_named : (span : Span) (mode : Mode) → option_map (λ (r : RangeItem). r.id) (find (is_in_the_way valid id span mode) ranges) ≡ option_map (λ (held : RangeRow). held.id) (find (λ held. range_conflict held open_row.id span mode) f.ranges)
  conflict_named span mode = sym (ap (option_map (λ (held : RangeRow). held.id)) (conflict_found span mode) ∙ id_of_row file (find (is_in_the_way valid id span mode) ranges))

  row_forbids : (span : Span) (write : Bool) (r : RangeItem) → forbids open_row span write (range_row file r) ≡ item_forbids id span write r
  row_forbids span true r = ap (λ x. forbids_write (open_with x) span (range_row 0 r)) asks.before.id_is
  row_forbids span false r = ap (λ x. forbids_read (open_with x) span (range_row 0 r)) asks.before.id_is

  pub forbidding_found : (span : Span) (write : Bool) → find (forbids open_row span write) f.ranges ≡ option_map (range_row file) (find (is_forbidding valid id span write) ranges)
  forbidding_found span write =
      ap (find (forbids open_row span write)) asks.before.ranges_are
      ∙ found records file valid asks.valid_are ranges (forbids open_row span write)
      ∙ ap (option_map (range_row file)) (find_alike (λ r. is_valid valid r.id && forbids open_row span write (range_row file r)) (is_forbidding valid id span write) (λ r. ap (λ b. is_valid valid r.id && b) (row_forbids span write r)) ranges)

  pub forbidding_named : (span : Span) (write : Bool) → option_map (λ (r : RangeItem). r.id) (find (is_forbidding valid id span write) ranges) ≡ option_map (λ (held : RangeRow). held.id) (find (forbids open_row span write) f.ranges)
  forbidding_named span write = sym (ap (option_map (λ (held : RangeRow). held.id)) (forbidding_found span write) ∙ id_of_row file (find (is_forbidding valid id span write) ranges))
