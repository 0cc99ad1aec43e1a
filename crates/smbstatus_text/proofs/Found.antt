-- A map of the entries that count finds the open of a range.
use Rattle.std.proofs.Common.{◌≡◌, ℕ, ◌+◌, ◌<◌, ◌&&◌, Bool, true, false, cond, eqb, List, [], ◌∷◌, ◌++◌, length, get_or, take, find, Option, Some, None, refl, sym, ap, ◌∙◌, arith}
use Rattle.std.proofs.Math.Bool.{and-false, and-true}
use Rattle.std.proofs.lemmas.Bool.Decides.{nat_tests}
use Rattle.std.proofs.lemmas.List.{take_more}
use Rattle.std.specs.BTreeMap.{BTreeMap}
use Rattle.std.specs.List.{flat_map}
use Rattle.std.specs.Option.{option_map_or}
use Rattle.std.specs.declared.cmp.Ordering.{Ordering}
use Rattle.std.specs.declared.cmp.Ordering.TheVariants.{Less, Equal, Greater}
use Rattle.std.specs.Ordering.{is_eq, nat_cmp, ordering_then}
use Rattle.sid_core.specs.declared.ids.OpenId.{OpenId}
use Rattle.sid_core.specs.declared.setup.FileInfo.{FileInfo}
use Rattle.sid_core.specs.Ids.{same_id}
use Rattle.serial_table.specs.Keeping.{first_found, KeepsFirst}
use Rattle.record_codec.specs.declared.range_rec.RangeItem.{RangeItem}
use Rattle.record_codec.specs.declared.share_rec.ShareEntry.{ShareEntry}
use Rattle.record_codec.specs.Counts.{Records, entry_counts}
use Rattle.smbstatus_text.specs.Rows.{is_open, open_of, item_row, counted_range_row}
use Rattle.smbstatus_text.specs.Opens.{id_cmp, key_of, FindsOpens, found_range_row}

-- ---- the first of a list with one more

module _ {X : Type 0} where
  found_already : (b : Bool) (y : X) (found later rest : Option X) → rest ≡ first_found found later → cond b (Some y) rest ≡ first_found (cond b (Some y) found) later
  found_already true y found later rest e = refl
  found_already false y found later rest e = e

  find-push : (p : X → Bool) (xs : List X) (x : X) → find p (xs ++ x ∷ []) ≡ first_found (find p xs) (cond (p x) (Some x) None)
  find-push p [] x = refl
  find-push p (y ∷ ys) x = found_already (p y) y (find p ys) (cond (p x) (Some x) None) (find p (ys ++ x ∷ [])) (find-push p ys x)

  found_no_more : (o : Option X) → first_found o None ≡ o
  found_no_more (Some x) = refl
  found_no_more None = refl

-- ---- keys

cmp_eq : (a b : ℕ) → is_eq (nat_cmp a b) ≡ eqb a b
cmp_eq a b = grind (arith, nat_tests)

then_eq : (o p : Ordering) → is_eq (ordering_then o p) ≡ (is_eq o && is_eq p)
then_eq Less p = refl
then_eq Equal p = refl
then_eq Greater p = refl

key_eq : (a b : OpenId) → is_eq (id_cmp (key_of a) (key_of b)) ≡ same_id a b
key_eq a b = then_eq (nat_cmp a.pid b.pid) (nat_cmp a.call b.call) ∙ (λ i. cmp_eq a.pid b.pid i && cmp_eq a.call b.call i)

-- ---- entries

module _ (records : Records) (file : ℕ) (entries : List ShareEntry) (i : ℕ) (d : ShareEntry) (lt : i < length entries) where
  abbrev entry : ShareEntry
  entry = get_or entries i d

  more : (id : OpenId) → open_of records file (take (i + 1) entries) id ≡ first_found (open_of records file (take i entries) id) (cond (is_open records file id entry) (Some entry) None)
  more id = ap (find (is_open records file id)) (take_more entries i d lt) ∙ find-push (is_open records file id) (take i entries) entry

  -- an entry that counts comes into the map
  pub finds_counted : (old new : BTreeMap (ℕ × ℕ) ShareEntry) (key : ℕ × ℕ) → entry_counts records file entry ≡ true → key ≡ key_of entry.id → KeepsFirst id_cmp key entry old new
      → FindsOpens records file old (take i entries) → FindsOpens records file new (take (i + 1) entries)
  finds_counted old new key counts is keeps before = λ id.
      keeps (key_of id)
      ∙ (λ j. first_found (before id j) (cond ((ap (λ k. is_eq (id_cmp k (key_of id))) is ∙ key_eq entry.id id ∙ sym (and-true (same_id entry.id id)) ∙ ap (λ b. same_id entry.id id && b) (sym counts)) j) (Some entry) None))
      ∙ sym (more id)

  -- another changes nothing
  pub finds_uncounted : (map : BTreeMap (ℕ × ℕ) ShareEntry) → entry_counts records file entry ≡ false
      → FindsOpens records file map (take i entries) → FindsOpens records file map (take (i + 1) entries)
  finds_uncounted map counts before = λ id.
      before id
      ∙ sym (found_no_more (open_of records file (take i entries) id))
      ∙ ap (λ b. first_found (open_of records file (take i entries) id) (cond b (Some entry) None)) (sym (ap (λ b. same_id entry.id id && b) counts ∙ and-false (same_id entry.id id)))
      ∙ sym (more id)

-- ---- ranges

pub rows_by_map : (info : FileInfo) (records : Records) (file : ℕ) (entries : List ShareEntry) (map : BTreeMap (ℕ × ℕ) ShareEntry) → FindsOpens records file map entries
    → (ranges : List RangeItem) → flat_map (found_range_row info records file map) ranges ≡ flat_map (counted_range_row info records file entries) ranges
unfolding found_range_row
rows_by_map info records file entries map finds ranges = λ i. flat_map (λ r. option_map_or (item_row info records file r) (finds r.id i) []) ranges
