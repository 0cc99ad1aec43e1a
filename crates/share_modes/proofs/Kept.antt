-- A share mode record keeps its sets, and its rows go as the table's do.
use Rattle.std.proofs.Common.{◌≡◌, ℕ, ◌+◌, ◌<◌, ◌≤◌, ◌^◌, Bool, cond, ◌&&◌, not, List, [], ◌∷◌, ◌++◌, length, filter, map, refl, sym, ap, ◌∙◌, arith, eq-eqb}
use Rattle.std.specs.List.{AllByRecursion}
use Rattle.sid_core.specs.declared.ids.OpenId.{OpenId}
use Rattle.sid_core.specs.Ids.{same_id}
use Rattle.serial_table.specs.Change.{is_other_open}
use Rattle.record_codec.specs.declared.share_rec.ShareEntry.{ShareEntry}
use Rattle.record_codec.specs.declared.share_rec.ShareRec.{ShareRec}
use Rattle.record_codec.specs.ShareRec.{IsShareEntry, IsShareRec}
use Rattle.record_rows.specs.Rows.{open_row}
use Rattle.share_modes.specs.Entries.{with_entry, other_open, without_open}
use Rattle.serial_table.proofs.Counting.{length_filtered}
use Rattle.leases_db.proofs.Lists.{all_kept}
use Rattle.share_modes.proofs.InTheWay.{filtered_in_map}

module _ {X : Type 0} where
  all_with : (P : X → Type 0) (xs : List X) (x : X) → AllByRecursion P xs → P x → AllByRecursion P (xs ++ x ∷ [])
  all_with P [] x h k = (k, tt)
  all_with P (y ∷ ys) x h k = (h.0, all_with P ys x h.1 k)

  one_more : (xs : List X) (x : X) → length (xs ++ x ∷ []) ≡ length xs + 1
  one_more [] x = refl
  one_more (y ∷ ys) x = let h : length (ys ++ x ∷ []) ≡ length ys + 1 = one_more ys x in omega arith

pub with_entry_keeps : (entry : ShareEntry) (rec : ShareRec) → IsShareRec rec → IsShareEntry entry → length rec.entries + 1 < 2 ^ 32 → IsShareRec (with_entry entry rec)
with_entry_keeps entry rec sets is few = record {
  file = sets.file;
  path = sets.path;
  name = sets.name;
  watchers = sets.watchers;
  entries = record {
    few = let n : length (rec.entries ++ entry ∷ []) ≡ length rec.entries + 1 = one_more rec.entries entry in omega arith;
    each = all_with IsShareEntry rec.entries entry sets.entries.each is;
  };
}

pub without_open_keeps : (id : OpenId) (rec : ShareRec) → IsShareRec rec → IsShareRec (without_open id rec)
without_open_keeps id rec sets = record {
  file = sets.file;
  path = sets.path;
  name = sets.name;
  watchers = sets.watchers;
  entries = record {
    few = let n : length (filter (other_open id) rec.entries) ≤ length rec.entries = length_filtered (other_open id) rec.entries in let m : length rec.entries < 2 ^ 32 = sets.entries.few in omega arith;
    each = all_kept IsShareEntry (other_open id) rec.entries sets.entries.each;
  };
}

other_row : (file : ℕ) (id : OpenId) (e : ShareEntry) → is_other_open file id (open_row file e) ≡ other_open id e
other_row file id e = ap (λ b. not (b && same_id e.id id)) (eq-eqb file file refl)

same_filter : {X : Type 0} (p q : X → Bool) (xs : List X) → ((x : X) → p x ≡ q x) → filter p xs ≡ filter q xs
same_filter p q [] h = refl
same_filter p q (x ∷ xs) h = λ i. cond (h x i) (x ∷ same_filter p q xs h i) (same_filter p q xs h i)

-- its rows are those that the table keeps where the open goes
pub rows_without : (file : ℕ) (id : OpenId) (entries : List ShareEntry)
    → map (open_row file) (filter (other_open id) entries) ≡ filter (is_other_open file id) (map (open_row file) entries)
rows_without file id entries =
    ap (map (open_row file)) (same_filter (other_open id) (λ e. is_other_open file id (open_row file e)) entries (λ e. sym (other_row file id e)))
    ∙ sym (filtered_in_map (open_row file) (is_other_open file id) entries)
