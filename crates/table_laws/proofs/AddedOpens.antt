-- Open records where an entry adds one under a pid and a number that no open has yet.
use Rattle.std.proofs.Common.{◌≡◌, ℕ, ◌<◌, ◌^◌, true, false, cond, List, [], ◌∷◌, ◌++◌, drop, Some, None, refl, sym, ap, ◌∙◌, inl, inr, ◌⊎◌, arith}
use Rattle.std.specs.List.{AllByRecursion}
use Rattle.std.specs.Option.{option_and_then}
use Rattle.std.proofs.lemmas.Bool.{and_from, and_right, false_from_ne_true, lt-ltb}
use Rattle.byteorder.specs.Endian.{big_bytes, big_number}
use Rattle.byteorder.specs.Numbers.{big_number-reads_back}
use Rattle.sid_core.specs.declared.setup.Setup.{Setup}
use Rattle.serial_table.specs.declared.rows.OpenRow.{OpenRow}
use Rattle.serial_table.specs.declared.table.Table.{Table}
use Rattle.serial_table.specs.View.{view, is_of_file, has_id}
use Rattle.serial_table.specs.InSets.{IsInSets, IsOpenRow}
use Rattle.serial_table.specs.Sound.{IsSound, AreBelow}
use Rattle.serial_table.proofs.SameIds.{same_id-refl}
use Rattle.serial_table.proofs.Members.{IsIn, all_of, all_by, in_filter, passes_in}
use Rattle.chain_map.specs.declared.db.Db.TheVariants as db
use Rattle.record_codec.specs.declared.open_rec.OpenRec.{OpenRec}
use Rattle.stored_table.specs.Keys.{fitting, open_key, is_key}
use Rattle.stored_table.specs.Places.{Place, place, same_place, among}
use Rattle.stored_table.specs.Decoded.{AllRecords}
use Rattle.stored_table.specs.Exact.{is_empty}
use Rattle.stored_table.specs.Moved.{if_still_open, moved_open, moved}
use Rattle.stored_table.specs.Stands.{AgreeWith, HasOpenRecords}
use Rattle.stored_table.proofs.Bridging.{are_bytes, bytes_append}
use Rattle.stored_table.proofs.Writing.{same_itself, place_is}
use Rattle.table_laws.proofs.Exactly.{in_opens}
use Rattle.table_laws.proofs.Stepping.{either_of}

-- ---- keys of open records

open_key_is : (pid number : ℕ) → pid < 2 ^ 32 → number < 2 ^ 32 → open_key pid number ≡ big_bytes 4 pid ++ big_bytes 4 number
open_key_is pid number a b = ap (λ t. fitting t (big_bytes 4 pid ++ big_bytes 4 number)) (and_from _ _ (lt-ltb pid (2 ^ 32) a) (lt-ltb number (2 ^ 32) b))

pub is_open_key : (pid number : ℕ) → pid < 2 ^ 32 → number < 2 ^ 32 → is_key db.Opens (open_key pid number) ≡ true
is_open_key pid number a b = ap (is_key db.Opens) (open_key_is pid number a b) ∙ bytes_append (big_bytes 4 pid) (big_bytes 4 number) (are_bytes 4 pid) (are_bytes 4 number)

-- the pid and the number that a key says
pub key_pid : (pid number : ℕ) → pid < 2 ^ 32 → number < 2 ^ 32 → big_number 4 (open_key pid number) ≡ pid
key_pid pid number a b = ap (big_number 4) (open_key_is pid number a b) ∙ big_number-reads_back 4 pid (big_bytes 4 number) a

pub key_number : (pid number : ℕ) → pid < 2 ^ 32 → number < 2 ^ 32 → big_number 4 (drop 4 (open_key pid number)) ≡ number
key_number pid number a b = ap (λ key. big_number 4 (drop 4 key)) (open_key_is pid number a b) ∙ big_number-reads_back 4 number [] b

-- ---- numbers that no open has yet

-- No open has the number in its id or as its handle.
pub record IsNewNumber (pid number : ℕ) (t : Table) : Type 0 where
  pub ids : (o : OpenRow) → IsIn o t.opens → o.id.pid ≡ pid → o.id.call ≡ number → ⊥
  pub handles : (o : OpenRow) → IsIn o t.opens → o.owner.pid ≡ pid → o.handle ≡ number → ⊥

pub new_above : (pid number : ℕ) (t : Table) → AreBelow number pid t → IsNewNumber pid number t
new_above pid number t below = record {
  ids = λ o i own same. let less : o.id.call < number = all_of (λ (x : OpenRow). x.id.pid ≡ pid → x.id.call < number) t.opens below.ids o i own in omega (arith, same, less);
  handles = λ o i own same. let less : o.handle < number = all_of (λ (x : OpenRow). x.owner.pid ≡ pid → x.handle < number) t.opens below.handles o i own in omega (arith, same, less);
}

-- ---- the open records after it

module _ (setup : Setup) (ps : List Place) (s : AllRecords) (t u : Table) (agree : AgreeWith setup s (view t)) (sound : IsSound t) (sets : IsInSets setup t)
    (pid number : ℕ) (pid_fits : pid < 2 ^ 32) (number_fits : number < 2 ^ 32) (met : among (place db.Opens (open_key pid number)) ps ≡ true) (new : IsNewNumber pid number t) (value : OpenRec) where
  abbrev after_it : AllRecords
  after_it = moved setup ps (Some (record { key = open_key pid number; value = value })) (view u) s

  -- another key than that of the open record that is added
  apart : (p c : ℕ) → p < 2 ^ 32 → c < 2 ^ 32 → (p ≡ pid → c ≡ number → ⊥) → same_place (place db.Opens (open_key pid number)) (place db.Opens (open_key p c)) ≡ false
  apart p c a b other = false_from_ne_true (same_place (place db.Opens (open_key pid number)) (place db.Opens (open_key p c))) (λ e.
      let key : open_key pid number ≡ open_key p c = ap (λ (x : Place). x.key) (place_is (place db.Opens (open_key pid number)) (place db.Opens (open_key p c)) e) in
      let own : p ≡ pid = sym (key_pid p c a b) ∙ ap (big_number 4) (sym key) ∙ key_pid pid number pid_fits number_fits in
      other own (sym (key_number p c a b) ∙ ap (λ k. big_number 4 (drop 4 k)) (sym key) ∙ key_number pid number pid_fits number_fits))

  open_stays : (p c : ℕ) → p < 2 ^ 32 → c < 2 ^ 32 → (p ≡ pid → c ≡ number → ⊥) → (r : OpenRec) → s.opens p c ≡ Some r → is_empty ((view u).opens_of_id r.id) ≡ false → after_it.opens p c ≡ Some r
  open_stays p c a b other r is some =
      let key = is_key db.Opens (open_key pid number) in
      either_of (λ x. x) (among (place db.Opens (open_key p c)) ps) (moved_open (view u) (Some (record { key = open_key pid number; value = value })) (place db.Opens (open_key p c)) (s.opens p c)) (s.opens p c) (Some r)
      (ap (λ d. cond d (Some value) (option_and_then (if_still_open (view u)) (s.opens p c))) (and_right key _ (apart p c a b other))
      ∙ ap (option_and_then (if_still_open (view u))) is ∙ ap (λ d. cond d None (Some r)) some)
      (λ unmet. is)

  pub open_added : after_it.opens pid number ≡ Some value
  open_added =
      ap (λ b. cond b (moved_open (view u) (Some (record { key = open_key pid number; value = value })) (place db.Opens (open_key pid number)) (s.opens pid number)) (s.opens pid number)) met
      ∙ ap (λ b. cond b (Some value) (option_and_then (if_still_open (view u)) (s.opens pid number)))
      (and_from (is_key db.Opens (open_key pid number)) _ (is_open_key pid number pid_fits number_fits) (same_itself (place db.Opens (open_key pid number))))

  some_of_id : (o : OpenRow) → IsIn o u.opens → is_empty ((view u).opens_of_id o.id) ≡ false
  some_of_id o i = not_empty ((view u).opens_of_id o.id) (passes_in (has_id o.id) u.opens o i (same_id-refl o.id))
    where
      not_empty : (xs : List OpenRow) → IsIn o xs → is_empty xs ≡ false
      not_empty [] i = absurd i
      not_empty (x ∷ xs) i = refl

  -- an open that was there before
  pub old_open : (o : OpenRow) → IsIn o t.opens → IsIn o u.opens → HasOpenRecords after_it o
  old_open o i j =
      let old = all_of (HasOpenRecords s) ((view t).opens_of o.file) (agree.opens o.file) o (in_opens t sound o i) in
      let fits = all_of (IsOpenRow setup) t.opens sets.opens o i in
      record {
        by_id = open_stays o.id.pid o.id.call fits.id.pid.number fits.id.call (new.ids o i) (record { id = o.id; file = o.file }) old.by_id (some_of_id o j);
        by_handle = open_stays o.owner.pid o.handle fits.owner.pid.number fits.handle (new.handles o i) (record { id = o.id; file = o.file }) old.by_handle (some_of_id o j);
      }

  -- an open that was there before, and has another owner and handle now: those of the record that is added
  pub record IsTaken (o : OpenRow) : Type 0 where
    pub row : OpenRow
    pub there : IsIn row t.opens
    pub id : row.id ≡ o.id
    pub file : row.file ≡ o.file
    pub owner : o.owner.pid ≡ pid
    pub handle : o.handle ≡ number
    pub added : value ≡ record { id = o.id; file = o.file }

  taken_open : (o : OpenRow) → IsTaken o → IsIn o u.opens → HasOpenRecords after_it o
  taken_open o h j =
      let old = all_of (HasOpenRecords s) ((view t).opens_of h.row.file) (agree.opens h.row.file) h.row (in_opens t sound h.row h.there) in
      let fits = all_of (IsOpenRow setup) t.opens sets.opens h.row h.there in
      record {
        by_id = (λ m. after_it.opens (sym h.id m).pid (sym h.id m).call)
            ∙ open_stays h.row.id.pid h.row.id.call fits.id.pid.number fits.id.call (new.ids h.row h.there) (record { id = o.id; file = o.file })
            (old.by_id ∙ (λ m. Some (let r : OpenRec = record { id = h.id m; file = h.file m } in r))) (some_of_id o j);
        by_handle = (λ m. after_it.opens (h.owner m) (h.handle m)) ∙ open_added ∙ ap Some h.added;
      }

  pub added_opens : ((o : OpenRow) → IsIn o u.opens → IsIn o t.opens ⊎ IsTaken o) → (file : ℕ)
      → AllByRecursion (HasOpenRecords (moved setup ps (Some (record { key = open_key pid number; value = value })) (view u) s)) ((view u).opens_of file)
  added_opens from file =
      all_by (HasOpenRecords after_it) ((view u).opens_of file) (λ o i.
      let k = in_filter (is_of_file file) u.opens o i in by o k.0 (from o k.0))
    where
      by : (o : OpenRow) → IsIn o u.opens → IsIn o t.opens ⊎ IsTaken o → HasOpenRecords after_it o
      by o j (inl i) = old_open o i j
      by o j (inr h) = taken_open o h j
