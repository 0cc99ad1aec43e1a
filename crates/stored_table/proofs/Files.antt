-- The bridge for the records of files and for open records.
use Rattle.std.proofs.Common.{◌≡◌, ℕ, zero, suc, ◌+◌, Bool, true, false, cond, ◌&&◌, ltb, List, [], ◌∷◌, ◌++◌, Option, Some, None, refl, sym, ap, subst, ◌∙◌, arith}
use Rattle.std.specs.Prelude.{IfSome, slice_get, ◌==◌}
use Rattle.std.specs.List.{AllByRecursion, IsDistinct, list_all}
use Rattle.std.specs.Option.{option_map_or, option_and_then}
use Rattle.std.proofs.lemmas.Bool.{eq-eqb, and_from}
use Rattle.byteorder.specs.Endian.{big_bytes}
use Rattle.byteorder.specs.Numbers.{big_number-reads_back}
use Rattle.sid_core.specs.declared.entry.Entry.{Entry}
use Rattle.sid_core.specs.declared.setup.Setup.{Setup}
use Rattle.sid_core.specs.declared.setup.FileInfo.{FileInfo}
use Rattle.sid_core.specs.Setup.{IsSetup, IsFile, same_file}
use Rattle.serial_table.specs.ByNumber.{declared_at}
use Rattle.serial_table.specs.View.{View}
use Rattle.chain_map.specs.declared.db.Db.TheVariants as db
use Rattle.record_codec.specs.declared.open_rec.OpenRec.{OpenRec}
use Rattle.record_codec.specs.Codec.{Codec}
use Rattle.record_codec.specs.OpenRec.{open_rec}
use Rattle.record_codec.specs.ShareRec.{share_rec}
use Rattle.record_codec.specs.RangeRec.{range_rec}
use Rattle.record_codec.proofs.ShareExact.{share_exact}
use Rattle.record_codec.proofs.RangeExact.{range_exact}
use Rattle.record_codec.proofs.OpenExact.{open_exact}
use Rattle.stored_table.specs.Keys.{is_key, open_key, info_key, file_key, has_key, file_from, file_in}
use Rattle.stored_table.specs.Places.{Chains, Place, place, among, same_place, value_at, HasChains}
use Rattle.stored_table.specs.Decoded.{decoded, records_of}
use Rattle.stored_table.specs.Exact.{spelled, always, share_version, share_of, ranges_of, exact_share, exact_ranges, exact_at, is_empty}
use Rattle.stored_table.specs.Moved.{if_still_open, moved_open}
use Rattle.stored_table.specs.Move.{AddedOpen, if_open, still_open, new_open_record, added, is_by_old, places_written, move}
use Rattle.stored_table.specs.Stands.{AddedHasSpelling}
use Rattle.stored_table.proofs.Bridging.{are_bytes, bytes_append, after_write, decoded_spelled, decoded_either, new_by}
use Rattle.stored_table.proofs.Versions.{share_some_valid}
use Rattle.stored_table.proofs.Writing.{value_at-write_all}

-- ---- a file's key says its number

and_true : (b : Bool) → (b && true) ≡ b
and_true true = refl
and_true false = refl

has_key_is : (info other : FileInfo) → IsFile info → has_key (info_key info) other ≡ same_file other info
has_key_is info other is =
    (λ i. ((other.dev == big_number-reads_back 8 info.dev (big_bytes 8 info.inode ++ big_bytes 8 0) is.dev i)
    && (other.inode == big_number-reads_back 8 info.inode (big_bytes 8 0) is.inode i)) && true)
    ∙ and_true ((other.dev == info.dev) && (other.inode == info.inode))

same_itself : (info : FileInfo) → same_file info info ≡ true
same_itself info = and_from _ _ (eq-eqb info.dev info.dev refl) (eq-eqb info.inode info.inode refl)

some_is : {A : Type 0} (x y : A) → ◌≡◌ {A = Option A} (Some x) (Some y) → x ≡ y
some_is x y e = cc

pub at_place : {A : Type 0} (P : A → Type 0) (xs : List A) (i : ℕ) (x : A) → slice_get xs i ≡ Some x → AllByRecursion P xs → P x
at_place P [] i x e h = absurd cc
at_place P (y ∷ ys) zero x e h = subst P (some_is y x e) h.0
at_place P (y ∷ ys) (suc i) x e h = at_place P ys i x e h.1

found_file : (infos : List FileInfo) (low i : ℕ) (info : FileInfo) → slice_get infos i ≡ Some info → IsFile info → IsDistinct same_file infos → file_from (info_key info) low infos ≡ low + i
unfolding IsDistinct
found_file [] low i info e is d = absurd cc
found_file (first ∷ infos) low zero info e is d =
    ap (λ b. cond b low (file_from (info_key info) (low + 1) infos)) (has_key_is info first is ∙ ap (λ x. same_file x info) (some_is first info e) ∙ same_itself info) ∙ omega arith
found_file (first ∷ infos) low (suc i) info e is d =
    ap (λ b. cond b low (file_from (info_key info) (low + 1) infos)) (has_key_is info first is ∙ at_place (λ y. same_file first y ≡ false) infos i info e d.0)
    ∙ found_file infos (low + 1) i info e is d.1 ∙ omega arith

declared_back : (files : List FileInfo) (file : ℕ) (info : FileInfo) → declared_at files file ≡ Some info → AllByRecursion IsFile files → IsDistinct same_file files → file_from (info_key info) 1 files ≡ file
declared_back files zero info e all d = absurd cc
declared_back files (suc i) info e all d = found_file files 1 i info e (at_place IsFile files i info e all) d ∙ omega arith

-- ---- the exact records of a file

info_key_is : (info : FileInfo) → list_all (λ byte. ltb byte 256) (info_key info) ≡ true
info_key_is info = bytes_append (big_bytes 8 info.dev) (big_bytes 8 info.inode ++ big_bytes 8 0) (are_bytes 8 info.dev) (bytes_append (big_bytes 8 info.inode) (big_bytes 8 0) (are_bytes 8 info.inode) (are_bytes 8 0))

share_at : (setup : Setup) (old : Bool) (v : View) (file : ℕ) (o : Option FileInfo) → declared_at setup.files file ≡ o → IsSetup setup
    → exact_at setup old v (place db.Locking (option_map_or info_key o [])) ≡ spelled share_rec (share_version old) (exact_share setup v file)
share_at setup old v file None e is = ap (λ (x : Option FileInfo). spelled share_rec (share_version old) (option_and_then (share_of v file) x)) (sym e)
share_at setup old v file (Some info) e is =
    ap (λ b. cond b (spelled share_rec (share_version old) (exact_share setup v (file_in setup (info_key info)))) None) (info_key_is info)
    ∙ ap (λ f. spelled share_rec (share_version old) (exact_share setup v f)) (declared_back setup.files file info e is.files is.files_differ)

ranges_at : (setup : Setup) (old : Bool) (v : View) (file : ℕ) (o : Option FileInfo) → declared_at setup.files file ≡ o → IsSetup setup
    → exact_at setup old v (place db.Brlock (option_map_or info_key o [])) ≡ spelled range_rec (always 1) (exact_ranges setup v file)
ranges_at setup old v file None e is = ap (λ (x : Option FileInfo). spelled range_rec (always 1) (option_and_then (ranges_of v file) x)) (sym e)
ranges_at setup old v file (Some info) e is =
    ap (λ b. cond b (spelled range_rec (always 1) (exact_ranges setup v (file_in setup (info_key info)))) None) (info_key_is info)
    ∙ ap (λ f. spelled range_rec (always 1) (exact_ranges setup v f)) (declared_back setup.files file info e is.files is.files_differ)

pub share_moved : (setup : Setup) (n : ℕ) (k : Chains) (e : Entry) (v : View) (file : ℕ) → IsSetup setup → HasChains n k → IfSome (exact_share setup v file) (λ r. share_rec.valid (2, r))
    → (records_of setup n (move setup n k e v)).shares file ≡ cond (among (place db.Locking (file_key setup file)) (places_written setup n k e)) (exact_share setup v file) ((records_of setup n k).shares file)
share_moved setup n k e v file is h valid =
    after_write share_rec share_exact (share_version (is_by_old setup e)) n (new_by setup n k e v) (places_written setup n k e) k (place db.Locking (file_key setup file)) (exact_share setup v file) h
    (share_some_valid (is_by_old setup e) (exact_share setup v file) valid) (share_at setup (is_by_old setup e) v file (declared_at setup.files file) refl is)

pub ranges_moved : (setup : Setup) (n : ℕ) (k : Chains) (e : Entry) (v : View) (file : ℕ) → IsSetup setup → HasChains n k → IfSome (exact_ranges setup v file) (λ r. range_rec.valid (1, r))
    → (records_of setup n (move setup n k e v)).ranges file ≡ cond (among (place db.Brlock (file_key setup file)) (places_written setup n k e)) (exact_ranges setup v file) ((records_of setup n k).ranges file)
ranges_moved setup n k e v file is h valid =
    after_write range_rec range_exact (always 1) n (new_by setup n k e v) (places_written setup n k e) k (place db.Brlock (file_key setup file)) (exact_ranges setup v file) h valid
    (ranges_at setup (is_by_old setup e) v file (declared_at setup.files file) refl is)

-- ---- open records

either_record : {A : Type 0} (b : Bool) (x : A) (y : Option A) (p q : Option (List ℕ)) (c : Codec (ℕ × A)) → decoded c p ≡ Some x → decoded c q ≡ y → decoded c (cond b p q) ≡ cond b (Some x) y
either_record true x y p q c e f = e
either_record false x y p q c e f = f

still_record : (v : View) (bytes : List ℕ) (r : OpenRec) (b : Bool) → decoded open_rec (Some bytes) ≡ Some r → decoded open_rec (cond b None (Some bytes)) ≡ cond b None (Some r)
still_record v bytes r true e = refl
still_record v bytes r false e = e

still_of : (v : View) (bytes : List ℕ) (o : Option OpenRec) → decoded open_rec (Some bytes) ≡ o → decoded open_rec (option_and_then (if_open v bytes) o) ≡ option_and_then (if_still_open v) o
still_of v bytes None e = refl
still_of v bytes (Some r) e = still_record v bytes r (is_empty (v.opens_of_id r.id)) e

still_is : (v : View) (value : Option (List ℕ)) → decoded open_rec (still_open v value) ≡ option_and_then (if_still_open v) (decoded open_rec value)
still_is v None = refl
still_is v (Some bytes) = still_of v bytes (decoded open_rec (Some bytes)) refl

new_open_is : (v : View) (a : Option AddedOpen) (p : Place) (value : Option (List ℕ)) → AddedHasSpelling a → decoded open_rec (new_open_record v a p value) ≡ moved_open v a p (decoded open_rec value)
new_open_is v None p value valid = still_is v value
new_open_is v (Some a) p value valid =
    either_record (is_key db.Opens a.key && same_place (place db.Opens a.key) p) a.value (option_and_then (if_still_open v) (decoded open_rec value)) (Some (open_rec.spell (1, a.value))) (still_open v value) open_rec
    (decoded_spelled open_rec open_exact (always 1) (Some a.value) valid) (still_is v value)

pub open_moved : (setup : Setup) (n : ℕ) (k : Chains) (e : Entry) (v : View) (pid number : ℕ) → HasChains n k → AddedHasSpelling (added setup v e)
    → (records_of setup n (move setup n k e v)).opens pid number
    ≡ cond (among (place db.Opens (open_key pid number)) (places_written setup n k e)) (moved_open v (added setup v e) (place db.Opens (open_key pid number)) ((records_of setup n k).opens pid number)) ((records_of setup n k).opens pid number)
open_moved setup n k e v pid number h valid =
    let p = place db.Opens (open_key pid number) in
    ap (decoded open_rec) (value_at-write_all n (new_by setup n k e v) (places_written setup n k e) k p h)
    ∙ decoded_either open_rec (among p (places_written setup n k e)) (new_by setup n k e v p) (value_at n k p)
    ∙ ap (λ x. cond (among p (places_written setup n k e)) x (decoded open_rec (value_at n k p))) (new_open_is v (added setup v e) p (value_at n k p) valid)
