-- The bridge: an entry's new chains hold the records that `moved` gives.
use Rattle.std.proofs.Common.{◌≡◌, ℕ, ◌^◌, ◌<◌, ◌≤◌, Bool, true, false, cond, ltb, List, [], ◌++◌, Option, Some, None, refl, sym, ap, ap₂, ◌∙◌, arith, inl, inr}
use Rattle.std.proofs.lemmas.Bool.{cases_lt, le-ltb, and_left, and_right}
use Rattle.byteorder.specs.Endian.{big_bytes}
use Rattle.sid_core.specs.Setup.{IsSetup}
use Rattle.sid_core.specs.declared.ids.LeaseName.{LeaseName}
use Rattle.sid_core.specs.declared.entry.Entry.{Entry}
use Rattle.sid_core.specs.declared.setup.Setup.{Setup}
use Rattle.serial_table.specs.View.{View}
use Rattle.chain_map.specs.declared.db.Db.{Db}
use Rattle.chain_map.specs.declared.db.Db.TheVariants as db
use Rattle.record_codec.specs.Codec.{Codec}
use Rattle.record_codec.specs.GLockRec.{glock_rec}
use Rattle.record_codec.specs.LeaseRec.{lease_rec}
use Rattle.record_codec.specs.RegisterRec.{register_rec}
use Rattle.record_codec.specs.MailRec.{mail_rec}
use Rattle.stored_table.specs.Keys.{fitting, key_length, lock_key, pid_key, name_key}
use Rattle.stored_table.specs.Places.{Chains, place, among, value_at}
use Rattle.stored_table.specs.Decoded.{decoded, records_of}
use Rattle.stored_table.specs.Exact.{exact_lock, exact_lease, exact_register, exact_mail}
use Rattle.stored_table.specs.Move.{added, places_written, move}
use Rattle.stored_table.specs.Moved.{moved}
use Rattle.stored_table.specs.Stands.{HasSpelling, AddedHasSpelling, IsWellFormed, HaveSpellings}
use Rattle.stored_table.proofs.Forming.{IsValue}
use Rattle.stored_table.proofs.Keeping.{first_part, old_value, well_formed-move}
use Rattle.stored_table.proofs.Bridging.{register_moved, mail_moved, lock_moved, lease_moved}
use Rattle.stored_table.proofs.Files.{share_moved, ranges_moved, open_moved}

-- ---- no record stands under the empty key

no_empty_key : (d : Db) → 0 ≡ key_length d → ⊥
no_empty_key db.Opens e = omega (arith, e)
no_empty_key db.GLock e = omega (arith, e)
no_empty_key db.Locking e = omega (arith, e)
no_empty_key db.Leases e = omega (arith, e)
no_empty_key db.Register e = omega (arith, e)
no_empty_key db.Brlock e = omega (arith, e)
no_empty_key db.Mailbox e = omega (arith, e)

not_there : (d : Db) (o : Option (List ℕ)) → IsValue (place d []) o → o ≡ None
not_there d None h = refl
not_there d (Some value) h = absurd (no_empty_key d h.long)

nothing_at : (n : ℕ) (k : Chains) (d : Db) (key : List ℕ) → IsWellFormed n k → key ≡ [] → value_at n k (place d key) ≡ None
nothing_at n k d key w e = ap (λ x. value_at n k (place d x)) e ∙ not_there d (value_at n k (place d [])) (old_value n k (place d []) w (value_at n k (place d [])) refl)

-- where the key is empty, nothing is there before or after
not_in_either : {A : Type 0} (b : Bool) → ◌≡◌ {A = Option A} None (cond b None None)
not_in_either true = refl
not_in_either false = refl

outside : {A : Type 0} (c : Codec (ℕ × A)) (n : ℕ) (k l : Chains) (d : Db) (key : List ℕ) (b : Bool) (x : Option A) → IsWellFormed n k → IsWellFormed n l → key ≡ [] → x ≡ None
    → decoded c (value_at n l (place d key)) ≡ cond b x (decoded c (value_at n k (place d key)))
outside c n k l d key b x w u e none =
    ap (decoded c) (nothing_at n l d key u e) ∙ not_in_either b ∙ ap₂ (λ y o. cond b y (decoded c o)) (sym none) (sym (nothing_at n k d key w e))

none_outside : {A : Type 0} (c : Codec (ℕ × A)) (version : ℕ) (inside : Type 0) (o : Option A) → HasSpelling c version inside o → (inside → ⊥) → o ≡ None
none_outside c version inside None h f = refl
none_outside c version inside (Some x) h f = absurd (f h.1)

not_less : (a b : ℕ) → b ≤ a → a < b → ⊥
not_less a b h l = omega (arith, h, l)

-- ---- each database

all_register : (setup : Setup) (n : ℕ) (k : Chains) (e : Entry) (v : View) (pid : ℕ) → IsWellFormed n k → IsWellFormed n (move setup n k e v) → HaveSpellings setup v
    → (records_of setup n (move setup n k e v)).register pid ≡ (moved setup (places_written setup n k e) (added setup v e) v (records_of setup n k)).register pid
all_register setup n k e v pid w u s = elim (cases_lt pid (2 ^ 32)) [
  | inl small ↦ register_moved setup n k e v pid w.chains small (first_part register_rec 1 (pid < 2 ^ 32) (exact_register v pid) (s.register pid))
  | inr large ↦ outside register_rec n k (move setup n k e v) db.Register (pid_key pid) (among (place db.Register (pid_key pid)) (places_written setup n k e)) (exact_register v pid) w u
      (ap (λ b. fitting b (big_bytes 4 pid)) (le-ltb pid (2 ^ 32) large)) (none_outside register_rec 1 (pid < 2 ^ 32) (exact_register v pid) (s.register pid) (not_less pid (2 ^ 32) large))
]

all_mail : (setup : Setup) (n : ℕ) (k : Chains) (e : Entry) (v : View) (pid : ℕ) → IsWellFormed n k → IsWellFormed n (move setup n k e v) → HaveSpellings setup v
    → (records_of setup n (move setup n k e v)).mail pid ≡ (moved setup (places_written setup n k e) (added setup v e) v (records_of setup n k)).mail pid
all_mail setup n k e v pid w u s = elim (cases_lt pid (2 ^ 32)) [
  | inl small ↦ mail_moved setup n k e v pid w.chains small (first_part mail_rec 1 (pid < 2 ^ 32) (exact_mail v pid) (s.mail pid))
  | inr large ↦ outside mail_rec n k (move setup n k e v) db.Mailbox (pid_key pid) (among (place db.Mailbox (pid_key pid)) (places_written setup n k e)) (exact_mail v pid) w u
      (ap (λ b. fitting b (big_bytes 4 pid)) (le-ltb pid (2 ^ 32) large)) (none_outside mail_rec 1 (pid < 2 ^ 32) (exact_mail v pid) (s.mail pid) (not_less pid (2 ^ 32) large))
]

all_locks : (setup : Setup) (n : ℕ) (k : Chains) (e : Entry) (v : View) (key : ℕ) → IsWellFormed n k → IsWellFormed n (move setup n k e v) → HaveSpellings setup v
    → (records_of setup n (move setup n k e v)).locks key ≡ (moved setup (places_written setup n k e) (added setup v e) v (records_of setup n k)).locks key
all_locks setup n k e v key w u s = elim (cases_lt key (2 ^ 64)) [
  | inl small ↦ lock_moved setup n k e v key w.chains small (first_part glock_rec 1 (key < 2 ^ 64) (exact_lock v key) (s.locks key))
  | inr large ↦ outside glock_rec n k (move setup n k e v) db.GLock (lock_key key) (among (place db.GLock (lock_key key)) (places_written setup n k e)) (exact_lock v key) w u
      (ap (λ b. fitting b (big_bytes 8 key)) (le-ltb key (2 ^ 64) large)) (none_outside glock_rec 1 (key < 2 ^ 64) (exact_lock v key) (s.locks key) (not_less key (2 ^ 64) large))
]

all_leases : (setup : Setup) (n : ℕ) (k : Chains) (e : Entry) (v : View) (name : LeaseName) → IsWellFormed n k → IsWellFormed n (move setup n k e v) → HaveSpellings setup v
    → (records_of setup n (move setup n k e v)).leases name ≡ (moved setup (places_written setup n k e) (added setup v e) v (records_of setup n k)).leases name
all_leases setup n k e v name w u s = elim (cases_lt name.guid (2 ^ 64)) [
  | inl small ↦ elim (cases_lt name.key (2 ^ 64)) [
    | inl small_key ↦ lease_moved setup n k e v name w.chains small small_key (first_part lease_rec 2 ((name.guid < 2 ^ 64) × (name.key < 2 ^ 64)) (exact_lease v name) (s.leases name))
    | inr large ↦ outside lease_rec n k (move setup n k e v) db.Leases (name_key name) (among (place db.Leases (name_key name)) (places_written setup n k e)) (exact_lease v name) w u
        (ap (λ b. fitting b (big_bytes 8 name.guid ++ big_bytes 8 name.key)) (and_right (ltb name.guid (2 ^ 64)) (ltb name.key (2 ^ 64)) (le-ltb name.key (2 ^ 64) large)))
        (none_outside lease_rec 2 ((name.guid < 2 ^ 64) × (name.key < 2 ^ 64)) (exact_lease v name) (s.leases name) (λ h. not_less name.key (2 ^ 64) large h.1))
  ]
  | inr large ↦ outside lease_rec n k (move setup n k e v) db.Leases (name_key name) (among (place db.Leases (name_key name)) (places_written setup n k e)) (exact_lease v name) w u
      (ap (λ b. fitting b (big_bytes 8 name.guid ++ big_bytes 8 name.key)) (and_left (ltb name.guid (2 ^ 64)) (ltb name.key (2 ^ 64)) (le-ltb name.guid (2 ^ 64) large)))
      (none_outside lease_rec 2 ((name.guid < 2 ^ 64) × (name.key < 2 ^ 64)) (exact_lease v name) (s.leases name) (λ h. not_less name.guid (2 ^ 64) large h.0))
]

-- ---- all of them

pub records_moved : (setup : Setup) (n : ℕ) (k : Chains) (e : Entry) (v : View) → IsSetup setup → IsWellFormed n k → HaveSpellings setup v → AddedHasSpelling (added setup v e)
    → records_of setup n (move setup n k e v) ≡ moved setup (places_written setup n k e) (added setup v e) v (records_of setup n k)
records_moved setup n k e v is w s valid =
    let u = well_formed-move setup n k e v w s valid in
    λ i. record {
      opens = λ pid number. open_moved setup n k e v pid number w.chains valid i;
      locks = λ key. all_locks setup n k e v key w u s i;
      shares = λ file. share_moved setup n k e v file is w.chains (s.shares file) i;
      leases = λ name. all_leases setup n k e v name w u s i;
      register = λ pid. all_register setup n k e v pid w u s i;
      ranges = λ file. ranges_moved setup n k e v file is w.chains (s.ranges file) i;
      mail = λ pid. all_mail setup n k e v pid w u s i;
    }
