-- The records after a write: exact where they are written, and else as before.
use Rattle.std.proofs.Common.{◌≡◌, ℕ, zero, suc, ◌/◌, ◌^◌, ◌<◌, Bool, true, false, cond, ltb, List, [], ◌∷◌, ◌++◌, Option, Some, None, refl, ap, ◌∙◌, arith}
use Rattle.std.specs.Prelude.{IfSome}
use Rattle.std.specs.List.{list_all}
use Rattle.std.specs.Int.{byte_at, bytes_high_first}
use Rattle.std.proofs.Math.Nat.{mod-lt}
use Rattle.std.proofs.lemmas.Bool.{lt-ltb, and_from, and_parts}
use Rattle.byteorder.specs.Endian.{big_bytes}
use Rattle.byteorder.specs.Numbers.{big_number-reads_back}
use Rattle.sid_core.specs.declared.ids.LeaseName.{LeaseName}
use Rattle.sid_core.specs.declared.entry.Entry.{Entry}
use Rattle.sid_core.specs.declared.setup.Setup.{Setup}
use Rattle.serial_table.specs.View.{View}
use Rattle.chain_map.specs.declared.db.Db.TheVariants as db
use Rattle.record_codec.specs.Codec.{Codec}
use Rattle.record_codec.specs.GLockRec.{glock_rec}
use Rattle.record_codec.specs.LeaseRec.{lease_rec}
use Rattle.record_codec.specs.RegisterRec.{register_rec}
use Rattle.record_codec.specs.MailRec.{mail_rec}
use Rattle.record_codec.proofs.Exact.{IsExact}
use Rattle.record_codec.proofs.Whole.{all_again}
use Rattle.record_codec.proofs.GLockExact.{glock_exact}
use Rattle.record_codec.proofs.LeaseExact.{lease_exact}
use Rattle.record_codec.proofs.RegisterExact.{register_exact}
use Rattle.record_codec.proofs.MailExact.{mail_exact}
use Rattle.stored_table.specs.Keys.{fitting, lock_key, pid_key, name_key, lock_in, pid_in, name_in}
use Rattle.stored_table.specs.Places.{Chains, Place, place, among, value_at, write_all, HasChains}
use Rattle.stored_table.specs.Decoded.{value_of, decoded, records_of}
use Rattle.stored_table.specs.Exact.{spelled, always, exact_lock, exact_lease, exact_register, exact_mail, exact_at}
use Rattle.stored_table.specs.Move.{added, is_by_old, new_at, places_written, move}
use Rattle.stored_table.proofs.Writing.{value_at-write_all}

-- what is decoded of one of two values
pub decoded_either : {A : Type 0} (c : Codec (ℕ × A)) (b : Bool) (x y : Option (List ℕ)) → decoded c (cond b x y) ≡ cond b (decoded c x) (decoded c y)
decoded_either c true x y = refl
decoded_either c false x y = refl

-- what is spelled in a version is decoded
pub decoded_spelled : {A : Type 0} (c : Codec (ℕ × A)) → IsExact c → (version : A → ℕ) (x : Option A) → IfSome x (λ y. c.valid (version y, y)) → decoded c (spelled c version x) ≡ x
decoded_spelled c exact version None h = refl
decoded_spelled c exact version (Some x) h = ap value_of (all_again c exact (c.spell (version x, x)) (version x, x) (record { valid = h; bytes_are = refl }))

pub after_write : {A : Type 0} (c : Codec (ℕ × A)) → IsExact c → (version : A → ℕ) (n : ℕ) (new : Place → Option (List ℕ)) (ps : List Place) (k : Chains) (p : Place) (x : Option A)
    → HasChains n k → IfSome x (λ y. c.valid (version y, y)) → new p ≡ spelled c version x
    → decoded c (value_at n (write_all n new ps k) p) ≡ cond (among p ps) x (decoded c (value_at n k p))
after_write c exact version n new ps k p x h valid e =
    ap (decoded c) (value_at-write_all n new ps k p h)
    ∙ decoded_either c (among p ps) (new p) (value_at n k p)
    ∙ ap (λ y. cond (among p ps) y (decoded c (value_at n k p))) (ap (decoded c) e ∙ decoded_spelled c exact version x valid)

-- ---- keys say what they were made of

pub pid_key_is : (pid : ℕ) → pid < 2 ^ 32 → pid_key pid ≡ big_bytes 4 pid
pid_key_is pid h = ap (λ b. fitting b (big_bytes 4 pid)) (lt-ltb pid (2 ^ 32) h)

pub pid_back : (pid : ℕ) → pid < 2 ^ 32 → pid_in (pid_key pid) ≡ pid
pid_back pid h = ap pid_in (pid_key_is pid h) ∙ big_number-reads_back 4 pid [] h

lock_key_is : (key : ℕ) → key < 2 ^ 64 → lock_key key ≡ big_bytes 8 key
lock_key_is key h = ap (λ b. fitting b (big_bytes 8 key)) (lt-ltb key (2 ^ 64) h)

name_key_is : (name : LeaseName) → name.guid < 2 ^ 64 → name.key < 2 ^ 64 → name_key name ≡ big_bytes 8 name.guid ++ big_bytes 8 name.key
name_key_is name a b = ap (λ t. fitting t (big_bytes 8 name.guid ++ big_bytes 8 name.key)) (and_from _ _ (lt-ltb name.guid (2 ^ 64) a) (lt-ltb name.key (2 ^ 64) b))

name_back : (name : LeaseName) → name.guid < 2 ^ 64 → name.key < 2 ^ 64 → name_in (big_bytes 8 name.guid ++ big_bytes 8 name.key) ≡ name
name_back name a b = λ i. record {
  guid = big_number-reads_back 8 name.guid (big_bytes 8 name.key) a i;
  key = big_number-reads_back 8 name.key [] b i;
}

-- ---- keys are bytes

is_byte : (k x : ℕ) → byte_at k x < 256
is_byte zero x = mod-lt x (omega arith)
is_byte (suc k) x = mod-lt (x / 256 ^ suc k) (omega arith)

pub are_bytes : (n x : ℕ) → list_all (λ byte. ltb byte 256) (bytes_high_first n x) ≡ true
are_bytes zero x = refl
are_bytes (suc n) x = and_from _ _ (lt-ltb (byte_at n x) 256 (is_byte n x)) (are_bytes n x)

pub bytes_append : (xs ys : List ℕ) → list_all (λ byte. ltb byte 256) xs ≡ true → list_all (λ byte. ltb byte 256) ys ≡ true → list_all (λ byte. ltb byte 256) (xs ++ ys) ≡ true
bytes_append [] ys a b = b
bytes_append (x ∷ xs) ys a b = let p = and_parts (ltb x 256) (list_all (λ byte. ltb byte 256) xs) a in and_from _ _ p.0 (bytes_append xs ys p.1 b)

-- ---- the exact record under a key

pub exact_at_pid : (setup : Setup) (old : Bool) (v : View) (pid : ℕ) → pid < 2 ^ 32 → exact_at setup old v (place db.Register (pid_key pid)) ≡ spelled register_rec (always 1) (exact_register v pid)
exact_at_pid setup old v pid h =
    ap (λ key. exact_at setup old v (place db.Register key)) (pid_key_is pid h)
    ∙ ap (λ b. cond b (spelled register_rec (always 1) (exact_register v (pid_in (big_bytes 4 pid)))) None) (are_bytes 4 pid)
    ∙ ap (λ p. spelled register_rec (always 1) (exact_register v p)) (big_number-reads_back 4 pid [] h)

exact_at_mail : (setup : Setup) (old : Bool) (v : View) (pid : ℕ) → pid < 2 ^ 32 → exact_at setup old v (place db.Mailbox (pid_key pid)) ≡ spelled mail_rec (always 1) (exact_mail v pid)
exact_at_mail setup old v pid h =
    ap (λ key. exact_at setup old v (place db.Mailbox key)) (pid_key_is pid h)
    ∙ ap (λ b. cond b (spelled mail_rec (always 1) (exact_mail v (pid_in (big_bytes 4 pid)))) None) (are_bytes 4 pid)
    ∙ ap (λ p. spelled mail_rec (always 1) (exact_mail v p)) (big_number-reads_back 4 pid [] h)

exact_at_lock : (setup : Setup) (old : Bool) (v : View) (key : ℕ) → key < 2 ^ 64 → exact_at setup old v (place db.GLock (lock_key key)) ≡ spelled glock_rec (always 1) (exact_lock v key)
exact_at_lock setup old v key h =
    ap (λ k. exact_at setup old v (place db.GLock k)) (lock_key_is key h)
    ∙ ap (λ b. cond b (spelled glock_rec (always 1) (exact_lock v (lock_in (big_bytes 8 key)))) None) (are_bytes 8 key)
    ∙ ap (λ k. spelled glock_rec (always 1) (exact_lock v k)) (big_number-reads_back 8 key [] h)

exact_at_name : (setup : Setup) (old : Bool) (v : View) (name : LeaseName) → name.guid < 2 ^ 64 → name.key < 2 ^ 64 → exact_at setup old v (place db.Leases (name_key name)) ≡ spelled lease_rec (always 2) (exact_lease v name)
exact_at_name setup old v name a b =
    ap (λ k. exact_at setup old v (place db.Leases k)) (name_key_is name a b)
    ∙ ap (λ t. cond t (spelled lease_rec (always 2) (exact_lease v (name_in (big_bytes 8 name.guid ++ big_bytes 8 name.key)))) None) (bytes_append (big_bytes 8 name.guid) (big_bytes 8 name.key) (are_bytes 8 name.guid) (are_bytes 8 name.key))
    ∙ ap (λ k. spelled lease_rec (always 2) (exact_lease v k)) (name_back name a b)

-- ---- the records after an entry

-- the new values after an entry, and the places that it writes
abbrev pub new_by : Setup → ℕ → Chains → Entry → View → Place → Option (List ℕ)
new_by setup n k e v = new_at setup n k (is_by_old setup e) v (added setup v e)

pub register_moved : (setup : Setup) (n : ℕ) (k : Chains) (e : Entry) (v : View) (pid : ℕ) → HasChains n k → pid < 2 ^ 32 → IfSome (exact_register v pid) (λ x. register_rec.valid (1, x))
    → (records_of setup n (move setup n k e v)).register pid ≡ cond (among (place db.Register (pid_key pid)) (places_written setup n k e)) (exact_register v pid) ((records_of setup n k).register pid)
register_moved setup n k e v pid h small valid =
    after_write register_rec register_exact (always 1) n (new_by setup n k e v) (places_written setup n k e) k (place db.Register (pid_key pid)) (exact_register v pid) h valid (exact_at_pid setup (is_by_old setup e) v pid small)

pub mail_moved : (setup : Setup) (n : ℕ) (k : Chains) (e : Entry) (v : View) (pid : ℕ) → HasChains n k → pid < 2 ^ 32 → IfSome (exact_mail v pid) (λ x. mail_rec.valid (1, x))
    → (records_of setup n (move setup n k e v)).mail pid ≡ cond (among (place db.Mailbox (pid_key pid)) (places_written setup n k e)) (exact_mail v pid) ((records_of setup n k).mail pid)
mail_moved setup n k e v pid h small valid =
    after_write mail_rec mail_exact (always 1) n (new_by setup n k e v) (places_written setup n k e) k (place db.Mailbox (pid_key pid)) (exact_mail v pid) h valid (exact_at_mail setup (is_by_old setup e) v pid small)

pub lock_moved : (setup : Setup) (n : ℕ) (k : Chains) (e : Entry) (v : View) (key : ℕ) → HasChains n k → key < 2 ^ 64 → IfSome (exact_lock v key) (λ x. glock_rec.valid (1, x))
    → (records_of setup n (move setup n k e v)).locks key ≡ cond (among (place db.GLock (lock_key key)) (places_written setup n k e)) (exact_lock v key) ((records_of setup n k).locks key)
lock_moved setup n k e v key h small valid =
    after_write glock_rec glock_exact (always 1) n (new_by setup n k e v) (places_written setup n k e) k (place db.GLock (lock_key key)) (exact_lock v key) h valid (exact_at_lock setup (is_by_old setup e) v key small)

pub lease_moved : (setup : Setup) (n : ℕ) (k : Chains) (e : Entry) (v : View) (name : LeaseName) → HasChains n k → name.guid < 2 ^ 64 → name.key < 2 ^ 64 → IfSome (exact_lease v name) (λ x. lease_rec.valid (2, x))
    → (records_of setup n (move setup n k e v)).leases name ≡ cond (among (place db.Leases (name_key name)) (places_written setup n k e)) (exact_lease v name) ((records_of setup n k).leases name)
lease_moved setup n k e v name h a b valid =
    after_write lease_rec lease_exact (always 2) n (new_by setup n k e v) (places_written setup n k e) k (place db.Leases (name_key name)) (exact_lease v name) h valid (exact_at_name setup (is_by_old setup e) v name a b)
