-- The first databases stand for the first table.
use Rattle.std.proofs.Common.{◌≡◌, ℕ, zero, suc, ◌+◌, ◌*◌, ◌/◌, ◌^◌, ◌<◌, ◌≤◌, Bool, true, false, cond, ◌||◌, eqb, List, [], ◌∷◌, length, find, replicate, Option, Some, None, refl, sym, ap, ap₂, subst, ◌∙◌, arith, inl, inr}
use Rattle.std.specs.Prelude.{IfSome}
use Rattle.std.specs.List.{list_any, AllByRecursion}
use Rattle.std.specs.Option.{option_map, option_and_then}
use Rattle.std.proofs.lemmas.Bool.{eqb-true, eq-eqb, ne_eqb, false_from_ne_true, both_ways, cases_lt, or_parts, le-ltb}
use Rattle.std.proofs.lemmas.List.{get_or-replicate, length-replicate}
use Rattle.byteorder.specs.Endian.{big_bytes}
use Rattle.std.specs.Int.{byte_at, bytes_high_first}
use Rattle.std.proofs.Math.Nat.{mod-lt}
use Rattle.byteorder.specs.Numbers.{length-bytes_high_first}
use Rattle.sid_core.specs.Setup.{IsSetup, IsWorker}
use Rattle.sid_core.specs.declared.setup.Setup.{Setup}
use Rattle.sid_core.specs.declared.setup.FileInfo.{FileInfo}
use Rattle.sid_core.specs.declared.setup.WorkerInfo.{WorkerInfo}
use Rattle.serial_table.specs.declared.rows.WorkerRow.{WorkerRow}
use Rattle.serial_table.specs.View.{View, view}
use Rattle.serial_table.specs.ByNumber.{declared_at}
use Rattle.serial_table.specs.History.{start, start_worker, start_workers}
use Rattle.chain_map.specs.declared.db.Db.{Db}
use Rattle.chain_map.specs.declared.db.Db.TheVariants as db
use Rattle.chain_map.specs.Hash.{db_number}
use Rattle.chain_map.specs.Pairs.{IsRising}
use Rattle.chain_map.specs.Pairs as pairs
use Rattle.record_codec.specs.declared.register_rec.RegisterRec.{RegisterRec}
use Rattle.record_codec.specs.GLockRec.{glock_rec}
use Rattle.record_codec.specs.ShareRec.{share_rec}
use Rattle.record_codec.specs.LeaseRec.{lease_rec}
use Rattle.record_codec.specs.RegisterRec.{register_rec}
use Rattle.record_codec.specs.RangeRec.{range_rec}
use Rattle.record_codec.specs.MailRec.{mail_rec}
use Rattle.record_codec.specs.Counts.{Records}
use Rattle.record_codec.proofs.RegisterExact.{register_exact, register_set}
use Rattle.stored_table.specs.Keys.{fitting, pid_key, pid_in, lock_key, name_key, file_key}
use Rattle.stored_table.specs.Places.{Chains, Place, place, same_place, among, chain_of, value_at, HasChains}
use Rattle.stored_table.specs.Decoded.{deciding, decoded, records_of}
use Rattle.stored_table.specs.Exact.{spelled, always, register_record, exact_register, exact_at, mail_if_alive}
use Rattle.stored_table.specs.Move.{worker_places, first_chains}
use Rattle.stored_table.specs.Stands.{clean_share, clean_ranges, clean_lock, clean_register, AgreeWith, StandsFor, IsPlaced, IsWellFormed}
use Rattle.stored_table.proofs.Writing.{value_at-write_all, place_is, same_itself, chain_below}
use Rattle.stored_table.proofs.Bridging.{pid_key_is, pid_back, exact_at_pid, after_write}
use Rattle.stored_table.proofs.Forming.{IsValue, well_formed-write_all}

abbrev first_view : Setup → View
first_view setup = view (start setup)

abbrev no_chains : ℕ → Chains
no_chains n = replicate (7 * n) []

has_chains : (n : ℕ) → 1 ≤ n → HasChains n (no_chains n)
has_chains n some = record { some = some; count = length-replicate (7 * n) [] }

nothing_yet : (n : ℕ) (p : Place) → 1 ≤ n → value_at n (no_chains n) p ≡ None
nothing_yet n p some = ap (pairs.find p.key) (get_or-replicate (7 * n) (chain_of n p) [] [] (chain_below n p some))

-- ---- which places are written

key_of_large : (pid : ℕ) → 2 ^ 32 ≤ pid → pid_key pid ≡ []
key_of_large pid h = ap (λ b. fitting b (big_bytes 4 pid)) (le-ltb pid (2 ^ 32) h)

key_length_is : (pid : ℕ) → pid < 2 ^ 32 → length (pid_key pid) ≡ 4
key_length_is pid h = ap length (pid_key_is pid h) ∙ length-bytes_high_first 4 pid

keys_tell : (a b : ℕ) → b < 2 ^ 32 → pid_key a ≡ pid_key b → a ≡ b
keys_tell a b small e = elim (cases_lt a (2 ^ 32)) [
  | inl less ↦ sym (pid_back a less) ∙ ap pid_in e ∙ pid_back b small
  | inr more ↦ let z : 0 ≡ 4 = sym (ap length (key_of_large a more)) ∙ ap length e ∙ key_length_is b small in absurd (omega (arith, z))
]

same_worker : (pid : ℕ) (info : WorkerInfo) → info.pid < 2 ^ 32 → same_place (place db.Register (pid_key pid)) (place db.Register (pid_key info.pid)) ≡ eqb info.pid pid
same_worker pid info small = go (eqb info.pid pid) refl
  where
    go : (b : Bool) → eqb info.pid pid ≡ b → same_place (place db.Register (pid_key pid)) (place db.Register (pid_key info.pid)) ≡ b
    go true e = subst (λ x. same_place (place db.Register (pid_key x)) (place db.Register (pid_key info.pid)) ≡ true) (eqb-true info.pid pid e) (same_itself (place db.Register (pid_key info.pid)))
    go false e = false_from_ne_true (same_place (place db.Register (pid_key pid)) (place db.Register (pid_key info.pid))) (λ t. both_ways (eqb info.pid pid) e (eq-eqb info.pid pid (sym (keys_tell pid info.pid small (ap (λ (p : Place). p.key) (place_is (place db.Register (pid_key pid)) (place db.Register (pid_key info.pid)) t))))))

among_workers : (pid : ℕ) (infos : List WorkerInfo) → AllByRecursion IsWorker infos → among (place db.Register (pid_key pid)) (worker_places infos) ≡ list_any (λ info. eqb info.pid pid) infos
among_workers pid [] all = refl
among_workers pid (info ∷ infos) all = λ i. same_worker pid info all.0.pid.1 i || among_workers pid infos all.1 i

among_elsewhere : (d : Db) (key : List ℕ) (infos : List WorkerInfo) → eqb (db_number d) 5 ≡ false → among (place d key) (worker_places infos) ≡ false
among_elsewhere d key [] e = refl
among_elsewhere d key (info ∷ infos) e = rw e (among_elsewhere d key infos e)

none_elsewhere : (setup : Setup) (n : ℕ) (d : Db) (key : List ℕ) → 1 ≤ n → eqb (db_number d) 5 ≡ false → value_at n (first_chains setup n) (place d key) ≡ None
none_elsewhere setup n d key some e =
    value_at-write_all n (exact_at setup false (first_view setup)) (worker_places setup.workers) (no_chains n) (place d key) (has_chains n some)
    ∙ ap (λ b. cond b (exact_at setup false (first_view setup) (place d key)) (value_at n (no_chains n) (place d key))) (among_elsewhere d key setup.workers e)
    ∙ nothing_yet n (place d key) some

-- ---- the register_rec records

abbrev is_pid : ℕ → WorkerRow → Bool
is_pid pid row = eqb row.pid pid

valid_first : (worker : ℕ) → 1 ≤ worker → worker ≤ 64 → register_rec.valid (1, record { worker = worker; alive = true; session = 1; connected = 0; ended = []; watchers = [] })
valid_first worker low high = (register_set (record { worker = worker; alive = true; session = 1; connected = 0; ended = []; watchers = [] })).0 (record {
  first_worker = low;
  last_worker = high;
  first_session = omega arith;
  session = omega arith;
  connected = omega arith;
  ended = tt;
  ended_of_living = λ _. refl;
  ended_of_dead = λ e. absurd cc;
  watchers = record { few = omega arith; each = tt };
})

found_one : (setup : Setup) (pid : ℕ) (info : WorkerInfo) (infos : List WorkerInfo) (number : ℕ) (b : Bool) → register_rec.valid (1, register_record (first_view setup) (start_worker number info))
    → IfSome (option_map (register_record (first_view setup)) (find (is_pid pid) (start_workers (suc number) infos))) (λ x. register_rec.valid (1, x))
    → IfSome (option_map (register_record (first_view setup)) (cond b (Some (start_worker number info)) (find (is_pid pid) (start_workers (suc number) infos)))) (λ x. register_rec.valid (1, x))
found_one setup pid info infos number true first later = first
found_one setup pid info infos number false first later = later

valid_found : (setup : Setup) (pid : ℕ) (infos : List WorkerInfo) (number : ℕ) → 1 ≤ number → number + length infos ≤ 65
    → IfSome (option_map (register_record (first_view setup)) (find (is_pid pid) (start_workers number infos))) (λ x. register_rec.valid (1, x))
valid_found setup pid [] number low high = tt
valid_found setup pid (info ∷ infos) number low high = found_one setup pid info infos number (eqb info.pid pid) (valid_first number low (omega (arith, high))) (valid_found setup pid infos (suc number) (omega arith) (omega (arith, high)))

none_found : (pid : ℕ) (infos : List WorkerInfo) (number : ℕ) → list_any (λ info. eqb info.pid pid) infos ≡ false → find (is_pid pid) (start_workers number infos) ≡ None
none_found pid [] number e = refl
none_found pid (info ∷ infos) number e = let p = or_parts (eqb info.pid pid) (list_any (λ other. eqb other.pid pid) infos) e in rw p.0 (none_found pid infos (suc number) p.1)

none_large : (pid : ℕ) (infos : List WorkerInfo) → AllByRecursion IsWorker infos → 2 ^ 32 ≤ pid → list_any (λ info. eqb info.pid pid) infos ≡ false
none_large pid [] all h = refl
none_large pid (info ∷ infos) all h = rw (ne_eqb info.pid pid (λ e. omega (arith, all.0.pid.1, e))) (none_large pid infos all.1 h)

first_register : (setup : Setup) (n pid : ℕ) → IsSetup setup → 1 ≤ n → (records_of setup n (first_chains setup n)).register pid ≡ exact_register (first_view setup) pid
first_register setup n pid is some = elim (cases_lt pid (2 ^ 32)) [
  | inl small ↦
      after_write register_rec register_exact (always 1) n (exact_at setup false (first_view setup)) (worker_places setup.workers) (no_chains n) (place db.Register (pid_key pid)) (exact_register (first_view setup) pid)
      (has_chains n some) (valid_found setup pid setup.workers 1 (omega arith) (omega (arith, is.few_workers))) (exact_at_pid setup false (first_view setup) pid small)
      ∙ ap₂ (λ b o. cond b (exact_register (first_view setup) pid) (decoded register_rec o)) (among_workers pid setup.workers is.workers) (nothing_yet n (place db.Register (pid_key pid)) some)
      ∙ either_way (list_any (λ info. eqb info.pid pid) setup.workers) refl
  | inr large ↦
      ap (decoded register_rec) (value_at-write_all n (exact_at setup false (first_view setup)) (worker_places setup.workers) (no_chains n) (place db.Register (pid_key pid)) (has_chains n some)
      ∙ ap₂ (λ b o. cond b (exact_at setup false (first_view setup) (place db.Register (pid_key pid))) o) (among_workers pid setup.workers is.workers ∙ none_large pid setup.workers is.workers large) (nothing_yet n (place db.Register (pid_key pid)) some))
      ∙ sym (ap (option_map (register_record (first_view setup))) (none_found pid setup.workers 1 (none_large pid setup.workers is.workers large)))
]
  where
    either_way : (b : Bool) → list_any (λ info. eqb info.pid pid) setup.workers ≡ b → cond b (exact_register (first_view setup) pid) None ≡ exact_register (first_view setup) pid
    either_way true e = refl
    either_way false e = sym (ap (option_map (register_record (first_view setup))) (none_found pid setup.workers 1 e))

clean_already : (setup : Setup) (r : Records) (o : Option WorkerRow) → option_map (clean_register r) (option_map (register_record (first_view setup)) o) ≡ option_map (register_record (first_view setup)) o
clean_already setup r None = refl
clean_already setup r (Some w) = refl

-- ---- all that is shown

abbrev nothing : {A : Type 0} → FileInfo → Option A
nothing info = None

no_file : {A : Type 0} (o : Option FileInfo) → None ≡ option_and_then (nothing {A = A}) o
no_file None = refl
no_file (Some info) = refl

not_in_either : {A : Type 0} (b : Bool) → ◌≡◌ {A = Option A} None (cond b None None)
not_in_either true = refl
not_in_either false = refl

no_mail : (setup : Setup) (o : Option WorkerRow) → None ≡ option_and_then (mail_if_alive (first_view setup)) o
no_mail setup None = refl
no_mail setup (Some w) = not_in_either w.alive

first_agree : (setup : Setup) (n : ℕ) → IsSetup setup → 1 ≤ n → AgreeWith setup (records_of setup n (first_chains setup n)) (first_view setup)
first_agree setup n is some = record {
  locks = λ key. ap (λ o. option_and_then (clean_lock (deciding (records_of setup n (first_chains setup n))) key) (decoded glock_rec o)) (none_elsewhere setup n db.GLock (lock_key key) some refl);
  shares = λ file. ap (λ o. option_and_then (clean_share (deciding (records_of setup n (first_chains setup n))) file) (decoded share_rec o)) (none_elsewhere setup n db.Locking (file_key setup file) some refl) ∙ no_file (declared_at setup.files file);
  leases = λ name. ap (λ o. option_and_then (Rattle.record_codec.specs.Counts.settled_lease (deciding (records_of setup n (first_chains setup n)))) (decoded lease_rec o)) (none_elsewhere setup n db.Leases (name_key name) some refl);
  register = λ pid. ap (option_map (clean_register (deciding (records_of setup n (first_chains setup n))))) (first_register setup n pid is some) ∙ clean_already setup (deciding (records_of setup n (first_chains setup n))) (find (is_pid pid) (start_workers 1 setup.workers));
  ranges = λ file. ap (λ o. option_and_then (clean_ranges (deciding (records_of setup n (first_chains setup n))) file) (decoded range_rec o)) (none_elsewhere setup n db.Brlock (file_key setup file) some refl) ∙ no_file (declared_at setup.files file);
  mail = λ pid. ap (decoded mail_rec) (none_elsewhere setup n db.Mailbox (pid_key pid) some refl) ∙ no_mail setup (find (is_pid pid) (start_workers 1 setup.workers));
  opens = λ file. tt;
}

-- ---- well formed

is_byte : (k x : ℕ) → byte_at k x < 256
is_byte zero x = mod-lt x (omega arith)
is_byte (suc k) x = mod-lt (x / 256 ^ suc k) (omega arith)

pub all_bytes : (n x : ℕ) → AllByRecursion (λ byte. byte < 256) (bytes_high_first n x)
all_bytes zero x = tt
all_bytes (suc n) x = (is_byte n x, all_bytes n x)

value_first : (setup : Setup) (pid : ℕ) → pid < 2 ^ 32 → (o : Option RegisterRec) → IfSome o (λ x. register_rec.valid (1, x)) → IsValue (place db.Register (pid_key pid)) (spelled register_rec (always 1) o)
value_first setup pid small None valid = tt
value_first setup pid small (Some r) valid = record {
  long = key_length_is pid small;
  bytes = subst (AllByRecursion (λ byte. byte < 256)) (sym (pid_key_is pid small)) (all_bytes 4 pid);
  spelled = ((1, r), record { valid = valid; bytes_are = refl });
}

values_first : (setup : Setup) → IsSetup setup → (infos : List WorkerInfo) → AllByRecursion IsWorker infos → AllByRecursion (λ p. IsValue p (exact_at setup false (first_view setup) p)) (worker_places infos)
values_first setup is [] all = tt
values_first setup is (info ∷ infos) all = (
  subst (IsValue (place db.Register (pid_key info.pid))) (sym (exact_at_pid setup false (first_view setup) info.pid all.0.pid.1))
      (value_first setup info.pid all.0.pid.1 (exact_register (first_view setup) info.pid) (valid_found setup info.pid setup.workers 1 (omega arith) (omega (arith, is.few_workers)))),
  values_first setup is infos all.1,
)

all_replicated : {A : Type 0} (P : A → Type 0) (n : ℕ) (x : A) → P x → AllByRecursion P (replicate n x)
all_replicated P zero x p = tt
all_replicated P (suc n) x p = (p, all_replicated P n x p)

none_formed : (n : ℕ) → 1 ≤ n → IsWellFormed n (no_chains n)
none_formed n some = record {
  chains = has_chains n some;
  rising = all_replicated IsRising (7 * n) [] refl;
  placed = λ c below. subst (AllByRecursion (IsPlaced n c)) (sym (get_or-replicate (7 * n) c [] [] below)) tt;
}

pub first_chains_stand : (setup : Setup) (n : ℕ) → IsSetup setup → 1 ≤ n → StandsFor setup n (first_chains setup n) (view (start setup))
first_chains_stand setup n is some = record {
  well_formed = well_formed-write_all n (exact_at setup false (first_view setup)) (worker_places setup.workers) (no_chains n) (none_formed n some) (values_first setup is setup.workers is.workers);
  agree = first_agree setup n is some;
}
