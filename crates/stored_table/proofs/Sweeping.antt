-- After a chain is tidied, no record of it has a stale part.
use Rattle.std.proofs.Common.{◌≡◌, ℕ, zero, suc, ◌/◌, ◌^◌, ◌<◌, Bool, true, false, cond, ◌&&◌, ◌||◌, List, [], ◌∷◌, Option, Some, None, refl, sym, ap, ap₂, ◌∙◌}
use Rattle.std.specs.Prelude.{IfSome, is_some}
use Rattle.std.specs.declared.cmp.Ordering.TheVariants.{Less}
use Rattle.std.specs.Ordering.{eq_by_cmp, is_eq, is_lt}
use Rattle.std.specs.Option.{option_and_then}
use Rattle.std.specs.List.{list_any, AllByRecursion}
use Rattle.std.specs.FinMap.Entries.{below_all, is_some-find}
use Rattle.std.proofs.lemmas.Bool.{and_parts, both_ways, eq-eqb}
use Rattle.sid_core.specs.declared.entry.Entry.{Entry}
use Rattle.sid_core.specs.declared.entry.Event.TheVariants.{Tidied}
use Rattle.sid_core.specs.declared.setup.Setup.{Setup}
use Rattle.serial_table.specs.View.{View}
use Rattle.chain_map.specs.declared.db.Db.{Db}
use Rattle.chain_map.specs.declared.db.Db.TheVariants as db
use Rattle.chain_map.specs.Hash.{db_number}
use Rattle.chain_map.specs.Pairs.{Pairs, byte_order, find, IsRising}
use Rattle.chain_map.proofs.Order.{ties_itself, turned, less_from_test}
use Rattle.record_codec.specs.declared.open_rec.OpenRec.{OpenRec}
use Rattle.record_codec.specs.Codec.{Codec}
use Rattle.record_codec.specs.OpenRec.{open_rec}
use Rattle.record_codec.specs.GLockRec.{glock_rec}
use Rattle.record_codec.specs.ShareRec.{share_rec}
use Rattle.record_codec.specs.LeaseRec.{lease_rec}
use Rattle.record_codec.specs.RegisterRec.{register_rec}
use Rattle.record_codec.specs.RangeRec.{range_rec}
use Rattle.record_codec.specs.MailRec.{mail_rec}
use Rattle.record_codec.proofs.Exact.{IsExact}
use Rattle.record_codec.proofs.GLockExact.{glock_exact}
use Rattle.record_codec.proofs.ShareExact.{share_exact}
use Rattle.record_codec.proofs.LeaseExact.{lease_exact}
use Rattle.record_codec.proofs.RegisterExact.{register_exact}
use Rattle.record_codec.proofs.RangeExact.{range_exact}
use Rattle.record_codec.proofs.MailExact.{mail_exact}
use Rattle.stored_table.specs.Keys.{is_key, lock_in, pid_in, name_in, file_in}
use Rattle.stored_table.specs.Places.{Chains, place, among, chain_of, chain_at, value_at, write_all}
use Rattle.stored_table.specs.Decoded.{decoded}
use Rattle.stored_table.specs.Exact.{spelled, always, share_version, is_empty, exact_lock, exact_share, exact_lease, exact_register, exact_ranges, exact_mail}
use Rattle.stored_table.specs.Met.{keys_at, places_in}
use Rattle.stored_table.specs.Move.{if_open, still_open, new_in, new_at, move, db_of_number, places_at}
use Rattle.stored_table.specs.Stands.{IsPlaced, IsWellFormed, SpellsExact, IsOpenNow, IsClean, IsSwept, HaveSpellings}
use Rattle.stored_table.proofs.Writing.{value_at-write_all}
use Rattle.stored_table.proofs.Bridging.{decoded_spelled}
use Rattle.stored_table.proofs.Versions.{share_some_valid}
use Rattle.stored_table.proofs.Locality.{all_placed}
use Rattle.stored_table.proofs.Keeping.{first_part, well_formed-move}

-- ---- each pair of a rising chain is found

tie_of_less : (a b : List ℕ) → byte_order a b ≡ Less → eq_by_cmp byte_order b a ≡ false
tie_of_less a b e = ap is_eq (turned a b Less e)

all_less : (key : List ℕ) (pairs : Pairs) → below_all byte_order key pairs ≡ true → AllByRecursion (λ pair. byte_order key pair.0 ≡ Less) pairs
all_less key [] e = tt
all_less key (pair ∷ pairs) e = let p = and_parts (is_lt (byte_order key pair.0)) (below_all byte_order key pairs) e in (less_from_test (byte_order key pair.0) p.0, all_less key pairs p.1)

all_found_in : (P : List ℕ × List ℕ → Type 0) (Q : List ℕ → Type 0) (pairs : Pairs) → IsRising pairs → AllByRecursion (λ pair. Q pair.0) pairs → ((key value : List ℕ) → Q key → find key pairs ≡ Some value → P (key, value)) → AllByRecursion P pairs
all_found_in P Q [] rising q f = tt
all_found_in P Q (pair ∷ pairs) rising q f =
    let p = and_parts (below_all byte_order pair.0 pairs) _ rising in (
      f pair.0 pair.1 q.0 (ap (λ o. cond (is_eq o) (Some pair.1) (find pair.0 pairs)) (ties_itself pair.0)),
      all_found_in P (λ key. Q key × (byte_order pair.0 key ≡ Less)) pairs p.1 (both_all Q (λ key. byte_order pair.0 key ≡ Less) pairs q.1 (all_less pair.0 pairs p.0))
          (λ key value h e. f key value h.0 (ap (λ b. cond b (Some pair.1) (find key pairs)) (tie_of_less pair.0 key h.1) ∙ e)),
    )
  where
    both_all : (Q R : List ℕ → Type 0) (pairs : Pairs) → AllByRecursion (λ pair. Q pair.0) pairs → AllByRecursion (λ pair. R pair.0) pairs → AllByRecursion (λ pair. Q pair.0 × R pair.0) pairs
    both_all Q R [] a b = tt
    both_all Q R (x ∷ xs) a b = ((a.0, b.0), both_all Q R xs a.1 b.1)

-- ---- what is written is clean

same_bytes : (a b : List ℕ) → ◌≡◌ {A = Option (List ℕ)} (Some a) (Some b) → a ≡ b
same_bytes a b e = cc

open_now : (v : View) (bytes value : List ℕ) (r : OpenRec) (b : Bool) → is_empty (v.opens_of_id r.id) ≡ b → cond b None (Some bytes) ≡ Some value → IsOpenNow v r × (bytes ≡ value)
open_now v bytes value r true e h = absurd cc
open_now v bytes value r false e h = (e, same_bytes bytes value h)

open_from : (v : View) (bytes value : List ℕ) (o : Option OpenRec) → decoded open_rec (Some bytes) ≡ o → option_and_then (if_open v bytes) o ≡ Some value → (r : OpenRec) × (decoded open_rec (Some value) ≡ Some r) × IsOpenNow v r
open_from v bytes value None e h = absurd cc
open_from v bytes value (Some r) e h =
    let p = open_now v bytes value r (is_empty (v.opens_of_id r.id)) refl h in
    (r, ap (λ x. decoded open_rec (Some x)) (sym p.1) ∙ e, p.0)

still_clean : (v : View) (old : Option (List ℕ)) (value : List ℕ) → still_open v old ≡ Some value → (r : OpenRec) × (decoded open_rec (Some value) ≡ Some r) × IsOpenNow v r
still_clean v None value h = absurd cc
still_clean v (Some bytes) value h = open_from v bytes value (decoded open_rec (Some bytes)) refl h

-- an exact record that is spelled spells the exact record
spells_some : {A : Type 0} (c : Codec (ℕ × A)) → IsExact c → (version : A → ℕ) (x : Option A) (value : List ℕ) → IfSome x (λ y. c.valid (version y, y)) → spelled c version x ≡ Some value → SpellsExact c value x
spells_some c exact version None value valid h = absurd cc
spells_some c exact version (Some x) value valid h = (x, refl, ap (decoded c) (sym h) ∙ decoded_spelled c exact version (Some x) valid)

spells_exact : {A : Type 0} (c : Codec (ℕ × A)) → IsExact c → (version : A → ℕ) (b : Bool) (x : Option A) (value : List ℕ) → IfSome x (λ y. c.valid (version y, y)) → cond b (spelled c version x) None ≡ Some value → SpellsExact c value x
spells_exact c exact version true x value valid h = spells_some c exact version x value valid h
spells_exact c exact version false x value valid h = absurd cc

clean_new : (setup : Setup) (n : ℕ) (k : Chains) (v : View) (d : Db) (key value : List ℕ) → HaveSpellings setup v → new_in setup false v None d (place d key) (value_at n k (place d key)) ≡ Some value → IsClean setup v d key value
clean_new setup n k v db.Opens key value s h = still_clean v (value_at n k (place db.Opens key)) value h
clean_new setup n k v db.GLock key value s h = spells_exact glock_rec glock_exact (always 1) (is_key db.GLock key) (exact_lock v (lock_in key)) value (first_part glock_rec 1 (lock_in key < 2 ^ 64) (exact_lock v (lock_in key)) (s.locks (lock_in key))) h
clean_new setup n k v db.Locking key value s h = spells_exact share_rec share_exact (share_version false) (is_key db.Locking key) (exact_share setup v (file_in setup key)) value (share_some_valid false (exact_share setup v (file_in setup key)) (s.shares (file_in setup key))) h
clean_new setup n k v db.Leases key value s h = spells_exact lease_rec lease_exact (always 2) (is_key db.Leases key) (exact_lease v (name_in key)) value (first_part lease_rec 2 (((name_in key).guid < 2 ^ 64) × ((name_in key).key < 2 ^ 64)) (exact_lease v (name_in key)) (s.leases (name_in key))) h
clean_new setup n k v db.Register key value s h = spells_exact register_rec register_exact (always 1) (is_key db.Register key) (exact_register v (pid_in key)) value (first_part register_rec 1 (pid_in key < 2 ^ 32) (exact_register v (pid_in key)) (s.register (pid_in key))) h
clean_new setup n k v db.Brlock key value s h = spells_exact range_rec range_exact (always 1) (is_key db.Brlock key) (exact_ranges setup v (file_in setup key)) value (s.ranges (file_in setup key)) h
clean_new setup n k v db.Mailbox key value s h = spells_exact mail_rec mail_exact (always 1) (is_key db.Mailbox key) (exact_mail v (pid_in key)) value (first_part mail_rec 1 (pid_in key < 2 ^ 32) (exact_mail v (pid_in key)) (s.mail (pid_in key))) h

among_keys : (d : Db) (key : List ℕ) (keys : List (List ℕ)) → among (place d key) (places_in d keys) ≡ list_any (eq_by_cmp byte_order key) keys
among_keys d key [] = refl
among_keys d key (other ∷ keys) = ap₂ (λ a b. (a && eq_by_cmp byte_order key other) || b) (eq-eqb (db_number d) (db_number d) refl) (among_keys d key keys)

among_found : (k : Chains) (c : ℕ) (d : Db) (key : List ℕ) → among (place d key) (places_in d (keys_at k c)) ≡ is_some (find key (chain_at k c))
among_found k c d key = among_keys d key (keys_at k c) ∙ sym (is_some-find byte_order key (chain_at k c))

from_either : (b : Bool) (x y : Option (List ℕ)) (value : List ℕ) → cond b x y ≡ Some value → b ≡ is_some y → x ≡ Some value
from_either true x y value h e = h
from_either false x y value h e = absurd (both_ways (is_some y) (sym e) (ap is_some h))

-- ---- the tidied chain

abbrev tidying : ℕ → ℕ → ℕ → Entry
tidying by seq c = record { by = by; seq = seq; what = Tidied c }

swept_at : (setup : Setup) (n by seq c : ℕ) (k : Chains) (v : View) (key value : List ℕ) → IsWellFormed n k → HaveSpellings setup v → chain_of n (place (db_of_number (c / n)) key) ≡ c
    → find key (chain_at (move setup n k (tidying by seq c) v) c) ≡ Some value → IsClean setup v (db_of_number (c / n)) key value
swept_at setup n by seq c k v key value w s at found =
    let new = new_at setup n k false v None in
    let p = place (db_of_number (c / n)) key in
    let ps = places_at n k c in
    let looked : value_at n (write_all n new ps k) p ≡ Some value = ap (λ x. find key (chain_at (write_all n new ps k) x)) at ∙ found in
    let was : find key (chain_at k (chain_of n p)) ≡ find key (chain_at k c) = ap (λ x. find key (chain_at k x)) at in
    clean_new setup n k v (db_of_number (c / n)) key value s
    (from_either (among p ps) (new p) (value_at n k p) value (sym (value_at-write_all n new ps k p w.chains) ∙ looked) (among_found k c (db_of_number (c / n)) key ∙ ap is_some (sym was)))

at_home : (n c : ℕ) (pairs : Pairs) → AllByRecursion (IsPlaced n c) pairs → AllByRecursion (λ pair. chain_of n (place (db_of_number (c / n)) pair.0) ≡ c) pairs
at_home n c [] h = tt
at_home n c (pair ∷ pairs) h = (h.0.at_home, at_home n c pairs h.1)

rising_at : (k : Chains) (c : ℕ) → AllByRecursion IsRising k → IsRising (chain_at k c)
rising_at [] c h = refl
rising_at (x ∷ k) zero h = h.0
rising_at (x ∷ k) (suc c) h = rising_at k c h.1

pub tidied_is_swept : (setup : Setup) (n by seq c : ℕ) (k : Chains) (v : View) → IsWellFormed n k → HaveSpellings setup v
    → IsSwept setup n (move setup n k (tidying by seq c) v) v c
tidied_is_swept setup n by seq c k v w s =
    let k' = move setup n k (tidying by seq c) v in
    let u = well_formed-move setup n k (tidying by seq c) v w s tt in
    all_found_in (λ pair. IsClean setup v (db_of_number (c / n)) pair.0 pair.1) (λ key. chain_of n (place (db_of_number (c / n)) key) ≡ c) (chain_at k' c) (rising_at k' c u.rising)
    (at_home n c (chain_at k' c) (all_placed n k' c u)) (λ key value at found. swept_at setup n by seq c k v key value w s at found)
