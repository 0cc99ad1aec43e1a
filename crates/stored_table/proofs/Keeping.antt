-- What an entry writes keeps the chains well formed.
use Rattle.std.proofs.Common.{◌≡◌, ℕ, ◌^◌, ◌<◌, Bool, true, false, cond, ◌&&◌, eqb, ltb, List, [], ◌∷◌, length, Option, Some, None, refl, sym, ap, subst, ◌∙◌}
use Rattle.std.specs.Prelude.{IfSome}
use Rattle.std.specs.declared.cmp.Ordering.{Ordering}
use Rattle.std.specs.declared.cmp.Ordering.TheVariants.{Less, Equal, Greater}
use Rattle.std.specs.Ordering.{is_eq}
use Rattle.std.specs.List.{list_all, AllByRecursion}
use Rattle.std.specs.Option.{option_and_then}
use Rattle.std.proofs.lemmas.Bool.{eqb-true, ltb-true, and_parts}
use Rattle.sid_core.specs.declared.entry.Entry.{Entry}
use Rattle.sid_core.specs.declared.setup.Setup.{Setup}
use Rattle.serial_table.specs.View.{View}
use Rattle.chain_map.specs.declared.db.Db.{Db}
use Rattle.chain_map.specs.declared.db.Db.TheVariants as db
use Rattle.chain_map.specs.Pairs.{Pairs, byte_order, find}
use Rattle.chain_map.proofs.Order.{same_key}
use Rattle.record_codec.specs.declared.open_rec.OpenRec.{OpenRec}
use Rattle.record_codec.specs.Codec.{Codec}
use Rattle.record_codec.specs.OpenRec.{open_rec}
use Rattle.record_codec.specs.GLockRec.{glock_rec}
use Rattle.record_codec.specs.ShareRec.{share_rec}
use Rattle.record_codec.specs.LeaseRec.{lease_rec}
use Rattle.record_codec.specs.RegisterRec.{register_rec}
use Rattle.record_codec.specs.RangeRec.{range_rec}
use Rattle.record_codec.specs.MailRec.{mail_rec}
use Rattle.stored_table.specs.Keys.{is_key, key_length, lock_in, pid_in, name_in, file_in}
use Rattle.stored_table.specs.Places.{Chains, Place, place, same_place, chain_of, chain_at, value_at}
use Rattle.stored_table.specs.Decoded.{decoded}
use Rattle.stored_table.specs.Exact.{spelled, always, share_version, is_empty, exact_lock, exact_share, exact_lease, exact_register, exact_ranges, exact_mail}
use Rattle.stored_table.specs.Move.{AddedOpen, added, is_by_old, if_open, still_open, new_open_record, new_in, new_at, places_written, move}
use Rattle.stored_table.specs.Stands.{HasValue, IsSpelled, IsPlaced, IsWellFormed, HasSpelling, HaveSpellings, AddedHasSpelling}
use Rattle.stored_table.proofs.Versions.{share_some_valid}
use Rattle.stored_table.proofs.Writing.{place_is, chain_below}
use Rattle.stored_table.proofs.Forming.{MayStand, IsValue, db_of_chain, well_formed-write_all}

all_of : (xs : List ℕ) → list_all (λ byte. ltb byte 256) xs ≡ true → AllByRecursion (λ byte. byte < 256) xs
all_of [] e = tt
all_of (x ∷ xs) e = let p = and_parts (ltb x 256) (list_all (λ byte. ltb byte 256) xs) e in (ltb-true x 256 p.0, all_of xs p.1)

stands : (d : Db) (key value : List ℕ) → is_key d key ≡ true → IsSpelled d value → MayStand (place d key) value
stands d key value e s = let p = and_parts (eqb (length key) (key_length d)) (list_all (λ byte. ltb byte 256) key) e in record { long = eqb-true _ _ p.0; bytes = all_of key p.1; spelled = s }

-- ---- exact records

exact_value : {A : Type 0} (c : Codec (ℕ × A)) (version : A → ℕ) (d : Db) (key : List ℕ) (b : Bool) → is_key d key ≡ b → ((value : List ℕ) → HasValue c value → IsSpelled d value) → (x : Option A) → IfSome x (λ y. c.valid (version y, y)) → IsValue (place d key) (cond b (spelled c version x) None)
exact_value c version d key false e f x valid = tt
exact_value c version d key true e f None valid = tt
exact_value c version d key true e f (Some x) valid = stands d key (c.spell (version x, x)) e (f (c.spell (version x, x)) ((version x, x), record { valid = valid; bytes_are = refl }))

-- ---- open records

found_in : (P : List ℕ × List ℕ → Type 0) (key value : List ℕ) (pairs : Pairs) → AllByRecursion P pairs → find key pairs ≡ Some value → P (key, value)
found_in P key value [] all e = absurd cc
found_in P key value (pair ∷ pairs) all e = go (byte_order key pair.0) refl (found_in P key value pairs all.1) e
  where
    some_is : (a b : List ℕ) → ◌≡◌ {A = Option (List ℕ)} (Some a) (Some b) → a ≡ b
    some_is a b h = cc

    go : (o : Ordering) → byte_order key pair.0 ≡ o → (find key pairs ≡ Some value → P (key, value)) → cond (is_eq o) (Some pair.1) (find key pairs) ≡ Some value → P (key, value)
    go Less h later f = later f
    go Equal h later f = subst P (λ i. (sym (same_key key pair.0 h) i, some_is pair.1 value f i)) all.0
    go Greater h later f = later f

pub old_value : (n : ℕ) (k : Chains) (p : Place) → IsWellFormed n k → (o : Option (List ℕ)) → value_at n k p ≡ o → IsValue p o
old_value n k p w None e = tt
old_value n k p w (Some value) e =
    let placed = found_in (IsPlaced n (chain_of n p)) p.key value (chain_at k (chain_of n p)) (w.placed (chain_of n p) (chain_below n p w.chains.some)) e in
    let d = db_of_chain n p w.chains.some in
    record { long = placed.long ∙ ap key_length d; bytes = placed.bytes; spelled = subst (λ x. IsSpelled x value) d placed.spelled }

if_value : (p : Place) (b : Bool) (x : Option (List ℕ)) → IsValue p x → IsValue p (cond b None x)
if_value p true x h = tt
if_value p false x h = h

still_value : (v : View) (p : Place) (bytes : List ℕ) (o : Option OpenRec) → MayStand p bytes → IsValue p (option_and_then (if_open v bytes) o)
still_value v p bytes None h = tt
still_value v p bytes (Some r) h = if_value p (is_empty (v.opens_of_id r.id)) (Some bytes) h

still_open_value : (v : View) (p : Place) (value : Option (List ℕ)) → IsValue p value → IsValue p (still_open v value)
still_open_value v p None h = tt
still_open_value v p (Some bytes) h = still_value v p bytes (decoded open_rec (Some bytes)) h

added_value : (v : View) (a : AddedOpen) (p : Place) (rest : Option (List ℕ)) (b : Bool) → (is_key db.Opens a.key && same_place (place db.Opens a.key) p) ≡ b → open_rec.valid (1, a.value) → IsValue p rest → IsValue p (cond b (Some (open_rec.spell (1, a.value))) rest)
added_value v a p rest false e valid h = h
added_value v a p rest true e valid h =
    let both = and_parts (is_key db.Opens a.key) (same_place (place db.Opens a.key) p) e in
    subst (λ (q : Place). MayStand q (open_rec.spell (1, a.value))) (place_is (place db.Opens a.key) p both.1)
    (stands db.Opens a.key (open_rec.spell (1, a.value)) both.0 ((1, a.value), record { valid = valid; bytes_are = refl }))

new_open_value : (v : View) (a : Option AddedOpen) (p : Place) (value : Option (List ℕ)) → AddedHasSpelling a → IsValue p value → IsValue p (new_open_record v a p value)
new_open_value v None p value valid h = still_open_value v p value h
new_open_value v (Some a) p value valid h = added_value v a p (still_open v value) (is_key db.Opens a.key && same_place (place db.Opens a.key) p) refl valid (still_open_value v p value h)

-- ---- all that is written

pub first_part : {A : Type 0} (c : Codec (ℕ × A)) (version : ℕ) (fits : Type 0) (o : Option A) → HasSpelling c version fits o → IfSome o (λ x. c.valid (version, x))
first_part c version fits None h = tt
first_part c version fits (Some x) h = h.0

new_value : (setup : Setup) (n : ℕ) (k : Chains) (old : Bool) (v : View) (a : Option AddedOpen) (d : Db) (key : List ℕ) → IsWellFormed n k → HaveSpellings setup v → AddedHasSpelling a → IsValue (place d key) (new_in setup old v a d (place d key) (value_at n k (place d key)))
new_value setup n k old v a db.Opens key w s valid = new_open_value v a (place db.Opens key) (value_at n k (place db.Opens key)) valid (old_value n k (place db.Opens key) w (value_at n k (place db.Opens key)) refl)
new_value setup n k old v a db.GLock key w s valid = exact_value glock_rec (always 1) db.GLock key (is_key db.GLock key) refl (λ value h. h) (exact_lock v (lock_in key)) (first_part glock_rec 1 (lock_in key < 2 ^ 64) (exact_lock v (lock_in key)) (s.locks (lock_in key)))
new_value setup n k old v a db.Locking key w s valid = exact_value share_rec (share_version old) db.Locking key (is_key db.Locking key) refl (λ value h. h) (exact_share setup v (file_in setup key)) (share_some_valid old (exact_share setup v (file_in setup key)) (s.shares (file_in setup key)))
new_value setup n k old v a db.Leases key w s valid = exact_value lease_rec (always 2) db.Leases key (is_key db.Leases key) refl (λ value h. h) (exact_lease v (name_in key)) (first_part lease_rec 2 (((name_in key).guid < 2 ^ 64) × ((name_in key).key < 2 ^ 64)) (exact_lease v (name_in key)) (s.leases (name_in key)))
new_value setup n k old v a db.Register key w s valid = exact_value register_rec (always 1) db.Register key (is_key db.Register key) refl (λ value h. h) (exact_register v (pid_in key)) (first_part register_rec 1 (pid_in key < 2 ^ 32) (exact_register v (pid_in key)) (s.register (pid_in key)))
new_value setup n k old v a db.Brlock key w s valid = exact_value range_rec (always 1) db.Brlock key (is_key db.Brlock key) refl (λ value h. h) (exact_ranges setup v (file_in setup key)) (s.ranges (file_in setup key))
new_value setup n k old v a db.Mailbox key w s valid = exact_value mail_rec (always 1) db.Mailbox key (is_key db.Mailbox key) refl (λ value h. h) (exact_mail v (pid_in key)) (first_part mail_rec 1 (pid_in key < 2 ^ 32) (exact_mail v (pid_in key)) (s.mail (pid_in key)))

new_values : (setup : Setup) (n : ℕ) (k : Chains) (old : Bool) (v : View) (a : Option AddedOpen) (ps : List Place) → IsWellFormed n k → HaveSpellings setup v → AddedHasSpelling a → AllByRecursion (λ p. IsValue p (new_at setup n k old v a p)) ps
new_values setup n k old v a [] w s valid = tt
new_values setup n k old v a (p ∷ ps) w s valid = (new_value setup n k old v a p.db p.key w s valid, new_values setup n k old v a ps w s valid)

pub well_formed-move : (setup : Setup) (n : ℕ) (k : Chains) (e : Entry) (v : View) → IsWellFormed n k → HaveSpellings setup v → AddedHasSpelling (added setup v e) → IsWellFormed n (move setup n k e v)
well_formed-move setup n k e v w s valid =
    well_formed-write_all n (new_at setup n k (is_by_old setup e) v (added setup v e)) (places_written setup n k e) k w (new_values setup n k (is_by_old setup e) v (added setup v e) (places_written setup n k e) w s valid)
