-- A key is the key of what it says.
use Rattle.std.proofs.Common.{◌≡◌, ℕ, zero, suc, ◌+◌, ◌<◌, ◌≤◌, ◌==◌, ◌&&◌, ◌^◌, ◌*◌, ◌/◌, ◌%◌, inl, inr, ◌⊎◌, true, false, List, [], ◌∷◌, ◌++◌, length, drop, Some, refl, sym, ap, ◌∙◌, arith}
use Rattle.std.specs.Prelude.{nat_lt, slice_get, Bool, cond}
use Rattle.std.specs.List.{list_all}
use Rattle.std.specs.Option.{option_map_or}
use Rattle.serial_table.proofs.Members.{some_same}
use Rattle.std.proofs.lemmas.Bool.{and_parts, and_from, eqb-true, ltb-true, lt-ltb}
use Rattle.byteorder.specs.Endian.{big_bytes, big_number}
use Rattle.byteorder.specs.Numbers.{big_from-lt, big_number-reads_back}
use Rattle.sid_core.specs.declared.setup.FileInfo.{FileInfo}
use Rattle.sid_core.specs.declared.setup.Setup.{Setup}
use Rattle.serial_table.specs.ByNumber.{declared_at}
use Rattle.chain_map.specs.declared.db.Db.TheVariants as db
use Rattle.chain_map.proofs.Order.{same_key, ties_itself}
use Rattle.chain_map.proofs.Words.{AreBytes, same_words}
use Rattle.stored_table.specs.Keys.{fitting, is_key, info_key, file_key, lock_key, name_key, pid_key, has_key, file_from, file_in, lock_in, name_in, pid_in}
use Rattle.stored_table.proofs.Bridging.{are_bytes, bytes_append}
use Rattle.table_laws.proofs.Lists.{append_nothing}

bytes_at : (xs : List ℕ) → list_all (λ byte. nat_lt byte 256) xs ≡ true → AreBytes xs
bytes_at [] e k = omega arith
bytes_at (x ∷ xs) e zero = ltb-true x 256 (and_parts (nat_lt x 256) _ e).0
bytes_at (x ∷ xs) e (suc k) = bytes_at xs (and_parts (nat_lt x 256) _ e).1 k

bytes_drop : (n : ℕ) (xs : List ℕ) → list_all (λ byte. nat_lt byte 256) xs ≡ true → list_all (λ byte. nat_lt byte 256) (drop n xs) ≡ true
bytes_drop zero xs e = e
bytes_drop (suc n) [] e = refl
bytes_drop (suc n) (x ∷ xs) e = bytes_drop n xs (and_parts (nat_lt x 256) _ e).1

drop_all : (n : ℕ) (xs : List ℕ) → length xs ≡ n → drop n xs ≡ []
drop_all zero [] l = refl
drop_all zero (x ∷ xs) l = absurd (omega (arith, l))
drop_all (suc n) [] l = refl
drop_all (suc n) (x ∷ xs) l = drop_all n xs (omega (arith, l))

length_drop : (n m : ℕ) (xs : List ℕ) → length xs ≡ n + m → length (drop n xs) ≡ m
length_drop zero m xs l = omega (arith, l)
length_drop (suc n) m [] l = absurd (omega (arith, l))
length_drop (suc n) m (x ∷ xs) l = length_drop n m xs (omega (arith, l))

drop_none : (n : ℕ) → drop {A = ℕ} n [] ≡ []
drop_none zero = refl
drop_none (suc n) = refl

dropped_twice : (n m : ℕ) (xs : List ℕ) → drop m (drop n xs) ≡ drop (n + m) xs
dropped_twice zero m xs = let e : m ≡ 0 + m = omega arith in ap (λ k. drop k xs) e
dropped_twice (suc n) m [] = drop_none m ∙ sym (drop_none (suc n + m))
dropped_twice (suc n) m (x ∷ xs) = let e : suc (n + m) ≡ suc n + m = omega arith in dropped_twice n m xs ∙ ap (λ k. drop k (x ∷ xs)) e

-- the first eight bytes by their number, and the others
eight : (key : List ℕ) → 8 ≤ length key → list_all (λ byte. nat_lt byte 256) key ≡ true → (big_number 8 key < 2 ^ 64) × (key ≡ big_bytes 8 (big_number 8 key) ++ drop 8 key)
eight key long e =
    let bytes = bytes_at key e in
    let low : big_number 8 key < 256 ^ 8 = big_from-lt 0 8 key bytes in
    let first = big_bytes 8 (big_number 8 key) in
    let others : list_all (λ byte. nat_lt byte 256) (drop 8 key) ≡ true = bytes_drop 8 key e in
    let made : AreBytes (first ++ drop 8 key) = bytes_at (first ++ drop 8 key) (bytes_append first (drop 8 key) (are_bytes 8 (big_number 8 key)) others) in
    let same : big_number 8 key ≡ big_number 8 (first ++ drop 8 key) = sym (big_number-reads_back 8 (big_number 8 key) (drop 8 key) low) in
    (low, same_key key (first ++ drop 8 key) (same_words key (first ++ drop 8 key) long (omega arith) bytes made same ∙ ties_itself (drop 8 key)))

pub lock_back : (key : List ℕ) → is_key db.GLock key ≡ true → lock_key (lock_in key) ≡ key
lock_back key e =
    let p = and_parts (length key == 8) _ e in
    let long : length key ≡ 8 = eqb-true (length key) 8 p.0 in
    let h = eight key (omega (arith, long)) p.1 in
    ap (λ b. fitting b (big_bytes 8 (big_number 8 key))) (lt-ltb (big_number 8 key) (2 ^ 64) h.0)
    ∙ sym (h.1 ∙ ap (λ rest. big_bytes 8 (big_number 8 key) ++ rest) (drop_all 8 key long) ∙ append_nothing (big_bytes 8 (big_number 8 key)))

pub name_back : (key : List ℕ) → is_key db.Leases key ≡ true → name_key (name_in key) ≡ key
name_back key e =
    let p = and_parts (length key == 16) _ e in
    let long : length key ≡ 16 = eqb-true (length key) 16 p.0 in
    let h = eight key (omega (arith, long)) p.1 in
    let left : length (drop 8 key) ≡ 8 = length_drop 8 8 key long in
    let d = eight (drop 8 key) (omega (arith, left)) (bytes_drop 8 key p.1) in
    let guid = big_number 8 key in
    let number = big_number 8 (drop 8 key) in
    ap (λ b. fitting b (big_bytes 8 guid ++ big_bytes 8 number)) (and_from (nat_lt guid (2 ^ 64)) (nat_lt number (2 ^ 64)) (lt-ltb guid (2 ^ 64) h.0) (lt-ltb number (2 ^ 64) d.0))
    ∙ sym (h.1 ∙ ap (λ rest. big_bytes 8 guid ++ rest) (d.1 ∙ ap (λ rest. big_bytes 8 number ++ rest) (drop_all 8 (drop 8 key) left) ∙ append_nothing (big_bytes 8 number)))

-- a key of four bytes
pub pid_back : (key : List ℕ) → is_key db.Register key ≡ true → pid_key (pid_in key) ≡ key
pid_back key e = let p = and_parts (length key == 4) _ e in four key (eqb-true (length key) 4 p.0) p.1
  where
    four : (key : List ℕ) → length key ≡ 4 → list_all (λ byte. nat_lt byte 256) key ≡ true → pid_key (pid_in key) ≡ key
    four [] l e = absurd (omega (arith, l))
    four (a ∷ []) l e = absurd (omega (arith, l))
    four (a ∷ b ∷ []) l e = absurd (omega (arith, l))
    four (a ∷ b ∷ d ∷ []) l e = absurd (omega (arith, l))
    four (a ∷ b ∷ d ∷ f ∷ g ∷ rest) l e = absurd (omega (arith, l))
    four (a ∷ b ∷ d ∷ f ∷ []) l e =
        let x : a < 256 = bytes_at (a ∷ b ∷ d ∷ f ∷ []) e 0 in
        let y : b < 256 = bytes_at (a ∷ b ∷ d ∷ f ∷ []) e 1 in
        let z : d < 256 = bytes_at (a ∷ b ∷ d ∷ f ∷ []) e 2 in
        let w : f < 256 = bytes_at (a ∷ b ∷ d ∷ f ∷ []) e 3 in
        let n : ℕ = a * 16777216 + (b * 65536 + (d * 256 + f)) in
        let is : big_number 4 (a ∷ b ∷ d ∷ f ∷ []) ≡ n = omega arith in
        let low : n < 4294967296 = omega (arith, x, y, z, w) in
        let highest : n / 16777216 % 256 ≡ a = omega (arith, x, y, z, w) in
        let second : n / 65536 % 256 ≡ b = omega (arith, x, y, z, w) in
        let third : n / 256 % 256 ≡ d = omega (arith, x, y, z, w) in
        let lowest : n % 256 ≡ f = omega (arith, x, y, z, w) in
        ap pid_key is
        ∙ ap (λ t. fitting t (big_bytes 4 n)) (lt-ltb n (2 ^ 32) low)
        ∙ (λ i. highest i ∷ second i ∷ third i ∷ lowest i ∷ [])

-- ---- files

has_key_back : (key : List ℕ) (info : FileInfo) → length key ≡ 24 → list_all (λ byte. nat_lt byte 256) key ≡ true → has_key key info ≡ true → info_key info ≡ key
has_key_back key info long bytes e =
    let p = and_parts ((info.dev == big_number 8 key) && (info.inode == big_number 8 (drop 8 key))) (big_number 8 (drop 16 key) == 0) e in
    let q = and_parts (info.dev == big_number 8 key) (info.inode == big_number 8 (drop 8 key)) p.0 in
    let a = eight key (omega (arith, long)) bytes in
    let left : length (drop 8 key) ≡ 16 = length_drop 8 16 key long in
    let b = eight (drop 8 key) (omega (arith, left)) (bytes_drop 8 key bytes) in
    let last : length (drop 16 key) ≡ 8 = length_drop 16 8 key long in
    let d = eight (drop 16 key) (omega (arith, last)) (bytes_drop 16 key bytes) in
    (λ i. big_bytes 8 (eqb-true info.dev (big_number 8 key) q.0 i) ++ (big_bytes 8 (eqb-true info.inode (big_number 8 (drop 8 key)) q.1 i) ++ big_bytes 8 (sym (eqb-true (big_number 8 (drop 16 key)) 0 p.1) i)))
    ∙ sym (a.1 ∙ ap (λ rest. big_bytes 8 (big_number 8 key) ++ rest)
    (b.1 ∙ ap (λ rest. big_bytes 8 (big_number 8 (drop 8 key)) ++ rest)
    (dropped_twice 8 8 key ∙ d.1 ∙ ap (λ rest. big_bytes 8 (big_number 8 (drop 16 key)) ++ rest) (drop_all 8 (drop 16 key) last) ∙ append_nothing (big_bytes 8 (big_number 8 (drop 16 key))))))

searched : (key : List ℕ) (infos : List FileInfo) (low i : ℕ) (info : FileInfo) → file_from key low infos ≡ low + i → slice_get infos i ≡ Some info → 1 ≤ low → has_key key info ≡ true
searched key [] low i info at is some = absurd cc
searched key (first ∷ infos) low i info at is some = by (λ i at is. searched key infos (low + 1) i info at is (omega arith)) (has_key key first) refl i at is
  where
    above : (infos : List FileInfo) (low : ℕ) → 1 ≤ low → (file_from key low infos ≡ 0) ⊎ (low ≤ file_from key low infos)
    above [] low some = inl refl
    above (x ∷ infos) low some = which (has_key key x) (above infos (low + 1) (omega arith))
      where
        which : (b : Bool) → (file_from key (low + 1) infos ≡ 0) ⊎ (low + 1 ≤ file_from key (low + 1) infos) → (cond b low (file_from key (low + 1) infos) ≡ 0) ⊎ (low ≤ cond b low (file_from key (low + 1) infos))
        which true h = inr (omega arith)
        which false (inl h) = inl h
        which false (inr h) = inr (omega (arith, h))

    not_first : (file_from key (low + 1) infos ≡ 0) ⊎ (low + 1 ≤ file_from key (low + 1) infos) → file_from key (low + 1) infos ≡ low + 0 → ⊥
    not_first (inl h) e = omega (arith, h, e, some)
    not_first (inr h) e = omega (arith, h, e)

    by : ((i : ℕ) → file_from key (low + 1) infos ≡ low + 1 + i → slice_get infos i ≡ Some info → has_key key info ≡ true) → (b : Bool) → has_key key first ≡ b → (i : ℕ) → cond b low (file_from key (low + 1) infos) ≡ low + i → slice_get (first ∷ infos) i ≡ Some info → has_key key info ≡ true
    by later true e zero at is = ap (has_key key) (sym (some_same first info is)) ∙ e
    by later true e (suc i) at is = absurd (omega (arith, at))
    by later false e zero at is = absurd (not_first (above infos (low + 1) (omega arith)) at)
    by later false e (suc i) at is = later i (omega (arith, at)) is

-- where it is the key of a declared file
pub file_back : (setup : Setup) (key : List ℕ) (info : FileInfo) → is_key db.Locking key ≡ true → declared_at setup.files (file_in setup key) ≡ Some info → file_key setup (file_in setup key) ≡ key
file_back setup key info e is = by (file_in setup key) refl is
  where
    by : (file : ℕ) → file_in setup key ≡ file → declared_at setup.files file ≡ Some info → file_key setup (file_in setup key) ≡ key
    by zero at is = absurd cc
    by (suc i) at is =
        let p = and_parts (length key == 24) _ e in
        ap (λ f. option_map_or info_key (declared_at setup.files f) []) at
        ∙ ap (λ o. option_map_or info_key o []) is
        ∙ has_key_back key info (eqb-true (length key) 24 p.0) p.1 (searched key setup.files 1 i info (at ∙ omega arith) is (omega arith))
