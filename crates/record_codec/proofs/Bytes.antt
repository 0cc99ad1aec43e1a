-- Numbers of a few bytes, the lowest first, back to the same bytes.
use Rattle.std.proofs.Common.{◌≡◌, ℕ, zero, suc, ◌+◌, ◌*◌, ◌/◌, ◌%◌, ◌^◌, ◌<◌, ◌≤◌, List, [], ◌∷◌, ◌++◌, length, get_or, take, refl, sym, ap, subst, ◌∙◌, arith}
use Rattle.std.proofs.Math.Nat.{div-div-eq-div-mul, div-one, pow-succ'}
use Rattle.std.proofs.lemmas.List.{get_or-append-add}
use Rattle.std.specs.Int.{byte_at, bytes_low_first}
use Rattle.byteorder.specs.Endian.{little_bytes, little_number, little_from}
use Rattle.byteorder.specs.Numbers.{little_from-cons}

abbrev pub IsBytes : List ℕ → Type 0
IsBytes bytes = (i : ℕ) → get_or bytes i 0 < 256

pub IsBytes-after : (bytes front rest : List ℕ) → IsBytes bytes → bytes ≡ front ++ rest → IsBytes rest
IsBytes-after bytes front rest fits e i =
    let h : get_or (front ++ rest) (length front + i) 0 < 256 = subst (λ (b : List ℕ). get_or b (length front + i) 0 < 256) e (fits (length front + i)) in
    subst (λ (n : ℕ). n < 256) (get_or-append-add front rest i 0) h

IsBytes-rest : (b : ℕ) (bytes : List ℕ) → IsBytes (b ∷ bytes) → IsBytes bytes
IsBytes-rest b bytes h i = h (suc i)

byte_at-pow : (k x : ℕ) → byte_at k x ≡ x / 256 ^ k % 256
byte_at-pow zero x = ap (λ (y : ℕ). y % 256) (sym (div-one x))
byte_at-pow (suc k) x = refl

-- a byte below moves the others up
byte_at-above : (k b z : ℕ) → b < 256 → byte_at (suc k) (b + 256 * z) ≡ byte_at k z
byte_at-above k b z lt =
    let q : (b + 256 * z) / 256 ≡ z = omega arith in
    let p : (b + 256 * z) / 256 ^ suc k ≡ z / 256 ^ k = ap (λ (p : ℕ). (b + 256 * z) / p) (pow-succ' 256 k) ∙ sym (div-div-eq-div-mul (b + 256 * z) 256 (256 ^ k)) ∙ ap (λ (y : ℕ). y / 256 ^ k) q in
    ap (λ (y : ℕ). y % 256) p ∙ sym (byte_at-pow k z)

bytes-above : (n k b z : ℕ) → b < 256 → bytes_low_first (suc k) n (b + 256 * z) ≡ bytes_low_first k n z
bytes-above zero k b z lt = refl
bytes-above (suc n) k b z lt = rw (byte_at-above k b z lt, bytes-above n (suc k) b z lt) refl

-- the bytes of the number that the first n bytes are
pub bytes-of-number : (n : ℕ) (bytes : List ℕ) → IsBytes bytes → n ≤ length bytes → little_bytes n (little_number n bytes) ≡ take n bytes
bytes-of-number zero bytes fits le = refl
bytes-of-number (suc n) [] fits le = absurd (omega arith)
bytes-of-number (suc n) (b ∷ bytes) fits le =
    let low : b < 256 = fits 0 in
    let moved : little_from 1 n (b ∷ bytes) ≡ little_from 0 n bytes = little_from-cons 0 n b bytes in
    let first : (b + 256 * little_from 0 n bytes) % 256 ≡ b = omega arith in
    let others : bytes_low_first 1 n (b + 256 * little_from 0 n bytes) ≡ take n bytes = bytes-above n 0 b (little_from 0 n bytes) low ∙ bytes-of-number n bytes (IsBytes-rest b bytes fits) (omega arith) in
    rw (moved, first, others) refl
