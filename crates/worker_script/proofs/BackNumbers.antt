-- Numbers and access rights that are written are read back.
use Rattle.std.proofs.Common.{◌≡◌, ℕ, zero, suc, ◌+◌, ◌-◌, ◌*◌, ◌/◌, ◌%◌, ◌^◌, ◌<◌, ◌≤◌, Bool, true, false, cond, eqb, leb, bit_and, List, [], ◌∷◌, length, Option, Some, None, refl, ap, ◌∙◌, arith, rules}
use Rattle.std.specs.Fmt.{decimal, digits, digits_onto, digit_glyph}
use Rattle.std.specs.List.{list_all}
use Rattle.std.proofs.lemmas.Bool.{and_parts, and_from, le-leb, lt-ltb, eq-eqb}
use Rattle.std.proofs.lemmas.Bool.Decides.{nat_tests}
use Rattle.std.proofs.lemmas.Fmt.{digits_decimal, digits_value-decimal, decimal_nonempty, length-decimal-le, digits_is_IsNumeral}
use Rattle.std.proofs.lemmas.Nat.{and_le_r}
use Rattle.std.proofs.lemmas.Str.Parse.{IsNumeralModel, numerals_by_fold}
use Rattle.sid_core.specs.declared.limits.TheConstants.{ACCESS_MASK}
use Rattle.sid_core.specs.Values.{IsU32, IsU64, IsAccess}
use Rattle.worker_script.specs.Values.{value, value_after, is_digit, is_numeral, is_number, hex_digit, hex_after, access}
use Rattle.worker_script.specs.Spelling.{access_text}
use Rattle.worker_script.proofs.BackText.{is_printable}

-- ---- decimal numbers

own : IsNumeralModel (λ ds. list_all is_digit ds ≡ true) (value_after 0)
own = numerals_by_fold _ (search rules) value_after (search rules)

pub digits-back : (n : ℕ) → IsU64 n → list_all is_digit (decimal n) ≡ true
digits-back n fits = digits_decimal own n fits

pub value-back : (n : ℕ) → IsU64 n → value (decimal n) ≡ n
unfolding value
value-back n fits = digits_value-decimal own n fits

pub number-back : (low high n : ℕ) → low ≤ n → n ≤ high → IsU64 n → is_number low high (decimal n) ≡ true
unfolding is_number is_numeral
number-back low high n above below fits =
    let some = decimal_nonempty n fits in
    let few : length (decimal n) ≤ 20 = length-decimal-le 20 n (omega arith) (omega arith) fits in
    let one : leb 1 (length (decimal n)) ≡ true = grind (arith, nat_tests) in
    let most : leb (length (decimal n)) 20 ≡ true = grind (arith, nat_tests) in
    let low' : leb low n ≡ true = grind (arith, nat_tests) in
    let high' : leb n high ≡ true = grind (arith, nat_tests) in
    rw (one, most, digits-back n fits, value-back n fits, low', high') refl

pub u32-back : (n : ℕ) → IsU32 n → is_number 0 (2 ^ 32 - 1) (decimal n) ≡ true
u32-back n fits = number-back 0 (2 ^ 32 - 1) n (omega arith) (omega arith) (omega arith)

pub u64-back : (n : ℕ) → IsU64 n → is_number 0 (2 ^ 64 - 1) (decimal n) ≡ true
u64-back n fits = number-back 0 (2 ^ 64 - 1) n (omega arith) (omega arith) fits

pub value32-back : (n : ℕ) → IsU32 n → value (decimal n) ≡ n
value32-back n fits = value-back n (omega arith)

pub digit-printable : (b : ℕ) → is_digit b ≡ true → is_printable b ≡ true
digit-printable b e =
    let both = and_parts (leb 48 b) (leb b 57) e in
    let low = both.0 in let high = both.1 in
    and_from (leb 0x21 b) (leb b 0x7E) (grind (arith, nat_tests)) (grind (arith, nat_tests))

-- ---- access rights

glyph-back : (d : ℕ) → d < 16 → hex_digit (digit_glyph false d) ≡ Some d
glyph-back d small = grind (arith, nat_tests)

glyph-printable : (d : ℕ) → d < 16 → is_printable (digit_glyph false d) ≡ true
glyph-printable d small = grind (arith, nat_tests)

hex-one : (n d : ℕ) (rest : List ℕ) → d < 16 → hex_after n (digit_glyph false d ∷ rest) ≡ hex_after (16 * n + d) rest
hex-one n d rest small =
    ap (λ o. elim o as (λ x. Option ℕ) [ None ↦ None | Some digit ↦ hex_after (16 * n + digit) rest ]) (glyph-back d small)

hex-step : (k n : ℕ) (rest : List ℕ) (last : Bool) → eqb (n / 16) 0 ≡ last → n < 16 ^ suc k
    → ((m : ℕ) (more : List ℕ) → m < 16 ^ k → hex_after 0 (digits_onto k 16 false m more) ≡ hex_after m more)
    → hex_after 0 (cond last (digit_glyph false (n % 16) ∷ rest) (digits_onto k 16 false (n / 16) (digit_glyph false (n % 16) ∷ rest))) ≡ hex_after n rest
hex-step k n rest true e small ih =
    let none : n / 16 ≡ 0 = grind (arith, nat_tests) in
    hex-one 0 (n % 16) rest (omega arith) ∙ ap (λ m. hex_after m rest) (omega (arith, none))
hex-step k n rest false e small ih =
    let power : 16 ^ suc k ≡ 16 * 16 ^ k = grind arith in
    ih (n / 16) (digit_glyph false (n % 16) ∷ rest) (omega (arith, power, small))
    ∙ (hex-one (n / 16) (n % 16) rest (omega arith) ∙ ap (λ m. hex_after m rest) (omega arith))

-- The digits stand for the number behind which the others are read.
hex-onto : (k n : ℕ) (rest : List ℕ) → n < 16 ^ k → hex_after 0 (digits_onto k 16 false n rest) ≡ hex_after n rest
hex-onto zero n rest small = let none : n ≡ 0 = omega (arith, small) in rw none refl
hex-onto (suc k) n rest small = hex-step k n rest (eqb (n / 16) 0) refl small (hex-onto k)

short-step : (k j n : ℕ) (rest : List ℕ) (last : Bool) → eqb (n / 16) 0 ≡ last → n < 16 ^ j → 1 ≤ j
    → ((i m : ℕ) (more : List ℕ) → m < 16 ^ i → 1 ≤ i → length (digits_onto k 16 false m more) ≤ i + length more)
    → length (cond last (digit_glyph false (n % 16) ∷ rest) (digits_onto k 16 false (n / 16) (digit_glyph false (n % 16) ∷ rest))) ≤ j + length rest
short-step k j n rest true e small some ih = omega arith
short-step k (suc zero) n rest false e small some ih = absurd (grind (arith, nat_tests))
short-step k (suc (suc j)) n rest false e small some ih =
    let power : 16 ^ suc (suc j) ≡ 16 * 16 ^ suc j = grind arith in
    let more = ih (suc j) (n / 16) (digit_glyph false (n % 16) ∷ rest) (omega (arith, power, small)) (omega arith) in
    omega (arith, more)
short-step k zero n rest false e small some ih = absurd (omega (arith, some))

short-onto : (k j n : ℕ) (rest : List ℕ) → n < 16 ^ j → 1 ≤ j → length (digits_onto k 16 false n rest) ≤ j + length rest
short-onto zero j n rest small some = omega arith
short-onto (suc k) j n rest small some = short-step k j n rest (eqb (n / 16) 0) refl small some (short-onto k)

printable-step : (k n : ℕ) (rest : List ℕ) (last : Bool) → list_all is_printable rest ≡ true
    → ((m : ℕ) (more : List ℕ) → list_all is_printable more ≡ true → list_all is_printable (digits_onto k 16 false m more) ≡ true)
    → list_all is_printable (cond last (digit_glyph false (n % 16) ∷ rest) (digits_onto k 16 false (n / 16) (digit_glyph false (n % 16) ∷ rest))) ≡ true
printable-step k n rest true e ih = and_from _ _ (glyph-printable (n % 16) (omega arith)) e
printable-step k n rest false e ih = ih (n / 16) (digit_glyph false (n % 16) ∷ rest) (and_from _ _ (glyph-printable (n % 16) (omega arith)) e)

printable-onto : (k n : ℕ) (rest : List ℕ) → list_all is_printable rest ≡ true → list_all is_printable (digits_onto k 16 false n rest) ≡ true
printable-onto zero n rest e = e
printable-onto (suc k) n rest e = printable-step k n rest (eqb (n / 16) 0) e (printable-onto k)

access-small : (bits : ℕ) → IsAccess bits → bits < 16 ^ 8
access-small bits is = let low = and_le_r bits ACCESS_MASK in let known = is.known in omega (arith, low, known)

hex-back : (n : ℕ) → n < 16 ^ 8 → hex_after 0 (digits 16 false n) ≡ Some n
unfolding digits
hex-back n small = hex-onto 64 n [] (omega (arith, small))

hex-short : (n : ℕ) → n < 16 ^ 8 → length (digits 16 false n) ≤ 8
unfolding digits
hex-short n small = short-onto 64 8 n [] small (omega arith)

pub access-back : (bits : ℕ) → IsAccess bits → access (access_text bits) ≡ Some bits
unfolding access
access-back bits is =
    let small = access-small bits is in
    let some = (digits_is_IsNumeral 16 false (omega arith) (omega arith) bits (omega (arith, small))).0.0 in
    rw (
      le-leb 1 (length (digits 16 false bits)) some,
      le-leb (length (digits 16 false bits)) 8 (hex-short bits small),
      hex-back bits small,
      lt-ltb 0 bits is.some,
      eq-eqb (bit_and bits ACCESS_MASK) bits is.known,
    ) refl

pub access-printable : (bits : ℕ) → list_all is_printable (digits 16 false bits) ≡ true
unfolding digits
access-printable bits = printable-onto 64 bits [] refl
