-- Numbers only grow with their digits.
use Rattle.std.proofs.Common.{◌≡◌, ℕ, ◌+◌, ◌-◌, ◌*◌, ◌^◌, ◌<◌, ◌≤◌, List, [], ◌∷◌, length, drop, get_or, arith}
use Rattle.std.proofs.lemmas.List.{at_drop_more}
use Rattle.std.proofs.Math.Nat.{pow-le-pow_right}
use Rattle.worker_script.specs.Values.{value_after}

pub value_after-ge : (n : ℕ) (digits : List ℕ) → n ≤ value_after n digits
value_after-ge n [] = omega arith
value_after-ge n (digit ∷ digits) =
    let rest = value_after-ge (10 * n + (digit - 48)) digits in omega arith

-- the number so far with one digit more is at most the whole
pub value_after-next : (n i v : ℕ) (digits : List ℕ) → i < length digits → value_after n (drop i digits) ≡ v → 10 * n + (get_or digits i 0 - 48) ≤ v
value_after-next n i v digits h e =
    let more = at_drop_more (value_after n) digits i 0 h in
    let ge = value_after-ge (10 * n + (get_or digits i 0 - 48)) (drop (i + 1) digits) in
    omega arith

-- what at most eight hexadecimal digits stand for fits 32 bits
pub hex-below : (n digits : ℕ) → n < 16 ^ digits → digits ≤ 8 → n < 2 ^ 32
hex-below n digits below few =
    let most : 16 ^ digits ≤ 16 ^ 8 = pow-le-pow_right (omega arith) few in omega arith
