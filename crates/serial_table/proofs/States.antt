-- The states that a lease can be in are closed under taking bits away and adding bits.
use Rattle.std.proofs.Common.{◌≡◌, ◌==◌, ◌≤◌, ◌+◌, ℕ, Bool, true, false, not, ◌||◌, List, [], ◌∷◌, refl, subst}
use Rattle.std.specs.Prelude.{bit_and, bit_or, nat_le}
use Rattle.std.specs.List.{list_all}
use Rattle.std.proofs.lemmas.Bool.{eqb-true, leb-true}
use Rattle.sid_core.specs.Values.{is_part_of, is_state}
use Rattle.serial_table.proofs.Members.{each, one_of}
use Rattle.serial_table.proofs.Losing.{bits}

abbrev states : List ℕ
states = 0 ∷ 1 ∷ 3 ∷ 5 ∷ 7 ∷ []

-- what each of them passes, a state passes
each_state : (p : ℕ → Bool) → list_all p states ≡ true → (n : ℕ) → is_state n ≡ true → p n ≡ true
each_state p all n e = let s = one_of (λ state. state == n) states e in subst (λ m. p m ≡ true) (eqb-true s.0 n s.2) (each p states all s.0 s.1)

each_two : (p : ℕ → ℕ → Bool) → list_all (λ a. list_all (p a) states) states ≡ true → (a b : ℕ) → is_state a ≡ true → is_state b ≡ true → p a b ≡ true
each_two p all a b ea eb = each_state (p a) (each_state (λ a. list_all (p a) states) all a ea) b eb

each_three : (p : ℕ → ℕ → ℕ → Bool) → list_all (λ a. list_all (λ b. list_all (p a b) states) states) states ≡ true
    → (a b c : ℕ) → is_state a ≡ true → is_state b ≡ true → is_state c ≡ true → p a b c ≡ true
each_three p all a b c ea eb ec = each_state (p a b) (each_two (λ a b. list_all (p a b) states) all a b ea eb) c ec

if_so : (a b : Bool) → (not a || b) ≡ true → a ≡ true → b ≡ true
if_so true b e h = e
if_so false b e h = absurd cc

if_not : (a b : Bool) → (a || b) ≡ true → a ≡ false → b ≡ true
if_not true b e h = absurd cc
if_not false b e h = e

pub state_and : (a b : ℕ) → is_state a ≡ true → is_state b ≡ true → is_state (bit_and a b) ≡ true
state_and = each_two (λ a b. is_state (bit_and a b)) refl

pub state_or : (a b : ℕ) → is_state a ≡ true → is_state b ≡ true → is_state (bit_or a b) ≡ true
state_or = each_two (λ a b. is_state (bit_or a b)) refl

pub part_itself : (a : ℕ) → is_state a ≡ true → is_part_of a a ≡ true
part_itself = each_state (λ a. is_part_of a a) refl

pub part_and : (a b : ℕ) → is_state a ≡ true → is_state b ≡ true → is_part_of (bit_and a b) a ≡ true
part_and = each_two (λ a b. is_part_of (bit_and a b) a) refl

-- what isn't part of what is kept loses something
pub less_and : (a b : ℕ) → is_state a ≡ true → is_state b ≡ true → is_part_of a b ≡ false → not (bit_and a b == a) ≡ true
less_and a b ea eb e = if_not (is_part_of a b) (not (bit_and a b == a)) (each_two (λ a b. is_part_of a b || not (bit_and a b == a)) refl a b ea eb) e

-- less of a part is part too
pub part_less : (needed asked kept : ℕ) → is_state needed ≡ true → is_state asked ≡ true → is_state kept ≡ true → is_part_of needed asked ≡ true → is_part_of (bit_and needed kept) asked ≡ true
part_less needed asked kept en ea ek e =
    if_so (is_part_of needed asked) (is_part_of (bit_and needed kept) asked)
    (each_three (λ n a k. not (is_part_of n a) || is_part_of (bit_and n k) a) refl needed asked kept en ea ek) e

-- ---- the bits of a state that loses some

pub bits_and : (a b : ℕ) → is_state a ≡ true → is_state b ≡ true → bits (bit_and a b) ≤ bits a
bits_and a b ea eb = leb-true (bits (bit_and a b)) (bits a) (each_two (λ a b. nat_le (bits (bit_and a b)) (bits a)) refl a b ea eb)

pub bits_less : (a b : ℕ) → is_state a ≡ true → is_state b ≡ true → is_part_of a b ≡ false → bits (bit_and a b) + 1 ≤ bits a
bits_less a b ea eb e =
    leb-true (bits (bit_and a b) + 1) (bits a)
    (if_not (is_part_of a b) (nat_le (bits (bit_and a b) + 1) (bits a)) (each_two (λ a b. is_part_of a b || nat_le (bits (bit_and a b) + 1) (bits a)) refl a b ea eb) e)
