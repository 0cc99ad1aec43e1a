-- Places of lists.
use Rattle.std.proofs.Common.{◌≡◌, ℕ, zero, suc, ◌+◌, ◌<◌, ◌≤◌, Bool, true, false, List, [], ◌∷◌, ◌++◌, length, slice_set, slice_index_or, sym, refl, ap, ◌∙◌, subst, arith, min, ◌^◌, take, Some, None, cond, eqb, eq-eqb}
use Rattle.std.proofs.Common as std
use Rattle.std.specs.Prelude.{is_some, not, OnErr}
use Rattle.std.specs.declared.result.Result.{Result}
use Rattle.std.specs.declared.result.Result.TheVariants.{Ok, Err}
use Rattle.std.specs.List.{position, position_or_len}
use Rattle.std.proofs.lemmas.List.Quantifiers.{position-Some}
use Rattle.std.proofs.lemmas.List.Sums.{fails_before_first}
use Rattle.std.proofs.lemmas.Bool.{lt-ltb, eqb-true}
use mathlib.Core.Logic.{dite}
use native.Mathlib.Decide.{dec_le}
use mathlib.Core.Option.{some, some-ne-none, some-injective}
use Rattle.turn_types.specs.Calls.{RoseBy}
use lib.ListN.{get_elem?}
pub use Rattle.turn_types.proofs.Rows.{set_self}
pub use Rattle.turn_types.proofs.Runs.{is_within as within}

pub set_same : {A : Type 0} (xs : List A) (n : ℕ) (x : A) → n < length xs → get_elem? (slice_set xs n x) n ≡ some x
set_same [] n x l = absurd (omega arith)
set_same (y ∷ xs) zero x l = refl
set_same (y ∷ xs) (suc n) x l = set_same xs n x (omega arith)

pub set_other : {A : Type 0} (xs : List A) (n m : ℕ) (x : A) → (m ≡ n → ⊥) → get_elem? (slice_set xs n x) m ≡ get_elem? xs m
set_other [] n m x d = refl
set_other (y ∷ xs) zero zero x d = absurd (d refl)
set_other (y ∷ xs) zero (suc m) x d = refl
set_other (y ∷ xs) (suc n) zero x d = refl
set_other (y ∷ xs) (suc n) (suc m) x d = set_other xs n m x (λ e. d (ap suc e))

pub at_place : {A : Type 0} (xs : List A) (n : ℕ) (x : A) → n < length xs → x ≡ slice_index_or xs n x → get_elem? xs n ≡ some x
at_place [] n x l e = absurd (omega arith)
at_place (y ∷ xs) zero x l e = ap some (sym e)
at_place (y ∷ xs) (suc n) x l e = at_place xs n x (omega arith) e

pub place_is : {A : Type 0} (xs : List A) (n : ℕ) (x d : A) → get_elem? xs n ≡ some x → slice_index_or xs n d ≡ x
place_is [] n x d e = absurd (some-ne-none x (sym e))
place_is (y ∷ xs) zero x d e = some-injective y x e
place_is (y ∷ xs) (suc n) x d e = place_is xs n x d e

pub there : {A : Type 0} (xs : List A) (n : ℕ) → n < length xs → (x : A) × (get_elem? xs n ≡ some x)
there [] n l = absurd (omega arith)
there (y ∷ xs) zero l = (y, refl)
there (y ∷ xs) (suc n) l = there xs n (omega arith)

pub rose : (a r : ℕ) → a < 2 ^ 64 → r ≡ min (a + 1) 18446744073709551615 → RoseBy 1 a r
rose a r l e = ((λ h. omega arith), omega arith)

pub is_false : (xs : List Bool) (h : ℕ) → (get_elem? xs h ≡ some true → ⊥) → slice_index_or xs h false ≡ false
is_false [] h n = refl
is_false (true ∷ xs) zero n = absurd (n refl)
is_false (false ∷ xs) zero n = refl
is_false (x ∷ xs) (suc h) n = is_false xs h n

pub take_prefix : {A : Type 0} (s : ℕ) (xs : List A) → (zs : List A) × (xs ≡ take s xs ++ zs)
take_prefix zero xs = (xs, refl)
take_prefix (suc s) [] = ([], refl)
take_prefix (suc s) (x ∷ xs) = let r = take_prefix s xs in (r.0, ap (λ t. x ∷ t) r.1)

pub take_whole : {A : Type 0} (s : ℕ) (xs : List A) → s ≡ length xs → take s xs ≡ xs
take_whole s [] e = go s where
  go : {A : Type 0} (s : ℕ) → take s (let z : List A = [] in z) ≡ []
  go zero = refl
  go (suc s) = refl
take_whole zero (x ∷ xs) e = absurd (omega arith)
take_whole (suc s) (x ∷ xs) e = ap (λ t. x ∷ t) (take_whole s xs (omega arith))

pub is_there : (xs : List Bool) (h : ℕ) → slice_index_or xs h false ≡ true → get_elem? xs h ≡ some true
is_there [] h e = absurd cc
is_there (x ∷ xs) zero e = ap some e
is_there (x ∷ xs) (suc h) e = is_there xs h e

pub none_at : {A : Type 0} (p : A → Bool) (xs : List A) (k : ℕ) (d : A) → position p xs ≡ None → k < length xs → p (slice_index_or xs k d) ≡ false
none_at p xs k d e l = dite (dec_le (length xs) (position_or_len p xs)) (λ b. fails_before_first p xs k d (omega arith))
    (λ out. let t = lt-ltb (position_or_len p xs) (length xs) (omega arith) in let z : Some (position_or_len p xs) ≡ None = subst (λ b. cond b (Some (position_or_len p xs)) None ≡ None) t e in cc)

pub found_at : (w c : ℕ) (hs : List ℕ) → position (λ h. eqb h w) hs ≡ Some c → (get_elem? hs c ≡ some w) × ((k : ℕ) → k < c → eqb (slice_index_or hs k 0) w ≡ false)
found_at w c hs e = let r = position-Some (λ h. eqb h w) hs c 0 e in let t = there hs c r.0 in
    let is : t.0 ≡ w = eqb-true t.0 w (ap (λ z. eqb z w) (sym (place_is hs c t.0 0 t.1)) ∙ r.1) in (t.1 ∙ ap some is, r.2)

pub told_none : {A : Type 0} (o : std.Option A) (b : Bool) → is_some o ≡ not b → b ≡ true → o ≡ None
told_none None b e t = refl
told_none (Some x) true e t = absurd cc
told_none (Some x) false e t = absurd cc

pub told_some : {A : Type 0} (o : std.Option A) (b : Bool) → is_some o ≡ not b → b ≡ false → (x : A) × (o ≡ Some x)
told_some None true e t = absurd cc
told_some None false e t = absurd cc
told_some (Some x) b e t = (x, refl)

pub on_err : {T E : Type 0} (r : Result T E) (P : Type 0) → P → OnErr r P
on_err (Ok x) P p = tt
on_err (Err e) P p = p

pub rose_by : (n a r : ℕ) → a < 2 ^ 64 → r ≡ min (a + n) 18446744073709551615 → RoseBy n a r
rose_by n a r l e = ((λ h. omega arith), omega arith)

pub nowhere : (w : ℕ) (words : List ℕ) → position (λ h. eqb h w) words ≡ None → (x : ℕ) → get_elem? words x ≡ some w → ⊥
nowhere w words e x at = let f = none_at (λ h. eqb h w) words x 0 e (within words x w at) in let t = eq-eqb (slice_index_or words x 0) w (place_is words x w 0 at) in let z : true ≡ false = sym t ∙ f in cc

-- what is learnt is known
pub learnt : (xs : List Bool) (n : ℕ) → n < length xs → slice_index_or (slice_set xs n true) n false ≡ true
learnt xs n l = place_is (slice_set xs n true) n true false (set_same xs n true l)

pub searched : (w : ℕ) (hs slice : List ℕ) (r : std.Option ℕ) → slice ≡ hs → r ≡ position (λ h. eqb h w) slice → position (λ h. eqb h w) hs ≡ r
searched w hs slice r is e = ap (λ (l : List ℕ). position (λ h. eqb h w) l) (sym is) ∙ sym e
