-- Lists that code changes in place.
use Rattle.std.proofs.Common.{◌≡◌, ℕ, suc, Bool, true, false, not, cond, Some, None, nat_lt, ◌+◌, ◌<◌, ◌≤◌, List, [], ◌∷◌, ◌++◌, length, get_or, take, drop, map, refl, ap, ◌∙◌, sym, set, arith, length-append}
use Rattle.std.proofs.lemmas.List.{get_or_default, length-map, take-append-drop, take_all, drop_all, append-nil}
use Rattle.std.specs.List.{remove, position, position_or_len}
use Rattle.serial_table.specs.Lists.{drop_first}
use Rattle.std.proofs.lemmas.Bool.{ltb-false}
use Rattle.std.proofs.lemmas.List.Edits.{map_over_more}

same_length : {X : Type 0} (f : X → X) (xs : List X) (i : ℕ) → length (map f (take i xs) ++ drop i xs) ≡ length xs
same_length f xs i =
    length-append (map f (take i xs)) (drop i xs) ∙ ap (λ n. n + length (drop i xs)) (length-map (take i xs) f)
    ∙ sym (length-append (take i xs) (drop i xs)) ∙ ap length (take-append-drop i xs)

-- A loop that has written the first i rows writes the next.
pub map_next : {X : Type 0} (f : X → X) (xs ys : List X) (i : ℕ) (d y : X) → i < length xs → ys ≡ map f (take i xs) ++ drop i xs → y ≡ f (get_or ys i d)
    → set ys i y ≡ map f (take (i + 1) xs) ++ drop (i + 1) xs
map_next f xs ys i d y lt h e =
    let len : length ys ≡ length xs = ap length h ∙ same_length f xs i in
    let lt' : i < length ys = omega (arith, lt, len) in
    ap (set ys i) e ∙ map_over_more f xs ys i (get_or ys i d) lt h (get_or_default ys i d (get_or ys i d) lt')

-- ---- the first that passes goes

place_in : (b : Bool) (n i : ℕ) → cond b (Some n) None ≡ Some i → n ≡ i
place_in true n i e = cc
place_in false n i e = absurd cc

none_in : (b : Bool) (n : ℕ) → cond b (Some n) None ≡ None → b ≡ false
none_in true n e = absurd cc
none_in false n e = refl

one_more : (n : ℕ) → 1 + n ≡ suc n
one_more n = omega arith

module _ {X : Type 0} where
  at_head : (b : Bool) (p : X → Bool) (x : X) (xs : List X) (n : ℕ) → remove xs n ≡ drop_first p xs → remove (x ∷ xs) (cond (not b) (1 + n) 0) ≡ cond b xs (x ∷ drop_first p xs)
  at_head true p x xs n ih = refl
  at_head false p x xs n ih = ap (λ k. take k (x ∷ xs) ++ drop k xs) (one_more n) ∙ ap (λ ys. x ∷ ys) ih

  removed : (p : X → Bool) (xs : List X) → remove xs (position_or_len p xs) ≡ drop_first p xs
  removed p [] = refl
  removed p (x ∷ xs) = at_head (p x) p x xs (position_or_len p xs) (removed p xs)

  pub drop_found : (p : X → Bool) (xs : List X) (i : ℕ) → position p xs ≡ Some i → remove xs i ≡ drop_first p xs
  drop_found p xs i e = ap (remove xs) (sym (place_in (nat_lt (position_or_len p xs) (length xs)) (position_or_len p xs) i e)) ∙ removed p xs

  pub drop_missing : (p : X → Bool) (xs : List X) → position p xs ≡ None → drop_first p xs ≡ xs
  drop_missing p xs e =
      let far : nat_lt (position_or_len p xs) (length xs) ≡ false = none_in (nat_lt (position_or_len p xs) (length xs)) (position_or_len p xs) e in
      let le : length xs ≤ position_or_len p xs = ltb-false (position_or_len p xs) (length xs) far in
      sym (removed p xs) ∙ (λ i. take_all (position_or_len p xs) xs le i ++ drop_all (suc (position_or_len p xs)) xs (omega (arith, le)) i) ∙ append-nil xs
