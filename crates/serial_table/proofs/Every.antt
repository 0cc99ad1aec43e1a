-- Lists of which every element has something, by the keys under which they stand.
use Rattle.std.proofs.Common.{◌≡◌, ◌≤◌, ℕ, suc, Bool, true, false, cond, List, [], ◌∷◌, filter, map, length, refl, ap, arith}
use Rattle.std.proofs.lemmas.Bool.{and_from}
use Rattle.std.specs.List.{AllByRecursion, list_all}

module _ {X : Type 0} where
  shorter_here : (b : Bool) (x : X) (ys : List X) (n : ℕ) → length ys ≤ n → length (cond b (x ∷ ys) ys) ≤ suc n
  shorter_here true x ys n h = omega arith
  shorter_here false x ys n h = omega arith

  filter_shortens : (p : X → Bool) (xs : List X) → length (filter p xs) ≤ length xs
  filter_shortens p [] = omega arith
  filter_shortens p (x ∷ xs) = shorter_here (p x) x (filter p xs) (length xs) (filter_shortens p xs)

  too_long : (p : X → Bool) (x : X) (xs ys : List X) → length ys ≡ length xs → filter p ys ≡ x ∷ xs → ⊥
  too_long p x xs ys l e = let h = filter_shortens p ys in let m : length (filter p ys) ≡ suc (length xs) = ap length e in omega arith

  -- a filter and a map that change nothing leave every element alone
  same_here : (b : Bool) (p : X → Bool) (s : X → X) (x : X) (xs : List X) → p (s x) ≡ b → length (map s xs) ≡ length xs → cond b (s x ∷ filter p (map s xs)) (filter p (map s xs)) ≡ x ∷ xs
      → (p (s x) ≡ true) × (s x ≡ x) × (filter p (map s xs) ≡ xs)
  same_here true p s x xs d l e = (d, cc, cc)
  same_here false p s x xs d l e = absurd (too_long p x xs (map s xs) l e)

  same_length : (s : X → X) (xs : List X) → length (map s xs) ≡ length xs
  same_length s [] = refl
  same_length s (x ∷ xs) = ap suc (same_length s xs)

  pub all_left_alone : (p : X → Bool) (s : X → X) (xs : List X) → filter p (map s xs) ≡ xs → AllByRecursion (λ x. (p (s x) ≡ true) × (s x ≡ x)) xs
  all_left_alone p s [] e = tt
  all_left_alone p s (x ∷ xs) e =
      let parts = same_here (p (s x)) p s x xs refl (same_length s xs) e in
      ((parts.0, parts.1), all_left_alone p s xs parts.2)

  -- a filter that changes nothing keeps every element
  keeps_here : (b : Bool) (p : X → Bool) (x : X) (xs : List X) → p x ≡ b → cond b (x ∷ filter p xs) (filter p xs) ≡ x ∷ xs → (p x ≡ true) × (filter p xs ≡ xs)
  keeps_here true p x xs d e = (d, cc)
  keeps_here false p x xs d e = absurd (too_long p x xs xs refl e)

  pub all_kept : (p : X → Bool) (xs : List X) → filter p xs ≡ xs → AllByRecursion (λ x. p x ≡ true) xs
  all_kept p [] e = tt
  all_kept p (x ∷ xs) e =
      let parts = keeps_here (p x) p x xs refl e in
      (parts.0, all_kept p xs parts.1)

  -- tests that agree on every element
  pub filter_alike : (p q : X → Bool) (xs : List X) → AllByRecursion (λ x. p x ≡ q x) xs → filter p xs ≡ filter q xs
  filter_alike p q [] all = refl
  filter_alike p q (x ∷ xs) all = λ i. cond (all.0 i) (x ∷ filter_alike p q xs all.1 i) (filter_alike p q xs all.1 i)

  -- the same of a map and a test
  pub filter_map_alike : (p q : X → Bool) (s r : X → X) (xs : List X) → AllByRecursion (λ x. (s x ≡ r x) × (p (s x) ≡ q (r x))) xs → filter p (map s xs) ≡ filter q (map r xs)
  filter_map_alike p q s r [] all = refl
  filter_map_alike p q s r (x ∷ xs) all = λ i. cond (all.0.1 i) (all.0.0 i ∷ filter_map_alike p q s r xs all.1 i) (filter_map_alike p q s r xs all.1 i)

  pub all_weaker : (P Q : X → Type 0) → ((x : X) → P x → Q x) → (xs : List X) → AllByRecursion P xs → AllByRecursion Q xs
  all_weaker P Q h [] all = tt
  all_weaker P Q h (x ∷ xs) all = (h x all.0, all_weaker P Q h xs all.1)

  first_has : (P : X → Type 0) (b : Bool) (x : X) (ys : List X) → b ≡ true → AllByRecursion P (cond b (x ∷ ys) ys) → P x
  first_has P true x ys e all = all.0
  first_has P false x ys e all = absurd cc

  rest_has : (P : X → Type 0) (b : Bool) (x : X) (ys : List X) → AllByRecursion P (cond b (x ∷ ys) ys) → AllByRecursion P ys
  rest_has P true x ys all = all.1
  rest_has P false x ys all = all

  -- what every element has that stands under its key
  pub all_by_key : {K : Type 0} (has : K → X → Bool) (key : X → K) (H : K → Type 0) (P : K → X → Type 0) → ((x : X) → has (key x) x ≡ true) → (xs : List X)
      → ((k : K) → H k → AllByRecursion (P k) (filter (has k) xs)) → AllByRecursion (λ x. H (key x) → P (key x) x) xs
  all_by_key has key H P own [] each = tt
  all_by_key has key H P own (x ∷ xs) each = (
    (λ h. first_has (P (key x)) (has (key x) x) x (filter (has (key x)) xs) (own x) (each (key x) h)),
    all_by_key has key H P own xs (λ k h. rest_has (P k) (has k x) x (filter (has k) xs) (each k h)),
  )

module _ {X : Type 0} where
  -- a test that each element passes
  pub all_pass : (p : X → Bool) → ((x : X) → p x ≡ true) → (xs : List X) → list_all p xs ≡ true
  all_pass p h [] = refl
  all_pass p h (x ∷ xs) = and_from (p x) (list_all p xs) (h x) (all_pass p h xs)

module _ {X Y : Type 0} where
  pub all_unmap : (f : X → Y) (P : Y → Type 0) (xs : List X) → AllByRecursion P (map f xs) → AllByRecursion (λ x. P (f x)) xs
  all_unmap f P [] all = tt
  all_unmap f P (x ∷ xs) all = (all.0, all_unmap f P xs all.1)
