-- How many rows lists have.
use Rattle.std.proofs.Common.{◌≡◌, ◌≤◌, ◌<◌, ◌+◌, ℕ, suc, Bool, true, false, cond, not, ◌&&◌, ◌||◌, List, [], ◌∷◌, ◌++◌, length, filter, map, refl, ap, inl, inr, arith, length-append}
use Rattle.std.specs.List.{sum_by}
use Rattle.std.proofs.lemmas.Bool.{both_ways}
use Rattle.std.proofs.lemmas.List.Sums.{sum_by-cons, sum_by-le-sum_by, length-filter, count_by-le-length}
use Rattle.serial_table.specs.Lists.{drop_first}
use Rattle.serial_table.proofs.Members.{IsIn}

module _ {X : Type 0} where
  pub length_filtered : (p : X → Bool) (xs : List X) → length (filter p xs) ≤ length xs
  length_filtered p xs = omega (arith, length-filter p xs, count_by-le-length p xs)

  pub length_pushed : (xs : List X) (x : X) → length (xs ++ x ∷ []) ≡ length xs + 1
  length_pushed xs x = omega (arith, length-append xs (x ∷ []))

  dropped_here : (b : Bool) (x : X) (xs ys : List X) → length ys ≤ length xs → length (cond b xs (x ∷ ys)) ≤ suc (length xs)
  dropped_here true x xs ys h = omega arith
  dropped_here false x xs ys h = omega arith

  pub length_dropped : (p : X → Bool) (xs : List X) → length (drop_first p xs) ≤ length xs
  length_dropped p [] = omega arith
  length_dropped p (x ∷ xs) = dropped_here (p x) x xs (drop_first p xs) (length_dropped p xs)

  less_here : (a b : Bool) (x : X) (ps qs : List X) → (a ≡ true → b ≡ true) → length ps ≤ length qs → length (cond a (x ∷ ps) ps) ≤ length (cond b (x ∷ qs) qs)
  less_here true true x ps qs h l = omega arith
  less_here true false x ps qs h l = absurd (both_ways false refl (h refl))
  less_here false true x ps qs h l = omega arith
  less_here false false x ps qs h l = l

  -- a test that passes less
  pub count_less : (p q : X → Bool) (xs : List X) → ((x : X) → IsIn x xs → p x ≡ true → q x ≡ true) → length (filter p xs) ≤ length (filter q xs)
  count_less p q [] h = omega arith
  count_less p q (x ∷ xs) h = less_here (p x) (q x) x (filter p xs) (filter q xs) (h x (inl refl)) (count_less p q xs (λ y i. h y (inr i)))

  apart_here : (a b : Bool) (x : X) (ps qs rs : List X) → (a ≡ true → b ≡ false) → length ps + length qs ≤ length rs → length (cond a (x ∷ ps) ps) + length (cond b (x ∷ qs) qs) ≤ length (cond (a || b) (x ∷ rs) rs)
  apart_here true true x ps qs rs h l = absurd (both_ways true (h refl) refl)
  apart_here true false x ps qs rs h l = omega arith
  apart_here false true x ps qs rs h l = omega arith
  apart_here false false x ps qs rs h l = l

  -- tests that nothing passes both of
  pub count_apart : (p q : X → Bool) → ((x : X) → p x ≡ true → q x ≡ false) → (xs : List X) → length (filter p xs) + length (filter q xs) ≤ length (filter (λ x. p x || q x) xs)
  count_apart p q h [] = omega arith
  count_apart p q h (x ∷ xs) = apart_here (p x) (q x) x (filter p xs) (filter q xs) (filter (λ x. p x || q x) xs) (h x) (count_apart p q h xs)

  not_here : (a : Bool) (x : X) (ps qs : List X) (n : ℕ) → length ps + length qs ≡ n → length (cond a (x ∷ ps) ps) + length (cond (not a) (x ∷ qs) qs) ≡ suc n
  not_here true x ps qs n e = omega arith
  not_here false x ps qs n e = omega arith

  pub count_not : (p : X → Bool) (xs : List X) → length (filter p xs) + length (filter (λ x. not (p x)) xs) ≡ length xs
  count_not p [] = refl
  count_not p (x ∷ xs) = not_here (p x) x (filter p xs) (filter (λ x. not (p x)) xs) (length xs) (count_not p xs)

  and_here : (a b : Bool) (x : X) (p : X → Bool) (xs ys : List X) → p x ≡ b → filter p xs ≡ ys → filter p (cond a (x ∷ xs) xs) ≡ cond (a && b) (x ∷ ys) ys
  and_here true true x p xs ys e h = λ i. cond (e i) (x ∷ h i) (h i)
  and_here true false x p xs ys e h = λ i. cond (e i) (x ∷ h i) (h i)
  and_here false b x p xs ys e h = h

  -- two filters are one
  pub filter_and : (p q : X → Bool) (xs : List X) → filter p (filter q xs) ≡ filter (λ x. q x && p x) xs
  filter_and p q [] = refl
  filter_and p q (x ∷ xs) = and_here (q x) (p x) x p (filter q xs) (filter (λ x. q x && p x) xs) refl (filter_and p q xs)

  -- ---- sums

  pub sum_none : (f : X → ℕ) → ((x : X) → f x ≡ 0) → (xs : List X) → sum_by f xs ≡ 0
  sum_none f h [] = refl
  sum_none f h (x ∷ xs) = omega (arith, sum_by-cons f x xs, h x, sum_none f h xs)

  -- a sum of which one part is more and none is less
  pub sum_more : (f g : X → ℕ) → ((x : X) → f x ≤ g x) → (xs : List X) (x : X) → IsIn x xs → f x < g x → sum_by f xs + 1 ≤ sum_by g xs
  sum_more f g h [] x i l = absurd i
  sum_more f g h (y ∷ ys) x (inl e) l =
      let own : f y ≡ f x = ap f e in
      let also : g y ≡ g x = ap g e in
      let rest : sum_by f ys ≤ sum_by g ys = sum_by-le-sum_by f g ys h in
      omega (arith, sum_by-cons f y ys, sum_by-cons g y ys)
  sum_more f g h (y ∷ ys) x (inr i) l =
      let rest : sum_by f ys + 1 ≤ sum_by g ys = sum_more f g h ys x i l in
      omega (arith, sum_by-cons f y ys, sum_by-cons g y ys, h y)

pub sum_mapped : {X Y : Type 0} (f : Y → ℕ) (g : X → Y) → ((x : X) → f (g x) ≡ 0) → (xs : List X) → sum_by f (map g xs) ≡ 0
sum_mapped f g h [] = refl
sum_mapped f g h (x ∷ xs) = omega (arith, sum_by-cons f (g x) (map g xs), h x, sum_mapped f g h xs)
