-- Rows that are sorted by a number: those of one number stand together, and in their order.
use Rattle.std.proofs.Common.{◌≡◌, ◌&&◌, not, ℕ, suc, ◌+◌, ◌<◌, ◌≤◌, Bool, true, false, cond, ltb, leb, eqb, List, [], ◌∷◌, ◌++◌, length, get_or, take, drop, filter, refl, sym, ap, ◌∙◌, subst, arith, length-take, length-drop}
use Rattle.std.proofs.lemmas.Bool.Decides.{nat_tests}
use Rattle.std.proofs.lemmas.List.{append-nil, take-append-drop, get_or-take, get_or-drop}
use Rattle.std.proofs.lemmas.List.Elements.{filter-append}
use Rattle.std.specs.Ordering.{nat_cmp, is_lt}
use Rattle.std.proofs.lemmas.List.Sorted.{IsPartitionedBy-leb, IsPartitionedBy-ltb, IsNonDecreasingBy-drop}
use Rattle.std.specs.List.Sorted.{IsPartitionPoint, IsPartitionedBy, IsNonDecreasingBy, IsStableByKey}

below_apart : (m f : ℕ) → ltb m f ≡ true → eqb m f ≡ false
below_apart m f e = grind (arith, nat_tests)

above_apart : (m f : ℕ) → leb m f ≡ false → eqb m f ≡ false
above_apart m f e = grind (arith, nat_tests)

met : (m f : ℕ) → ltb m f ≡ false → leb m f ≡ true → eqb m f ≡ true
met m f e d = grind (arith, nat_tests)

tie : (a b : ℕ) → (not (is_lt (nat_cmp a b)) && not (is_lt (nat_cmp b a))) ≡ eqb b a
tie a b = grind (arith, nat_tests)

module _ {X : Type 0} where
  none_pass : (p : X → Bool) (xs : List X) → ((k : ℕ) (d : X) → k < length xs → p (get_or xs k d) ≡ false) → filter p xs ≡ []
  none_pass p [] h = refl
  none_pass p (x ∷ xs) h = ap (λ b. cond b (x ∷ filter p xs) (filter p xs)) (h 0 x (omega arith)) ∙ none_pass p xs (λ k d l. h (suc k) d (omega arith))

  all_pass : (p : X → Bool) (xs : List X) → ((k : ℕ) (d : X) → k < length xs → p (get_or xs k d) ≡ true) → filter p xs ≡ xs
  all_pass p [] h = refl
  all_pass p (x ∷ xs) h =
      ap (λ b. cond b (x ∷ filter p xs) (filter p xs)) (h 0 x (omega arith)) ∙ ap (λ ys. x ∷ ys) (all_pass p xs (λ k d l. h (suc k) d (omega arith)))

-- the elements between two partition points are those of the number
module _ {X : Type 0} (n : X → ℕ) (f : ℕ) (xs : List X) (a b : ℕ) where
  abbrev rest : List X
  rest = drop a xs

  before : a ≤ length xs → IsPartitionPoint (λ y. ltb (n y) f ≡ true) (λ y. ltb (n y) f ≡ false) xs a → filter (λ y. eqb (n y) f) (take a xs) ≡ []
  before in_xs parted =
      none_pass (λ y. eqb (n y) f) (take a xs) (λ k d l.
      let lt : k < a = omega (arith, length-take a xs) in
      ap (λ y. eqb (n y) f) (get_or-take a xs k d lt) ∙ below_apart (n (get_or xs k d)) f (parted.0 k d (omega arith) lt))

  within : b ≤ length rest → IsPartitionPoint (λ y. ltb (n y) f ≡ true) (λ y. ltb (n y) f ≡ false) xs a → IsPartitionPoint (λ y. leb (n y) f ≡ true) (λ y. leb (n y) f ≡ false) rest b
      → filter (λ y. eqb (n y) f) (take b rest) ≡ take b rest
  within in_rest parted later =
      all_pass (λ y. eqb (n y) f) (take b rest) (λ k d l.
      let lt : k < b = omega (arith, length-take b rest) in
      let in_xs : a + k < length xs = omega (arith, length-drop a xs) in
      ap (λ y. eqb (n y) f) (get_or-take b rest k d lt)
      ∙ met (n (get_or rest k d)) f (ap (λ y. ltb (n y) f) (get_or-drop a xs k d) ∙ parted.1 (a + k) d (omega arith) in_xs) (later.0 k d (omega arith) lt))

  after : IsPartitionPoint (λ y. leb (n y) f ≡ true) (λ y. leb (n y) f ≡ false) rest b → filter (λ y. eqb (n y) f) (drop b rest) ≡ []
  after later =
      none_pass (λ y. eqb (n y) f) (drop b rest) (λ k d l.
      let lt : b + k < length rest = omega (arith, length-drop b rest) in
      ap (λ y. eqb (n y) f) (get_or-drop b rest k d) ∙ above_apart (n (get_or rest (b + k) d)) f (later.1 (b + k) d (omega arith) lt))

  pub run_is : a ≤ length xs → b ≤ length rest → IsPartitionPoint (λ y. ltb (n y) f ≡ true) (λ y. ltb (n y) f ≡ false) xs a → IsPartitionPoint (λ y. leb (n y) f ≡ true) (λ y. leb (n y) f ≡ false) rest b
      → take b rest ≡ filter (λ y. eqb (n y) f) xs
  run_is in_xs in_rest parted later =
      sym (append-nil (take b rest))
      ∙ ap (λ ys. take b rest ++ ys) (sym (after later))
      ∙ ap (λ ys. ys ++ filter (λ y. eqb (n y) f) (drop b rest)) (sym (within in_rest parted later))
      ∙ sym (filter-append (λ y. eqb (n y) f) (take b rest) (drop b rest))
      ∙ ap (filter (λ y. eqb (n y) f)) (take-append-drop b rest)
      ∙ ap (λ ys. ys ++ filter (λ y. eqb (n y) f) rest) (sym (before in_xs parted))
      ∙ sym (filter-append (λ y. eqb (n y) f) (take a xs) rest)
      ∙ ap (filter (λ y. eqb (n y) f)) (take-append-drop a xs)

-- the same where the elements are sorted by the number, and binary search finds the points: the second in what is left behind the first
pub run_of : {X : Type 0} (n : X → ℕ) (f : ℕ) (xs ys : List X) (a b : ℕ) → ys ≡ drop a xs → IsNonDecreasingBy n xs → a ≤ length xs → b ≤ length ys
    → (IsPartitionedBy (λ y. ltb (n y) f) xs → IsPartitionPoint (λ y. ltb (n y) f ≡ true) (λ y. ltb (n y) f ≡ false) xs a)
    → (IsPartitionedBy (λ y. leb (n y) f) ys → IsPartitionPoint (λ y. leb (n y) f ≡ true) (λ y. leb (n y) f ≡ false) ys b) → take b ys ≡ filter (λ y. eqb (n y) f) xs
run_of {X} n f xs ys a b e sorted in_xs in_ys parted later =
    let left = subst (λ (zs : List X). IsNonDecreasingBy n zs) (sym e) (IsNonDecreasingBy-drop n a xs sorted) in
    let second = subst (λ (zs : List X). IsPartitionPoint (λ y. leb (n y) f ≡ true) (λ y. leb (n y) f ≡ false) zs b) e (later (IsPartitionedBy-leb n ys f left)) in
    ap (take b) e ∙ run_is n f xs a b in_xs (subst (λ (zs : List X). b ≤ length zs) e in_ys) (parted (IsPartitionedBy-ltb n xs f sorted)) second

-- a stable sort by a number keeps the order of those of one number
pub same_runs : {X : Type 0} (n : X → ℕ) (make : ℕ → X) → ((f : ℕ) → n (make f) ≡ f) → (xs ys : List X) → IsStableByKey n nat_cmp xs ys → (f : ℕ) → filter (λ y. eqb (n y) f) ys ≡ filter (λ y. eqb (n y) f) xs
same_runs {X} n make is xs ys stable f =
    let agree = λ (y : X). tie (n (make f)) (n y) ∙ ap (eqb (n y)) (is f) in
    (λ i. filter (λ y. sym (agree y) i) ys) ∙ stable (make f) ∙ (λ i. filter (λ y. agree y i) xs)
