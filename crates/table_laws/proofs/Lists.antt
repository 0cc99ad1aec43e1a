-- Lists, and what is known of each of their items.
use Rattle.std.proofs.Common.{◌≡◌, Bool, true, false, cond, ◌&&◌, ◌||◌, List, [], ◌∷◌, ◌++◌, map, filter, refl, sym, ap, ◌∙◌, inl, inr}
use Rattle.std.specs.List.{AllByRecursion, list_any}
use Rattle.serial_table.proofs.Members.{IsIn}

module _ {X : Type 0} where
  pub all_mapped : (P Q : X → Type 0) → ((x : X) → P x → Q x) → (xs : List X) → AllByRecursion P xs → AllByRecursion Q xs
  all_mapped P Q f [] all = tt
  all_mapped P Q f (x ∷ xs) all = (f x all.0, all_mapped P Q f xs all.1)

  pub any_alike : (p q : X → Bool) (xs : List X) → AllByRecursion (λ x. p x ≡ q x) xs → list_any p xs ≡ list_any q xs
  any_alike p q [] all = refl
  any_alike p q (x ∷ xs) all = λ i. all.0 i || any_alike p q xs all.1 i

  pub all_swapped : {I : Type 0} (P : I → X → Type 0) (xs : List X) → ((i : I) → AllByRecursion (P i) xs) → AllByRecursion (λ x. (i : I) → P i x) xs
  all_swapped P [] h = tt
  all_swapped P (x ∷ xs) h = ((λ i. (h i).0), all_swapped P xs (λ i. (h i).1))

  pub all_zipped : (P Q : X → Type 0) (xs : List X) → AllByRecursion P xs → AllByRecursion Q xs → AllByRecursion (λ x. P x × Q x) xs
  all_zipped P Q [] a b = tt
  all_zipped P Q (x ∷ xs) a b = ((a.0, b.0), all_zipped P Q xs a.1 b.1)

  -- ---- filters

  -- tests that agree on each item
  pub filter_each : (p q : X → Bool) (xs : List X) → ((x : X) → IsIn x xs → p x ≡ q x) → filter p xs ≡ filter q xs
  filter_each p q [] h = refl
  filter_each p q (x ∷ xs) h = λ i. cond (h x (inl refl) i) (x ∷ filter_each p q xs (λ y k. h y (inr k)) i) (filter_each p q xs (λ y k. h y (inr k)) i)

  -- a test that each item passes
  pub filter_every : (p : X → Bool) (xs : List X) → ((x : X) → IsIn x xs → p x ≡ true) → filter p xs ≡ xs
  filter_every p [] h = refl
  filter_every p (x ∷ xs) h = λ i. cond (h x (inl refl) i) (x ∷ filter_every p xs (λ y k. h y (inr k)) i) (filter_every p xs (λ y k. h y (inr k)) i)

  twice_here : (b : Bool) (p q : X → Bool) (x : X) (ys zs : List X) → p x ≡ b → filter q ys ≡ zs → filter q (cond b (x ∷ ys) ys) ≡ cond (b && q x) (x ∷ zs) zs
  twice_here true p q x ys zs e ih = ap (λ l. cond (q x) (x ∷ l) l) ih
  twice_here false p q x ys zs e ih = ih

  -- two tests one after another
  pub filter_twice : (p q : X → Bool) (xs : List X) → filter q (filter p xs) ≡ filter (λ x. p x && q x) xs
  filter_twice p q [] = refl
  filter_twice p q (x ∷ xs) = twice_here (p x) p q x (filter p xs) (filter (λ x. p x && q x) xs) refl (filter_twice p q xs)

  any_in_filter_here : (b : Bool) (x : X) (p : X → Bool) (ys : List X) (c : Bool) → list_any p ys ≡ c → list_any p (cond b (x ∷ ys) ys) ≡ ((b && p x) || c)
  any_in_filter_here true x p ys c e = ap (λ d. p x || d) e
  any_in_filter_here false x p ys c e = e

  -- one that passes both
  pub any_in_filter : (p q : X → Bool) (xs : List X) → list_any p (filter q xs) ≡ list_any (λ x. q x && p x) xs
  any_in_filter p q [] = refl
  any_in_filter p q (x ∷ xs) = any_in_filter_here (q x) x p (filter q xs) (list_any (λ x. q x && p x) xs) (any_in_filter p q xs)

  pub filter_joined : (p : X → Bool) (xs ys : List X) → filter p (xs ++ ys) ≡ filter p xs ++ filter p ys
  filter_joined p [] ys = refl
  filter_joined p (x ∷ xs) ys = ap (λ l. cond (p x) (x ∷ l) l) (filter_joined p xs ys) ∙ put (p x) x (filter p xs)
    where
      put : (b : Bool) (x : X) (l : List X) → cond b (x ∷ (l ++ filter p ys)) (l ++ filter p ys) ≡ cond b (x ∷ l) l ++ filter p ys
      put true x l = refl
      put false x l = refl

  -- a test that no item passes
  pub filter_none : (p : X → Bool) (xs : List X) → ((x : X) → IsIn x xs → p x ≡ false) → filter p xs ≡ []
  filter_none p [] h = refl
  filter_none p (x ∷ xs) h = ap (λ b. cond b (x ∷ filter p xs) (filter p xs)) (h x (inl refl)) ∙ filter_none p xs (λ y k. h y (inr k))

  pub append_nothing : (xs : List X) → xs ++ [] ≡ xs
  append_nothing [] = refl
  append_nothing (x ∷ xs) = ap (λ ys. x ∷ ys) (append_nothing xs)

  pub any_joined : (p : X → Bool) (xs ys : List X) → list_any p (xs ++ ys) ≡ (list_any p xs || list_any p ys)
  any_joined p [] ys = refl
  any_joined p (x ∷ xs) ys = ap (λ b. p x || b) (any_joined p xs ys) ∙ grouped (p x) (list_any p xs) (list_any p ys)
    where
      grouped : (a b c : Bool) → (a || (b || c)) ≡ ((a || b) || c)
      grouped true b c = refl
      grouped false b c = refl

  pub all_joined : (P : X → Type 0) (xs ys : List X) → AllByRecursion P xs → AllByRecursion P ys → AllByRecursion P (xs ++ ys)
  all_joined P [] ys a b = b
  all_joined P (x ∷ xs) ys a b = (a.0, all_joined P xs ys a.1 b)

module _ {X Y : Type 0} where
  pub any_mapped : (p : Y → Bool) (f : X → Y) (xs : List X) → list_any p (map f xs) ≡ list_any (λ x. p (f x)) xs
  any_mapped p f [] = refl
  any_mapped p f (x ∷ xs) = ap (λ b. p (f x) || b) (any_mapped p f xs)

  map_cond : (b : Bool) (x : X) (f : X → Y) (ys : List X) → map f (cond b (x ∷ ys) ys) ≡ cond b (f x ∷ map f ys) (map f ys)
  map_cond true x f ys = refl
  map_cond false x f ys = refl

  -- a test before or after a map
  pub filter_mapped : (p : Y → Bool) (f : X → Y) (xs : List X) → filter p (map f xs) ≡ map f (filter (λ x. p (f x)) xs)
  filter_mapped p f [] = refl
  filter_mapped p f (x ∷ xs) = ap (λ l. cond (p (f x)) (f x ∷ l) l) (filter_mapped p f xs) ∙ sym (map_cond (p (f x)) x f (filter (λ x. p (f x)) xs))

-- the same for both where each that passes the one passes the other
pub same_test : (b c : Bool) → (b ≡ true → c ≡ true) → (c ≡ true → b ≡ true) → b ≡ c
same_test true c f g = sym (f refl)
same_test false true f g = g refl
same_test false false f g = refl
