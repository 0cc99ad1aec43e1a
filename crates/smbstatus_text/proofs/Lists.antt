-- What is told of each element of a list.
use Rattle.std.proofs.Common.{◌≡◌, ◌&&◌, ◌||◌, Bool, true, false, cond, List, [], ◌∷◌, ◌++◌, filter, find, Option, Some, refl, ap, ◌∙◌}
use Rattle.std.specs.List.{flat_map, list_any, AllByRecursion}
use Rattle.std.specs.Option.{is_some}

module _ {X A : Type 0} where
  kept_here : (f : X → List A) (b : Bool) (x : X) (rest : List X) → flat_map f (cond b (x ∷ rest) rest) ≡ cond b (f x) [] ++ flat_map f rest
  kept_here f true x rest = refl
  kept_here f false x rest = refl

  -- of the elements that pass
  pub flat_map-filter : (p : X → Bool) (f : X → List A) (xs : List X) → flat_map f (filter p xs) ≡ flat_map (λ x. cond (p x) (f x) []) xs
  flat_map-filter p f [] = refl
  flat_map-filter p f (x ∷ xs) = kept_here f (p x) x (filter p xs) ∙ ap (λ l. cond (p x) (f x) [] ++ l) (flat_map-filter p f xs)

  pub flat_map_alike : (f g : X → List A) (xs : List X) → AllByRecursion (λ x. f x ≡ g x) xs → flat_map f xs ≡ flat_map g xs
  flat_map_alike f g [] h = refl
  flat_map_alike f g (x ∷ xs) h = ap (λ l. l ++ flat_map f xs) h.0 ∙ ap (λ l. g x ++ l) (flat_map_alike f g xs h.1)

module _ {X : Type 0} where
  pub all_then : (P Q : X → Type 0) → ((x : X) → P x → Q x) → (xs : List X) → AllByRecursion P xs → AllByRecursion Q xs
  all_then P Q more [] h = h
  all_then P Q more (x ∷ xs) h = (more x h.0, all_then P Q more xs h.1)

  found_here : (b : Bool) (x : X) (c : Bool) (rest : Option X) → c ≡ is_some rest → (b || c) ≡ is_some (cond b (Some x) rest)
  found_here true x c rest e = refl
  found_here false x c rest e = e

  -- some element passes where one is found
  pub any_is_found : (p : X → Bool) (xs : List X) → list_any p xs ≡ is_some (find p xs)
  any_is_found p [] = refl
  any_is_found p (x ∷ xs) = found_here (p x) x (list_any p xs) (find p xs) (any_is_found p xs)

  pub find_alike : (p q : X → Bool) → ((x : X) → p x ≡ q x) → (xs : List X) → find p xs ≡ find q xs
  find_alike p q h [] = refl
  find_alike p q h (x ∷ xs) = ap (λ b. cond b (Some x) (find p xs)) (h x) ∙ ap (cond (q x) (Some x)) (find_alike p q h xs)

pub and_flip : (a b : Bool) → (a && b) ≡ (b && a)
and_flip true true = refl
and_flip true false = refl
and_flip false true = refl
and_flip false false = refl
