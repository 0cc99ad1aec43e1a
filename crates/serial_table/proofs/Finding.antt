-- The first element that passes, of a list that is mapped or filtered.
use Rattle.std.proofs.Common.{◌≡◌, ◌&&◌, Bool, true, false, cond, List, [], ◌∷◌, filter, map, find, Option, Some, refl, ap}
use Rattle.std.specs.Option.{option_map}

module _ {X Y : Type 0} where
  map_here : (f : X → Y) (b : Bool) (x : X) (rest : Option X) (ys : Option Y) → ys ≡ option_map f rest → cond b (Some (f x)) ys ≡ option_map f (cond b (Some x) rest)
  map_here f true x rest ys e = refl
  map_here f false x rest ys e = e

  pub find-of_map : (p : Y → Bool) (f : X → Y) (xs : List X) → find p (map f xs) ≡ option_map f (find (λ x. p (f x)) xs)
  find-of_map p f [] = refl
  find-of_map p f (x ∷ xs) = map_here f (p (f x)) x (find (λ x. p (f x)) xs) (find p (map f xs)) (find-of_map p f xs)

module _ {X : Type 0} where
  filter_here : (p : X → Bool) (b : Bool) (x : X) (xs : List X) (rest : Option X) → find p xs ≡ rest → find p (cond b (x ∷ xs) xs) ≡ cond (b && p x) (Some x) rest
  filter_here p true x xs rest e = ap (cond (p x) (Some x)) e
  filter_here p false x xs rest e = e

  pub find-of_filter : (p q : X → Bool) (xs : List X) → find p (filter q xs) ≡ find (λ x. q x && p x) xs
  find-of_filter p q [] = refl
  find-of_filter p q (x ∷ xs) = filter_here p (q x) x (filter q xs) (find (λ x. q x && p x) xs) (find-of_filter p q xs)
