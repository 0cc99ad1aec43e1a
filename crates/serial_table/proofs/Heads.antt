-- The first row that passes: by `find`, and at the head of the filtered list.
use Rattle.std.proofs.Common.{◌≡◌, ◌&&◌, Bool, true, false, cond, List, [], ◌∷◌, filter, find, Option, Some, None, refl, ap}
use Rattle.std.specs.Option.{option_map_or}

module _ {X : Type 0} where
  at_head : (p : X → Bool) (b : Bool) (x y : X) (xs : List X) → (find p xs ≡ Some x → (rest : List X) × (filter p xs ≡ x ∷ rest))
      → cond b (Some y) (find p xs) ≡ Some x → (rest : List X) × (cond b (y ∷ filter p xs) (filter p xs) ≡ x ∷ rest)
  at_head p true x y xs later e = let same : y ≡ x = cc in (filter p xs, ap (λ z. z ∷ filter p xs) same)
  at_head p false x y xs later e = later e

  pub head_found : (p : X → Bool) (xs : List X) (x : X) → find p xs ≡ Some x → (rest : List X) × (filter p xs ≡ x ∷ rest)
  head_found p [] x e = absurd cc
  head_found p (y ∷ ys) x e = at_head p (p y) x y ys (head_found p ys x) e

  no_head : (p : X → Bool) (b : Bool) (y : X) (xs : List X) → (find p xs ≡ None → filter p xs ≡ []) → cond b (Some y) (find p xs) ≡ None → cond b (y ∷ filter p xs) (filter p xs) ≡ []
  no_head p true y xs later e = absurd cc
  no_head p false y xs later e = later e

  pub none_found : (p : X → Bool) (xs : List X) → find p xs ≡ None → filter p xs ≡ []
  none_found p [] e = refl
  none_found p (y ∷ ys) e = no_head p (p y) y ys (none_found p ys) e

module _ {X Y : Type 0} where
  head_here : (F : List X → Y) (g : X → Y) (n : Y) → ((x : X) (xs : List X) → F (x ∷ xs) ≡ g x) → (b : Bool) (x : X) (ys : List X) (rest : Option X) → F ys ≡ option_map_or g rest n
      → F (cond b (x ∷ ys) ys) ≡ option_map_or g (cond b (Some x) rest) n
  head_here F g n h true x ys rest e = h x ys
  head_here F g n h false x ys rest e = e

  -- a function that goes by the head alone
  pub by_first : (F : List X → Y) (g : X → Y) (n : Y) → F [] ≡ n → ((x : X) (xs : List X) → F (x ∷ xs) ≡ g x) → (p : X → Bool) (xs : List X) → F (filter p xs) ≡ option_map_or g (find p xs) n
  by_first F g n z h p [] = z
  by_first F g n z h p (x ∷ xs) = head_here F g n h (p x) x (filter p xs) (find p xs) (by_first F g n z h p xs)

  head_of_two : (F : List X → Y) (g : X → Y) (n : Y) → ((x : X) (xs : List X) → F (x ∷ xs) ≡ g x) → (b : Bool) (p : X → Bool) (x : X) (ys : List X) (rest : Option X) → F (filter p ys) ≡ option_map_or g rest n
      → F (filter p (cond b (x ∷ ys) ys)) ≡ option_map_or g (cond (b && p x) (Some x) rest) n
  head_of_two F g n h true p x ys rest e = head_here F g n h (p x) x (filter p ys) rest e
  head_of_two F g n h false p x ys rest e = e

  -- of a list that is filtered twice
  pub by_first_of_both : (F : List X → Y) (g : X → Y) (n : Y) → F [] ≡ n → ((x : X) (xs : List X) → F (x ∷ xs) ≡ g x) → (p q : X → Bool) (xs : List X) → F (filter p (filter q xs)) ≡ option_map_or g (find (λ x. q x && p x) xs) n
  by_first_of_both F g n z h p q [] = z
  by_first_of_both F g n z h p q (x ∷ xs) = head_of_two F g n h (q x) p x (filter q xs) (find (λ x. q x && p x) xs) (by_first_of_both F g n z h p q xs)
