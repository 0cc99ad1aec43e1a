-- Which elements a list has, and what the words over lists say of them.
use Rattle.std.proofs.Common.{◌≡◌, Bool, true, false, cond, List, [], ◌∷◌, ◌++◌, filter, map, Option, Some, find, refl, sym, ap, ◌∙◌, subst, inl, inr, ◌⊎◌}
use Rattle.std.specs.List.{AllByRecursion, IsDistinct, list_any, list_all, flat_map}
use Rattle.std.proofs.lemmas.Bool.{or_cases, or_left, or_right, or_parts, or_from, and_parts, and_from, both_ways}
use Rattle.serial_table.specs.Lists.{drop_first}

module _ {X : Type 0} where
  abbrev pub IsIn : X → List X → Type 0
  IsIn x [] = ⊥
  IsIn x (y ∷ ys) = (y ≡ x) ⊎ IsIn x ys

  -- ---- tests

  pub each : (p : X → Bool) (xs : List X) → list_all p xs ≡ true → (x : X) → IsIn x xs → p x ≡ true
  each p [] e x i = absurd i
  each p (y ∷ ys) e x (inl h) = ap p (sym h) ∙ (and_parts (p y) (list_all p ys) e).0
  each p (y ∷ ys) e x (inr h) = each p ys (and_parts (p y) (list_all p ys) e).1 x h

  pub all_each : (p : X → Bool) (xs : List X) → ((x : X) → IsIn x xs → p x ≡ true) → list_all p xs ≡ true
  all_each p [] h = refl
  all_each p (x ∷ xs) h = and_from (p x) (list_all p xs) (h x (inl refl)) (all_each p xs (λ y i. h y (inr i)))

  pub any_of : (p : X → Bool) (xs : List X) (x : X) → IsIn x xs → p x ≡ true → list_any p xs ≡ true
  any_of p [] x i e = absurd i
  any_of p (y ∷ ys) x (inl h) e = or_left (p y) (list_any p ys) (ap p h ∙ e)
  any_of p (y ∷ ys) x (inr h) e = or_right (p y) (list_any p ys) (any_of p ys x h e)

  one_here : (p : X → Bool) (x : X) (xs : List X) → (p x ≡ true) ⊎ (list_any p xs ≡ true) → (list_any p xs ≡ true → (y : X) × IsIn y xs × (p y ≡ true))
      → (y : X) × IsIn y (x ∷ xs) × (p y ≡ true)
  one_here p x xs (inl e) later = (x, inl refl, e)
  one_here p x xs (inr e) later = let h = later e in (h.0, inr h.1, h.2)

  pub one_of : (p : X → Bool) (xs : List X) → list_any p xs ≡ true → (x : X) × IsIn x xs × (p x ≡ true)
  one_of p [] e = absurd cc
  one_of p (x ∷ xs) e = one_here p x xs (or_cases (p x) (list_any p xs) e) (one_of p xs)

  pub none_of : (p : X → Bool) (xs : List X) → list_any p xs ≡ false → (x : X) → IsIn x xs → p x ≡ false
  none_of p [] e x i = absurd i
  none_of p (y ∷ ys) e x (inl h) = ap p (sym h) ∙ (or_parts (p y) (list_any p ys) e).0
  none_of p (y ∷ ys) e x (inr h) = none_of p ys (or_parts (p y) (list_any p ys) e).1 x h

  pub any_none : (p : X → Bool) (xs : List X) → ((x : X) → IsIn x xs → p x ≡ false) → list_any p xs ≡ false
  any_none p [] h = refl
  any_none p (x ∷ xs) h = or_from (p x) (list_any p xs) (h x (inl refl)) (any_none p xs (λ y i. h y (inr i)))

  pub all_of : (P : X → Type 0) (xs : List X) → AllByRecursion P xs → (x : X) → IsIn x xs → P x
  all_of P [] a x i = absurd i
  all_of P (y ∷ ys) a x (inl h) = subst P h a.0
  all_of P (y ∷ ys) a x (inr h) = all_of P ys a.1 x h

  pub all_by : (P : X → Type 0) (xs : List X) → ((x : X) → IsIn x xs → P x) → AllByRecursion P xs
  all_by P [] h = tt
  all_by P (x ∷ xs) h = (h x (inl refl), all_by P xs (λ y i. h y (inr i)))

  -- ---- filters

  in_cond : (p : X → Bool) (b : Bool) (y : X) (ys : List X) (x : X) → p y ≡ b → IsIn x (cond b (y ∷ ys) ys) → ((y ≡ x) × (p x ≡ true)) ⊎ IsIn x ys
  in_cond p true y ys x e (inl h) = inl (h, ap p (sym h) ∙ e)
  in_cond p true y ys x e (inr h) = inr h
  in_cond p false y ys x e h = inr h

  in_either : (p : X → Bool) (y : X) (ys : List X) (x : X) → ((y ≡ x) × (p x ≡ true)) ⊎ IsIn x (filter p ys) → (IsIn x (filter p ys) → IsIn x ys × (p x ≡ true)) → IsIn x (y ∷ ys) × (p x ≡ true)
  in_either p y ys x (inl h) later = (inl h.0, h.1)
  in_either p y ys x (inr h) later = let l = later h in (inr l.0, l.1)

  pub in_filter : (p : X → Bool) (xs : List X) (x : X) → IsIn x (filter p xs) → IsIn x xs × (p x ≡ true)
  in_filter p [] x i = absurd i
  in_filter p (y ∷ ys) x i = in_either p y ys x (in_cond p (p y) y (filter p ys) x refl i) (in_filter p ys x)

  here_passes : (b : Bool) (y : X) (ys : List X) (x : X) → y ≡ x → b ≡ true → IsIn x (cond b (y ∷ ys) ys)
  here_passes true y ys x h e = inl h
  here_passes false y ys x h e = absurd cc

  later_passes : (b : Bool) (y : X) (ys : List X) (x : X) → IsIn x ys → IsIn x (cond b (y ∷ ys) ys)
  later_passes true y ys x h = inr h
  later_passes false y ys x h = h

  pub passes_in : (p : X → Bool) (xs : List X) (x : X) → IsIn x xs → p x ≡ true → IsIn x (filter p xs)
  passes_in p [] x i e = absurd i
  passes_in p (y ∷ ys) x (inl h) e = here_passes (p y) y (filter p ys) x h (ap p h ∙ e)
  passes_in p (y ∷ ys) x (inr h) e = later_passes (p y) y (filter p ys) x (passes_in p ys x h e)

  -- ---- one more, one less

  pub in_push : (xs : List X) (y x : X) → IsIn x (xs ++ y ∷ []) → IsIn x xs ⊎ (y ≡ x)
  in_push [] y x (inl h) = inr h
  in_push [] y x (inr h) = absurd h
  in_push (z ∷ zs) y x (inl h) = inl (inl h)
  in_push (z ∷ zs) y x (inr h) = pushed_later (in_push zs y x h)
    where
      pushed_later : IsIn x zs ⊎ (y ≡ x) → IsIn x (z ∷ zs) ⊎ (y ≡ x)
      pushed_later (inl i) = inl (inr i)
      pushed_later (inr e) = inr e

  pub old_in : (xs ys : List X) (x : X) → IsIn x xs → IsIn x (xs ++ ys)
  old_in [] ys x i = absurd i
  old_in (y ∷ zs) ys x (inl h) = inl h
  old_in (y ∷ zs) ys x (inr h) = inr (old_in zs ys x h)

  pub in_append : (xs ys : List X) (x : X) → IsIn x (xs ++ ys) → IsIn x xs ⊎ IsIn x ys
  in_append [] ys x i = inr i
  in_append (z ∷ zs) ys x (inl h) = inl (inl h)
  in_append (z ∷ zs) ys x (inr h) = in_later (in_append zs ys x h)
    where
      in_later : IsIn x zs ⊎ IsIn x ys → IsIn x (z ∷ zs) ⊎ IsIn x ys
      in_later (inl i) = inl (inr i)
      in_later (inr i) = inr i

  in_dropped : (b : Bool) (y : X) (ys zs : List X) (x : X) → (IsIn x zs → IsIn x ys) → IsIn x (cond b ys (y ∷ zs)) → IsIn x (y ∷ ys)
  in_dropped true y ys zs x f i = inr i
  in_dropped false y ys zs x f (inl h) = inl h
  in_dropped false y ys zs x f (inr h) = inr (f h)

  pub in_drop : (p : X → Bool) (xs : List X) (x : X) → IsIn x (drop_first p xs) → IsIn x xs
  in_drop p [] x i = absurd i
  in_drop p (y ∷ ys) x i = in_dropped (p y) y ys (drop_first p ys) x (in_drop p ys x) i

  -- ---- lists whose items differ

  distinct_cond : (same : X → X → Bool) (b : Bool) (x : X) (xs : List X) → AllByRecursion (λ y. same x y ≡ false) xs → IsDistinct same xs → IsDistinct same (cond b (x ∷ xs) xs)
  unfolding IsDistinct
  distinct_cond same true x xs all d = (all, d)
  distinct_cond same false x xs all d = d

  pub distinct_filtered : (same : X → X → Bool) (p : X → Bool) (xs : List X) → IsDistinct same xs → IsDistinct same (filter p xs)
  unfolding IsDistinct
  distinct_filtered same p [] d = tt
  distinct_filtered same p (x ∷ xs) d =
      distinct_cond same (p x) x (filter p xs)
      (all_by (λ y. same x y ≡ false) (filter p xs) (λ y i. all_of (λ y. same x y ≡ false) xs d.0 y (in_filter p xs y i).0)) (distinct_filtered same p xs d.1)

  distinct_less : (same : X → X → Bool) (b : Bool) (x : X) (xs ys : List X) → AllByRecursion (λ y. same x y ≡ false) ys → IsDistinct same xs → IsDistinct same ys → IsDistinct same (cond b xs (x ∷ ys))
  unfolding IsDistinct
  distinct_less same true x xs ys all d e = d
  distinct_less same false x xs ys all d e = (all, e)

  pub distinct_dropped : (same : X → X → Bool) (p : X → Bool) (xs : List X) → IsDistinct same xs → IsDistinct same (drop_first p xs)
  unfolding IsDistinct
  distinct_dropped same p [] d = tt
  distinct_dropped same p (x ∷ xs) d =
      distinct_less same (p x) x xs (drop_first p xs)
      (all_by (λ y. same x y ≡ false) (drop_first p xs) (λ y i. all_of (λ y. same x y ≡ false) xs d.0 y (in_drop p xs y i))) d.1 (distinct_dropped same p xs d.1)

  pub distinct_pushed : (same : X → X → Bool) (xs : List X) (x : X) → IsDistinct same xs → list_any (λ y. same y x) xs ≡ false → IsDistinct same (xs ++ x ∷ [])
  unfolding IsDistinct
  distinct_pushed same [] x d none = (tt, tt)
  distinct_pushed same (y ∷ ys) x d none =
      let parts = or_parts (same y x) (list_any (λ y. same y x) ys) none in
      (all_by (λ z. same y z ≡ false) (ys ++ x ∷ []) (λ z i. pushed z (in_push ys x z i)), distinct_pushed same ys x d.1 parts.1)
    where
      pushed : (z : X) → IsIn z ys ⊎ (x ≡ z) → same y z ≡ false
      pushed z (inl i) = all_of (λ z. same y z ≡ false) ys d.0 z i
      pushed z (inr e) = ap (same y) (sym e) ∙ (or_parts (same y x) (list_any (λ y. same y x) ys) none).0

  -- of a list whose items differ, two that are the same are one
  pub one_in : (same : X → X → Bool) → ((x y : X) → same x y ≡ same y x) → (xs : List X) → IsDistinct same xs → (x y : X) → IsIn x xs → IsIn y xs → same x y ≡ true → x ≡ y
  unfolding IsDistinct
  one_in same flip [] d x y i j e = absurd i
  one_in same flip (z ∷ zs) d x y (inl h) (inl k) e = sym h ∙ k
  one_in same flip (z ∷ zs) d x y (inl h) (inr j) e = absurd (both_ways (same x y) (ap (λ w. same w y) (sym h) ∙ all_of (λ w. same z w ≡ false) zs d.0 y j) e)
  one_in same flip (z ∷ zs) d x y (inr i) (inl k) e = absurd (both_ways (same x y) (flip x y ∙ ap (λ w. same w x) (sym k) ∙ all_of (λ w. same z w ≡ false) zs d.0 x i) e)
  one_in same flip (z ∷ zs) d x y (inr i) (inr j) e = one_in same flip zs d.1 x y i j e

module _ {X Y : Type 0} where
  pub in_map : (f : X → Y) (xs : List X) (y : Y) → IsIn y (map f xs) → (x : X) × IsIn x xs × (f x ≡ y)
  in_map f [] y i = absurd i
  in_map f (x ∷ xs) y (inl h) = (x, inl refl, h)
  in_map f (x ∷ xs) y (inr h) = let l = in_map f xs y h in (l.0, inr l.1, l.2)

  pub mapped_in : (f : X → Y) (xs : List X) (x : X) → IsIn x xs → IsIn (f x) (map f xs)
  mapped_in f [] x i = absurd i
  mapped_in f (y ∷ ys) x (inl h) = inl (ap f h)
  mapped_in f (y ∷ ys) x (inr h) = inr (mapped_in f ys x h)

  pub in_flat_map : (f : X → List Y) (xs : List X) (y : Y) → IsIn y (flat_map f xs) → (x : X) × IsIn x xs × IsIn y (f x)
  in_flat_map f [] y i = absurd i
  in_flat_map f (x ∷ xs) y i = from_either (in_append (f x) (flat_map f xs) y i) (in_flat_map f xs y)
    where
      from_either : IsIn y (f x) ⊎ IsIn y (flat_map f xs) → (IsIn y (flat_map f xs) → (z : X) × IsIn z xs × IsIn y (f z)) → (z : X) × IsIn z (x ∷ xs) × IsIn y (f z)
      from_either (inl h) later = (x, inl refl, h)
      from_either (inr h) later = let l = later h in (l.0, inr l.1, l.2)

  pub distinct_mapped : (old also : X → X → Bool) (same : Y → Y → Bool) (f : X → Y) (xs : List X)
      → ((x y : X) → IsIn x xs → IsIn y xs → old x y ≡ false → also x y ≡ false → same (f x) (f y) ≡ false) → IsDistinct old xs → IsDistinct also xs → IsDistinct same (map f xs)
  unfolding IsDistinct
  distinct_mapped old also same f [] h d e = tt
  distinct_mapped old also same f (x ∷ xs) h d e = (
    all_by (λ y. same (f x) y ≡ false) (map f xs) (λ y i. mapped y (in_map f xs y i)),
    distinct_mapped old also same f xs (λ a b i j. h a b (inr i) (inr j)) d.1 e.1,
  )
    where
      mapped : (y : Y) → (z : X) × IsIn z xs × (f z ≡ y) → same (f x) y ≡ false
      mapped y m = ap (same (f x)) (sym m.2) ∙ h x m.0 (inl refl) (inr m.1) (all_of (λ y. old x y ≡ false) xs d.0 m.0 m.1) (all_of (λ y. also x y ≡ false) xs e.0 m.0 m.1)

-- ---- what is found first

module _ {X : Type 0} where
  pub some_same : (x y : X) → ◌≡◌ {A = Option X} (Some x) (Some y) → x ≡ y
  some_same x y e = cc

  found_cond : (p : X → Bool) (b : Bool) (y : X) (ys : List X) (x : X) → p y ≡ b → cond b (Some y) (find p ys) ≡ Some x → (find p ys ≡ Some x → IsIn x ys × (p x ≡ true)) → IsIn x (y ∷ ys) × (p x ≡ true)
  found_cond p true y ys x e f later = (inl (some_same y x f), ap p (sym (some_same y x f)) ∙ e)
  found_cond p false y ys x e f later = let l = later f in (inr l.0, l.1)

  pub found_in : (p : X → Bool) (xs : List X) (x : X) → find p xs ≡ Some x → IsIn x xs × (p x ≡ true)
  found_in p [] x e = absurd cc
  found_in p (y ∷ ys) x e = found_cond p (p y) y ys x refl e (found_in p ys x)
