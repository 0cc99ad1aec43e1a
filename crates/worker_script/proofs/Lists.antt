-- Lists that grow at their end.
use Rattle.std.proofs.Common.{◌≡◌, ℕ, ◌+◌, ◌-◌, ◌<◌, ◌≤◌, Bool, true, false, cond, eqb, ◌||◌, List, [], ◌∷◌, ◌++◌, length, map, refl, ap, arith}
use Rattle.std.specs.List.{AllByRecursion, IsDistinct, list_any}
use Rattle.std.proofs.lemmas.Bool.{or_parts}
use Rattle.std.proofs.lemmas.Bool.Decides.{nat_tests}
use Rattle.worker_script.specs.Text.{token}
use Rattle.sid_core.specs.Counting.{CountsFrom, NeverFallsFrom}

pub all-push : {X : Type 0} (P : X → Type 0) (xs : List X) (x : X) → AllByRecursion P xs → P x → AllByRecursion P (xs ++ x ∷ [])
all-push P [] x all here = (here, tt)
all-push P (y ∷ xs) x all here = (all.0, all-push P xs x all.1 here)

pub distinct-push : {X : Type 0} (e : X → X → Bool) (xs : List X) (x : X) → list_any (λ y. e y x) xs ≡ false → IsDistinct e xs → IsDistinct e (xs ++ x ∷ [])
unfolding IsDistinct
distinct-push e [] x none distinct = (tt, tt)
distinct-push e (y ∷ xs) x none distinct =
    let apart = or_parts (e y x) (list_any (λ z. e z x) xs) none in
    (all-push (λ z. e y z ≡ false) xs x distinct.0 apart.0, distinct-push e xs x apart.1 distinct.1)

pub map-push : {X Y : Type 0} (f : X → Y) (xs : List X) (x : X) → map f (xs ++ x ∷ []) ≡ map f xs ++ f x ∷ []
map-push f [] x = refl
map-push f (y ∷ xs) x = ap (λ ys. f y ∷ ys) (map-push f xs x)

pub any-map : {X Y : Type 0} (p : Y → Bool) (f : X → Y) (xs : List X) → list_any p (map f xs) ≡ list_any (λ x. p (f x)) xs
any-map p f [] = refl
any-map p f (x ∷ xs) = ap (λ b. p (f x) || b) (any-map p f xs)

-- The next number stands at the end.
pub counts-push : (n : ℕ) (ns : List ℕ) (m : ℕ) → CountsFrom n ns → m ≡ n + length ns → CountsFrom n (ns ++ m ∷ [])
counts-push n [] m counts next = (omega arith, tt)
counts-push n (k ∷ ns) m counts next = (counts.0, counts-push (n + 1) ns m counts.1 (omega arith))

-- A moment stands at the end, not below the last one.
pub falls-push : (m : ℕ) (ns : List ℕ) (a n : ℕ) → NeverFallsFrom m (ns ++ a ∷ []) → a ≤ n → NeverFallsFrom m ((ns ++ a ∷ []) ++ n ∷ [])
falls-push m [] a n falls le = (falls.0, (le, tt))
falls-push m (k ∷ ns) a n falls le = (falls.0, falls-push k ns a n falls.1 le)

token-step : (P : List ℕ → Type 0) (t : List ℕ) (ts : List (List ℕ)) (index : ℕ) (first : Bool) → eqb index 0 ≡ first → index < length (t ∷ ts)
    → P t → (index - 1 < length ts → P (token (index - 1) ts)) → P (cond first t (token (index - 1) ts))
token-step P t ts index true e within here others = here
token-step P t ts index false e within here others = others (grind (arith, nat_tests))

-- a fact of each token, at one of them
pub at-token : (P : List ℕ → Type 0) (ts : List (List ℕ)) (index : ℕ) → index < length ts → AllByRecursion P ts → P (token index ts)
at-token P [] index within all = absurd (omega arith)
at-token P (t ∷ ts) index within all = token-step P t ts index (eqb index 0) refl within all.0 (λ more. at-token P ts (index - 1) more all.1)

pub all-last : {X : Type 0} (P : X → Type 0) (xs : List X) (x : X) → AllByRecursion P (xs ++ x ∷ []) → AllByRecursion P xs × P x
all-last P [] x all = (tt, all.0)
all-last P (y ∷ xs) x all = let others = all-last P xs x all.1 in ((all.0, others.0), others.1)

pub all-both : {X : Type 0} (P : X → Type 0) (xs ys : List X) → AllByRecursion P xs → AllByRecursion P ys → AllByRecursion P (xs ++ ys)
all-both P [] ys some more = more
all-both P (x ∷ xs) ys some more = (some.0, all-both P xs ys some.1 more)
