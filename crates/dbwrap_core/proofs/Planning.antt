-- Plans, and what is due of them.
use Rattle.std.proofs.Common.{◌≡◌, ℕ, zero, suc, ◌+◌, ◌<◌, ◌≤◌, Bool, true, false, List, [], ◌∷◌, ◌++◌, length, sym, refl, ap, ◌∙◌, subst, arith, length-append}
use mathlib.Core.Option.{Option, none, some, some-ne-none, some-injective}
use lib.ListN.{get_elem?}
use Rattle.chain_map.specs.Pairs.{Pairs}
use Rattle.dbwrap_core.specs.declared.pass.Stage.{Stage}
use Rattle.dbwrap_core.specs.declared.pass.Stage.TheVariants as stage
use Rattle.dbwrap_core.specs.Shows.{plan_of}
use Rattle.turn_types.specs.Shown.{Numbered, look, due, planned, is_committed, is_nothing, is_made, is_stored, RisesFrom, Within, left_over}
use Rattle.dbwrap_core.proofs.Holding.{found_there}
use Rattle.turn_types.proofs.Runs.{at_longer, at_last}
use Rattle.dbwrap_core.proofs.Lists.{within}
use Rattle.turn_types.specs.Shown.{Plan}
use Rattle.turn_types.specs.Shown.{Nothing, Made, Committed}

pub none_due : (p : Plan) → is_committed p ≡ false → due p ≡ []
none_due Nothing e = refl
none_due (Made xs) e = refl
none_due (Committed xs) e = absurd cc

pub not_committed : (p : Plan) → is_nothing p ≡ true → is_committed p ≡ false
not_committed Nothing e = refl
not_committed (Made xs) e = absurd cc
not_committed (Committed xs) e = absurd cc

pub made_uncommitted : (p : Plan) → is_made p ≡ true → is_committed p ≡ false
made_uncommitted Nothing e = absurd cc
made_uncommitted (Made xs) e = refl
made_uncommitted (Committed xs) e = absurd cc

pub stored_plans : (p : Plan) → is_stored p ≡ true → planned p ≡ []
stored_plans Nothing e = refl
stored_plans (Made xs) e = absurd cc
stored_plans (Committed []) e = refl
stored_plans (Committed (x ∷ xs)) e = absurd cc

pub stored_due : (p : Plan) → is_stored p ≡ true → due p ≡ []
stored_due Nothing e = refl
stored_due (Made xs) e = absurd cc
stored_due (Committed []) e = refl
stored_due (Committed (x ∷ xs)) e = absurd cc

pub within_at : {A B : Type 0} (xs : List (ℕ × A)) (ys : List (ℕ × B)) (i : ℕ) (x : ℕ × A) → Within xs ys → get_elem? xs i ≡ some x → (y : B) × (look x.0 ys ≡ some y)
within_at [] ys i x w e = absurd (some-ne-none x (sym e))
within_at {A} {B} (z ∷ xs) ys zero x w e = subst (λ (t : ℕ × A). (y : B) × (look t.0 ys ≡ some y)) (some-injective z x e) w.0
within_at (z ∷ xs) ys (suc i) x w e = within_at xs ys i x w.1 e

above : {A : Type 0} (n : ℕ) (xs : List (ℕ × A)) (i : ℕ) (x : ℕ × A) → RisesFrom n xs → get_elem? xs i ≡ some x → n ≤ x.0
above n [] i x r e = absurd (some-ne-none x (sym e))
above {A} n (z ∷ xs) zero x r e = subst (λ (t : ℕ × A). n ≤ t.0) (some-injective z x e) r.0
above n (z ∷ xs) (suc i) x r e = let a = above (z.0 + 1) xs i x r.1 e in let b = r.0 in omega arith

pub rises_at : {A : Type 0} (n : ℕ) (xs : List (ℕ × A)) (i j : ℕ) (x y : ℕ × A) → RisesFrom n xs → get_elem? xs i ≡ some x → get_elem? xs j ≡ some y → i < j → x.0 < y.0
rises_at n [] i j x y r e f l = absurd (some-ne-none x (sym e))
rises_at n (z ∷ xs) i zero x y r e f l = absurd (omega arith)
rises_at {A} n (z ∷ xs) zero (suc j) x y r e f l = subst (λ (t : ℕ × A). t.0 < y.0) (some-injective z x e) (let a = above (z.0 + 1) xs j y r.1 f in omega arith)
rises_at n (z ∷ xs) (suc i) (suc j) x y r e f l = rises_at (z.0 + 1) xs i j x y r.1 e f (omega arith)

pub is_committed_stage : (s : Stage) (xs : Numbered) (ys : Numbered) (y : ℕ × Pairs) → xs ≡ ys ++ y ∷ [] → is_made (plan_of s xs) ≡ false → (is_nothing (plan_of s xs) ≡ true → xs ≡ []) → s ≡ stage.Committed
is_committed_stage stage.Nothing xs ys y e m i = let l = ap (λ (t : Numbered). length t) (sym (i refl) ∙ e) in let k = length-append ys (y ∷ []) in absurd (omega arith)
is_committed_stage stage.Made xs ys y e m i = absurd cc
is_committed_stage stage.Committed xs ys y e m i = refl

pub never : {A : Type 0} → false ≡ true → A
never e = absurd cc

pub due_nil : (s : Stage) (xs : Numbered) → xs ≡ [] → due (plan_of s xs) ≡ []
due_nil stage.Nothing xs e = refl
due_nil stage.Made xs e = refl
due_nil stage.Committed xs e = e

pub planned_nil : (s : Stage) (xs : Numbered) → xs ≡ [] → planned (plan_of s xs) ≡ []
planned_nil stage.Nothing xs e = refl
planned_nil stage.Made xs e = e
planned_nil stage.Committed xs e = e

pub nil_of : {A : Type 0} (xs : List A) → length xs ≡ 0 → xs ≡ []
nil_of [] e = refl
nil_of (x ∷ xs) e = absurd (omega arith)

pub last_missing : (xs : Numbered) (c : ℕ) (y : Pairs) → ((i j : ℕ) (x z : ℕ × Pairs) → get_elem? (xs ++ (c, y) ∷ []) i ≡ some x → get_elem? (xs ++ (c, y) ∷ []) j ≡ some z → i < j → x.0 < z.0) → look c xs ≡ none
last_missing xs c y rises = go (look c xs) refl where
  go : (t : Option Pairs) → look c xs ≡ t → t ≡ none
  go none e = refl
  go (some z) e = let f = found_there c xs z e in
      let l = rises f.0 (length xs) (c, z) (c, y) (at_longer xs ((c, y) ∷ []) f.0 (c, z) f.1) (at_last xs (c, y) (length xs) refl) (within xs f.0 (c, z) f.1) in absurd (omega arith)

-- what stays of a plan whose chains are stored
pub left : (s : Stage) (xs : Numbered) (hs : Numbered) → is_stored (plan_of s xs) ≡ true → (is_nothing (plan_of s xs) ≡ true → xs ≡ []) → (xs ≡ [])
left stage.Nothing xs hs e i = i refl
left stage.Made xs hs e i = never e
left stage.Committed [] hs e i = refl
left stage.Committed (x ∷ xs) hs e i = never e

pub left_none : (s : Stage) → is_stored (plan_of s []) ≡ true → left_over [] (plan_of s []) ≡ Nothing
left_none stage.Nothing e = refl
left_none stage.Made e = never e
left_none stage.Committed e = refl

pub after_stage : (s s' : Stage) (xs hs : Numbered) (last : Bool) → is_stored (plan_of s xs) ≡ true → xs ≡ [] → (last ≡ true → s' ≡ stage.Nothing) → (last ≡ false → s' ≡ s) → (last ≡ true → hs ≡ []) → (last ≡ false → (h : ℕ × Pairs) × (rest : Numbered) × (hs ≡ h ∷ rest))
    → plan_of s' xs ≡ left_over hs (plan_of s xs)
after_stage s s' xs hs true stored nil a b c d = ap (λ (t : Stage). plan_of t xs) (a refl) ∙ sym (ap (λ (t : Numbered). left_over t (plan_of s xs)) (c refl) ∙ ap (λ (t : Numbered). left_over [] (plan_of s t)) nil
    ∙ left_none s (ap (λ (t : Numbered). is_stored (plan_of s t)) (sym nil) ∙ stored))
after_stage s s' xs hs false stored nil a b c d = let t = d refl in ap (λ (t : Stage). plan_of t xs) (b refl) ∙ sym (ap (λ (u : Numbered). left_over u (plan_of s xs)) t.2)
