-- Calls of one pass, one after another.
use Rattle.std.proofs.Common.{◌≡◌, ℕ, zero, suc, List, [], ◌∷◌, ◌++◌, slice_set, sym, refl, ap, ◌∙◌, append_assoc, append-nil, Option, Some, None}
use mathlib.Core.Option.{some, some-ne-none, some-injective}
use lib.ListN.{get_elem?}
use Rattle.std.specs.Prelude.{IfSome}
use Rattle.sid_core.specs.declared.entry.Entry.{Entry}
use Rattle.turn_types.specs.Shown.{Shown}
use Rattle.turn_types.specs.Beside.{Beside, WhereTold, Leaves, Tells}

set_twice : {A : Type 0} (xs : List A) (n : ℕ) (x y : A) → slice_set (slice_set xs n x) n y ≡ slice_set xs n y
set_twice [] n x y = refl
set_twice (z ∷ xs) zero x y = refl
set_twice (z ∷ xs) (suc n) x y = ap (λ t. z ∷ t) (set_twice xs n x y)

-- what two calls leave is what they leave together
pub together : {R : Type 0} (v w x : Shown R) (b d e : Option (Beside R)) → w.number ≡ v.number → WhereTold (Leaves v w) b d → WhereTold (Leaves w x) d e → WhereTold (Leaves v x) b e
together v w x None None None same p q = tt
together v w x None None (Some e) same p q = absurd q
together v w x None (Some d) e same p q = absurd p
together v w x (Some b) None e same p q = absurd p
together v w x (Some b) (Some d) None same p q = absurd q
together {R} v w x (Some b) (Some d) (Some e) same p q = record {
  gained = p.gained ++ q.gained;
  own = q.own ∙ ap (λ (t : List Entry). t ++ q.gained) p.own ∙ append_assoc v.own p.gained q.gained;
  journal = q.journal ∙ ap (λ (t : List Entry). t ++ q.gained) p.journal ∙ append_assoc b.journal p.gained q.gained;
  passes = q.passes ∙ (λ j. slice_set (p.passes j) (same j) x) ∙ set_twice b.passes v.number w x;
}

pub set_self : {A : Type 0} (xs : List A) (n : ℕ) (x : A) → get_elem? xs n ≡ some x → slice_set xs n x ≡ xs
set_self [] n x e = absurd (some-ne-none x (sym e))
set_self (y ∷ xs) zero x e = ap (λ z. z ∷ xs) (sym (some-injective y x e))
set_self (y ∷ xs) (suc n) x e = ap (λ zs. y ∷ zs) (set_self xs n x e)

-- no call leaves all as it is
pub nothing : {R : Type 0} (v : Shown R) (b : Option (Beside R)) → IfSome b (Tells v) → WhereTold (Leaves v v) b b
nothing v None told = tt
nothing v (Some b) told = record { gained = []; own = sym (append-nil v.own); journal = sym (append-nil b.journal); passes = sym (set_self b.passes v.number v told) }
