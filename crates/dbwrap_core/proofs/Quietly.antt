-- Where no other living pass holds a chain.
use Rattle.std.proofs.Common.{◌≡◌, ℕ, ◌<◌, List, [], length, slice_set, sym, ap, ◌∙◌, subst}
use mathlib.Core.Option.{some, some-ne-none}
use lib.ListN.{get_elem?}
use Rattle.chain_map.specs.Pairs.{Pairs}
use Rattle.turn_types.specs.Shown.{Shown, Numbered, look}
use Rattle.turn_types.specs.declared.replay.Replay.{Ghosts}
use Rattle.turn_types.specs.declared.answers.Take.{Take}
use Rattle.turn_types.specs.declared.answers.Take.TheVariants.{Taken, Busy, Orphan}
use Rattle.dbwrap_core.specs.declared.plain.PlainCells.{PlainCells}
use Rattle.dbwrap_core.specs.Plain.{Still, Quiet, beside_of, shown_at}
use Rattle.dbwrap_core.proofs.Lists.{there, set_other}
use Rattle.dbwrap_core.proofs.Showing as show

pub number_is : {R : Type 0} {g : Ghosts R} (p : PlainCells R g) (n : ℕ) → n < length p.passes.items → (shown_at p n).number ≡ n
number_is {R} p n l = let t = there p.passes.items n l in ap (λ (v : Shown R). v.number) (show.shown_is p n t.0 t.1)

pub kept : {R : Type 0} {g : Ghosts R} (p q : PlainCells R g) (n : ℕ) → n < length p.passes.items → Still p q n → Quiet (beside_of p) n → Quiet (beside_of q) n
kept {R} p q n l s quiet m w at other = quiet m w (sym (set_other (beside_of p).passes n m (shown_at q n) other) ∙ subst (λ (z : List (Shown R)). get_elem? z m ≡ some w) (s.leaves.passes ∙ ap (λ k. slice_set (beside_of p).passes k (shown_at q n)) (number_is p n l)) at) other

busy_of : Take → ℕ
busy_of Taken = 0
busy_of (Busy h) = h
busy_of (Orphan h) = h

pub same_holder : (h k : ℕ) → Busy h ≡ Busy k → h ≡ k
unfolding busy_of
same_holder h k e = ap busy_of e

pub nothing_found : (c : ℕ) (xs : Numbered) (y : Pairs) → look c xs ≡ some y → xs ≡ [] → ⊥
nothing_found c xs y e n = some-ne-none y (sym e ∙ ap (λ (t : Numbered). look c t) n)
