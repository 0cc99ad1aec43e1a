-- What plain cells show.
use Rattle.std.specs.Prelude.{◌≡◌, ℕ, zero, suc, ◌+◌, ◌<◌, List, [], ◌∷◌, length, slice_index_or, true}
use Rattle.std.proofs.Common.{refl, sym, subst, ◌∙◌, arith}
use mathlib.Core.Option.{some}
use Rattle.sid_core.specs.declared.entry.Entry.{Entry}
use Rattle.turn_types.specs.Journal.{Chains}
use Rattle.dbwrap_core.specs.declared.pass.PlainPass.{PlainPass}
use lib.ListN.{get_elem?}
use Rattle.turn_types.specs.Shown.{Shown}
use Rattle.turn_types.specs.declared.replay.Replay.{Ghosts}
use Rattle.turn_types.specs.Beside.{Beside, Leaves, Tells}
use Rattle.dbwrap_core.specs.declared.plain.PlainCells.{PlainCells}
use Rattle.dbwrap_core.specs.Shows.{all_shown, blank}

abbrev pub beside_of : {R : Type 0} {g : Ghosts R} → PlainCells R g → Beside R
beside_of p = record {
  journal = p.journal.items;
  chains = p.chains.items;
  words = p.words.items;
  passes = all_shown p.rule p.first.value.items p.chains.items p.words.items p.journal.items 0 p.passes.items;
}

abbrev pub shown_at : {R : Type 0} {g : Ghosts R} → PlainCells R g → ℕ → Shown R
shown_at p n = slice_index_or (beside_of p).passes n (blank p.rule [] 0 [])

-- no living pass but n holds a chain
abbrev pub Quiet : {R : Type 0} → Beside R → ℕ → Type 0
Quiet {R} b n = (m : ℕ) (w : Shown R) → get_elem? b.passes m ≡ some w → (m ≡ n → ⊥) → w.alive ≡ true → w.held ≡ []

-- what no call of pass n changes
pub record Still {R : Type 0} {g : Ghosts R} (p q : PlainCells R g) (n : ℕ) : Type 0 where
  pub rule : q.rule ≡ p.rule
  pub chains : length q.chains.items ≡ length p.chains.items
  pub passes : length q.passes.items ≡ length p.passes.items
  pub leaves : Leaves (shown_at p n) (shown_at q n) (beside_of p) (beside_of q)

told_at : {R : Type 0} (rule : R) (first chains : Chains) (words : List ℕ) (journal : List Entry) (i : ℕ) (ps : List PlainPass) (n : ℕ) (b : Shown R) → n < length ps
    → get_elem? (all_shown rule first chains words journal i ps) n ≡ some (slice_index_or (all_shown rule first chains words journal i ps) n b) × ((slice_index_or (all_shown rule first chains words journal i ps) n b).number ≡ i + n)
told_at rule first chains words journal i [] n b l = absurd (omega arith)
told_at rule first chains words journal i (p ∷ ps) zero b l = (refl, omega arith)
told_at rule first chains words journal i (p ∷ ps) (suc n) b l = let t = told_at rule first chains words journal (i + 1) ps n b (omega arith) in (t.0, t.1 ∙ omega arith)

-- what a pass shows is told under its number
pub seat_tells : {R : Type 0} {g : Ghosts R} (p : PlainCells R g) (n : ℕ) → n < length p.passes.items → Tells (shown_at p n) (beside_of p)
seat_tells p n l = let t = told_at p.rule p.first.value.items p.chains.items p.words.items p.journal.items 0 p.passes.items n (blank p.rule [] 0 []) l in
    subst (λ m. get_elem? (beside_of p).passes m ≡ some (shown_at p n)) (sym (t.1 ∙ omega arith)) t.0
