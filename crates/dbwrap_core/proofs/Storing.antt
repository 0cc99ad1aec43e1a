-- The last of the chains that a pass has still to store.
use Rattle.std.proofs.Common.{◌≡◌, ℕ, ◌+◌, ◌<◌, false, [], ◌∷◌, ◌++◌, length, slice_set, sym, refl, ap, ◌∙◌, subst, arith}
use mathlib.Core.Option.{none, some, some-injective}
use lib.ListN.{get_elem?}
use Rattle.chain_map.specs.Pairs.{Pairs}
use Rattle.turn_types.specs.Shown.{Numbered, look, due, planned, is_made}
use Rattle.turn_types.specs.declared.replay.Replay.{Ghosts}
use Rattle.turn_types.proofs.Runs.{at_last}
use Rattle.dbwrap_core.specs.declared.plain.PlainCells.{PlainCells}
use Rattle.dbwrap_core.specs.declared.pass.PlainPass.{PlainPass}
use Rattle.dbwrap_core.specs.declared.pass.Stage.{Stage}
use Rattle.dbwrap_core.specs.declared.pass.Stage.TheVariants as stage
use Rattle.dbwrap_core.specs.Shows.{held_by, plan_of}
use Rattle.dbwrap_core.specs.Sound.{Sound, due_of, plans_of}
use Rattle.dbwrap_core.proofs.Lists.{set_same, within}
use Rattle.dbwrap_core.proofs.Holding.{held_same, look_last}
use Rattle.dbwrap_core.proofs.Keeping as keep
use Rattle.dbwrap_core.proofs.Planning as plans

module _ {R : Type 0} {g : Ghosts R} (cells : PlainCells R g) (n : ℕ) (p : PlainPass) (at : get_elem? cells.passes.items n ≡ some p) where
  -- chain y with number c is the last one, and xs come before it
  pub record Last (xs : Numbered) (c : ℕ) (y : Pairs) : Type 0 where
    pub committed : p.stage ≡ stage.Committed
    pub due_is : due_of p ≡ xs ++ (c, y) ∷ []
    pub word : get_elem? cells.words.items c ≡ some (n + 1)
    pub inside : c < length cells.chains.items
    pub missing : look c xs ≡ none

  pub last : (xs : Numbered) (c : ℕ) (y : Pairs) → p.new.items ≡ xs ++ (c, y) ∷ [] → is_made (plan_of p.stage p.new.items) ≡ false → Last xs c y
  last xs c y popped unmade =
      let o = cells.sound.each n p at in
      let committed = plans.is_committed_stage p.stage p.new.items xs (c, y) popped unmade o.idle in
      let plan_is : plans_of p ≡ xs ++ (c, y) ∷ [] = ap (λ (s : Stage). planned (plan_of s p.new.items)) committed ∙ popped in
      let word = o.planned (length xs) (c, y) (subst (λ (d : Numbered). get_elem? d (length xs) ≡ some (c, y)) (sym plan_is) (at_last xs (c, y) (length xs) refl)) in
      let inside = within cells.words.items c (n + 1) word in let many = cells.sound.each_held in record {
        committed = committed;
        due_is = ap (λ (s : Stage). due (plan_of s p.new.items)) committed ∙ popped;
        word = word;
        inside = omega arith;
        missing = plans.last_missing xs c y (λ i j x z e f l. o.rising i j x z (subst (λ (d : Numbered). get_elem? d i ≡ some x) (sym plan_is) e) (subst (λ (d : Numbered). get_elem? d j ≡ some z) (sym plan_is) f) l);
      }

  -- once it is stored
  pub stored : (p' : PlainPass) (c : ℕ) (y : Pairs) → Last p'.new.items c y → p' ≡ record p { new = p'.new; done = p'.done } → p.new.items ≡ p'.new.items ++ (c, y) ∷ []
      → Sound g.first g.step g.legal g.follows g.buries cells.rule cells.first.value.items (slice_set cells.chains.items c y) cells.words.items cells.journal.items (slice_set cells.passes.items n p')
  stored p' c y last same popped =
      let due_y = ap (λ (d : Numbered). look c d) last.due_is ∙ look_last c p'.new.items y last.missing in
      keep.pops (keep.stores cells.sound n c p y at last.word due_y) n c p p' y at same last.committed popped last.missing (set_same cells.chains.items c y last.inside)

  -- others hold what they held
  pub others : (xs : Numbered) (c : ℕ) (y : Pairs) → Last xs c y → (m : ℕ) → (m ≡ n → ⊥) → held_by (m + 1) 0 (slice_set cells.chains.items c y) cells.words.items ≡ held_by (m + 1) 0 cells.chains.items cells.words.items
  others xs c y last m out = held_same (m + 1) 0 c cells.chains.items cells.words.items y (λ z. let is = some-injective (n + 1) (m + 1) (sym last.word ∙ z) in out (omega arith))
