-- A chain that a pass tries to take, where its word names another pass.
use Rattle.std.proofs.Common.{◌≡◌, ℕ, ◌+◌, ◌-◌, ◌<◌, length, slice_index_or, sym, ap, ◌∙◌, subst, arith}
use mathlib.Core.Option.{some}
use lib.ListN.{get_elem?}
use Rattle.chain_map.specs.Pairs.{Pairs}
use Rattle.turn_types.specs.Shown.{Shown, AllBelow}
use Rattle.turn_types.specs.declared.replay.Replay.{Ghosts}
use Rattle.dbwrap_core.specs.declared.plain.PlainCells.{PlainCells}
use Rattle.dbwrap_core.specs.declared.pass.PlainPass.{PlainPass}
use Rattle.dbwrap_core.specs.Plain.{shown_at}
use Rattle.dbwrap_core.proofs.Here.{Here}
use Rattle.dbwrap_core.proofs.Lists.{at_place, there}
use Rattle.dbwrap_core.proofs.Holding as holding

module _ {R : Type 0} {g : Ghosts R} (cells : PlainCells R g) (c : ℕ) where
  pub word_at : (word : ℕ) → c < length cells.chains.items → word ≡ slice_index_or cells.words.items c word → get_elem? cells.words.items c ≡ some word
  word_at word inside is = let many = cells.sound.each_held in at_place cells.words.items c word (omega arith) is

  -- the pass that it names is there
  pub names_within : (word : ℕ) → c < length cells.chains.items → word ≡ slice_index_or cells.words.items c word → 0 < word → word - 1 < length cells.passes.items
  names_within word inside is some_word = let bound = cells.sound.named c word (word_at word inside is) in omega arith

  pub record Others (n holder : ℕ) (other : PlainPass) : Type 0 where
    pub number : (holder - 1) + 1 ≡ holder
    pub word : get_elem? cells.words.items c ≡ some ((holder - 1) + 1)
    pub chain : (y : Pairs) × (get_elem? cells.chains.items c ≡ some y)
    pub not_own : holder - 1 ≡ n → ⊥
    pub at : get_elem? cells.passes.items (holder - 1) ≡ some other

  pub others : (n : ℕ) (me : PlainPass) → Here cells n me → (holder : ℕ) (other : PlainPass) → (c < length cells.chains.items) × AllBelow c (shown_at cells n).held → holder ≡ slice_index_or cells.words.items c holder → 0 < holder
      → other ≡ slice_index_or cells.passes.items (holder - 1) other → Others n holder other
  others n me h holder other chain is some_holder found =
      let number : (holder - 1) + 1 ≡ holder = omega arith in
      let at = word_at holder chain.0 is in
      let y = there cells.chains.items c chain.0 in record {
        number = number;
        word = at ∙ ap some (sym number);
        chain = y;
        not_own = λ q. holding.not_below c _ y.0 (subst (λ (v : Shown R). AllBelow c v.held) h.old chain.1) (holding.found_here (n + 1) c cells.chains.items cells.words.items y.0 (at ∙ ap some (let z : holder ≡ n + 1 = omega arith in z)) y.1);
        at = at_place cells.passes.items (holder - 1) other (names_within holder chain.0 is some_holder) found;
      }
