-- What a living pass has seen is lawful, and the journal buries the dead alone.
use Rattle.std.proofs.Common.{◌≡◌, ℕ, true, false, List, take, sym, refl, subst, ap, ◌∙◌}
use Rattle.std.proofs.Common as std
use mathlib.Core.Option.{some}
use lib.ListN.{get_elem?}
use Rattle.sid_core.specs.declared.entry.Entry.{Entry}
use Rattle.turn_types.specs.Journal.{Chains, Legal}
use Rattle.turn_types.specs.Calls.{Lawfully}
use Rattle.turn_types.proofs.Runs as runs
use Rattle.dbwrap_core.specs.declared.pass.PlainPass.{PlainPass}
use Rattle.dbwrap_core.specs.Sound.{Sound}
use Rattle.dbwrap_core.proofs.Lists.{take_prefix}
use Rattle.turn_types.specs.Beside.{BuriesTheDead}
use Rattle.turn_types.specs.Shown.{Shown}
use Rattle.dbwrap_core.specs.declared.pass.Death.{Death}
use Rattle.dbwrap_core.specs.Shows.{all_shown, lives}
use Rattle.dbwrap_core.proofs.Showing.{shown_living, shown_back}

is_dead : (d : std.Option Death) → (d ≡ std.None → ⊥) → lives d ≡ false
is_dead std.None n = absurd (n refl)
is_dead (std.Some d) n = refl

module _ {R : Type 0} {first : R → Chains → Type 0} {step : R → Chains → Entry → Chains} {legal : R → Chains → Entry → Type 0} {follows : R → List Entry → Entry → Type 0} {buries : R → Entry → std.Option ℕ} {rule : R} {k0 ks : Chains} {hs : List ℕ} {js : List Entry} {ps : List PlainPass}
    (ok : Sound first step legal follows buries rule k0 ks hs js ps) where
  pub lawful : (n : ℕ) (p : PlainPass) → get_elem? ps n ≡ some p → p.death ≡ std.None → Lawfully step legal follows buries (shown_living rule k0 ks hs js n p)
  lawful n p at lives = let r = take_prefix p.seen js in record {
    is_legal = runs.legal_front (step rule) (legal rule) (follows rule) k0 (take p.seen js) r.0 (subst (λ (t : List Entry). Legal (step rule) (legal rule) (follows rule) k0 t) r.1 ok.is_legal);
    own = refl;
    unburied = λ i e f b. (ok.each n p at).unburied i e lives (subst (λ (t : List Entry). get_elem? t i ≡ some e) (sym r.1) (runs.at_longer (take p.seen js) r.0 i e f)) b;
  }

  pub buries_the_dead : BuriesTheDead buries (record { journal = js; chains = ks; words = hs; passes = all_shown rule k0 ks hs js 0 ps })
  buries_the_dead i e n u at b there = let t = shown_back rule k0 ks hs js ps n u there in
      ap (λ (v : Shown R). v.alive) t.2 ∙ is_dead t.0.death (λ l. (ok.each n t.0 t.1).unburied i e l at (ap (λ (v : Shown R). buries v.rule e) (sym t.2) ∙ b))
