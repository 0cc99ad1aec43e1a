-- At the end each chain is what the journal makes of it.
use Rattle.std.proofs.Common.{◌≡◌, ℕ, zero, suc, ◌+◌, ◌-◌, ◌<◌, ◌≤◌, List, [], ◌∷◌, length, sym, refl, ap, ◌∙◌, subst, arith, Option, true, false}
use Rattle.std.proofs.Common as std
use mathlib.Core.Option.{some, some-ne-none, some-injective}
use Rattle.std.specs.Prelude.{fold}
use mathlib.Core.Logic.{dite}
use native.Mathlib.Decide.{ℕ_discrete}
use lib.ListN.{get_elem?}
use Rattle.chain_map.specs.Pairs.{Pairs}
use Rattle.sid_core.specs.declared.entry.Entry.{Entry}
use Rattle.turn_types.specs.Journal.{Chains, Lawful}
use Rattle.turn_types.specs.Shown.{Shown, look, knows_freed}
use Rattle.dbwrap_core.specs.declared.pass.PlainPass.{PlainPass}
use Rattle.dbwrap_core.specs.declared.pass.Death.{Death}
use Rattle.dbwrap_core.specs.Shows.{shown_of, all_shown, held_at, lives}
use Rattle.dbwrap_core.proofs.Showing as show
use Rattle.dbwrap_core.specs.Sound.{Sound}
use Rattle.dbwrap_core.proofs.Lists.{there, within, is_there}
use Rattle.dbwrap_core.proofs.Holding as holding
use Rattle.turn_types.proofs.Runs as runs

same_lists : {A : Type 0} (xs ys : List A) → length xs ≡ length ys → ((i : ℕ) (x : A) → get_elem? xs i ≡ some x → get_elem? ys i ≡ some x) → xs ≡ ys
same_lists [] [] l e = refl
same_lists [] (y ∷ ys) l e = absurd (omega arith)
same_lists (x ∷ xs) [] l e = absurd (omega arith)
same_lists {A} (x ∷ xs) (y ∷ ys) l e = let h : x ≡ y = sym (some-injective y x (e zero x refl)) in let t : xs ≡ ys = same_lists xs ys (omega arith) (λ i z f. e (suc i) z f) in λ j. h j ∷ t j

pub ends : {R : Type 0} (first : R → Chains → Type 0) (step : R → Chains → Entry → Chains) (legal : R → Chains → Entry → Type 0) (follows : R → List Entry → Entry → Type 0) (buries : R → Entry → std.Option ℕ) (names : R → Chains → Entry → List ℕ) (rule : R) (k0 : Chains)
    → Lawful (first rule) (step rule) (legal rule) (names rule) (follows rule) → (ks : Chains) (hs : List ℕ) (js : List Entry) (ps : List PlainPass)
    → Sound first step legal follows buries rule k0 ks hs js ps → ((c h : ℕ) → get_elem? hs c ≡ some (h + 1) → ⊥) → ks ≡ fold (step rule) k0 js
ends first step legal follows buries names rule k0 law ks hs js ps ok unnamed =
    same_lists ks (fold (step rule) k0 js) (ok.as_many ∙ sym (runs.legal_length (step rule) (legal rule) (follows rule) k0 (first rule) (names rule) law ok.began js ok.is_legal))
    (λ c y e. let l = within ks c y e in let many = ok.each_held in let h = there hs c (omega arith) in
    dite (ℕ_discrete h.0 0) (λ is. ok.free c y (h.1 ∙ ap some is) e)
    (λ other. let w : get_elem? hs c ≡ some ((h.0 - 1) + 1) = h.1 ∙ ap some (omega arith) in absurd (unnamed c (h.0 - 1) w)))

-- where each living pass holds nothing and each dead one is known as freed, no word names a pass
pub unnamed : {R : Type 0} (first : R → Chains → Type 0) (step : R → Chains → Entry → Chains) (legal : R → Chains → Entry → Type 0) (follows : R → List Entry → Entry → Type 0) (buries : R → Entry → std.Option ℕ) (rule : R) (k0 : Chains) (ks : Chains) (hs : List ℕ) (js : List Entry) (ps : List PlainPass)
    → Sound first step legal follows buries rule k0 ks hs js ps
    → ((n : ℕ) (v : Shown R) → get_elem? (all_shown rule k0 ks hs js 0 ps) n ≡ some v → v.alive ≡ true → v.held ≡ [])
    → ((n : ℕ) (v : Shown R) → get_elem? (all_shown rule k0 ks hs js 0 ps) n ≡ some v → v.alive ≡ false → (m : ℕ) × (w : Shown R) × (get_elem? (all_shown rule k0 ks hs js 0 ps) m ≡ some w) × (knows_freed n w ≡ true))
    → (c h : ℕ) → get_elem? hs c ≡ some (h + 1) → ⊥
unnamed {R} first step legal follows buries rule k0 ks hs js ps ok free freed c h word =
    let b = ok.named c (h + 1) word in let p = there ps h (omega arith) in let l = within hs c (h + 1) word in let many = ok.each_held in let y = there ks c (omega arith) in
    go p.0 p.1 y.0 y.1 p.0.death refl where
      go : (p : PlainPass) → get_elem? ps h ≡ some p → (y : Pairs) → get_elem? ks c ≡ some y → (d : std.Option Death) → p.death ≡ d → ⊥
      go p at y is std.None e = some-ne-none y (sym (holding.found_here (h + 1) c ks hs y word is)
          ∙ ap (λ (t : List (ℕ × Pairs)). look c t) (sym (ap (λ (d : std.Option Death). held_at d (h + 1) ks hs) e) ∙ free h (shown_of rule k0 ks hs js h p) (show.shown_there rule k0 ks hs js ps h p at) (ap (λ (d : std.Option Death). lives d) e)))
      go p at y is (std.Some d) e = let t = freed h (shown_of rule k0 ks hs js h p) (show.shown_there rule k0 ks hs js ps h p at) (ap (λ (d : std.Option Death). lives d) e) in
          let q = show.shown_back rule k0 ks hs js ps t.0 t.1 t.2 in
          (ok.each t.0 q.0 q.1).recovered c h word (is_there q.0.freed.items h (ap (λ (v : Shown R). knows_freed h v) (sym q.2) ∙ t.3))
