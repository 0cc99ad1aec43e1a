-- What a dead pass shows.
use Rattle.std.proofs.Common.{◌≡◌, ℕ, ◌+◌, false, List, slice_set, refl, ap, ◌∙◌, Option, Some, None}
use mathlib.Core.Option.{some}
use lib.ListN.{get_elem?}
use Rattle.sid_core.specs.declared.entry.Entry.{Entry}
use Rattle.turn_types.specs.Journal.{Chains}
use Rattle.turn_types.specs.Shown.{Shown}
use Rattle.dbwrap_core.specs.declared.pass.PlainPass.{PlainPass}
use Rattle.dbwrap_core.specs.declared.pass.Death.{Death}
use Rattle.dbwrap_core.specs.Shows.{shown_of, all_shown, held_by, held_at, plan_of, plan_at}
use Rattle.dbwrap_core.proofs.Lists.{set_self}
use Rattle.dbwrap_core.proofs.Showing as show

module _ {R : Type 0} (r : R) (f : Chains) where
  -- what it showed when it died
  pub dying : (ks : Chains) (hs : List ℕ) (js : List Entry) (n : ℕ) (p : PlainPass) (d : Death) → d.chains.value.items ≡ ks → d.words.value.items ≡ hs → d.stage ≡ p.stage → d.new.value.items ≡ p.new.items
      → shown_of r f ks hs js n (record p { death = Some d }) ≡ record (show.shown_living r f ks hs js n p) { alive = false }
  dying ks hs js n p d chains words stage new = λ j. record (shown_of r f ks hs js n (record p { death = Some d })) { held = held_by (n + 1) 0 (chains j) (words j); plan = plan_of (stage j) (new j) }

  -- a dead pass shows the same whatever becomes of its chains and its plan
  pub stays_shown : (ks ks' : Chains) (hs hs' : List ℕ) (js : List Entry) (n : ℕ) (p p' : PlainPass) (d : Death) → p.death ≡ Some d → p' ≡ record p { stage = p'.stage; new = p'.new } → shown_of r f ks' hs' js n p' ≡ shown_of r f ks hs js n p
  stays_shown ks ks' hs hs' js n p p' d died same = ap (λ (z : PlainPass). shown_of r f ks' hs' js n z) same
      ∙ (λ j. record (shown_of r f ks hs js n p) { held = (same_held p.death died ks ks' hs hs' (n + 1)) j; plan = (same_plan p.death died p'.stage p.stage p'.new.items p.new.items) j }) where
        same_held : (o : Option Death) → o ≡ Some d → (ks ks' : Chains) (hs hs' : List ℕ) (w : ℕ) → held_at o w ks' hs' ≡ held_at o w ks hs
        same_held None e ks ks' hs hs' w = let z : None ≡ Some d = e in absurd cc
        same_held (Some x) e ks ks' hs hs' w = refl

        same_plan : (o : Option Death) → o ≡ Some d → (s s' : _) (xs ys : _) → plan_at o s xs ≡ plan_at o s' ys
        same_plan None e s s' xs ys = let z : None ≡ Some d = e in absurd cc
        same_plan (Some x) e s s' xs ys = refl

  -- so all passes do
  pub all_stay : (ks ks' : Chains) (hs hs' : List ℕ) (js : List Entry) (n : ℕ) (ps : List PlainPass) (p p' : PlainPass) (d : Death) → get_elem? ps n ≡ some p → p.death ≡ Some d → p' ≡ record p { stage = p'.stage; new = p'.new }
      → ((m : ℕ) → (m ≡ n → ⊥) → held_by (m + 1) 0 ks' hs' ≡ held_by (m + 1) 0 ks hs) → all_shown r f ks' hs' js 0 (slice_set ps n p') ≡ all_shown r f ks hs js 0 ps
  all_stay ks ks' hs hs' js n ps p p' d at died same others = show.all_set r f ks ks' hs hs' js js n ps p' (λ m q e out. (refl, others m out))
      ∙ ap (λ (v : Shown R). slice_set (all_shown r f ks hs js 0 ps) n v) (stays_shown ks ks' hs hs' js n p p' d died same)
      ∙ set_self (all_shown r f ks hs js 0 ps) n (shown_of r f ks hs js n p) (show.shown_there r f ks hs js ps n p at)
