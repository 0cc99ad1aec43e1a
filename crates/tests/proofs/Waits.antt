-- What passes that wait show, while another is at work.
use Rattle.std.proofs.Common.{◌≡◌, ℕ, zero, suc, ◌+◌, ◌<◌, ◌≤◌, ◌^◌, Bool, true, false, List, [], ◌∷◌, length, length-set, replicate, slice_set, slice_index_or, sym, refl, ap, ◌∙◌, subst, arith}
use Rattle.std.proofs.lemmas.List.{length-replicate}
use Rattle.std.proofs.Common as std
use Rattle.turn_types.specs.Ends.{Recovered}
use Rattle.turn_types.specs.declared.answers.Recover.{Recover}
use Rattle.turn_types.specs.declared.answers.Recover.TheVariants.{Freed, Other, Stopped}
use mathlib.Core.Option.{some, some-ne-none, some-injective}
use lib.ListN.{get_elem?}
use Rattle.turn_types.specs.Journal.{Chains}
use Rattle.turn_types.specs.Shown.{Shown}
use Rattle.turn_types.specs.Calls.{Able, Asked}
use Rattle.turn_types.specs.Beside.{Beside, Leaves}
use Rattle.turn_types.specs.declared.replay.Replay.{Ghosts}
use Rattle.dbwrap_core.specs.declared.plain.PlainCells.{PlainCells}
use Rattle.dbwrap_core.specs.Plain.{beside_of, shown_at}
use Rattle.dbwrap_core.specs.Begun.{Begun}
use Rattle.tests.specs.Adding.{At, Before, Placed}
use Rattle.tests.specs.Rule.{set_other}
use Rattle.tests.proofs.Steps.{within}
use Rattle.tests.specs.Waiting.{Waits, Waiting}
use Rattle.tests.specs.declared.adding.Stage.{Stage}
use Rattle.tests.specs.declared.adding.Stage.TheVariants as stage

place_is : {A : Type 0} (xs : List A) (n : ℕ) (x d : A) → get_elem? xs n ≡ some x → slice_index_or xs n d ≡ x
place_is [] n x d e = absurd (some-ne-none x (sym e))
place_is (y ∷ xs) zero x d e = some-injective y x e
place_is (y ∷ xs) (suc n) x d e = place_is xs n x d e

-- what a pass that waits shows at its seat
pub waits_at : {R : Type 0} {g : Ghosts R} (p : PlainCells R g) (from n : ℕ) → Waiting from (beside_of p) → from ≤ n → n < 6 → Waits n (shown_at p n)
waits_at {R} p from n w l m = let t = w.each n l m in subst (λ (v : Shown R). Waits n v) (sym (place_is (beside_of p).passes n t.0 _ t.1)) t.2

-- the passes behind one wait on while that one makes a call
pub wait_on : {R : Type 0} (v u : Shown R) (b d : Beside R) (n : ℕ) → Leaves v u b d → length d.chains ≡ length b.chains → v.number ≡ n → Waiting (n + 1) b → Waiting (n + 1) d
wait_on {R} v u b d n l chains number w = record {
  chains = chains ∙ w.chains;
  many = ap (λ (ps : List (Shown R)). length ps) l.passes ∙ length-set b.passes v.number u ∙ w.many;
  each = λ m from below. let t = w.each m from below in (t.0, ap (λ (ps : List (Shown R)). get_elem? ps m) l.passes ∙ set_other b.passes v.number m u (λ e. omega arith) ∙ t.1, t.2);
}

pub behind : {R : Type 0} (b : Beside R) (n : ℕ) → Waiting n b → Waiting (n + 1) b
behind b n w = record { chains = w.chains; many = w.many; each = λ m from below. w.each m (omega arith) below }

pub wait_first : {R : Type 0} (rule : R) (first : Chains) (b : Beside R) → length first ≡ 2 → Begun rule first 6 b → Waiting 0 b
wait_first rule first b two s = record {
  chains = ap (λ (k : Chains). length k) s.chains ∙ two;
  many = s.many;
  each = λ n from below. (_, s.passes n below, record { number = refl; able = record { lives = refl; recovers_none = refl }; own = refl; held = refl; plan = refl; dead = length-replicate 6 false });
}

able_before : {R : Type 0} (v w : Shown R) → Before v w → Able w × (w.number ≡ v.number)
able_before v w b = (b.able, b.number)

able_placed : {R : Type 0} (v w : Shown R) (x place : ℕ) → (y z : _) → Placed v w x place y z → Able w × (w.number ≡ v.number)
able_placed v w x place y z p = (p.able, p.number)

pub able_at : {R : Type 0} (v w : Shown R) (x : ℕ) (s : Stage) → At v x s w → Able w × (w.number ≡ v.number)
able_at v w x stage.Idle a = able_before v w a.0
able_at v w x stage.TookOne a = able_before v w a.0
able_at v w x stage.TookBoth a = able_before v w a.0
able_at v w x (stage.ReadOne low) a = able_before v w a.0
able_at v w x (stage.ReadBoth low high) a = able_before v w a.0
able_at v w x stage.Planned a = able_before v w a.0
able_at v w x (stage.Committed place) a = able_placed v w x place a.0 a.1 a.2
able_at v w x (stage.StoredOne place) a = able_placed v w x place a.0 a.1 a.2
able_at v w x (stage.StoredBoth place) a = able_placed v w x place a.0 a.1 a.2
able_at v w x (stage.GaveOne place) a = able_placed v w x place a.0 a.1 a.2
able_at v w x (stage.Done place) a = able_placed v w x place a.0 a.1 a.2

pub asked_on : {R : Type 0} (other : ℕ) (v w : Shown R) (r : Bool) → Asked other v w r → Able v → Able w × (w.number ≡ v.number)
asked_on {R} other v w true a b = (record { lives = ap (λ (t : Shown R). t.alive) a.1.2 ∙ b.lives; recovers_none = ap (λ (t : Shown R). t.recovering) a.1.2 ∙ b.recovers_none }, ap (λ (t : Shown R). t.number) a.1.2)
asked_on {R} other v w false a b = (record { lives = ap (λ (t : Shown R). t.alive) a ∙ b.lives; recovers_none = ap (λ (t : Shown R). t.recovering) a ∙ b.recovers_none }, ap (λ (t : Shown R). t.number) a)

pub recovered_on : {R : Type 0} (d : ℕ) (stop : std.Option ℕ) (v w : Shown R) (r : Recover) → Recovered d stop v w r → (w.alive ≡ v.alive) × (w.number ≡ v.number)
recovered_on {R} d stop v w Freed a = (ap (λ (t : Shown R). t.alive) a.shown, ap (λ (t : Shown R). t.number) a.shown)
recovered_on {R} d stop v w (Other by) a = (ap (λ (t : Shown R). t.alive) a.1, ap (λ (t : Shown R). t.number) a.1)
recovered_on {R} d stop v w Stopped a = (ap (λ (t : Shown R). t.alive) a.shown, ap (λ (t : Shown R). t.number) a.shown)

-- where the first pass holds nothing and the others wait, all passes live and hold nothing
pub all_free : {R : Type 0} {g : Ghosts R} (p : PlainCells R g) → Waiting 1 (beside_of p) → Able (shown_at p 0) → (shown_at p 0).held ≡ []
    → (n : ℕ) (v : Shown R) → get_elem? (beside_of p).passes n ≡ some v → (v.alive ≡ true) × (v.held ≡ [])
all_free {R} p w able held zero v at = subst (λ (t : Shown R). (t.alive ≡ true) × (t.held ≡ [])) (place_is (beside_of p).passes 0 v _ at) (able.lives, held)
all_free {R} p w able held (suc n) v at = let l = within (beside_of p).passes (suc n) v at in let many = w.many in let t = w.each (suc n) (omega arith) (omega arith) in
    subst (λ (s : Shown R). (s.alive ≡ true) × (s.held ≡ [])) (some-injective t.0 v (sym t.1 ∙ at)) (t.2.able.lives, t.2.held)
