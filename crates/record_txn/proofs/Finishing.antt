-- What a pass shows when its transaction is finished.
use Rattle.std.proofs.Common.{◌≡◌, ℕ, zero, suc, ◌+◌, ◌<◌, ◌≤◌, ◌⊎◌, inl, inr, Bool, true, false, cond, eqb, List, [], ◌∷◌, ◌++◌, length, sym, refl, ap, ◌∙◌, subst, arith}
use Rattle.std.proofs.Common as std
use mathlib.Core.Option.{some}
use Rattle.sid_core.specs.declared.entry.Entry.{Entry}
use Rattle.sid_core.specs.declared.outside.Point.{Point}
use Rattle.sid_core.specs.declared.outside.Point.TheVariants.{Take, Intent, Commit, Mourn}
use Rattle.chain_map.specs.Pairs.{Pairs}
use Rattle.turn_types.specs.Journal.{Chains}
use Rattle.turn_types.specs.Shown.{Shown, Numbered, Made, IsPart, RisesFrom, replay, look, or_else, planned, hold}
use Rattle.turn_types.specs.Calls.{Planned, Fits, Stands}
use Rattle.turn_types.specs.Ends.{Committing}
use Rattle.turn_types.specs.declared.answers.Commit as answer
use Rattle.turn_types.specs.declared.answers.Commit.TheVariants as commit
use Rattle.record_txn.specs.Moves.{changed}
use Rattle.record_txn.specs.Hand.{chains_of, changes_of, IsHandOf}
use Rattle.record_txn.specs.Finishing.{MayFinish, IsEntered, Reached, Finished, EndedAt, IsDropped, dies_early}
use Rattle.record_txn.specs.declared.hand.Held.{Held}
use Rattle.record_txn.specs.declared.finish.Finish.{Finish}
use Rattle.record_txn.specs.declared.finish.Finish.TheVariants as finish
use Rattle.record_txn.proofs.Hands.{in_hand}

hold_long : (c : ℕ) (y : Pairs) (xs : Numbered) → length (hold c y xs) ≡ length xs
hold_long c y [] = refl
hold_long c y (x ∷ xs) = go (eqb x.0 c) (hold_long c y xs) where
  go : (b : Bool) → length (hold c y xs) ≡ length xs → length (cond b ((x.0, y) ∷ xs) (x ∷ hold c y xs)) ≡ suc (length xs)
  go true e = refl
  go false e = ap suc e

-- as many chains are held as before changes were stored
pub changed_long : (changes held : Numbered) → length (changed changes held) ≡ length held
changed_long [] held = refl
changed_long (x ∷ changes) held = hold_long x.0 x.1 (changed changes held) ∙ changed_long changes held

-- at a point that has no step behind the commit nothing is done
pub stays_there : {R : Type 0} (v : Shown R) (p : Point) → (p ≡ Take) ⊎ ((p ≡ Intent) ⊎ ((p ≡ Commit) ⊎ (p ≡ Mourn))) → Reached v v p
stays_there v p (inl e) = subst (λ q. Reached v v q) (sym e) refl
stays_there v p (inr (inl e)) = subst (λ q. Reached v v q) (sym e) refl
stays_there v p (inr (inr (inl e))) = subst (λ q. Reached v v q) (sym e) refl
stays_there v p (inr (inr (inr e))) = subst (λ q. Reached v v q) (sym e) refl

module _ {R : Type 0} (step : R → Chains → Entry → Chains) (legal : R → Chains → Entry → Type 0) (follows : R → List Entry → Entry → Type 0) (buries : R → Entry → std.Option ℕ) where
  -- the entry of a transaction meets what a commit needs
  pub fits_finish : (names : R → Chains → Entry → List ℕ) (hand : List Held) (changes : Numbered) (v p : Shown R) (e : Entry) → e.by ≡ v.number → e.seq ≡ length v.own + 1
      → IsHandOf hand v.held → RisesFrom 0 v.held → IsPart v.held (replay step v v.seen) → MayFinish step legal follows buries names (chains_of hand) v e
      → changes ≡ changes_of hand → Planned v p changes → Fits step legal follows buries names p e
  fits_finish names hand changes v p e by next of_held rising parts m same planned = subst (λ (t : Shown R). Fits step legal follows buries names t e) (sym planned.0) (record {
    made = refl;
    by_pass = by;
    next = next;
    after_own = m.follows_own;
    may = m.may;
    has_all = m.has_all;
    was = parts;
    will = λ c y at. m.makes c (or_else (look c changes) y) (in_hand 0 c y hand v.held of_held rising at ∙ ap (λ (t : Numbered). some (or_else (look c t) y)) (sym same));
    buried = m.buried;
  })

  by_stands : (p u : Shown R) (e : Entry) (place : ℕ) → Stands step legal follows buries p u e place → IsEntered step legal follows buries (planned p.plan) p u e place
  by_stands p u e place s = record { before = s.before; old = s.old; at = s.at; shown = s.shown; was = s.was; law = s.law }

  -- the transaction has ended after its commit
  pub committed : (stop : std.Option Point) (p u w : Shown R) (e : Entry) (place : ℕ) (r : Finish) → dies_early stop ≡ false → Stands step legal follows buries p u e place → EndedAt stop place u w r
      → Finished step legal follows buries stop (planned p.plan) p w e r
  committed stop p u w e place (finish.Done at) late s d = (d.1, (u, subst (λ n. IsEntered step legal follows buries (planned p.plan) p u e n) (sym d.0) (by_stands p u e place s), d.2))
  committed stop p u w e place (finish.Died std.None) late s d = absurd d
  committed stop p u w e place (finish.Died (std.Some at)) late s d = (late, (d.1.0, d.1.1, (u, subst (λ n. IsEntered step legal follows buries (planned p.plan) p u e n) (sym d.0) (by_stands p u e place s), d.1.2)))
  committed stop p u w e place (finish.Busy h) late s d = absurd d
  committed stop p u w e place finish.OutOfMemory late s d = absurd d

  from_entered : (changes : Numbered) (v p u : Shown R) (e : Entry) (place : ℕ) → Planned v p changes → IsEntered step legal follows buries (planned p.plan) p u e place → IsEntered step legal follows buries changes v u e place
  from_entered changes v p u e place q s = let t = subst (λ (t : Shown R). IsEntered step legal follows buries (planned t.plan) t u e place) q.0 s in
      record { before = t.before; old = t.old; at = t.at; shown = t.shown; was = t.was; law = t.law }

  from_dropped : (changes : Numbered) (v p w : Shown R) → Planned v p changes → IsDropped p w → IsDropped v w
  from_dropped changes v p w q s = let t = subst (λ (t : Shown R). IsDropped t w) q.0 s in record { seen = t.seen; shown = t.shown }

  -- what is finished of a plan is finished of what was before it
  pub finished_from : (stop : std.Option Point) (changes : Numbered) (v p w : Shown R) (e : Entry) (r : Finish) → Planned v p changes → Finished step legal follows buries stop (planned p.plan) p w e r
      → Finished step legal follows buries stop changes v w e r
  finished_from stop changes v p w e (finish.Done at) q f = (f.0, (f.1.0, from_entered changes v p f.1.0 e at q f.1.1, f.1.2))
  finished_from stop changes v p w e (finish.Died std.None) q f = (f.0, subst (λ (t : Shown R). w ≡ record t { alive = false; plan = Made (planned t.plan); looked = w.looked; done = w.done }) q.0 f.1)
  finished_from stop changes v p w e (finish.Died (std.Some at)) q f = (f.0, (f.1.0, f.1.1, (f.1.2.0, from_entered changes v p f.1.2.0 e at q f.1.2.1, f.1.2.2)))
  finished_from stop changes v p w e (finish.Busy h) q f = ((λ s. f.0 (s ∙ sym (ap (λ (t : Shown R). t.number) q.0))), from_dropped changes v p w q f.1)
  finished_from stop changes v p w e finish.OutOfMemory q f = from_dropped changes v p w q f

pub number_committed : {R : Type 0} (step : R → Chains → Entry → Chains) (legal : R → Chains → Entry → Type 0) (follows : R → List Entry → Entry → Type 0) (buries : R → Entry → std.Option ℕ) (v w : Shown R) (e : Entry) (r : answer.Commit)
    → Committing step legal follows buries v w e r → w.number ≡ v.number
number_committed {R} step legal follows buries v w e (commit.Done at) c = ap (λ (t : Shown R). t.number) c.shown
number_committed {R} step legal follows buries v w e (commit.Busy h) c = ap (λ (t : Shown R). t.number) c.0.shown
number_committed {R} step legal follows buries v w e commit.OutOfMemory c = ap (λ (t : Shown R). t.number) c.shown
