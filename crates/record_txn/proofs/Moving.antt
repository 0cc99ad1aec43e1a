-- What a pass shows while it stores what is due, or gives back what it holds.
use Rattle.std.proofs.Common.{◌≡◌, ℕ, zero, suc, ◌+◌, ◌<◌, Bool, true, false, List, [], ◌∷◌, ◌++◌, length, length-append, sym, refl, ap, ◌∙◌, subst, arith}
use Rattle.std.proofs.Common as std
use Rattle.chain_map.specs.Pairs.{Pairs}
use Rattle.turn_types.specs.Shown.{Shown, Plan, Numbered, Nothing, Made, Committed, due, hold, left_over, is_stored, is_committed, is_made}
use Rattle.turn_types.specs.Calls.{Able, Stored, Released}
use Rattle.record_txn.specs.Moves.{changed, HasGivenAll, HasStoredAll}

-- the last of some changes comes first
changed_last : (xs : Numbered) (x : ℕ × Pairs) (held : Numbered) → changed (xs ++ x ∷ []) held ≡ changed xs (hold x.0 x.1 held)
changed_last [] x held = refl
changed_last (y ∷ xs) x held = ap (hold y.0 y.1) (changed_last xs x held)

-- the pass is giving back what it held
pub record IsGiving {R : Type 0} (v w : Shown R) : Type 0 where
  pub shown : w ≡ record v { held = w.held; plan = w.plan; looked = w.looked; done = w.done }
  pub stored : is_stored w.plan ≡ true
  pub over : w.held ≡ [] → w.plan ≡ Nothing

-- the pass is storing what was due
pub record IsStoring {R : Type 0} (v w : Shown R) : Type 0 where
  pub shown : w ≡ record v { held = w.held; plan = w.plan; looked = w.looked; done = w.done }
  pub committed : is_committed w.plan ≡ true
  pub as_due : changed (due w.plan) w.held ≡ changed (due v.plan) v.held

still_stored : (held : Numbered) (p : Plan) → is_stored p ≡ true → is_stored (left_over held p) ≡ true
still_stored [] Nothing e = refl
still_stored [] (Made xs) e = e
still_stored [] (Committed []) e = refl
still_stored [] (Committed (x ∷ xs)) e = e
still_stored (h ∷ held) Nothing e = refl
still_stored (h ∷ held) (Made xs) e = e
still_stored (h ∷ held) (Committed xs) e = e

now_over : (held : Numbered) (p : Plan) → is_stored p ≡ true → held ≡ [] → left_over held p ≡ Nothing
now_over [] Nothing e n = refl
now_over [] (Made xs) e n = absurd cc
now_over [] (Committed []) e n = refl
now_over [] (Committed (x ∷ xs)) e n = absurd cc
now_over (h ∷ held) p e n = absurd cc

-- a pass that shows what another one shows, but for what calls of these two kinds change
shape : {R : Type 0} (v w u : Shown R) (held : Numbered) (plan : Plan) → u ≡ record w { held = held; plan = plan; looked = u.looked; done = u.done } → w ≡ record v { held = w.held; plan = w.plan; looked = w.looked; done = w.done }
    → u ≡ record v { held = u.held; plan = u.plan; looked = u.looked; done = u.done }
shape {R} v w u held plan p q = p ∙ ap (λ (t : Shown R). record t { held = held; plan = plan; looked = u.looked; done = u.done }) q
    ∙ (λ j. record v { held = (sym p j).held; plan = (sym p j).plan; looked = u.looked; done = u.done })

only_looked : {R : Type 0} (w u : Shown R) → u ≡ record w { looked = u.looked } → u ≡ record w { held = w.held; plan = w.plan; looked = u.looked; done = u.done }
only_looked w u p = p ∙ (λ j. record w { looked = u.looked; done = (sym p j).done })

-- one more chain is given back
pub gives_one : {R : Type 0} (v w u : Shown R) (c : ℕ) → IsGiving v w → Released w u (std.Some c) → IsGiving v u
gives_one {R} v w u c g r = let p = r.3 in let plan = ap (λ (t : Shown R). t.plan) p in record {
  shown = shape v w u r.1 (left_over r.1 w.plan) p g.shown;
  stored = ap is_stored plan ∙ still_stored r.1 w.plan g.stored;
  over = λ n. plan ∙ now_over r.1 w.plan g.stored (sym (ap (λ (t : Shown R). t.held) p) ∙ n);
}

pub gives_none : {R : Type 0} (v w : Shown R) → is_stored v.plan ≡ true → (v.held ≡ [] → v.plan ≡ Nothing) → v ≡ w → IsGiving v w
gives_none {R} v w stored over e = subst (λ (t : Shown R). IsGiving v t) e (record { shown = refl; stored = stored; over = over })

-- nothing is left to be given back
pub gave_all : {R : Type 0} (v w u : Shown R) → IsGiving v w → Released w u std.None → HasGivenAll v u
gave_all {R} v w u g r = shape v w u w.held w.plan (only_looked w u r.1) g.shown
    ∙ (λ j. record v { held = (ap (λ (t : Shown R). t.held) r.1 ∙ r.0) j; plan = (ap (λ (t : Shown R). t.plan) r.1 ∙ g.over r.0) j; looked = u.looked; done = u.done })

pub fewer_held : {R : Type 0} (w u : Shown R) (c : ℕ) → Released w u (std.Some c) → length u.held < length w.held
fewer_held {R} w u c r = let a = ap (λ (t : Shown R). length t.held) r.3 in let b = ap length r.2 in omega arith

due_last : (p : Plan) (xs : Numbered) (x : ℕ × Pairs) → p ≡ Committed (xs ++ x ∷ []) → due p ≡ xs ++ x ∷ []
due_last p xs x e = ap due e

-- one more chain is stored
pub stores_one : {R : Type 0} (v w u : Shown R) (c : ℕ) → IsStoring v w → Stored w u (std.Some c) → IsStoring v u
stores_one {R} v w u c s r = let p = r.3 in let y = r.0 in let xs = r.1 in record {
  shown = shape v w u (hold c y w.held) (Committed xs) p s.shown;
  committed = ap (λ (t : Shown R). is_committed t.plan) p;
  as_due = ap (λ (t : Shown R). changed (due t.plan) t.held) p ∙ sym (changed_last xs (c, y) w.held) ∙ sym (ap (λ (q : Plan). changed (due q) w.held) r.2) ∙ s.as_due;
}

pub stores_none : {R : Type 0} (v w : Shown R) → is_committed v.plan ≡ true → v ≡ w → IsStoring v w
stores_none {R} v w committed e = subst (λ (t : Shown R). IsStoring v t) e (record { shown = refl; committed = committed; as_due = refl })

all_stored : (p : Plan) → is_committed p ≡ true → due p ≡ [] → p ≡ Committed []
all_stored Nothing c e = absurd cc
all_stored (Made xs) c e = absurd cc
all_stored (Committed xs) c e = ap Committed e

-- nothing is left to be stored
pub stored_all : {R : Type 0} (v w u : Shown R) → IsStoring v w → Stored w u std.None → HasStoredAll v u
stored_all {R} v w u s r = shape v w u w.held w.plan (only_looked w u r.1) s.shown
    ∙ (λ j. record v { held = (ap (λ (t : Shown R). t.held) r.1 ∙ sym (ap (λ (d : Numbered). changed d w.held) r.0) ∙ s.as_due) j; plan = (ap (λ (t : Shown R). t.plan) r.1 ∙ all_stored w.plan s.committed r.0) j; looked = u.looked; done = u.done })

pub fewer_due : {R : Type 0} (w u : Shown R) (c : ℕ) → Stored w u (std.Some c) → length (due u.plan) < length (due w.plan)
fewer_due {R} w u c r = let a = ap (λ (t : Shown R). length (due t.plan)) r.3 in let b = ap (λ (q : Plan). length (due q)) r.2 in let n = length-append r.1 ((c, r.0) ∷ []) in omega arith

pub able_still : {R : Type 0} (v w : Shown R) → w ≡ record v { held = w.held; plan = w.plan; looked = w.looked; done = w.done } → Able v → Able w
able_still {R} v w p a = record { lives = ap (λ (t : Shown R). t.alive) p ∙ a.lives; recovers_none = ap (λ (t : Shown R). t.recovering) p ∙ a.recovers_none }

pub unmade : (p : Plan) → is_committed p ≡ true → is_made p ≡ false
unmade Nothing c = refl
unmade (Made xs) c = absurd cc
unmade (Committed xs) c = refl

pub number_released : {R : Type 0} (w u : Shown R) (o : std.Option ℕ) → Released w u o → u.number ≡ w.number
number_released {R} w u std.None r = ap (λ (t : Shown R). t.number) r.1
number_released {R} w u (std.Some c) r = ap (λ (t : Shown R). t.number) r.3

pub number_stored : {R : Type 0} (w u : Shown R) (o : std.Option ℕ) → Stored w u o → u.number ≡ w.number
number_stored {R} w u std.None r = ap (λ (t : Shown R). t.number) r.1
number_stored {R} w u (std.Some c) r = ap (λ (t : Shown R). t.number) r.3
