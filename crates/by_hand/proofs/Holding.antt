-- What a pass shows when an entry by hand holds its chains, changes them, or ends.
use Rattle.std.proofs.Common.{◌≡◌, ℕ, zero, suc, ◌+◌, ◌<◌, ◌≤◌, Bool, true, false, cond, eqb, List, [], ◌∷◌, ◌++◌, map, length, sym, refl, ap, ◌∙◌, subst, arith, append-nil, inl, inr}
use Rattle.std.proofs.Common as std
use Rattle.std.specs.Prelude.{OnOk}
use Rattle.std.specs.Result.{is_err}
use mathlib.Core.Option.{some, some-ne-none}
use Rattle.sid_core.specs.declared.entry.Entry.{Entry}
use Rattle.chain_map.specs.Pairs.{Pairs}
use Rattle.turn_types.specs.Journal.{Chains, has}
use Rattle.turn_types.specs.Shown.{Shown, Numbered, Plan, Nothing, AllBelow, look, hold}
use Rattle.turn_types.specs.Calls.{Able}
use Rattle.record_txn.specs.Hand.{chains_of, with_change, IsHandOf}
use Rattle.record_txn.specs.Holding.{Holds, Ended}
use Rattle.record_txn.specs.Finishing.{Finished, has_entry}
use Rattle.record_txn.specs.declared.finish.Finish.{Finish}
use Rattle.record_txn.specs.declared.finish.Finish.TheVariants as finish
use Rattle.record_txn.specs.declared.hand.Held.{Held}
use Rattle.record_txn.specs.declared.hold.TxnEnd.{TxnEnd}
use Rattle.record_txn.specs.declared.hold.TxnEnd.TheVariants as ends
use Rattle.by_hand.specs.Steps.{HasTaken, HasLeft, numbers}

-- ---- numbers

pub below_more : (n c : ℕ) (held : Numbered) → n ≤ c → AllBelow n held → AllBelow c held
below_more n c [] l b = tt
below_more n c (x ∷ held) l b = ((let h = b.0 in omega arith), below_more n c held l b.1)

pub below_snoc : (n c : ℕ) (y : Pairs) (held : Numbered) → n ≤ c → AllBelow n held → AllBelow (c + 1) (held ++ (c, y) ∷ [])
below_snoc n c y [] l b = (omega arith, tt)
below_snoc n c y (x ∷ held) l b = ((let h = b.0 in omega arith), below_snoc n c y held l b.1)

pub numbers_snoc : (c : ℕ) (y : Pairs) (held : Numbered) → numbers (held ++ (c, y) ∷ []) ≡ numbers held ++ c ∷ []
numbers_snoc c y [] = refl
numbers_snoc c y (x ∷ held) = ap (λ t. x.0 ∷ t) (numbers_snoc c y held)

pub numbers_hold : (c : ℕ) (y : Pairs) (held : Numbered) → numbers (hold c y held) ≡ numbers held
numbers_hold c y [] = refl
numbers_hold c y (x ∷ held) = go (eqb x.0 c) (numbers_hold c y held) where
  go : (b : Bool) → numbers (hold c y held) ≡ numbers held → numbers (cond b ((x.0, y) ∷ held) (x ∷ hold c y held)) ≡ x.0 ∷ numbers held
  go true e = refl
  go false e = ap (λ t. x.0 ∷ t) e

-- what becomes of one chain keeps the numbers
pub same_numbers : (c : ℕ) (y : Pairs) (hand now : List Held) → now ≡ with_change c y hand → ((c : ℕ) (y : Pairs) (hand : List Held) → chains_of (with_change c y hand) ≡ hold c y (chains_of hand)) → numbers (chains_of now) ≡ numbers (chains_of hand)
same_numbers c y hand now is law = ap (λ (h : List Held). numbers (chains_of h)) is ∙ ap numbers (law c y hand) ∙ numbers_hold c y (chains_of hand)

pub ok_same : {T E : Type 0} (r : std.Result T E) (c : ℕ) (y : Pairs) (hand now : List Held) → OnOk r (now ≡ with_change c y hand) → ((c : ℕ) (y : Pairs) (hand : List Held) → chains_of (with_change c y hand) ≡ hold c y (chains_of hand)) → OnOk r (numbers (chains_of now) ≡ numbers (chains_of hand))
ok_same (std.Ok x) c y hand now is law = same_numbers c y hand now is law
ok_same (std.Err e) c y hand now is law = tt

pub when_ok : {T E P : Type 0} (r : std.Result T E) → OnOk r P → is_err r ≡ false → P
when_ok (std.Ok x) p ok = p
when_ok (std.Err e) p ok = absurd cc

-- a chain whose number stands there is there
pub has_found : (c : ℕ) (held : Numbered) → has c (numbers held) ≡ true → (y : Pairs) × (look c held ≡ some y)
has_found c [] e = absurd cc
has_found c (x ∷ held) e = go (eqb x.0 c) e (has_found c held) where
  go : (b : Bool) → cond b true (has c (numbers held)) ≡ true → (has c (numbers held) ≡ true → (y : Pairs) × (look c held ≡ some y)) → (y : Pairs) × (cond b (some x.1) (look c held) ≡ some y)
  go true e so = (x.1, refl)
  go false e so = so e

pub found_has : (c : ℕ) (y : Pairs) (held : Numbered) → look c held ≡ some y → has c (numbers held) ≡ true
found_has c y [] e = absurd (some-ne-none y (sym e))
found_has c y (x ∷ held) e = go (eqb x.0 c) e (found_has c y held) where
  go : (b : Bool) → cond b (some x.1) (look c held) ≡ some y → (look c held ≡ some y → has c (numbers held) ≡ true) → cond b true (has c (numbers held)) ≡ true
  go true e so = refl
  go false e so = so e

-- a change in hand is one of what is held
pub hand_keeps : (c : ℕ) (y : Pairs) (hand : List Held) (held : Numbered) → IsHandOf hand held → IsHandOf (with_change c y hand) held
hand_keeps c y [] held o = o
hand_keeps c y (h ∷ hand) [] o = absurd o
hand_keeps c y (h ∷ hand) (x ∷ held) o = go (eqb h.number c) (hand_keeps c y hand held o.2) where
  go : (b : Bool) → IsHandOf (with_change c y hand) held → IsHandOf (cond b (record h { chain = y; is_changed = true } ∷ hand) (h ∷ with_change c y hand)) (x ∷ held)
  go true so = (o.0, (λ e. absurd cc), o.2)
  go false so = (o.0, o.1, so)

pub none_held : (hand : List Held) (held : Numbered) → hand ≡ [] → IsHandOf hand held → held ≡ []
none_held [] [] e o = refl
none_held [] (x ∷ held) e o = absurd o
none_held (h ∷ hand) held e o = absurd cc

-- ---- what a pass shows

module _ {R : Type 0} where
  pub starts : (v : Shown R) → v.held ≡ [] → HasTaken v v [] []
  starts v e = record {
    same = record { rule = refl; first = refl; number = refl; own = sym (append-nil v.own) };
    held = e;
    numbered = refl;
  }

  pub takes_more : (step : R → Chains → Entry → Chains) (legal : R → Chains → Entry → Type 0) (follows : R → List Entry → Entry → Type 0) (buries : R → Entry → std.Option ℕ) (c : ℕ) (cs more : List ℕ) (hand now : Numbered) (y : Pairs) (v u w : Shown R)
      → HasTaken v u cs hand → Holds step legal follows buries c u w y → now ≡ hand ++ (c, y) ∷ [] → more ≡ cs ++ c ∷ [] → HasTaken v w more now
  takes_more step legal follows buries c cs more hand now y v u w t h is now_more = record {
    same = record {
      rule = ap (λ (s : Shown R). s.rule) h.shown ∙ t.same.rule;
      first = ap (λ (s : Shown R). s.first) h.shown ∙ t.same.first;
      number = ap (λ (s : Shown R). s.number) h.shown ∙ t.same.number;
      own = ap (λ (s : Shown R). s.own) h.shown ∙ t.same.own;
    };
    held = ap (λ (s : Shown R). s.held) h.shown ∙ ap (λ (k : Numbered). k ++ (c, y) ∷ []) t.held ∙ sym is;
    numbered = ap numbers is ∙ numbers_snoc c y hand ∙ ap (λ (k : List ℕ). k ++ c ∷ []) t.numbered ∙ sym now_more;
  }

  -- what no end of a transaction changes, then what is held and planned
  abbrev stays : Shown R → R × Chains × ℕ × List Entry × Bool × std.Option ℕ × Numbered × Plan
  stays s = (s.rule, s.first, s.number, s.own, s.alive, s.recovering, s.held, s.plan)

  -- a pass that gave all back has left
  pub gives_up : (cs : List ℕ) (hand : Numbered) (v u w : Shown R) → HasTaken v u cs hand → Able u → stays w ≡ stays (record u { held = []; plan = Nothing }) → HasLeft v w []
  gives_up cs hand v u w t able g = record {
    same = record { rule = (λ j. (g j).0) ∙ t.same.rule; first = (λ j. (g j).1) ∙ t.same.first; number = (λ j. (g j).2) ∙ t.same.number; own = (λ j. (g j).3) ∙ t.same.own };
    able = record { lives = (λ j. (g j).4) ∙ able.lives; recovers_none = (λ j. (g j).5) ∙ able.recovers_none };
    held = λ j. (g j).6;
    plan = λ j. (g j).7;
  }

  -- a pass that is to die nowhere has left
  pub ends_left : (c : ℕ) (cs : List ℕ) (hand : Numbered) (v u w : Shown R) (end : TxnEnd) → HasTaken v u cs hand → Able u → Ended u w c std.None end → HasLeft v w []
  ends_left c cs hand v u w ends.Died t able (inl e) = absurd cc
  ends_left c cs hand v u w ends.Died t able (inr e) = let no = e.0 in absurd cc
  ends_left c cs hand v u w (ends.Met dead) t able e = gives_up cs hand v u w t able (ap stays e.shown)
  ends_left c cs hand v u w ends.OutOfMemory t able e = gives_up cs hand v u w t able (ap stays e.shown)

  -- the entry that was finished is the pass's own now
  pub done_left : (step : R → Chains → Entry → Chains) (legal : R → Chains → Entry → Type 0) (follows : R → List Entry → Entry → Type 0) (buries : R → Entry → std.Option ℕ) (changes : Numbered) (cs : List ℕ) (hand : Numbered) (v u w : Shown R) (e : Entry) (place : ℕ)
      → HasTaken v u cs hand → Able u → Finished step legal follows buries std.None changes u w e (finish.Done place) → HasLeft v w (e ∷ [])
  done_left step legal follows buries changes cs hand v u w e place t able f = let x = f.1.0 in let i = f.1.1.shown in let g = f.1.2 in record {
    same = record {
      rule = ap (λ (s : Shown R). s.rule) g ∙ ap (λ (s : Shown R). s.rule) i ∙ t.same.rule;
      first = ap (λ (s : Shown R). s.first) g ∙ ap (λ (s : Shown R). s.first) i ∙ t.same.first;
      number = ap (λ (s : Shown R). s.number) g ∙ ap (λ (s : Shown R). s.number) i ∙ t.same.number;
      own = ap (λ (s : Shown R). s.own) g ∙ ap (λ (s : Shown R). s.own) i ∙ ap (λ (o : List Entry). o ++ e ∷ []) (t.same.own ∙ append-nil v.own);
    };
    able = record {
      lives = ap (λ (s : Shown R). s.alive) g ∙ ap (λ (s : Shown R). s.alive) i ∙ able.lives;
      recovers_none = ap (λ (s : Shown R). s.recovering) g ∙ ap (λ (s : Shown R). s.recovering) i ∙ able.recovers_none;
    };
    held = ap (λ (s : Shown R). s.held) g;
    plan = ap (λ (s : Shown R). s.plan) g;
  }

  -- a pass that wasn't to die and has no entry has left
  pub undone_left : (step : R → Chains → Entry → Chains) (legal : R → Chains → Entry → Type 0) (follows : R → List Entry → Entry → Type 0) (buries : R → Entry → std.Option ℕ) (changes : Numbered) (cs : List ℕ) (hand : Numbered) (v u w : Shown R) (e : Entry) (r : Finish)
      → HasTaken v u cs hand → Able u → Finished step legal follows buries std.None changes u w e r → has_entry r ≡ false → HasLeft v w []
  undone_left step legal follows buries changes cs hand v u w e (finish.Done place) t able f bare = absurd cc
  undone_left step legal follows buries changes cs hand v u w e (finish.Died std.None) t able f bare = let d = f.0 in absurd cc
  undone_left step legal follows buries changes cs hand v u w e (finish.Died (std.Some place)) t able f bare = absurd cc
  undone_left step legal follows buries changes cs hand v u w e (finish.Busy h) t able f bare = gives_up cs hand v u w t able (ap stays f.1.shown)
  undone_left step legal follows buries changes cs hand v u w e finish.OutOfMemory t able f bare = gives_up cs hand v u w t able (ap stays f.shown)

  -- no pass that wasn't to die has an entry but by Done
  pub only_done : (step : R → Chains → Entry → Chains) (legal : R → Chains → Entry → Type 0) (follows : R → List Entry → Entry → Type 0) (buries : R → Entry → std.Option ℕ) (changes : Numbered) (u w : Shown R) (e : Entry) (r : Finish)
      → Finished step legal follows buries std.None changes u w e r → ((place : ℕ) → r ≡ finish.Done place → ⊥) → has_entry r ≡ false
  only_done step legal follows buries changes u w e (finish.Done place) f bare = absurd (bare place refl)
  only_done step legal follows buries changes u w e (finish.Died std.None) f bare = refl
  only_done step legal follows buries changes u w e (finish.Died (std.Some place)) f bare = let d = f.1.1 in absurd cc
  only_done step legal follows buries changes u w e (finish.Busy h) f bare = refl
  only_done step legal follows buries changes u w e finish.OutOfMemory f bare = refl
