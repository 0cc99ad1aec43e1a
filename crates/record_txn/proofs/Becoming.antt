-- What the journal makes of the chains of a transaction that has committed.
use Rattle.std.proofs.Common.{◌≡◌, ℕ, ◌<◌, Bool, true, false, cond, eqb, eq-eqb, List, [], ◌∷◌, ◌++◌, length, take, sym, refl, ap, ◌∙◌, subst, arith}
use Rattle.std.proofs.Common as std
use Rattle.std.specs.Prelude.{fold}
use Rattle.std.proofs.lemmas.List.{take-append-le, take_all}
use Rattle.std.proofs.lemmas.List.Sums.{fold_push}
use mathlib.Core.Option.{some, some-ne-none}
use lib.ListN.{get_elem?}
use Rattle.sid_core.specs.declared.entry.Entry.{Entry}
use Rattle.sid_core.specs.declared.outside.Point.{Point}
use Rattle.sid_core.specs.declared.outside.Point.TheVariants.{Take, Intent, Commit, Store, Release, Mourn}
use Rattle.chain_map.specs.Pairs.{Pairs}
use Rattle.turn_types.specs.Journal.{Chains, Lawful, Legal, Agree, has, of_pass}
use Rattle.turn_types.specs.Shown.{Shown, Numbered, IsPart, replay, look, due}
use Rattle.turn_types.specs.Calls.{Lawfully}
use Rattle.turn_types.proofs.Runs as runs
use Rattle.record_txn.specs.Hand.{chains_of, IsHandOf}
use Rattle.record_txn.specs.Moves.{HasGivenAll}
use Rattle.record_txn.specs.Finishing.{MayFinish, IsEntered, Finished, Reached, has_entry}
use Rattle.record_txn.specs.declared.finish.Finish.{Finish}
use Rattle.record_txn.specs.declared.finish.Finish.TheVariants as finish
use Rattle.record_txn.specs.declared.hand.Held.{Held}

-- what is in hand is held
is_held : (c : ℕ) (y : Pairs) (hand : List Held) (held : Numbered) → IsHandOf hand held → look c (chains_of hand) ≡ some y → (z : Pairs) × (look c held ≡ some z)
is_held c y [] [] o e = absurd (some-ne-none y (sym e))
is_held c y [] (x ∷ held) o e = absurd o
is_held c y (h ∷ hand) [] o e = absurd o
is_held c y (h ∷ hand) (x ∷ held) o e = go (eqb x.0 c) (subst (λ n. cond (eqb n c) (some h.chain) (look c (chains_of hand)) ≡ some y) o.0 e) (is_held c y hand held o.2) where
  go : (b : Bool) → cond b (some h.chain) (look c (chains_of hand)) ≡ some y → (look c (chains_of hand) ≡ some y → (z : Pairs) × (look c held ≡ some z)) → (z : Pairs) × (cond b (some x.1) (look c held) ≡ some z)
  go true e so = (x.1, refl)
  go false e so = so e

module _ (first : Chains → Type 0) (step : Chains → Entry → Chains) (legal : Chains → Entry → Type 0) (names : Chains → Entry → List ℕ) (follows : List Entry → Entry → Type 0)
    (law : Lawful first step legal names follows) (k0 : Chains) (began : first k0) where
  abbrev IsLegal : List Entry → Type 0
  IsLegal = Legal step legal follows k0

  abbrev made : List Entry → Chains
  made journal = fold step k0 journal

  -- the last entry is legal behind those before it, and follows its pass's
  at_end : (js : List Entry) (e : Entry) → IsLegal (js ++ e ∷ []) → legal (made js) e × follows (of_pass e.by js) e
  at_end js e l = subst (λ (t : List Entry). legal (made t) e × follows (of_pass e.by t) e) (take-append-le (length js) js (e ∷ []) (omega arith) ∙ take_all (length js) js (omega arith)) (l (length js) e (runs.at_last js e (length js) refl))

  -- An entry makes behind a later journal what it makes behind an earlier one, of chains that are the same there and there.
  pub makes_later : (one other : List Entry) (e : Entry) (held : Numbered) (c : ℕ) (y z : Pairs) → IsLegal one → IsLegal (other ++ e ∷ []) → legal (made one) e → follows (of_pass e.by one) e
      → ((n : ℕ) → has n (names (made one) e) ≡ true → (x : Pairs) × (look n held ≡ some x)) → IsPart held (made one) → IsPart held (made other) → look c held ≡ some z
      → get_elem? (step (made one) e) c ≡ some y → get_elem? (made (other ++ e ∷ [])) c ≡ some y
  makes_later one other e held c y z l m may after has_all was will at is = go (has c (names (made one) e)) refl where
    before : IsLegal other
    before = runs.legal_front step legal follows k0 other (e ∷ []) m

    agree : Agree (names (made one) e) (made one) (made other)
    agree n h = let x = has_all n h in was n x.0 x.1 ∙ sym (will n x.0 x.1)

    long : length (made one) ≡ length (made other)
    long = runs.legal_length step legal follows k0 first names law began one l ∙ sym (runs.legal_length step legal follows k0 first names law began other before)

    go : (b : Bool) → has c (names (made one) e) ≡ b → get_elem? (made (other ++ e ∷ [])) c ≡ some y
    go true h = let t = runs.moved step legal follows k0 first names law began one other e l before after (at_end other e m).1 may agree in
        sym (t.1 c h) ∙ ap (λ (k : Chains). get_elem? k c) (fold_push step k0 one e) ∙ is
    go false h = let far = runs.reached step legal follows k0 first names law began in
        let same = (law.local (made one) (made other) e (far one l) (far other before) long agree).0 in
        ap (λ (k : Chains). get_elem? k c) (fold_push step k0 other e)
        ∙ (law.frame (made other) e (far other before) (at_end other e m).0).1 c (ap (λ (t : List ℕ). has c t) same ∙ h)
        ∙ will c z at ∙ sym (was c z at) ∙ sym ((law.frame (made one) e (far one l) may).1 c h) ∙ is

module _ {R : Type 0} (first : R → Chains → Type 0) (step : R → Chains → Entry → Chains) (legal : R → Chains → Entry → Type 0) (names : R → Chains → Entry → List ℕ) (follows : R → List Entry → Entry → Type 0) (buries : R → Entry → std.Option ℕ)
    (law : (r : R) → Lawful (first r) (step r) (legal r) (names r) (follows r)) where
  -- the journal makes of the chains in hand what the transaction has
  pub becomes : (hand : List Held) (changes : Numbered) (v u : Shown R) (e : Entry) (place : ℕ) → e.by ≡ v.number → first v.rule v.first → IsHandOf hand v.held → IsPart v.held (replay step v v.seen)
      → Lawfully step legal follows buries v → MayFinish step legal follows buries names (chains_of hand) v e → IsEntered step legal follows buries changes v u e place → IsPart (chains_of hand) (replay step u u.seen)
  becomes hand changes v u e place by began o parts lawful m s c y at = let z = is_held c y hand v.held o at in
      let legal_all : Legal (step v.rule) (legal v.rule) (follows v.rule) v.first (s.before ++ e ∷ []) = subst (λ (t : Shown R). Legal (step t.rule) (legal t.rule) (follows t.rule) t.first t.seen) s.shown s.law.is_legal in
      ap (λ (t : Shown R). get_elem? (replay step t t.seen) c) s.shown
      ∙ makes_later (first v.rule) (step v.rule) (legal v.rule) (names v.rule) (follows v.rule) (law v.rule) v.first began v.seen s.before e v.held c y z.0 lawful.is_legal legal_all m.may
      (subst (λ (t : List Entry). follows v.rule t e) (sym (ap (λ n. of_pass n v.seen) by ∙ lawful.own)) m.follows_own) m.has_all parts s.was z.1 (m.makes c y at)

module _ {R : Type 0} (step : R → Chains → Entry → Chains) where
  -- what is seen doesn't change behind the commit
  gave_all : (u w : Shown R) → HasGivenAll u w → replay step w w.seen ≡ replay step u u.seen
  gave_all u w g = ap (λ (t : Shown R). replay step t t.seen) g

  reached : (u x : Shown R) (p : Point) → Reached u x p → replay step x x.seen ≡ replay step u u.seen
  reached u x Take r = ap (λ (t : Shown R). replay step t t.seen) r
  reached u x Intent r = ap (λ (t : Shown R). replay step t t.seen) r
  reached u x Commit r = ap (λ (t : Shown R). replay step t t.seen) r
  reached u x Mourn r = ap (λ (t : Shown R). replay step t t.seen) r
  reached u x Release r = ap (λ (t : Shown R). replay step t t.seen) r.shown
  reached u x Store r = go (due u.plan) refl where
    go : (d : Numbered) → due u.plan ≡ d → replay step x x.seen ≡ replay step u u.seen
    go [] e = ap (λ (t : Shown R). replay step t t.seen) (r.0 e).shown
    go (y ∷ d) e = ap (λ (t : Shown R). replay step t t.seen) (r.1 (let n = ap (λ (t : Numbered). length t) e in omega arith)).shown

  -- what holds of all that is seen behind the commit holds at the end
  pub at_last : (legal : R → Chains → Entry → Type 0) (follows : R → List Entry → Entry → Type 0) (buries : R → Entry → std.Option ℕ) (P : Chains → Type 0) (stop : std.Option Point) (changes : Numbered) (v w : Shown R) (e : Entry) (r : Finish)
      → Finished step legal follows buries stop changes v w e r → has_entry r ≡ true → ((u : Shown R) (place : ℕ) → IsEntered step legal follows buries changes v u e place → P (replay step u u.seen)) → P (replay step w w.seen)
  at_last legal follows buries P stop changes v w e (finish.Done place) f h so = subst P (sym (gave_all f.1.0 w f.1.2)) (so f.1.0 place f.1.1)
  at_last legal follows buries P stop changes v w e (finish.Died std.None) f h so = absurd cc
  at_last legal follows buries P stop changes v w e (finish.Died (std.Some place)) f h so = let d = f.1.2 in
      subst P (sym (ap (λ (t : Shown R). replay step t t.seen) d.2.2 ∙ reached d.0 d.2.0 f.1.0 d.2.1)) (so d.0 place d.1)
  at_last legal follows buries P stop changes v w e (finish.Busy n) f h so = absurd cc
  at_last legal follows buries P stop changes v w e finish.OutOfMemory f h so = absurd cc
