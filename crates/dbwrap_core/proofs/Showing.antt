-- What the passes show, pass by pass.
use Rattle.std.proofs.Common.{◌≡◌, ℕ, zero, suc, ◌+◌, List, [], ◌∷◌, slice_set, slice_index_or, take, Option, Some, None, true, length, sym, refl, ap, ◌∙◌, subst, arith, zero-add}
use mathlib.Core.Option.{some, some-ne-none, some-injective}
use lib.ListN.{get_elem?}
use Rattle.sid_core.specs.declared.entry.Entry.{Entry}
use Rattle.turn_types.specs.Journal.{Chains, of_pass}
use Rattle.turn_types.specs.Shown.{Shown}
use Rattle.dbwrap_core.specs.declared.pass.PlainPass.{PlainPass}
use Rattle.turn_types.specs.declared.replay.Replay.{Ghosts}
use Rattle.dbwrap_core.specs.declared.plain.PlainCells.{PlainCells}
use Rattle.dbwrap_core.specs.Plain.{shown_at}
use Rattle.dbwrap_core.proofs.Lists.{set_same, within}
use Rattle.dbwrap_core.specs.declared.pass.Death.{Death}
use Rattle.dbwrap_core.specs.Shows.{shown_of, all_shown, blank, held_by, held_at, plan_at, plan_of, lives}

-- of pass n, which lives
abbrev pub shown_living : {R : Type 0} → R → Chains → Chains → List ℕ → List Entry → ℕ → PlainPass → Shown R
shown_living rule first chains words journal n p = record (shown_of rule first chains words journal n p) { alive = true; held = held_by (n + 1) 0 chains words; plan = plan_of p.stage p.new.items }

pub alive_none : (d : Option Death) → lives d ≡ true → d ≡ None
alive_none None e = refl
alive_none (Some d) e = absurd cc

module _ {R : Type 0} (r : R) (f : Chains) where
  pub living : (ks : Chains) (hs : List ℕ) (js : List Entry) (n : ℕ) (p : PlainPass) → p.death ≡ None → shown_of r f ks hs js n p ≡ shown_living r f ks hs js n p
  living ks hs js n p e = λ i. record (shown_of r f ks hs js n p) { alive = lives (e i); held = held_at (e i) (n + 1) ks hs; plan = plan_at (e i) p.stage p.new.items }

  place_shows : (ks : Chains) (hs : List ℕ) (js : List Entry) (i : ℕ) (ps : List PlainPass) (m : ℕ) (p : PlainPass) (b : Shown R) → get_elem? ps m ≡ some p
      → slice_index_or (all_shown r f ks hs js i ps) m b ≡ shown_of r f ks hs js (i + m) p
  place_shows ks hs js i [] m p b e = absurd (some-ne-none p (sym e))
  place_shows ks hs js i (q ∷ ps) zero p b e = let n : i ≡ i + zero = omega arith in λ j. shown_of r f ks hs js (n j) (some-injective q p e j)
  place_shows ks hs js i (q ∷ ps) (suc m) p b e = let n : (i + 1) + m ≡ i + suc m = omega arith in place_shows ks hs js (i + 1) ps m p b e ∙ ap (λ (z : ℕ). shown_of r f ks hs js z p) n

  pub shows : (ks : Chains) (hs : List ℕ) (js : List Entry) (ps : List PlainPass) (m : ℕ) (p : PlainPass) (b : Shown R) → get_elem? ps m ≡ some p
      → slice_index_or (all_shown r f ks hs js 0 ps) m b ≡ shown_of r f ks hs js m p
  shows ks hs js ps m p b e = place_shows ks hs js 0 ps m p b e ∙ ap (λ (z : ℕ). shown_of r f ks hs js z p) (zero-add m)

  place_there : (ks : Chains) (hs : List ℕ) (js : List Entry) (i : ℕ) (ps : List PlainPass) (m : ℕ) (p : PlainPass) → get_elem? ps m ≡ some p → get_elem? (all_shown r f ks hs js i ps) m ≡ some (shown_of r f ks hs js (i + m) p)
  place_there ks hs js i [] m p e = absurd (some-ne-none p (sym e))
  place_there ks hs js i (q ∷ ps) zero p e = let n : i ≡ i + zero = omega arith in λ j. some (shown_of r f ks hs js (n j) (some-injective q p e j))
  place_there ks hs js i (q ∷ ps) (suc m) p e = let n : (i + 1) + m ≡ i + suc m = omega arith in place_there ks hs js (i + 1) ps m p e ∙ ap (λ (z : ℕ). some (shown_of r f ks hs js z p)) n

  pub shown_there : (ks : Chains) (hs : List ℕ) (js : List Entry) (ps : List PlainPass) (m : ℕ) (p : PlainPass) → get_elem? ps m ≡ some p → get_elem? (all_shown r f ks hs js 0 ps) m ≡ some (shown_of r f ks hs js m p)
  shown_there ks hs js ps m p e = place_there ks hs js 0 ps m p e ∙ ap (λ (z : ℕ). some (shown_of r f ks hs js z p)) (zero-add m)

  same_held : (d : Option Death) (ks ks' : Chains) (hs hs' : List ℕ) (w : ℕ) → held_by w 0 ks' hs' ≡ held_by w 0 ks hs → held_at d w ks' hs' ≡ held_at d w ks hs
  same_held None ks ks' hs hs' w e = e
  same_held (Some d) ks ks' hs hs' w e = refl

  place_back : (ks : Chains) (hs : List ℕ) (js : List Entry) (i : ℕ) (ps : List PlainPass) (m : ℕ) (v : Shown R) → get_elem? (all_shown r f ks hs js i ps) m ≡ some v → (p : PlainPass) × (get_elem? ps m ≡ some p) × (v ≡ shown_of r f ks hs js (i + m) p)
  place_back ks hs js i [] m v e = absurd (some-ne-none v (sym e))
  place_back ks hs js i (q ∷ ps) zero v e = let n : i ≡ i + zero = omega arith in (q, refl, sym (some-injective (shown_of r f ks hs js i q) v e) ∙ ap (λ (z : ℕ). shown_of r f ks hs js z q) n)
  place_back ks hs js i (q ∷ ps) (suc m) v e = let n : (i + 1) + m ≡ i + suc m = omega arith in let t = place_back ks hs js (i + 1) ps m v e in (t.0, t.1, t.2 ∙ ap (λ (z : ℕ). shown_of r f ks hs js z t.0) n)

  pub shown_back : (ks : Chains) (hs : List ℕ) (js : List Entry) (ps : List PlainPass) (m : ℕ) (v : Shown R) → get_elem? (all_shown r f ks hs js 0 ps) m ≡ some v → (p : PlainPass) × (get_elem? ps m ≡ some p) × (v ≡ shown_of r f ks hs js m p)
  shown_back ks hs js ps m v e = let t = place_back ks hs js 0 ps m v e in (t.0, t.1, t.2 ∙ ap (λ (z : ℕ). shown_of r f ks hs js z t.0) (zero-add m))

  pub as_many : (ks : Chains) (hs : List ℕ) (js : List Entry) (i : ℕ) (ps : List PlainPass) → length (all_shown r f ks hs js i ps) ≡ length ps
  as_many ks hs js i [] = refl
  as_many ks hs js i (p ∷ ps) = ap suc (as_many ks hs js (i + 1) ps)

  -- another pass shows the same
  abbrev pub SameFor : Chains → List ℕ → List Entry → Chains → List ℕ → List Entry → ℕ → PlainPass → Type 0
  SameFor ks hs js ks' hs' js' m p = (take p.seen js' ≡ take p.seen js) × (held_by (m + 1) 0 ks' hs' ≡ held_by (m + 1) 0 ks hs)

  same_shown : (ks ks' : Chains) (hs hs' : List ℕ) (js js' : List Entry) (m : ℕ) (p : PlainPass) → SameFor ks hs js ks' hs' js' m p → shown_of r f ks' hs' js' m p ≡ shown_of r f ks hs js m p
  same_shown ks ks' hs hs' js js' m p s = λ i. record (shown_of r f ks hs js m p) { seen = s.0 i; own = of_pass m (s.0 i); held = same_held p.death ks ks' hs hs' (m + 1) (s.1) i }

  module _ (ks ks' : Chains) (hs hs' : List ℕ) (js js' : List Entry) where
    all_same : (i : ℕ) (ps : List PlainPass) → ((m : ℕ) (p : PlainPass) → get_elem? ps m ≡ some p → SameFor ks hs js ks' hs' js' (i + m) p)
        → all_shown r f ks' hs' js' i ps ≡ all_shown r f ks hs js i ps
    all_same i [] o = refl
    all_same i (p ∷ ps) o = let z : i + zero ≡ i = omega arith in let here = same_shown ks ks' hs hs' js js' i p (subst (λ n. SameFor ks hs js ks' hs' js' n p) z (o zero p refl)) in
        let rest = all_same (i + 1) ps (λ m q e. let s : i + suc m ≡ (i + 1) + m = omega arith in subst (λ n. SameFor ks hs js ks' hs' js' n q) s (o (suc m) q e)) in
        λ j. here j ∷ rest j

    place_set : (i n : ℕ) (ps : List PlainPass) (p' : PlainPass) → ((m : ℕ) (p : PlainPass) → get_elem? ps m ≡ some p → (m ≡ n → ⊥) → SameFor ks hs js ks' hs' js' (i + m) p)
        → all_shown r f ks' hs' js' i (slice_set ps n p') ≡ slice_set (all_shown r f ks hs js i ps) n (shown_of r f ks' hs' js' (i + n) p')
    place_set i n [] p' o = refl
    place_set i zero (p ∷ ps) p' o = let z : i ≡ i + zero = omega arith in
        let rest = all_same (i + 1) ps (λ m q e. let s : i + suc m ≡ (i + 1) + m = omega arith in subst (λ n. SameFor ks hs js ks' hs' js' n q) s (o (suc m) q e (λ x. omega arith))) in
        λ j. shown_of r f ks' hs' js' (z j) p' ∷ rest j
    place_set i (suc n) (p ∷ ps) p' o = let z : i + zero ≡ i = omega arith in let here = same_shown ks ks' hs hs' js js' i p (subst (λ n. SameFor ks hs js ks' hs' js' n p) z (o zero p refl (λ x. omega arith))) in
        let rest = place_set (i + 1) n ps p' (λ m q e d. let s : i + suc m ≡ (i + 1) + m = omega arith in subst (λ n. SameFor ks hs js ks' hs' js' n q) s (o (suc m) q e (λ x. d (let y : m ≡ n = omega arith in y)))) in
        let w : (i + 1) + n ≡ i + suc n = omega arith in
        λ j. here j ∷ (rest ∙ ap (λ (k : ℕ). slice_set (all_shown r f ks hs js (i + 1) ps) n (shown_of r f ks' hs' js' k p')) w) j

    pub all_set : (n : ℕ) (ps : List PlainPass) (p' : PlainPass) → ((m : ℕ) (p : PlainPass) → get_elem? ps m ≡ some p → (m ≡ n → ⊥) → SameFor ks hs js ks' hs' js' m p)
        → all_shown r f ks' hs' js' 0 (slice_set ps n p') ≡ slice_set (all_shown r f ks hs js 0 ps) n (shown_of r f ks' hs' js' n p')
    all_set n ps p' o = place_set 0 n ps p' (λ m p e d. subst (λ z. SameFor ks hs js ks' hs' js' z p) (sym (zero-add m)) (o m p e d))
        ∙ ap (λ (z : ℕ). slice_set (all_shown r f ks hs js 0 ps) n (shown_of r f ks' hs' js' z p')) (zero-add n)

  module _ (ks ks' : Chains) (hs hs' : List ℕ) (js js' : List Entry) (n : ℕ) (ps : List PlainPass) (p p' : PlainPass) (b : Shown R) where
    -- what holds of the two passes holds of what is shown
    pub of_shown : (Rel : Shown R → Shown R → Type 0) → get_elem? ps n ≡ some p → Rel (shown_of r f ks hs js n p) (shown_of r f ks' hs' js' n p')
        → Rel (slice_index_or (all_shown r f ks hs js 0 ps) n b) (slice_index_or (all_shown r f ks' hs' js' 0 (slice_set ps n p')) n b)
    of_shown Rel at k = let one = shows ks hs js ps n p b at in let two = shows ks' hs' js' (slice_set ps n p') n p' b (set_same ps n p' (within ps n p at)) in
        subst (λ (t : Shown R × Shown R). Rel t.0 t.1) (λ j. (sym one j, sym two j)) k

    pub of_living : (Rel : Shown R → Shown R → Type 0) → get_elem? ps n ≡ some p → p.death ≡ None → p'.death ≡ None → Rel (shown_living r f ks hs js n p) (shown_living r f ks' hs' js' n p')
        → Rel (slice_index_or (all_shown r f ks hs js 0 ps) n b) (slice_index_or (all_shown r f ks' hs' js' 0 (slice_set ps n p')) n b)
    of_living Rel at e e' k = of_shown Rel at (subst (λ (t : Shown R × Shown R). Rel t.0 t.1) (λ j. (sym (living ks hs js n p e) j, sym (living ks' hs' js' n p' e') j)) k)

-- of whole cells
module _ {R : Type 0} {g : Ghosts R} (cells : PlainCells R g) (n : ℕ) (me : PlainPass) (at : get_elem? cells.passes.items n ≡ some me) where
  pub shown_is : shown_at cells n ≡ shown_of cells.rule cells.first.value.items cells.chains.items cells.words.items cells.journal.items n me
  shown_is = shows cells.rule cells.first.value.items cells.chains.items cells.words.items cells.journal.items cells.passes.items n me (blank cells.rule [] 0 []) at

  pub is_living : (shown_at cells n).alive ≡ true → me.death ≡ None
  is_living e = alive_none me.death (sym (ap (λ (v : Shown R). v.alive) shown_is) ∙ e)

  pub living_is : (shown_at cells n).alive ≡ true → shown_at cells n ≡ shown_living cells.rule cells.first.value.items cells.chains.items cells.words.items cells.journal.items n me
  living_is e = shown_is ∙ living cells.rule cells.first.value.items cells.chains.items cells.words.items cells.journal.items n me (is_living e)
