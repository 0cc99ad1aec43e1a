-- What holds of plain cells holds after each change.
use Rattle.std.proofs.Common.{◌≡◌, ℕ, zero, suc, ◌+◌, ◌<◌, ◌≤◌, Bool, true, false, cond, eqb, ne_eqb, eq-eqb, List, [], ◌∷◌, ◌++◌, length, slice_set, slice_index_or, take, sym, refl, ap, ◌∙◌, subst, arith, length-set, Some}
use Rattle.std.proofs.Common as std
use Rattle.std.specs.Prelude.{fold}
use mathlib.Core.Option.{Option, none, some, some-ne-none, some-injective}
use mathlib.Core.Logic.{dite}
use native.Mathlib.Decide.{ℕ_discrete}
use lib.ListN.{get_elem?}
use Rattle.chain_map.specs.Pairs.{Pairs}
use Rattle.sid_core.specs.declared.entry.Entry.{Entry}
use Rattle.turn_types.specs.declared.looked.Looked.{Looked}
use Rattle.turn_types.specs.Journal.{Chains, of_pass}
use Rattle.turn_types.specs.Shown.{Numbered, look, or_else, due, planned, is_nothing}
use Rattle.dbwrap_core.specs.declared.pass.PlainPass.{PlainPass}
use Rattle.dbwrap_core.specs.declared.pass.Stage.{Stage}
use Rattle.dbwrap_core.specs.declared.pass.Stage.TheVariants as stage
use Rattle.dbwrap_core.specs.Shows.{plan_of}
use Rattle.dbwrap_core.specs.declared.pass.Death.{Death}
use Rattle.dbwrap_core.specs.Sound.{Sound, PassOk, StillDue, due_of, plans_of}
use Rattle.dbwrap_core.proofs.Lists.{set_same, set_other, within, there}
use Rattle.turn_types.proofs.Runs.{at_longer}
use Rattle.dbwrap_core.proofs.Holding.{look_last, look_aside, found_there}
use Rattle.dbwrap_core.proofs.Planning as plans

due_is : (s : Stage) (xs : Numbered) (c : ℕ) (y : Pairs) → look c (due (plan_of s xs)) ≡ some y → look c (planned (plan_of s xs)) ≡ some y
due_is stage.Nothing xs c y e = absurd (some-ne-none y (sym e))
due_is stage.Made xs c y e = absurd (some-ne-none y (sym e))
due_is stage.Committed xs c y e = e

abbrev pub Place : {A : Type 0} → List A → ℕ → A → Type 0
Place xs n x = get_elem? xs n ≡ some x

pub living_not_dead : {A : Type 0} (p : PlainPass) (d : Death) → p.death ≡ std.None → p.death ≡ std.Some d → A
living_not_dead p d l e = let z : std.None ≡ std.Some d = sym l ∙ e in absurd cc

abbrev death_or : Death → std.Option Death → Death
death_or x std.None = x
death_or x (std.Some d) = d

-- fewer chains name the pass
fewer : (ks : Chains) (hs hs' : List ℕ) (m : ℕ) (p : PlainPass) (d : Death) → StillDue ks hs m p d → ((x : ℕ) → get_elem? hs' x ≡ some (m + 1) → get_elem? hs x ≡ some (m + 1)) → StillDue ks hs' m p d
fewer ks hs hs' m p d s back = record { many = s.many; was_held = λ x f. s.was_held x (back x f); same = λ x y z f g h. s.same x y z (back x f) g h }

-- the same is due of each chain
abbrev SameDue : Chains → PlainPass → PlainPass → Type 0
SameDue ks p q = (x : ℕ) (y : Pairs) → get_elem? ks x ≡ some y → or_else (look x (due_of q)) y ≡ or_else (look x (due_of p)) y

-- a plan that the pass may come to
pub record NewPlan (k ks : Chains) (hs : List ℕ) (m : ℕ) (p q : PlainPass) : Type 0 where
  pub parts : (c : ℕ) (y : Pairs) → get_elem? hs c ≡ some (m + 1) → get_elem? ks c ≡ some y → get_elem? k c ≡ some (or_else (look c (due_of q)) y)
  pub planned : (i : ℕ) (x : ℕ × Pairs) → get_elem? (plans_of q) i ≡ some x → get_elem? hs x.0 ≡ some (m + 1)
  pub rising : (i j : ℕ) (x y : ℕ × Pairs) → get_elem? (plans_of q) i ≡ some x → get_elem? (plans_of q) j ≡ some y → i < j → x.0 < y.0
  pub idle : is_nothing (plan_of q.stage q.new.items) ≡ true → q.new.items ≡ []
  pub at_death : (d : Death) → p.death ≡ std.Some d → StillDue ks hs m q d

module _ {b : Entry → std.Option ℕ} {k ks : Chains} {hs : List ℕ} {js : List Entry} {count m : ℕ} {p : PlainPass} (o : PassOk b k ks hs js count m p) where
  -- a chain that the pass does not hold isn't due
  not_due : (c : ℕ) → (get_elem? hs c ≡ some (m + 1) → ⊥) → (y : Pairs) → or_else (look c (due_of p)) y ≡ y
  not_due c out y = go (look c (due_of p)) refl where
    go : (t : Option Pairs) → look c (due_of p) ≡ t → or_else t y ≡ y
    go none e = refl
    go (some z) e = let t = found_there c (plans_of p) z (due_is p.stage p.new.items c z e) in absurd (out (o.planned t.0 (c, z) t.1))

  -- chains or words become others
  rehold : (ks' : Chains) (hs' : List ℕ) → ((c : ℕ) (y : Pairs) → get_elem? hs' c ≡ some (m + 1) → get_elem? ks' c ≡ some y → get_elem? k c ≡ some (or_else (look c (due_of p)) y))
      → ((i : ℕ) (x : ℕ × Pairs) → get_elem? (plans_of p) i ≡ some x → get_elem? hs' x.0 ≡ some (m + 1)) → ((c h : ℕ) → get_elem? hs' c ≡ some (h + 1) → get_elem? p.freed.items h ≡ some true → ⊥)
      → ((d : Death) → p.death ≡ std.Some d → StillDue ks' hs' m p d) → PassOk b k ks' hs' js count m p
  rehold ks' hs' parts planned recovered at_death = record {
    parts = parts;
    planned = planned;
    rising = o.rising;
    idle = o.idle;
    deaths = o.deaths;
    frees = o.frees;
    recovered = recovered;
    seen = o.seen;
    own = o.own;
    commits = o.commits;
    unburied = o.unburied;
    at_death = at_death;
  }

  -- the pass becomes q, but for its plan
  relearn : (q : PlainPass) → length q.dead.items ≡ count → length q.freed.items ≡ count → ((c h : ℕ) → get_elem? hs c ≡ some (h + 1) → get_elem? q.freed.items h ≡ some true → ⊥) → q.seen ≤ length js → of_pass m (take q.seen js) ≡ of_pass m js
      → ((i : ℕ) (e : Entry) → q.death ≡ std.None → get_elem? js i ≡ some e → b e ≡ std.Some m → ⊥) → ((d : Death) → q.death ≡ std.Some d → StillDue ks hs m p d) → PassOk b k ks hs js count m (record q { commits = p.commits; stage = p.stage; new = p.new })
  relearn q deaths frees recovered seen own unburied at_death = record {
    parts = o.parts;
    planned = o.planned;
    rising = o.rising;
    idle = o.idle;
    deaths = deaths;
    frees = frees;
    recovered = recovered;
    seen = seen;
    own = own;
    commits = o.commits;
    unburied = unburied;
    at_death = λ d e. same_due d (at_death d e);
  } where
    same_due : (d : Death) → StillDue ks hs m p d → StillDue ks hs m (record q { commits = p.commits; stage = p.stage; new = p.new }) d
    same_due d s = record { many = s.many; was_held = s.was_held; same = s.same }

  -- the pass becomes q, but for what it knows
  replan : (q : PlainPass) → NewPlan k ks hs m p q → PassOk b k ks hs js count m (record q { death = p.death; seen = p.seen; commits = p.commits; dead = p.dead; freed = p.freed })
  replan q plan = record {
    parts = plan.parts;
    planned = plan.planned;
    rising = plan.rising;
    idle = plan.idle;
    deaths = o.deaths;
    frees = o.frees;
    recovered = o.recovered;
    seen = o.seen;
    own = o.own;
    commits = o.commits;
    unburied = o.unburied;
    at_death = λ d e. let s = plan.at_death d e in record { many = s.many; was_held = s.was_held; same = s.same };
  }

  -- no more is planned, and what is due of each chain stays
  lessen : (q : PlainPass) → SameDue ks p q → ((i : ℕ) (x : ℕ × Pairs) → get_elem? (plans_of q) i ≡ some x → get_elem? (plans_of p) i ≡ some x) → (is_nothing (plan_of q.stage q.new.items) ≡ true → q.new.items ≡ []) → NewPlan k ks hs m p q
  lessen q due_is was idle = record {
    parts = λ x y f g. o.parts x y f g ∙ ap some (sym (due_is x y g));
    planned = λ i x e. o.planned i x (was i x e);
    rising = λ i j x y e f l. o.rising i j x y (was i x e) (was j y f) l;
    idle = idle;
    at_death = λ d e. let s = o.at_death d e in record { many = s.many; was_held = s.was_held; same = λ x y z f g h. due_is x y g ∙ s.same x y z f g h };
  }

module _ {R : Type 0} {first : R → Chains → Type 0} {step : R → Chains → Entry → Chains} {legal : R → Chains → Entry → Type 0} {follows : R → List Entry → Entry → Type 0} {buries : R → Entry → std.Option ℕ} {rule : R} {k0 ks : Chains} {hs : List ℕ} {js : List Entry} {ps : List PlainPass}
    (ok : Sound first step legal follows buries rule k0 ks hs js ps) where
  -- words become others
  rewords : (hs' : List ℕ) → length hs' ≡ length ks → ((c h : ℕ) → get_elem? hs' c ≡ some h → h ≤ length ps) → ((c : ℕ) (y : Pairs) → get_elem? hs' c ≡ some 0 → get_elem? ks c ≡ some y → get_elem? (fold (step rule) k0 js) c ≡ some y)
      → ((m : ℕ) (q : PlainPass) → Place ps m q → PassOk (buries rule) (fold (step rule) k0 js) ks hs' js (length ps) m q) → Sound first step legal follows buries rule k0 ks hs' js ps
  rewords hs' each_held named free each = record { began = ok.began; is_legal = ok.is_legal; counted = ok.counted; as_many = ok.as_many; each_held = each_held; few_chains = ok.few_chains; few_passes = ok.few_passes; named = named; free = free; dead_known = ok.dead_known; freed_known = ok.freed_known; each = each }

  -- one more pass holds a free chain
  pub takes : (n c : ℕ) (p : PlainPass) → Place ps n p → p.death ≡ std.None → Place hs c 0 → Sound first step legal follows buries rule k0 ks (slice_set hs c (n + 1)) js ps
  takes n c p at lives word = rewords hs' (length-set hs c (n + 1) ∙ ok.each_held)
      (λ x h e. dite (ℕ_discrete x c)
      (λ same. let q : h ≡ n + 1 = sym (some-injective (n + 1) h (sym here ∙ subst (λ z. get_elem? hs' z ≡ some h) same e)) in let z = within ps n p at in omega arith)
      (λ other. ok.named x h (sym (set_other hs c x (n + 1) other) ∙ e)))
      (λ x y e f. ok.free x y (was x 0 (λ q. omega arith) e) f)
      (λ m q e. let old = ok.each m q e in rehold old ks hs'
      (λ x y e f. dite (ℕ_discrete x c)
      (λ same. let e0 = subst (λ z. get_elem? hs z ≡ some 0) (sym same) word in ok.free x y e0 f ∙ ap some (sym (not_due old x (λ z. let r = some-injective 0 (m + 1) (sym e0 ∙ z) in omega arith) y)))
      (λ other. old.parts x y (sym (set_other hs c x (n + 1) other) ∙ e) f))
      (λ i x e. keeps x.0 m (old.planned i x e))
      (λ x h f g. dite (ℕ_discrete h n) (λ same. ok.freed_known m n q p e at (subst (λ z. get_elem? q.freed.items z ≡ some true) same g) lives) (λ out. old.recovered x h (was x (h + 1) (λ z. out (omega arith)) f) g))
      (λ d is. fewer ks hs hs' m q d (old.at_death d is) (λ x f. was x (m + 1) (λ z.
      let m_is : m ≡ n = omega arith in
      let q_is : q ≡ p = some-injective q p (sym (subst (λ u. get_elem? ps u ≡ some q) m_is e) ∙ at) in
      living_not_dead p d lives (subst (λ (u : PlainPass). u.death ≡ std.Some d) q_is is)) f))) where
        hs' : List ℕ
        hs' = slice_set hs c (n + 1)

        here : get_elem? hs' c ≡ some (n + 1)
        here = set_same hs c (n + 1) (within hs c 0 word)

        was : (x h : ℕ) → (h ≡ n + 1 → ⊥) → get_elem? hs' x ≡ some h → get_elem? hs x ≡ some h
        was x h out e = dite (ℕ_discrete x c) (λ same. absurd (out (sym (some-injective (n + 1) h (sym here ∙ subst (λ z. get_elem? hs' z ≡ some h) same e))))) (λ other. sym (set_other hs c x (n + 1) other) ∙ e)

        keeps : (x m : ℕ) → get_elem? hs x ≡ some (m + 1) → get_elem? hs' x ≡ some (m + 1)
        keeps x m e = set_other hs c x (n + 1) (λ same. let q = some-injective 0 (m + 1) (sym word ∙ subst (λ z. get_elem? hs z ≡ some (m + 1)) same e) in omega arith) ∙ e

  -- one pass becomes another
  sets : (n : ℕ) (p p' : PlainPass) → Place ps n p → PassOk (buries rule) (fold (step rule) k0 js) ks hs js (length ps) n p' → (p'.death ≡ std.None → p.death ≡ std.None)
      → ((h : ℕ) (q : PlainPass) → Place ps h q → get_elem? p'.dead.items h ≡ some true → q.death ≡ std.None → ⊥)
      → ((h : ℕ) (q : PlainPass) → Place ps h q → get_elem? p'.freed.items h ≡ some true → q.death ≡ std.None → ⊥)
      → Sound first step legal follows buries rule k0 ks hs js (slice_set ps n p')
  sets n p p' at own_part live dead freed = record {
    began = ok.began;
    is_legal = ok.is_legal;
    counted = ok.counted;
    as_many = ok.as_many;
    each_held = ok.each_held;
    few_chains = ok.few_chains;
    few_passes = subst (λ z. z ≤ 65) (sym many) ok.few_passes;
    named = λ x h e. subst (λ z. h ≤ z) (sym many) (ok.named x h e);
    free = ok.free;
    dead_known = λ m h a b ea eb k lives. let rb = alive_was h b eb lives in dite (ℕ_discrete m n)
        (λ same. dead h rb.0 rb.1 (subst (λ (z : PlainPass). get_elem? z.dead.items h ≡ some true) (is_new m a same ea) k) rb.2)
        (λ other. ok.dead_known m h a rb.0 (old m a other ea) rb.1 k rb.2);
    freed_known = λ m h a b ea eb k lives. let rb = alive_was h b eb lives in dite (ℕ_discrete m n)
        (λ same. freed h rb.0 rb.1 (subst (λ (z : PlainPass). get_elem? z.freed.items h ≡ some true) (is_new m a same ea) k) rb.2)
        (λ other. ok.freed_known m h a rb.0 (old m a other ea) rb.1 k rb.2);
    each = λ m q e. subst (λ z. PassOk (buries rule) (fold (step rule) k0 js) ks hs js z m q) (sym many) (dite (ℕ_discrete m n)
        (λ same. subst (λ (w : ℕ × PlainPass). PassOk (buries rule) (fold (step rule) k0 js) ks hs js (length ps) w.0 w.1) (λ j. (sym same j, sym (is_new m q same e) j)) own_part)
        (λ other. ok.each m q (old m q other e)));
  } where
    many : length (slice_set ps n p') ≡ length ps
    many = length-set ps n p'

    is_new : (m : ℕ) (a : PlainPass) → m ≡ n → get_elem? (slice_set ps n p') m ≡ some a → a ≡ p'
    is_new m a same e = sym (some-injective p' a (sym (set_same ps n p' (within ps n p at)) ∙ subst (λ z. get_elem? (slice_set ps n p') z ≡ some a) same e))

    old : (m : ℕ) (a : PlainPass) → (m ≡ n → ⊥) → get_elem? (slice_set ps n p') m ≡ some a → get_elem? ps m ≡ some a
    old m a other e = sym (set_other ps n m p' other) ∙ e

    alive_was : (h : ℕ) (b : PlainPass) → get_elem? (slice_set ps n p') h ≡ some b → b.death ≡ std.None → (b0 : PlainPass) × (get_elem? ps h ≡ some b0) × (b0.death ≡ std.None)
    alive_was h b e lives = dite (ℕ_discrete h n)
        (λ same. (p, subst (λ z. get_elem? ps z ≡ some p) (sym same) at, live (subst (λ (z : PlainPass). z.death ≡ std.None) (is_new h b same e) lives)))
        (λ other. (b, old h b other e, lives))

  -- the pass sees all of the journal
  pub sees : (n : ℕ) (p : PlainPass) (s : ℕ) → Place ps n p → p.death ≡ std.None → s ≤ length js → take s js ≡ js → Sound first step legal follows buries rule k0 ks hs js (slice_set ps n (record p { seen = s }))
  sees n p s at lives inside whole = let o = ok.each n p at in
      sets n p (record p { seen = s }) at (relearn o (record p { seen = s }) o.deaths o.frees o.recovered inside (ap (of_pass n) whole) o.unburied (λ d e. living_not_dead p d lives e)) (λ a. a) (λ h q. ok.dead_known n h p q at) (λ h q. ok.freed_known n h p q at)

  -- the pass learns that another one is dead
  pub learns_dead : (n m : ℕ) (p p' other : PlainPass) → Place ps n p → Place ps m other → (d : Death) × (other.death ≡ std.Some d) → p' ≡ record p { looked = p'.looked; dead = p'.dead } → p'.dead.items ≡ slice_set p.dead.items m true
      → Sound first step legal follows buries rule k0 ks hs js (slice_set ps n p')
  learns_dead n m p p' other at at_other dead same is = subst (λ (z : PlainPass). Sound first step legal follows buries rule k0 ks hs js (slice_set ps n z)) (sym same) (let o = ok.each n p at in let q = record p { looked = p'.looked; dead = p'.dead } in
      sets n p q at (relearn o q (ap length is ∙ length-set p.dead.items m true ∙ o.deaths) o.frees o.recovered o.seen o.own o.unburied o.at_death)
      (λ a. a) (λ h q eq k lives. dite (ℕ_discrete h m)
      (λ same. let q_is : other ≡ q = some-injective other q (sym at_other ∙ subst (λ z. get_elem? ps z ≡ some q) same eq) in living_not_dead other dead.0 (subst (λ (z : PlainPass). z.death ≡ std.None) (sym q_is) lives) dead.1)
      (λ out. ok.dead_known n h p q at eq (sym (set_other p.dead.items m h true out) ∙ subst (λ (z : List Bool). get_elem? z h ≡ some true) is k) lives))
      (λ h q. ok.freed_known n h p q at))

  -- the pass learns that nothing names a dead one any more
  pub learns_freed : (n m : ℕ) (p p' other : PlainPass) (death : Death) → Place ps n p → Place ps m other → other.death ≡ std.Some death → ((c : ℕ) → get_elem? hs c ≡ some (m + 1) → ⊥)
      → p' ≡ record p { freed = p'.freed; given_back = p'.given_back; done = p'.done } → p'.freed.items ≡ slice_set p.freed.items m true → Sound first step legal follows buries rule k0 ks hs js (slice_set ps n p')
  learns_freed n m p p' other death at at_other died unnamed same is = subst (λ (z : PlainPass). Sound first step legal follows buries rule k0 ks hs js (slice_set ps n z)) (sym same) (let o = ok.each n p at in let q = record p { freed = p'.freed; given_back = p'.given_back; done = p'.done } in
      sets n p q at (relearn o q o.deaths (ap length is ∙ length-set p.freed.items m true ∙ o.frees)
      (λ c h f k. dite (ℕ_discrete h m) (λ same_h. unnamed c (subst (λ z. get_elem? hs c ≡ some (z + 1)) same_h f)) (λ out. o.recovered c h f (was h out k))) o.seen o.own o.unburied o.at_death)
      (λ a. a) (λ h q. ok.dead_known n h p q at) (λ h q eq k lives. dite (ℕ_discrete h m)
      (λ same_h. let q_is : other ≡ q = some-injective other q (sym at_other ∙ subst (λ z. get_elem? ps z ≡ some q) same_h eq) in living_not_dead other death (subst (λ (z : PlainPass). z.death ≡ std.None) (sym q_is) lives) died)
      (λ out. ok.freed_known n h p q at eq (was h out k) lives))) where
        was : (h : ℕ) → (h ≡ m → ⊥) → get_elem? p'.freed.items h ≡ some true → get_elem? p.freed.items h ≡ some true
        was h out k = sym (set_other p.freed.items m h true out) ∙ subst (λ (z : List Bool). get_elem? z h ≡ some true) is k

  -- the pass dies
  pub dies : (n : ℕ) (p : PlainPass) (d : Death) → Place ps n p → p.death ≡ std.None → d.chains.value.items ≡ ks → d.words.value.items ≡ hs → d.stage ≡ p.stage → d.new.value.items ≡ p.new.items
      → Sound first step legal follows buries rule k0 ks hs js (slice_set ps n (record p { death = std.Some d }))
  dies n p d at lives chains words stage_is new = let o = ok.each n p at in
      sets n p (record p { death = std.Some d }) at (relearn o (record p { death = std.Some d }) o.deaths o.frees o.recovered o.seen o.own (λ i e none. absurd (died none))
      (λ d' e. subst (λ (z : Death). StillDue ks hs n p z) (ap (death_or d) e) (record {
        many = ap (λ (t : Chains). length t) chains;
        was_held = λ x f. subst (λ (t : List ℕ). get_elem? t x ≡ some (n + 1)) (sym words) f;
        same = λ x y z f g h. let is : y ≡ z = some-injective y z (sym g ∙ subst (λ (t : Chains). get_elem? t x ≡ some z) chains h) in
            λ j. or_else (look x (due (plan_of (sym stage_is j) (sym new j)))) (is j);
      })))
      (λ none. absurd (died none)) (λ h q. ok.dead_known n h p q at) (λ h q. ok.freed_known n h p q at) where
        died : std.Some d ≡ std.None → ⊥
        died e = cc

  -- the pass comes to another plan, and counts
  pub replans : (n : ℕ) (p p' : PlainPass) → Place ps n p → p' ≡ record p { stage = p'.stage; new = p'.new; recovering = p'.recovering; looked = p'.looked; taken = p'.taken; given_back = p'.given_back; done = p'.done } → NewPlan (fold (step rule) k0 js) ks hs n p p'
      → Sound first step legal follows buries rule k0 ks hs js (slice_set ps n p')
  replans n p p' at same plan = subst (λ (z : PlainPass). Sound first step legal follows buries rule k0 ks hs js (slice_set ps n z)) (sym same)
      (sets n p (record p' { death = p.death; seen = p.seen; commits = p.commits; dead = p.dead; freed = p.freed }) at (replan (ok.each n p at) p' plan) (λ a. a) (λ h q. ok.dead_known n h p q at) (λ h q. ok.freed_known n h p q at))

  -- the pass looks at something, counts, or notes in which recovery it stopped
  pub counts : (n : ℕ) (p : PlainPass) (r : std.Option ℕ) (l : Looked) (t g d : ℕ) → Place ps n p → Sound first step legal follows buries rule k0 ks hs js (slice_set ps n (record p { recovering = r; looked = l; taken = t; given_back = g; done = d }))
  counts n p r l t g d at = let o = ok.each n p at in let q = record p { recovering = r; looked = l; taken = t; given_back = g; done = d } in replans n p q at refl (lessen o q (λ x y f. refl) (λ i x e. e) o.idle)

  -- the pass comes to an empty plan, where nothing is due
  pub empties : (n : ℕ) (p p' : PlainPass) → Place ps n p → p' ≡ record p { stage = p'.stage; new = p'.new; done = p'.done } → due_of p ≡ [] → p'.new.items ≡ [] → Sound first step legal follows buries rule k0 ks hs js (slice_set ps n p')
  empties n p p' at same was nothing = subst (λ (z : PlainPass). Sound first step legal follows buries rule k0 ks hs js (slice_set ps n z)) (sym same)
      (let q = record p { stage = p'.stage; new = p'.new; done = p'.done } in replans n p q at refl (lessen (ok.each n p at) q
      (λ x y g. ap (λ (l : Numbered). or_else (look x l) y) (plans.due_nil p'.stage p'.new.items nothing ∙ sym was))
      (λ i x e. absurd (some-ne-none x (sym (subst (λ (l : Numbered). get_elem? l i ≡ some x) (plans.planned_nil p'.stage p'.new.items nothing) e)))) (λ e. nothing)))

  -- the same list in another place
  pub renews : (n : ℕ) (p p' : PlainPass) → Place ps n p → p' ≡ record p { new = p'.new } → p'.new.items ≡ p.new.items → Sound first step legal follows buries rule k0 ks hs js (slice_set ps n p')
  renews n p p' at same items = subst (λ (z : PlainPass). Sound first step legal follows buries rule k0 ks hs js (slice_set ps n z)) (sym same)
      (let o = ok.each n p at in let q = record p { new = p'.new } in replans n p q at refl (lessen o q
      (λ x y g. ap (λ (l : Numbered). or_else (look x (due (plan_of p.stage l))) y) items)
      (λ i x e. subst (λ (l : Numbered). get_elem? (planned (plan_of p.stage l)) i ≡ some x) items e)
      (λ e. items ∙ o.idle (subst (λ (l : Numbered). is_nothing (plan_of p.stage l) ≡ true) items e))))

  -- a chain becomes what is due of it
  pub stores : (n c : ℕ) (p : PlainPass) (y : Pairs) → Place ps n p → Place hs c (n + 1) → look c (due_of p) ≡ some y → Sound first step legal follows buries rule k0 (slice_set ks c y) hs js ps
  stores n c p y at word due_y = record {
    began = ok.began;
    is_legal = ok.is_legal;
    counted = ok.counted;
    as_many = length-set ks c y ∙ ok.as_many;
    each_held = ok.each_held ∙ sym (length-set ks c y);
    few_chains = subst (λ z. z ≤ 512) (sym (length-set ks c y)) ok.few_chains;
    few_passes = ok.few_passes;
    named = ok.named;
    free = λ x z e f. ok.free x z e (was x z (λ same. let q = some-injective 0 (n + 1) (sym e ∙ subst (λ w. get_elem? hs w ≡ some (n + 1)) (sym same) word) in omega arith) f);
    dead_known = ok.dead_known;
    freed_known = ok.freed_known;
    each = λ m q e. let old = ok.each m q e in rehold old (slice_set ks c y) hs
        (λ x z f g. dite (ℕ_discrete x c)
        (λ same. let t = of_it m q x e same f in old.parts x t.0 f t.1 ∙ ap (λ o. some (or_else o t.0)) t.2 ∙ sym (ap (λ o. some (or_else o z)) t.2))
        (λ other. old.parts x z f (was x z other g)))
        old.planned old.recovered (λ d is. let s = old.at_death d is in record {
          many = s.many ∙ sym (length-set ks c y);
          was_held = s.was_held;
          same = λ x z v f g h. dite (ℕ_discrete x c)
              (λ same. let t = of_it m q x e same f in ap (λ o. or_else o z) t.2 ∙ sym (ap (λ o. or_else o t.0) t.2) ∙ s.same x t.0 v f t.1 h)
              (λ other. s.same x z v f (was x z other g) h);
        });
  } where
    was : (x : ℕ) (z : Pairs) → (x ≡ c → ⊥) → get_elem? (slice_set ks c y) x ≡ some z → get_elem? ks x ≡ some z
    was x z other e = sym (set_other ks c x y other) ∙ e

    old_chain : (x : ℕ) → get_elem? hs x ≡ some (n + 1) → (z : Pairs) × (get_elem? ks x ≡ some z)
    old_chain x w = there ks x (let b = within hs x (n + 1) w in let l = ok.each_held in omega arith)

    -- the pass that holds the chain is the one of which it is due
    of_it : (m : ℕ) (q : PlainPass) (x : ℕ) → get_elem? ps m ≡ some q → x ≡ c → get_elem? hs x ≡ some (m + 1) → (z : Pairs) × (get_elem? ks x ≡ some z) × (look x (due_of q) ≡ some y)
    of_it m q x e same f =
        let w : get_elem? hs x ≡ some (n + 1) = subst (λ w. get_elem? hs w ≡ some (n + 1)) (sym same) word in
        let m_is : m ≡ n = (let u = some-injective (m + 1) (n + 1) (sym f ∙ w) in omega arith) in
        let q_is : q ≡ p = some-injective q p (sym (subst (λ u. get_elem? ps u ≡ some q) m_is e) ∙ at) in
        let z = old_chain x w in
        (z.0, z.1, subst (λ (u : ℕ × PlainPass). look u.0 (due_of u.1) ≡ some y) (λ j. (sym same j, sym q_is j)) due_y)

  -- a chain that is stored isn't due any more
  pub pops : (n c : ℕ) (p p' : PlainPass) (y : Pairs) → Place ps n p → p' ≡ record p { new = p'.new; done = p'.done } → p.stage ≡ stage.Committed → p.new.items ≡ p'.new.items ++ (c, y) ∷ [] → look c p'.new.items ≡ none → Place ks c y
      → Sound first step legal follows buries rule k0 ks hs js (slice_set ps n p')
  pops n c p p' y at same is items missing at_c = subst (λ (z : PlainPass). Sound first step legal follows buries rule k0 ks hs js (slice_set ps n z)) (sym same)
      (let q = record p { new = p'.new; done = p'.done } in replans n p q at refl (lessen (ok.each n p at) q due_after
      (λ i x e. subst (λ (d : Numbered). get_elem? d i ≡ some x) (sym (plan_was p.new.items ∙ items)) (at_longer p'.new.items ((c, y) ∷ []) i x (subst (λ (d : Numbered). get_elem? d i ≡ some x) (plan_was p'.new.items) e)))
      (λ e. let e' : false ≡ true = subst (λ (s : Stage). is_nothing (plan_of s p'.new.items) ≡ true) is e in absurd cc))) where
        due_was : (xs : Numbered) → due (plan_of p.stage xs) ≡ xs
        due_was xs = ap (λ (s : Stage). due (plan_of s xs)) is

        plan_was : (xs : Numbered) → planned (plan_of p.stage xs) ≡ xs
        plan_was xs = ap (λ (s : Stage). planned (plan_of s xs)) is

        due_after : (x : ℕ) (z : Pairs) → get_elem? ks x ≡ some z → or_else (look x (due (plan_of p.stage p'.new.items))) z ≡ or_else (look x (due_of p)) z
        due_after x z g = dite (ℕ_discrete x c)
            (λ same. let z_is : z ≡ y = some-injective z y (sym g ∙ subst (λ w. get_elem? ks w ≡ some y) (sym same) at_c) in
            subst (λ (w : ℕ). or_else (look w (due (plan_of p.stage p'.new.items))) z ≡ or_else (look w (due_of p)) z) (sym same)
            (ap (λ o. or_else o z) (ap (λ (d : Numbered). look c d) (due_was p'.new.items) ∙ missing) ∙ z_is
            ∙ sym (ap (λ o. or_else o z) (ap (λ (d : Numbered). look c d) (due_was p.new.items ∙ items) ∙ look_last c p'.new.items y missing))))
            (λ other. ap (λ o. or_else o z) (ap (λ (d : Numbered). look x d) (due_was p'.new.items) ∙ sym (look_aside x c p'.new.items y (λ w. other (sym w))) ∙ ap (λ (d : Numbered). look x d) (sym (due_was p.new.items ∙ items))))

  -- a chain of which nothing is due is given back
  pub gives_back : (n c : ℕ) (p : PlainPass) → Place ps n p → Place hs c (n + 1) → plans_of p ≡ [] → due_of p ≡ [] → Sound first step legal follows buries rule k0 ks (slice_set hs c 0) js ps
  gives_back n c p at word nothing idle = rewords hs' (length-set hs c 0 ∙ ok.each_held)
      (λ x h e. dite (ℕ_discrete x c)
      (λ same. let q : h ≡ 0 = sym (some-injective 0 h (sym here ∙ subst (λ z. get_elem? hs' z ≡ some h) same e)) in omega arith)
      (λ other. ok.named x h (sym (set_other hs c x 0 other) ∙ e)))
      (λ x y e f. dite (ℕ_discrete x c)
      (λ same. subst (λ (d : Numbered). get_elem? (fold (step rule) k0 js) x ≡ some (or_else (look x d) y)) idle ((ok.each n p at).parts x y (subst (λ w. get_elem? hs w ≡ some (n + 1)) (sym same) word) f))
      (λ other. ok.free x y (sym (set_other hs c x 0 other) ∙ e) f))
      (λ m q e. let old = ok.each m q e in rehold old ks hs' (λ x y f g. old.parts x y (was x m f) g)
      (λ i x f. dite (ℕ_discrete x.0 c)
      (λ same. let m_is : m ≡ n = (let u = some-injective (m + 1) (n + 1) (sym (old.planned i x f) ∙ subst (λ w. get_elem? hs w ≡ some (n + 1)) (sym same) word) in omega arith) in
      let q_is : q ≡ p = some-injective q p (sym (subst (λ u. get_elem? ps u ≡ some q) m_is e) ∙ at) in
      absurd (some-ne-none x (sym (subst (λ (d : Numbered). get_elem? d i ≡ some x) (ap (λ (u : PlainPass). plans_of u) q_is ∙ nothing) f))))
      (λ other. set_other hs c x.0 0 other ∙ old.planned i x f))
      (λ x h f g. old.recovered x h (was x h f) g) (λ d is. fewer ks hs hs' m q d (old.at_death d is) (λ x f. was x m f))) where
        hs' : List ℕ
        hs' = slice_set hs c 0

        here : get_elem? hs' c ≡ some 0
        here = set_same hs c 0 (within hs c (n + 1) word)

        was : (x h : ℕ) → get_elem? hs' x ≡ some (h + 1) → get_elem? hs x ≡ some (h + 1)
        was x h e = dite (ℕ_discrete x c) (λ same. let q = some-injective 0 (h + 1) (sym here ∙ subst (λ z. get_elem? hs' z ≡ some (h + 1)) same e) in absurd (omega arith)) (λ other. sym (set_other hs c x 0 other) ∙ e)
