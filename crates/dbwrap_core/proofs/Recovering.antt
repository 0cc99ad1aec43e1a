-- A whole recovery.
use Rattle.std.proofs.Common.{◌≡◌, ℕ, zero, ◌+◌, ◌<◌, ◌≤◌, true, false, List, [], ◌∷◌, ◌++◌, length, slice_set, slice_index_or, sym, refl, ap, ◌∙◌, subst, arith, Option, Some, None}
use Rattle.std.specs.Prelude.{fold}
use mathlib.Core.Option.{some, some-ne-none, some-injective}
use lib.ListN.{get_elem?}
use Rattle.chain_map.specs.Pairs.{Pairs}
use Rattle.sid_core.specs.declared.entry.Entry.{Entry}
use Rattle.turn_types.specs.Journal.{Chains}
use Rattle.turn_types.specs.Shown.{Shown, Numbered, look, or_else, due, planned, is_made, knows_dead}
use Rattle.turn_types.specs.Ends.{Recovered}
use Rattle.turn_types.specs.Beside.{Frees}
use Rattle.turn_types.specs.declared.replay.Replay.{Ghosts}
use Rattle.turn_types.specs.declared.answers.Recover.{Recover}
use Rattle.turn_types.specs.declared.answers.Recover.TheVariants.{Freed, Other, Stopped}
use Rattle.dbwrap_core.specs.declared.plain.PlainCells.{PlainCells}
use Rattle.dbwrap_core.specs.declared.pass.PlainPass.{PlainPass}
use Rattle.dbwrap_core.specs.declared.pass.Death.{Death}
use Rattle.dbwrap_core.specs.declared.pass.Stage.{Stage}
use Rattle.dbwrap_core.specs.declared.pass.Stage.TheVariants as stage
use Rattle.dbwrap_core.specs.Shows.{blank, shown_of, held_at, plan_at, plan_of}
use Rattle.dbwrap_core.specs.Plain.{Still, beside_of, shown_at}
use Rattle.dbwrap_core.specs.Sound.{StillDue, due_of, due_at, plans_of}
use Rattle.dbwrap_core.specs.Redone.{Redone, IsDeadPass, IsUnmade, Counted, due_in, due_or_none, made_or_not, left, count_of}
use Rattle.dbwrap_core.proofs.Lists.{there, within, is_there}
use Rattle.dbwrap_core.proofs.Here.{somewhere}
use Rattle.dbwrap_core.proofs.Holding as holding
use Rattle.dbwrap_core.proofs.Showing as show
use Rattle.dbwrap_core.proofs.Redoing.{few, few_words, joined, no_words}

has_died : (o : Option Death) → (o ≡ None → ⊥) → (d : Death) × (o ≡ Some d)
has_died None n = absurd (n refl)
has_died (Some d) n = (d, refl)

-- a pass that is known as dead is there, and is dead
pub dead_pass : {R : Type 0} {g : Ghosts R} (p : PlainCells R g) (n d : ℕ) → n < length p.passes.items → (shown_at p n).alive ≡ true → knows_dead d (shown_at p n) ≡ true → IsDeadPass p d
dead_pass {R} p n d l lives known =
    let me = somewhere p n l lives in
    let knows = is_there me.0.dead.items d (ap (λ (v : Shown R). knows_dead d v) (sym me.1.old) ∙ known) in
    let inside = within me.0.dead.items d true knows in let many = (p.sound.each n me.0 me.1.at).deaths in
    let a = there p.passes.items d (omega arith) in
    let t = has_died a.0.death (λ e. p.sound.dead_known n d me.0 a.0 me.1.at a.1 knows e) in (a.0, t.0, a.1, t.1)

unmade_plans : (s : Stage) (xs : Numbered) → is_made (plan_of s xs) ≡ false → due (plan_of s xs) ≡ planned (plan_of s xs)
unmade_plans stage.Nothing xs m = refl
unmade_plans stage.Made xs m = absurd cc
unmade_plans stage.Committed xs m = refl

-- as many chains are due as name the pass, at most
pub few_left : {R : Type 0} {g : Ghosts R} (p : PlainCells R g) (d : ℕ) → IsDeadPass p d → IsUnmade p d → left p d ≤ count_of (d + 1) p.words.items
few_left p d dead unmade = let a = dead.0 in let at = dead.2 in let o = p.sound.each d a at in
    let is : due_in p d ≡ plans_of a = ap due_or_none at ∙ unmade_plans a.stage a.new.items (ap made_or_not (sym at) ∙ unmade) in
    subst (λ (l : Numbered). length l ≤ count_of (d + 1) p.words.items) (sym is) (few (d + 1) 0 p.words.items (plans_of a) o.rising (λ i x e. (x.0, omega arith, o.planned i x e)))

nobody : (xs : Numbered) → ((i : ℕ) (x : ℕ × Pairs) → get_elem? xs i ≡ some x → ⊥) → xs ≡ []
nobody [] n = refl
nobody (x ∷ xs) n = absurd (n zero x refl)

due_planned : (s : Stage) (xs : Numbered) (i : ℕ) (x : ℕ × Pairs) → get_elem? (due (plan_of s xs)) i ≡ some x → get_elem? (planned (plan_of s xs)) i ≡ some x
due_planned stage.Nothing xs i x e = e
due_planned stage.Made xs i x e = absurd (some-ne-none x (sym e))
due_planned stage.Committed xs i x e = e

nothing_due : {R : Type 0} {g : Ghosts R} (p : PlainCells R g) (d : ℕ) → IsDeadPass p d → ((c : ℕ) → get_elem? p.words.items c ≡ some (d + 1) → ⊥) → due_in p d ≡ []
nothing_due p d dead unnamed = let a = dead.0 in let at = dead.2 in
    ap due_or_none at ∙ nobody (due_of a) (λ i x e. unnamed x.0 ((p.sound.each d a at).planned i x (due_planned a.stage a.new.items i x e)))

pub shown_same : {R : Type 0} {g : Ghosts R} (p q : PlainCells R g) (d n : ℕ) → Redone p q d → shown_at q n ≡ shown_at p n
shown_same p q d n r = λ j. slice_index_or (r.passes j) n (blank (r.rule j) [] 0 [])

pub still : {R : Type 0} {g : Ghosts R} (p q r : PlainCells R g) (d n : ℕ) → Redone p q d → Still q r n → Still p r n
still {R} p q r d n a s = let same = shown_same p q d n a in record {
  rule = s.rule ∙ a.rule;
  chains = s.chains ∙ a.chains;
  passes = s.passes ∙ a.many;
  leaves = record {
    gained = s.leaves.gained;
    own = s.leaves.own ∙ ap (λ (v : Shown R). v.own ++ s.leaves.gained) same;
    journal = s.leaves.journal ∙ ap (λ (t : List Entry). t ++ s.leaves.gained) a.journal;
    passes = s.leaves.passes ∙ (λ j. slice_set (a.passes j) (same j).number (shown_at r n));
  };
}

pub recovered : {R : Type 0} (d stored freed : ℕ) (stop : Option ℕ) (v w : Shown R) (words : List ℕ) (a : Recover) → Counted d stored freed v w words a
    → ((c : ℕ) → get_elem? words c ≡ some (d + 1) → stop ≡ Some (stored + freed)) → ((most : ℕ) → stop ≡ Some most → stored + freed ≤ most) → (((c : ℕ) → get_elem? words c ≡ some (d + 1) → ⊥) → stored ≤ freed) → Recovered d stop v w a
recovered d stored freed stop v w words Freed t stopped allowed once = record { stored = stored; freed = freed; each_once = once t.4; allowed = allowed; shown = t.0; knows = t.1; given_back = t.2; done = t.3 }
recovered d stored freed stop v w words (Other by) t stopped allowed once = absurd t
recovered d stored freed stop v w words Stopped t stopped allowed once = record { stored = stored; freed = freed; allowed = stopped t.0 t.1; chain = t.0; saw = t.2; shown = t.3; given_back = t.4; done = t.5 }

pub frees : {R : Type 0} {g : Ghosts R} (p q r : PlainCells R g) (d stored freed : ℕ) (v w : Shown R) (a : Recover) → IsDeadPass p d → Redone p q d → r.chains.items ≡ q.chains.items → r.words.items ≡ q.words.items → r.journal.items ≡ q.journal.items
    → Counted d stored freed v w r.words.items a → Frees g.step d a (beside_of p) (beside_of r)
frees p q r d stored freed v w (Other by) dead re chains words journal t = absurd t
frees p q r d stored freed v w Stopped dead re chains words journal t = (t.0, t.1)
frees {R} {g} p q r d stored freed v w Freed dead re chains words journal t = record {
  none_left = t.4;
  was_held = λ c u word at. let z = old_chain c word in (z.0, held u c z.0 at z.1 (at_death.was_held c word));
  redone = λ c u y word at is.
      let z = old_chain c word in let y_is : y ≡ z.0 = some-injective y z.0 (sym is ∙ held u c z.0 at z.1 (at_death.was_held c word)) in
      let inside = within p.words.items c (d + 1) word in let many = p.sound.each_held in let yp = there p.chains.items c (omega arith) in let long = re.chains in let x = there q.chains.items c (omega arith) in
      let due_then : or_else (look c (due_of dead.0)) yp.0 ≡ or_else (look c (due u.plan)) y = at_death.same c yp.0 z.0 word yp.1 z.1 ∙ (λ j. or_else (look c (sym (plan_is u at) j)) (sym y_is j)) in
      let now : x.0 ≡ or_else (look c (due u.plan)) y = ap (λ (l : Numbered). or_else (look c l) x.0) (sym (nothing_due q d re.dead unnamed)) ∙ re.same c yp.0 x.0 yp.1 x.1 ∙ ap (λ (l : Numbered). or_else (look c l) yp.0) (ap due_or_none dead.2) ∙ due_then in (
        ap (λ (k : Chains). get_elem? k c) chains ∙ x.1 ∙ ap some now,
        (λ j. get_elem? (fold (g.step (rule_is u at j)) (first_is u at j) ((journal ∙ re.journal) j)) c) ∙ (p.sound.each d dead.0 dead.2).parts c yp.0 word yp.1 ∙ ap some due_then,
      );
} where
  at_death : StillDue p.chains.items p.words.items d dead.0 dead.1
  at_death = (p.sound.each d dead.0 dead.2).at_death dead.1 dead.3

  unnamed : (c : ℕ) → get_elem? q.words.items c ≡ some (d + 1) → ⊥
  unnamed c e = t.4 c (ap (λ (l : List ℕ). get_elem? l c) words ∙ e)

  old_chain : (c : ℕ) → get_elem? p.words.items c ≡ some (d + 1) → (z : Pairs) × (get_elem? dead.1.chains.value.items c ≡ some z)
  old_chain c word = let inside = within p.words.items c (d + 1) word in let many = p.sound.each_held in let long = at_death.many in there dead.1.chains.value.items c (omega arith)

  back : (u : Shown R) → get_elem? (beside_of p).passes d ≡ some u → (a : PlainPass) × (a.death ≡ Some dead.1) × (u ≡ shown_of p.rule p.first.value.items p.chains.items p.words.items p.journal.items d a)
  back u at = let q = show.shown_back p.rule p.first.value.items p.chains.items p.words.items p.journal.items p.passes.items d u at in
      (q.0, ap (λ (z : PlainPass). z.death) (some-injective q.0 dead.0 (sym q.1 ∙ dead.2)) ∙ dead.3, q.2)

  held : (u : Shown R) (c : ℕ) (z : Pairs) → get_elem? (beside_of p).passes d ≡ some u → get_elem? dead.1.chains.value.items c ≡ some z → get_elem? dead.1.words.value.items c ≡ some (d + 1) → look c u.held ≡ some z
  held u c z at is word = let q = back u at in
      ap (λ (l : Numbered). look c l) (ap (λ (v : Shown R). v.held) q.2 ∙ ap (λ (o : Option Death). held_at o (d + 1) p.chains.items p.words.items) q.1) ∙ holding.found_here (d + 1) c dead.1.chains.value.items dead.1.words.value.items z word is

  plan_is : (u : Shown R) → get_elem? (beside_of p).passes d ≡ some u → due u.plan ≡ due_at dead.1
  plan_is u at = let q = back u at in ap (λ (v : Shown R). due v.plan) q.2 ∙ ap (λ (o : Option Death). due (plan_at o q.0.stage q.0.new.items)) q.1

  rule_is : (u : Shown R) → get_elem? (beside_of p).passes d ≡ some u → u.rule ≡ p.rule
  rule_is u at = ap (λ (v : Shown R). v.rule) (back u at).2

  first_is : (u : Shown R) → get_elem? (beside_of p).passes d ≡ some u → u.first ≡ p.first.value.items
  first_is u at = ap (λ (v : Shown R). v.first) (back u at).2

-- so many chains are stored at most
pub few_stored : {R : Type 0} {g : Ghosts R} (q r : PlainCells R g) (d stored : ℕ) → IsDeadPass q d → IsUnmade q d → stored + left r d ≡ left q d → stored ≤ 512
few_stored q r d stored dead unmade counted = let few = few_left q d dead unmade in let most = few_words q (d + 1) in omega arith

-- a whole recovery, but for the count of its steps
pub record Steps {R : Type 0} {g : Ghosts R} (p s : PlainCells R g) (d stored freed : ℕ) : Type 0 where
  pub all : Redone p s d
  pub few : (stored ≤ 512) × (freed ≤ 512)
  pub once : ((c : ℕ) → get_elem? s.words.items c ≡ some (d + 1) → ⊥) → stored ≤ freed

pub steps : {R : Type 0} {g : Ghosts R} (p q r s : PlainCells R g) (d stored freed : ℕ) → Redone p q d → IsUnmade q d → Redone q r d → r.words.items ≡ q.words.items → stored + left r d ≡ left q d → Redone r s d
    → freed + count_of (d + 1) s.words.items ≡ count_of (d + 1) r.words.items → Steps p s d stored freed
steps p q r s d stored freed one unmade two words counted three given =
    let few = few_left q d one.dead unmade in let most = few_words q (d + 1) in
    let same : count_of (d + 1) r.words.items ≡ count_of (d + 1) q.words.items = ap (λ (l : List ℕ). count_of (d + 1) l) words in record {
      all = joined p r s d (joined p q r d one two) three;
      few = (few_stored q r d stored one.dead unmade counted, omega arith);
      once = λ unnamed. let none = no_words (d + 1) s.words.items unnamed in omega arith;
    }
