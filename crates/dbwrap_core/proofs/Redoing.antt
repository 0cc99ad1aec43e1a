-- Steps of a recovery, one by one.
use Rattle.std.proofs.Common.{◌≡◌, ℕ, zero, suc, ◌+◌, ◌<◌, ◌≤◌, Bool, true, false, cond, eqb, eq-eqb, ne_eqb, List, [], ◌∷◌, ◌++◌, length, slice_set, slice_index_or, sym, refl, ap, ◌∙◌, subst, arith, length-set, Some}
use Rattle.std.proofs.Common as std
use mathlib.Core.Option.{some, none, some-ne-none, some-injective}
use lib.ListN.{get_elem?}
use Rattle.chain_map.specs.Pairs.{Pairs}
use Rattle.turn_types.specs.Journal.{Chains}
use Rattle.turn_types.specs.Shown.{Numbered, look, or_else, is_made, is_nothing, is_stored, due}
use Rattle.turn_types.specs.declared.replay.Replay.{Ghosts}
use Rattle.dbwrap_core.specs.declared.plain.PlainCells.{PlainCells}
use Rattle.dbwrap_core.specs.declared.pass.PlainPass.{PlainPass}
use Rattle.dbwrap_core.specs.declared.pass.Death.{Death}
use Rattle.dbwrap_core.specs.declared.pass.Stage.{Stage}
use Rattle.dbwrap_core.specs.declared.pass.Stage.TheVariants as stage
use Rattle.dbwrap_core.specs.Shows.{all_shown, held_by, plan_of}
use Rattle.dbwrap_core.specs.Sound.{due_of}
use Rattle.dbwrap_core.specs.Redone.{Redone, IsDeadPass, IsUnmade, IsStored, left, made_or_not, due_in, due_or_none, count_of}
use mathlib.Core.Logic.{dite}
use native.Mathlib.Decide.{ℕ_discrete}
use Rattle.dbwrap_core.proofs.Lists.{at_place, set_same, set_other, within, there}
use Rattle.dbwrap_core.proofs.Holding.{look_last, look_aside}
use Rattle.dbwrap_core.proofs.Planning.{due_nil}
use Rattle.dbwrap_core.proofs.Dying as dying

-- what is due of a chain that stays
pub same_there : (ks : Chains) (due : Numbered) (c : ℕ) (y z : Pairs) → get_elem? ks c ≡ some y → get_elem? ks c ≡ some z → or_else (look c due) z ≡ or_else (look c due) y
same_there ks due c y z e f = ap (λ (u : Pairs). or_else (look c due) u) (some-injective z y (sym f ∙ e))

pub redoing : {R : Type 0} {g : Ghosts R} (p q : PlainCells R g) (d : ℕ) (a a' : PlainPass) (death : Death)
    → q.rule ≡ p.rule → q.first.value.items ≡ p.first.value.items → q.journal.items ≡ p.journal.items → length q.chains.items ≡ length p.chains.items → length q.words.items ≡ length p.words.items
    → q.passes.items ≡ slice_set p.passes.items d a' → get_elem? p.passes.items d ≡ some a → a.death ≡ Some death → a' ≡ record a { stage = a'.stage; new = a'.new }
    → ((m : ℕ) → (m ≡ d → ⊥) → held_by (m + 1) 0 q.chains.items q.words.items ≡ held_by (m + 1) 0 p.chains.items p.words.items)
    → ((c : ℕ) → get_elem? q.words.items c ≡ some (d + 1) → get_elem? p.words.items c ≡ some (d + 1))
    → ((c : ℕ) (y z : Pairs) → get_elem? p.chains.items c ≡ some y → get_elem? q.chains.items c ≡ some z → or_else (look c (due_of a')) z ≡ or_else (look c (due_of a)) y)
    → Redone p q d
redoing {R} p q d a a' death rule first journal chains words passes at died same_pass others fewer same = record {
  rule = rule;
  first = first;
  journal = journal;
  chains = chains;
  words = words;
  many = ap (λ (t : List PlainPass). length t) passes ∙ length-set p.passes.items d a';
  passes = (λ j. all_shown (rule j) (first j) q.chains.items q.words.items (journal j) 0 (passes j))
      ∙ dying.all_stay p.rule p.first.value.items p.chains.items q.chains.items p.words.items q.words.items p.journal.items d p.passes.items a a' death at died same_pass others;
  dead = (a', death, here, ap (λ (z : PlainPass). z.death) same_pass ∙ died);
  fewer = fewer;
  same = λ c y z g h. ap (λ (l : Numbered). or_else (look c l) z) (ap due_or_none here) ∙ same c y z g h ∙ ap (λ (l : Numbered). or_else (look c l) y) (sym (ap due_or_none at));
} where
  here : get_elem? q.passes.items d ≡ some a'
  here = ap (λ (t : List PlainPass). get_elem? t d) passes ∙ set_same p.passes.items d a' (within p.passes.items d a at)

pub no_step : {R : Type 0} {g : Ghosts R} (p : PlainCells R g) (d : ℕ) → IsDeadPass p d → Redone p p d
no_step p d dead = record { rule = refl; first = refl; journal = refl; chains = refl; words = refl; many = refl; passes = refl; dead = dead; fewer = λ c e. e; same = λ c y z g h. same_there p.chains.items (due_in p d) c y z g h }

-- one step after another
pub joined : {R : Type 0} {g : Ghosts R} (p q r : PlainCells R g) (d : ℕ) → Redone p q d → Redone q r d → Redone p r d
joined p q r d a b = record {
  rule = b.rule ∙ a.rule;
  first = b.first ∙ a.first;
  journal = b.journal ∙ a.journal;
  chains = b.chains ∙ a.chains;
  words = b.words ∙ a.words;
  many = b.many ∙ a.many;
  passes = b.passes ∙ a.passes;
  dead = b.dead;
  fewer = λ c e. a.fewer c (b.fewer c e);
  same = λ c y z f g. let l = within p.chains.items c y f in let m = there q.chains.items c (subst (λ n. c < n) (sym a.chains) l) in b.same c m.0 z m.1 g ∙ a.same c y m.0 f m.1;
}

pub was_word : (d c x : ℕ) (words : List ℕ) → get_elem? words c ≡ some (d + 1) → get_elem? (slice_set words c 0) x ≡ some (d + 1) → get_elem? words x ≡ some (d + 1)
was_word d c x words at e = dite (ℕ_discrete x c)
    (λ same. let q = some-injective 0 (d + 1) (sym (set_same words c 0 (within words c (d + 1) at)) ∙ subst (λ z. get_elem? (slice_set words c 0) z ≡ some (d + 1)) same e) in absurd (omega arith)) (λ other. sym (set_other words c x 0 other) ∙ e)

-- counting words
pub one_less : (w c v : ℕ) (words : List ℕ) → get_elem? words c ≡ some w → (v ≡ w → ⊥) → count_of w words ≡ count_of w (slice_set words c v) + 1
one_less w c v [] e n = absurd (some-ne-none w (sym e))
one_less w zero v (x ∷ words) e n = ap (λ t. cond t (count_of w words + 1) (count_of w words)) (eq-eqb x w (some-injective x w e)) ∙ sym (ap (λ t. cond t (count_of w words + 1) (count_of w words) + 1) (ne_eqb v w n))
one_less w (suc c) v (x ∷ words) e n = go (eqb x w) (one_less w c v words e n) where
  go : (t : Bool) → count_of w words ≡ count_of w (slice_set words c v) + 1 → cond t (count_of w words + 1) (count_of w words) ≡ cond t (count_of w (slice_set words c v) + 1) (count_of w (slice_set words c v)) + 1
  go true more = ap (λ n. n + 1) more
  go false more = more

pub no_words : (w : ℕ) (words : List ℕ) → ((c : ℕ) → get_elem? words c ≡ some w → ⊥) → count_of w words ≡ 0
no_words w [] n = refl
no_words w (x ∷ words) n = ap (λ t. cond t (count_of w words + 1) (count_of w words)) (ne_eqb x w (λ e. n zero (ap some e))) ∙ no_words w words (λ c e. n (suc c) e)

at_most : (w : ℕ) (words : List ℕ) → count_of w words ≤ length words
at_most w [] = omega arith
at_most w (x ∷ words) = go (eqb x w) (at_most w words) where
  go : (t : Bool) → count_of w words ≤ length words → cond t (count_of w words + 1) (count_of w words) ≤ suc (length words)
  go true l = omega arith
  go false l = omega arith

pub few_words : {R : Type 0} {g : Ghosts R} (p : PlainCells R g) (w : ℕ) → count_of w p.words.items ≤ 512
few_words p w = let most = at_most w p.words.items in let many = p.sound.each_held in let few_chains = p.sound.few_chains in omega arith

-- rising numbers of words that are w
pub few : (w i : ℕ) (words : List ℕ) (xs : Numbered) → ((a b : ℕ) (x y : ℕ × Pairs) → get_elem? xs a ≡ some x → get_elem? xs b ≡ some y → a < b → x.0 < y.0)
    → ((a : ℕ) (x : ℕ × Pairs) → get_elem? xs a ≡ some x → (c : ℕ) × (x.0 ≡ i + c) × (get_elem? words c ≡ some w)) → length xs ≤ count_of w words
few w i words [] rising named = omega arith
few w i [] (x ∷ xs) rising named = let t = named zero x refl in absurd (some-ne-none w (sym t.2))
few w i (h ∷ words) (x ∷ xs) rising named = go (λ a n. few w (i + 1) words xs a n) (λ a n. few w (i + 1) words (x ∷ xs) a n) (named zero x refl) where
  later : (c : ℕ) → x.0 ≡ i + c → (a : ℕ) (y : ℕ × Pairs) → get_elem? xs a ≡ some y → (b : ℕ) × (y.0 ≡ (i + 1) + b) × (get_elem? words b ≡ some w)
  later c is a y e = down (rising zero (suc a) x y refl e (omega arith)) (named (suc a) y e) where
    down : x.0 < y.0 → (b : ℕ) × (y.0 ≡ i + b) × (get_elem? (h ∷ words) b ≡ some w) → (b : ℕ) × (y.0 ≡ (i + 1) + b) × (get_elem? words b ≡ some w)
    down l (zero, e, f) = absurd (let z = is in let u = e in omega arith)
    down l (suc b, e, f) = (b, (let z = e in omega arith), f)

  rest : (a b : ℕ) (y z : ℕ × Pairs) → get_elem? xs a ≡ some y → get_elem? xs b ≡ some z → a < b → y.0 < z.0
  rest a b y z e f l = rising (suc a) (suc b) y z e f (omega arith)

  all : (c : ℕ) → x.0 ≡ i + suc c → get_elem? words c ≡ some w → (a : ℕ) (y : ℕ × Pairs) → get_elem? (x ∷ xs) a ≡ some y → (b : ℕ) × (y.0 ≡ (i + 1) + b) × (get_elem? words b ≡ some w)
  all c e f zero y g = (c, (let z = ap (λ (t : ℕ × Pairs). t.0) (some-injective x y g) in let u = e in omega arith), f)
  all c e f (suc a) y g = later (suc c) e a y g

  more : (t : Bool) → suc (length xs) ≤ count_of w words → suc (length xs) ≤ cond t (count_of w words + 1) (count_of w words)
  more true l = omega arith
  more false l = l

  go : (((a b : ℕ) (y z : ℕ × Pairs) → get_elem? xs a ≡ some y → get_elem? xs b ≡ some z → a < b → y.0 < z.0) → ((a : ℕ) (y : ℕ × Pairs) → get_elem? xs a ≡ some y → (b : ℕ) × (y.0 ≡ (i + 1) + b) × (get_elem? words b ≡ some w)) → length xs ≤ count_of w words)
      → (((a b : ℕ) (y z : ℕ × Pairs) → get_elem? (x ∷ xs) a ≡ some y → get_elem? (x ∷ xs) b ≡ some z → a < b → y.0 < z.0) → ((a : ℕ) (y : ℕ × Pairs) → get_elem? (x ∷ xs) a ≡ some y → (b : ℕ) × (y.0 ≡ (i + 1) + b) × (get_elem? words b ≡ some w)) → suc (length xs) ≤ count_of w words)
      → (c : ℕ) × (x.0 ≡ i + c) × (get_elem? (h ∷ words) c ≡ some w) → suc (length xs) ≤ cond (eqb h w) (count_of w words + 1) (count_of w words)
  go one both (zero, e, f) = let m = one rest (later zero e) in
      subst (λ t. suc (length xs) ≤ cond t (count_of w words + 1) (count_of w words)) (sym (eq-eqb h w (some-injective h w f))) (let z = m in omega arith)
  go one both (suc c, e, f) = more (eqb h w) (both rising (all c e f))

-- what is due of each chain after the last one that was due is stored
pub stored_same : (ks : Chains) (c : ℕ) (w : Pairs) (xs now was : Numbered) (x : ℕ) (y z : Pairs) → now ≡ xs → was ≡ xs ++ (c, w) ∷ [] → look c xs ≡ none → c < length ks → get_elem? ks x ≡ some y → get_elem? (slice_set ks c w) x ≡ some z
    → or_else (look x now) z ≡ or_else (look x was) y
stored_same ks c w xs now was x y z now_is was_is missing l at at' = ap (λ (d : Numbered). or_else (look x d) z) now_is ∙ dite (ℕ_discrete x c)
    (λ same. let z_is : w ≡ z = some-injective w z (sym (set_same ks c w l) ∙ subst (λ u. get_elem? (slice_set ks c w) u ≡ some z) same at') in
    subst (λ u. or_else (look u xs) z ≡ or_else (look u (xs ++ (c, w) ∷ [])) y) (sym same) (ap (λ o. or_else o z) missing ∙ sym z_is ∙ sym (ap (λ o. or_else o y) (look_last c xs w missing))))
    (λ other. ap (λ o. or_else o z) (sym (look_aside x c xs w (λ u. other (sym u)))) ∙ ap (λ (u : Pairs). or_else (look x (xs ++ (c, w) ∷ [])) u) (some-injective z y (sym at' ∙ set_other ks c x w other ∙ at)))
    ∙ ap (λ (d : Numbered). or_else (look x d) y) (sym was_is)

-- plans of the dead
pub unmade_stage : (s : Stage) (xs : Numbered) → (s ≡ stage.Made → ⊥) → is_made (plan_of s xs) ≡ false
unmade_stage stage.Nothing xs n = refl
unmade_stage stage.Made xs n = absurd (n refl)
unmade_stage stage.Committed xs n = refl

pub stored_if_empty : (s : Stage) (xs : Numbered) → is_made (plan_of s xs) ≡ false → xs ≡ [] → is_stored (plan_of s xs) ≡ true
stored_if_empty stage.Nothing xs m e = refl
stored_if_empty stage.Made xs m e = absurd cc
stored_if_empty stage.Committed xs m e = ap (λ (t : Numbered). is_stored (plan_of stage.Committed t)) e

pub due_if_left : (s : Stage) (xs : Numbered) → is_made (plan_of s xs) ≡ false → (is_nothing (plan_of s xs) ≡ true → xs ≡ []) → due (plan_of s xs) ≡ xs
due_if_left stage.Nothing xs m i = sym (i refl)
due_if_left stage.Made xs m i = absurd cc
due_if_left stage.Committed xs m i = refl

-- the steps so far of giving all back; no chain below this one names the dead pass
abbrev pub Giving : {R : Type 0} {g : Ghosts R} (p : PlainCells R g) (d : ℕ) (stop : std.Option ℕ) (stored freed c : ℕ) (q : PlainCells R g) → Type 0
Giving p d stop stored freed c q = Redone p q d × IsStored q d × (freed + count_of (d + 1) q.words.items ≡ count_of (d + 1) p.words.items)
    × ((b : ℕ) → b < c → get_elem? q.words.items b ≡ some (d + 1) → ⊥) × ((most : ℕ) → stop ≡ Some most → stored ≤ most → stored + freed ≤ most)

pub left_is : {R : Type 0} {g : Ghosts R} (p : PlainCells R g) (d : ℕ) (dead : IsDeadPass p d) → IsUnmade p d → left p d ≡ length dead.0.new.items
left_is p d dead unmade = ap (λ (l : Numbered). length l) (ap due_or_none dead.2 ∙ due_if_left dead.0.stage dead.0.new.items (ap made_or_not (sym dead.2) ∙ unmade) (p.sound.each d dead.0 dead.2).idle)

-- the dead pass where it is found by its place
pub found : {R : Type 0} {g : Ghosts R} (p : PlainCells R g) (d : ℕ) (dead : IsDeadPass p d) (a : PlainPass) → a ≡ slice_index_or p.passes.items d a → (get_elem? p.passes.items d ≡ some a) × (a.death ≡ Some dead.1)
found p d dead a is = let at = at_place p.passes.items d a (within p.passes.items d dead.0 dead.2) is in (at, ap (λ (z : PlainPass). z.death) (some-injective a dead.0 (sym at ∙ dead.2)) ∙ dead.3)

pub unmade_here : {R : Type 0} {g : Ghosts R} (p : PlainCells R g) (d : ℕ) (a : PlainPass) → get_elem? p.passes.items d ≡ some a → IsUnmade p d → is_made (plan_of a.stage a.new.items) ≡ false
unmade_here p d a at unmade = ap made_or_not (sym at) ∙ unmade

pub none_left : {R : Type 0} {g : Ghosts R} (p : PlainCells R g) (d : ℕ) (a : PlainPass) → get_elem? p.passes.items d ≡ some a → a.new.items ≡ [] → 0 < left p d → ⊥
none_left p d a at empty some_left = let none = ap (λ (l : Numbered). length l) (ap due_or_none at ∙ due_nil a.stage a.new.items empty) in omega arith

pub left_here : {R : Type 0} {g : Ghosts R} (p : PlainCells R g) (d : ℕ) (dead : IsDeadPass p d) → IsUnmade p d → (a : PlainPass) → a ≡ slice_index_or p.passes.items d a → left p d ≡ length a.new.items
left_here p d dead unmade a is = left_is p d dead unmade ∙ ap (λ (z : PlainPass). length z.new.items) (some-injective dead.0 a (sym dead.2 ∙ (found p d dead a is).0))
