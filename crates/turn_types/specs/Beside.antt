-- What stands beside a pass: the journal, what stands in the chains, and what each pass shows.
use Rattle.std.specs.Prelude.{◌≡◌, ℕ, ◌+◌, Bool, true, false, List, ◌++◌, slice_set, Option, Some, None}
use mathlib.Core.Option.{some}
use lib.ListN.{get_elem?}
use Rattle.chain_map.specs.Pairs.{Pairs}
use Rattle.sid_core.specs.declared.entry.Entry.{Entry}
use Rattle.turn_types.specs.Journal.{Chains}
use Rattle.turn_types.specs.Shown.{Shown, look, or_else, due, replay}
use Rattle.turn_types.specs.declared.answers.Take.{Take}
use Rattle.turn_types.specs.declared.answers.Take.TheVariants as take
use Rattle.turn_types.specs.declared.answers.Recover.{Recover}
use Rattle.turn_types.specs.declared.answers.Recover.TheVariants as recover

-- A chain's word is 0 where it is free, and else the number of the pass that holds it, plus one.
-- A dead pass shows what it showed when it died.
pub record Beside (R : Type 0) : Type 0 where
  pub journal : List Entry
  pub chains : Chains
  pub words : List ℕ
  pub passes : List (Shown R)

-- what is told before a call is told after it, and the two are so related
abbrev pub WhereTold : {A : Type 0} → (A → A → Type 0) → Option A → Option A → Type 0
WhereTold P None None = Unit {0}
WhereTold P (Some b) (Some d) = P b d
WhereTold P None (Some d) = ⊥
WhereTold P (Some b) None = ⊥

-- what the pass shows is told too
abbrev pub Tells : {R : Type 0} → Shown R → Beside R → Type 0
Tells v b = get_elem? b.passes v.number ≡ some v

-- the journal gains what own gained, and no other pass shows anything else
pub record Leaves {R : Type 0} (v w : Shown R) (b d : Beside R) : Type 0 where
  pub gained : List Entry
  pub own : w.own ≡ v.own ++ gained
  pub journal : d.journal ≡ b.journal ++ gained
  pub passes : d.passes ≡ slice_set b.passes v.number w

-- whether the pass of this number lives
abbrev pub Lives : {R : Type 0} → ℕ → Bool → Beside R → Type 0
Lives {R} n lives b = (u : Shown R) × (get_elem? b.passes n ≡ some u) × (u.alive ≡ lives)

-- a holder that is named as busy lives, and one whose chain is an orphan doesn't
abbrev pub Names : {R : Type 0} → Take → Beside R → Type 0
Names take.Taken b = Unit {0}
Names (take.Busy h) b = Lives h true b
Names (take.Orphan h) b = Lives h false b

-- each pass that the journal buries is dead
abbrev pub BuriesTheDead : {R : Type 0} → (R → Entry → Option ℕ) → Beside R → Type 0
BuriesTheDead {R} buries b = (i : ℕ) (e : Entry) (n : ℕ) (u : Shown R) → get_elem? b.journal i ≡ some e → buries u.rule e ≡ Some n → get_elem? b.passes n ≡ some u → u.alive ≡ false

-- No chain names the dead pass any more. A chain that named it has what was due when it died: what it had planned and
-- committed, and else what it held. That is its part of what the journal makes.
pub record IsFreed {R : Type 0} (step : R → Chains → Entry → Chains) (dead : ℕ) (b d : Beside R) : Type 0 where
  pub none_left : (c : ℕ) → get_elem? d.words c ≡ some (dead + 1) → ⊥
  pub was_held : (c : ℕ) (u : Shown R) → get_elem? b.words c ≡ some (dead + 1) → get_elem? b.passes dead ≡ some u → (y : Pairs) × (look c u.held ≡ some y)
  pub redone : (c : ℕ) (u : Shown R) (y : Pairs) → get_elem? b.words c ≡ some (dead + 1) → get_elem? b.passes dead ≡ some u → look c u.held ≡ some y
      → (get_elem? d.chains c ≡ some (or_else (look c (due u.plan)) y)) × (get_elem? (replay step u d.journal) c ≡ some (or_else (look c (due u.plan)) y))

abbrev pub Frees : {R : Type 0} → (R → Chains → Entry → Chains) → ℕ → Recover → Beside R → Beside R → Type 0
Frees step dead recover.Freed b d = IsFreed step dead b d
Frees step dead (recover.Other by) b d = Lives by true b
Frees step dead recover.Stopped b d = (c : ℕ) × (get_elem? d.words c ≡ some (dead + 1))
