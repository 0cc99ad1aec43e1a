-- What the steps of a recovery keep, over plain cells.
use Rattle.std.specs.Prelude.{◌≡◌, ℕ, ◌+◌, Bool, true, false, cond, eqb, List, [], ◌∷◌, length, slice_set, Some}
use mathlib.Core.Option as maybe
use mathlib.Core.Option.{some, none}
use lib.ListN.{get_elem?}
use Rattle.chain_map.specs.Pairs.{Pairs}
use Rattle.turn_types.specs.declared.replay.Replay.{Ghosts}
use Rattle.turn_types.specs.declared.answers.Recover.{Recover}
use Rattle.turn_types.specs.declared.answers.Recover.TheVariants.{Freed, Other, Stopped}
use Rattle.turn_types.specs.Shown.{Shown, Numbered, look, or_else, is_made, is_stored, knows_freed}
use Rattle.turn_types.specs.Calls.{RoseBy}
use Rattle.dbwrap_core.specs.declared.plain.PlainCells.{PlainCells}
use Rattle.dbwrap_core.specs.declared.pass.PlainPass.{PlainPass}
use Rattle.dbwrap_core.specs.declared.pass.Death.{Death}
use Rattle.dbwrap_core.specs.Plain.{beside_of}
use Rattle.dbwrap_core.specs.Shows.{plan_of}
use Rattle.dbwrap_core.specs.Sound.{due_of}

-- how many words are w
abbrev pub count_of : ℕ → List ℕ → ℕ
count_of w [] = 0
count_of w (x ∷ words) = cond (eqb x w) (count_of w words + 1) (count_of w words)

abbrev pub due_or_none : maybe.Option PlainPass → Numbered
due_or_none none = []
due_or_none (some p) = due_of p

abbrev pub made_or_not : maybe.Option PlainPass → Bool
made_or_not none = false
made_or_not (some p) = is_made (plan_of p.stage p.new.items)

abbrev pub stored_or_not : maybe.Option PlainPass → Bool
stored_or_not none = true
stored_or_not (some p) = is_stored (plan_of p.stage p.new.items)

module _ {R : Type 0} {g : Ghosts R} (p : PlainCells R g) (d : ℕ) where
  -- pass d is there, and is dead
  abbrev pub IsDeadPass : Type 0
  IsDeadPass = (a : PlainPass) × (death : Death) × (get_elem? p.passes.items d ≡ some a) × (a.death ≡ Some death)

  -- it has no plan that isn't committed
  abbrev pub IsUnmade : Type 0
  IsUnmade = made_or_not (get_elem? p.passes.items d) ≡ false

  -- it has no plan, or all of it is stored
  abbrev pub IsStored : Type 0
  IsStored = stored_or_not (get_elem? p.passes.items d) ≡ true

  -- what is due of it, and how many chains that are
  abbrev pub due_in : Numbered
  due_in = due_or_none (get_elem? p.passes.items d)

  abbrev pub left : ℕ
  left = length due_in

-- nobody shows anything else, no more chains name pass d, and what is due of each chain is the same
pub record Redone {R : Type 0} {g : Ghosts R} (p q : PlainCells R g) (d : ℕ) : Type 0 where
  pub rule : q.rule ≡ p.rule
  pub first : q.first.value.items ≡ p.first.value.items
  pub journal : q.journal.items ≡ p.journal.items
  pub chains : length q.chains.items ≡ length p.chains.items
  pub words : length q.words.items ≡ length p.words.items
  pub many : length q.passes.items ≡ length p.passes.items
  pub passes : (beside_of q).passes ≡ (beside_of p).passes
  pub dead : IsDeadPass q d
  pub fewer : (c : ℕ) → get_elem? q.words.items c ≡ some (d + 1) → get_elem? p.words.items c ≡ some (d + 1)
  pub same : (c : ℕ) (y z : Pairs) → get_elem? p.chains.items c ≡ some y → get_elem? q.chains.items c ≡ some z → or_else (look c (due_in q d)) z ≡ or_else (look c (due_in p d)) y

-- what the recoverer shows once the steps are counted
abbrev pub Counted : {R : Type 0} → ℕ → ℕ → ℕ → Shown R → Shown R → List ℕ → Recover → Type 0
Counted d stored freed v w words Freed = (w ≡ record v { freed = slice_set v.freed d true; looked = w.looked; given_back = w.given_back; done = w.done }) × (knows_freed d w ≡ true) × RoseBy freed v.given_back w.given_back × RoseBy (stored + freed) v.done w.done
    × ((c : ℕ) → get_elem? words c ≡ some (d + 1) → ⊥)
Counted d stored freed v w words (Other by) = ⊥
Counted d stored freed v w words Stopped = (c : ℕ) × (get_elem? words c ≡ some (d + 1)) × (w.looked.chain ≡ Some (c, d + 1))
    × (w ≡ record v { recovering = Some d; looked = w.looked; given_back = w.given_back; done = w.done }) × RoseBy freed v.given_back w.given_back × RoseBy (stored + freed) v.done w.done
