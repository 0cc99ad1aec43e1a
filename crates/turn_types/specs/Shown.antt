-- What a pass shows of itself.
use Rattle.std.specs.Prelude.{◌≡◌, ℕ, ◌+◌, ◌<◌, ◌≤◌, Bool, true, false, cond, eqb, List, [], ◌∷◌, fold, slice_index_or, Option}
use mathlib.Core.Option as maybe
use mathlib.Core.Option.{none, some}
use lib.ListN.{get_elem?}
use Rattle.chain_map.specs.Pairs.{Pairs}
use Rattle.sid_core.specs.declared.entry.Entry.{Entry}
use Rattle.turn_types.specs.Journal.{Chains}
use Rattle.turn_types.specs.declared.looked.Looked.{Looked}

-- chains with their numbers
abbrev pub Numbered : Type 0
Numbered = List (ℕ × Pairs)

-- what a pass is going to make of chains that it holds; once it is committed, what is still to be stored
pub data Plan : Type 0 where
  Nothing : Plan
  Made : Numbered → Plan
  Committed : Numbered → Plan

pub record Shown (R : Type 0) : Type 0 where
  -- the rule of the table, and the chains with which it started
  pub rule : R
  pub first : Chains
  pub number : ℕ
  pub alive : Bool
  -- the first so many entries of the journal
  pub seen : List Entry
  -- its own entries
  pub own : List Entry
  -- the chains that it holds, by rising numbers
  pub held : Numbered
  pub plan : Plan
  -- of each pass, whether this one knows that it is dead, and that nothing names it any more
  pub dead : List Bool
  pub freed : List Bool
  -- the pass in whose recovery it stopped
  pub recovering : Option ℕ
  pub looked : Looked
  -- how many chains it took, how many chains of dead passes it gave back, and all its steps on records
  pub taken : ℕ
  pub given_back : ℕ
  pub done : ℕ

abbrev pub knows_dead : {R : Type 0} → ℕ → Shown R → Bool
knows_dead n v = slice_index_or v.dead n false

abbrev pub knows_freed : {R : Type 0} → ℕ → Shown R → Bool
knows_freed n v = slice_index_or v.freed n false

-- what stands beside a number
abbrev pub look : {A : Type 0} → ℕ → List (ℕ × A) → maybe.Option A
look c [] = none
look c (x ∷ xs) = cond (eqb x.0 c) (some x.1) (look c xs)

abbrev pub or_else : {A : Type 0} → maybe.Option A → A → A
or_else none y = y
or_else (some x) y = x

-- what stands beside one number becomes y
abbrev pub hold : ℕ → Pairs → Numbered → Numbered
hold c y [] = []
hold c y (x ∷ xs) = cond (eqb x.0 c) ((x.0, y) ∷ xs) (x ∷ hold c y xs)

-- each number is at least n and below those after it
abbrev pub RisesFrom : {A : Type 0} → ℕ → List (ℕ × A) → Type 0
RisesFrom n [] = Unit {0}
RisesFrom n (x ∷ xs) = (n ≤ x.0) × RisesFrom (x.0 + 1) xs

-- each number is below n
abbrev pub AllBelow : {A : Type 0} → ℕ → List (ℕ × A) → Type 0
AllBelow n [] = Unit {0}
AllBelow n (x ∷ xs) = (x.0 < n) × AllBelow n xs

-- each number of the first list is one of the second
abbrev pub Within : {A B : Type 0} → List (ℕ × A) → List (ℕ × B) → Type 0
Within [] ys = Unit {0}
Within {B = B} (x ∷ xs) ys = ((y : B) × (look x.0 ys ≡ some y)) × Within xs ys

abbrev pub is_nothing : Plan → Bool
is_nothing Nothing = true
is_nothing _ = false

abbrev pub is_made : Plan → Bool
is_made (Made xs) = true
is_made _ = false

abbrev pub is_committed : Plan → Bool
is_committed (Committed xs) = true
is_committed _ = false

-- nothing is left to be stored
abbrev pub is_stored : Plan → Bool
is_stored Nothing = true
is_stored (Made xs) = false
is_stored (Committed []) = true
is_stored (Committed (x ∷ xs)) = false

-- what is planned, committed or not
abbrev pub planned : Plan → Numbered
planned Nothing = []
planned (Made xs) = xs
planned (Committed xs) = xs

-- what is committed and still to be stored
abbrev pub due : Plan → Numbered
due Nothing = []
due (Made xs) = []
due (Committed xs) = xs

-- a plan whose chains are stored is over when no chain is held
abbrev pub left_over : Numbered → Plan → Plan
left_over [] (Committed []) = Nothing
left_over held plan = plan

-- what a journal makes of the chains with which the table started
abbrev pub replay : {R : Type 0} → (R → Chains → Entry → Chains) → Shown R → List Entry → Chains
replay step v journal = fold (step v.rule) v.first journal

-- each held chain is its part of the replay
abbrev pub IsPart : Numbered → Chains → Type 0
IsPart held k = (c : ℕ) (y : Pairs) → look c held ≡ some y → get_elem? k c ≡ some y
