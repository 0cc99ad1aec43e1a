-- What the steps of an entry by hand make of what its pass shows.
use Rattle.std.specs.Prelude.{◌≡◌, ℕ, true, List, [], ◌∷◌, ◌++◌, map, Option}
use Rattle.std.specs.List.{AllByRecursion}
use Rattle.std.specs.Option.{option_copied}
use Rattle.sid_core.specs.declared.entry.Entry.{Entry}
use Rattle.chain_map.specs.Hash.{chain_number}
use Rattle.chain_map.specs.declared.db.Db.{Db}
use Rattle.turn_types.specs.Journal.{Chains, has}
use Rattle.turn_types.specs.Shown.{Shown, Numbered, Nothing, hold}
use Rattle.turn_types.specs.Calls.{Able}
use Rattle.stored_table.specs.Places.{chain_at, with_value}
use Rattle.record_txn.specs.Hand.{chain_in}
use Rattle.by_hand.specs.declared.change.Change.{Change}

abbrev pub numbers : Numbered → List ℕ
numbers held = map (λ x. x.0) held

-- these chains, with their numbers
abbrev pub parts : List ℕ → Chains → Numbered
parts cs k = map (λ c. (c, chain_at k c)) cs

-- a change, wherever its bytes are lent from
abbrev pub Plain : Type 0
Plain = Db × List ℕ × Option (List ℕ)

abbrev pub plain : Change → Plain
plain x = (x.db, x.key.now, option_copied x.value)

-- ---- what is changed, where each database has so many chains

abbrev pub chain_of : ℕ → Change → ℕ
chain_of n x = chain_number x.db x.key.now n

abbrev pub with_change : ℕ → Change → Numbered → Numbered
with_change n x held = hold (chain_of n x) (with_value x.key.now (option_copied x.value) (chain_in (chain_of n x) held)) held

abbrev pub with_changes : ℕ → List Change → Numbered → Numbered
with_changes n [] held = held
with_changes n (x ∷ xs) held = with_changes n xs (with_change n x held)

abbrev pub IsHeld : ℕ → List ℕ → Change → Type 0
IsHeld n held x = has (chain_of n x) held ≡ true

abbrev pub AreHeld : ℕ → List ℕ → List Change → Type 0
AreHeld n held xs = AllByRecursion (IsHeld n held) xs

-- ---- what the pass shows

module _ {R : Type 0} (v w : Shown R) where
  -- no step changes its rule, and its own entries gain these
  pub record IsSamePass (gained : List Entry) : Type 0 where
    pub rule : w.rule ≡ v.rule
    pub first : w.first ≡ v.first
    pub number : w.number ≡ v.number
    pub own : w.own ≡ v.own ++ gained

  -- these chains are held, as they are in hand
  pub record HasTaken (cs : List ℕ) (hand : Numbered) : Type 0 where
    pub same : IsSamePass []
    pub held : w.held ≡ hand
    pub numbered : numbers hand ≡ cs

  -- nothing is held or planned
  pub record HasLeft (gained : List Entry) : Type 0 where
    pub same : IsSamePass gained
    pub able : Able w
    pub held : w.held ≡ []
    pub plan : w.plan ≡ Nothing
