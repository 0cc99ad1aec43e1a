-- What is decided by hand of an entry.
use Rattle.std.specs.Prelude.{◌≡◌, ℕ, ◌*◌, ◌<◌, Bool, true, cond, List, length, Option, Some, None}
use Rattle.std.specs.Option.{is_some}
use Rattle.sid_core.specs.declared.entry.Entry.{Entry}
use Rattle.turn_types.specs.Journal.{Chains, RiseWithin, has}
use Rattle.turn_types.specs.Shown.{Shown, IsPart, replay}
use Rattle.turn_types.specs.Beside.{Beside}
use Rattle.stored_table.specs.Places.{chain_at}
use Rattle.record_txn.specs.Finishing.{next_entry}
use Rattle.chain_map.specs.Hash.{chain_number}
use Rattle.chain_map.specs.Pairs.{Pairs, find}
use Rattle.by_hand.specs.declared.change.Choice.{Choice}
use Rattle.by_hand.specs.declared.change.Decision.{Decision}
use Rattle.by_hand.specs.Steps.{AreHeld, parts, with_changes}
use Rattle.by_hand.specs.declared.change.Change.{Change}

-- the number of the chain that has the record to be fetched
abbrev pub asked_chain : ℕ → Decision → ℕ
asked_chain n x = chain_number x.db x.key.now n

-- whether a chain has the record
abbrev pub is_in : Decision → Pairs → Bool
is_in x chain = is_some (find x.key.now chain)

abbrev pub choice_of : Bool → Decision → Choice
choice_of there x = cond there x.found x.missing

-- what is decided where the chains are these
abbrev pub chosen : ℕ → Chains → Decision → Choice
chosen n k x = choice_of (is_in x (chain_at k (asked_chain n x))) x

module _ {R : Type 0} (step : R → Chains → Entry → Chains) (legal : R → Chains → Entry → Type 0) (follows : R → List Entry → Entry → Type 0) (buries : R → Entry → Option ℕ) (names : R → Chains → Entry → List ℕ) where
  -- The entry is legal on these chains and follows the earlier ones of its pass, all chains that it names are in the footprint, and its step makes
  -- of these what the changes make. It buries nobody. Each database has n chains.
  pub record IsDecided (n : ℕ) (rule : R) (k : Chains) (own : List Entry) (footprint : List ℕ) (changes : List Change) (e : Entry) : Type 0 where
    pub some_held : 0 < length footprint
    pub rise : RiseWithin 0 (7 * n) footprint
    pub is_legal : legal rule k e
    pub follows_own : follows rule own e
    pub named : (c : ℕ) → has c (names rule k e) ≡ true → has c footprint ≡ true
    pub changed : AreHeld n footprint changes
    pub makes : IsPart (with_changes n changes (parts footprint k)) (step rule k e)
    pub buries_none : buries rule e ≡ None

  -- The record that is fetched stands in one of the held chains, and the entry is decided for what is found there.
  pub record IsDecidedBy (n : ℕ) (v : Shown R) (k : Chains) (x : Decision) : Type 0 where
    pub asked : has (asked_chain n x) x.footprint.now ≡ true
    pub decided : IsDecided n v.rule k v.own x.footprint.now (chosen n k x).changes.now (next_entry v (chosen n k x).event)

  -- on what the journal makes, where it is told
  pub record IsDecidedBeside (n : ℕ) (v : Shown R) (beside : Option (Beside R)) (x : Decision) : Type 0 where
    pub b : Beside R
    pub told : beside ≡ Some b
    pub by : IsDecidedBy n v (replay step v b.journal) x
