-- What legal journals of the rule make of first chains: what a legal history makes of them.
use Rattle.std.specs.Prelude.{◌≡◌, ℕ, ◌≤◌, false, List, length}
use lib.ListN.{get_elem?}
use Rattle.sid_core.specs.declared.entry.Entry.{Entry}
use Rattle.sid_core.specs.declared.setup.Setup.{Setup}
use Rattle.sid_core.specs.Setup.{IsSetup}
use Rattle.sid_core.specs.Counting.{RisesAbove}
use Rattle.serial_table.specs.History.{start, after, AreLegal, IsLegal, numbers_of}
use Rattle.serial_table.specs.View.{view}
use Rattle.stored_table.specs.Histories.{moved_by}
use Rattle.stored_table.specs.Places.{Chains}
use Rattle.stored_table.specs.Stands.{StandsFor}
use Rattle.turn_types.specs.Journal.{Legal, Reached, ReachedBefore, RiseWithin, has}
use Rattle.records_replay.specs.Rule.{per_database, IsFirst, step, IsLegalStep, names, Follows}

-- a journal that is legal from these chains, each entry following the earlier ones of its pass
abbrev pub IsJournal : Setup → Chains → List Entry → Type 0
IsJournal setup k journal = Legal (step setup) (IsLegalStep setup) Follows k journal

-- Some legal journal makes them of first chains.
abbrev pub IsReached : Setup → Chains → Type 0
IsReached setup k = Reached (step setup) (IsLegalStep setup) Follows (IsFirst setup) k

-- Some legal journal makes them in which the entry follows the earlier ones of its pass.
abbrev pub IsReachedBefore : Setup → Entry → Chains → Type 0
IsReachedBefore setup e k = ReachedBefore (step setup) (IsLegalStep setup) Follows (IsFirst setup) e k

-- The chains are what a legal history makes, and stand for the table behind it.
pub record IsBehind (setup : Setup) (k : Chains) : Type 0 where
  pub declared : IsSetup setup
  pub some : 1 ≤ per_database k
  pub history : List Entry
  pub legal : IsLegal setup history
  pub made : k ≡ moved_by setup (per_database k) history
  pub stands : StandsFor setup (per_database k) k (view (after setup history))

-- The journal is a legal history of the table, but for what `seq` its entries have, which the rule doesn't judge. The chains are what it makes
-- of the first ones, and stand for the table after it.
pub record IsOfTheTable (setup : Setup) (n : ℕ) (journal : List Entry) (k : Chains) : Type 0 where
  pub legal : AreLegal setup (start setup) journal
  pub rising : (by : ℕ) → RisesAbove 0 (numbers_of by journal)
  pub made : k ≡ moved_by setup n journal
  pub stands : StandsFor setup n k (view (after setup journal))

-- An entry names the same of chains that agree on what it names, and is legal on the one where it is on the other.
pub record NamesAlike (setup : Setup) (k l : Chains) (e : Entry) : Type 0 where
  pub names : names setup l e ≡ names setup k e
  pub legal : IsLegalStep setup k e → IsLegalStep setup l e

-- A step keeps the number of chains, and changes those alone that the entry names, which rise.
pub record ChangesItsNames (setup : Setup) (k : Chains) (e : Entry) : Type 0 where
  pub as_many : length (step setup k e) ≡ length k
  pub others : (c : ℕ) → has c (names setup k e) ≡ false → get_elem? (step setup k e) c ≡ get_elem? k c
  pub rise : RiseWithin 0 (length k) (names setup k e)
