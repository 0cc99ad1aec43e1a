-- What is kept of cells that are closed.
use Rattle.std.specs.Prelude.{◌≡◌, ℕ}
use mathlib.Core.Option.{some}
use lib.ListN.{get_elem?}
use Rattle.sid_core.specs.declared.setup.Setup.{Setup}
use Rattle.serial_table.specs.History.{after, IsLegal}
use Rattle.serial_table.specs.View.{view}
use Rattle.stored_table.specs.Histories.{moved_by}
use Rattle.stored_table.specs.Stands.{StandsFor}
use Rattle.turn_types.specs.Beside.{Beside}
use Rattle.turn_types.specs.Calls.{Prefix}
use Rattle.turn_types.specs.Journal.{of_pass}
use Rattle.turn_types.specs.Shown.{Shown}
use Rattle.databases.specs.declared.rule.BySetup.{BySetup}
use Rattle.databases.specs.Kept.{Kept}

-- the chains and the journal of the cells
abbrev pub kept_of : {R : Type 0} → ℕ → Beside R → Kept
kept_of n b = record { chains = n; all = b.chains; journal = b.journal }

-- The journal is a legal history of the setup's table. The chains are what it makes of the first ones, and stand for the table after it.
pub record KeepsHistory (setup : Setup) (d : Kept) : Type 0 where
  pub legal : IsLegal setup d.journal
  pub made : d.all ≡ moved_by setup d.chains d.journal
  pub stands : StandsFor setup d.chains d.all (view (after setup d.journal))

-- So it is of the setup of the rule that each pass shows.
abbrev pub IsHistory : Beside BySetup → Kept → Type 0
IsHistory b d = (m : ℕ) (v : Shown BySetup) → get_elem? b.passes m ≡ some v → KeepsHistory v.rule.setup.now d

-- What each pass has seen is the beginning of the journal, whose entries of its number are the pass's own.
abbrev pub IsSeen : Beside BySetup → Kept → Type 0
IsSeen b d = (m : ℕ) (v : Shown BySetup) → get_elem? b.passes m ≡ some v → Prefix v.seen d.journal × (of_pass m d.journal ≡ v.own)
