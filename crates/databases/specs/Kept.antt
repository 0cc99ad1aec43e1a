-- What is kept of the databases when all passes are done.
use Rattle.std.specs.Prelude.{ℕ, List, []}
use Rattle.sid_core.specs.declared.entry.Entry.{Entry}
use Rattle.turn_types.specs.Journal.{Chains}

pub record Kept : Type 0 where
  -- how many chains each database has
  pub chains : ℕ
  pub all : Chains
  pub journal : List Entry

abbrev pub nothing : Kept
nothing = record { chains = 0; all = []; journal = [] }
