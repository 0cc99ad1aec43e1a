-- For the code: the tables' texts of what is looked up.
use Rattle.std.specs.Prelude.{ℕ, List, [], ◌∷◌, Option, Some, None}
use Rattle.std.specs.Option.{option_map_or}
use Rattle.serial_table.specs.declared.rows.LeaseRow.{LeaseRow}
use Rattle.serial_table.specs.declared.show.writers.Owner.{Owner}
use Rattle.serial_table.specs.Tables.{owner_text, lease_column}

-- the column of an open's lease, if the file has it
abbrev pub lease_text : Option LeaseRow → List ℕ
lease_text None = lease_column []
lease_text (Some lease) = lease_column (lease ∷ [])

-- the column of an owner's pid, if the open is there
abbrev pub pid_of_owner : Option Owner → List ℕ
pid_of_owner owner = option_map_or (λ (o : Owner). owner_text o.connected o.pid) owner []
