use Rattle.serial_table.proofs.Concluding.{concluded_is_settled}
use Rattle.serial_table.proofs.laws.concluded_tables_are_settled.Goals as goal

pub returns : goal.returns
returns c = concluded_is_settled
