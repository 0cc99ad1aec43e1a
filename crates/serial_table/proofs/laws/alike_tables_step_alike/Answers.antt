use Rattle.serial_table.proofs.Alike.{alike_after, alike_legal}
use Rattle.serial_table.proofs.laws.alike_tables_step_alike.Goals as goal

pub returns : goal.returns
returns c = record { shown = alike_after; legal = alike_legal }
