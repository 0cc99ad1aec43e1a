use Rattle.serial_table.proofs.Views.{view-perform, view-perform_all}
use Rattle.serial_table.proofs.laws.changes_go_by_key.Goals as goal

pub returns : goal.returns
returns c = record { one = view-perform; all = view-perform_all }
