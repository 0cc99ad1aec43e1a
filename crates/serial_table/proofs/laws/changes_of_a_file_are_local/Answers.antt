use Rattle.serial_table.proofs.Files.{file_view-perform, file_view-perform_all}
use Rattle.serial_table.proofs.laws.changes_of_a_file_are_local.Goals as goal

pub returns : goal.returns
returns c = record { one = file_view-perform; all = file_view-perform_all }
