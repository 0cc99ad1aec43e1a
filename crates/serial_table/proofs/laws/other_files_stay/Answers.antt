use Rattle.serial_table.proofs.Apart.{file_view-beside_all, other_still_settled}
use Rattle.serial_table.proofs.laws.other_files_stay.Goals as goal

pub returns : goal.returns
returns c = record { shown = file_view-beside_all; settled = other_still_settled }
