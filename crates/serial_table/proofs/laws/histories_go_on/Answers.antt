use Rattle.serial_table.proofs.Alike.{after_all-append, legal_goes_on}
use Rattle.serial_table.proofs.laws.histories_go_on.Goals as goal

pub returns : goal.returns
returns c = record { table = after_all-append; legal = legal_goes_on }
