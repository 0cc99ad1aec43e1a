use Rattle.serial_table.proofs.Bounds.{legal_is_bounded}
use Rattle.serial_table.proofs.sound.legal_histories_are_bounded.Goals as goal

pub returns : goal.returns
returns c = legal_is_bounded
