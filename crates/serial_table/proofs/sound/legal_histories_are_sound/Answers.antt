use Rattle.serial_table.proofs.Soundness.{legal_is_sound}
use Rattle.serial_table.proofs.sound.legal_histories_are_sound.Goals as goal

pub returns : goal.returns
returns c = legal_is_sound
