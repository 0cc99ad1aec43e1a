use Rattle.serial_table.proofs.SettledSound.{settled-sound}
use Rattle.serial_table.proofs.sound.settled_is_sound.Goals as goal

pub returns : goal.returns
returns c = settled-sound
