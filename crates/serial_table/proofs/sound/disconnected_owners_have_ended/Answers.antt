use Rattle.serial_table.proofs.EndedOwners.{disconnected_ended}
use Rattle.serial_table.proofs.sound.disconnected_owners_have_ended.Goals as goal

pub returns : goal.returns
returns c = disconnected_ended
