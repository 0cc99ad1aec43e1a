use Rattle.serial_table.proofs.Entries.{call_is_new}
use Rattle.serial_table.proofs.sound.calls_have_new_numbers.Goals as goal

pub returns : goal.returns
returns c = call_is_new
