use Rattle.serial_table.proofs.Standing.{alive_calls}
use Rattle.serial_table.proofs.laws.the_living_call.Goals as goal

pub returns : goal.returns
returns c = alive_calls
