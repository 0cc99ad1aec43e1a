use Rattle.serial_table.proofs.Settled.{settle-settle}
use Rattle.serial_table.proofs.Settling.{settle_file-twice}
use Rattle.serial_table.proofs.laws.settled_stays_settled.Goals as goal

pub returns : goal.returns
returns c = record { table = settle-settle; file = settle_file-twice }
