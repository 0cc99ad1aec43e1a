use Rattle.serial_table.proofs.Alike.{share_conflict-swap}
use Rattle.serial_table.proofs.laws.sharing_is_symmetric.Goals as goal

pub returns : goal.returns
returns c = share_conflict-swap
