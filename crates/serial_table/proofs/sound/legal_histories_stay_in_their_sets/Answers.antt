use Rattle.serial_table.proofs.InSetsHistories.{legal_is_in_sets}
use Rattle.serial_table.proofs.sound.legal_histories_stay_in_their_sets.Goals as goal

pub returns : goal.returns
returns c = legal_is_in_sets
