use Rattle.serial_table.proofs.InSets.{in_sets-perform, in_sets-perform_all}
use Rattle.serial_table.proofs.sound.changes_stay_in_their_sets.Goals as goal

pub returns : goal.returns
returns c = record { one = in_sets-perform; all = in_sets-perform_all }
