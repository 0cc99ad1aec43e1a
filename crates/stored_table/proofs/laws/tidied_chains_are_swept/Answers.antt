use Rattle.stored_table.proofs.Sweeping.{tidied_is_swept}
use Rattle.stored_table.proofs.laws.tidied_chains_are_swept.Goals as goal

pub returns : goal.returns
returns c = tidied_is_swept
