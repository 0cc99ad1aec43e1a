use Rattle.brlock.proofs.Finding.{ids_are_valid}
use Rattle.brlock.proofs.laws.valid_entries_give_the_ids.Goals as goal

pub returns : goal.returns
returns c = ids_are_valid
