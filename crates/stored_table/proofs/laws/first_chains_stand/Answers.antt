use Rattle.stored_table.proofs.Starting.{first_chains_stand}
use Rattle.stored_table.proofs.laws.first_chains_stand.Goals as goal

pub returns : goal.returns
returns c = first_chains_stand
