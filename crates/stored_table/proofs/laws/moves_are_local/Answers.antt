use Rattle.stored_table.proofs.Locality.{moves_alike, others_stay}
use Rattle.stored_table.proofs.laws.moves_are_local.Goals as goal

pub returns : goal.returns
returns c = record { alike = moves_alike; others = others_stay }
