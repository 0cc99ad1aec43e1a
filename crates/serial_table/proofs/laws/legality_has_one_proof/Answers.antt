use Rattle.serial_table.proofs.OneProof.{legal_single}
use Rattle.serial_table.proofs.laws.legality_has_one_proof.Goals as goal

pub returns : goal.returns
returns c = legal_single
