use Rattle.stored_table.proofs.Keeping.{well_formed-move}
use Rattle.stored_table.proofs.Whole.{records_moved}
use Rattle.stored_table.proofs.laws.records_follow.Goals as goal

pub returns : goal.returns
returns c = record { formed = well_formed-move; moved = records_moved }
