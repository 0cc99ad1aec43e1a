use Rattle.serial_table.proofs.Settled.{settle_only, settled_by_files, files_settled}
use Rattle.serial_table.proofs.laws.settling_is_local.Goals as goal

pub returns : goal.returns
returns c = record { only_here = settle_only; by_files = settled_by_files; each_file = files_settled }
