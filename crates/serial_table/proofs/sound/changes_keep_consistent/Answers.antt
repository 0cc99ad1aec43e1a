use Rattle.serial_table.proofs.Consistent.{consistent-perform, consistent-perform_all}
use Rattle.serial_table.proofs.sound.changes_keep_consistent.Goals as goal

pub returns-clause-one : goal.returns-clause-one
returns-clause-one c = consistent-perform

pub returns-clause-all : goal.returns-clause-all
returns-clause-all c = consistent-perform_all
