use Rattle.std.proofs.Common.{◌≡◌, drop}
use Rattle.serial_table.specs.InPlace.{file_of_changes}
use Rattle.serial_table.proofs.decide.file_of_changes.Given as goal

abbrev pub invariant-loop-change : goal.invariant-loop-change
invariant-loop-change l = record { left : file_of_changes (drop l.change-index l.changes) ≡ file_of_changes l.changes }
