use Rattle.std.proofs.Common.{◌≡◌, ◌++◌, map, take}
use Rattle.serial_table.specs.Scavenge.{goes}
use Rattle.serial_table.proofs.scavenge.push_changes.Given as goal

abbrev pub invariant-loop-row : goal.invariant-loop-row
invariant-loop-row l = l.changes.items ≡ l.initial.changes.items ++ map goes (take l.row-index l.expired)
