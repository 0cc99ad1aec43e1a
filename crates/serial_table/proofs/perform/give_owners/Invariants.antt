use Rattle.std.proofs.Common.{◌≡◌, ◌++◌, map, take, drop}
use Rattle.serial_table.specs.Change.{new_owner}
use Rattle.serial_table.proofs.perform.give_owners.Given as goal

abbrev pub invariant-loop-row : goal.invariant-loop-row
invariant-loop-row l = l.row-items ≡ map (new_owner l.file l.id l.owner l.handle) (take l.row-index l.initial.row-items) ++ drop l.row-index l.initial.row-items
