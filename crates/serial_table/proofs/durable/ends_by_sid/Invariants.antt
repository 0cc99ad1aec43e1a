use Rattle.std.proofs.Common.{take}
use Rattle.serial_table.specs.Keeping.{FindsEnds}
use Rattle.serial_table.proofs.durable.ends_by_sid.Given as goal

abbrev pub invariant-loop-row : goal.invariant-loop-row
invariant-loop-row l = FindsEnds l.ends (take l.row-index l.ended)
