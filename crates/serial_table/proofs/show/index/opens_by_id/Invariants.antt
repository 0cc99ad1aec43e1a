use Rattle.std.proofs.Common.{take}
use Rattle.serial_table.specs.Keeping.{FindsOpens}
use Rattle.serial_table.proofs.show.index.opens_by_id.Given as goal

abbrev pub invariant-loop-row : goal.invariant-loop-row
invariant-loop-row l = FindsOpens l.map (take l.row-index l.opens)
