use Rattle.std.proofs.Common.{◌≡◌}
use Rattle.serial_table.specs.Settle.{settle}
use Rattle.bench.proofs.tables.close_often.Given as goal

-- the table is settled
abbrev pub invariant-loop-handle : goal.invariant-loop-handle
invariant-loop-handle l = settle l.table ≡ l.table
