use Rattle.std.proofs.Common.{◌≡◌, ◌+◌, take}
use Rattle.serial_table.specs.History.{start_workers}
use Rattle.serial_table.proofs.table.start_workers.Given as goal

-- the rows so far are those of the workers so far
abbrev pub invariant-loop-info : goal.invariant-loop-info
invariant-loop-info l = (l.number ≡ l.info-index + 1) × (l.rows.items ≡ start_workers 1 (take l.info-index l.workers))
