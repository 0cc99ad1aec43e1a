use Rattle.std.proofs.Common.{◌≡◌, filter, take}
use Rattle.serial_table.specs.View.{view}
use Rattle.serial_table.specs.Durable.{is_expired}
use Rattle.serial_table.proofs.scavenge.expired_opens.Given as goal

abbrev pub invariant-loop-row : goal.invariant-loop-row
invariant-loop-row l = l.expired.items ≡ filter (is_expired (view l.table) l.now) (take l.row-index l.opens)
