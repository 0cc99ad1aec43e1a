use Rattle.std.proofs.Common.{◌≡◌, ◌++◌, filter, take}
use Rattle.serial_table.specs.View.{has_name}
use Rattle.serial_table.proofs.expire.push_named.Given as goal

abbrev pub invariant-loop-lease : goal.invariant-loop-lease
invariant-loop-lease l = l.rows.items ≡ l.initial.rows.items ++ filter (has_name l.name) (take l.lease-index l.leases)
