use Rattle.std.proofs.Common.{◌≡◌, ◌++◌, map, take, drop}
use Rattle.serial_table.specs.Change.{set_lease}
use Rattle.serial_table.proofs.perform.set_leases.Given as goal

abbrev pub invariant-loop-lease : goal.invariant-loop-lease
invariant-loop-lease l = l.lease-items ≡ map (set_lease l.file l.name l.held l.breaking) (take l.lease-index l.initial.lease-items) ++ drop l.lease-index l.initial.lease-items
