use Rattle.std.proofs.Common.{take}
use Rattle.serial_table.specs.Keeping.{FindsLeases}
use Rattle.serial_table.proofs.show.index.leases_by_name.Given as goal

abbrev pub invariant-loop-lease : goal.invariant-loop-lease
invariant-loop-lease l = FindsLeases l.map (take l.lease-index l.leases)
