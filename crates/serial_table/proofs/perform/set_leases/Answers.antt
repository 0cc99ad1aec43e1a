use Rattle.serial_table.specs.Change.{set_lease}
use Rattle.serial_table.proofs.Rewriting.{map_next}
use Rattle.serial_table.proofs.perform.set_leases.Goals as goal

pub loop-lease-preserved : goal.loop-lease-preserved
loop-lease-preserved c = map_next (set_lease c.args.file c.args.name c.args.held c.args.breaking) _ _ _ _ _ c.loop-lease-test.true c.loop-lease.invariant c.set_lease.ensures
