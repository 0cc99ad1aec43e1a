use Rattle.serial_table.specs.InPlace.{in_scope, lives_by, lease_ends_break}
use Rattle.serial_table.proofs.Rewriting.{map_next}
use Rattle.serial_table.proofs.settle.settle_leases.Goals as goal

pub loop-lease-preserved : goal.loop-lease-preserved
loop-lease-preserved c =
    map_next (lease_ends_break (in_scope c.args.scope) c.args.opens.now (lives_by c.args.workers.now)) _ _ _ _ _ c.loop-lease-test.true c.loop-lease.invariant c.settle_lease.ensures
