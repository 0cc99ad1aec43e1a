use Rattle.serial_table.specs.Expire.{expires}
use Rattle.serial_table.specs.InPlace.{table_of}
use Rattle.serial_table.proofs.Woken.{performed_of}
use Rattle.serial_table.proofs.lists.Lists.expire_each.Goals as goal

pub loop-lease-preserved : goal.loop-lease-preserved
loop-lease-preserved c =
    performed_of expires c.args.leases.now c.loop-lease.lease-index _ (table_of c.args.self.now) (table_of c.loop-lease.self) (table_of c.expire_one.new.self) c.loop-lease-test.true c.loop-lease.invariant c.expire_one.ensures
