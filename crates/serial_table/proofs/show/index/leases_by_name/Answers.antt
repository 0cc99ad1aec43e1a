use Rattle.serial_table.proofs.Keeping.{finds_lease}
use Rattle.serial_table.proofs.show.index.leases_by_name.Goals as goal

pub loop-lease-preserved : goal.loop-lease-preserved
loop-lease-preserved c =
    finds_lease c.loop-lease.map c.keep_first.new.map c.args.leases.now c.loop-lease.lease-index _ c.key_of_name.result c.loop-lease-test.true c.in_ok-keep_first.ensures c.key_of_name.ensures c.loop-lease.invariant
