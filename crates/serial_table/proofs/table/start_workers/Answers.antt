use Rattle.std.proofs.Common.{arith}
use Rattle.serial_table.proofs.StartRows.{start_workers_push}
use Rattle.serial_table.proofs.table.start_workers.Goals as goal

pub loop-info-preserved : goal.loop-info-preserved
loop-info-preserved c = (
  omega arith,
  start_workers_push c.args.workers.now c.loop-info.info-index c.info-item.result c.loop-info.rows.items c.push.new.self.items c.loop-info.number
      c.loop-info-test.true c.info-item.is c.loop-info.invariant.0 c.loop-info.invariant.1 c.in_ok-push.ensures.items,
)
