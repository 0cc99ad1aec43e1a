use Rattle.serial_table.proofs.Keeping.{finds_end}
use Rattle.serial_table.proofs.durable.ends_by_sid.Goals as goal

pub loop-row-preserved : goal.loop-row-preserved
loop-row-preserved c =
    finds_end c.loop-row.ends c.keep_end.new.ends c.args.ended.now c.loop-row.row-index _ c.key_of_sid.result c.loop-row-test.true c.in_ok-keep_end.ensures c.key_of_sid.ensures c.loop-row.invariant
