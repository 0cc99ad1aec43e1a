use Rattle.serial_table.proofs.Keeping.{finds_open}
use Rattle.serial_table.proofs.show.index.opens_by_id.Goals as goal

pub loop-row-preserved : goal.loop-row-preserved
loop-row-preserved c =
    finds_open c.loop-row.map c.keep_first.new.map c.args.opens.now c.loop-row.row-index _ c.key_of_id.result c.loop-row-test.true c.in_ok-keep_first.ensures c.key_of_id.ensures c.loop-row.invariant
