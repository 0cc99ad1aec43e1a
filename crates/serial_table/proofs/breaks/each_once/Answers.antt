use Rattle.serial_table.proofs.Broken.{once_more}
use Rattle.serial_table.proofs.breaks.each_once.Goals as goal

pub loop-name-preserved : goal.loop-name-preserved
loop-name-preserved c = once_more c.args.all.now _ _ _ c.loop-name.name-index _ c.loop-name-test.true c.in_ok-add_name.ensures c.loop-name.invariant
