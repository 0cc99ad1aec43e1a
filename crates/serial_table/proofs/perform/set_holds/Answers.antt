use Rattle.serial_table.specs.Change.{set_hold}
use Rattle.serial_table.proofs.Rewriting.{map_next}
use Rattle.serial_table.proofs.perform.set_holds.Goals as goal

pub loop-hold-preserved : goal.loop-hold-preserved
loop-hold-preserved c = map_next (set_hold c.args.key c.args.owner c.args.mode) _ _ _ _ _ c.loop-hold-test.true c.loop-hold.invariant c.set_hold.ensures
