use Rattle.serial_table.specs.Change.{new_owner}
use Rattle.serial_table.proofs.Rewriting.{map_next}
use Rattle.serial_table.proofs.perform.give_owners.Goals as goal

pub loop-row-preserved : goal.loop-row-preserved
loop-row-preserved c = map_next (new_owner c.args.file c.args.id c.args.owner c.args.handle) _ _ _ _ _ c.loop-row-test.true c.loop-row.invariant c.give_owner.ensures
