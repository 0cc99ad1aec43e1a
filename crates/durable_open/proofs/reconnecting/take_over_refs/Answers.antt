use Rattle.serial_table.proofs.Rewriting.{map_next}
use Rattle.durable_open.specs.Taking.{ref_taken_over}
use Rattle.durable_open.proofs.reconnecting.take_over_refs.Goals as goal

pub loop-reference-preserved : goal.loop-reference-preserved
loop-reference-preserved c = map_next (ref_taken_over c.args.id c.args.owner) _ _ _ _ _ c.loop-reference-test.true c.loop-reference.invariant c.ref_taken_over.ensures
