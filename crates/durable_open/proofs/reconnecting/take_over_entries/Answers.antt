use Rattle.serial_table.proofs.Rewriting.{map_next}
use Rattle.durable_open.specs.Taking.{is_taken, taken_over}
use Rattle.durable_open.proofs.Loops.{found_next, handed}
use Rattle.durable_open.proofs.reconnecting.take_over_entries.Goals as goal

pub loop-entry-preserved : goal.loop-entry-preserved
loop-entry-preserved c =
    let w = c.args.wanted in
    let p = is_taken w.register.now w.lease.now w.name w.file w.moment w.id in (
      map_next (taken_over p c.args.owner c.args.handle) _ _ _ _ _ c.loop-entry-test.true c.loop-entry.invariant.0
          (handed p c.args.owner c.args.handle _ _ _ c.handed_over.ensures c.is_taken-taken.ensures),
      found_next p (taken_over p c.args.owner c.args.handle) _ _ _ _ _ _ _ c.loop-entry-test.true c.loop-entry.invariant.0 c.loop-entry.invariant.1 c.is_taken-taken.ensures c.either-found.ensures,
    )
