use Rattle.std.proofs.Common.{arith}
use Rattle.opendb_run.proofs.Appending.{Appends-next}
use Rattle.opendb_run.proofs.output.write_all.Goals as goal

pub loop-done-preserved : goal.loop-done-preserved
loop-done-preserved g c =
    record {
      in_range = omega (arith, c.in_ok-done.ensures.count);
      written = Appends-next _ _ _ _ _ _ c.loop-done.invariant.written c.in_ok-done.ensures.added;
      faults = omega (arith, c.in_ok-done.ensures.faults);
    }
