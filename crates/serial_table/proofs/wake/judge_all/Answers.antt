use Rattle.serial_table.specs.View.{view}
use Rattle.serial_table.specs.Wake.{frees}
use Rattle.serial_table.specs.InPlace.{table_of, judge_too}
use Rattle.serial_table.proofs.Rewriting.{map_next}
use Rattle.serial_table.proofs.wake.judge_all.Goals as goal

pub loop-candidate-preserved : goal.loop-candidate-preserved
loop-candidate-preserved c =
    map_next (judge_too (λ spot. frees c.args.change spot (view (table_of c.args.lists.now)))) _ _ _ _ _ c.loop-candidate-test.true c.loop-candidate.invariant c.judge.ensures
