use Rattle.std.proofs.Common.{◌≡◌, ◌++◌, map, take, drop}
use Rattle.serial_table.specs.View.{view}
use Rattle.serial_table.specs.Wake.{frees}
use Rattle.serial_table.specs.InPlace.{table_of, judge_too}
use Rattle.serial_table.proofs.wake.judge_all.Given as goal

abbrev pub invariant-loop-candidate : goal.invariant-loop-candidate
invariant-loop-candidate l =
    l.candidate-items ≡ map (judge_too (λ spot. frees l.change spot (view (table_of l.lists)))) (take l.candidate-index l.initial.candidate-items) ++ drop l.candidate-index l.initial.candidate-items
