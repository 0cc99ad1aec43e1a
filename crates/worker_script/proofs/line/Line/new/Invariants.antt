use Rattle.std.proofs.Common.{◌+◌, ◌≤◌, length}
use Rattle.worker_script.specs.Text.{tokens}
use Rattle.worker_script.proofs.Split.{Splitting}
use Rattle.worker_script.proofs.line.Line.new.Given as goal

abbrev pub invariant-loop-rest : goal.invariant-loop-rest
invariant-loop-rest l = record { within : l.count + length l.rest ≤ length l.text; split : Splitting (tokens l.text) (tokens l.rest) l.count l.first l.last }

abbrev pub decreases-loop-rest : goal.decreases-loop-rest
decreases-loop-rest l = length l.rest
