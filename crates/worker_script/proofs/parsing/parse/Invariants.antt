use Rattle.std.proofs.Common.{◌≡◌, ◌≤◌, ◌+◌, length}
use Rattle.worker_script.specs.Text.{lines}
use Rattle.worker_script.specs.Reader.{draft_of, IsReader}
use Rattle.worker_script.specs.Reading.{script, script_from}
use Rattle.worker_script.proofs.parsing.parse.Given as goal

abbrev pub invariant-loop-rest : goal.invariant-loop-rest
invariant-loop-rest l = record {
  reader : IsReader l.reader;
  number : l.number + length l.rest ≤ length l.bytes + 1;
  answer : script_from l.number (draft_of l.reader) (lines l.rest) ≡ script l.bytes;
}

abbrev pub decreases-loop-rest : goal.decreases-loop-rest
decreases-loop-rest l = length l.rest
