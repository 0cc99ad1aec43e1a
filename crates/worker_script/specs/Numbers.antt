-- The code's own: the numbers that are kept of a worker or a file line.
use Rattle.std.specs.Prelude.{ℕ, List}
use Rattle.worker_script.specs.declared.file.FileNumbers.{FileNumbers}
use Rattle.worker_script.specs.declared.worker.WorkerNumbers.{WorkerNumbers}
use Rattle.worker_script.specs.Text.{token}
use Rattle.worker_script.specs.Values.{value}

abbrev pub worker_numbers : List (List ℕ) → WorkerNumbers
worker_numbers ts = record { worker = value (token 1 ts); pid = value (token 2 ts); uid = value (token 3 ts); guid = value (token 4 ts) }

abbrev pub file_numbers : List (List ℕ) → FileNumbers
file_numbers ts = record { file = value (token 1 ts); dev = value (token 2 ts); inode = value (token 3 ts) }
