-- Why a text isn't read.
use Rattle.std.specs.Prelude.{◌≡◌, ℕ, Result, Err}
use Rattle.worker_script.specs.declared.error.Parse.{Parse}
use Rattle.worker_script.specs.declared.error.Parse.TheVariants as errors
use Rattle.worker_script.specs.declared.fault.Fault.{Fault}
use Rattle.worker_script.specs.declared.fault.Fault.TheVariants.{Bad, NoMemory}
use Rattle.worker_script.specs.declared.script.Script.{Script}
use Rattle.worker_script.specs.Reading.{BadLine}

-- why nothing is read: the first bad line, or want of memory
abbrev pub IsBadOf : Result Script BadLine → Parse → Type 0
IsBadOf read (errors.Bad line reason) = read ≡ Err (record { line = line; reason = reason })
IsBadOf read errors.OutOfMemory = Unit {0}

-- a fault of the line with this number
abbrev pub at_line : ℕ → Fault → Parse
at_line line (Bad reason) = errors.Bad line reason
at_line line NoMemory = errors.OutOfMemory
