-- What reading an input to its end has taken, and what it may answer.
use Rattle.std.specs.Prelude.{◌≡◌, ℕ, ◌+◌, ◌<◌, ◌≤◌, Option, None, Some, List, [], length}
use Rattle.std.specs.Io.KnownBytes.{Consumes}
use Rattle.sid_core.specs.declared.limits.TheConstants.{MAX_SCRIPT}
use Rattle.opendb_run.specs.declared.input.InputError.{InputError}
use Rattle.opendb_run.specs.declared.input.InputError.TheVariants.{TooLarge, ReadFault, OutOfMemory}

-- the bytes are all that the source told, and none is left
abbrev pub TakesAll : Option (List ℕ) → Option (List ℕ) → List ℕ → Type 0
TakesAll None new bytes = Unit {0}
TakesAll (Some all) new bytes = (bytes ≡ all) × (new ≡ Some [])

-- how many bytes were taken before this error: one beyond the limit, or no more than the limit
abbrev pub TakenBefore : InputError → ℕ → Type 0
TakenBefore TooLarge count = count ≡ MAX_SCRIPT + 1
TakenBefore ReadFault count = count ≤ MAX_SCRIPT
TakenBefore OutOfMemory count = count ≤ MAX_SCRIPT

-- the source lost its first bytes, as many as are taken before this error
abbrev pub TakesBefore : Option (List ℕ) → Option (List ℕ) → InputError → Type 0
TakesBefore old new error = (bytes : List ℕ) × Consumes old new bytes × TakenBefore error (length bytes)

-- why an input of these bytes may be refused where no read fails
abbrev pub Refuses : InputError → List ℕ → Type 0
Refuses TooLarge all = MAX_SCRIPT < length all
Refuses ReadFault all = ⊥
Refuses OutOfMemory all = Unit {0}
