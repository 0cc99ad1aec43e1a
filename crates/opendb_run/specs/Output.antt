-- What a write that failed has left.
use Rattle.std.specs.Prelude.{ℕ, Option, List, take}
use Rattle.std.specs.Io.KnownBytes.{Appends}

-- the sink gained some of the first of these bytes, or none
abbrev pub AppendsPrefix : Option (List ℕ) → Option (List ℕ) → List ℕ → Type 0
AppendsPrefix old new bytes = (count : ℕ) × Appends old new (take count bytes)
