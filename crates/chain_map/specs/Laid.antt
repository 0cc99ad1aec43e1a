-- Pairs that were put over others.
use Rattle.std.specs.Prelude.{◌≡◌, ℕ, List, [], ◌∷◌, Option, Some, None}
use Rattle.std.specs.declared.sync.Arc.{Arc}
use Rattle.std.specs.Arc.{arc_value}
use Rattle.chain_map.specs.Pairs.{Pairs, put}
use Rattle.chain_map.specs.Leaves.{joined}
use Rattle.chain_map.specs.Marks.{kept_each}

abbrev pub laid : Pairs → Pairs → Pairs
laid [] base = base
laid (pair ∷ over) base = put pair.0 pair.1 (laid over base)

-- the leaves of a chain that may have none
abbrev pub leaves_of : {A : Type 0} → Option (Arc (List Pairs) A) → List Pairs
leaves_of None = []
leaves_of (Some arc) = arc_value arc

-- what a chain has: what its leaves keep, and what is put over it
abbrev pub shown : List Pairs → List ℕ → Pairs → Pairs
shown leaves marks over = laid over (joined (kept_each leaves marks))

-- pairs of which the first may have been read ahead
abbrev pub ahead : Option (List ℕ × List ℕ) → Pairs → Pairs
ahead None rest = rest
ahead (Some pair) rest = pair ∷ rest

-- where none was, there are no more
abbrev pub IsAhead : Option (List ℕ × List ℕ) → Pairs → Type 0
IsAhead None rest = rest ≡ []
IsAhead (Some pair) rest = Unit {0}
