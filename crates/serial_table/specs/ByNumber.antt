-- What the script declares, by its number.
use Rattle.std.specs.Prelude.{ℕ, zero, suc, List, Option, None, slice_get}

-- what is declared with a number, from 1
abbrev pub declared_at : {X : Type 0} → List X → ℕ → Option X
declared_at declared zero = None
declared_at declared (suc place) = slice_get declared place
