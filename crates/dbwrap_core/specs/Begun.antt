-- Cells of which no pass has done anything.
use Rattle.std.specs.Prelude.{◌≡◌, ℕ, ◌<◌, false, [], length, replicate}
use mathlib.Core.Option.{some}
use lib.ListN.{get_elem?}
use Rattle.turn_types.specs.Journal.{Chains}
use Rattle.turn_types.specs.Beside.{Beside}
use Rattle.dbwrap_core.specs.Shows.{blank}

pub record Begun {R : Type 0} (rule : R) (first : Chains) (count : ℕ) (b : Beside R) : Type 0 where
  pub journal : b.journal ≡ []
  pub chains : b.chains ≡ first
  pub words : b.words ≡ replicate (length first) 0
  pub many : length b.passes ≡ count
  pub passes : (n : ℕ) → n < count → get_elem? b.passes n ≡ some (blank rule first n (replicate count false))
