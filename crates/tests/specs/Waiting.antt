-- Cells of two chains, in which the passes from a number on have done nothing yet.
use Rattle.std.specs.Prelude.{◌≡◌, ℕ, ◌<◌, ◌≤◌, [], length}
use mathlib.Core.Option.{some}
use lib.ListN.{get_elem?}
use Rattle.turn_types.specs.Shown.{Shown, Nothing}
use Rattle.turn_types.specs.Calls.{Able}
use Rattle.turn_types.specs.Beside.{Beside}

pub record Waits {R : Type 0} (n : ℕ) (v : Shown R) : Type 0 where
  pub number : v.number ≡ n
  pub able : Able v
  pub own : v.own ≡ []
  pub held : v.held ≡ []
  pub plan : v.plan ≡ Nothing
  pub dead : length v.dead ≡ 6

pub record Waiting {R : Type 0} (from : ℕ) (b : Beside R) : Type 0 where
  pub chains : length b.chains ≡ 2
  pub many : length b.passes ≡ 6
  pub each : (n : ℕ) → from ≤ n → n < 6 → (v : Shown R) × (get_elem? b.passes n ≡ some v) × Waits n v
