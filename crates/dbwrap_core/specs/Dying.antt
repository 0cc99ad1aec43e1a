-- What is kept of a pass that dies.
use Rattle.std.specs.Prelude.{◌≡◌, ℕ}
use mathlib.Core.Option.{some}
use lib.ListN.{get_elem?}
use Rattle.turn_types.specs.declared.replay.Replay.{Ghosts}
use Rattle.dbwrap_core.specs.declared.plain.PlainCells.{PlainCells}
use Rattle.dbwrap_core.specs.declared.pass.PlainPass.{PlainPass}
use Rattle.dbwrap_core.specs.declared.pass.Death.{Death}

pub record IsDeathOf {R : Type 0} {g : Ghosts R} (cells : PlainCells R g) (n : ℕ) (d : Death) : Type 0 where
  pub chains : d.chains.value.items ≡ cells.chains.items
  pub words : d.words.value.items ≡ cells.words.items
  pub plan : (p : PlainPass) → get_elem? cells.passes.items n ≡ some p → (d.stage ≡ p.stage) × (d.new.value.items ≡ p.new.items)
