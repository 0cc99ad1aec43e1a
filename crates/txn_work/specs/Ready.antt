-- Cells that are ready for one more transaction.
use Rattle.std.specs.Prelude.{◌≡◌, ℕ, ◌<◌, length}
use Rattle.turn_types.specs.Shown.{Shown}
use Rattle.turn_types.specs.Beside.{Beside}
use Rattle.by_hand.specs.Idle.{IsIdle}
use Rattle.txn_work.specs.declared.rule.Stamping.{Stamping}

-- The rule stamps c chains, the pass has made so many entries, and there are 56 chains.
pub record IsReady (c made : ℕ) (b : Beside Stamping) (v : Shown Stamping) : Type 0 where
  pub rule : v.rule.count ≡ c
  pub own : length v.own ≡ made
  pub chains : length b.chains ≡ 56
  pub passes : 0 < length b.passes
  pub idle : IsIdle b
