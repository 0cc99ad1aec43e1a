-- What stands beside passes that carry out entries one after another.
use Rattle.std.specs.Prelude.{◌≡◌, ℕ, [], ◌∷◌, ◌++◌}
use mathlib.Core.Option.{some}
use lib.ListN.{get_elem?}
use Rattle.sid_core.specs.declared.entry.Entry.{Entry}
use Rattle.turn_types.specs.Journal.{Chains}
use Rattle.turn_types.specs.Shown.{Shown, Nothing}
use Rattle.turn_types.specs.Calls.{Able}
use Rattle.turn_types.specs.Beside.{Beside}

-- all passes live, and hold and plan nothing
pub record IsIdle {R : Type 0} (b : Beside R) : Type 0 where
  pub each : (n : ℕ) (v : Shown R) → get_elem? b.passes n ≡ some v → Able v × (v.held ≡ []) × (v.plan ≡ Nothing)

-- the pass is the same
pub record IsSame {R : Type 0} (v w : Shown R) : Type 0 where
  pub rule : w.rule ≡ v.rule
  pub number : w.number ≡ v.number

-- the journal gained the entry, which is the pass's own, and the chains are what its step makes of them
pub record IsCarriedOut {R : Type 0} (step : Chains → Entry → Chains) (v w : Shown R) (b d : Beside R) (e : Entry) : Type 0 where
  pub own : w.own ≡ v.own ++ e ∷ []
  pub journal : d.journal ≡ b.journal ++ e ∷ []
  pub chains : d.chains ≡ step b.chains e

-- the journal and the chains are as they were
pub record IsUndone {R : Type 0} (v w : Shown R) (b d : Beside R) : Type 0 where
  pub own : w.own ≡ v.own
  pub journal : d.journal ≡ b.journal
  pub chains : d.chains ≡ b.chains
