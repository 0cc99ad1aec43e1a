-- What a pass knows, between two calls, of all that stands beside it.
use Rattle.std.specs.Prelude.{◌≡◌, ℕ, true, List}
use Rattle.sid_core.specs.declared.entry.Entry.{Entry}
use Rattle.turn_types.specs.Journal.{Chains, Legal, of_pass}
use Rattle.turn_types.specs.Shown.{Shown, Nothing, IsPart, replay}
use Rattle.turn_types.specs.Calls.{Prefix}
use Rattle.turn_types.specs.Beside.{Beside}

-- The journal is legal from first chains, begins with what the pass has seen, and its entries of the pass are the pass's own.
-- Of a living pass that plans nothing, what is held are parts of what the journal makes.
module _ {R : Type 0} (first : R → Chains → Type 0) (step : R → Chains → Entry → Chains) (legal : R → Chains → Entry → Type 0) (follows : R → List Entry → Entry → Type 0) where
  pub record Told (v : Shown R) (b : Beside R) : Type 0 where
    pub began : first v.rule v.first
    pub is_legal : Legal (step v.rule) (legal v.rule) (follows v.rule) v.first b.journal
    pub seen : Prefix v.seen b.journal
    pub own : of_pass v.number b.journal ≡ v.own
    pub held : v.alive ≡ true → v.plan ≡ Nothing → IsPart v.held (replay step v b.journal)
