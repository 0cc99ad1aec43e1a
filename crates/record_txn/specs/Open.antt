-- A transaction that can go on.
use Rattle.std.specs.Prelude.{◌≡◌, ℕ, ◌*◌, ◌<◌, ◌≤◌, false, List, length, Option}
use Rattle.sid_core.specs.declared.entry.Entry.{Entry}
use Rattle.sid_core.specs.declared.outside.Point.{Point}
use Rattle.turn_types.specs.Journal.{Chains}
use Rattle.turn_types.specs.Shown.{Shown, Nothing, IsPart, RisesFrom, replay}
use Rattle.turn_types.specs.Calls.{Able, Lawfully}
use Rattle.record_txn.specs.Hand.{IsHandOf}
use Rattle.record_txn.specs.Holding.{is_take}
use Rattle.record_txn.specs.declared.hand.Held.{Held}

module _ {R : Type 0} (step : R → Chains → Entry → Chains) (legal : R → Chains → Entry → Type 0) (follows : R → List Entry → Entry → Type 0) (buries : R → Entry → Option ℕ) where
  -- Cells are quiet, and have as many chains as the databases. What is in hand is what the pass holds.
  pub record IsOpen (is_quiet : Type 0) (count chains : ℕ) (stop : Option Point) (in_hand : List Held) (v : Shown R) : Type 0 where
    pub able : Able v
    pub unplanned : v.plan ≡ Nothing
    pub quiet : is_quiet
    pub databases : (1 ≤ chains) × (chains ≤ 64) × (count ≡ 7 * chains)
    pub hand : IsHandOf in_hand v.held
    pub rising : RisesFrom 0 v.held
    -- what is held are parts of what the journal makes, as far as it was seen, and its law holds
    pub parts : IsPart v.held (replay step v v.seen)
    pub law : 0 < length v.held → Lawfully step legal follows buries v
    -- a pass that dies at its first chain holds none
    pub before_first : 0 < length v.held → is_take stop ≡ false
