-- What it means that an entry goes by the chains of its footprint alone.
use Rattle.std.specs.Prelude.{◌≡◌, ◌≤◌, ℕ, List, [], ◌∷◌, ◌++◌}
use Rattle.std.specs.List.{AllByRecursion}
use Rattle.sid_core.specs.declared.entry.Entry.{Entry}
use Rattle.sid_core.specs.declared.setup.Setup.{Setup}
use Rattle.sid_core.specs.Setup.{IsSetup}
use Rattle.serial_table.specs.View.{view}
use Rattle.serial_table.specs.History.{after, IsLegal, IsLegalEntry}
use Rattle.stored_table.specs.Places.{Chains, chain_at}
use Rattle.stored_table.specs.Footprint.{footprint}
use Rattle.stored_table.specs.Histories.{moved_by}
use Rattle.stored_table.specs.Move.{move}
use Rattle.stored_table.specs.Stands.{StandsFor}

-- The chains of the entry's footprint are the same in both.
abbrev pub AgreeOnFootprint : Setup → ℕ → Chains → Chains → Entry → Type 0
AgreeOnFootprint setup n k j e = AllByRecursion (λ c. chain_at k c ≡ chain_at j c) (footprint setup n k e)

-- Of chains that stand for the table behind a legal history, and others that stand for that behind another, and agree with them on the
-- entry's footprint: where the entry is legal at the one table, it is legal at the other.
abbrev pub IsLegalByFootprint : Setup → ℕ → Entry → Type 0
IsLegalByFootprint setup n e =
    (k j : Chains) (before other : List Entry) → IsSetup setup → IsLegal setup before → IsLegal setup other
    → StandsFor setup n k (view (after setup before)) → StandsFor setup n j (view (after setup other)) → AgreeOnFootprint setup n k j e
    → IsLegalEntry setup (after setup before) e → IsLegalEntry setup (after setup other) e

-- Of the chains that a legal history makes of the first ones, and of those that another makes: where they agree on the footprint of an entry
-- that is legal behind both, what the entry makes of the ones and of the others is the same at each chain of the footprint.
abbrev pub IsWrittenByFootprint : Setup → ℕ → Entry → Type 0
IsWrittenByFootprint setup n e =
    (before other : List Entry) → IsSetup setup → 1 ≤ n → IsLegal setup (before ++ e ∷ []) → IsLegal setup (other ++ e ∷ [])
    → AgreeOnFootprint setup n (moved_by setup n before) (moved_by setup n other) e
    → AllByRecursion
    (λ c. chain_at (move setup n (moved_by setup n before) e (view (after setup (before ++ e ∷ [])))) c ≡ chain_at (move setup n (moved_by setup n other) e (view (after setup (other ++ e ∷ [])))) c)
    (footprint setup n (moved_by setup n before) e)
