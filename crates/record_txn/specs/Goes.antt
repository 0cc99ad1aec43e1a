-- What no call of a transaction changes.
use Rattle.std.specs.Prelude.{◌≡◌, ℕ, Option}
use Rattle.turn_types.specs.Shown.{Shown}
use Rattle.turn_types.specs.Beside.{Beside, WhereTold, Leaves}

-- The meanings of cells, and cells before and after.
module _ {S R : Type 0} (bond_of : S → ℕ × ℕ) (chains_of : S → ℕ) (quiet_of : S → Type 0) (shown_of : S → Shown R) (beside_of : S → Option (Beside R)) where
  pub record Goes (s t : S) : Type 0 where
    pub bond : bond_of t ≡ bond_of s
    pub chains : chains_of t ≡ chains_of s
    pub number : (shown_of t).number ≡ (shown_of s).number
    -- cells that were quiet are quiet
    pub quiet : quiet_of s → quiet_of t
    -- where other passes are told, they show what they showed, and the journal gained what this pass's own entries gained
    pub beside : WhereTold (Leaves (shown_of s) (shown_of t)) (beside_of s) (beside_of t)
