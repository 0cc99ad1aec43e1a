-- Calls of a transaction, one after another.
use Rattle.std.proofs.Common.{◌≡◌, ℕ, refl, ◌∙◌, Option}
use Rattle.std.specs.Prelude.{IfSome}
use Rattle.turn_types.specs.Shown.{Shown}
use Rattle.turn_types.specs.Beside.{Beside, WhereTold, Leaves, Tells}
use Rattle.turn_types.proofs.Rows.{nothing, together}
use Rattle.record_txn.specs.Goes.{Goes}

module _ {S R : Type 0} (bond_of : S → ℕ × ℕ) (chains_of : S → ℕ) (quiet_of : S → Type 0) (shown_of : S → Shown R) (beside_of : S → Option (Beside R)) where
  abbrev Go : S → S → Type 0
  Go = Goes bond_of chains_of quiet_of shown_of beside_of

  -- no call changes nothing
  pub stays : (s : S) → IfSome (beside_of s) (Tells (shown_of s)) → Go s s
  stays s told = record { bond = refl; chains = refl; number = refl; quiet = λ q. q; beside = nothing (shown_of s) (beside_of s) told }

  -- nor do two that change nothing each
  pub goes_on : (s t u : S) → Go s t → Go t u → Go s u
  goes_on s t u g h = record {
    bond = h.bond ∙ g.bond;
    chains = h.chains ∙ g.chains;
    number = h.number ∙ g.number;
    quiet = λ q. h.quiet (g.quiet q);
    beside = together (shown_of s) (shown_of t) (shown_of u) (beside_of s) (beside_of t) (beside_of u) g.number g.beside h.beside;
  }

  -- what each call of the cells promises
  pub by_call : (s t : S) → (bond_of t ≡ bond_of s) × (chains_of t ≡ chains_of s) → (quiet_of s → quiet_of t) → WhereTold (Leaves (shown_of s) (shown_of t)) (beside_of s) (beside_of t) → (shown_of t).number ≡ (shown_of s).number → Go s t
  by_call s t b q l n = record { bond = b.0; chains = b.1; number = n; quiet = q; beside = l }

  -- and then one more call
  pub goes_by : (s t u : S) → Go s t → (bond_of u ≡ bond_of t) × (chains_of u ≡ chains_of t) → (quiet_of t → quiet_of u) → WhereTold (Leaves (shown_of t) (shown_of u)) (beside_of t) (beside_of u) → (shown_of u).number ≡ (shown_of t).number → Go s u
  goes_by s t u g b q l n = goes_on s t u g (by_call t u b q l n)
