-- Changes, wherever their bytes are lent from.
use Rattle.std.specs.Prelude.{◌≡◌, ℕ, true, List, [], ◌∷◌, map}
use Rattle.std.specs.List.{AllByRecursion}
use Rattle.std.proofs.Common.{refl}
use Rattle.chain_map.specs.Hash.{chain_number}
use Rattle.turn_types.specs.Journal.{has}
use Rattle.turn_types.specs.Shown.{Numbered, hold}
use Rattle.stored_table.specs.Places.{with_value}
use Rattle.record_txn.specs.Hand.{chain_in}
use Rattle.by_hand.specs.Steps.{Plain, plain, with_change, with_changes, AreHeld}
use Rattle.by_hand.specs.declared.change.Change.{Change}

abbrev pub with_plain : ℕ → List Plain → Numbered → Numbered
with_plain n [] held = held
with_plain n (x ∷ xs) held = with_plain n xs (hold (chain_number x.0 x.1 n) (with_value x.1 x.2 (chain_in (chain_number x.0 x.1 n) held)) held)

pub plainly : (n : ℕ) (xs : List Change) (held : Numbered) → with_changes n xs held ≡ with_plain n (map plain xs) held
plainly n [] held = refl
plainly n (x ∷ xs) held = plainly n xs (with_change n x held)

pub held_plainly : (n : ℕ) (held : List ℕ) (xs : List Change) → AllByRecursion (λ w. has (chain_number w.0 w.1 n) held ≡ true) (map plain xs) → AreHeld n held xs
held_plainly n held [] h = tt
held_plainly n held (x ∷ xs) h = (h.0, held_plainly n held xs h.1)
