-- The chains that a transaction has in hand.
use Rattle.std.specs.Prelude.{◌≡◌, ℕ, suc, true, false, cond, eqb, List, [], ◌∷◌}
use Rattle.chain_map.specs.Pairs.{Pairs}
use Rattle.turn_types.specs.Shown.{Numbered, look, or_else}
use Rattle.record_txn.specs.declared.hand.Held.{Held}

-- by their numbers
abbrev pub chains_of : List Held → Numbered
chains_of [] = []
chains_of (h ∷ hand) = (h.number, h.chain) ∷ chains_of hand

-- those that were changed
abbrev pub changes_of : List Held → Numbered
changes_of [] = []
changes_of (h ∷ hand) = cond h.is_changed ((h.number, h.chain) ∷ changes_of hand) (changes_of hand)

-- a chain that is there
abbrev pub chain_in : ℕ → Numbered → Pairs
chain_in c xs = or_else (look c xs) []

-- how many stand before the one of this number
abbrev pub place_of : ℕ → List Held → ℕ
place_of c [] = 0
place_of c (h ∷ hand) = cond (eqb h.number c) 0 (suc (place_of c hand))

-- the chain of this number becomes y
abbrev pub with_change : ℕ → Pairs → List Held → List Held
with_change c y [] = []
with_change c y (h ∷ hand) = cond (eqb h.number c) (record h { chain = y; is_changed = true } ∷ hand) (h ∷ with_change c y hand)

-- the same chains are in hand and held by the pass, and what is in hand and unchanged is what is held
abbrev pub IsHandOf : List Held → Numbered → Type 0
IsHandOf [] [] = Unit {0}
IsHandOf [] (x ∷ held) = ⊥
IsHandOf (h ∷ hand) [] = ⊥
IsHandOf (h ∷ hand) (x ∷ held) = (h.number ≡ x.0) × (h.is_changed ≡ false → h.chain ≡ x.1) × IsHandOf hand held
