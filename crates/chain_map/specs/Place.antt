-- Where a key stands in a chain, or would stand.
use Rattle.std.specs.Prelude.{◌≡◌, ℕ, suc, zero, IsTrue, List, [], ◌∷◌, slice_index_or}
use Rattle.std.specs.declared.cmp.Ordering.TheVariants.{Equal, Greater}
use Rattle.std.specs.FinMap.Entries.{below_all}
use Rattle.chain_map.specs.Pairs.{Pairs, byte_order}

-- the pair at this place has the key, and those before it have smaller ones
abbrev pub IsAt : List ℕ → Pairs → ℕ → Type 0
IsAt key [] place = ⊥
IsAt key (pair ∷ pairs) zero = byte_order key pair.0 ≡ Equal
IsAt key (pair ∷ pairs) (suc place) = (byte_order key pair.0 ≡ Greater) × IsAt key pairs place

-- smaller keys stand before this place, and greater ones from it on
abbrev pub IsGap : List ℕ → Pairs → ℕ → Type 0
IsGap key pairs zero = IsTrue (below_all byte_order key pairs)
IsGap key [] (suc place) = ⊥
IsGap key (pair ∷ pairs) (suc place) = (byte_order key pair.0 ≡ Greater) × IsGap key pairs place

-- the pair at this place
abbrev pub pair_at : Pairs → ℕ → List ℕ × List ℕ
pair_at pairs place = slice_index_or pairs place ([], [])
