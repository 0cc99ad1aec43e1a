-- How the pairs of a chain are kept in leaves.
use Rattle.std.specs.Prelude.{ℕ, zero, suc, ◌+◌, slice_set, slice_index_or, Bool, true, false, ◌&&◌, IsTrue, List, [], ◌∷◌, ◌++◌, Option, Some, None}
use Rattle.std.specs.Ordering.{is_le, is_gt}
use Rattle.std.specs.List.{insert}
use Rattle.std.specs.FinMap.Entries.{below_all}
use Rattle.chain_map.specs.Pairs.{Pairs, byte_order}
use Rattle.chain_map.specs.Place.{IsAt}

-- the leaves' pairs, one leaf after another
abbrev pub joined : List Pairs → Pairs
joined [] = []
joined (leaf ∷ leaves) = leaf ++ joined leaves

abbrev pub has_pairs : Pairs → Bool
has_pairs [] = false
has_pairs (pair ∷ pairs) = true

-- no leaf is empty
abbrev pub IsFilled : List Pairs → Type 0
IsFilled [] = Unit {0}
IsFilled (leaf ∷ leaves) = IsTrue (has_pairs leaf) × IsFilled leaves

-- one leaf, and maybe another behind it
abbrev pub both : Pairs → Option Pairs → Pairs
both left None = left
both left (Some right) = left ++ right

abbrev pub both_have_pairs : Pairs → Option Pairs → Bool
both_have_pairs left None = has_pairs left
both_have_pairs left (Some right) = has_pairs left && has_pairs right

-- the first key is the given one or less
abbrev pub starts_by : List ℕ → Pairs → Bool
starts_by key [] = false
starts_by key (pair ∷ pairs) = is_le (byte_order pair.0 key)

-- each key is less than the given one
abbrev pub above_all : List ℕ → Pairs → Bool
above_all key [] = true
above_all key (pair ∷ pairs) = is_gt (byte_order key pair.0) && above_all key pairs

-- the leaves before this place have smaller keys only, and those behind it greater ones
abbrev pub IsHome : List ℕ → List Pairs → ℕ → Type 0
IsHome key [] place = ⊥
IsHome key (leaf ∷ leaves) zero = IsTrue (below_all byte_order key (joined leaves))
IsHome key (leaf ∷ leaves) (suc place) = IsTrue (above_all key leaf) × IsHome key leaves place

-- the leaves, with others for the one at this place
abbrev pub spliced : List Pairs → ℕ → Pairs → Option Pairs → List Pairs
spliced leaves place left None = slice_set leaves place left
spliced leaves place left (Some right) = slice_set (insert leaves (place + 1) right) place left

-- the key's pair is at this place of this leaf
abbrev pub IsSpot : List ℕ → List Pairs → ℕ → ℕ → Type 0
IsSpot key leaves leaf place = IsHome key leaves leaf × IsAt key (slice_index_or leaves leaf []) place
