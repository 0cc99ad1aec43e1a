-- How a chain keeps what it has taken out of leaves that others share: a word for each leaf, with a bit for each pair.
use Rattle.std.specs.Prelude.{ℕ, zero, suc, ◌==◌, Bool, true, cond, ◌&&◌, List, [], ◌∷◌}
use Rattle.std.specs.List.{remove}
use Rattle.std.specs.Int.{bit_at}
use Rattle.chain_map.specs.Pairs.{Pairs}

-- whether the bit of the pair at this place is set
abbrev pub is_gone : ℕ → ℕ → Bool
is_gone mark place = bit_at mark place == 1

-- the pairs whose bits aren't set, where the first one stands at this place
abbrev pub kept : ℕ → ℕ → Pairs → Pairs
kept mark place [] = []
kept mark place (pair ∷ pairs) = cond (is_gone mark place) (kept mark (suc place) pairs) (pair ∷ kept mark (suc place) pairs)

-- what each leaf keeps; one without a word keeps all
abbrev pub kept_each : List Pairs → List ℕ → List Pairs
kept_each [] marks = []
kept_each (leaf ∷ leaves) [] = leaf ∷ kept_each leaves []
kept_each (leaf ∷ leaves) (mark ∷ marks) = kept mark 0 leaf ∷ kept_each leaves marks

-- no bit is set
abbrev pub no_marks : List ℕ → Bool
no_marks [] = true
no_marks (mark ∷ marks) = (mark == 0) && no_marks marks

-- the words without the one at this place; one at least stays
abbrev pub marks_without : List ℕ → ℕ → List ℕ
marks_without [] place = []
marks_without (mark ∷ []) zero = 0 ∷ []
marks_without (mark ∷ (next ∷ marks)) zero = next ∷ marks
marks_without (mark ∷ marks) (suc place) = mark ∷ remove marks place
