-- A chain as contracts see it: pairs of a key and a value, by rising keys.
use Rattle.std.specs.Prelude.{ℕ, not, IsTrue, List, Option}
use Rattle.std.specs.declared.cmp.Ordering.{Ordering}
use Rattle.std.specs.Ordering.{nat_cmp, eq_by_cmp}
use Rattle.std.specs.Cmp.Lexicographic.{slice_cmp}
use Rattle.std.specs.FinMap.Entries as sorted

-- a key, then its value
abbrev pub Pairs : Type 0
Pairs = List (List ℕ × List ℕ)

-- byte strings: the first byte that differs decides, and else the length
abbrev pub byte_order : List ℕ → List ℕ → Ordering
byte_order = slice_cmp nat_cmp

-- each key is below those after it
abbrev pub IsRising : Pairs → Type 0
IsRising pairs = IsTrue (sorted.is_sorted byte_order pairs)

-- the value of the pair with the key
abbrev pub find : List ℕ → Pairs → Option (List ℕ)
find key pairs = sorted.find byte_order key pairs

-- the pair in its place by its key, instead of the one that has the key
abbrev pub put : List ℕ → List ℕ → Pairs → Pairs
put key value pairs = sorted.put byte_order key value pairs

-- the pairs with other keys
abbrev pub without : List ℕ → Pairs → Pairs
without key pairs = sorted.where_key byte_order (λ other. not (eq_by_cmp byte_order key other)) pairs
