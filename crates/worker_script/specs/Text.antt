-- The lines of a script, and the tokens of a line.
use Rattle.std.specs.Prelude.{ℕ, ◌+◌, ◌-◌, Bool, true, false, not, ◌==◌, ◌&&◌, nat_le, if◌then◌else◌, List, [], ◌∷◌, filter}
use Rattle.std.specs.List.{onto_first}

-- The parts that end with a separator. The last one may lack it.
abbrev pub parts : ℕ → List ℕ → List (List ℕ)
parts separator [] = []
parts separator (b ∷ bytes) =
    if b == separator then [] ∷ parts separator bytes else onto_first b (parts separator bytes)

-- how many bytes stand before the first separator
abbrev pub before : ℕ → List ℕ → ℕ
before separator [] = 0
before separator (b ∷ bytes) = if b == separator then 0 else before separator bytes + 1

abbrev pub lines : List ℕ → List (List ℕ)
lines bytes = parts 0x0A bytes

abbrev pub is_empty : List ℕ → Bool
is_empty [] = true
is_empty (b ∷ bytes) = false

-- the longest runs of bytes other than the space
unfoldable pub tokens : List ℕ → List (List ℕ)
tokens line = filter (λ part. not (is_empty part)) (parts 0x20 line)

-- the token with this index, counted from 0, or nothing
abbrev pub token : ℕ → List (List ℕ) → List ℕ
token index [] = []
token index (first ∷ others) = if index == 0 then first else token (index - 1) others

-- a byte that a line may have
abbrev pub is_plain : ℕ → Bool
is_plain byte = nat_le 0x20 byte && nat_le byte 0x7E

-- A line is skipped where it has no token, or where its first one begins with `#`.
abbrev pub is_skipped : List ℕ → Bool
is_skipped [] = true
is_skipped (b ∷ bytes) = b == 35
