-- The sets in which values lie, in scripts, tables and records alike.
use Rattle.std.specs.Prelude.{◌≡◌, ℕ, Bool, not, ◌==◌, ◌<◌, ◌≤◌, ◌^◌, IsTrue, List, [], ◌∷◌, length}
use Rattle.std.specs.List.{AllByRecursion, list_any}
use Rattle.std.specs.Int.RustNames.{bit_and}
use Rattle.sid_core.specs.declared.call.Span.{Span}
use Rattle.sid_core.specs.declared.limits.TheConstants.{ACCESS_MASK, MAX_MOMENT, MAX_TEXT}

-- a number of 32 bits, and one of 64
abbrev pub IsU32 : ℕ → Type 0
IsU32 n = n < 2 ^ 32

abbrev pub IsU64 : ℕ → Type 0
IsU64 n = n < 2 ^ 64

-- one of the wanted bits, at least
abbrev pub has : ℕ → ℕ → Bool
has bits wanted = not (bit_and bits wanted == 0)

-- no bit outside the whole
abbrev pub is_part_of : ℕ → ℕ → Bool
is_part_of part whole = bit_and part whole == part

-- Access rights: one at least, and none outside the fourteen that have names.
pub record IsAccess (bits : ℕ) : Type 0 where
  pub some : 0 < bits
  pub known : bit_and bits ACCESS_MASK ≡ bits

-- any of the three share bits
abbrev pub IsShare : ℕ → Type 0
IsShare bits = bits < 8

-- none, R, RH, RW or RWH
abbrev pub is_state : ℕ → Bool
is_state bits = list_any (λ state. state == bits) (0 ∷ 1 ∷ 3 ∷ 5 ∷ 7 ∷ [])

abbrev pub IsState : ℕ → Type 0
IsState bits = IsTrue (is_state bits)

abbrev pub IsMoment : ℕ → Type 0
IsMoment seconds = seconds ≤ MAX_MOMENT

abbrev pub IsSpan : Span → Type 0
IsSpan span = IsU64 span.start × IsU64 span.length

-- a printable byte other than the space
abbrev pub IsPrintable : ℕ → Type 0
IsPrintable byte = (0x21 ≤ byte) × (byte ≤ 0x7E)

pub record IsText (bytes : List ℕ) : Type 0 where
  pub some : 1 ≤ length bytes
  pub short : length bytes ≤ MAX_TEXT
  pub printable : AllByRecursion IsPrintable bytes
