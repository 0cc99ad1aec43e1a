-- What a token spells.
use Rattle.std.specs.Prelude.{ℕ, ◌+◌, ◌-◌, ◌*◌, ◌^◌, Bool, ◌==◌, ◌&&◌, nat_le, nat_lt, if◌then◌else◌, List, [], ◌∷◌, length, Option, Some, None}
use Rattle.std.specs.List.{list_all}
use Rattle.std.specs.Int.RustNames.{bit_and}
use Rattle.sid_core.specs.declared.limits.TheConstants.{ACCESS_MASK, MAX_TEXT}

abbrev pub is_digit : ℕ → Bool
is_digit byte = nat_le 48 byte && nat_le byte 57

-- what the digits stand for behind those that stand for n
abbrev pub value_after : ℕ → List ℕ → ℕ
value_after n [] = n
value_after n (digit ∷ digits) = value_after (10 * n + (digit - 48)) digits

-- the number that decimal digits stand for
unfoldable pub value : List ℕ → ℕ
value digits = value_after 0 digits

-- 1 to 20 decimal digits
unfoldable pub is_numeral : List ℕ → Bool
is_numeral token = nat_le 1 (length token) && nat_le (length token) 20 && list_all is_digit token

-- 1 to 20 digits that stand for a number from low to high
unfoldable pub is_number : ℕ → ℕ → List ℕ → Bool
is_number low high token = is_numeral token && nat_le low (value token) && nat_le (value token) high

abbrev pub is_u32 : List ℕ → Bool
is_u32 token = is_number 0 (2 ^ 32 - 1) token

abbrev pub is_u64 : List ℕ → Bool
is_u64 token = is_number 0 (2 ^ 64 - 1) token

abbrev pub is_short : List ℕ → Bool
is_short text = nat_le (length text) MAX_TEXT

-- what a hexadecimal digit of either case stands for
abbrev pub hex_digit : ℕ → Option ℕ
hex_digit byte =
    if nat_le 48 byte && nat_le byte 57 then Some (byte - 48)
    else if nat_le 97 byte && nat_le byte 102 then Some (byte - 87)
    else if nat_le 65 byte && nat_le byte 70 then Some (byte - 55)
    else None

-- what hexadecimal digits stand for behind those that stand for n
abbrev pub hex_after : ℕ → List ℕ → Option ℕ
hex_after n [] = Some n
hex_after n (byte ∷ bytes) = elim (hex_digit byte) [ None ↦ None | Some digit ↦ hex_after (16 * n + digit) bytes ]

-- some of the fourteen access rights, and nothing else
abbrev pub known_access : Option ℕ → Option ℕ
known_access None = None
known_access (Some bits) = if nat_lt 0 bits && (bit_and bits ACCESS_MASK == bits) then Some bits else None

-- `0x` and 1 to 8 hexadecimal digits
unfoldable pub access : List ℕ → Option ℕ
access (first ∷ second ∷ digits) =
    if (first == 48) && (second == 120) && nat_le 1 (length digits) && nat_le (length digits) 8
    then known_access (hex_after 0 digits) else None
access (first ∷ []) = None
access [] = None
