-- Codecs: how values are spelled in bytes, and which fault bytes have that spell none.
use Rattle.std.specs.Prelude.{◌≡◌, ℕ, zero, suc, ◌^◌, ◌<◌, ◌≤◌, nat_lt, Bool, false, ◌==◌, IsTrue, ◌⊎◌, List, [], ◌∷◌, ◌++◌, length, take, drop, Result, Ok, Err, if◌then◌else◌}
use Rattle.std.specs.List.{flat_map, AllByRecursion}
use Rattle.byteorder.specs.Endian.{little_bytes, little_number}
use Rattle.record_codec.specs.declared.fault.Unpack.{Unpack}
use Rattle.record_codec.specs.declared.fault.Unpack.TheVariants.{Short, Trailing}

-- How values of a type stand in bytes.
pub record Codec (A : Type 0) : Type 1 where
  -- the one spelling of a value
  pub spell : A → List ℕ
  -- the values that have a spelling
  pub valid : A → Type 0
  -- the first fault of bytes that don't begin with a spelling
  pub fault : List ℕ → Unpack → Type 0
  -- what reading gives: the value whose spelling the bytes begin with and what follows it, or the first fault
  pub read : List ℕ → Result (A × List ℕ) Unpack

infixl 10 ◌>>=◌
abbrev pub ◌>>=◌ : {A B : Type 0} → Result A Unpack → (A → Result B Unpack) → Result B Unpack
(Ok x) >>= f = f x
(Err e) >>= f = Err e

-- The bytes begin with a spelling, and of its value and the bytes after it the fact holds.
abbrev pub Follows : {A : Type 0} → Codec A → (A → List ℕ → Type 0) → List ℕ → Type 0
Follows {A = A} c fact bytes = (x : A) × (rest : List ℕ) × c.valid x × (bytes ≡ c.spell x ++ rest) × fact x rest

-- ---- numbers

-- so many bytes, and the number that they are, the lowest byte first
unfoldable pub raw : ℕ → List ℕ → Result (ℕ × List ℕ) Unpack
raw width bytes = if nat_lt (length bytes) width then Err Short else Ok (little_number width bytes, drop width bytes)

-- A number of so many bytes, the lowest first, which lies in a set.
abbrev pub number : ℕ → (ℕ → Bool) → Unpack → Codec ℕ
number width set outside = record {
  spell = λ n. little_bytes width n;
  valid = λ n. (n < 256 ^ width) × IsTrue (set n);
  fault = λ bytes e. ((length bytes < width) × (e ≡ Short))
      ⊎ ((width ≤ length bytes) × (set (little_number width bytes) ≡ false) × (e ≡ outside));
  read = λ bytes. raw width bytes >>= λ n. if set n.0 then Ok n else Err outside;
}

-- ---- bytes

unfoldable pub read_run : ℕ → (List ℕ → Bool) → Unpack → List ℕ → Result (List ℕ × List ℕ) Unpack
read_run len set outside bytes =
    if nat_lt (length bytes) len then Err Short else if set (take len bytes) then Ok (take len bytes, drop len bytes) else Err outside

-- So many bytes, which lie in a set.
abbrev pub run : ℕ → (List ℕ → Bool) → Unpack → Codec (List ℕ)
run len set outside = record {
  spell = λ text. text;
  valid = λ text. (length text ≡ len) × IsTrue (set text);
  fault = λ bytes e. ((length bytes < len) × (e ≡ Short))
      ⊎ ((len ≤ length bytes) × (set (take len bytes) ≡ false) × (e ≡ outside));
  read = read_run len set outside;
}

-- ---- one after the other

infixr 5 ◌⨾◌
-- One field and then others, whose sets may depend on its value.
abbrev pub ◌⨾◌ : {A B : Type 0} → Codec A → (A → Codec B) → Codec (A × B)
c ⨾ d = record {
  spell = λ p. c.spell p.0 ++ (d p.0).spell p.1;
  valid = λ p. c.valid p.0 × (d p.0).valid p.1;
  fault = λ bytes e. c.fault bytes e ⊎ Follows c (λ x rest. (d x).fault rest e) bytes;
  read = λ bytes. c.read bytes >>= λ x. (d x.0).read x.1 >>= λ y. Ok ((x.0, y.0), y.1);
}

-- A value that is always the same and has no bytes.
abbrev pub left_out : {A : Type 0} → A → Codec A
left_out x = record {
  spell = λ _. [];
  valid = λ y. y ≡ x;
  fault = λ bytes e. ⊥;
  read = λ bytes. Ok (x, bytes);
}

-- Fields as the parts of another value: how they make it, and which they are.
abbrev pub via : {A B : Type 0} → (A → B) → (B → A) → Codec A → Codec B
via make parts c = record {
  spell = λ y. c.spell (parts y);
  valid = λ y. c.valid (parts y);
  fault = λ bytes e. c.fault bytes e;
  read = λ bytes. c.read bytes >>= λ x. Ok (make x.0, x.1);
}

-- ---- so many items

abbrev pub times_fault : {A : Type 0} → Codec A → ℕ → List ℕ → Unpack → Type 0
times_fault item zero bytes e = ⊥
times_fault item (suc n) bytes e = item.fault bytes e ⊎ Follows item (λ _ rest. times_fault item n rest e) bytes

unfoldable pub times_read : {A : Type 0} → (List ℕ → Result (A × List ℕ) Unpack) → ℕ → List ℕ → Result (List A × List ℕ) Unpack
times_read read zero bytes = Ok ([], bytes)
times_read read (suc n) bytes = read bytes >>= λ x. times_read read n x.1 >>= λ xs. Ok (x.0 ∷ xs.0, xs.1)

-- So many items, one after the other.
abbrev pub times : {A : Type 0} → Codec A → ℕ → Codec (List A)
times item n = record {
  spell = flat_map item.spell;
  valid = λ xs. (length xs ≡ n) × AllByRecursion item.valid xs;
  fault = times_fault item n;
  read = times_read item.read n;
}

-- ---- all of the bytes

-- The bytes, all of them, spell the value.
pub record Spells {A : Type 0} (c : Codec A) (x : A) (bytes : List ℕ) : Type 0 where
  pub valid : c.valid x
  pub bytes_are : bytes ≡ c.spell x

-- What is wrong with bytes that spell no value, at the first place where something is.
abbrev pub FirstFault : {A : Type 0} → Codec A → List ℕ → Unpack → Type 0
FirstFault c bytes e = c.fault bytes e ⊎ Follows c (λ _ rest. (0 < length rest) × (e ≡ Trailing)) bytes

unfoldable pub read_all : {A : Type 0} → Codec A → List ℕ → Result A Unpack
read_all c bytes = c.read bytes >>= λ x. if length x.1 == 0 then Ok x.0 else Err Trailing
