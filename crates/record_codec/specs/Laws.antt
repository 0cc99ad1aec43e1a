-- What each record's codec is: a grammar with one spelling for each value, and one value or one fault for all bytes,
-- and a reader that answers exactly that value or that fault. And what each field's and each item's codec is, which reads
-- the front of the bytes.
use Rattle.std.specs.Prelude.{◌≡◌, ℕ, ◌<◌, ◌⊎◌, List, ◌++◌, Ok, Err, slice_index}
use Rattle.record_codec.specs.declared.fault.Unpack.{Unpack}
use Rattle.record_codec.specs.Codec.{Codec, Spells, FirstFault, read_all}

-- each is a byte
abbrev pub AreBytes : List ℕ → Type 0
AreBytes bytes = (i : ℕ) → slice_index bytes i < 256

pub record IsExact {A : Type 0} (c : Codec A) : Type 0 where
  -- A value that is read lies in its sets, and the bytes begin with its spelling.
  pub takes : (bytes : List ℕ) (x : A × List ℕ) → AreBytes bytes → c.read bytes ≡ Ok x → c.valid x.0 × (bytes ≡ c.spell x.0 ++ x.1)
  -- What begins with a value's spelling is read as that value.
  pub again : (x : A) (rest : List ℕ) → c.valid x → c.read (c.spell x ++ rest) ≡ Ok (x, rest)
  -- A fault that the reader answers is the first fault.
  pub fails : (bytes : List ℕ) (e : Unpack) → AreBytes bytes → c.read bytes ≡ Err e → c.fault bytes e
  -- The reader answers the first fault.
  pub faulty : (bytes : List ℕ) (e : Unpack) → c.fault bytes e → c.read bytes ≡ Err e

pub record IsGrammar {A : Type 0} (c : Codec A) : Type 0 where
  -- A value in its sets is spelled by its spelling, so what is packed is unpacked to the same value.
  pub back : (x : A) → c.valid x → Spells c x (c.spell x)
  -- A value has one spelling.
  pub one_spelling : (x : A) (bytes others : List ℕ) → Spells c x bytes → Spells c x others → bytes ≡ others
  -- Bytes spell one value at most.
  pub one_value : (x y : A) (bytes : List ℕ) → Spells c x bytes → Spells c y bytes → x ≡ y
  -- Bytes that spell a value have no fault.
  pub no_fault : (x : A) (bytes : List ℕ) (e : Unpack) → Spells c x bytes → FirstFault c bytes e → ⊥
  -- Bytes have one first fault at most.
  pub one_fault : (bytes : List ℕ) (e f : Unpack) → FirstFault c bytes e → FirstFault c bytes f → e ≡ f
  -- All bytes spell a value or have a fault.
  pub either : (bytes : List ℕ) → AreBytes bytes → ((x : A) × Spells c x bytes) ⊎ ((e : Unpack) × FirstFault c bytes e)
  -- The reader answers the value of a spelling.
  pub value_is_read : (x : A) (bytes : List ℕ) → Spells c x bytes → read_all c bytes ≡ Ok x
  -- What the reader answers is spelled by the bytes.
  pub read_is_spelled : (x : A) (bytes : List ℕ) → AreBytes bytes → read_all c bytes ≡ Ok x → Spells c x bytes
  -- The reader answers the first fault.
  pub fault_is_read : (bytes : List ℕ) (e : Unpack) → FirstFault c bytes e → read_all c bytes ≡ Err e
  -- A fault that the reader answers is the first fault.
  pub read_is_fault : (bytes : List ℕ) (e : Unpack) → AreBytes bytes → read_all c bytes ≡ Err e → FirstFault c bytes e
