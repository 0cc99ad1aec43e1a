-- How records are stored: their header, and the fields of their version.
use Rattle.std.specs.Prelude.{ℕ, List}
use Rattle.byteorder.specs.Endian.{little_number}
use Rattle.record_codec.specs.declared.fault.Unpack.TheVariants.{Magic, Version}
use Rattle.record_codec.specs.Codec.{Codec, number, ◌⨾◌, via}
use Rattle.record_codec.specs.Fields.{only, within}

-- The magic, and one of the versions that are read.
abbrev pub header : List ℕ → ℕ → ℕ → Codec (ℕ × ℕ)
header magic oldest newest = number 4 (only (little_number 4 magic)) Magic ⨾ λ _. number 2 (within oldest newest) Version

-- A version of a record and its value: the header, and that version's fields, from the third on.
abbrev pub stored : {A : Type 0} → List ℕ → ℕ → ℕ → (ℕ → Codec A) → Codec (ℕ × A)
stored magic oldest newest fields =
    via (λ p. (p.0.1, p.1)) (λ r. ((little_number 4 magic, r.0), r.1)) (header magic oldest newest ⨾ λ h. fields h.1)
