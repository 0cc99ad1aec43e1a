-- A source and a sink in memory, as contracts see them.
use Rattle.std.specs.Prelude.{ℕ, ◌+◌, ◌-◌, ◌^◌, min, List}

-- a count after one more, which stays at the last number that 64 bits hold
abbrev pub counted : ℕ → ℕ
counted count = min (count + 1) (2 ^ 64 - 1)

-- The bytes still to come, at most how many a read gives, and the numbers of the reads that fail;
-- how many reads there were, and how many failed.
pub record Incoming : Type 0 where
  pub rest : List ℕ
  pub most : ℕ
  pub failing : List ℕ
  pub reads : ℕ
  pub failed : ℕ

-- The bytes that were written, how many there is room for, at most how many a write takes, and the
-- numbers of the writes that fail; how many writes there were, and how many failed.
pub record Outgoing : Type 0 where
  pub bytes : List ℕ
  pub room : ℕ
  pub most : ℕ
  pub failing : List ℕ
  pub writes : ℕ
  pub failed : ℕ
