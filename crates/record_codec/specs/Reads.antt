-- What a function of the code returns, compared with what reading by a codec gives.
use Rattle.std.specs.Prelude.{◌≡◌, ℕ, ◌⊎◌, List, Result, Ok, Err, MatchResult}
use Rattle.record_codec.specs.declared.fault.Unpack.{Unpack}
use Rattle.record_codec.specs.declared.fault.Unpack.TheVariants.{Magic, Version, Short, Trailing, BadField, OutOfMemory}
use Rattle.record_codec.specs.Codec.{Codec, Spells, FirstFault}

-- What was returned, seen by view, is what reading gives.
abbrev pub Gives : {X Y : Type 0} → (X → Y) → Result X Unpack → Result Y Unpack → Type 0
Gives view (Ok x) read = read ≡ Ok (view x)
Gives view (Err e) read = read ≡ Err e

-- Reading fails with that fault, or memory ran out.
abbrev pub Fails : {Y : Type 0} → Unpack → Result Y Unpack → Type 0
Fails OutOfMemory read = Unit {0}
Fails Magic read = read ≡ Err Magic
Fails Version read = read ≡ Err Version
Fails Short read = read ≡ Err Short
Fails Trailing read = read ≡ Err Trailing
Fails (BadField n) read = read ≡ Err (BadField n)

-- It is what reading gives, or memory ran out.
abbrev pub GivesOrMemory : {X Y : Type 0} → (X → Y) → Result X Unpack → Result Y Unpack → Type 0
GivesOrMemory view (Ok x) read = read ≡ Ok (view x)
GivesOrMemory view (Err e) read = Fails e read

-- A version of the record and the value are spelled by the bytes.
abbrev pub SpellsSome : {A : Type 0} → Codec (ℕ × A) → A → List ℕ → Type 0
SpellsSome c x bytes = (version : ℕ) × Spells c (version, x) bytes

-- The error is the first fault of the bytes, or memory ran out.
abbrev pub Explains : {A : Type 0} → Codec A → List ℕ → Unpack → Type 0
Explains c bytes e = (e ≡ OutOfMemory) ⊎ FirstFault c bytes e

-- It is that value, or memory ran out.
abbrev pub IsOkOrMemory : {A : Type 0} → A → Result A Unpack → Type 0
IsOkOrMemory x result = MatchResult result (λ y. y ≡ x) (λ e. e ≡ OutOfMemory)

-- It is that fault, or memory ran out.
abbrev pub IsErrOrMemory : {A : Type 0} → Unpack → Result A Unpack → Type 0
IsErrOrMemory fault result = MatchResult result (λ y. ⊥) (λ e. (e ≡ fault) ⊎ (e ≡ OutOfMemory))
