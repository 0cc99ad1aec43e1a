-- Faults that are handed on.
use Rattle.std.proofs.Common.{◌≡◌, ◌⊎◌, inl, inr, Result, Err, refl}
use Rattle.record_codec.specs.declared.fault.Unpack.{Unpack}
use Rattle.record_codec.specs.declared.fault.Unpack.TheVariants.{Magic, Version, Short, Trailing, BadField, OutOfMemory}
use Rattle.record_codec.specs.Reads.{Fails}

pub fails_with : {A : Type 0} (e : Unpack) (read : Result A Unpack) → Fails e read → (e ≡ OutOfMemory) ⊎ (read ≡ Err e)
fails_with Magic read h = inr h
fails_with Version read h = inr h
fails_with Short read h = inr h
fails_with Trailing read h = inr h
fails_with (BadField n) read h = inr h
fails_with OutOfMemory read h = inl refl

pub fails : {A : Type 0} (e : Unpack) (read : Result A Unpack) → read ≡ Err e → Fails e read
fails Magic read h = h
fails Version read h = h
fails Short read h = h
fails Trailing read h = h
fails (BadField n) read h = h
fails OutOfMemory read h = tt

pub handed_on : {A B : Type 0} (e : Unpack) (part : Result A Unpack) (whole : Result B Unpack) → Fails e part → (part ≡ Err e → whole ≡ Err e) → Fails e whole
handed_on Magic part whole h on = on h
handed_on Version part whole h on = on h
handed_on Short part whole h on = on h
handed_on Trailing part whole h on = on h
handed_on (BadField n) part whole h on = on h
handed_on OutOfMemory part whole h on = tt
