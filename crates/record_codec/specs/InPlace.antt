-- The items of a list, in the bytes in which they stand.
use Rattle.std.specs.Prelude.{ℕ, zero, suc, List, [], ◌∷◌, Result, Ok, Err}
use Rattle.record_codec.specs.declared.fault.Unpack.{Unpack}

abbrev pub first_of : {A : Type 0} → Result (A × List ℕ) Unpack → (List ℕ → List A) → List A
first_of (Ok x) others = x.0 ∷ others x.1
first_of (Err e) others = []

-- So many items, read one after the other, up to the first fault.
unfoldable pub items_in : {A : Type 0} → (List ℕ → Result (A × List ℕ) Unpack) → ℕ → List ℕ → List A
items_in read zero bytes = []
items_in read (suc n) bytes = first_of (read bytes) (items_in read n)
