-- How many bytes spellings have.
use Rattle.std.proofs.Common.{◌≡◌, ℕ, ◌*◌, ◌≤◌, List, [], ◌∷◌, Ok, length, ap, arith}
use Rattle.std.specs.List.{flat_map}
use Rattle.std.proofs.lemmas.List.{length-append}
use Rattle.std.proofs.lemmas.List.Concat.{flat_map-cons}
use Rattle.record_codec.specs.Codec.{Codec}
use Rattle.record_codec.specs.Laws.{AreBytes, IsExact}

pub items_size : {A : Type 0} (f : A → List ℕ) (k : ℕ) → ((x : A) → length (f x) ≡ k) → (xs : List A) → length (flat_map f xs) ≡ k * length xs
items_size f k each [] = omega arith
items_size f k each (x ∷ xs) =
    let rest : length (flat_map f xs) ≡ k * length xs = items_size f k each xs in
    rw (flat_map-cons f x xs) (grind (arith, length-append (f x) (flat_map f xs), each x, rest))

-- bytes of which a value is read are no fewer than those of its spelling
pub holds_all : {A : Type 0} (c : Codec A) (size : ℕ) → IsExact c → ((x : A) → length (c.spell x) ≡ size) → (bytes : List ℕ) (x : A × List ℕ) → AreBytes bytes → c.read bytes ≡ Ok x → size ≤ length bytes
holds_all c size exact sized bytes x fits given =
    let whole = ap (λ (l : List ℕ). length l) (exact.takes bytes x fits given).1 in
    omega (arith, whole, length-append (c.spell x.0) x.1, sized x.0)
