-- The four clauses of unpacking, of every record that is a grammar.
use Rattle.std.proofs.Common.{◌≡◌, ℕ, ◌⊎◌, inl, inr, List, Ok, ap}
use Rattle.record_codec.specs.declared.fault.Unpack.{Unpack}
use Rattle.record_codec.specs.declared.fault.Unpack.TheVariants.{OutOfMemory}
use Rattle.record_codec.specs.Codec.{Codec, FirstFault, read_all}
use Rattle.record_codec.specs.Reads.{Fails, SpellsSome, Explains}
use Rattle.record_codec.specs.Laws.{AreBytes, IsGrammar}
use Rattle.record_codec.proofs.Faults.{fails_with}

-- a value that was read

pub found : {A : Type 0} (c : Codec (ℕ × A)) → IsGrammar c → (bytes : List ℕ) (x : ℕ × A) → AreBytes bytes → read_all c bytes ≡ Ok x → SpellsSome c x.1 bytes
found c grammar bytes x fits given = (x.0, grammar.read_is_spelled x bytes fits given)

pub is_it : {A : Type 0} (c : Codec (ℕ × A)) → IsGrammar c → (bytes : List ℕ) (x : ℕ × A) → read_all c bytes ≡ Ok x → (y : A) → SpellsSome c y bytes → x.1 ≡ y
is_it {A = A} c grammar bytes x given y s =
    let e = grammar.value_is_read (s.0, y) bytes s.1 in
    let same : x ≡ (s.0, y) = cc in
    ap (λ (p : ℕ × A). p.1) same

pub has_no_fault : {A : Type 0} (c : Codec (ℕ × A)) → IsGrammar c → (bytes : List ℕ) (x : ℕ × A) → read_all c bytes ≡ Ok x → (e : Unpack) → FirstFault c bytes e → ⊥
has_no_fault c grammar bytes x given e f =
    let g = grammar.fault_is_read bytes e f in absurd cc

-- a fault

pub no_value : {A : Type 0} (c : Codec (ℕ × A)) → IsGrammar c → (bytes : List ℕ) (e : Unpack) → Fails e (read_all c bytes) → (y : A) → SpellsSome c y bytes → e ≡ OutOfMemory
no_value c grammar bytes e given y s =
    let r = grammar.value_is_read (s.0, y) bytes s.1 in
    elim (fails_with e (read_all c bytes) given) [ inl m ↦ m | inr f ↦ absurd cc ]

pub explained : {A : Type 0} (c : Codec (ℕ × A)) → IsGrammar c → (bytes : List ℕ) (e : Unpack) → AreBytes bytes → Fails e (read_all c bytes) → Explains c bytes e
explained c grammar bytes e fits given =
    elim (fails_with e (read_all c bytes) given) [ inl m ↦ inl m | inr f ↦ inr (grammar.read_is_fault bytes e fits f) ]

pub is_that : {A : Type 0} (c : Codec (ℕ × A)) → IsGrammar c → (bytes : List ℕ) (e : Unpack) → Fails e (read_all c bytes) → (d : Unpack) → FirstFault c bytes d → (e ≡ d) ⊎ (e ≡ OutOfMemory)
is_that c grammar bytes e given d f =
    let g = grammar.fault_is_read bytes d f in
    elim (fails_with e (read_all c bytes) given) [ inl m ↦ inr m | inr h ↦ inl cc ]
