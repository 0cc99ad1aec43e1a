-- An exact codec is a grammar.
use Rattle.std.proofs.Common.{◌≡◌, ℕ, false, cond, eqb, ◌⊎◌, inl, inr, List, [], ◌++◌, length, Result, Ok, Err, refl, sym, ap, subst, ◌∙◌, arith}
use Rattle.std.proofs.lemmas.Bool.{eqb-true, eqb-false, ne_eqb}
use Rattle.std.proofs.lemmas.List.{append-nil, nil_from_length}
use Rattle.record_codec.specs.declared.fault.Unpack.{Unpack}
use Rattle.record_codec.specs.declared.fault.Unpack.TheVariants.{Trailing}
use Rattle.record_codec.specs.Codec.{Codec, Spells, FirstFault, read_all}
use Rattle.record_codec.specs.Laws.{IsGrammar}
use Rattle.record_codec.proofs.Bytes.{IsBytes}
use Rattle.record_codec.proofs.Exact.{IsExact, bind_ok, bind_err, passed, not_passed}

pub all_takes : {A : Type 0} (c : Codec A) → IsExact c → (bytes : List ℕ) (x : A) → IsBytes bytes → read_all c bytes ≡ Ok x → Spells c x bytes
unfolding read_all
all_takes c exact bytes x fits e =
    let a = bind_ok (c.read bytes) (λ y. cond (eqb (length y.1) 0) (Ok y.0) (Err Trailing)) x e in
    let p = passed (eqb (length a.0.1) 0) Trailing a.0.0 x a.2 in
    let s = exact.takes bytes a.0 fits a.1 in
    let nothing : a.0.1 ≡ [] = nil_from_length a.0.1 (eqb-true _ _ p.0) in
    let whole : bytes ≡ c.spell a.0.0 = s.1 ∙ ap (λ (r : List ℕ). c.spell a.0.0 ++ r) nothing ∙ append-nil (c.spell a.0.0) in
    record { valid = subst c.valid p.1 s.0; bytes_are = whole ∙ ap c.spell p.1 }

pub all_again : {A : Type 0} (c : Codec A) → IsExact c → (bytes : List ℕ) (x : A) → Spells c x bytes → read_all c bytes ≡ Ok x
unfolding read_all
all_again c exact bytes x s =
    let e : bytes ≡ c.spell x ++ [] = s.bytes_are ∙ sym (append-nil (c.spell x)) in
    rw (e, exact.again x [] s.valid) refl

pub all_fails : {A : Type 0} (c : Codec A) → IsExact c → (bytes : List ℕ) (e : Unpack) → IsBytes bytes → read_all c bytes ≡ Err e → FirstFault c bytes e
unfolding read_all
all_fails {A = A} c exact bytes e fits h =
    elim (bind_err (c.read bytes) (λ y. cond (eqb (length y.1) 0) (Ok y.0) (Err Trailing)) e h) [
      | inl f ↦ inl (exact.fails bytes e fits f)
      | inr a ↦
          let s = exact.takes bytes a.0 fits a.1 in
          let p = not_passed (eqb (length a.0.1) 0) Trailing e a.0.0 a.2 in
          inr (a.0.0, a.0.1, s.0, s.1, (omega (arith, eqb-false _ _ p.0), p.1))
    ]

pub all_faulty : {A : Type 0} (c : Codec A) → IsExact c → (bytes : List ℕ) (e : Unpack) → FirstFault c bytes e → read_all c bytes ≡ Err e
unfolding read_all
all_faulty c exact bytes e h = elim h [
  | inl f ↦ rw (exact.faulty bytes e f) refl
  | inr a ↦
      let some : eqb (length a.1) 0 ≡ false = ne_eqb (length a.1) 0 (λ z. omega (arith, a.4.0, z)) in
      rw (a.3, exact.again a.0 a.1 a.2, some, a.4.1) refl
]

-- ---- the laws

value_or_fault : {A : Type 0} (c : Codec A) → IsExact c → (bytes : List ℕ) → IsBytes bytes → (r : Result A Unpack) → read_all c bytes ≡ r → ((x : A) × Spells c x bytes) ⊎ ((e : Unpack) × FirstFault c bytes e)
value_or_fault c exact bytes fits (Ok x) e = inl (x, all_takes c exact bytes x fits e)
value_or_fault c exact bytes fits (Err d) e = inr (d, all_fails c exact bytes d fits e)

pub exact_is_grammar : {A : Type 0} (c : Codec A) → IsExact c → IsGrammar c
exact_is_grammar c exact = record {
  back = λ x v. record { valid = v; bytes_are = refl };
  one_spelling = λ x bytes others s t. s.bytes_are ∙ sym t.bytes_are;
  one_value = λ x y bytes s t.
      let a = all_again c exact bytes x s in
      let b = all_again c exact bytes y t in cc;
  no_fault = λ x bytes e s f.
      let a = all_again c exact bytes x s in
      let b = all_faulty c exact bytes e f in absurd cc;
  one_fault = λ bytes e f s t.
      let a = all_faulty c exact bytes e s in
      let b = all_faulty c exact bytes f t in cc;
  either = λ bytes fits. value_or_fault c exact bytes fits (read_all c bytes) refl;
  value_is_read = λ x bytes s. all_again c exact bytes x s;
  read_is_spelled = λ x bytes fits e. all_takes c exact bytes x fits e;
  fault_is_read = λ bytes e f. all_faulty c exact bytes e f;
  read_is_fault = λ bytes e fits h. all_fails c exact bytes e fits h;
}
