-- Each codec reads exactly what it spells, and fails with the first fault.
use Rattle.std.proofs.Common.{◌≡◌, ℕ, zero, suc, ◌^◌, ◌<◌, ◌≤◌, Bool, true, false, cond, ltb, ◌⊎◌, inl, inr, List, [], ◌∷◌, ◌++◌, length, take, drop, Result, Ok, Err, refl, sym, ap, subst, ◌∙◌, append_assoc, arith}
use Rattle.std.specs.Prelude.{IsTrue}
use Rattle.std.specs.List.{flat_map, AllByRecursion}
use Rattle.std.proofs.lemmas.Bool.{ltb-false, ltb-true, le-ltb, lt-ltb}
use Rattle.std.proofs.lemmas.List.{take_at, drop_at, take-append-drop, length-append, length-take}
use Rattle.byteorder.specs.Endian.{little_bytes, little_number}
use Rattle.byteorder.specs.Numbers.{little_number-reads_back, little_from-lt, length-bytes_low_first}
use Rattle.record_codec.specs.declared.fault.Unpack.{Unpack}
use Rattle.record_codec.specs.declared.fault.Unpack.TheVariants.{Short}
use Rattle.record_codec.specs.Codec.{Codec, ◌>>=◌, raw, number, read_run, run, ◌⨾◌, left_out, via, times_fault, times_read, times}
pub use Rattle.record_codec.specs.Laws.{IsExact}
use Rattle.record_codec.proofs.Bytes.{IsBytes, IsBytes-after, bytes-of-number}

-- ---- steps that fail or don't

pub bind_ok : {A B : Type 0} (r : Result A Unpack) (f : A → Result B Unpack) (y : B) → (r >>= f) ≡ Ok y → (x : A) × (r ≡ Ok x) × (f x ≡ Ok y)
bind_ok (Ok x) f y e = (x, refl, e)
bind_ok (Err d) f y e = absurd cc

pub bind_err : {A B : Type 0} (r : Result A Unpack) (f : A → Result B Unpack) (d : Unpack) → (r >>= f) ≡ Err d → (r ≡ Err d) ⊎ ((x : A) × (r ≡ Ok x) × (f x ≡ Err d))
bind_err (Ok x) f d e = inr (x, refl, e)
bind_err (Err c) f d e = inl cc

abbrev done : {A : Type 0} → A → Result A Unpack
done x = Ok x

abbrev failed : {A : Type 0} → Unpack → Result A Unpack
failed {A = A} d = Err d

pub ok_is : {A : Type 0} (x y : A) → done x ≡ done y → x ≡ y
ok_is x y e = cc

-- a test that was passed, and one that wasn't
pub passed : {A : Type 0} (b : Bool) (d : Unpack) (x y : A) → cond b (Ok x) (Err d) ≡ Ok y → (b ≡ true) × (x ≡ y)
passed true d x y e = (refl, cc)
passed false d x y e = absurd cc

pub not_passed : {A : Type 0} (b : Bool) (d e : Unpack) (x : A) → cond b (Ok x) (Err d) ≡ failed {A = A} e → (b ≡ false) × (e ≡ d)
not_passed true d c x e = absurd cc
not_passed false d c x e = (refl, cc)

-- ---- numbers

raw_ok : (width : ℕ) (bytes : List ℕ) (n : ℕ × List ℕ) → raw width bytes ≡ Ok n → (width ≤ length bytes) × (n ≡ (little_number width bytes, drop width bytes))
unfolding raw
raw_ok width bytes n e = go (ltb (length bytes) width) refl e where
  go : (b : Bool) → ltb (length bytes) width ≡ b → cond b (Err Short) (Ok (little_number width bytes, drop width bytes)) ≡ done n → (width ≤ length bytes) × (n ≡ (little_number width bytes, drop width bytes))
  go true t h = absurd cc
  go false t h = (ltb-false _ _ t, sym (ok_is _ _ h))

raw_err : (width : ℕ) (bytes : List ℕ) (d : Unpack) → raw width bytes ≡ Err d → (length bytes < width) × (d ≡ Short)
unfolding raw
raw_err width bytes d e = go (ltb (length bytes) width) refl e where
  go : (b : Bool) → ltb (length bytes) width ≡ b → cond b (Err Short) (Ok (little_number width bytes, drop width bytes)) ≡ failed {A = ℕ × List ℕ} d → (length bytes < width) × (d ≡ Short)
  go true t h = (ltb-true _ _ t, cc)
  go false t h = absurd cc

raw_short : (width : ℕ) (bytes : List ℕ) → length bytes < width → raw width bytes ≡ Err Short
unfolding raw
raw_short width bytes lt = rw (lt-ltb (length bytes) width lt) refl

raw_long : (width : ℕ) (bytes : List ℕ) → width ≤ length bytes → raw width bytes ≡ Ok (little_number width bytes, drop width bytes)
unfolding raw
raw_long width bytes le = rw (le-ltb (length bytes) width le) refl

raw_again : (width n : ℕ) (rest : List ℕ) → n < 256 ^ width → raw width (little_bytes width n ++ rest) ≡ Ok (n, rest)
raw_again width n rest lt =
    let len : length (little_bytes width n) ≡ width = length-bytes_low_first 0 width n in
    let long : width ≤ length (little_bytes width n ++ rest) = omega (arith, length-append (little_bytes width n) rest) in
    raw_long width (little_bytes width n ++ rest) long ∙ rw (little_number-reads_back width n rest lt, drop_at (little_bytes width n) rest width len) refl

pub number_exact : (width : ℕ) (set : ℕ → Bool) (outside : Unpack) → IsExact (number width set outside)
number_exact width set outside = record {
  takes = λ bytes x fits e.
      let a = bind_ok (raw width bytes) (λ n. cond (set n.0) (Ok n) (Err outside)) x e in
      let r = raw_ok width bytes a.0 a.1 in
      let p = passed (set a.0.0) outside a.0 x a.2 in
      let whole : bytes ≡ little_bytes width (little_number width bytes) ++ drop width bytes = rw (bytes-of-number width bytes fits r.0) (sym (take-append-drop width bytes)) in
      let lt : little_number width bytes < 256 ^ width = little_from-lt 0 width bytes fits in
      let out : (n : ℕ × List ℕ) → n ≡ (little_number width bytes, drop width bytes) → set n.0 ≡ true → ((n.0 < 256 ^ width) × IsTrue (set n.0)) × (bytes ≡ little_bytes width n.0 ++ n.1) =
      λ n eq st. ((rw eq lt, st), rw eq whole) in
      subst (λ (n : ℕ × List ℕ). ((n.0 < 256 ^ width) × IsTrue (set n.0)) × (bytes ≡ little_bytes width n.0 ++ n.1)) p.1 (out a.0 r.1 p.0);
  again = λ n rest v. rw (raw_again width n rest v.0, v.1) refl;
  fails = λ bytes d fits e.
      elim (bind_err (raw width bytes) (λ n. cond (set n.0) (Ok n) (Err outside)) d e) [
        | inl h ↦ inl (raw_err width bytes d h)
        | inr h ↦
            let r = raw_ok width bytes h.0 h.1 in
            let p = not_passed (set h.0.0) outside d h.0 h.2 in
            inr (r.0, ap (λ (n : ℕ × List ℕ). set n.0) (sym r.1) ∙ p.0, p.1)
      ];
  faulty = λ bytes d h. elim h [
    | inl s ↦ rw (raw_short width bytes s.0, s.1) refl
    | inr s ↦ rw (raw_long width bytes s.0, s.1, s.2) refl
  ];
}

-- ---- bytes

run_ok : (len : ℕ) (set : List ℕ → Bool) (outside : Unpack) (bytes : List ℕ) (x : List ℕ × List ℕ) → read_run len set outside bytes ≡ Ok x → (len ≤ length bytes) × (set (take len bytes) ≡ true) × (x ≡ (take len bytes, drop len bytes))
unfolding read_run
run_ok len set outside bytes x e = go (ltb (length bytes) len) refl e where
  go : (b : Bool) → ltb (length bytes) len ≡ b → cond b (Err Short) (cond (set (take len bytes)) (Ok (take len bytes, drop len bytes)) (Err outside)) ≡ done x → (len ≤ length bytes) × (set (take len bytes) ≡ true) × (x ≡ (take len bytes, drop len bytes))
  go true t h = absurd cc
  go false t h =
      let p = passed (set (take len bytes)) outside (take len bytes, drop len bytes) x h in
      (ltb-false _ _ t, p.0, sym p.1)

run_err : (len : ℕ) (set : List ℕ → Bool) (outside : Unpack) (bytes : List ℕ) (d : Unpack) → read_run len set outside bytes ≡ Err d → ((length bytes < len) × (d ≡ Short)) ⊎ ((len ≤ length bytes) × (set (take len bytes) ≡ false) × (d ≡ outside))
unfolding read_run
run_err len set outside bytes d e = go (ltb (length bytes) len) refl e where
  go : (b : Bool) → ltb (length bytes) len ≡ b → cond b (Err Short) (cond (set (take len bytes)) (Ok (take len bytes, drop len bytes)) (Err outside)) ≡ failed {A = List ℕ × List ℕ} d → ((length bytes < len) × (d ≡ Short)) ⊎ ((len ≤ length bytes) × (set (take len bytes) ≡ false) × (d ≡ outside))
  go true t h = inl (ltb-true _ _ t, cc)
  go false t h =
      let p = not_passed (set (take len bytes)) outside d (take len bytes, drop len bytes) h in
      inr (ltb-false _ _ t, p.0, p.1)

run_short : (len : ℕ) (set : List ℕ → Bool) (outside : Unpack) (bytes : List ℕ) → length bytes < len → read_run len set outside bytes ≡ Err Short
unfolding read_run
run_short len set outside bytes lt = rw (lt-ltb (length bytes) len lt) refl

run_long : (len : ℕ) (set : List ℕ → Bool) (outside : Unpack) (bytes : List ℕ) (b : Bool) → len ≤ length bytes → set (take len bytes) ≡ b → read_run len set outside bytes ≡ cond b (Ok (take len bytes, drop len bytes)) (Err outside)
unfolding read_run
run_long len set outside bytes b le e = rw (le-ltb (length bytes) len le, e) refl

pub run_exact : (len : ℕ) (set : List ℕ → Bool) (outside : Unpack) → IsExact (run len set outside)
run_exact len set outside = record {
  takes = λ bytes x fits e.
      let r = run_ok len set outside bytes x e in
      let long : length (take len bytes) ≡ len = omega (arith, length-take len bytes, r.0) in
      subst (λ (y : List ℕ × List ℕ). ((length y.0 ≡ len) × IsTrue (set y.0)) × (bytes ≡ y.0 ++ y.1)) (sym r.2) ((long, r.1), sym (take-append-drop len bytes));
  again = λ text rest v.
      let long : len ≤ length (text ++ rest) = omega (arith, length-append text rest, v.0) in
      let front : take len (text ++ rest) ≡ text = take_at text rest len v.0 in
      run_long len set outside (text ++ rest) true long (ap set front ∙ v.1) ∙ rw (front, drop_at text rest len v.0) refl;
  fails = λ bytes d fits e. run_err len set outside bytes d e;
  faulty = λ bytes d h. elim h [
    | inl s ↦ run_short len set outside bytes s.0 ∙ ap (λ (x : Unpack). failed x) (sym s.1)
    | inr s ↦ run_long len set outside bytes false s.0 s.1 ∙ ap (λ (x : Unpack). failed x) (sym s.2)
  ];
}

-- ---- one after the other

pub seq_exact : {A B : Type 0} (c : Codec A) (d : A → Codec B) → IsExact c → ((x : A) → IsExact (d x)) → IsExact (c ⨾ d)
seq_exact {A = A} {B = B} c d first then_ = record {
  takes = λ bytes p fits e.
      let a = bind_ok (c.read bytes) (λ x. (d x.0).read x.1 >>= λ y. Ok ((x.0, y.0), y.1)) p e in
      let b = bind_ok ((d a.0.0).read a.0.1) (λ y. Ok ((a.0.0, y.0), y.1)) p a.2 in
      let s = first.takes bytes a.0 fits a.1 in
      let t = (then_ a.0.0).takes a.0.1 b.0 (IsBytes-after bytes (c.spell a.0.0) a.0.1 fits s.1) b.1 in
      let made : (A × B) × List ℕ = ((a.0.0, b.0.0), b.0.1) in
      let whole : bytes ≡ (c.spell a.0.0 ++ (d a.0.0).spell b.0.0) ++ b.0.1 = s.1 ∙ ap (λ (r : List ℕ). c.spell a.0.0 ++ r) t.1 ∙ sym (append_assoc (c.spell a.0.0) ((d a.0.0).spell b.0.0) b.0.1) in
      subst (λ (q : (A × B) × List ℕ). (c.valid q.0.0 × (d q.0.0).valid q.0.1) × (bytes ≡ (c.spell q.0.0 ++ (d q.0.0).spell q.0.1) ++ q.1)) (ok_is made p b.2) ((s.0, t.0), whole);
  again = λ p rest v.
      rw (append_assoc (c.spell p.0) ((d p.0).spell p.1) rest, first.again p.0 ((d p.0).spell p.1 ++ rest) v.0, (then_ p.0).again p.1 rest v.1) refl;
  fails = λ bytes e fits h.
      elim (bind_err (c.read bytes) (λ x. (d x.0).read x.1 >>= λ y. Ok ((x.0, y.0), y.1)) e h) [
        | inl f ↦ inl (first.fails bytes e fits f)
        | inr a ↦
            let s = first.takes bytes a.0 fits a.1 in
            let after = IsBytes-after bytes (c.spell a.0.0) a.0.1 fits s.1 in
            elim (bind_err ((d a.0.0).read a.0.1) (λ y. Ok ((a.0.0, y.0), y.1)) e a.2) [
              | inl f ↦ inr (a.0.0, a.0.1, s.0, s.1, (then_ a.0.0).fails a.0.1 e after f)
              | inr b ↦ absurd cc
            ]
      ];
  faulty = λ bytes e h. elim h [
    | inl f ↦ rw (first.faulty bytes e f) refl
    | inr a ↦ rw (a.3, first.again a.0 a.1 a.2, (then_ a.0).faulty a.1 e a.4) refl
  ];
}

pub left_out_exact : {A : Type 0} (x : A) → IsExact (left_out x)
left_out_exact {A = A} x = record {
  takes = λ bytes p fits e.
      let made : A × List ℕ = (x, bytes) in
      subst (λ (q : A × List ℕ). (q.0 ≡ x) × (bytes ≡ q.1)) (ok_is made p e) (refl, refl);
  again = λ y rest v. ap (λ (z : A). Ok (z, rest)) (sym v);
  fails = λ bytes e fits h. absurd cc;
  faulty = λ bytes e h. absurd h;
}

pub via_exact : {A B : Type 0} (make : A → B) (parts : B → A) (c : Codec A) → ((y : B) → make (parts y) ≡ y) → ((x : A) → c.valid x → parts (make x) ≡ x) → IsExact c → IsExact (via make parts c)
via_exact {A = A} {B = B} make parts c made taken exact = record {
  takes = λ bytes y fits e.
      let a = bind_ok (c.read bytes) (λ x. Ok (make x.0, x.1)) y e in
      let s = exact.takes bytes a.0 fits a.1 in
      let back : parts (make a.0.0) ≡ a.0.0 = taken a.0.0 s.0 in
      let new : B × List ℕ = (make a.0.0, a.0.1) in
      subst (λ (q : B × List ℕ). c.valid (parts q.0) × (bytes ≡ c.spell (parts q.0) ++ q.1)) (ok_is new y a.2)
      (subst (λ (x : A). c.valid x × (bytes ≡ c.spell x ++ a.0.1)) (sym back) s);
  again = λ y rest v. rw (exact.again (parts y) rest v, made y) refl;
  fails = λ bytes e fits h.
      elim (bind_err (c.read bytes) (λ x. Ok (make x.0, x.1)) e h) [
        | inl f ↦ exact.fails bytes e fits f
        | inr a ↦ absurd cc
      ];
  faulty = λ bytes e h. rw (exact.faulty bytes e h) refl;
}

-- ---- so many items

times_takes : {A : Type 0} (item : Codec A) → IsExact item → (n : ℕ) (bytes : List ℕ) (x : List A × List ℕ) → IsBytes bytes → times_read item.read n bytes ≡ Ok x → ((length x.0 ≡ n) × AllByRecursion item.valid x.0) × (bytes ≡ flat_map item.spell x.0 ++ x.1)
unfolding times_read
times_takes {A = A} item exact zero bytes x fits e =
    let none : List A × List ℕ = ([], bytes) in
    subst (λ (y : List A × List ℕ). ((length y.0 ≡ 0) × AllByRecursion item.valid y.0) × (bytes ≡ flat_map item.spell y.0 ++ y.1)) (ok_is none x e) ((refl, tt), refl)
times_takes {A = A} item exact (suc n) bytes x fits e =
    let a = bind_ok (item.read bytes) (λ y. times_read item.read n y.1 >>= λ ys. Ok (y.0 ∷ ys.0, ys.1)) x e in
    let b = bind_ok (times_read item.read n a.0.1) (λ ys. Ok (a.0.0 ∷ ys.0, ys.1)) x a.2 in
    let s = exact.takes bytes a.0 fits a.1 in
    let t = times_takes item exact n a.0.1 b.0 (IsBytes-after bytes (item.spell a.0.0) a.0.1 fits s.1) b.1 in
    let made : List A × List ℕ = (a.0.0 ∷ b.0.0, b.0.1) in
    let whole : bytes ≡ (item.spell a.0.0 ++ flat_map item.spell b.0.0) ++ b.0.1 = s.1 ∙ ap (λ (r : List ℕ). item.spell a.0.0 ++ r) t.1 ∙ sym (append_assoc (item.spell a.0.0) (flat_map item.spell b.0.0) b.0.1) in
    subst (λ (y : List A × List ℕ). ((length y.0 ≡ suc n) × AllByRecursion item.valid y.0) × (bytes ≡ flat_map item.spell y.0 ++ y.1)) (ok_is made x b.2)
    ((ap suc t.0.0, (s.0, t.0.1)), whole)

times_again : {A : Type 0} (item : Codec A) → IsExact item → (n : ℕ) (xs : List A) (rest : List ℕ) → (length xs ≡ n) × AllByRecursion item.valid xs → times_read item.read n (flat_map item.spell xs ++ rest) ≡ Ok (xs, rest)
unfolding times_read
times_again item exact zero [] rest v = refl
times_again item exact zero (x ∷ xs) rest v = absurd (omega (arith, v.0))
times_again item exact (suc n) [] rest v = absurd (omega (arith, v.0))
times_again item exact (suc n) (x ∷ xs) rest v =
    let len : length xs ≡ n = omega (arith, v.0) in
    rw (append_assoc (item.spell x) (flat_map item.spell xs) rest, exact.again x (flat_map item.spell xs ++ rest) v.1.0, times_again item exact n xs rest (len, v.1.1)) refl

times_fails : {A : Type 0} (item : Codec A) → IsExact item → (n : ℕ) (bytes : List ℕ) (e : Unpack) → IsBytes bytes → times_read item.read n bytes ≡ Err e → times_fault item n bytes e
unfolding times_read
times_fails item exact zero bytes e fits h = absurd cc
times_fails item exact (suc n) bytes e fits h =
    elim (bind_err (item.read bytes) (λ y. times_read item.read n y.1 >>= λ ys. Ok (y.0 ∷ ys.0, ys.1)) e h) [
      | inl f ↦ inl (exact.fails bytes e fits f)
      | inr a ↦
          let s = exact.takes bytes a.0 fits a.1 in
          let after = IsBytes-after bytes (item.spell a.0.0) a.0.1 fits s.1 in
          elim (bind_err (times_read item.read n a.0.1) (λ ys. Ok (a.0.0 ∷ ys.0, ys.1)) e a.2) [
            | inl f ↦ inr (a.0.0, a.0.1, s.0, s.1, times_fails item exact n a.0.1 e after f)
            | inr b ↦ absurd cc
          ]
    ]

times_faulty : {A : Type 0} (item : Codec A) → IsExact item → (n : ℕ) (bytes : List ℕ) (e : Unpack) → times_fault item n bytes e → times_read item.read n bytes ≡ Err e
unfolding times_read
times_faulty item exact zero bytes e h = absurd h
times_faulty item exact (suc n) bytes e h = elim h [
  | inl f ↦ rw (exact.faulty bytes e f) refl
  | inr a ↦ rw (a.3, exact.again a.0 a.1 a.2, times_faulty item exact n a.1 e a.4) refl
]

pub times_exact : {A : Type 0} (item : Codec A) → IsExact item → (n : ℕ) → IsExact (times item n)
times_exact item exact n = record {
  takes = times_takes item exact n;
  again = times_again item exact n;
  fails = times_fails item exact n;
  faulty = times_faulty item exact n;
}
