-- Going over the items of a list in place.
use Rattle.std.proofs.Common.{◌≡◌, ℕ, zero, suc, ◌-◌, ◌<◌, List, [], ◌∷◌, Result, Ok, Err, refl, ap, arith}
use Rattle.record_codec.specs.declared.fault.Unpack.{Unpack}
use Rattle.record_codec.specs.Codec.{◌>>=◌, times_read}
use Rattle.record_codec.specs.InPlace.{items_in}
use Rattle.record_codec.proofs.Exact.{bind_ok, ok_is}

pub item_first : {A : Type 0} (read : List ℕ → Result (A × List ℕ) Unpack) (n : ℕ) (bytes : List ℕ) (x : A) (after : List ℕ) → 0 < n → read bytes ≡ Ok (x, after) → items_in read n bytes ≡ x ∷ items_in read (n - 1) after
unfolding items_in
item_first read zero bytes x after lt e = absurd (omega (arith, lt))
item_first read (suc n) bytes x after lt e = let k : suc n - 1 ≡ n = omega arith in rw (k, e) refl

pub none_left : {A : Type 0} (read : List ℕ → Result (A × List ℕ) Unpack) (n : ℕ) (bytes : List ℕ) → n ≡ 0 → items_in read n bytes ≡ []
unfolding items_in
none_left read n bytes e = rw e refl

pub fault_next : {A : Type 0} (read : List ℕ → Result (A × List ℕ) Unpack) (n : ℕ) (bytes : List ℕ) (f : Unpack) → read bytes ≡ Err f → items_in read n bytes ≡ []
unfolding items_in
fault_next read zero bytes f e = refl
fault_next read (suc n) bytes f e = rw e refl

-- What was read one after the other is what stands there.
pub all_items : {A : Type 0} (read : List ℕ → Result (A × List ℕ) Unpack) (n : ℕ) (bytes : List ℕ) (xs : List A) (rest : List ℕ) → times_read read n bytes ≡ Ok (xs, rest) → items_in read n bytes ≡ xs
unfolding items_in times_read
all_items read zero bytes xs rest e = ap (λ (p : List _ × List ℕ). p.0) (ok_is _ _ e)
all_items {A = A} read (suc n) bytes xs rest e =
    let a = bind_ok (read bytes) (λ y. times_read read n y.1 >>= λ ys. Ok (y.0 ∷ ys.0, ys.1)) (xs, rest) e in
    let b = bind_ok (times_read read n a.0.1) (λ ys. Ok (a.0.0 ∷ ys.0, ys.1)) (xs, rest) a.2 in
    let tail : items_in read n a.0.1 ≡ b.0.0 = all_items read n a.0.1 b.0.0 b.0.1 b.1 in
    let whole : a.0.0 ∷ b.0.0 ≡ xs = ap (λ (p : List A × List ℕ). p.0) (ok_is _ _ b.2) in
    rw (a.1, tail) whole
