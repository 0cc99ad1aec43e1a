-- Reading items one after the other, as a loop does.
use Rattle.std.proofs.Common.{◌≡◌, ℕ, suc, ◌-◌, ◌+◌, ◌≤◌, ◌<◌, List, [], ◌∷◌, ◌++◌, Result, Ok, Err, refl, sym, ap, ◌∙◌, append_assoc, arith}
use Rattle.std.proofs.lemmas.List.{append-nil}
use Rattle.record_codec.specs.declared.fault.Unpack.{Unpack}
use Rattle.record_codec.specs.Codec.{Codec, ◌>>=◌, times_read}

-- what was read before, and what is still read
abbrev pub with_front : {A : Type 0} → List A → Result (List A × List ℕ) Unpack → Result (List A × List ℕ) Unpack
with_front front read = read >>= λ x. Ok (front ++ x.0, x.1)

regroup : {A : Type 0} (front : List A) (x : A) (read : Result (List A × List ℕ) Unpack) → with_front front (read >>= λ y. Ok (x ∷ y.0, y.1)) ≡ with_front (front ++ x ∷ []) read
regroup {A = A} front x (Ok y) = ap (λ (xs : List A). Ok (xs, y.1)) (simp append_assoc)
regroup front x (Err f) = refl

pub goes_on : {A : Type 0} (item : Codec A) (front : List A) (count i : ℕ) (bytes : List ℕ) (x : A) (after : List ℕ) (total : Result (List A × List ℕ) Unpack) → i < count → item.read bytes ≡ Ok (x, after)
    → with_front front (times_read item.read (count - i) bytes) ≡ total → with_front (front ++ x ∷ []) (times_read item.read (count - (i + 1)) after) ≡ total
unfolding times_read
goes_on item front count i bytes x after total lt h so_far =
    let k : count - i ≡ suc (count - (i + 1)) = omega arith in
    let one : with_front front (times_read item.read (count - i) bytes) ≡ with_front (front ++ x ∷ []) (times_read item.read (count - (i + 1)) after) = rw (k, h) (regroup front x (times_read item.read (count - (i + 1)) after)) in
    sym one ∙ so_far

pub ends : {A : Type 0} (item : Codec A) (e : Unpack) (front : List A) (count i : ℕ) (bytes : List ℕ) (total : Result (List A × List ℕ) Unpack) → i < count → item.read bytes ≡ Err e
    → with_front front (times_read item.read (count - i) bytes) ≡ total → total ≡ Err e
unfolding times_read
ends item f front count i bytes total lt h so_far =
    let k : count - i ≡ suc (count - (i + 1)) = omega arith in
    let one : with_front front (times_read item.read (count - i) bytes) ≡ Err f = rw (k, h) refl in
    sym so_far ∙ one

pub is_done : {A : Type 0} (item : Codec A) (front : List A) (count i : ℕ) (bytes : List ℕ) (total : Result (List A × List ℕ) Unpack) → count ≤ i → with_front front (times_read item.read (count - i) bytes) ≡ total → total ≡ Ok (front, bytes)
unfolding times_read
is_done {A = A} item front count i bytes total le so_far =
    let k : count - i ≡ 0 = omega arith in
    let one : with_front front (times_read item.read (count - i) bytes) ≡ Ok (front, bytes) = rw k (ap (λ (xs : List A). Ok (xs, bytes)) (append-nil front)) in
    sym so_far ∙ one
