-- What a sink gained by one write after another.
use Rattle.std.proofs.Common.{◌≡◌, ℕ, ◌+◌, ◌-◌, Option, List, ◌++◌, length, min, take, drop, ◌∙◌, length-drop, arith}
use Rattle.std.proofs.Math.Seq.{take-add, take-append-add}
use Rattle.std.proofs.lemmas.List.{take_all, take_min, take-append-le}
use Rattle.std.proofs.KnownBytes.{Appends-trans}
use Rattle.std.specs.Io.KnownBytes.{Appends}
use Rattle.opendb_run.specs.Output.{AppendsPrefix}

-- the first of the bytes that were left went out after those before them
pub Appends-next : (a b c : Option (List ℕ)) (done n : ℕ) (bytes : List ℕ) → Appends a b (take done bytes) → Appends b c (take n (take (length bytes - done) (drop done bytes)))
    → Appends a c (take (done + n) bytes)
Appends-next a b c done n bytes first next =
    let rest : take (length bytes - done) (drop done bytes) ≡ drop done bytes = take_all _ _ (omega (arith, length-drop done bytes)) in
    rw (take-add done n bytes) (Appends-trans a b c _ _ first (rw rest at next))

-- some of the first part alone
pub AppendsPrefix-first : (a b : Option (List ℕ)) (xs ys : List ℕ) → AppendsPrefix a b xs → AppendsPrefix a b (xs ++ ys)
AppendsPrefix-first a b xs ys cut =
    let kept : take (min cut.0 (length xs)) (xs ++ ys) ≡ take cut.0 xs =
    take-append-le (min cut.0 (length xs)) xs ys (omega arith) ∙ take_min cut.0 xs in
    (min cut.0 (length xs), rw kept cut.1)

-- the first part, and some of the second
pub AppendsPrefix-next : (a b c : Option (List ℕ)) (xs ys : List ℕ) → Appends a b xs → AppendsPrefix b c ys → AppendsPrefix a c (xs ++ ys)
AppendsPrefix-next a b c xs ys first cut = (length xs + cut.0, rw (take-append-add xs ys cut.0) (Appends-trans a b c _ _ first cut.1))
