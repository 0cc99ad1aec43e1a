-- Names that a test finds the same are equal.
use Rattle.std.proofs.Common.{◌≡◌, ◌==◌, true, ap}
use Rattle.std.proofs.lemmas.Bool.{eqb-true, and_parts}
use Rattle.sid_core.specs.declared.ids.Sid.{Sid}
use Rattle.sid_core.specs.declared.ids.Spot.{Spot}
use Rattle.sid_core.specs.declared.ids.Spot.TheVariants.{OpenOf, RangesOf, LockOf}
use Rattle.sid_core.specs.Ids.{same_sid, same_spot}

pub same_sid-eq : (a b : Sid) → same_sid a b ≡ true → a ≡ b
same_sid-eq a b e =
    let both = and_parts (a.pid == b.pid) (a.session == b.session) e in
    λ i. record { pid = eqb-true a.pid b.pid both.0 i; session = eqb-true a.session b.session both.1 i }

pub same_spot-eq : (a b : Spot) → same_spot a b ≡ true → a ≡ b
same_spot-eq (OpenOf f) (OpenOf g) e = ap OpenOf (eqb-true f g e)
same_spot-eq (RangesOf f) (RangesOf g) e = ap RangesOf (eqb-true f g e)
same_spot-eq (LockOf f) (LockOf g) e = ap LockOf (eqb-true f g e)
same_spot-eq (OpenOf f) (RangesOf g) e = absurd cc
same_spot-eq (OpenOf f) (LockOf g) e = absurd cc
same_spot-eq (RangesOf f) (OpenOf g) e = absurd cc
same_spot-eq (RangesOf f) (LockOf g) e = absurd cc
same_spot-eq (LockOf f) (OpenOf g) e = absurd cc
same_spot-eq (LockOf f) (RangesOf g) e = absurd cc
