-- What was left behind the reference that was handed in, if one was.
use Rattle.std.specs.Prelude.{◌⊎◌, Option, Some, None}
use Rattle.std.proofs.Common.{inl, inr}
use Rattle.std.specs.Borrow.{MutBor}

abbrev pub left : {X : Type 0} → Unit {0} ⊎ ((MutBor X × Unit {0}) ⊎ ⊥) → Option X
left (inl _) = None
left (inr (inl r)) = Some r.0.now
left (inr (inr e)) = None
