-- Which versions lie between the oldest and the newest.
use Rattle.std.proofs.Common.{◌≡◌, ℕ, leb, ◌⊎◌, inl, inr, zero, suc, refl, arith}
use Rattle.std.specs.Prelude.{IsTrue}
use Rattle.std.proofs.lemmas.Bool.{leb-true}
use Rattle.record_codec.specs.Fields.{within}
use Rattle.record_codec.proofs.Fields.{both}

pub one_version : (known version : ℕ) → IsTrue (within known known version) → version ≡ known
one_version known version h =
    let p = both (leb known version) (leb version known) h in
    omega (arith, leb-true _ _ p.0, leb-true _ _ p.1)

pub two_versions : (version : ℕ) → IsTrue (within 1 2 version) → (version ≡ 1) ⊎ (version ≡ 2)
two_versions zero h = absurd cc
two_versions (suc zero) h = inl refl
two_versions (suc (suc zero)) h = inr refl
two_versions (suc (suc (suc n))) h =
    let p = both (leb 1 (suc (suc (suc n)))) (leb (suc (suc (suc n))) 2) h in
    absurd (omega (arith, leb-true _ _ p.1))
