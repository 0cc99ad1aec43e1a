-- The record of an open is exact, and its sets are the named ones.
use Rattle.std.proofs.Common.{◌≡◌, length, refl, lit<}
use Rattle.std.specs.Prelude.{◌↔◌, codes}
use Rattle.record_codec.specs.declared.open_rec.OpenRec.{OpenRec}
use Rattle.record_codec.specs.OpenRec.{open_fields, open_rec, IsOpenRec}
use Rattle.record_codec.proofs.Exact.{IsExact, seq_exact, via_exact}
use Rattle.record_codec.proofs.Fields.{u32_exact, open_id_exact}
use Rattle.record_codec.proofs.Sets.{open_id_set}
use Rattle.record_codec.proofs.Stored.{stored_exact, stored_set}

open_fields_exact : IsExact open_fields
unfolding open_fields
open_fields_exact = via_exact _ _ _ (λ y. refl) (λ x v. refl)
    (seq_exact _ _ (open_id_exact 3 4) (λ _. u32_exact 5))

pub open_exact : IsExact open_rec
open_exact = stored_exact (codes "OPEN") 1 1 (λ _. open_fields) (λ _. open_fields_exact)

pub open_fields_set : (r : OpenRec) → IsOpenRec r ↔ open_fields.valid r
unfolding open_fields
open_fields_set r = (
  λ i. ((open_id_set 3 4 r.id).0 i.id, (i.file, refl)),
  λ v. record { id = (open_id_set 3 4 r.id).1 v.0; file = v.1.0 },
)

pub open_set : (r : OpenRec) → IsOpenRec r ↔ open_rec.valid (1, r)
open_set r = stored_set (codes "OPEN") 1 1 1 (λ _. open_fields) IsOpenRec (lit< tt) (lit< tt) refl open_fields_set r

pub open_size : (r : OpenRec) → length (open_fields.spell r) ≡ 12
unfolding open_fields
open_size r = refl
