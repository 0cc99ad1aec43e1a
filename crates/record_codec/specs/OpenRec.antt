-- The record of an open, under a handle or under its id.
use Rattle.std.specs.Prelude.{ℕ, codes}
use Rattle.sid_core.specs.Values.{IsU32}
use Rattle.record_codec.specs.declared.open_rec.OpenRec.{OpenRec}
use Rattle.record_codec.specs.Codec.{Codec, ◌⨾◌, via}
use Rattle.record_codec.specs.Fields.{u32, open_id, IsOpenId}
use Rattle.record_codec.specs.Stored.{stored}

pub record IsOpenRec (r : OpenRec) : Type 0 where
  pub id : IsOpenId r.id
  pub file : IsU32 r.file

unfoldable pub open_fields : Codec OpenRec
open_fields = via (λ p. record { id = p.0; file = p.1 }) (λ r. (r.id, r.file)) (
    open_id 3 4 ⨾ λ id.
    u32 5)

abbrev pub open_rec : Codec (ℕ × OpenRec)
open_rec = stored (codes "OPEN") 1 1 (λ version. open_fields)
