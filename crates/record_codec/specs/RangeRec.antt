-- The record of the byte ranges of a file.
use Rattle.std.specs.Prelude.{ℕ, Bool, ◌+◌, ◌-◌, ◌^◌, ◌<◌, nat_le, ◌==◌, ◌||◌, codes}
use Rattle.sid_core.specs.Values.{IsU32, IsU64}
use Rattle.record_codec.specs.declared.range_rec.RangeItem.{RangeItem}
use Rattle.record_codec.specs.declared.range_rec.RangeRec.{RangeRec}
use Rattle.record_codec.specs.Codec.{Codec, ◌⨾◌, via}
use Rattle.record_codec.specs.Fields.{u32, u64, u64_in, open_id, IsOpenId, mode, list, IsListOf, watch, IsWatch}
use Rattle.record_codec.specs.Stored.{stored}

-- The last byte of a range that isn't empty has a number of 64 bits.
abbrev pub range_length : ℕ → ℕ → Bool
range_length start length = (length == 0) || nat_le (start + length - 1) (2 ^ 64 - 1)

pub record IsRangeItem (r : RangeItem) : Type 0 where
  pub id : IsOpenId r.id
  pub start : IsU64 r.start
  pub length : IsU64 r.length
  pub last : 0 < r.length → IsU64 (r.start + r.length - 1)

unfoldable pub range_item : Codec RangeItem
range_item = via (λ p. record { id = p.0; start = p.1.0; length = p.1.1.0; mode = p.1.1.1 }) (λ r. (r.id, (r.start, (r.length, r.mode)))) (
    open_id 5 6 ⨾ λ id.
    u64 7 ⨾ λ start.
    u64_in 8 (range_length start) ⨾ λ length.
    mode 9)

pub record IsRangeRec (r : RangeRec) : Type 0 where
  pub file : IsU32 r.file
  pub ranges : IsListOf IsRangeItem r.ranges
  pub watchers : IsListOf IsWatch r.watchers

unfoldable pub range_fields : Codec RangeRec
range_fields = via (λ p. record { file = p.0; ranges = p.1.0; watchers = p.1.1 }) (λ r. (r.file, (r.ranges, r.watchers))) (
    u32 3 ⨾ λ file.
    list 4 range_item ⨾ λ ranges.
    list 10 (watch 11 12 13))

abbrev pub range_rec : Codec (ℕ × RangeRec)
range_rec = stored (codes "BRLK") 1 1 (λ version. range_fields)
