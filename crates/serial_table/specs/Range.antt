-- Byte ranges: when two overlap, and when a held one is in another's way ([MS-FSA] 2.1.4.10). The rules for shared ranges over the same
-- open's exclusive range and for ranges of length 0 are this project's own, after Samba's brlock.
use Rattle.std.specs.Prelude.{ℕ, Bool, ◌==◌, ◌+◌, ◌^◌, ◌&&◌, ◌||◌, not, nat_lt, if◌then◌else◌}
use Rattle.sid_core.specs.declared.ids.OpenId.{OpenId}
use Rattle.sid_core.specs.declared.call.Span.{Span}
use Rattle.sid_core.specs.declared.call.Mode.{Mode}
use Rattle.sid_core.specs.declared.call.Mode.TheVariants.{Exclusive}
use Rattle.sid_core.specs.Ids.{same_id}
use Rattle.serial_table.specs.declared.rows.OpenRow.{OpenRow}
use Rattle.serial_table.specs.declared.rows.RangeRow.{RangeRow}
use Rattle.serial_table.specs.Change.{same_mode}

abbrev pub is_exclusive : Mode → Bool
is_exclusive mode = same_mode mode Exclusive

-- A range of length 0 is the place before its first byte: it overlaps one that has bytes on both sides of it.
abbrev pub is_inside : ℕ → Span → Bool
is_inside place span = nat_lt span.start place && nat_lt place (span.start + span.length)

-- they share a byte
abbrev pub share_a_byte : Span → Span → Bool
share_a_byte a b = nat_lt a.start (b.start + b.length) && nat_lt b.start (a.start + a.length)

-- Two of length 0 don't overlap.
abbrev pub overlap : Span → Span → Bool
overlap a b = if a.length == 0 then is_inside a.start b else (if b.length == 0 then is_inside b.start a else share_a_byte a b)

-- A held range conflicts with an asked one unless both are shared, or the asked one is shared and the held one exclusive and of the same
-- open.
abbrev pub range_conflict : RangeRow → OpenId → Span → Mode → Bool
range_conflict held id span mode =
    overlap held.span span && ((is_exclusive held.mode || is_exclusive mode)
    && not (not (is_exclusive mode) && (is_exclusive held.mode && same_id held.id id)))

-- Its last byte is beyond 2^64 - 1. A range of length 0 has none.
abbrev pub passes_end : Span → Bool
passes_end span = nat_lt (2 ^ 64) (span.start + span.length)

-- a range of this open
abbrev pub range_of : OpenRow → Span → Mode → RangeRow
range_of open_row span mode = record { id = open_row.id; file = open_row.file; span = span; mode = mode }
