-- `read` and `write`.
use Rattle.std.specs.Prelude.{ℕ, Bool, ◌==◌, ◌&&◌, ◌||◌, not, List, [], ◌∷◌, if◌then◌else◌}
use Rattle.std.specs.List.{list_any}
use Rattle.sid_core.specs.declared.call.Span.{Span}
use Rattle.sid_core.specs.declared.ids.Moment.{Moment}
use Rattle.sid_core.specs.declared.reply.Reply.TheVariants.{Done, FileClosed, AccessDenied, InvalidParameter, FileLockConflict}
use Rattle.sid_core.specs.Ids.{same_id}
use Rattle.sid_core.specs.Values.{has}
use Rattle.serial_table.specs.declared.rows.OpenRow.{OpenRow}
use Rattle.serial_table.specs.declared.rows.RangeRow.{RangeRow}
use Rattle.serial_table.specs.declared.decision.Caller.{Caller}
use Rattle.serial_table.specs.declared.decision.Decision.{Decision}
use Rattle.serial_table.specs.View.{View}
use Rattle.serial_table.specs.File.{FileView, file_view}
use Rattle.serial_table.specs.Decision.{only_reply, spots_of}
use Rattle.serial_table.specs.Break.{Breaks, break_others, none_of_them}
use Rattle.serial_table.specs.Range.{is_exclusive, overlap, passes_end}

-- What a read and a write check, by the access of which a bit is wanted and the ranges that forbid it. No byte is never forbidden.
abbrev pub if_allowed : FileView → OpenRow → ℕ → Span → (RangeRow → Bool) → Decision → Decision
if_allowed f open_row wanted span forbids done =
    if not (has open_row.access.0 wanted) then only_reply AccessDenied
    else (if span.length == 0 then only_reply Done
    else (if passes_end span then only_reply InvalidParameter
    else (if list_any forbids f.ranges then only_reply FileLockConflict else done)))

-- ---- read

-- an exclusive range of another open
abbrev pub forbids_read : OpenRow → Span → RangeRow → Bool
forbids_read open_row span range = overlap range.span span && (is_exclusive range.mode && not (same_id range.id open_row.id))

-- An open may read that reads data or executes.
abbrev pub read_file : FileView → Span → OpenRow → Decision
read_file f span open_row = if_allowed f open_row 0x21 span (forbids_read open_row span) (only_reply Done)

-- the open that the handle names, if any
abbrev pub read_first : View → Span → List OpenRow → Decision
read_first v span [] = only_reply FileClosed
read_first v span (open_row ∷ others) = read_file (file_view open_row.file v) span open_row

unfoldable pub read : View → Caller → ℕ → Span → Decision
read v caller handle span = read_first v span (v.opens_of_handle caller.sid handle)

-- ---- write

-- a shared range of any open, the own one included, or an exclusive range of another
abbrev pub forbids_write : OpenRow → Span → RangeRow → Bool
forbids_write open_row span range = overlap range.span span && (not (is_exclusive range.mode) || not (same_id range.id open_row.id))

-- All bits of the file's other leases are broken, without waiting.
abbrev pub written : OpenRow → Breaks → Decision
written open_row breaks = record (only_reply Done) { changes = breaks.changes; posts = breaks.posts; spots = spots_of open_row.file }

-- An open may write that writes or appends data.
abbrev pub write_file : Moment → FileView → Span → OpenRow → Decision
write_file now f span open_row =
    if_allowed f open_row 0x6 span (forbids_write open_row span) (written open_row (break_others now open_row.file f none_of_them open_row.lease))

-- the open that the handle names, if any
abbrev pub write_first : Moment → View → Span → List OpenRow → Decision
write_first now v span [] = only_reply FileClosed
write_first now v span (open_row ∷ others) = write_file now (file_view open_row.file v) span open_row

unfoldable pub write : View → Caller → ℕ → Span → Decision
write v caller handle span = write_first caller.moment v span (v.opens_of_handle caller.sid handle)
