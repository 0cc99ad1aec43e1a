-- `unlock`.
use Rattle.std.specs.Prelude.{ℕ, List, [], ◌∷◌, if◌then◌else◌}
use Rattle.std.specs.List.{list_any}
use Rattle.sid_core.specs.declared.call.Span.{Span}
use Rattle.sid_core.specs.declared.call.Mode.{Mode}
use Rattle.sid_core.specs.declared.call.Mode.TheVariants.{Shared, Exclusive}
use Rattle.sid_core.specs.declared.reply.Reply.TheVariants.{Done, FileClosed, RangeNotLocked}
use Rattle.serial_table.specs.declared.rows.OpenRow.{OpenRow}
use Rattle.serial_table.specs.declared.change.Change.TheVariants.{DropRange}
use Rattle.serial_table.specs.declared.decision.Caller.{Caller}
use Rattle.serial_table.specs.declared.decision.Decision.{Decision}
use Rattle.serial_table.specs.View.{View}
use Rattle.serial_table.specs.File.{FileView, file_view}
use Rattle.serial_table.specs.Change.{same_range}
use Rattle.serial_table.specs.Decision.{only_reply, spots_of}
use Rattle.serial_table.specs.Range.{range_of}

-- the first range that is the same goes
abbrev pub drop_range : OpenRow → Span → Mode → Decision
drop_range open_row span mode = record (only_reply Done) { changes = DropRange (range_of open_row span mode) ∷ []; spots = spots_of open_row.file }

-- an exclusive range of the open with just this span, else a shared one
abbrev pub unlock_range : FileView → Span → OpenRow → Decision
unlock_range f span open_row =
    if list_any (same_range (range_of open_row span Exclusive)) f.ranges then drop_range open_row span Exclusive
    else (if list_any (same_range (range_of open_row span Shared)) f.ranges then drop_range open_row span Shared else only_reply RangeNotLocked)

-- the open that the handle names, if any
abbrev pub unlock_first : View → Span → List OpenRow → Decision
unlock_first v span [] = only_reply FileClosed
unlock_first v span (open_row ∷ others) = unlock_range (file_view open_row.file v) span open_row

unfoldable pub unlock : View → Caller → ℕ → Span → Decision
unlock v caller handle span = unlock_first v span (v.opens_of_handle caller.sid handle)
