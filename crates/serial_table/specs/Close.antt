-- `close`.
use Rattle.std.specs.Prelude.{ℕ, List, [], ◌∷◌, if◌then◌else◌}
use Rattle.sid_core.specs.declared.reply.Reply.TheVariants.{Done, FileClosed}
use Rattle.serial_table.specs.declared.rows.OpenRow.{OpenRow}
use Rattle.serial_table.specs.declared.change.Change.{Change}
use Rattle.serial_table.specs.declared.change.Change.TheVariants.{DropOpen, AddPending}
use Rattle.serial_table.specs.View.{View}
use Rattle.serial_table.specs.declared.decision.Caller.{Caller}
use Rattle.serial_table.specs.declared.decision.Decision.{Decision}
use Rattle.serial_table.specs.Decision.{only_reply, spots_of}

-- Where the open is marked, its file is to go.
abbrev pub mark_passes : OpenRow → List Change
mark_passes open_row = if open_row.marked then AddPending open_row.file ∷ [] else []

-- The open goes, and its mark passes to its file.
abbrev pub close_open : OpenRow → Decision
close_open open_row = record (only_reply Done) { changes = DropOpen open_row.file open_row.id ∷ mark_passes open_row; spots = spots_of open_row.file }

-- the open that the handle names, if any
abbrev pub close_first : List OpenRow → Decision
close_first [] = only_reply FileClosed
close_first (open_row ∷ others) = close_open open_row

unfoldable pub close : View → Caller → ℕ → Decision
close v caller handle = close_first (v.opens_of_handle caller.sid handle)
