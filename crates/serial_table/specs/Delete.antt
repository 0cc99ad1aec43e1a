-- `delete`.
use Rattle.std.specs.Prelude.{ℕ, Bool, not, List, [], ◌∷◌, if◌then◌else◌}
use Rattle.sid_core.specs.declared.bits.Access.{Access}
use Rattle.sid_core.specs.declared.reply.Reply.TheVariants.{Done, FileClosed, AccessDenied}
use Rattle.sid_core.specs.Values.{has}
use Rattle.serial_table.specs.declared.rows.OpenRow.{OpenRow}
use Rattle.serial_table.specs.declared.change.Change.{Change}
use Rattle.serial_table.specs.declared.change.Change.TheVariants.{AddPending, DropPending}
use Rattle.serial_table.specs.declared.decision.Caller.{Caller}
use Rattle.serial_table.specs.declared.decision.Decision.{Decision}
use Rattle.serial_table.specs.View.{View}
use Rattle.serial_table.specs.Decision.{only_reply}

-- the right to delete: DELETE
abbrev pub may_delete : Access → Bool
may_delete access = has access.0 0x10000

-- the file is to go once its last open is closed, or is to stay
abbrev pub sets_pending : ℕ → Bool → Change
sets_pending file on = if on then AddPending file else DropPending file

-- An open may do so that may delete.
abbrev pub delete_file : Bool → OpenRow → Decision
delete_file on open_row =
    if not (may_delete open_row.access) then only_reply AccessDenied
    else record (only_reply Done) { changes = sets_pending open_row.file on ∷ [] }

-- the open that the handle names, if any
abbrev pub delete_first : Bool → List OpenRow → Decision
delete_first on [] = only_reply FileClosed
delete_first on (open_row ∷ others) = delete_file on open_row

unfoldable pub delete : View → Caller → ℕ → Bool → Decision
delete v caller handle on = delete_first on (v.opens_of_handle caller.sid handle)
