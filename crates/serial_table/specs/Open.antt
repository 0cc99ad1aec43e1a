-- `open`, with its leases, durable seconds and overwriting.
use Rattle.std.specs.Prelude.{Bool, false, ◌&&◌, not, Option, Some, None, if◌then◌else◌}
use Rattle.std.specs.List.{list_any}
use Rattle.sid_core.specs.declared.ids.Sid.{Sid}
use Rattle.sid_core.specs.declared.ids.Spot.TheVariants.{OpenOf}
use Rattle.sid_core.specs.declared.reply.Reply.TheVariants.{SharingViolation, InvalidParameter, AccessDenied, DeletePending, Pending}
use Rattle.serial_table.specs.declared.rows.WaiterRow.{WaiterRow}
use Rattle.serial_table.specs.declared.decision.Caller.{Caller}
use Rattle.serial_table.specs.declared.decision.Decision.{Decision}
use Rattle.serial_table.specs.View.{View}
use Rattle.serial_table.specs.File.{FileView, file_view}
use Rattle.serial_table.specs.Local.{perform_all_in_file}
use Rattle.serial_table.specs.Decision.{only_reply, spots_of, no_longer_waits}
use Rattle.serial_table.specs.Break.{Breaks, no_break, both, break_each, break_others, names_of, all_but_handle, all_but_write, none_of_them}
use Rattle.serial_table.specs.Asked.{Asked, is_stat, deletes_without_right, is_elsewhere, in_conflict, refuses}
use Rattle.serial_table.specs.Grant.{grant}

-- ---- the breaks

-- HANDLE of each lease of the opens that conflict
unfoldable pub handle_breaks : FileView → Asked → Breaks
handle_breaks f asked = break_each asked.moment asked.file f all_but_handle (names_of (in_conflict f asked))

-- WRITE, or all three bits to overwrite, of each other lease of the file. Who only asks for attributes breaks nothing.
unfoldable pub other_breaks : FileView → Asked → Breaks
other_breaks f asked =
    if is_stat asked.access && not asked.overwrite then no_break
    else break_others asked.moment asked.file f (if asked.overwrite then none_of_them else all_but_write) asked.lease

-- ---- the steps

abbrev pub open_waiter : Caller → Asked → Sid → WaiterRow
open_waiter caller asked blocker = record { sid = caller.sid; call = caller.number; spot = OpenOf asked.file; blocker = Some blocker; upgrade = false }

-- The caller waits for the first lease that blocks. All breaks of the step are made.
abbrev pub wait_for_open : Caller → Asked → Breaks → Sid → Decision
wait_for_open caller asked done blocker = record (only_reply Pending) {
  changes = done.changes;
  posts = done.posts;
  spots = spots_of asked.file;
  waits = Some (open_waiter caller asked blocker);
}

abbrev pub wait_or_grant : FileView → Caller → Asked → Breaks → Option Sid → Decision
wait_or_grant f caller asked done (Some blocker) = wait_for_open caller asked done blocker
wait_or_grant f caller asked done None = grant (perform_all_in_file done.changes f) caller asked done

-- what follows once HANDLE is broken: the other breaks, at the file as the first ones left it
abbrev pub go_on : FileView → Caller → Asked → Breaks → Option Sid → Decision
go_on f caller asked done (Some blocker) = wait_for_open caller asked done blocker
go_on f caller asked done None =
    wait_or_grant f caller asked (both done (other_breaks (perform_all_in_file done.changes f) asked)) (other_breaks (perform_all_in_file done.changes f) asked).blocker

-- No open that conflicts may refuse; then the breaks, and the grant.
abbrev pub open_shared : FileView → Caller → Asked → Decision
open_shared f caller asked =
    if list_any (refuses f asked) (in_conflict f asked) then only_reply SharingViolation
    else go_on f caller asked (handle_breaks f asked) (handle_breaks f asked).blocker

-- Who marks its open has to have the right to delete. The asked lease may not be of another file, and the file may not be to go.
unfoldable pub open_by : Bool → FileView → Caller → Asked → Decision
open_by elsewhere f caller asked =
    if deletes_without_right asked then only_reply AccessDenied
    else (if elsewhere then only_reply InvalidParameter
    else (if f.pending then only_reply DeletePending else open_shared f caller asked))

-- The caller no longer waits for the file's opens, whatever follows.
unfoldable pub open_file : View → Caller → Asked → Decision
open_file v caller asked =
    no_longer_waits caller (file_view asked.file v).open_watches (open_by (is_elsewhere v asked) (file_view asked.file v) caller asked)
