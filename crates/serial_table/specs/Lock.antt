-- `lock`.
use Rattle.std.specs.Prelude.{ℕ, Bool, true, false, not, List, [], ◌∷◌, Option, None, Some, filter, find, if◌then◌else◌}
use Rattle.std.specs.Option.{option_map_or}
use Rattle.sid_core.specs.declared.ids.Sid.{Sid}
use Rattle.sid_core.specs.declared.ids.Spot.TheVariants.{RangesOf}
use Rattle.sid_core.specs.declared.call.Span.{Span}
use Rattle.sid_core.specs.declared.call.Mode.{Mode}
use Rattle.sid_core.specs.declared.reply.Reply.TheVariants.{Granted, FileClosed, AccessDenied, InvalidLockRange, LockNotGranted, Pending}
use Rattle.sid_core.specs.Values.{has}
use Rattle.serial_table.specs.declared.rows.OpenRow.{OpenRow}
use Rattle.serial_table.specs.declared.rows.RangeRow.{RangeRow}
use Rattle.serial_table.specs.declared.rows.WaiterRow.{WaiterRow}
use Rattle.serial_table.specs.declared.change.Change.TheVariants.{AddRange}
use Rattle.serial_table.specs.declared.decision.Caller.{Caller}
use Rattle.serial_table.specs.declared.decision.Decision.{Decision}
use Rattle.serial_table.specs.View.{View, has_id}
use Rattle.serial_table.specs.File.{FileView, file_view}
use Rattle.serial_table.specs.Decision.{only_reply, spots_of, no_longer_waits}
use Rattle.serial_table.specs.Break.{Breaks, break_others, none_of_them}
use Rattle.serial_table.specs.Range.{range_conflict, passes_end, range_of}

-- The range comes, and all bits of the file's other leases are broken, without waiting.
abbrev pub grant_range : OpenRow → Span → Mode → Breaks → Decision
grant_range open_row span mode breaks = record (only_reply (Granted None false)) {
  changes = AddRange (range_of open_row span mode) ∷ breaks.changes;
  posts = breaks.posts;
  spots = spots_of open_row.file;
}

-- the owner of the range's open, where that is connected
abbrev pub range_blocker : FileView → RangeRow → Option Sid
range_blocker f range = option_map_or (λ o. if o.connected then Some o.row.owner else None) (find (λ o. has_id range.id o.row) f.opens) None

abbrev pub range_waiter : Caller → ℕ → Option Sid → WaiterRow
range_waiter caller file blocker = record { sid = caller.sid; call = caller.number; spot = RangesOf file; blocker = blocker; upgrade = false }

abbrev pub wait_for_range : Caller → ℕ → Bool → Option Sid → Decision
wait_for_range caller file false blocker = only_reply LockNotGranted
wait_for_range caller file true blocker = record (only_reply Pending) { waits = Some (range_waiter caller file blocker) }

-- by the ranges that are in the way
abbrev pub lock_by : FileView → Caller → Span → Mode → Bool → OpenRow → List RangeRow → Decision
lock_by f caller span mode wait open_row [] = grant_range open_row span mode (break_others caller.moment open_row.file f none_of_them open_row.lease)
lock_by f caller span mode wait open_row (first ∷ others) = wait_for_range caller open_row.file wait (range_blocker f first)

-- An open may lock that reads or writes.
abbrev pub lock_range : FileView → Caller → Span → Mode → Bool → OpenRow → Decision
lock_range f caller span mode wait open_row =
    if not (has open_row.access.0 0x3) then only_reply AccessDenied
    else (if passes_end span then only_reply InvalidLockRange
    else lock_by f caller span mode wait open_row (filter (λ held. range_conflict held open_row.id span mode) f.ranges))

-- The caller no longer waits for the file's ranges, whatever follows.
abbrev pub lock_in : FileView → Caller → Span → Mode → Bool → OpenRow → Decision
lock_in f caller span mode wait open_row = no_longer_waits caller f.range_watches (lock_range f caller span mode wait open_row)

-- the open that the handle names, if any
abbrev pub lock_first : View → Caller → Span → Mode → Bool → List OpenRow → Decision
lock_first v caller span mode wait [] = only_reply FileClosed
lock_first v caller span mode wait (open_row ∷ others) = lock_in (file_view open_row.file v) caller span mode wait open_row

unfoldable pub lock : View → Caller → ℕ → Span → Mode → Bool → Decision
lock v caller handle span mode wait = lock_first v caller span mode wait (v.opens_of_handle caller.sid handle)
