-- What an answer tells of what the table decides, which open a refusal names, and what becomes of the record.
use Rattle.std.specs.Prelude.{ℕ, Bool, true, false, List, [], ◌∷◌, ◌++◌, Option, Some, None, find, if◌then◌else◌}
use Rattle.std.specs.List.{list_any}
use Rattle.std.specs.Option.{option_map}
use Rattle.sid_core.specs.declared.ids.OpenId.{OpenId}
use Rattle.sid_core.specs.declared.ids.Moment.{Moment}
use Rattle.sid_core.specs.declared.call.Span.{Span}
use Rattle.sid_core.specs.declared.call.Mode.{Mode}
use Rattle.sid_core.specs.declared.call.Mode.TheVariants.{Shared, Exclusive}
use Rattle.sid_core.specs.declared.reply.Reply.TheVariants.{Done, FileLockConflict, InvalidLockRange, LockNotGranted, RangeNotLocked}
use Rattle.serial_table.specs.declared.rows.OpenRow.{OpenRow}
use Rattle.serial_table.specs.declared.rows.RangeRow.{RangeRow}
use Rattle.serial_table.specs.declared.change.Change.TheVariants.{AddRange}
use Rattle.serial_table.specs.declared.decision.Caller.{Caller}
use Rattle.serial_table.specs.declared.decision.Decision.{Decision}
use Rattle.serial_table.specs.File.{FileView}
use Rattle.serial_table.specs.Lists.{drop_first}
use Rattle.serial_table.specs.Local.{perform_in_file, perform_all_in_file}
use Rattle.serial_table.specs.Change.{same_range}
use Rattle.serial_table.specs.Decision.{only_reply, spots_of}
use Rattle.serial_table.specs.Break.{break_others, none_of_them}
use Rattle.serial_table.specs.Range.{range_conflict, passes_end, range_of}
use Rattle.serial_table.specs.Lock.{grant_range, range_blocker, wait_for_range}
use Rattle.serial_table.specs.ReadWrite.{forbids_read, read_file, forbids_write, written, write_file}
use Rattle.record_codec.specs.declared.range_rec.RangeItem.{RangeItem}
use Rattle.record_codec.specs.declared.range_rec.RangeRec.{RangeRec}
use Rattle.brlock.specs.declared.answer.RAnswer.{RAnswer}
use Rattle.brlock.specs.declared.answer.RAnswer.TheVariants.{Granted, Conflict, InvalidRange, OutOfMemory}
use Rattle.record_rows.specs.Rows.{range_row}

-- a range of this open
abbrev pub asked_item : OpenId → Span → Mode → RangeItem
asked_item id span mode = record { id = id; start = span.start; length = span.length; mode = mode }

-- ---- `lock`

-- Said of each answer but that for want of memory.
abbrev pub IfAnswered : RAnswer → Type 0 → Type 0
IfAnswered OutOfMemory said = Unit {0}
IfAnswered _ said = said

-- The range has come, or there was no memory for it.
abbrev pub IsAdded : RAnswer → Type 0
IsAdded Granted = Unit {0}
IsAdded OutOfMemory = Unit {0}
IsAdded _ = ⊥

abbrev pub is_invalid : RAnswer → Bool
is_invalid InvalidRange = true
is_invalid _ = false

-- the open that is named as being in the way
abbrev pub in_the_way : RAnswer → Option OpenId
in_the_way (Conflict id) = Some id
in_the_way _ = None

-- The open of the first range that conflicts, unless the asked one passes the end.
abbrev pub first_conflict : FileView → OpenRow → Span → Mode → Option OpenId
first_conflict f open_row span mode =
    if passes_end span then None else option_map (λ (held : RangeRow). held.id) (find (λ held. range_conflict held open_row.id span mode) f.ranges)

-- What the answer tells of the decision. What is granted breaks the file's other leases, and what waits does so behind the named open.
abbrev pub told : FileView → Caller → Span → Mode → Bool → OpenRow → RAnswer → Decision
told f caller span mode wait open_row Granted = grant_range open_row span mode (break_others caller.moment open_row.file f none_of_them open_row.lease)
told f caller span mode wait open_row (Conflict id) = wait_for_range caller open_row.file wait (range_blocker f (range_row open_row.file (asked_item id span mode)))
told f caller span mode wait open_row InvalidRange = only_reply InvalidLockRange
told f caller span mode wait open_row OutOfMemory = only_reply LockNotGranted

-- a range that is granted comes behind the others
abbrev pub locked : RAnswer → OpenId → Span → Mode → RangeRec → RangeRec
locked Granted id span mode rec = record rec { ranges = rec.ranges ++ asked_item id span mode ∷ [] }
locked _ id span mode rec = rec

-- the ranges of the file once it has come
abbrev pub ranges_after : RAnswer → FileView → OpenRow → Span → Mode → List RangeRow
ranges_after Granted f open_row span mode = (perform_in_file (AddRange (range_of open_row span mode)) f).ranges
ranges_after _ f open_row span mode = f.ranges

-- ---- `unlock`

-- A decision without what it changes: the reply, and the spots that it frees.
abbrev pub without_changes : Decision → Decision
without_changes decision = record decision { changes = [] }

abbrev pub told_unlocked : OpenRow → Bool → Decision
told_unlocked open_row true = record (only_reply Done) { spots = spots_of open_row.file }
told_unlocked open_row false = only_reply RangeNotLocked

-- this range of the open, in this mode
abbrev pub is_range : OpenId → Span → Mode → RangeItem → Bool
is_range id span mode held = same_range (range_row 0 (asked_item id span mode)) (range_row 0 held)

abbrev pub has_range : OpenId → Span → Mode → List RangeItem → Bool
has_range id span mode ranges = list_any (is_range id span mode) ranges

-- the first exclusive one goes, else the first shared one
abbrev pub without_range : OpenId → Span → List RangeItem → List RangeItem
without_range id span ranges =
    if has_range id span Exclusive ranges then drop_first (is_range id span Exclusive) ranges else drop_first (is_range id span Shared) ranges

-- the ranges of the file once a decision's changes are made
abbrev pub ranges_with : FileView → Decision → List RangeRow
ranges_with f decision = (perform_all_in_file decision.changes f).ranges

-- ---- `check_io`

-- the access right of which a bit is wanted
abbrev pub wanted : Bool → ℕ
wanted true = 0x6
wanted false = 0x21

abbrev pub forbids : OpenRow → Span → Bool → RangeRow → Bool
forbids open_row span true range = forbids_write open_row span range
forbids open_row span false range = forbids_read open_row span range

-- the open of the first range that forbids it
abbrev pub first_forbidding : FileView → OpenRow → Span → Bool → Option OpenId
first_forbidding f open_row span write = option_map (λ (held : RangeRow). held.id) (find (forbids open_row span write) f.ranges)

-- what a `read` or a `write` decides
abbrev pub decided : Moment → FileView → Span → OpenRow → Bool → Decision
decided now f span open_row true = write_file now f span open_row
decided now f span open_row false = read_file f span open_row

-- what is done where nothing forbids it
abbrev pub done : Moment → FileView → OpenRow → Bool → Decision
done now f open_row true = written open_row (break_others now open_row.file f none_of_them open_row.lease)
done now f open_row false = only_reply Done

abbrev pub told_io : Moment → FileView → OpenRow → Bool → Option OpenId → Decision
told_io now f open_row write (Some id) = only_reply FileLockConflict
told_io now f open_row write None = done now f open_row write
