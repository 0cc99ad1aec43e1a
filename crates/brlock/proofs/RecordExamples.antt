-- Worked examples: a record of ranges, some of opens that don't count. 101 lives in its session 2 and 103 in its session 1; 102 is dead.
use Rattle.std.specs.Prelude.{◌≡◌, ℕ, Bool, true, false, List, [], ◌∷◌, ◌==◌, Some, None, if◌then◌else◌, codes, refl}
use Rattle.sid_core.specs.declared.ids.OpenId.{OpenId}
use Rattle.sid_core.specs.declared.call.Span.{Span}
use Rattle.sid_core.specs.declared.call.Mode.{Mode}
use Rattle.sid_core.specs.declared.call.Mode.TheVariants.{Shared, Exclusive}
use Rattle.serial_table.specs.declared.rows.OpenRow.{OpenRow}
use Rattle.serial_table.specs.declared.rows.RangeRow.{RangeRow}
use Rattle.serial_table.specs.declared.decision.Caller.{Caller}
use Rattle.serial_table.specs.File.{FileView}
use Rattle.serial_table.specs.Lock.{lock_range}
use Rattle.serial_table.specs.Unlock.{unlock_range}
use Rattle.record_codec.specs.declared.range_rec.RangeItem.{RangeItem}
use Rattle.record_codec.specs.declared.register_rec.RegisterRec.{RegisterRec}
use Rattle.record_codec.specs.declared.share_rec.ShareEntry.{ShareEntry}
use Rattle.record_codec.specs.declared.share_rec.ShareRec.{ShareRec}
use Rattle.record_codec.specs.Counts.{Records}
use Rattle.brlock.specs.declared.answer.RAnswer.TheVariants.{Granted, Conflict, InvalidRange}
use Rattle.brlock.specs.Ranges.{counted_ranges, stale_ranges, valid_ids}
use Rattle.brlock.specs.Answer.{asked_item, told, first_conflict, without_range, ranges_with, without_changes, told_unlocked, first_forbidding, decided, told_io}

abbrev id : ℕ → ℕ → OpenId
id pid call = record { pid = pid; call = call }

abbrev span : ℕ → ℕ → Span
span start length = record { start = start; length = length }

abbrev worker : ℕ → Bool → ℕ → RegisterRec
worker number alive session = record { worker = number; alive = alive; session = session; connected = 0; ended = []; watchers = [] }

-- an open to read and write that shares all
abbrev entry : ℕ → ℕ → ℕ → ShareEntry
entry pid session call = record {
  id = id pid call;
  owner = record { pid = pid; session = session };
  handle = call;
  access = record { 0 = 3 };
  share = record { 0 = 7 };
  lease = None;
  durable = 0;
  opened = 4;
  marked = false;
}

-- Of the dead worker and of an earlier session of 101 there are entries that don't count.
abbrev share : ShareRec
share = record {
  file = 1;
  path = codes "/srv/data";
  name = codes "a.txt";
  pending = false;
  entries = entry 102 1 5 ∷ entry 101 1 2 ∷ entry 101 2 4 ∷ entry 103 1 6 ∷ [];
  watchers = [];
}

abbrev records : Records
records = record {
  register = λ pid. if pid == 101 then Some (worker 1 true 2) else (if pid == 102 then Some (worker 2 false 1) else (if pid == 103 then Some (worker 3 true 1) else None));
  mail = λ _. None;
  lease = λ _. None;
  share = λ file. if file == 1 then Some share else None;
}

-- Two of opens that don't count, and one of an open that has no entry. Then 101 has bytes 10 to 19 alone and shares them too, and 103
-- shares byte 40.
abbrev ranges : List RangeItem
ranges =
    asked_item (id 102 5) (span 0 100) Exclusive
    ∷ asked_item (id 101 2) (span 10 10) Exclusive
    ∷ asked_item (id 104 1) (span 0 100) Exclusive
    ∷ asked_item (id 101 4) (span 10 10) Exclusive
    ∷ asked_item (id 101 4) (span 10 10) Shared
    ∷ asked_item (id 103 6) (span 40 1) Shared ∷ []

-- ---- what counts

two_opens_count : valid_ids records 1 share ≡ id 101 4 ∷ id 103 6 ∷ []
two_opens_count = refl

abbrev row : ℕ → ℕ → Span → Mode → RangeRow
row pid call span mode = record { id = id pid call; file = 1; span = span; mode = mode }

three_count : counted_ranges records 1 ranges ≡ row 101 4 (span 10 10) Exclusive ∷ row 101 4 (span 10 10) Shared ∷ row 103 6 (span 40 1) Shared ∷ []
three_count = refl

-- None is of file 2, which has no share mode record.
none_elsewhere : counted_ranges records 2 ranges ≡ []
none_elsewhere = refl

three_are_stale : stale_ranges records 1 ranges ≡ asked_item (id 102 5) (span 0 100) Exclusive ∷ asked_item (id 101 2) (span 10 10) Exclusive ∷ asked_item (id 104 1) (span 0 100) Exclusive ∷ []
three_are_stale = refl

-- ---- what is answered

abbrev open_row : ℕ → ℕ → ℕ → OpenRow
open_row pid session call = record {
  id = id pid call;
  owner = record { pid = pid; session = session };
  handle = call;
  file = 1;
  access = record { 0 = 3 };
  share = record { 0 = 7 };
  lease = None;
  durable = 0;
  opened = record { 0 = 4 };
  marked = false;
}

abbrev f : FileView
f = record {
  opens = record { row = open_row 101 2 4; connected = true } ∷ record { row = open_row 103 1 6; connected = true } ∷ [];
  leases = λ _. [];
  ranges = counted_ranges records 1 ranges;
  open_watches = [];
  range_watches = [];
  pending = false;
}

abbrev us : OpenRow
us = open_row 101 2 4

abbrev them : OpenRow
them = open_row 103 1 6

abbrev caller : Caller
caller = record { sid = record { pid = 103; session = 1 }; guid = 7; number = 9; moment = record { 0 = 3 } }

-- One's own exclusive range is in the way of an exclusive one, and not of a shared one.
own_is_in_the_way : first_conflict f us (span 15 1) Exclusive ≡ Some (id 101 4)
own_is_in_the_way = refl

own_is_not_in_the_way : first_conflict f us (span 15 1) Shared ≡ None
own_is_not_in_the_way = refl

-- A stale range is in nobody's way.
stale_is_not_in_the_way : first_conflict f them (span 50 9) Exclusive ≡ None
stale_is_not_in_the_way = refl

-- No byte: inside a range, and at its edge.
inside : first_conflict f them (span 15 0) Exclusive ≡ Some (id 101 4)
inside = refl

at_the_edge : first_conflict f them (span 10 0) Exclusive ≡ None
at_the_edge = refl

-- The first of two
the_first : first_conflict f us (span 0 100) Exclusive ≡ Some (id 101 4)
the_first = refl

the_shared_one : first_conflict f us (span 20 100) Exclusive ≡ Some (id 103 6)
the_shared_one = refl

refused : told f caller (span 15 1) Shared false them (Conflict (id 101 4)) ≡ lock_range f caller (span 15 1) Shared false them
refused = refl

-- It waits behind 101.
waits : told f caller (span 15 1) Shared true them (Conflict (id 101 4)) ≡ lock_range f caller (span 15 1) Shared true them
waits = refl

granted : told f caller (span 0xFFFFFFFFFFFFFFFF 1) Exclusive true them Granted ≡ lock_range f caller (span 0xFFFFFFFFFFFFFFFF 1) Exclusive true them
granted = refl

past_the_end : told f caller (span 0xFFFFFFFFFFFFFFFF 2) Exclusive true them InvalidRange ≡ lock_range f caller (span 0xFFFFFFFFFFFFFFFF 2) Exclusive true them
past_the_end = refl

empty_at_the_end : told f caller (span 0xFFFFFFFFFFFFFFFF 0) Exclusive true them Granted ≡ lock_range f caller (span 0xFFFFFFFFFFFFFFFF 0) Exclusive true them
empty_at_the_end = refl

-- ---- ranges that go

-- the exclusive one, though a stale one like it stands before it
exclusive_goes : without_range (id 101 4) (span 10 10) ranges
    ≡ asked_item (id 102 5) (span 0 100) Exclusive
    ∷ asked_item (id 101 2) (span 10 10) Exclusive
    ∷ asked_item (id 104 1) (span 0 100) Exclusive
    ∷ asked_item (id 101 4) (span 10 10) Shared
    ∷ asked_item (id 103 6) (span 40 1) Shared ∷ []
exclusive_goes = refl

exclusive_first : without_range (id 101 4) (span 0 9) (asked_item (id 101 4) (span 0 9) Shared ∷ asked_item (id 101 4) (span 0 9) Exclusive ∷ []) ≡ asked_item (id 101 4) (span 0 9) Shared ∷ []
exclusive_first = refl

one_shared_goes : without_range (id 101 4) (span 0 9) (asked_item (id 101 4) (span 0 9) Shared ∷ asked_item (id 101 4) (span 0 9) Shared ∷ []) ≡ asked_item (id 101 4) (span 0 9) Shared ∷ []
one_shared_goes = refl

goes_in_the_table : ranges_with f (unlock_range f (span 10 10) us) ≡ row 101 4 (span 10 10) Shared ∷ row 103 6 (span 40 1) Shared ∷ []
goes_in_the_table = refl

done : told_unlocked us true ≡ without_changes (unlock_range f (span 10 10) us)
done = refl

-- The bytes have to be just these, and of this open.
not_locked : told_unlocked us false ≡ without_changes (unlock_range f (span 10 9) us)
not_locked = refl

not_theirs : told_unlocked them false ≡ without_changes (unlock_range f (span 10 10) them)
not_theirs = refl

-- ---- reads and writes

-- 101 may read its own bytes, and 103 may not.
reads_own : first_forbidding f us (span 10 1) false ≡ None
reads_own = refl

reads_theirs : first_forbidding f them (span 0 11) false ≡ Some (id 101 4)
reads_theirs = refl

-- A shared range forbids to write, also to its own open, and not to read.
writes_shared : first_forbidding f us (span 40 1) true ∷ first_forbidding f them (span 40 1) true ∷ first_forbidding f us (span 19 1) true ∷ [] ≡ Some (id 103 6) ∷ Some (id 103 6) ∷ Some (id 101 4) ∷ []
writes_shared = refl

reads_shared : first_forbidding f us (span 40 1) false ≡ None
reads_shared = refl

read_is_refused : told_io (record { 0 = 3 }) f them false (Some (id 101 4)) ≡ decided (record { 0 = 3 }) f (span 0 11) them false
read_is_refused = refl

write_is_done : told_io (record { 0 = 3 }) f them true None ≡ decided (record { 0 = 3 }) f (span 20 20) them true
write_is_done = refl
