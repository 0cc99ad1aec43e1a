-- Worked examples: which byte ranges overlap and conflict, and what `lock`, `unlock`, `read` and `write` decide. Worker 101 lives in session
-- 1 and 102 in session 3; session 1 of 102 has ended. Call 9 is of worker 102, whose handle is 4.
use Rattle.std.specs.Prelude.{◌≡◌, ℕ, Bool, true, false, List, [], ◌∷◌, None, Some, map, refl}
use Rattle.sid_core.specs.declared.call.Call.{Call}
use Rattle.sid_core.specs.declared.call.Call.TheVariants as call
use Rattle.sid_core.specs.declared.call.Mode.{Mode}
use Rattle.sid_core.specs.declared.call.Mode.TheVariants.{Shared, Exclusive}
use Rattle.sid_core.specs.declared.entry.Letter.TheVariants.{Break}
use Rattle.sid_core.specs.declared.ids.OpenId.{OpenId}
use Rattle.sid_core.specs.declared.ids.Spot.TheVariants.{OpenOf, RangesOf}
use Rattle.sid_core.specs.declared.reply.Reply.{Reply}
use Rattle.sid_core.specs.declared.reply.Reply.TheVariants.{Granted, Done, Pending, FileClosed, AccessDenied, InvalidParameter, InvalidLockRange, LockNotGranted, RangeNotLocked, FileLockConflict}
use Rattle.serial_table.specs.declared.change.Change.TheVariants as c
use Rattle.serial_table.specs.declared.rows.OpenRow.{OpenRow}
use Rattle.serial_table.specs.declared.rows.RangeRow.{RangeRow}
use Rattle.serial_table.specs.declared.table.Table.{Table}
use Rattle.serial_table.specs.Decision.{only_reply}
use Rattle.serial_table.specs.Range.{overlap, range_conflict, passes_end}
use Rattle.serial_table.proofs.CallsAt.{decision_at, outcome_at}
use Rattle.serial_table.proofs.Samples.{id, name, state, nothing_open, plain, leased, durable, lease, breaking, range, shared_range, waits, just_waits, wakes}
use Rattle.serial_table.proofs.SampleCalls.{us, them, our_call, their_call, span}

-- ---- which spans overlap

-- They share their last and first byte; they only touch.
last_byte_is_shared : overlap (span 10 10) (span 19 5) ≡ true
last_byte_is_shared = refl

touching_is_no_overlap : overlap (span 10 10) (span 20 5) ≡ false
touching_is_no_overlap = refl

the_other_way_round : overlap (span 19 5) (span 10 10) ≡ true
the_other_way_round = refl

touching_the_other_way_round : overlap (span 20 5) (span 10 10) ≡ false
touching_the_other_way_round = refl

one_within_the_other : overlap (span 10 10) (span 12 1) ≡ true
one_within_the_other = refl

-- No byte: inside a range it overlaps, at the range's last byte too; at its first byte and after its last one it doesn't.
empty_inside : overlap (span 15 0) (span 10 10) ≡ true
empty_inside = refl

empty_at_the_last_byte : overlap (span 19 0) (span 10 10) ≡ true
empty_at_the_last_byte = refl

empty_at_the_first_byte : overlap (span 10 0) (span 10 10) ≡ false
empty_at_the_first_byte = refl

empty_after_the_last_byte : overlap (span 20 0) (span 10 10) ≡ false
empty_after_the_last_byte = refl

range_over_an_empty_one : overlap (span 10 10) (span 15 0) ≡ true
range_over_an_empty_one = refl

range_from_an_empty_one : overlap (span 10 10) (span 10 0) ≡ false
range_from_an_empty_one = refl

empty_over_empty : overlap (span 10 0) (span 10 0) ≡ false
empty_over_empty = refl

-- ---- which ranges conflict, by the modes of the held and the asked one, of another open and of the same

abbrev conflict : Mode → OpenId → Mode → Bool
conflict held asking mode = range_conflict (record { id = id 101 4; file = 1; span = span 0 10; mode = held }) asking (span 5 1) mode

of_another_open : conflict Shared (id 102 4) Shared ∷ conflict Shared (id 102 4) Exclusive ∷ conflict Exclusive (id 102 4) Shared ∷ conflict Exclusive (id 102 4) Exclusive ∷ []
    ≡ false ∷ true ∷ true ∷ true ∷ []
of_another_open = refl

-- A shared range may lie over one's own exclusive one.
of_the_same_open : conflict Shared (id 101 4) Shared ∷ conflict Shared (id 101 4) Exclusive ∷ conflict Exclusive (id 101 4) Shared ∷ conflict Exclusive (id 101 4) Exclusive ∷ []
    ≡ false ∷ true ∷ false ∷ true ∷ []
of_the_same_open = refl

-- Without an overlap none does.
apart : range_conflict (range (id 101 4) 1 0) (id 102 4) (span 10 1) Exclusive ≡ false
apart = refl

-- ---- which spans have their last byte within 64 bits

to_the_last_byte : map passes_end (span 18446744073709551615 1 ∷ span 0 18446744073709551615 ∷ span 1 18446744073709551615 ∷ span 18446744073709551615 0 ∷ [])
    ≡ false ∷ false ∷ false ∷ false ∷ []
to_the_last_byte = refl

beyond_the_last_byte : map passes_end (span 18446744073709551615 2 ∷ span 2 18446744073709551615 ∷ []) ≡ true ∷ true ∷ []
beyond_the_last_byte = refl

-- ---- `lock`

-- the caller's open, and one of worker 101
abbrev own : OpenRow
own = plain 102 3 4 1

abbrev ours : OpenRow
ours = plain 101 1 4 1

abbrev with_access : ℕ → OpenRow → OpenRow
with_access access open_row = record open_row { access = record { 0 = access } }

abbrev table : List OpenRow → List RangeRow → Table
table opens ranges = record nothing_open { opens = opens; ranges = ranges; waiters = waits them 5 (RangesOf 1) us ∷ waits them 6 (OpenOf 1) us ∷ [] }

abbrev locks : ℕ → ℕ → Mode → Bool → Call
locks start length mode wait = call.Lock 4 (span start length) mode wait

-- Without an open there is no file, and the caller goes on waiting.
no_open_no_file : decision_at (table (ours ∷ []) []) their_call (locks 0 10 Shared true) ≡ only_reply FileClosed
unfolding decision_at
no_open_no_file = refl

-- The open neither reads nor writes data: refused before the span is looked at. The caller no longer waits for the file's ranges.
access_comes_first : decision_at (table (with_access 0x1F01FC own ∷ []) []) their_call (locks 18446744073709551615 2 Shared true)
    ≡ record (only_reply AccessDenied) { changes = c.DropWaiter them 5 ∷ [] }
unfolding decision_at
access_comes_first = refl

-- To read or to write is enough.
reader_locks : (decision_at (table (with_access 0x1 own ∷ []) []) their_call (locks 0 10 Exclusive false)).reply ≡ Granted None false
unfolding decision_at
reader_locks = refl

writer_locks : (decision_at (table (with_access 0x2 own ∷ []) []) their_call (locks 0 10 Shared false)).reply ≡ Granted None false
unfolding decision_at
writer_locks = refl

-- The span is looked at before the ranges.
span_comes_second : decision_at (table (own ∷ []) (range (id 101 4) 1 18446744073709551610 ∷ [])) their_call (locks 18446744073709551615 2 Exclusive true)
    ≡ record (only_reply InvalidLockRange) { changes = c.DropWaiter them 5 ∷ [] }
unfolding decision_at
span_comes_second = refl

-- Who doesn't wait is refused.
lock_is_refused : decision_at (table (own ∷ ours ∷ []) (range (id 101 4) 1 0 ∷ [])) their_call (locks 9 1 Shared false)
    ≡ record (only_reply LockNotGranted) { changes = c.DropWaiter them 5 ∷ [] }
unfolding decision_at
lock_is_refused = refl

-- Who waits waits behind the owner of the first range in the way, past one that isn't ..
lock_waits : decision_at (table (own ∷ ours ∷ []) (range (id 102 4) 1 20 ∷ range (id 101 4) 1 0 ∷ range (id 102 4) 1 5 ∷ [])) their_call (locks 9 1 Exclusive true)
    ≡ record (only_reply Pending) { changes = c.DropWaiter them 5 ∷ []; waits = Some (waits them 9 (RangesOf 1) us) }
unfolding decision_at
lock_waits = refl

-- .. and behind nobody where its open is disconnected.
lock_waits_for_nobody : decision_at (table (own ∷ durable (plain 102 1 3 1) ∷ []) (range (id 102 3) 1 0 ∷ [])) their_call (locks 9 1 Exclusive true)
    ≡ record (only_reply Pending) { changes = c.DropWaiter them 5 ∷ []; waits = Some (just_waits them 9 (RangesOf 1)) }
unfolding decision_at
lock_waits_for_nobody = refl

-- The ranges of another file are in nobody's way.
another_file : (decision_at (table (own ∷ plain 101 1 4 2 ∷ []) (range (id 101 4) 2 0 ∷ [])) their_call (locks 0 10 Exclusive true)).reply ≡ Granted None false
unfolding decision_at
another_file = refl

-- Granted: the range comes, and all bits of each other lease go, without waiting. One's own lease stays.
lock_breaks_others : decision_at (record nothing_open {
  opens = leased (name 2 7) own ∷ leased (name 1 7) ours ∷ leased (name 1 8) (plain 101 1 6 1) ∷ [];
  leases = lease (name 2 7) 1 7 ∷ lease (name 1 7) 1 3 ∷ lease (name 1 8) 1 1 ∷ [];
}) their_call (locks 0 10 Shared true) ≡ record {
  changes =
      c.AddRange (shared_range (id 102 4) 1 0) ∷ c.SetLease 1 (name 1 7) (state 3) (Some (breaking 0 0)) ∷ c.SetLease 1 (name 1 8) (state 0) None ∷ [];
  reply = Granted None false;
  posts =
      record { to = us; letter = Break 1 7 (state 3) (state 0) true } ∷ record { to = us; letter = Break 1 8 (state 1) (state 0) false } ∷ [];
  spots = OpenOf 1 ∷ RangesOf 1 ∷ [];
  waits = None;
}
unfolding decision_at
lock_breaks_others = refl

-- ---- `unlock`

abbrev unlocks : ℕ → ℕ → Call
unlocks start length = call.Unlock 4 (span start length)

-- The exclusive range goes before the shared one, though that be older.
exclusive_goes_first : decision_at (table (own ∷ []) (shared_range (id 102 4) 1 0 ∷ range (id 102 4) 1 0 ∷ [])) their_call (unlocks 0 10) ≡ record {
  changes = c.DropRange (range (id 102 4) 1 0) ∷ [];
  reply = Done;
  posts = [];
  spots = OpenOf 1 ∷ RangesOf 1 ∷ [];
  waits = None;
}
unfolding decision_at
exclusive_goes_first = refl

then_the_shared_one : (decision_at (table (own ∷ []) (shared_range (id 102 4) 1 0 ∷ range (id 102 4) 1 5 ∷ [])) their_call (unlocks 0 10)).changes
    ≡ c.DropRange (shared_range (id 102 4) 1 0) ∷ []
unfolding decision_at
then_the_shared_one = refl

-- Another length, another start, another open, and no open.
length_differs : decision_at (table (own ∷ []) (range (id 102 4) 1 0 ∷ [])) their_call (unlocks 0 9) ≡ only_reply RangeNotLocked
unfolding decision_at
length_differs = refl

start_differs : decision_at (table (own ∷ []) (range (id 102 4) 1 0 ∷ [])) their_call (unlocks 1 10) ≡ only_reply RangeNotLocked
unfolding decision_at
start_differs = refl

range_of_another_open : decision_at (table (own ∷ ours ∷ []) (range (id 101 4) 1 0 ∷ [])) their_call (unlocks 0 10) ≡ only_reply RangeNotLocked
unfolding decision_at
range_of_another_open = refl

unlock_without_an_open : decision_at (table (ours ∷ []) (range (id 101 4) 1 0 ∷ [])) their_call (unlocks 0 10) ≡ only_reply FileClosed
unfolding decision_at
unlock_without_an_open = refl

-- Who waits for the file's ranges is woken, and who waits for its opens isn't.
unlock_wakes : (outcome_at (table (ours ∷ []) (range (id 101 4) 1 0 ∷ [])) our_call (unlocks 0 10)).posts ≡ wakes them 5 ∷ []
unfolding outcome_at
unlock_wakes = refl

-- ---- `read` and `write`

abbrev reads : ℕ → ℕ → Call
reads start length = call.Read 4 (span start length)

abbrev writes : ℕ → ℕ → Call
writes start length = call.Write 4 (span start length)

abbrev reply_by : OpenRow → List RangeRow → Call → Reply
reply_by open_row ranges call = (decision_at (table (open_row ∷ ours ∷ []) ranges) their_call call).reply

without_an_open : (decision_at (table (ours ∷ []) []) their_call (reads 0 1)).reply ∷ (decision_at (table (ours ∷ []) []) their_call (writes 0 1)).reply ∷ []
    ≡ FileClosed ∷ FileClosed ∷ []
unfolding decision_at
without_an_open = refl

-- To read data or to execute lets one read; to write or to append lets one write.
who_reads : reply_by (with_access 0x1 own) [] (reads 0 1) ∷ reply_by (with_access 0x20 own) [] (reads 0 1) ∷ reply_by (with_access 0x1F01DE own) [] (reads 0 1) ∷ []
    ≡ Done ∷ Done ∷ AccessDenied ∷ []
unfolding decision_at
who_reads = refl

who_writes : reply_by (with_access 0x2 own) [] (writes 0 1) ∷ reply_by (with_access 0x4 own) [] (writes 0 1) ∷ reply_by (with_access 0x1F01F9 own) [] (writes 0 1) ∷ []
    ≡ Done ∷ Done ∷ AccessDenied ∷ []
unfolding decision_at
who_writes = refl

-- Access comes before all else; no byte is always done; the last byte comes before the ranges.
access_before_length : reply_by (with_access 0x2 own) [] (reads 0 0) ≡ AccessDenied
unfolding decision_at
access_before_length = refl

no_byte_is_done : reply_by own (range (id 101 4) 1 0 ∷ []) (reads 5 0) ∷ reply_by own (range (id 101 4) 1 0 ∷ []) (writes 5 0) ∷ []
    ≡ Done ∷ Done ∷ []
unfolding decision_at
no_byte_is_done = refl

last_byte_before_ranges : reply_by own (range (id 101 4) 1 18446744073709551610 ∷ []) (reads 18446744073709551615 2)
    ∷ reply_by own (range (id 101 4) 1 18446744073709551610 ∷ []) (writes 18446744073709551615 2) ∷ []
    ≡ InvalidParameter ∷ InvalidParameter ∷ []
unfolding decision_at
last_byte_before_ranges = refl

-- A read meets an exclusive range of another open, and no other.
reads_over_ranges : reply_by own (range (id 101 4) 1 0 ∷ []) (reads 9 1) ∷ reply_by own (range (id 101 4) 1 0 ∷ []) (reads 10 1)
    ∷ reply_by own (range (id 102 4) 1 0 ∷ []) (reads 9 1) ∷ reply_by own (shared_range (id 101 4) 1 0 ∷ []) (reads 9 1) ∷ []
    ≡ FileLockConflict ∷ Done ∷ Done ∷ Done ∷ []
unfolding decision_at
reads_over_ranges = refl

-- A write meets a shared range of any open, its own too, and an exclusive one of another.
writes_over_ranges : reply_by own (range (id 101 4) 1 0 ∷ []) (writes 9 1) ∷ reply_by own (shared_range (id 101 4) 1 0 ∷ []) (writes 9 1)
    ∷ reply_by own (shared_range (id 102 4) 1 0 ∷ []) (writes 9 1) ∷ reply_by own (range (id 102 4) 1 0 ∷ []) (writes 9 1)
    ∷ reply_by own (shared_range (id 101 4) 1 0 ∷ []) (writes 10 1) ∷ []
    ≡ FileLockConflict ∷ FileLockConflict ∷ FileLockConflict ∷ Done ∷ Done ∷ []
unfolding decision_at
writes_over_ranges = refl

-- the caller's open under its lease, beside one under a lease of RH, while the caller waits for the file's ranges
abbrev two_leases : Table
two_leases = record (table (leased (name 2 7) own ∷ leased (name 1 7) ours ∷ []) []) { leases = lease (name 2 7) 1 3 ∷ lease (name 1 7) 1 3 ∷ [] }

-- A write takes all bits of each other lease, without waiting, and leaves the caller's waiters.
write_breaks_others : decision_at two_leases their_call (writes 0 1) ≡ record {
  changes = c.SetLease 1 (name 1 7) (state 3) (Some (breaking 0 0)) ∷ [];
  reply = Done;
  posts = record { to = us; letter = Break 1 7 (state 3) (state 0) true } ∷ [];
  spots = OpenOf 1 ∷ RangesOf 1 ∷ [];
  waits = None;
}
unfolding decision_at
write_breaks_others = refl

-- No byte breaks nothing, and neither does a read.
no_byte_breaks_nothing : decision_at two_leases their_call (writes 0 0) ≡ only_reply Done
unfolding decision_at
no_byte_breaks_nothing = refl

read_breaks_nothing : decision_at two_leases their_call (reads 0 1) ≡ only_reply Done
unfolding decision_at
read_breaks_nothing = refl

-- A write by which a disconnected open goes wakes who waits for the file's opens, and then who waits for its ranges.
write_that_wakes : (outcome_at (record (table (ours ∷ durable (leased (name 2 7) (plain 102 1 3 1)) ∷ []) (range (id 102 3) 1 20 ∷ [])) { leases = lease (name 2 7) 1 3 ∷ [] }) our_call (writes 0 1)).posts
    ≡ wakes them 6 ∷ wakes them 5 ∷ []
unfolding outcome_at
write_that_wakes = refl
