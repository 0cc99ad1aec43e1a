-- Worked examples: what `recv`, `disconnect`, `reconnect` and `scavenge` decide and come to. Worker 101 lives in session 1 and 102 in session
-- 3; session 1 of 102 ended at moment 10, and 103 is dead: its session 1 ended at 20 and its session 2 at 50. Calls are at moment 70.
use Rattle.std.specs.Prelude.{◌≡◌, ℕ, true, [], ◌∷◌, None, Some, refl}
use Rattle.sid_core.specs.declared.call.Call.TheVariants as call
use Rattle.sid_core.specs.declared.ids.Spot.TheVariants.{OpenOf, RangesOf, LockOf}
use Rattle.sid_core.specs.declared.reply.Reply.TheVariants.{Granted, Done, Message, NoMessage, Scavenged, Shown, ObjectNameNotFound}
use Rattle.serial_table.specs.declared.change.Change.TheVariants as c
use Rattle.serial_table.specs.declared.rows.LeaseRow.{LeaseRow}
use Rattle.serial_table.specs.declared.rows.OpenRow.{OpenRow}
use Rattle.serial_table.specs.declared.table.Table.{Table}
use Rattle.serial_table.specs.View.{view}
use Rattle.serial_table.specs.Decision.{only_reply}
use Rattle.serial_table.specs.Durable.{deadline}
use Rattle.serial_table.proofs.CallsAt.{decision_at, outcome_at, table_after}
use Rattle.serial_table.proofs.Samples.{sid, id, name, at, state, nothing_open, worker_101, worker_102, worker_103, ended, plain, leased, durable, lease, range, shares_lock, waits, just_waits, wakes, break_letter}
use Rattle.serial_table.proofs.SampleCalls.{us, them, our_call, their_call, shows}

-- ---- `recv`

-- The first letter of the caller's own mailbox. Other letters and waiters stay.
first_letter : decision_at (record nothing_open { letters = wakes us 1 ∷ break_letter them ∷ wakes them 5 ∷ []; waiters = waits them 5 (OpenOf 1) us ∷ [] }) their_call call.Recv
    ≡ record { changes = c.TakeLetter them ∷ []; reply = Message (break_letter them).letter; posts = []; spots = []; waits = None }
unfolding decision_at
first_letter = refl

-- What an earlier session of the worker left is in no mailbox.
no_letter : decision_at (record nothing_open { letters = wakes us 1 ∷ wakes (sid 102 2) 5 ∷ [] }) their_call call.Recv ≡ only_reply NoMessage
unfolding decision_at
no_letter = refl

-- ---- `disconnect`

-- The end of the session, then settling, then the next session.
three_steps : decision_at (record nothing_open { waiters = waits them 5 (LockOf 8) us ∷ waits us 6 (LockOf 8) us ∷ waits them 7 (LockOf 9) them ∷ [] }) our_call call.Disconnect ≡ record {
  changes = c.DropWaiter them 5 ∷ c.DropWaiter us 6 ∷ c.EndSession us (at 70) ∷ c.Settle ∷ c.NextSession us (at 70) ∷ [];
  reply = Done;
  posts = wakes them 5 ∷ [];
  spots = [];
  waits = None;
}
unfolding decision_at
three_steps = refl

-- Plain opens go, durable ones stay with their ranges, holds, waiters and letters go. The next session starts at the same moment. Of those
-- that wait only those behind the session are woken.
disconnected : table_after (record nothing_open {
  opens = plain 101 1 4 1 ∷ durable (leased (name 1 7) (plain 101 1 5 1)) ∷ plain 102 3 4 1 ∷ [];
  leases = lease (name 1 7) 1 7 ∷ [];
  ranges = range (id 101 4) 1 0 ∷ range (id 101 5) 1 20 ∷ [];
  holds = shares_lock us 8 ∷ shares_lock them 8 ∷ [];
  waiters = just_waits them 5 (RangesOf 1) ∷ waits us 6 (LockOf 9) them ∷ waits them 7 (LockOf 8) us ∷ [];
  letters = wakes us 1 ∷ wakes them 2 ∷ [];
}) our_call call.Disconnect ≡ record nothing_open {
  opens = durable (leased (name 1 7) (plain 101 1 5 1)) ∷ plain 102 3 4 1 ∷ [];
  leases = lease (name 1 7) 1 7 ∷ [];
  ranges = range (id 101 5) 1 20 ∷ [];
  holds = shares_lock them 8 ∷ [];
  waiters = just_waits them 5 (RangesOf 1) ∷ [];
  letters = wakes them 2 ∷ wakes them 7 ∷ [];
  workers = record worker_101 { session = 2; connected = at 70 } ∷ worker_102 ∷ worker_103 ∷ [];
  ended = ended 102 1 10 ∷ ended 103 1 20 ∷ ended 102 2 40 ∷ ended 103 2 50 ∷ ended 101 1 70 ∷ [];
}
unfolding table_after
disconnected = refl

-- ---- deadlines

-- The end of the present owner's session, and the durable seconds later. It doesn't count which worker made the open, nor when.
deadline_of_an_open : deadline (view nothing_open) (record (durable (plain 102 1 4 1)) { owner = sid 103 2 }) ≡ Some 110
deadline_of_an_open = refl

-- While the session lives there is none.
no_deadline : deadline (view nothing_open) (durable (plain 102 3 4 1)) ≡ None
no_deadline = refl

-- ---- `reconnect`: worker 102 asks for what its own or another worker's call made

-- disconnected since 40, to last for 31 seconds
abbrev lasting : OpenRow
lasting = record (leased (name 2 7) (plain 102 2 4 1)) { durable = 31 }

abbrev table : OpenRow → Table
table open_row = record nothing_open { opens = plain 101 1 4 1 ∷ open_row ∷ []; leases = lease (name 2 7) 1 3 ∷ [] }

-- Its owner is the caller's session, and its handle the call's number. It tells what the lease holds.
taken_up : decision_at (table lasting) their_call (call.Reconnect 2 4 7)
    ≡ record { changes = c.TakeOver 1 (id 102 4) them 9 ∷ []; reply = Granted (Some (state 3)) true; posts = []; spots = []; waits = None }
unfolding decision_at
taken_up = refl

-- Its place, id, seconds and moment stay.
place_stays : (table_after (record (table lasting) { opens = lasting ∷ plain 101 1 4 1 ∷ [] }) their_call (call.Reconnect 2 4 7)).opens
    ≡ record lasting { owner = them; handle = 9 } ∷ plain 101 1 4 1 ∷ []
unfolding table_after
place_stays = refl

-- At the deadline it is too late.
at_the_deadline : decision_at (table (record lasting { durable = 30 })) their_call (call.Reconnect 2 4 7) ≡ only_reply ObjectNameNotFound
unfolding decision_at
at_the_deadline = refl

-- The deadline goes by the present owner, here session 2 of worker 103, whichever worker made the open.
by_the_present_owner : (decision_at (table (record lasting { owner = sid 103 2; durable = 21 })) their_call (call.Reconnect 2 4 7)).reply ≡ Granted (Some (state 3)) true
unfolding decision_at
by_the_present_owner = refl

-- It is named by the call that made it, and not by its handle.
not_by_its_handle : decision_at (table (record lasting { handle = 8 })) their_call (call.Reconnect 2 8 7) ≡ only_reply ObjectNameNotFound
unfolding decision_at
not_by_its_handle = refl

-- A connected open, another worker's, another key, another client's lease, and an open without a lease.
is_connected : decision_at (table (record lasting { owner = sid 102 3 })) their_call (call.Reconnect 2 4 7) ≡ only_reply ObjectNameNotFound
unfolding decision_at
is_connected = refl

of_another_worker : decision_at (table lasting) their_call (call.Reconnect 3 4 7) ≡ only_reply ObjectNameNotFound
unfolding decision_at
of_another_worker = refl

under_another_key : decision_at (table lasting) their_call (call.Reconnect 2 4 8) ≡ only_reply ObjectNameNotFound
unfolding decision_at
under_another_key = refl

of_another_client : decision_at (table lasting) our_call (call.Reconnect 2 4 7) ≡ only_reply ObjectNameNotFound
unfolding decision_at
of_another_client = refl

under_no_lease : decision_at (table (record lasting { lease = None })) their_call (call.Reconnect 2 4 7) ≡ only_reply ObjectNameNotFound
unfolding decision_at
under_no_lease = refl

lease_is_not_there : decision_at (record (table lasting) { leases = lease (name 2 7) 2 3 ∷ [] }) their_call (call.Reconnect 2 4 7) ≡ only_reply ObjectNameNotFound
unfolding decision_at
lease_is_not_there = refl

nobody_is_worker_0 : decision_at (table lasting) their_call (call.Reconnect 0 4 7) ≡ only_reply ObjectNameNotFound
unfolding decision_at
nobody_is_worker_0 = refl

-- Whose session lives is connected, though a table made by hand say that it has ended.
abbrev said_to_have_ended : Table
said_to_have_ended = record (table (record lasting { owner = them })) { ended = ended 102 3 45 ∷ [] }

living_is_connected : decision_at said_to_have_ended their_call (call.Reconnect 2 4 7) ≡ only_reply ObjectNameNotFound
unfolding decision_at
living_is_connected = refl

-- ---- `scavenge`

-- an open of a file under a lease of its own, disconnected since 10
abbrev old : ℕ → ℕ → ℕ → OpenRow
old call file seconds = record (leased (name 2 call) (plain 102 1 call file)) { durable = seconds }

abbrev under : OpenRow → LeaseRow
under open_row = lease (name 2 open_row.id.call) open_row.file 3

-- 60 seconds from 10 are over at 70, and 61 aren't. File by file in rising number, each in the order of its opens.
expired_opens_go : decision_at (record nothing_open {
  opens = old 1 2 60 ∷ old 2 1 60 ∷ old 3 1 61 ∷ plain 101 1 4 1 ∷ old 5 1 5 ∷ [];
  leases = under (old 1 2 60) ∷ under (old 2 1 60) ∷ under (old 3 1 61) ∷ under (old 5 1 5) ∷ [];
}) our_call call.Scavenge ≡ record {
  changes = c.DropOpen 1 (id 102 2) ∷ c.DropOpen 1 (id 102 5) ∷ c.DropOpen 2 (id 102 1) ∷ [];
  reply = Scavenged 3;
  posts = [];
  spots = OpenOf 1 ∷ RangesOf 1 ∷ OpenOf 2 ∷ RangesOf 2 ∷ [];
  waits = None;
}
unfolding decision_at
expired_opens_go = refl

-- A file without such an open has no part in it.
no_expired_open : decision_at (record nothing_open { opens = old 3 1 61 ∷ durable (plain 101 1 4 1) ∷ []; leases = under (old 3 1 61) ∷ [] }) our_call call.Scavenge ≡ only_reply (Scavenged 0)
unfolding decision_at
no_expired_open = refl

living_is_not_expired : decision_at (record said_to_have_ended { ended = ended 102 3 30 ∷ [] }) our_call call.Scavenge ≡ only_reply (Scavenged 0)
unfolding decision_at
living_is_not_expired = refl

-- The wakes: of file 1 first who waits for its opens, then who waits for its ranges; then of file 2.
scavenging_wakes : (outcome_at (record nothing_open {
  opens = old 1 2 60 ∷ old 2 1 60 ∷ [];
  leases = under (old 1 2 60) ∷ under (old 2 1 60) ∷ [];
  ranges = range (id 102 2) 1 0 ∷ [];
  waiters = just_waits us 1 (OpenOf 2) ∷ just_waits us 2 (RangesOf 2) ∷ just_waits us 3 (RangesOf 1) ∷ just_waits us 4 (OpenOf 1) ∷ [];
}) our_call call.Scavenge).posts ≡ wakes us 4 ∷ wakes us 3 ∷ wakes us 1 ∷ []
unfolding outcome_at
scavenging_wakes = refl

-- ---- calls that change nothing

tidying : decision_at (table lasting) their_call call.Tidy ≡ only_reply Done
unfolding decision_at
tidying = refl

showing : decision_at (table lasting) their_call (shows true true true) ≡ only_reply Shown
unfolding decision_at
showing = refl
