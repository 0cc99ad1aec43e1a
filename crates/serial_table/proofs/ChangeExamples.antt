-- Worked examples: what each change does to the table. Worker 101 lives in session 1 and 102 in session 3.
use Rattle.std.specs.Prelude.{◌≡◌, true, false, [], ◌∷◌, None, Some, refl}
use Rattle.sid_core.specs.declared.call.Mode.TheVariants.{Exclusive}
use Rattle.sid_core.specs.declared.ids.Sid.{Sid}
use Rattle.sid_core.specs.declared.ids.LeaseName.{LeaseName}
use Rattle.sid_core.specs.declared.ids.Spot.TheVariants.{OpenOf, RangesOf, LockOf}
use Rattle.serial_table.specs.declared.change.Change.TheVariants as c
use Rattle.serial_table.specs.declared.rows.OpenRow.{OpenRow}
use Rattle.serial_table.specs.View.{view}
use Rattle.serial_table.specs.Settle.{settle_where}
use Rattle.serial_table.specs.Change.{perform, perform_all, perform_by_key, new_owner, set_lease, set_hold, end_session, begin_session}
use Rattle.serial_table.proofs.Samples.{sid, id, name, at, state, nothing_open, worker_101, worker_102, worker_103, ended, plain, leased, durable, lease, breaking, breaks, range, shared_range, shares_lock, holds_alone, waits, just_waits, wakes, break_letter}

abbrev us : Sid
us = sid 101 1

abbrev them : Sid
them = sid 102 3

-- ---- opens

abbrev first : OpenRow
first = plain 101 1 4 1

abbrev second : OpenRow
second = plain 102 3 4 1

abbrev third : OpenRow
third = plain 101 1 5 2

-- A new open is the last one.
open_comes_last : perform (c.AddOpen second) (record nothing_open { opens = third ∷ first ∷ [] })
    ≡ record nothing_open { opens = third ∷ first ∷ second ∷ [] }
open_comes_last = refl

-- An open goes with its ranges. The open of another pid with the same call stays, and so does its range.
open_goes_with_its_ranges : perform (c.DropOpen 1 (id 101 4)) (record nothing_open {
  opens = first ∷ second ∷ third ∷ [];
  ranges = range (id 101 4) 1 0 ∷ range (id 102 4) 1 10 ∷ range (id 101 4) 1 20 ∷ range (id 101 5) 2 0 ∷ [];
}) ≡ record nothing_open { opens = second ∷ third ∷ []; ranges = range (id 102 4) 1 10 ∷ range (id 101 5) 2 0 ∷ [] }
open_goes_with_its_ranges = refl

-- Of another file it has no open with this id, and nothing goes.
open_of_another_file_stays : perform (c.DropOpen 2 (id 101 4)) (record nothing_open { opens = first ∷ []; ranges = range (id 101 4) 1 0 ∷ [] })
    ≡ record nothing_open { opens = first ∷ []; ranges = range (id 101 4) 1 0 ∷ [] }
open_of_another_file_stays = refl

-- an open under a lease whose session has ended
abbrev lost : OpenRow
lost = durable (leased (name 2 7) (plain 102 1 4 1))

-- The open has a new owner and handle. Its place, id, access, lease, seconds and moment stay, and its ranges stay with it.
open_is_taken_over : perform (c.TakeOver 1 (id 102 4) them 9) (record nothing_open { opens = first ∷ lost ∷ third ∷ []; ranges = range (id 102 4) 1 0 ∷ [] })
    ≡ record nothing_open { opens = first ∷ record lost { owner = them; handle = 9 } ∷ third ∷ []; ranges = range (id 102 4) 1 0 ∷ [] }
unfolding new_owner
open_is_taken_over = refl

-- Where the new owner has an open of that handle, nothing changes.
taken_handle_stays : perform (c.TakeOver 1 (id 102 4) us 4) (record nothing_open { opens = first ∷ lost ∷ [] })
    ≡ record nothing_open { opens = first ∷ lost ∷ [] }
taken_handle_stays = refl

-- Another session may have that handle.
handle_of_another_is_free : perform (c.TakeOver 1 (id 102 4) them 4) (record nothing_open { opens = first ∷ lost ∷ [] })
    ≡ record nothing_open { opens = first ∷ record lost { owner = them } ∷ [] }
unfolding new_owner
handle_of_another_is_free = refl

-- ---- leases

abbrev seven : LeaseName
seven = name 2 7

-- A new lease is the last one.
lease_comes_last : perform (c.AddLease (lease seven 1 3)) (record nothing_open { leases = lease (name 3 7) 2 1 ∷ [] })
    ≡ record nothing_open { leases = lease (name 3 7) 2 1 ∷ lease seven 1 3 ∷ [] }
lease_comes_last = refl

-- A lease has another state, and breaks from now on. It keeps its place, and those of another guid or key stay.
lease_is_set : perform (c.SetLease 1 seven (state 7) (Some (breaking 3 1))) (record nothing_open { leases = lease (name 3 7) 1 1 ∷ lease seven 1 3 ∷ lease (name 2 8) 1 1 ∷ [] })
    ≡ record nothing_open { leases = lease (name 3 7) 1 1 ∷ breaks 3 1 (lease seven 1 7) ∷ lease (name 2 8) 1 1 ∷ [] }
unfolding set_lease
lease_is_set = refl

-- Its break is over.
lease_breaks_no_more : perform (c.SetLease 1 seven (state 1) None) (record nothing_open { leases = breaks 3 1 (lease seven 1 7) ∷ [] })
    ≡ record nothing_open { leases = lease seven 1 1 ∷ [] }
unfolding set_lease
lease_breaks_no_more = refl

-- A lease of another file stays.
lease_of_another_file_stays : perform (c.SetLease 2 seven (state 1) None) (record nothing_open { leases = breaks 3 1 (lease seven 1 7) ∷ [] })
    ≡ record nothing_open { leases = breaks 3 1 (lease seven 1 7) ∷ [] }
unfolding set_lease
lease_of_another_file_stays = refl

-- What is acknowledged is held, and no break goes on, whatever was asked and needed.
break_is_acknowledged : perform (c.Acknowledge 1 seven (state 1)) (record nothing_open { leases = breaks 3 3 (lease (name 2 8) 1 7) ∷ breaks 3 3 (lease seven 1 7) ∷ [] })
    ≡ record nothing_open { leases = breaks 3 3 (lease (name 2 8) 1 7) ∷ lease seven 1 1 ∷ [] }
unfolding set_lease
break_is_acknowledged = refl

-- ---- byte ranges

-- A new range is the last one.
range_comes_last : perform (c.AddRange (range (id 101 4) 1 0)) (record nothing_open { ranges = range (id 102 4) 1 30 ∷ [] })
    ≡ record nothing_open { ranges = range (id 102 4) 1 30 ∷ range (id 101 4) 1 0 ∷ [] }
range_comes_last = refl

-- Of two that are the same the first goes. Those of another open, mode, file, start or length stay.
first_same_range_goes : perform (c.DropRange (range (id 101 4) 1 0)) (record nothing_open {
  ranges =
      range (id 102 4) 1 0 ∷ shared_range (id 101 4) 1 0 ∷ range (id 101 4) 2 0 ∷ range (id 101 4) 1 1
      ∷ record (range (id 101 4) 1 0) { span = record { start = 0; length = 11 } }
      ∷ range (id 101 4) 1 0 ∷ range (id 101 5) 1 5 ∷ range (id 101 4) 1 0 ∷ [];
}) ≡ record nothing_open {
  ranges =
      range (id 102 4) 1 0 ∷ shared_range (id 101 4) 1 0 ∷ range (id 101 4) 2 0 ∷ range (id 101 4) 1 1
      ∷ record (range (id 101 4) 1 0) { span = record { start = 0; length = 11 } }
      ∷ range (id 101 5) 1 5 ∷ range (id 101 4) 1 0 ∷ [];
}
first_same_range_goes = refl

-- ---- global locks

-- A new hold is the last one.
hold_comes_last : perform (c.AddHold (shares_lock us 9)) (record nothing_open { holds = shares_lock them 9 ∷ [] })
    ≡ record nothing_open { holds = shares_lock them 9 ∷ shares_lock us 9 ∷ [] }
hold_comes_last = refl

-- A hold has another mode, and keeps its place. The holds of others and of other keys stay.
hold_keeps_its_place : perform (c.SetHold 9 us Exclusive) (record nothing_open { holds = shares_lock them 9 ∷ shares_lock us 9 ∷ shares_lock us 8 ∷ [] })
    ≡ record nothing_open { holds = shares_lock them 9 ∷ holds_alone us 9 ∷ shares_lock us 8 ∷ [] }
unfolding set_hold
hold_keeps_its_place = refl

-- A hold goes, of this key and owner.
hold_goes : perform (c.DropHold 9 us) (record nothing_open { holds = shares_lock them 9 ∷ shares_lock us 9 ∷ shares_lock us 8 ∷ [] })
    ≡ record nothing_open { holds = shares_lock them 9 ∷ shares_lock us 8 ∷ [] }
hold_goes = refl

-- ---- waiters

-- A new waiter is the last one.
waiter_comes_last : perform (c.AddWaiter (waits us 6 (OpenOf 1) them)) (record nothing_open { waiters = waits them 4 (LockOf 9) us ∷ [] })
    ≡ record nothing_open { waiters = waits them 4 (LockOf 9) us ∷ waits us 6 (OpenOf 1) them ∷ [] }
waiter_comes_last = refl

-- A call of a session waits no more, wherever it waits. Another call of the session waits on, and so does that call of another session.
call_waits_no_more : perform (c.DropWaiter us 6) (record nothing_open {
  waiters = waits us 5 (LockOf 9) them ∷ waits us 6 (OpenOf 1) them ∷ waits them 6 (RangesOf 1) us ∷ waits (sid 101 2) 6 (OpenOf 1) them ∷ [];
}) ≡ record nothing_open { waiters = waits us 5 (LockOf 9) them ∷ waits them 6 (RangesOf 1) us ∷ waits (sid 101 2) 6 (OpenOf 1) them ∷ [] }
call_waits_no_more = refl

-- ---- letters

-- A letter is the last one.
letter_comes_last : perform (c.Send (wakes us 6)) (record nothing_open { letters = wakes us 5 ∷ wakes them 4 ∷ [] })
    ≡ record nothing_open { letters = wakes us 5 ∷ wakes them 4 ∷ wakes us 6 ∷ [] }
letter_comes_last = refl

-- The first letter to the session is taken, and no other.
first_letter_is_taken : perform (c.TakeLetter us) (record nothing_open { letters = wakes them 4 ∷ break_letter us ∷ wakes them 5 ∷ wakes us 6 ∷ [] })
    ≡ record nothing_open { letters = wakes them 4 ∷ wakes them 5 ∷ wakes us 6 ∷ [] }
first_letter_is_taken = refl

-- ---- sessions

-- The session's opens that aren't durable go with their ranges. Its durable open stays, as it is, with its range. Its holds, its waiters and
-- its letters go. Those that wait behind it stay here. Its worker lives no more, and the session has ended at this moment.
session_ends : perform (c.EndSession us (at 70)) (record nothing_open {
  opens = first ∷ second ∷ durable (leased (name 1 7) third) ∷ [];
  leases = lease (name 1 7) 2 1 ∷ [];
  ranges = range (id 101 4) 1 0 ∷ range (id 102 4) 1 10 ∷ range (id 101 5) 2 0 ∷ [];
  holds = shares_lock us 9 ∷ shares_lock them 9 ∷ holds_alone us 8 ∷ [];
  waiters = waits us 6 (OpenOf 1) them ∷ waits them 5 (LockOf 8) us ∷ just_waits us 7 (RangesOf 1) ∷ [];
  letters = wakes us 2 ∷ wakes them 2 ∷ break_letter us ∷ [];
}) ≡ record nothing_open {
  opens = second ∷ durable (leased (name 1 7) third) ∷ [];
  leases = lease (name 1 7) 2 1 ∷ [];
  ranges = range (id 102 4) 1 10 ∷ range (id 101 5) 2 0 ∷ [];
  holds = shares_lock them 9 ∷ [];
  waiters = waits them 5 (LockOf 8) us ∷ [];
  letters = wakes them 2 ∷ [];
  workers = record worker_101 { alive = false } ∷ worker_102 ∷ worker_103 ∷ [];
  ended = ended 102 1 10 ∷ ended 103 1 20 ∷ ended 102 2 40 ∷ ended 103 2 50 ∷ ended 101 1 70 ∷ [];
}
unfolding end_session
session_ends = refl

-- Where it isn't the worker's current session, the worker lives on.
worker_lives_on : (perform (c.EndSession (sid 102 2) (at 70)) nothing_open).workers ≡ worker_101 ∷ worker_102 ∷ worker_103 ∷ []
unfolding end_session
worker_lives_on = refl

-- The next session of a worker begins at this moment, under the next number.
next_session_begins : perform_all (c.EndSession them (at 70) ∷ c.NextSession them (at 71) ∷ []) nothing_open ≡ record nothing_open {
  workers = worker_101 ∷ record { worker = 2; pid = 102; alive = true; session = 4; connected = at 71 } ∷ worker_103 ∷ [];
  ended = ended 102 1 10 ∷ ended 103 1 20 ∷ ended 102 2 40 ∷ ended 103 2 50 ∷ ended 102 3 70 ∷ [];
}
unfolding end_session begin_session
next_session_begins = refl

-- ---- settling is a change too

lease_settles : perform c.Settle (record nothing_open { leases = lease (name 1 7) 1 7 ∷ [] }) ≡ nothing_open
unfolding settle_where
lease_settles = refl

-- ---- the same under the keys, where a row changes its key

-- The open is under the new handle, and no more under the old one.
taken_over_by_key : (perform_by_key (c.TakeOver 1 (id 102 4) them 9) (view (record nothing_open { opens = first ∷ lost ∷ [] }))).opens_of_handle them 9
    ≡ record lost { owner = them; handle = 9 } ∷ []
unfolding new_owner
taken_over_by_key = refl

not_under_the_old_handle : (perform_by_key (c.TakeOver 1 (id 102 4) them 9) (view (record nothing_open { opens = first ∷ lost ∷ [] }))).opens_of_handle (sid 102 1) 4
    ≡ []
unfolding new_owner
not_under_the_old_handle = refl

-- A waiter is told under its spot, behind its blocker and by its session.
waits_on_its_spot : (perform_by_key (c.AddWaiter (record (waits us 6 (LockOf 9) them) { upgrade = true })) (view nothing_open)).watches_on (LockOf 9)
    ≡ record { sid = us; call = 6; upgrade = true } ∷ []
waits_on_its_spot = refl

waits_behind_its_blocker : (perform_by_key (c.AddWaiter (record (waits us 6 (LockOf 9) them) { upgrade = true })) (view nothing_open)).watches_behind them
    ≡ record { sid = us; call = 6; upgrade = false } ∷ []
waits_behind_its_blocker = refl

token_of_the_waiter : (perform_by_key (c.AddWaiter (waits us 6 (LockOf 9) them)) (view nothing_open)).tokens_of us ≡ record { spot = LockOf 9; call = 6 } ∷ []
token_of_the_waiter = refl

-- The worker's ended sessions stand under its pid.
ended_by_key : (perform_by_key (c.EndSession them (at 70)) (view nothing_open)).ended_of 102 ≡ ended 102 1 10 ∷ ended 102 2 40 ∷ ended 102 3 70 ∷ []
ended_by_key = refl
