-- Worked examples: whom a decision wakes, and what else it comes to; and how a session ends. Workers 101 and 102 live, in their
-- sessions 1 and 3, and 103 in session 5.
use Rattle.std.specs.Prelude.{◌≡◌, true, false, List, [], ◌∷◌, Option, None, Some, refl}
use Rattle.sid_core.specs.declared.call.Mode.TheVariants.{Shared, Exclusive}
use Rattle.sid_core.specs.declared.entry.Post.{Post}
use Rattle.sid_core.specs.declared.ids.LeaseName.{LeaseName}
use Rattle.sid_core.specs.declared.ids.Sid.{Sid}
use Rattle.sid_core.specs.declared.ids.Spot.{Spot}
use Rattle.sid_core.specs.declared.ids.Spot.TheVariants.{OpenOf, RangesOf, LockOf}
use Rattle.sid_core.specs.declared.reply.Reply.TheVariants.{Done, Pending}
use Rattle.serial_table.specs.declared.change.Change.{Change}
use Rattle.serial_table.specs.declared.change.Change.TheVariants as c
use Rattle.serial_table.specs.declared.decision.Decision.{Decision}
use Rattle.serial_table.specs.declared.rows.RangeRow.{RangeRow}
use Rattle.serial_table.specs.declared.rows.WaiterRow.{WaiterRow}
use Rattle.serial_table.specs.declared.table.Table.{Table}
use Rattle.serial_table.specs.View.{view}
use Rattle.serial_table.specs.Settle.{settle_where, settle_by_key}
use Rattle.serial_table.specs.Change.{perform_all, set_lease, set_hold, end_session}
use Rattle.serial_table.specs.Wake.{frees_lock}
use Rattle.serial_table.specs.Decision.{conclude}
use Rattle.serial_table.specs.Session.{end_of_session}
use Rattle.serial_table.specs.Step.{caller_of, death_of}
use Rattle.serial_table.proofs.Samples.{setup, sid, id, name, at, state, nothing_open, worker_101, worker_102, worker_103, ended, plain, leased, durable, lease, breaks, range, shares_lock, holds_alone, waits, just_waits, wakes, break_letter}

abbrev us : Sid
us = sid 101 1

abbrev them : Sid
them = sid 102 3

abbrev others : Sid
others = sid 103 5

abbrev all_live : Table
all_live = record nothing_open { workers = worker_101 ∷ worker_102 ∷ record worker_103 { alive = true; session = 5 } ∷ [] }

-- ---- what a decision frees. `Done` stands for the reply of any call.

abbrev decision : List Change → List Post → List Spot → Option WaiterRow → Decision
decision changes posts spots waits = record { changes = changes; reply = Done; posts = posts; spots = spots; waits = waits }

abbrev spots_of_1 : List Spot
spots_of_1 = OpenOf 1 ∷ RangesOf 1 ∷ []

-- the open of `101` with call 4, waiters on both spots of its file, on the spots of file 2 and on a lock, in the order of waiting
abbrev crowded : List RangeRow → Table
crowded ranges = record all_live {
  opens = plain 101 1 4 1 ∷ plain 102 3 4 1 ∷ [];
  ranges = ranges;
  waiters =
      waits them 5 (RangesOf 1) us ∷ waits others 2 (OpenOf 1) us ∷ waits others 9 (LockOf 1) them ∷ waits them 6 (OpenOf 1) us
      ∷ waits others 3 (OpenOf 2) us ∷ waits others 4 (RangesOf 2) us ∷ waits others 1 (RangesOf 1) them ∷ [];
}

-- An open goes with its range: those who wait for the file's opens are woken, in the order in which they wait, and then those who wait for its
-- ranges. Those of another file or of a lock are not.
opens_first_then_ranges : conclude (view (crowded (range (id 101 4) 1 0 ∷ []))) (decision (c.DropOpen 1 (id 101 4) ∷ []) [] spots_of_1 None) ≡ record {
  changes =
      c.DropOpen 1 (id 101 4) ∷ c.Settle
      ∷ c.DropWaiter others 2 ∷ c.DropWaiter them 6 ∷ c.DropWaiter them 5 ∷ c.DropWaiter others 1
      ∷ c.Send (wakes others 2) ∷ c.Send (wakes them 6) ∷ c.Send (wakes them 5) ∷ c.Send (wakes others 1) ∷ [];
  reply = Done;
  posts = wakes others 2 ∷ wakes them 6 ∷ wakes them 5 ∷ wakes others 1 ∷ [];
}
unfolding conclude settle_by_key
opens_first_then_ranges = refl

-- An open goes that has no range: nobody who waits for ranges is woken.
no_range_goes : (conclude (view (crowded (range (id 102 4) 1 0 ∷ []))) (decision (c.DropOpen 1 (id 101 4) ∷ []) [] spots_of_1 None)).posts
    ≡ wakes others 2 ∷ wakes them 6 ∷ []
unfolding conclude settle_by_key
no_range_goes = refl

-- A range goes alone: nobody who waits for opens is woken.
no_open_goes : (conclude (view (crowded (range (id 101 4) 1 0 ∷ []))) (decision (c.DropRange (range (id 101 4) 1 0) ∷ []) [] spots_of_1 None)).posts
    ≡ wakes them 5 ∷ wakes others 1 ∷ []
unfolding conclude settle_by_key
no_open_goes = refl

-- No open of the file has this id, or the range isn't there: nobody is woken.
nothing_goes : (conclude (view (crowded [])) (decision (c.DropOpen 1 (id 101 5) ∷ c.DropRange (range (id 101 4) 1 0) ∷ []) [] spots_of_1 None)).posts ≡ []
unfolding conclude settle_by_key
nothing_goes = refl

-- What is added frees nothing.
added_rows_wake_nobody : (conclude (view (crowded [])) (decision (c.AddOpen (plain 103 5 8 1) ∷ c.AddRange (range (id 102 4) 1 0) ∷ []) [] spots_of_1 None)).posts ≡ []
unfolding conclude settle_by_key
added_rows_wake_nobody = refl

-- Only the decision's own spots are looked at.
other_spots_sleep : (conclude (view (crowded (range (id 101 4) 1 0 ∷ []))) (decision (c.DropOpen 1 (id 101 4) ∷ []) [] (RangesOf 1 ∷ []) None)).posts
    ≡ wakes them 5 ∷ wakes others 1 ∷ []
unfolding conclude settle_by_key
other_spots_sleep = refl

-- Also where the spots of file 2 are looked at: nothing of file 2 goes.
another_file_sleeps : (conclude (view (crowded (range (id 101 4) 1 0 ∷ []))) (decision (c.DropOpen 1 (id 101 4) ∷ []) [] (OpenOf 1 ∷ OpenOf 2 ∷ RangesOf 2 ∷ LockOf 1 ∷ []) None)).posts
    ≡ wakes others 2 ∷ wakes them 6 ∷ []
unfolding conclude settle_by_key
another_file_sleeps = refl

-- Spots are freed in the decision's order, those of file 2 behind those of file 1.
files_one_after_another : (conclude (view (record (crowded []) { opens = plain 101 1 4 1 ∷ plain 101 1 5 2 ∷ [] }))
    (decision (c.DropOpen 2 (id 101 5) ∷ c.DropOpen 1 (id 101 4) ∷ []) [] (OpenOf 1 ∷ RangesOf 1 ∷ OpenOf 2 ∷ RangesOf 2 ∷ []) None)).posts
    ≡ wakes others 2 ∷ wakes them 6 ∷ wakes others 3 ∷ []
unfolding conclude settle_by_key
files_one_after_another = refl

-- A waiter that the decision itself takes away isn't woken.
own_waiter_is_over : (conclude (view (crowded [])) (decision (c.DropWaiter them 6 ∷ c.DropOpen 1 (id 101 4) ∷ []) [] spots_of_1 None)).posts
    ≡ wakes others 2 ∷ []
unfolding conclude settle_by_key
own_waiter_is_over = refl

-- ---- breaks

abbrev seven : LeaseName
seven = name 1 7

-- worker 101's lease breaks from RWH to RH, and two wait for that
abbrev breaking_table : Table
breaking_table = record all_live {
  opens = leased seven (plain 101 1 4 1) ∷ [];
  leases = breaks 3 1 (lease seven 1 7) ∷ [];
  waiters = waits them 6 (OpenOf 1) us ∷ waits others 2 (OpenOf 1) us ∷ waits others 3 (RangesOf 1) us ∷ [];
}

-- An acknowledgement wakes those who wait for the file's opens. The break letters of the decision stand before the wakes.
letters_before_wakes : conclude (view breaking_table) (decision (c.Acknowledge 1 seven (state 3) ∷ []) (break_letter us ∷ []) spots_of_1 None) ≡ record {
  changes =
      c.Acknowledge 1 seven (state 3) ∷ c.Settle ∷ c.DropWaiter them 6 ∷ c.DropWaiter others 2
      ∷ c.Send (break_letter us) ∷ c.Send (wakes them 6) ∷ c.Send (wakes others 2) ∷ [];
  reply = Done;
  posts = break_letter us ∷ wakes them 6 ∷ wakes others 2 ∷ [];
}
unfolding conclude settle_by_key set_lease
letters_before_wakes = refl

-- It frees the opens of its own file alone.
acknowledged_in_its_file : (conclude (view (record breaking_table { waiters = waits them 6 (OpenOf 2) us ∷ [] })) (decision (c.Acknowledge 1 seven (state 3) ∷ []) [] (OpenOf 1 ∷ OpenOf 2 ∷ []) None)).posts ≡ []
unfolding conclude settle_by_key set_lease
acknowledged_in_its_file = refl

-- A lease that is set, and not acknowledged, frees nothing.
setting_wakes_nobody : (conclude (view breaking_table) (decision (c.SetLease 1 seven (state 7) (Some (record { asked = state 3; needed = state 1; until = at 0 })) ∷ []) [] spots_of_1 None)).posts ≡ []
unfolding conclude settle_by_key set_lease
setting_wakes_nobody = refl

-- The caller's own waiter comes when the woken ones are gone, and before the letters. It waits on a spot that is freed, and isn't woken.
own_waiter_comes_last : conclude (view breaking_table) (record (decision (c.Acknowledge 1 seven (state 3) ∷ []) (break_letter us ∷ []) spots_of_1 (Some (waits others 8 (OpenOf 1) us))) { reply = Pending }) ≡ record {
  changes =
      c.Acknowledge 1 seven (state 3) ∷ c.Settle ∷ c.DropWaiter them 6 ∷ c.DropWaiter others 2
      ∷ c.AddWaiter (waits others 8 (OpenOf 1) us) ∷ c.Send (break_letter us) ∷ c.Send (wakes them 6) ∷ c.Send (wakes others 2) ∷ [];
  reply = Pending;
  posts = break_letter us ∷ wakes them 6 ∷ wakes others 2 ∷ [];
}
unfolding conclude settle_by_key set_lease
own_waiter_comes_last = refl

-- A lease without a connected open is broken to R. So its open goes as the table settles, with its range, and both spots are freed.
settling_wakes : (conclude (view (record all_live {
  opens = durable (leased seven (plain 101 2 4 1)) ∷ [];
  leases = lease seven 1 3 ∷ [];
  ranges = range (id 101 4) 1 0 ∷ [];
  waiters = just_waits them 5 (RangesOf 1) ∷ just_waits others 2 (OpenOf 1) ∷ [];
})) (decision (c.SetLease 1 seven (state 1) None ∷ []) [] spots_of_1 None)).posts ≡ wakes others 2 ∷ wakes them 5 ∷ []
unfolding conclude settle_by_key set_lease
settling_wakes = refl

-- ---- global locks

abbrev locked : Table
locked = record all_live { holds = holds_alone us 9 ∷ shares_lock us 8 ∷ []; waiters = waits them 5 (LockOf 9) us ∷ waits others 2 (LockOf 8) us ∷ [] }

-- Lowering a hold frees its lock ..
lowering_frees : frees_lock (c.SetHold 9 us Shared) 9 (view locked) ≡ true
lowering_frees = refl

-- .. and raising one doesn't, nor does setting the mode that it has: shared, or exclusive.
raising_frees_nothing : frees_lock (c.SetHold 8 us Exclusive) 8 (view locked) ≡ false
raising_frees_nothing = refl

same_mode_frees_nothing : frees_lock (c.SetHold 8 us Shared) 8 (view locked) ≡ false
same_mode_frees_nothing = refl

exclusive_stays_exclusive : frees_lock (c.SetHold 9 us Exclusive) 9 (view locked) ≡ false
exclusive_stays_exclusive = refl

-- Lowering another's hold of the key, or a hold of another key.
no_hold_to_lower : frees_lock (c.SetHold 9 them Shared) 9 (view locked) ≡ false
no_hold_to_lower = refl

another_lock_is_lowered : frees_lock (c.SetHold 9 us Shared) 8 (view locked) ≡ false
another_lock_is_lowered = refl

-- A hold that goes frees its lock, of any mode.
dropping_frees : frees_lock (c.DropHold 8 us) 8 (view locked) ≡ true
dropping_frees = refl

no_hold_to_drop : frees_lock (c.DropHold 8 them) 8 (view locked) ≡ false
no_hold_to_drop = refl

-- Those who wait for the lowered lock are woken, and not those of another key.
lowering_wakes : conclude (view locked) (decision (c.SetHold 9 us Shared ∷ []) [] (LockOf 9 ∷ []) None) ≡ record {
  changes = c.SetHold 9 us Shared ∷ c.Settle ∷ c.DropWaiter them 5 ∷ c.Send (wakes them 5) ∷ [];
  reply = Done;
  posts = wakes them 5 ∷ [];
}
unfolding conclude settle_by_key set_hold
lowering_wakes = refl

-- ---- a session's end

-- worker 101 has a plain open and a durable one, each with a range, a hold and a waiter. Of three that wait on file 1, and of two on lock 9,
-- three wait behind its session.
abbrev before : Table
before = record all_live {
  opens = plain 101 1 4 1 ∷ durable (leased seven (plain 101 1 5 1)) ∷ plain 102 3 4 1 ∷ [];
  leases = lease seven 1 3 ∷ [];
  ranges = range (id 101 4) 1 0 ∷ range (id 101 5) 1 10 ∷ range (id 102 4) 1 20 ∷ [];
  holds = holds_alone us 9 ∷ holds_alone them 8 ∷ [];
  waiters =
      waits others 7 (LockOf 9) us ∷ waits us 6 (LockOf 8) them ∷ waits others 2 (RangesOf 1) them ∷ just_waits them 5 (OpenOf 1)
      ∷ waits them 6 (RangesOf 1) us ∷ waits others 3 (OpenOf 1) us ∷ [];
  letters = wakes us 1 ∷ wakes them 1 ∷ [];
}

-- Those who wait behind it are woken once each, in the order in which they wait, and nobody else, though opens, ranges and a hold go.
death_wakes_those_behind : death_of setup (view before) 1 (at 70) ≡ Some (record {
  changes =
      c.DropWaiter others 7 ∷ c.DropWaiter them 6 ∷ c.DropWaiter others 3 ∷ c.EndSession us (at 70) ∷ c.Settle
      ∷ c.Send (wakes others 7) ∷ c.Send (wakes them 6) ∷ c.Send (wakes others 3) ∷ [];
  reply = Done;
  posts = wakes others 7 ∷ wakes them 6 ∷ wakes others 3 ∷ [];
})
unfolding conclude end_of_session caller_of settle_by_key
death_wakes_those_behind = refl

-- The table after it: the plain open goes with its range. The durable one stays with its range, and keeps its owner.
durable_open_stays : perform_all (c.DropWaiter others 7 ∷ c.DropWaiter them 6 ∷ c.DropWaiter others 3 ∷ c.EndSession us (at 70) ∷ c.Settle
    ∷ c.Send (wakes others 7) ∷ c.Send (wakes them 6) ∷ c.Send (wakes others 3) ∷ []) before ≡ record {
      opens = durable (leased seven (plain 101 1 5 1)) ∷ plain 102 3 4 1 ∷ [];
      leases = lease seven 1 3 ∷ [];
      ranges = range (id 101 5) 1 10 ∷ range (id 102 4) 1 20 ∷ [];
      holds = holds_alone them 8 ∷ [];
      waiters = waits others 2 (RangesOf 1) them ∷ just_waits them 5 (OpenOf 1) ∷ [];
      letters = wakes them 1 ∷ wakes others 7 ∷ wakes them 6 ∷ wakes others 3 ∷ [];
      workers = record worker_101 { alive = false } ∷ worker_102 ∷ record worker_103 { alive = true; session = 5 } ∷ [];
      ended = ended 102 1 10 ∷ ended 103 1 20 ∷ ended 102 2 40 ∷ ended 103 2 50 ∷ ended 101 1 70 ∷ [];
      pending = [];
    }
unfolding settle_where end_session
durable_open_stays = refl

-- A durable open whose lease breaks, needs none and has no other open goes with its lease.
break_of_the_dead_ends : perform_all (c.EndSession us (at 70) ∷ c.Settle ∷ []) (record nothing_open { opens = durable (leased seven (plain 101 1 5 1)) ∷ []; leases = breaks 1 0 (lease seven 1 3) ∷ [] })
    ≡ record nothing_open { workers = record worker_101 { alive = false } ∷ worker_102 ∷ worker_103 ∷ []; ended = ended 102 1 10 ∷ ended 103 1 20 ∷ ended 102 2 40 ∷ ended 103 2 50 ∷ ended 101 1 70 ∷ [] }
unfolding settle_where end_session
break_of_the_dead_ends = refl

-- A session's own waiter gets no letter from its end, also where it waits behind itself.
own_waiter_gets_nothing : (end_of_session (view (record all_live { waiters = waits us 6 (LockOf 8) us ∷ waits them 5 (LockOf 8) us ∷ [] })) us (at 70) []).posts
    ≡ wakes them 5 ∷ []
unfolding end_of_session
own_waiter_gets_nothing = refl

-- What else follows an end follows it at once.
next_session_follows : (end_of_session (view (record all_live { waiters = waits them 5 (LockOf 8) us ∷ [] })) us (at 70) (c.NextSession us (at 70) ∷ [])).changes
    ≡ c.DropWaiter them 5 ∷ c.EndSession us (at 70) ∷ c.NextSession us (at 70) ∷ []
unfolding end_of_session
next_session_follows = refl

-- An end frees no spot of its own.
end_has_no_spots : (end_of_session (view before) us (at 70) []).spots ≡ []
unfolding end_of_session
end_has_no_spots = refl

-- Nobody who is dead or isn't declared dies.
the_dead_die_no_more : death_of setup (view nothing_open) 3 (at 70) ≡ None
unfolding caller_of
the_dead_die_no_more = refl

nobody_is_worker_0 : death_of setup (view nothing_open) 0 (at 70) ≡ None
unfolding caller_of
nobody_is_worker_0 = refl

nobody_is_worker_4 : death_of setup (view nothing_open) 4 (at 70) ≡ None
unfolding caller_of
nobody_is_worker_4 = refl
