-- Worked examples: a sound table with rows of every kind, and for each condition a table that breaks it. Workers 101 and 102 live in their
-- sessions 1 and 3; session 1 of 102 has ended, and 103 is dead.
use Rattle.std.proofs.Common.{◌≡◌, true, false, [], ◌∷◌, ◌++◌, Some, refl}
use Rattle.std.specs.List.{IsDistinct}
use Rattle.sid_core.specs.declared.call.Mode.TheVariants.{Shared, Exclusive}
use Rattle.sid_core.specs.declared.ids.LeaseName.{LeaseName}
use Rattle.sid_core.specs.declared.ids.Sid.{Sid}
use Rattle.sid_core.specs.declared.ids.Spot.TheVariants.{OpenOf, RangesOf, LockOf}
use Rattle.serial_table.specs.declared.change.Change.TheVariants as c
use Rattle.serial_table.specs.declared.rows.LeaseRow.{LeaseRow}
use Rattle.serial_table.specs.declared.rows.OpenRow.{OpenRow}
use Rattle.serial_table.specs.declared.table.Table.{Table}
use Rattle.serial_table.specs.Change.{end_session}
use Rattle.serial_table.specs.Sound.{IsConsistent, IsSound, Fits, AllFit, states_agree}
use Rattle.serial_table.proofs.Samples.{sid, id, name, at, state, nothing_open, plain, leased, durable, lease, breaking, breaks, range, shares_lock, holds_alone, waits, just_waits, wakes, break_letter}

abbrev us : Sid
us = sid 101 1

abbrev them : Sid
them = sid 102 3

abbrev seven : LeaseName
seven = name 1 7

abbrev eight : LeaseName
eight = name 2 8

-- an open under a lease that breaks, whose session lives, and a durable one under a lease that holds HANDLE, whose session has ended
abbrev kept : OpenRow
kept = leased seven (plain 101 1 4 1)

abbrev lost : OpenRow
lost = durable (leased eight (plain 102 1 6 1))

abbrev sound : Table
sound = record nothing_open {
  opens = kept ∷ lost ∷ plain 102 3 4 2 ∷ [];
  leases = breaks 3 1 (lease seven 1 7) ∷ lease eight 1 3 ∷ [];
  ranges = range (id 102 4) 2 0 ∷ range (id 102 6) 1 0 ∷ range (id 102 6) 1 0 ∷ [];
  holds = shares_lock us 9 ∷ shares_lock them 9 ∷ holds_alone us 8 ∷ [];
  waiters = waits them 7 (OpenOf 1) us ∷ just_waits them 8 (RangesOf 1) ∷ just_waits us 8 (RangesOf 1) ∷ waits us 9 (LockOf 9) them ∷ [];
  letters = break_letter us ∷ wakes us 3 ∷ [];
  pending = 2 ∷ [];
}

sound_rows : IsConsistent sound
unfolding IsDistinct
sound_rows = record {
  ids_differ = ((refl, (refl, tt)), ((refl, tt), (tt, tt)));
  handles_differ = ((refl, (refl, tt)), ((refl, tt), (tt, tt)));
  opens_have_leases = refl;
  durable_are_leased = refl;
  marked_may_delete = refl;
  opens_last = refl;
  owners_had = refl;
  leases_differ = ((refl, tt), (tt, tt));
  leases_agree = refl;
  ranges_have_opens = refl;
  holders_live = refl;
  holds_agree = ((refl, (refl, tt)), ((refl, tt), (tt, tt)));
  waiters_live = refl;
  waits_differ = ((refl, (refl, (refl, tt))), ((refl, (refl, tt)), ((refl, tt), (tt, tt))));
  receivers_live = refl;
  pids_differ = ((refl, (refl, tt)), ((refl, tt), (tt, tt)));
  pending_differ = (tt, tt);
}

sound_table : IsSound sound
sound_table = record { rows = sound_rows; disconnected_hold_handle = refl; leases_have_opens = refl; breaking_are_connected = refl; pending_have_opens = refl }

-- ---- opens

-- Two opens of one id.
one_id_twice : IsConsistent (record sound { opens = kept ∷ lost ∷ record (plain 102 3 9 2) { id = id 101 4 } ∷ [] }) → ⊥
unfolding IsDistinct
one_id_twice rows = let no : true ≡ false = rows.ids_differ.0.1.0 in cc

-- Two opens of one session with one handle.
one_handle_twice : IsConsistent (record sound { opens = kept ∷ lost ∷ record (plain 102 3 9 2) { owner = us; handle = 4 } ∷ [] }) → ⊥
unfolding IsDistinct
one_handle_twice rows = let no : true ≡ false = rows.handles_differ.0.1.0 in cc

-- An open under a lease that isn't there, or that is of another file.
no_lease_is_there : IsConsistent (record sound { leases = breaks 3 1 (lease seven 1 7) ∷ [] }) → ⊥
no_lease_is_there rows = let no : false ≡ true = rows.opens_have_leases in cc

lease_is_elsewhere : IsConsistent (record sound { leases = breaks 3 1 (lease seven 1 7) ∷ lease eight 2 3 ∷ [] }) → ⊥
lease_is_elsewhere rows = let no : false ≡ true = rows.opens_have_leases in cc

-- A durable open without a lease.
durable_without_lease : IsConsistent (record sound { opens = kept ∷ lost ∷ durable (plain 102 3 4 2) ∷ [] }) → ⊥
durable_without_lease rows = let no : false ≡ true = rows.durable_are_leased in cc

-- A marked open without the right to delete.
marked_without_right : IsConsistent (record sound { opens = kept ∷ lost ∷ record (plain 102 3 4 2) { marked = true } ∷ [] }) → ⊥
marked_without_right rows = let no : false ≡ true = rows.marked_may_delete in cc

-- A disconnected open that isn't durable.
disconnected_but_plain : IsConsistent (record sound { opens = kept ∷ lost ∷ record (plain 102 3 4 2) { owner = sid 102 1 } ∷ [] }) → ⊥
disconnected_but_plain rows = let no : false ≡ true = rows.opens_last in cc

-- A plain open of the current session of a dead worker.
open_of_the_dead : IsConsistent (record sound { opens = kept ∷ lost ∷ record (plain 102 3 4 2) { owner = sid 103 2 } ∷ [] }) → ⊥
open_of_the_dead rows = let no : false ≡ true = rows.opens_last in cc

-- An open of a session that its worker hasn't had yet.
open_of_a_later_session : IsConsistent (record sound { opens = kept ∷ record lost { owner = sid 102 4 } ∷ plain 102 3 4 2 ∷ [] }) → ⊥
open_of_a_later_session rows = let no : false ≡ true = rows.owners_had in cc

-- Two workers with one pid.
one_pid_twice : IsConsistent (record sound { workers = sound.workers ++ sound.workers }) → ⊥
unfolding IsDistinct
one_pid_twice rows = let no : true ≡ false = rows.pids_differ.0.1.1.0 in cc

-- A file that is to go and is named twice.
one_file_twice : IsConsistent (record sound { pending = 2 ∷ 1 ∷ 2 ∷ [] }) → ⊥
unfolding IsDistinct
one_file_twice rows = let no : true ≡ false = rows.pending_differ.0.1.0 in cc

-- ---- leases

-- Two leases of one name, in whichever files.
one_name_twice : IsConsistent (record sound { leases = breaks 3 1 (lease seven 1 7) ∷ lease eight 1 3 ∷ lease eight 2 1 ∷ [] }) → ⊥
unfolding IsDistinct
one_name_twice rows = let no : true ≡ false = rows.leases_differ.1.0.0 in cc

abbrev with_first : LeaseRow → Table
with_first row = record sound { leases = row ∷ lease eight 1 3 ∷ [] }

-- A state that isn't accepted is held: WRITE alone.
no_state_is_held : IsConsistent (with_first (lease seven 1 4)) → ⊥
no_state_is_held rows = let no : false ≡ true = rows.leases_agree in cc

-- It is asked for, or needed.
no_state_is_asked : IsConsistent (with_first (breaks 2 0 (lease seven 1 7))) → ⊥
no_state_is_asked rows = let no : false ≡ true = rows.leases_agree in cc

no_state_is_needed : IsConsistent (with_first (breaks 3 2 (lease seven 1 7))) → ⊥
no_state_is_needed rows = let no : false ≡ true = rows.leases_agree in cc

-- What is needed isn't part of what was asked.
more_is_needed_than_asked : IsConsistent (with_first (breaks 1 3 (lease seven 1 7))) → ⊥
more_is_needed_than_asked rows = let no : false ≡ true = rows.leases_agree in cc

-- What was asked isn't part of what is held.
more_is_asked_than_held : IsConsistent (with_first (breaks 5 1 (lease seven 1 3))) → ⊥
more_is_asked_than_held rows = let no : false ≡ true = rows.leases_agree in cc

-- It is all that is held.
all_is_asked : IsConsistent (with_first (breaks 3 1 (lease seven 1 3))) → ⊥
all_is_asked rows = let no : false ≡ true = rows.leases_agree in cc

-- All that was asked may be needed.
all_that_is_asked_is_needed : states_agree 7 (Some (breaking 3 3)) ≡ true
all_that_is_asked_is_needed = refl

-- ---- ranges, holds, waiters and letters

-- A range of an open that isn't there, or that is of another file.
range_without_open : IsConsistent (record sound { ranges = range (id 101 6) 1 0 ∷ [] }) → ⊥
range_without_open rows = let no : false ≡ true = rows.ranges_have_opens in cc

range_of_another_file : IsConsistent (record sound { ranges = range (id 102 4) 1 0 ∷ [] }) → ⊥
range_of_another_file rows = let no : false ≡ true = rows.ranges_have_opens in cc

-- A hold of a session that has ended, or of the dead.
hold_of_an_ended_session : IsConsistent (record sound { holds = shares_lock (sid 102 2) 9 ∷ [] }) → ⊥
hold_of_an_ended_session rows = let no : false ≡ true = rows.holders_live in cc

hold_of_the_dead : IsConsistent (record sound { holds = shares_lock (sid 103 2) 9 ∷ [] }) → ⊥
hold_of_the_dead rows = let no : false ≡ true = rows.holders_live in cc

-- An exclusive hold beside another one, whichever came first.
exclusive_beside_shared : IsConsistent (record sound { holds = holds_alone us 9 ∷ shares_lock them 9 ∷ [] }) → ⊥
unfolding IsDistinct
exclusive_beside_shared rows = let no : true ≡ false = rows.holds_agree.0.0 in cc

shared_beside_exclusive : IsConsistent (record sound { holds = shares_lock us 9 ∷ holds_alone them 9 ∷ [] }) → ⊥
unfolding IsDistinct
shared_beside_exclusive rows = let no : true ≡ false = rows.holds_agree.0.0 in cc

-- One session holds one key twice.
one_hold_twice : IsConsistent (record sound { holds = shares_lock us 9 ∷ shares_lock us 9 ∷ [] }) → ⊥
unfolding IsDistinct
one_hold_twice rows = let no : true ≡ false = rows.holds_agree.0.0 in cc

-- A waiter whose session has ended.
waiter_of_an_ended_session : IsConsistent (record sound { waiters = just_waits (sid 102 2) 7 (OpenOf 1) ∷ [] }) → ⊥
waiter_of_an_ended_session rows = let no : false ≡ true = rows.waiters_live in cc

-- A waiter behind a session that has ended.
waiter_behind_an_ended_session : IsConsistent (record sound { waiters = waits us 7 (OpenOf 1) (sid 102 2) ∷ [] }) → ⊥
waiter_behind_an_ended_session rows = let no : false ≡ true = rows.waiters_live in cc

-- Two waiters of one session on one spot, or of one call.
one_spot_twice : IsConsistent (record sound { waiters = just_waits us 7 (OpenOf 1) ∷ just_waits us 8 (OpenOf 1) ∷ [] }) → ⊥
unfolding IsDistinct
one_spot_twice rows = let no : true ≡ false = rows.waits_differ.0.0 in cc

one_call_twice : IsConsistent (record sound { waiters = just_waits us 7 (OpenOf 1) ∷ just_waits us 7 (RangesOf 1) ∷ [] }) → ⊥
unfolding IsDistinct
one_call_twice rows = let no : true ≡ false = rows.waits_differ.0.0 in cc

-- A letter to a session that has ended.
letter_to_an_ended_session : IsConsistent (record sound { letters = wakes (sid 102 2) 3 ∷ [] }) → ⊥
letter_to_an_ended_session rows = let no : false ≡ true = rows.receivers_live in cc

-- ---- what holds once the table has settled

-- A disconnected open under a lease without HANDLE. Its rows are consistent.
disconnected_without_handle : IsSound (record sound { leases = breaks 3 1 (lease seven 1 7) ∷ lease eight 1 1 ∷ [] }) → ⊥
disconnected_without_handle all = let no : false ≡ true = all.disconnected_hold_handle in cc

-- A lease without opens.
lease_without_opens : IsSound (record sound { leases = breaks 3 1 (lease seven 1 7) ∷ lease eight 1 3 ∷ lease (name 3 9) 1 3 ∷ [] }) → ⊥
lease_without_opens all = let no : false ≡ true = all.leases_have_opens in cc

-- A breaking lease whose opens are all disconnected.
breaking_without_connected : IsSound (record sound { leases = breaks 3 1 (lease seven 1 7) ∷ breaks 1 1 (lease eight 1 3) ∷ [] }) → ⊥
breaking_without_connected all = let no : false ≡ true = all.breaking_are_connected in cc

-- A file that is to go without an open.
pending_without_opens : IsSound (record sound { pending = 2 ∷ 3 ∷ [] }) → ⊥
pending_without_opens all = let no : false ≡ true = all.pending_have_opens in cc

-- ---- what a change asks of the table before it

-- A new open that fits, and one for each thing that it must not do: take an id or a handle, belong to nobody who lives, be durable without a
-- lease, be marked without the right to delete, and name a lease that isn't there.
abbrev new_open : OpenRow
new_open = durable (leased eight (plain 102 3 10 1))

new_open_fits : Fits (c.AddOpen new_open) sound
new_open_fits = record { id = refl; handle = refl; owner = refl; leased = refl; marked = refl; lease = refl }

id_is_taken : Fits (c.AddOpen (record new_open { id = id 102 6 })) sound → ⊥
id_is_taken fits = let no : true ≡ false = fits.id in cc

handle_is_taken : Fits (c.AddOpen (record new_open { handle = 4 })) sound → ⊥
handle_is_taken fits = let no : true ≡ false = fits.handle in cc

owner_has_ended : Fits (c.AddOpen (record new_open { owner = sid 102 2 })) sound → ⊥
owner_has_ended fits = let no : false ≡ true = fits.owner in cc

durable_needs_a_lease : Fits (c.AddOpen (durable (plain 102 3 10 1))) sound → ⊥
durable_needs_a_lease fits = let no : false ≡ true = fits.leased in cc

mark_needs_the_right : Fits (c.AddOpen (record new_open { marked = true })) sound → ⊥
mark_needs_the_right fits = let no : false ≡ true = fits.marked in cc

lease_is_of_another_file : Fits (c.AddOpen (leased eight (plain 102 3 10 2))) sound → ⊥
lease_is_of_another_file fits = let no : false ≡ true = fits.lease in cc

-- An open is taken over by a session that lives.
living_takes_over : Fits (c.TakeOver 1 (id 102 6) them 10) sound
living_takes_over = refl

ended_takes_nothing_over : Fits (c.TakeOver 1 (id 102 6) (sid 102 1) 10) sound → ⊥
ended_takes_nothing_over fits = let no : false ≡ true = fits in cc

-- A lease has a new name, and states that agree.
new_lease_fits : Fits (c.AddLease (lease (name 1 8) 1 5)) sound
new_lease_fits = record { name = refl; states = refl }

name_is_taken : Fits (c.AddLease (lease eight 2 5)) sound → ⊥
name_is_taken fits = let no : true ≡ false = fits.name in cc

state_is_none : Fits (c.AddLease (lease (name 1 8) 1 6)) sound → ⊥
state_is_none fits = let no : false ≡ true = fits.states in cc

lease_fits : Fits (c.SetLease 1 seven (state 7) (Some (breaking 3 0))) sound
lease_fits = refl

asks_for_all : Fits (c.SetLease 1 seven (state 3) (Some (breaking 3 0))) sound → ⊥
asks_for_all fits = let no : false ≡ true = fits in cc

acknowledged_state_fits : Fits (c.Acknowledge 1 seven (state 3)) sound
acknowledged_state_fits = refl

no_such_state : Fits (c.Acknowledge 1 seven (state 2)) sound → ⊥
no_such_state fits = let no : false ≡ true = fits in cc

-- A range has its open.
new_range_fits : Fits (c.AddRange (range (id 101 4) 1 0)) sound
new_range_fits = refl

no_open_has_it : Fits (c.AddRange (range (id 101 4) 2 0)) sound → ⊥
no_open_has_it fits = let no : false ≡ true = fits in cc

-- A hold goes beside the others of its key.
new_hold_fits : Fits (c.AddHold (shares_lock them 7)) sound
new_hold_fits = record { owner = refl; others = refl }

holder_has_ended : Fits (c.AddHold (shares_lock (sid 102 2) 7)) sound → ⊥
holder_has_ended fits = let no : false ≡ true = fits.owner in cc

is_held_alone : Fits (c.AddHold (shares_lock them 8)) sound → ⊥
is_held_alone fits = let no : true ≡ false = fits.others in cc

is_held_by_others : Fits (c.AddHold (holds_alone them 9)) sound → ⊥
is_held_by_others fits = let no : true ≡ false = fits.others in cc

-- A hold is raised where nobody else holds the key, and lowered always.
raised_alone : Fits (c.SetHold 8 us Exclusive) sound
raised_alone = refl

raised_beside_another : Fits (c.SetHold 9 us Exclusive) sound → ⊥
raised_beside_another fits = let no : false ≡ true = fits in cc

lowered : Fits (c.SetHold 9 us Shared) sound
lowered = refl

-- A waiter's session and the one in its way live, and it has no other waiter of the spot or the call.
new_waiter_fits : Fits (c.AddWaiter (waits us 11 (OpenOf 1) them)) sound
new_waiter_fits = record { living = refl; others = refl }

waiter_has_ended : Fits (c.AddWaiter (just_waits (sid 102 2) 11 (OpenOf 1))) sound → ⊥
waiter_has_ended fits = let no : false ≡ true = fits.living in cc

blocker_has_ended : Fits (c.AddWaiter (waits us 11 (OpenOf 1) (sid 102 2))) sound → ⊥
blocker_has_ended fits = let no : false ≡ true = fits.living in cc

waits_there_already : Fits (c.AddWaiter (just_waits us 11 (RangesOf 1))) sound → ⊥
waits_there_already fits = let no : true ≡ false = fits.others in cc

-- A letter goes to a session that lives.
letter_fits : Fits (c.Send (wakes them 7)) sound
letter_fits = refl

receiver_has_ended : Fits (c.Send (wakes (sid 102 2) 7)) sound → ⊥
receiver_has_ended fits = let no : false ≡ true = fits in cc

-- A session ends when nobody waits behind it any more.
nobody_waits_behind : Fits (c.EndSession us (at 70)) (record sound { waiters = waits us 9 (LockOf 9) them ∷ [] })
nobody_waits_behind = record { lives = refl; behind = refl }

one_waits_behind : Fits (c.EndSession us (at 70)) sound → ⊥
one_waits_behind fits = let no : true ≡ false = fits.behind in cc

-- A session that has ended doesn't end again.
ends_twice : Fits (c.EndSession (sid 102 1) (at 70)) sound → ⊥
ends_twice fits = let no : false ≡ true = fits.lives in cc

-- The next session begins when the one before it has ended.
next_of_an_ended_one : Fits (c.NextSession (sid 103 1) (at 70)) sound
next_of_an_ended_one = refl

next_of_a_living_one : Fits (c.NextSession (sid 101 1) (at 70)) sound → ⊥
next_of_a_living_one fits = let no : true ≡ false = fits in cc

-- A change is judged at the table that those before it make.
ends_and_begins : AllFit (c.DropWaiter them 7 ∷ c.EndSession us (at 70) ∷ c.NextSession us (at 70) ∷ []) sound
unfolding end_session
ends_and_begins = (tt, (record { lives = refl; behind = refl }, (refl, tt)))
