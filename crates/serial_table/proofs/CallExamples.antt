-- Worked examples: what `open` and `close` decide and come to, and which entries a table accepts. Worker 101 lives in session 1 and 102 in
-- session 3; session 1 of 102 has ended, and 103 is dead.
use Rattle.std.proofs.Common.{◌≡◌, ℕ, false, [], ◌∷◌, None, Some, refl}
use Rattle.sid_core.specs.declared.call.Call.TheVariants.{Close}
use Rattle.sid_core.specs.declared.entry.Event.TheVariants.{Called, Died, Tidied}
use Rattle.sid_core.specs.declared.ids.Sid.{Sid}
use Rattle.sid_core.specs.declared.ids.Spot.TheVariants.{OpenOf, RangesOf}
use Rattle.sid_core.specs.declared.reply.Reply.TheVariants.{Granted, Done, FileClosed, SharingViolation}
use Rattle.serial_table.specs.Expire.{expired_by}
use Rattle.serial_table.specs.declared.apply.Apply.{Apply}
use Rattle.serial_table.specs.declared.apply.Apply.TheVariants as refusals
use Rattle.serial_table.specs.declared.change.Change.TheVariants as c
use Rattle.serial_table.specs.declared.decision.Caller.{Caller}
use Rattle.serial_table.specs.declared.table.Table.{Table}
use Rattle.serial_table.specs.View.{view}
use Rattle.serial_table.specs.Settle.{settle_where, settle_by_key}
use Rattle.serial_table.specs.Change.{end_session}
use Rattle.serial_table.specs.Decision.{conclude}
use Rattle.serial_table.specs.Session.{end_of_session}
use Rattle.serial_table.specs.Asked.{asked_of}
use Rattle.serial_table.specs.Break.{break_lease, break_each}
use Rattle.serial_table.specs.Grant.{grant}
use Rattle.serial_table.specs.Open.{handle_breaks, other_breaks, open_by, open_file}
use Rattle.serial_table.specs.Close.{close}
use Rattle.serial_table.specs.Step.{caller_of, call_of, answer_of}
use Rattle.serial_table.specs.Apply.{Accepts, Refuses}
use Rattle.serial_table.proofs.Samples.{setup, sid, id, at, nothing_open, plain, range, waits, wakes, opens, worker_101, worker_102, worker_103, ended}

abbrev us : Sid
us = sid 101 1

abbrev them : Sid
them = sid 102 3

-- call 9 of worker 102 at moment 70
abbrev caller : Caller
caller = record { sid = them; guid = 2; number = 9; moment = at 70 }

-- A call of worker 2 comes from its current session, with the guid of its client.
caller_with_its_guid : caller_of setup (view nothing_open) 2 9 (at 70) ≡ Some caller
unfolding caller_of
caller_with_its_guid = refl

-- ---- `open`

-- worker 101 reads file 1 and lets nobody write it; 102 waits for that, and with another call for file 2
abbrev read_alone : Table
read_alone = record nothing_open {
  opens = record (plain 101 1 4 1) { access = record { 0 = 0x1 }; share = record { 0 = 5 } } ∷ [];
  waiters = waits them 5 (OpenOf 1) us ∷ waits us 7 (OpenOf 1) them ∷ waits them 6 (OpenOf 2) us ∷ [];
}

-- A conflict refuses the call. The caller waits no more for the file's opens, and nothing else changes.
refused_and_waits_no_more : open_file (view read_alone) caller (asked_of caller 1 (record { 0 = 0x2 }) (record { 0 = 7 }) None 0 false false)
    ≡ record { changes = c.DropWaiter them 5 ∷ []; reply = SharingViolation; posts = []; spots = []; waits = None }
unfolding open_file open_by handle_breaks other_breaks break_each break_lease grant
refused_and_waits_no_more = refl

-- Without a conflict it is granted: the open has the call's pid and number as its id, the number as its handle, and the call's moment.
granted_with_its_number : open_file (view read_alone) caller (asked_of caller 1 (record { 0 = 0x20 }) (record { 0 = 1 }) None 0 false false) ≡ record {
  changes =
      c.DropWaiter them 5
      ∷ c.AddOpen (record { id = id 102 9; owner = them; handle = 9; file = 1; access = record { 0 = 0x20 }; share = record { 0 = 1 }; lease = None; durable = 0; opened = at 70; marked = false })
      ∷ [];
  reply = Granted None false;
  posts = [];
  spots = OpenOf 1 ∷ RangesOf 1 ∷ [];
  waits = None;
}
unfolding open_file open_by handle_breaks other_breaks break_each break_lease grant
granted_with_its_number = refl

-- An open of another file is in nobody's way.
another_file_is_free : (open_file (view read_alone) caller (asked_of caller 2 (record { 0 = 0x2 }) (record { 0 = 0 }) None 0 false false)).reply ≡ Granted None false
unfolding open_file open_by handle_breaks other_breaks break_each break_lease grant
another_file_is_free = refl

-- One's own open of the file is in one's way, too.
own_open_refuses : answer_of setup (view (record nothing_open { opens = record (plain 102 3 4 1) { share = record { 0 = 0 } } ∷ [] })) 2 9 (at 70) (opens 1 0x1 7)
    ≡ Some SharingViolation
unfolding conclude expired_by open_file open_by handle_breaks other_breaks break_each break_lease grant caller_of
own_open_refuses = refl

-- A disconnected open is in the way like any other.
disconnected_open_refuses : answer_of setup (view (record nothing_open { opens = record (plain 102 1 4 1) { share = record { 0 = 0 }; durable = 60 } ∷ [] })) 1 9 (at 70) (opens 1 0x1 7)
    ≡ Some SharingViolation
unfolding conclude expired_by open_file open_by handle_breaks other_breaks break_each break_lease grant caller_of
disconnected_open_refuses = refl

-- ---- `close`

-- two opens of handle 4, of two sessions, and who waits for them
abbrev two_opens : Table
two_opens = record nothing_open {
  opens = plain 101 1 4 1 ∷ plain 102 3 4 2 ∷ plain 102 3 5 2 ∷ [];
  ranges = range (id 102 4) 2 0 ∷ [];
  waiters = waits us 7 (RangesOf 2) them ∷ waits us 6 (OpenOf 2) them ∷ waits us 8 (OpenOf 1) us ∷ [];
}

-- The caller's open of the handle goes, and those who wait for its file's opens and ranges are woken.
close_wakes : call_of setup (view two_opens) 2 9 (at 70) (Close 4) ≡ Some (record {
  changes =
      c.DropOpen 2 (id 102 4) ∷ c.Settle ∷ c.DropWaiter us 6 ∷ c.DropWaiter us 7 ∷ c.Send (wakes us 6) ∷ c.Send (wakes us 7) ∷ [];
  reply = Done;
  posts = wakes us 6 ∷ wakes us 7 ∷ [];
})
unfolding conclude expired_by close caller_of settle_by_key
close_wakes = refl

-- A handle that the caller's session hasn't.
close_finds_nothing : call_of setup (view two_opens) 1 9 (at 70) (Close 5) ≡ Some (record { changes = c.Settle ∷ []; reply = FileClosed; posts = [] })
unfolding conclude expired_by close caller_of settle_by_key
close_finds_nothing = refl

-- A handle of the worker's earlier session is closed.
handle_of_an_ended_session : answer_of setup (view (record nothing_open { opens = plain 102 1 4 1 ∷ [] })) 2 9 (at 70) (Close 4) ≡ Some FileClosed
unfolding conclude expired_by close caller_of
handle_of_an_ended_session = refl

-- A handle is no id: once the open of call 1 is under handle 4, 1 names nothing, and 4 names that open.
handle_is_no_id : call_of setup (view (record nothing_open { opens = record (plain 102 1 1 1) { owner = them; handle = 4 } ∷ [] })) 2 9 (at 70) (Close 4)
    ≡ Some (record { changes = c.DropOpen 1 (id 102 1) ∷ c.Settle ∷ []; reply = Done; posts = [] })
unfolding conclude expired_by close caller_of settle_by_key
handle_is_no_id = refl

id_is_no_handle : answer_of setup (view (record nothing_open { opens = record (plain 102 1 1 1) { owner = them; handle = 4 } ∷ [] })) 2 9 (at 70) (Close 1) ≡ Some FileClosed
unfolding conclude expired_by close caller_of
id_is_no_handle = refl

-- ---- which entries a table accepts, and why it refuses one

close_is_accepted : Accepts setup 2 (Called 9 (at 70) (Close 4) Done) two_opens (record nothing_open {
  opens = plain 101 1 4 1 ∷ plain 102 3 5 2 ∷ [];
  waiters = waits us 8 (OpenOf 1) us ∷ [];
  letters = wakes us 6 ∷ wakes us 7 ∷ [];
}) (wakes us 6 ∷ wakes us 7 ∷ [])
unfolding conclude expired_by close caller_of settle_where settle_by_key
close_is_accepted = record { answers = refl; table = refl; posts_are = refl }

death_is_accepted : Accepts setup 1 (Died 2 (at 70)) (record nothing_open { opens = plain 101 1 4 1 ∷ plain 102 3 4 1 ∷ [] }) (record nothing_open {
  opens = plain 101 1 4 1 ∷ [];
  workers = worker_101 ∷ record worker_102 { alive = false } ∷ worker_103 ∷ [];
  ended = ended 102 1 10 ∷ ended 103 1 20 ∷ ended 102 2 40 ∷ ended 103 2 50 ∷ ended 102 3 70 ∷ [];
}) []
unfolding conclude expired_by end_of_session caller_of end_session settle_where settle_by_key
death_is_accepted = record { answers = refl; table = refl; posts_are = refl }

tidied_chain_is_accepted : Accepts setup 3 (Tidied 20) two_opens two_opens []
tidied_chain_is_accepted = record { answers = tt; table = refl; posts_are = refl }

-- The table's reply is handed back where the entry has another.
reply_differs : Refuses setup 1 (Called 9 (at 70) (Close 5) Done) two_opens (refusals.Differs FileClosed)
unfolding conclude expired_by close caller_of
reply_differs = (refl, λ e. cc)

-- The entry's own reply is no refusal.
reply_is_the_same : Refuses setup 1 (Called 9 (at 70) (Close 5) FileClosed) two_opens (refusals.Differs FileClosed) → ⊥
reply_is_the_same refused = refused.1 refl

-- Who calls is dead.
caller_is_dead : Refuses setup 3 (Called 9 (at 70) (Close 4) Done) two_opens (refusals.NotAlive 3)
unfolding caller_of
caller_is_dead = (refl, refl)

caller_is_alive : Refuses setup 2 (Called 9 (at 70) (Close 4) FileClosed) two_opens (refusals.NotAlive 2) → ⊥
unfolding caller_of
caller_is_alive refused = let no : Some caller ≡ None = refused.1 in cc

-- Who dies is dead, and is named, whoever enters its death.
dead_is_named : Refuses setup 0 (Died 3 (at 70)) two_opens (refusals.NotAlive 3)
unfolding caller_of
dead_is_named = (refl, refl)

runner_is_not_named : Refuses setup 0 (Died 3 (at 70)) two_opens (refusals.NotAlive 0) → ⊥
runner_is_not_named refused = let no : ◌≡◌ {A = ℕ} 0 3 = refused.0 in cc

-- A tidied chain is refused only for want of memory.
tidied_chain_stands : (why : Apply) → Refuses setup 3 (Tidied 20) two_opens why → why ≡ refusals.OutOfMemory
tidied_chain_stands (refusals.Differs given) refused = absurd refused
tidied_chain_stands (refusals.NotAlive worker) refused = absurd refused
tidied_chain_stands refusals.OutOfMemory refused = refl
