-- Worked examples: databases in which an open was taken over, a client has ended its session and a worker has died, and what each kind of
-- entry meets and makes of them. Each footprint and each changed record was worked out by hand from the rules.
use Rattle.std.specs.Prelude.{◌≡◌, true, false, List, [], ◌∷◌, ◌++◌, map, None, Some, codes, refl}
use Rattle.sid_core.specs.declared.call.Call.TheVariants as call
use Rattle.sid_core.specs.declared.call.Mode.TheVariants.{Shared, Exclusive}
use Rattle.sid_core.specs.declared.entry.Entry.{Entry}
use Rattle.sid_core.specs.declared.entry.Letter.TheVariants.{Wake}
use Rattle.sid_core.specs.declared.ids.Spot.TheVariants.{RangesOf, LockOf}
use Rattle.sid_core.specs.declared.reply.Reply.TheVariants as reply
use Rattle.serial_table.specs.declared.rows.OpenRow.{OpenRow}
use Rattle.serial_table.specs.declared.table.Table.{Table}
use Rattle.serial_table.specs.View.{view}
use Rattle.record_codec.specs.declared.share_rec.ShareEntry.{ShareEntry}
use Rattle.record_codec.specs.declared.mail_rec.Token.{Token}
use Rattle.serial_table.proofs.Samples.{sid, id, name, at, state, ended}
use Rattle.stored_table.specs.Places.{Chains}
use Rattle.stored_table.specs.Met.{count_from}
use Rattle.stored_table.specs.Exact.{exact_lock, exact_share, exact_lease, exact_register, exact_ranges, exact_mail}
use Rattle.stored_table.proofs.Samples.{setup, locks_in, shares_in, leases_in, registers_in, ranges_in, mail_in, Written, open_at, no_open_at, lock_at, share_at, no_share_at, lease_at, no_lease_at, register_at, ranges_at, no_ranges_at, mail_at, no_mail_at, watch, held, item, ref, unbroken, breaks_to, calls, dies, tidies, changed, stored, moved_at, footprint_at}

-- ---- the table

-- Call 4 of worker 1, in its second session, took over the open 103.1 of file 1, which is marked; the file is to go. 102.1 has file 2.
abbrev taken_open : OpenRow
taken_open = record { id = id 103 1; owner = sid 101 2; handle = 4; file = 1; access = record { 0 = 0x10003 }; share = record { 0 = 7 }; lease = Some (name 1 8); durable = 60; opened = at 2; marked = true }

abbrev second_open : OpenRow
second_open = record { id = id 102 1; owner = sid 102 1; handle = 1; file = 2; access = record { 0 = 3 }; share = record { 0 = 7 }; lease = Some (name 2 9); durable = 0; opened = at 3; marked = false }

-- Session 1 of worker 1 ended at 4, and worker 3 died at 9. 102 holds lock 6 and waits behind 104 to have it alone, and 104 waits behind
-- 102 for a range of file 2.
abbrev table : Table
table = record {
  opens = taken_open ∷ second_open ∷ [];
  leases =
      record { name = name 1 8; file = 1; held = state 7; breaking = None }
      ∷ record { name = name 2 9; file = 2; held = state 3; breaking = None } ∷ [];
  ranges = record { id = id 102 1; file = 2; span = record { start = 0; length = 4 }; mode = Shared } ∷ [];
  holds = record { owner = sid 102 1; key = 6; mode = Shared } ∷ record { owner = sid 104 1; key = 6; mode = Shared } ∷ [];
  waiters =
      record { sid = sid 102 1; call = 5; spot = LockOf 6; blocker = Some (sid 104 1); upgrade = true }
      ∷ record { sid = sid 104 1; call = 2; spot = RangesOf 2; blocker = Some (sid 102 1); upgrade = false } ∷ [];
  letters = record { to = sid 102 1; letter = Wake 3 } ∷ [];
  workers =
      record { worker = 1; pid = 101; alive = true; session = 2; connected = at 4 }
      ∷ record { worker = 2; pid = 102; alive = true; session = 1; connected = at 0 }
      ∷ record { worker = 3; pid = 103; alive = false; session = 1; connected = at 0 }
      ∷ record { worker = 4; pid = 104; alive = true; session = 1; connected = at 0 } ∷ [];
  ended = ended 101 1 4 ∷ ended 103 1 9 ∷ [];
  pending = 1 ∷ [];
}

-- ---- the databases

abbrev taken_entry : ShareEntry
taken_entry = record { id = id 103 1; owner = sid 101 2; handle = 4; access = record { 0 = 0x10003 }; share = record { 0 = 7 }; lease = Some (name 1 8); durable = 60; opened = 2; marked = true }

-- stale: its owner's session has ended
abbrev ended_entry : ShareEntry
ended_entry = record { id = id 101 1; owner = sid 101 1; handle = 1; access = record { 0 = 1 }; share = record { 0 = 7 }; lease = None; durable = 0; opened = 0; marked = false }

abbrev second_entry : ShareEntry
second_entry = record { id = id 102 1; owner = sid 102 1; handle = 1; access = record { 0 = 3 }; share = record { 0 = 7 }; lease = Some (name 2 9); durable = 0; opened = 3; marked = false }

-- stale: it is durable, but its lease, once settled, has no HANDLE
abbrev broken_entry : ShareEntry
broken_entry = record { id = id 103 2; owner = sid 103 1; handle = 2; access = record { 0 = 1 }; share = record { 0 = 7 }; lease = Some (name 1 6); durable = 30; opened = 5; marked = false }

abbrev lock_token : Token
lock_token = record { spot = LockOf 6; call = 5 }

abbrev range_token : Token
range_token = record { spot = RangesOf 2; call = 2 }

-- Stale are the open records of 101.1 and 103.2, their entries and ranges, a hold of 101, watches of 103 and 101, and the lease (1, 6),
-- whose break nobody can acknowledge.
unfoldable chains : Chains
unfolding stored
chains = stored (
    open_at 103 1 (id 103 1) 1
    ∷ open_at 101 4 (id 103 1) 1
    ∷ open_at 102 1 (id 102 1) 2
    ∷ open_at 101 1 (id 101 1) 1
    ∷ open_at 103 2 (id 103 2) 2
    ∷ lock_at 6 (held 101 1 Shared ∷ held 102 1 Shared ∷ held 104 1 Shared ∷ []) (watch 103 1 3 ∷ record (watch 102 1 5) { upgrade = true } ∷ [])
    ∷ share_at 2 1 (codes "a") true (ended_entry ∷ taken_entry ∷ []) []
    ∷ share_at 1 2 (codes "b") false (second_entry ∷ broken_entry ∷ []) (watch 103 1 4 ∷ [])
    ∷ lease_at (name 1 8) (unbroken 1 7 (ref (id 103 1) (sid 101 2) 60 ∷ []))
    ∷ lease_at (name 2 9) (unbroken 2 3 (ref (id 102 1) (sid 102 1) 0 ∷ []))
    ∷ lease_at (name 1 6) (breaks_to 2 3 1 40 (ref (id 103 2) (sid 103 1) 30 ∷ []))
    ∷ register_at 101 (record { worker = 1; alive = true; session = 2; connected = 4; ended = 4 ∷ []; watchers = watch 103 1 3 ∷ [] })
    ∷ register_at 102 (record { worker = 2; alive = true; session = 1; connected = 0; ended = []; watchers = watch 104 1 2 ∷ [] })
    ∷ register_at 103 (record { worker = 3; alive = false; session = 1; connected = 0; ended = 9 ∷ []; watchers = [] })
    ∷ register_at 104 (record { worker = 4; alive = true; session = 1; connected = 0; ended = []; watchers = watch 101 1 2 ∷ watch 102 1 5 ∷ [] })
    ∷ ranges_at 1 (item (id 101 1) 0 1 Shared ∷ []) []
    ∷ ranges_at 2 (item (id 102 1) 0 4 Shared ∷ item (id 103 2) 8 8 Exclusive ∷ []) (watch 104 1 2 ∷ [])
    ∷ mail_at 102 1 (lock_token ∷ []) (Wake 3 ∷ [])
    ∷ mail_at 104 1 (range_token ∷ []) []
    ∷ []
    )

-- ---- records without their stale parts

abbrev register_of_101 : Written
register_of_101 = register_at 101 (record { worker = 1; alive = true; session = 2; connected = 4; ended = 4 ∷ []; watchers = [] })

abbrev register_of_104 : Written
register_of_104 = register_at 104 (record { worker = 4; alive = true; session = 1; connected = 0; ended = []; watchers = watch 102 1 5 ∷ [] })

abbrev first_file : List Written
first_file = share_at 2 1 (codes "a") true (taken_entry ∷ []) [] ∷ no_ranges_at 1 ∷ []

abbrev second_file : List Written
second_file =
    share_at 2 2 (codes "b") false (second_entry ∷ []) []
    ∷ no_lease_at (name 1 6)
    ∷ ranges_at 2 (item (id 102 1) 0 4 Shared ∷ []) (watch 104 1 2 ∷ [])
    ∷ []

-- ---- what counts in them is what the table shows

locks_stand : locks_in chains (5 ∷ 6 ∷ 7 ∷ []) ≡ map (exact_lock (view table)) (5 ∷ 6 ∷ 7 ∷ [])
unfolding locks_in chains
locks_stand = refl

shares_stand : shares_in chains (1 ∷ 2 ∷ 3 ∷ []) ≡ map (exact_share setup (view table)) (1 ∷ 2 ∷ 3 ∷ [])
unfolding shares_in chains
shares_stand = refl

leases_stand : leases_in chains (name 1 6 ∷ name 1 7 ∷ name 1 8 ∷ name 2 9 ∷ []) ≡ map (exact_lease (view table)) (name 1 6 ∷ name 1 7 ∷ name 1 8 ∷ name 2 9 ∷ [])
unfolding leases_in chains
leases_stand = refl

registers_stand : registers_in chains (101 ∷ 102 ∷ 103 ∷ 104 ∷ 105 ∷ []) ≡ map (exact_register (view table)) (101 ∷ 102 ∷ 103 ∷ 104 ∷ 105 ∷ [])
unfolding registers_in chains
registers_stand = refl

ranges_stand : ranges_in chains (1 ∷ 2 ∷ 3 ∷ []) ≡ map (exact_ranges setup (view table)) (1 ∷ 2 ∷ 3 ∷ [])
unfolding ranges_in chains
ranges_stand = refl

mail_stands : mail_in chains (101 ∷ 102 ∷ 103 ∷ 104 ∷ 105 ∷ []) ≡ map (exact_mail (view table)) (101 ∷ 102 ∷ 103 ∷ 104 ∷ 105 ∷ [])
unfolding mail_in chains
mail_stands = refl

-- ---- each kind of entry

-- the name is a lease of the other file
abbrev opened : Entry
opened = calls 2 12 20 (call.OpenFile 1 (record { 0 = 1 }) (record { 0 = 7 }) (Some (record { key = 9; state = state 3 })) 0 false false) reply.InvalidParameter

-- The asked lease is met, though it is of file 2; 103 is met as a watcher behind 101.
opened_meets : footprint_at chains opened ≡ 18 ∷ 76 ∷ 105 ∷ 107 ∷ 133 ∷ 134 ∷ 172 ∷ 197 ∷ 198 ∷ 199 ∷ 200 ∷ []
unfolding footprint_at chains
opened_meets = refl

opened_makes : moved_at chains table opened ≡ changed (register_of_101 ∷ first_file) chains
unfolding moved_at chains changed
opened_makes = refl

abbrev closed : Entry
closed = calls 1 12 20 (call.Close 4) reply.Done

closed_meets : footprint_at chains closed ≡ 9 ∷ 76 ∷ 105 ∷ 133 ∷ 172 ∷ 197 ∷ 199 ∷ []
unfolding footprint_at chains
closed_meets = refl

-- The record under the handle goes, and the one under the id stays as a stale part.
closed_makes : moved_at chains table closed ≡ changed (
    no_open_at 101 4
    ∷ no_share_at 1
    ∷ no_lease_at (name 1 8)
    ∷ register_of_101
    ∷ no_ranges_at 1
    ∷ []
    ) chains
unfolding moved_at chains changed
closed_makes = refl

abbrev deleted : Entry
deleted = calls 1 12 20 (call.Delete 4 false) reply.Done

deleted_meets : footprint_at chains deleted ≡ 9 ∷ 76 ∷ 105 ∷ 133 ∷ 172 ∷ 197 ∷ 199 ∷ []
unfolding footprint_at chains
deleted_meets = refl

-- The file isn't to go any more. Its open stays marked.
deleted_makes : moved_at chains table deleted ≡ changed (
    share_at 2 1 (codes "a") false (taken_entry ∷ []) []
    ∷ register_of_101
    ∷ no_ranges_at 1
    ∷ []
    ) chains
unfolding moved_at chains changed
deleted_makes = refl

abbrev acked : Entry
acked = calls 2 12 20 (call.Ack 9 (state 1)) reply.Unsuccessful

acked_meets : footprint_at chains acked ≡ count_from 64 32 ++ 103 ∷ 107 ∷ 134 ∷ 135 ∷ 173 ∷ 198 ∷ 199 ∷ 200 ∷ []
unfolding footprint_at chains
acked_meets = refl

-- A record of version 1 is written in version 2 by a worker that isn't old.
acked_makes : moved_at chains table acked ≡ changed second_file chains
unfolding moved_at chains changed
acked_makes = refl

abbrev locked : Entry
locked = calls 2 12 20 (call.Lock 1 (record { start = 0; length = 4 }) Exclusive false) reply.LockNotGranted

locked_meets : footprint_at chains locked ≡ 7 ∷ 77 ∷ 103 ∷ 107 ∷ 134 ∷ 135 ∷ 173 ∷ 198 ∷ 199 ∷ 200 ∷ []
unfolding footprint_at chains
locked_meets = refl

locked_makes : moved_at chains table locked ≡ changed second_file chains
unfolding moved_at chains changed
locked_makes = refl

abbrev unlocked : Entry
unlocked = calls 2 12 20 (call.Unlock 1 (record { start = 0; length = 4 })) reply.Done

unlocked_meets : footprint_at chains unlocked ≡ 7 ∷ 77 ∷ 103 ∷ 107 ∷ 134 ∷ 135 ∷ 173 ∷ 198 ∷ 199 ∷ 200 ∷ []
unfolding footprint_at chains
unlocked_meets = refl

unlocked_makes : moved_at chains table unlocked ≡ changed (
    share_at 2 2 (codes "b") false (second_entry ∷ []) []
    ∷ no_lease_at (name 1 6)
    ∷ register_at 102 (record { worker = 2; alive = true; session = 1; connected = 0; ended = []; watchers = [] })
    ∷ no_ranges_at 2
    ∷ mail_at 104 1 [] (Wake 2 ∷ [])
    ∷ []
    ) chains
unfolding moved_at chains changed
unlocked_makes = refl

abbrev was_read : Entry
was_read = calls 4 12 20 (call.Read 1 (record { start = 0; length = 1 })) reply.FileClosed

-- There is no open record of the handle, so no file is met.
was_read_meets : footprint_at chains was_read ≡ 9 ∷ 136 ∷ 197 ∷ 198 ∷ 200 ∷ []
unfolding footprint_at chains
was_read_meets = refl

-- The watch of 102 behind 104 counts by its call: its token is for a lock.
was_read_makes : moved_at chains table was_read ≡ changed (register_of_104 ∷ []) chains
unfolding moved_at chains changed
was_read_makes = refl

abbrev was_written : Entry
was_written = calls 2 12 20 (call.Write 1 (record { start = 0; length = 4 })) reply.FileLockConflict

was_written_meets : footprint_at chains was_written ≡ 7 ∷ 77 ∷ 103 ∷ 107 ∷ 134 ∷ 135 ∷ 173 ∷ 198 ∷ 199 ∷ 200 ∷ []
unfolding footprint_at chains
was_written_meets = refl

was_written_makes : moved_at chains table was_written ≡ changed second_file chains
unfolding moved_at chains changed
was_written_makes = refl

abbrev asked_for_lock : Entry
asked_for_lock = calls 1 12 20 (call.GLock 6 Exclusive false) reply.LockNotGranted

asked_for_lock_meets : footprint_at chains asked_for_lock ≡ 38 ∷ 133 ∷ 134 ∷ 136 ∷ 197 ∷ 198 ∷ 199 ∷ 200 ∷ []
unfolding footprint_at chains
asked_for_lock_meets = refl

asked_for_lock_makes : moved_at chains table asked_for_lock ≡ changed (
    lock_at 6 (held 102 1 Shared ∷ held 104 1 Shared ∷ []) (record (watch 102 1 5) { upgrade = true } ∷ [])
    ∷ register_of_101
    ∷ register_of_104
    ∷ []
    ) chains
unfolding moved_at chains changed
asked_for_lock_makes = refl

abbrev gave_lock_back : Entry
gave_lock_back = calls 4 12 20 (call.GUnlock 6) reply.Done

gave_lock_back_meets : footprint_at chains gave_lock_back ≡ 38 ∷ 133 ∷ 134 ∷ 136 ∷ 197 ∷ 198 ∷ 199 ∷ 200 ∷ []
unfolding footprint_at chains
gave_lock_back_meets = refl

gave_lock_back_makes : moved_at chains table gave_lock_back ≡ changed (
    lock_at 6 (held 102 1 Shared ∷ []) []
    ∷ register_of_101
    ∷ register_at 104 (record { worker = 4; alive = true; session = 1; connected = 0; ended = []; watchers = [] })
    ∷ mail_at 102 1 [] (Wake 3 ∷ Wake 5 ∷ [])
    ∷ []
    ) chains
unfolding moved_at chains changed
gave_lock_back_makes = refl

abbrev received : Entry
received = calls 2 12 20 call.Recv (reply.Message (Wake 3))

received_meets : footprint_at chains received ≡ 134 ∷ 198 ∷ 200 ∷ []
unfolding footprint_at chains
received_meets = refl

received_makes : moved_at chains table received ≡ changed (mail_at 102 1 (lock_token ∷ []) [] ∷ []) chains
unfolding moved_at chains changed
received_makes = refl

abbrev disconnected : Entry
disconnected = calls 1 12 20 call.Disconnect reply.Done

disconnected_meets : footprint_at chains disconnected ≡ 133 ∷ 197 ∷ 199 ∷ []
unfolding footprint_at chains
disconnected_meets = refl

-- Its open is durable and stays.
disconnected_makes : moved_at chains table disconnected ≡ changed (
    register_at 101 (record { worker = 1; alive = true; session = 3; connected = 20; ended = 4 ∷ 20 ∷ []; watchers = [] })
    ∷ []
    ) chains
unfolding moved_at chains changed
disconnected_makes = refl

abbrev reconnected : Entry
reconnected = calls 2 12 20 (call.Reconnect 3 2 6) reply.ObjectNameNotFound

-- The asked name is met, though there is no such lease.
reconnected_meets : footprint_at chains reconnected ≡ 9 ∷ 18 ∷ 77 ∷ 103 ∷ 104 ∷ 107 ∷ 134 ∷ 135 ∷ 173 ∷ 198 ∷ 199 ∷ 200 ∷ []
unfolding footprint_at chains
reconnected_meets = refl

-- The open record of 103.2 goes; that of 101's handle 4 is in the same chain, and stays.
reconnected_makes : moved_at chains table reconnected ≡ changed (no_open_at 103 2 ∷ second_file) chains
unfolding moved_at chains changed
reconnected_makes = refl

abbrev scavenged : Entry
scavenged = calls 2 12 20 call.Scavenge (reply.Scavenged 0)

scavenged_meets : footprint_at chains scavenged ≡ count_from 64 160
unfolding footprint_at chains
scavenged_meets = refl

scavenged_makes : moved_at chains table scavenged ≡ changed (register_of_101 ∷ register_of_104 ∷ first_file ++ second_file) chains
unfolding moved_at chains changed
scavenged_makes = refl

abbrev asked_to_tidy : Entry
asked_to_tidy = calls 4 12 20 call.Tidy reply.Done

asked_to_tidy_meets : footprint_at chains asked_to_tidy ≡ 136 ∷ 200 ∷ []
unfolding footprint_at chains
asked_to_tidy_meets = refl

asked_to_tidy_makes : moved_at chains table asked_to_tidy ≡ chains
unfolding moved_at chains
asked_to_tidy_makes = refl

abbrev asked_for_tables : Entry
asked_for_tables = calls 2 12 20 (call.Status (record { shares = true; files = false; ranges = false })) reply.Shown

asked_for_tables_meets : footprint_at chains asked_for_tables ≡ count_from 64 128
unfolding footprint_at chains
asked_for_tables_meets = refl

asked_for_tables_makes : moved_at chains table asked_for_tables ≡ chains
unfolding moved_at chains
asked_for_tables_makes = refl

abbrev died : Entry
died = dies 2 20

died_meets : footprint_at chains died ≡ 134 ∷ 198 ∷ 200 ∷ []
unfolding footprint_at chains
died_meets = refl

died_makes : moved_at chains table died ≡ changed (
    register_at 102 (record { worker = 2; alive = false; session = 1; connected = 0; ended = 20 ∷ []; watchers = [] })
    ∷ no_mail_at 102
    ∷ mail_at 104 1 [] (Wake 2 ∷ [])
    ∷ []
    ) chains
unfolding moved_at chains changed
died_makes = refl

abbrev tidied : Entry
tidied = tidies 1 9

tidied_meets : footprint_at chains tidied ≡ 9 ∷ count_from 64 96 ++ count_from 192 32
unfolding footprint_at chains
tidied_meets = refl

-- Of the two open records of the chain one is of an open.
tidied_makes : moved_at chains table tidied ≡ changed (no_open_at 103 2 ∷ []) chains
unfolding moved_at chains changed
tidied_makes = refl
