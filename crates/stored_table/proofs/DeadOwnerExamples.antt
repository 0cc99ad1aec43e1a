-- Worked examples: databases in which a dead worker and an ended session have left stale parts, and what each kind of entry meets and
-- makes of them. Each footprint and each changed record was worked out by hand from the rules.
use Rattle.std.specs.Prelude.{◌≡◌, true, false, List, [], ◌∷◌, ◌++◌, map, None, Some, codes, refl}
use Rattle.sid_core.specs.declared.call.Call.TheVariants as call
use Rattle.sid_core.specs.declared.call.Mode.TheVariants.{Shared, Exclusive}
use Rattle.sid_core.specs.declared.entry.Entry.{Entry}
use Rattle.sid_core.specs.declared.entry.Letter.{Letter}
use Rattle.sid_core.specs.declared.entry.Letter.TheVariants.{Wake, Break}
use Rattle.sid_core.specs.declared.ids.Spot.TheVariants.{OpenOf, LockOf}
use Rattle.sid_core.specs.declared.reply.Reply.TheVariants as reply
use Rattle.serial_table.specs.declared.rows.OpenRow.{OpenRow}
use Rattle.serial_table.specs.declared.table.Table.{Table}
use Rattle.serial_table.specs.View.{view}
use Rattle.record_codec.specs.declared.share_rec.ShareEntry.{ShareEntry}
use Rattle.record_codec.specs.declared.mail_rec.Token.{Token}
use Rattle.serial_table.proofs.Samples.{sid, id, name, at, state, ended}
use Rattle.stored_table.specs.Places.{Chains}
use Rattle.stored_table.specs.Met.{count_from}
use Rattle.stored_table.specs.Exact.{exact_lock, exact_share, exact_lease, exact_register, exact_ranges, exact_mail}
use Rattle.stored_table.proofs.Samples.{setup, locks_in, shares_in, leases_in, registers_in, ranges_in, mail_in, Written, open_at, no_open_at, lock_at, no_lock_at, share_at, lease_at, no_lease_at, register_at, ranges_at, no_ranges_at, mail_at, no_mail_at, watch, held, item, ref, unbroken, breaks_to, calls, dies, tidies, changed, stored, moved_at, footprint_at}

-- ---- the table

-- 101.1 has file 1 under lease (1, 7), whose HANDLE is being broken; 103.1 has it disconnected, under lease (1, 8); 104.1 has file 2.
abbrev first_open : OpenRow
first_open = record { id = id 101 1; owner = sid 101 1; handle = 1; file = 1; access = record { 0 = 3 }; share = record { 0 = 0 }; lease = Some (name 1 7); durable = 0; opened = at 0; marked = false }

abbrev third_open : OpenRow
third_open = record { id = id 103 1; owner = sid 103 1; handle = 1; file = 1; access = record { 0 = 0x80 }; share = record { 0 = 7 }; lease = Some (name 1 8); durable = 60; opened = at 2; marked = false }

abbrev fourth_open : OpenRow
fourth_open = record { id = id 104 1; owner = sid 104 1; handle = 1; file = 2; access = record { 0 = 1 }; share = record { 0 = 7 }; lease = None; durable = 0; opened = at 3; marked = false }

abbrev letter : Letter
letter = Break 1 7 (state 3) (state 1) true

-- Worker 2 died at 5, and session 1 of worker 3 ended at 6. 104 waits for file 1 behind 101, and 101 for lock 5 behind 103.
abbrev table : Table
table = record {
  opens = first_open ∷ third_open ∷ fourth_open ∷ [];
  leases =
      record { name = name 1 7; file = 1; held = state 3; breaking = Some (record { asked = state 1; needed = state 1; until = at 45 }) }
      ∷ record { name = name 1 8; file = 1; held = state 3; breaking = None } ∷ [];
  ranges = record { id = id 101 1; file = 1; span = record { start = 0; length = 10 }; mode = Exclusive } ∷ [];
  holds = record { owner = sid 103 2; key = 5; mode = Exclusive } ∷ [];
  waiters =
      record { sid = sid 104 1; call = 2; spot = OpenOf 1; blocker = Some (sid 101 1); upgrade = false }
      ∷ record { sid = sid 101 1; call = 3; spot = LockOf 5; blocker = Some (sid 103 2); upgrade = false } ∷ [];
  letters = record { to = sid 101 1; letter = letter } ∷ [];
  workers =
      record { worker = 1; pid = 101; alive = true; session = 1; connected = at 0 }
      ∷ record { worker = 2; pid = 102; alive = false; session = 1; connected = at 0 }
      ∷ record { worker = 3; pid = 103; alive = true; session = 2; connected = at 6 }
      ∷ record { worker = 4; pid = 104; alive = true; session = 1; connected = at 0 } ∷ [];
  ended = ended 102 1 5 ∷ ended 103 1 6 ∷ [];
  pending = [];
}

-- ---- the databases

abbrev first_entry : ShareEntry
first_entry = record { id = id 101 1; owner = sid 101 1; handle = 1; access = record { 0 = 3 }; share = record { 0 = 0 }; lease = Some (name 1 7); durable = 0; opened = 0; marked = false }

-- stale: its owner is dead, and it isn't durable
abbrev stale_entry : ShareEntry
stale_entry = record { id = id 102 1; owner = sid 102 1; handle = 1; access = record { 0 = 1 }; share = record { 0 = 7 }; lease = Some (name 2 9); durable = 0; opened = 1; marked = false }

-- It counts: it is durable, and its lease has HANDLE.
abbrev third_entry : ShareEntry
third_entry = record { id = id 103 1; owner = sid 103 1; handle = 1; access = record { 0 = 0x80 }; share = record { 0 = 7 }; lease = Some (name 1 8); durable = 60; opened = 2; marked = false }

abbrev fourth_entry : ShareEntry
fourth_entry = record { id = id 104 1; owner = sid 104 1; handle = 1; access = record { 0 = 1 }; share = record { 0 = 7 }; lease = None; durable = 0; opened = 3; marked = false }

abbrev lock_token : Token
lock_token = record { spot = LockOf 5; call = 3 }

abbrev open_token : Token
open_token = record { spot = OpenOf 1; call = 2 }

-- Stale are the open record of 102.1, a hold of 102, the entry, the watch and the range of 102, its lease, a reference that no open has,
-- and the watch of 102 behind 104.
unfoldable chains : Chains
unfolding stored
chains = stored (
    open_at 101 1 (id 101 1) 1
    ∷ open_at 102 1 (id 102 1) 1
    ∷ open_at 103 1 (id 103 1) 1
    ∷ open_at 104 1 (id 104 1) 2
    ∷ lock_at 5 (held 102 1 Shared ∷ held 103 2 Exclusive ∷ []) (watch 101 1 3 ∷ [])
    ∷ share_at 2 1 (codes "a") false (first_entry ∷ stale_entry ∷ third_entry ∷ []) (watch 102 1 2 ∷ watch 104 1 2 ∷ [])
    ∷ share_at 2 2 (codes "b") false (fourth_entry ∷ []) []
    ∷ lease_at (name 1 7) (breaks_to 1 3 1 45 (ref (id 101 1) (sid 101 1) 0 ∷ []))
    ∷ lease_at (name 2 9) (unbroken 1 3 (ref (id 102 1) (sid 102 1) 0 ∷ []))
    ∷ lease_at (name 1 8) (unbroken 1 3 (ref (id 103 1) (sid 103 1) 60 ∷ ref (id 103 5) (sid 103 1) 0 ∷ []))
    ∷ register_at 101 (record { worker = 1; alive = true; session = 1; connected = 0; ended = []; watchers = watch 104 1 2 ∷ [] })
    ∷ register_at 102 (record { worker = 2; alive = false; session = 1; connected = 0; ended = 5 ∷ []; watchers = [] })
    ∷ register_at 103 (record { worker = 3; alive = true; session = 2; connected = 6; ended = 6 ∷ []; watchers = watch 101 1 3 ∷ [] })
    ∷ register_at 104 (record { worker = 4; alive = true; session = 1; connected = 0; ended = []; watchers = watch 102 1 2 ∷ [] })
    ∷ ranges_at 1 (item (id 101 1) 0 10 Exclusive ∷ item (id 102 1) 20 5 Shared ∷ []) (watch 102 1 7 ∷ [])
    ∷ mail_at 101 1 (lock_token ∷ []) (letter ∷ [])
    ∷ mail_at 104 1 (open_token ∷ []) []
    ∷ []
    )

-- ---- what counts in them is what the table shows

locks_stand : locks_in chains (5 ∷ 6 ∷ 7 ∷ []) ≡ map (exact_lock (view table)) (5 ∷ 6 ∷ 7 ∷ [])
unfolding locks_in chains
locks_stand = refl

shares_stand : shares_in chains (1 ∷ 2 ∷ 3 ∷ []) ≡ map (exact_share setup (view table)) (1 ∷ 2 ∷ 3 ∷ [])
unfolding shares_in chains
shares_stand = refl

leases_stand : leases_in chains (name 1 6 ∷ name 1 7 ∷ name 1 8 ∷ name 2 9 ∷ []) ≡ map (exact_lease (view table)) (name 1 6 ∷ name 1 7 ∷ name 1 8 ∷ name 2 9 ∷ [])
unfolding leases_in chains
leases_stand = refl

registers_stand : registers_in chains (101 ∷ 102 ∷ 103 ∷ 104 ∷ 105 ∷ []) ≡ map (exact_register (view table)) (101 ∷ 102 ∷ 103 ∷ 104 ∷ 105 ∷ [])
unfolding registers_in chains
registers_stand = refl

ranges_stand : ranges_in chains (1 ∷ 2 ∷ 3 ∷ []) ≡ map (exact_ranges setup (view table)) (1 ∷ 2 ∷ 3 ∷ [])
unfolding ranges_in chains
ranges_stand = refl

mail_stands : mail_in chains (101 ∷ 102 ∷ 103 ∷ 104 ∷ 105 ∷ []) ≡ map (exact_mail (view table)) (101 ∷ 102 ∷ 103 ∷ 104 ∷ 105 ∷ [])
unfolding mail_in chains
mail_stands = refl

-- ---- each kind of entry

abbrev opened : Entry
opened = calls 4 10 10 (call.OpenFile 2 (record { 0 = 1 }) (record { 0 = 7 }) None 0 false false) (reply.Granted None false)

-- Own open record, file 2, and the mailboxes of 104 and of who waits behind it, as the register record has it.
opened_meets : footprint_at chains opened ≡ 18 ∷ 77 ∷ 136 ∷ 173 ∷ 198 ∷ 200 ∷ []
unfolding footprint_at chains
opened_meets = refl

-- Worker 4 is old: it writes the share mode record in version 1. Its wait for file 1 goes on.
opened_makes : moved_at chains table opened ≡ changed (
    open_at 104 10 (id 104 10) 2
    ∷ share_at 1 2 (codes "b") false (fourth_entry ∷ record fourth_entry { id = id 104 10; handle = 10; opened = 10 } ∷ []) []
    ∷ register_at 104 (record { worker = 4; alive = true; session = 1; connected = 0; ended = []; watchers = [] })
    ∷ []
    ) chains
unfolding moved_at chains changed
opened_makes = refl

abbrev closed : Entry
closed = calls 1 10 10 (call.Close 1) reply.Done

-- The handle's file; the leases of all its entries, also of the stale one; the owners of entries and references; and the mailboxes of
-- these and of 104, which only waits there.
closed_meets : footprint_at chains closed ≡ 6 ∷ 76 ∷ 104 ∷ 105 ∷ 107 ∷ 133 ∷ 134 ∷ 135 ∷ 172 ∷ 197 ∷ 198 ∷ 199 ∷ 200 ∷ []
unfolding footprint_at chains
closed_meets = refl

-- What is empty has no record. The open record of 102.1 and the stale watch behind 104 aren't met, and stay.
closed_makes : moved_at chains table closed ≡ changed (
    no_open_at 101 1
    ∷ share_at 2 1 (codes "a") false (third_entry ∷ []) []
    ∷ no_lease_at (name 1 7)
    ∷ no_lease_at (name 2 9)
    ∷ lease_at (name 1 8) (unbroken 1 3 (ref (id 103 1) (sid 103 1) 60 ∷ []))
    ∷ register_at 101 (record { worker = 1; alive = true; session = 1; connected = 0; ended = []; watchers = [] })
    ∷ no_ranges_at 1
    ∷ mail_at 104 1 [] (Wake 2 ∷ [])
    ∷ []
    ) chains
unfolding moved_at chains changed
closed_makes = refl

abbrev deleted : Entry
deleted = calls 4 10 10 (call.Delete 1 true) reply.AccessDenied

deleted_meets : footprint_at chains deleted ≡ 9 ∷ 77 ∷ 136 ∷ 173 ∷ 198 ∷ 200 ∷ []
unfolding footprint_at chains
deleted_meets = refl

-- A refusal too rewrites what it meets: an old worker in version 1.
deleted_makes : moved_at chains table deleted ≡ changed (
    share_at 1 2 (codes "b") false (fourth_entry ∷ []) []
    ∷ register_at 104 (record { worker = 4; alive = true; session = 1; connected = 0; ended = []; watchers = [] })
    ∷ []
    ) chains
unfolding moved_at chains changed
deleted_makes = refl

-- the records of file 1 without their stale parts
abbrev cleaned_leases : List Written
cleaned_leases = no_lease_at (name 2 9) ∷ lease_at (name 1 8) (unbroken 1 3 (ref (id 103 1) (sid 103 1) 60 ∷ [])) ∷ []

abbrev own_range : List Written
own_range = ranges_at 1 (item (id 101 1) 0 10 Exclusive ∷ []) [] ∷ []

abbrev acked : Entry
acked = calls 1 10 10 (call.Ack 7 (state 1)) reply.Done

-- all chains of share mode records, and what file 1 meets
acked_meets : footprint_at chains acked ≡ count_from 64 32 ++ 104 ∷ 105 ∷ 107 ∷ 133 ∷ 134 ∷ 135 ∷ 172 ∷ 197 ∷ 198 ∷ 199 ∷ 200 ∷ []
unfolding footprint_at chains
acked_meets = refl

acked_makes : moved_at chains table acked ≡ changed (
    share_at 2 1 (codes "a") false (first_entry ∷ third_entry ∷ []) []
    ∷ lease_at (name 1 7) (unbroken 1 1 (ref (id 101 1) (sid 101 1) 0 ∷ []))
    ∷ register_at 101 (record { worker = 1; alive = true; session = 1; connected = 0; ended = []; watchers = [] })
    ∷ mail_at 104 1 [] (Wake 2 ∷ [])
    ∷ cleaned_leases ++ own_range
    ) chains
unfolding moved_at chains changed
acked_makes = refl

abbrev locked : Entry
locked = calls 1 10 10 (call.Lock 1 (record { start = 100; length = 10 }) Shared false) reply.Done

locked_meets : footprint_at chains locked ≡ 6 ∷ 76 ∷ 104 ∷ 105 ∷ 107 ∷ 133 ∷ 134 ∷ 135 ∷ 172 ∷ 197 ∷ 198 ∷ 199 ∷ 200 ∷ []
unfolding footprint_at chains
locked_meets = refl

-- The lease (1, 8) has no connected open: it is broken at once, and its open goes. The open record of that open isn't met.
abbrev without_third : List Written
without_third =
    share_at 2 1 (codes "a") false (first_entry ∷ []) []
    ∷ no_lease_at (name 2 9)
    ∷ no_lease_at (name 1 8)
    ∷ register_at 101 (record { worker = 1; alive = true; session = 1; connected = 0; ended = []; watchers = [] })
    ∷ mail_at 104 1 [] (Wake 2 ∷ [])
    ∷ []

locked_makes : moved_at chains table locked ≡ changed (ranges_at 1 (item (id 101 1) 0 10 Exclusive ∷ item (id 101 1) 100 10 Shared ∷ []) [] ∷ without_third) chains
unfolding moved_at chains changed
locked_makes = refl

abbrev unlocked : Entry
unlocked = calls 1 10 10 (call.Unlock 1 (record { start = 0; length = 10 })) reply.Done

unlocked_meets : footprint_at chains unlocked ≡ 6 ∷ 76 ∷ 104 ∷ 105 ∷ 107 ∷ 133 ∷ 134 ∷ 135 ∷ 172 ∷ 197 ∷ 198 ∷ 199 ∷ 200 ∷ []
unfolding footprint_at chains
unlocked_meets = refl

unlocked_makes : moved_at chains table unlocked ≡ changed (
    share_at 2 1 (codes "a") false (first_entry ∷ third_entry ∷ []) (watch 104 1 2 ∷ [])
    ∷ no_ranges_at 1
    ∷ cleaned_leases
    ) chains
unfolding moved_at chains changed
unlocked_makes = refl

abbrev was_read : Entry
was_read = calls 1 10 10 (call.Read 1 (record { start = 0; length = 5 })) reply.Done

was_read_meets : footprint_at chains was_read ≡ 6 ∷ 76 ∷ 104 ∷ 105 ∷ 107 ∷ 133 ∷ 134 ∷ 135 ∷ 172 ∷ 197 ∷ 198 ∷ 199 ∷ 200 ∷ []
unfolding footprint_at chains
was_read_meets = refl

was_read_makes : moved_at chains table was_read ≡ changed (
    share_at 2 1 (codes "a") false (first_entry ∷ third_entry ∷ []) (watch 104 1 2 ∷ [])
    ∷ cleaned_leases ++ own_range
    ) chains
unfolding moved_at chains changed
was_read_makes = refl

abbrev was_written : Entry
was_written = calls 1 10 10 (call.Write 1 (record { start = 0; length = 5 })) reply.Done

was_written_meets : footprint_at chains was_written ≡ 6 ∷ 76 ∷ 104 ∷ 105 ∷ 107 ∷ 133 ∷ 134 ∷ 135 ∷ 172 ∷ 197 ∷ 198 ∷ 199 ∷ 200 ∷ []
unfolding footprint_at chains
was_written_meets = refl

was_written_makes : moved_at chains table was_written ≡ changed (own_range ++ without_third) chains
unfolding moved_at chains changed
was_written_makes = refl

abbrev asked_for_lock : Entry
asked_for_lock = calls 4 10 10 (call.GLock 5 Shared true) reply.Pending

-- the lock; the caller and both holders; their mailboxes, and that of 101, which only waits there
asked_for_lock_meets : footprint_at chains asked_for_lock ≡ 37 ∷ 134 ∷ 135 ∷ 136 ∷ 197 ∷ 198 ∷ 199 ∷ 200 ∷ []
unfolding footprint_at chains
asked_for_lock_meets = refl

asked_for_lock_makes : moved_at chains table asked_for_lock ≡ changed (
    lock_at 5 (held 103 2 Exclusive ∷ []) (watch 101 1 3 ∷ watch 104 1 10 ∷ [])
    ∷ register_at 103 (record { worker = 3; alive = true; session = 2; connected = 6; ended = 6 ∷ []; watchers = watch 101 1 3 ∷ watch 104 1 10 ∷ [] })
    ∷ register_at 104 (record { worker = 4; alive = true; session = 1; connected = 0; ended = []; watchers = [] })
    ∷ mail_at 104 1 (open_token ∷ record { spot = LockOf 5; call = 10 } ∷ []) []
    ∷ []
    ) chains
unfolding moved_at chains changed
asked_for_lock_makes = refl

abbrev gave_lock_back : Entry
gave_lock_back = calls 3 10 10 (call.GUnlock 5) reply.Done

gave_lock_back_meets : footprint_at chains gave_lock_back ≡ 37 ∷ 134 ∷ 135 ∷ 197 ∷ 198 ∷ 199 ∷ []
unfolding footprint_at chains
gave_lock_back_meets = refl

gave_lock_back_makes : moved_at chains table gave_lock_back ≡ changed (
    no_lock_at 5
    ∷ register_at 103 (record { worker = 3; alive = true; session = 2; connected = 6; ended = 6 ∷ []; watchers = [] })
    ∷ mail_at 101 1 [] (letter ∷ Wake 3 ∷ [])
    ∷ []
    ) chains
unfolding moved_at chains changed
gave_lock_back_makes = refl

abbrev received : Entry
received = calls 1 10 10 call.Recv (reply.Message letter)

received_meets : footprint_at chains received ≡ 133 ∷ 197 ∷ 200 ∷ []
unfolding footprint_at chains
received_meets = refl

received_makes : moved_at chains table received ≡ changed (mail_at 101 1 (lock_token ∷ []) [] ∷ []) chains
unfolding moved_at chains changed
received_makes = refl

abbrev disconnected : Entry
disconnected = calls 4 10 10 call.Disconnect reply.Done

disconnected_meets : footprint_at chains disconnected ≡ 136 ∷ 198 ∷ 200 ∷ []
unfolding footprint_at chains
disconnected_meets = refl

-- Its open of file 2 and its watch at file 1 aren't met, and stay as stale parts.
disconnected_makes : moved_at chains table disconnected ≡ changed (
    register_at 104 (record { worker = 4; alive = true; session = 2; connected = 10; ended = 10 ∷ []; watchers = [] })
    ∷ no_mail_at 104
    ∷ []
    ) chains
unfolding moved_at chains changed
disconnected_makes = refl

abbrev reconnected : Entry
reconnected = calls 1 10 10 (call.Reconnect 3 1 8) (reply.Granted (Some (state 3)) true)

-- the open record of the named call, the caller's own, and what the named open's file meets
reconnected_meets : footprint_at chains reconnected ≡ 8 ∷ 15 ∷ 76 ∷ 104 ∷ 105 ∷ 107 ∷ 133 ∷ 134 ∷ 135 ∷ 172 ∷ 197 ∷ 198 ∷ 199 ∷ 200 ∷ []
unfolding footprint_at chains
reconnected_meets = refl

reconnected_makes : moved_at chains table reconnected ≡ changed (
    open_at 101 10 (id 103 1) 1
    ∷ share_at 2 1 (codes "a") false (first_entry ∷ record third_entry { owner = sid 101 1; handle = 10 } ∷ []) (watch 104 1 2 ∷ [])
    ∷ no_lease_at (name 2 9)
    ∷ lease_at (name 1 8) (unbroken 1 3 (ref (id 103 1) (sid 101 1) 60 ∷ []))
    ∷ own_range
    ) chains
unfolding moved_at chains changed
reconnected_makes = refl

abbrev scavenged : Entry
scavenged = calls 4 10 100 call.Scavenge (reply.Scavenged 1)

-- five databases whole
scavenged_meets : footprint_at chains scavenged ≡ count_from 64 160
unfolding footprint_at chains
scavenged_meets = refl

-- At moment 100 the break of lease (1, 7) has expired, and the open 103.1 goes. Open records are met by no `scavenge`.
scavenged_makes : moved_at chains table scavenged ≡ changed (
    share_at 1 1 (codes "a") false (first_entry ∷ []) []
    ∷ share_at 1 2 (codes "b") false (fourth_entry ∷ []) []
    ∷ lease_at (name 1 7) (unbroken 1 1 (ref (id 101 1) (sid 101 1) 0 ∷ []))
    ∷ no_lease_at (name 2 9)
    ∷ no_lease_at (name 1 8)
    ∷ register_at 101 (record { worker = 1; alive = true; session = 1; connected = 0; ended = []; watchers = [] })
    ∷ register_at 104 (record { worker = 4; alive = true; session = 1; connected = 0; ended = []; watchers = [] })
    ∷ mail_at 104 1 [] (Wake 2 ∷ [])
    ∷ own_range
    ) chains
unfolding moved_at chains changed
scavenged_makes = refl

abbrev asked_to_tidy : Entry
asked_to_tidy = calls 1 10 10 call.Tidy reply.Done

asked_to_tidy_meets : footprint_at chains asked_to_tidy ≡ 133 ∷ 197 ∷ []
unfolding footprint_at chains
asked_to_tidy_meets = refl

asked_to_tidy_makes : moved_at chains table asked_to_tidy ≡ chains
unfolding moved_at chains
asked_to_tidy_makes = refl

abbrev asked_for_tables : Entry
asked_for_tables = calls 3 10 10 (call.Status (record { shares = true; files = true; ranges = true })) reply.Shown

-- no mailbox
asked_for_tables_meets : footprint_at chains asked_for_tables ≡ count_from 64 128
unfolding footprint_at chains
asked_for_tables_meets = refl

asked_for_tables_makes : moved_at chains table asked_for_tables ≡ chains
unfolding moved_at chains
asked_for_tables_makes = refl

abbrev died : Entry
died = dies 1 10

died_meets : footprint_at chains died ≡ 133 ∷ 197 ∷ 200 ∷ []
unfolding footprint_at chains
died_meets = refl

-- What the dead worker had elsewhere stays as stale parts.
died_makes : moved_at chains table died ≡ changed (
    register_at 101 (record { worker = 1; alive = false; session = 1; connected = 0; ended = 10 ∷ []; watchers = [] })
    ∷ no_mail_at 101
    ∷ mail_at 104 1 [] (Wake 2 ∷ [])
    ∷ []
    ) chains
unfolding moved_at chains changed
died_makes = refl

abbrev tidied : Entry
tidied = tidies 1 76

-- the chain, and four databases whole
tidied_meets : footprint_at chains tidied ≡ count_from 64 96 ++ count_from 192 32
unfolding footprint_at chains
tidied_meets = refl

tidied_makes : moved_at chains table tidied ≡ changed (share_at 2 1 (codes "a") false (first_entry ∷ third_entry ∷ []) (watch 104 1 2 ∷ []) ∷ []) chains
unfolding moved_at chains changed
tidied_makes = refl

-- the chain of the open record of 102.1, which no open has
tidied_opens : moved_at chains table (tidies 1 7) ≡ changed (no_open_at 102 1 ∷ []) chains
unfolding moved_at chains changed
tidied_opens = refl
