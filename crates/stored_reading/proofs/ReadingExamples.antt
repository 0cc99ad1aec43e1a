-- Worked examples: databases in which a dead worker has left stale parts, what they show, and one step on them alone.
use Rattle.std.specs.Prelude.{◌≡◌, ℕ, true, false, List, [], ◌∷◌, map, None, Some, codes, refl}
use Rattle.sid_core.specs.declared.call.Call.TheVariants as call
use Rattle.sid_core.specs.declared.call.Mode.TheVariants.{Shared, Exclusive}
use Rattle.sid_core.specs.declared.entry.Entry.{Entry}
use Rattle.sid_core.specs.declared.entry.Letter.{Letter}
use Rattle.sid_core.specs.declared.entry.Letter.TheVariants.{Wake, Break}
use Rattle.sid_core.specs.declared.ids.Spot.TheVariants.{OpenOf, RangesOf, LockOf}
use Rattle.sid_core.specs.declared.reply.Reply.{Reply}
use Rattle.sid_core.specs.declared.reply.Reply.TheVariants as reply
use Rattle.serial_table.specs.declared.rows.OpenRow.{OpenRow}
use Rattle.serial_table.specs.declared.table.Table.{Table}
use Rattle.serial_table.specs.Settle.{settle_where, settle_by_key, settle_file}
use Rattle.serial_table.specs.Change.{set_lease, with_pending, end_session, begin_session}
use Rattle.serial_table.specs.Decision.{conclude}
use Rattle.serial_table.specs.Break.{break_lease, break_each}
use Rattle.serial_table.specs.Close.{close}
use Rattle.serial_table.specs.Expire.{expired_by}
use Rattle.serial_table.specs.Step.{caller_of, answer_of}
use Rattle.serial_table.specs.View.{View, view}
use Rattle.record_codec.specs.declared.share_rec.ShareEntry.{ShareEntry}
use Rattle.record_codec.specs.declared.mail_rec.Token.{Token}
use Rattle.record_codec.specs.Codec.{raw, read_run, times_read, read_all}
use Rattle.record_codec.specs.OpenRec.{open_fields}
use Rattle.record_codec.specs.GLockRec.{hold, upgrade_watch, glock_fields}
use Rattle.record_codec.specs.ShareRec.{unmarked_entry, share_entry, old_share_fields, share_fields}
use Rattle.record_codec.specs.LeaseRec.{lease_ref, lease_fields}
use Rattle.record_codec.specs.RegisterRec.{register_fields}
use Rattle.record_codec.specs.RangeRec.{range_item, range_fields}
use Rattle.record_codec.specs.MailRec.{token, letter, mail_fields}
use Rattle.serial_table.proofs.Samples.{sid, id, name, at, state, ended}
use Rattle.stored_table.specs.Places.{Chains}
use Rattle.stored_table.proofs.Samples.{setup, open_at, no_open_at, lock_at, share_at, lease_at, no_lease_at, register_at, ranges_at, no_ranges_at, mail_at, watch, held, item, ref, unbroken, breaks_to, calls, changed, stored}
use Rattle.stored_reading.specs.Reading.{view_of_chains}
use Rattle.stored_reading.specs.Steps.{step}

-- ---- the table

-- 101.1 has file 1 under lease (1, 7), whose HANDLE is being broken; 103.1 has it disconnected, under lease (1, 8).
abbrev first_open : OpenRow
first_open = record { id = id 101 1; owner = sid 101 1; handle = 1; file = 1; access = record { 0 = 3 }; share = record { 0 = 0 }; lease = Some (name 1 7); durable = 0; opened = at 0; marked = false }

abbrev third_open : OpenRow
third_open = record { id = id 103 1; owner = sid 103 1; handle = 1; file = 1; access = record { 0 = 0x80 }; share = record { 0 = 7 }; lease = Some (name 1 8); durable = 60; opened = at 2; marked = false }

abbrev sent : Letter
sent = Break 1 7 (state 3) (state 1) true

-- Worker 2 died at 5, and session 1 of worker 3 ended at 6. 104 waits for file 1 behind 101, and 101 for lock 5 behind 103.
abbrev table : Table
table = record {
  opens = first_open ∷ third_open ∷ [];
  leases =
      record { name = name 1 7; file = 1; held = state 3; breaking = Some (record { asked = state 1; needed = state 1; until = at 45 }) }
      ∷ record { name = name 1 8; file = 1; held = state 3; breaking = None } ∷ [];
  ranges = record { id = id 101 1; file = 1; span = record { start = 0; length = 10 }; mode = Exclusive } ∷ [];
  holds = record { owner = sid 103 2; key = 5; mode = Exclusive } ∷ [];
  waiters =
      record { sid = sid 104 1; call = 2; spot = OpenOf 1; blocker = Some (sid 101 1); upgrade = false }
      ∷ record { sid = sid 101 1; call = 3; spot = LockOf 5; blocker = Some (sid 103 2); upgrade = false } ∷ [];
  letters = record { to = sid 101 1; letter = sent } ∷ [];
  workers =
      record { worker = 1; pid = 101; alive = true; session = 1; connected = at 0 }
      ∷ record { worker = 2; pid = 102; alive = false; session = 1; connected = at 0 }
      ∷ record { worker = 3; pid = 103; alive = true; session = 2; connected = at 6 }
      ∷ record { worker = 4; pid = 104; alive = true; session = 1; connected = at 0 } ∷ [];
  ended = ended 102 1 5 ∷ ended 103 1 6 ∷ [];
  pending = [];
}

-- ---- the databases

abbrev first_entry : ShareEntry
first_entry = record { id = id 101 1; owner = sid 101 1; handle = 1; access = record { 0 = 3 }; share = record { 0 = 0 }; lease = Some (name 1 7); durable = 0; opened = 0; marked = false }

-- stale: its owner is dead, and it isn't durable
abbrev stale_entry : ShareEntry
stale_entry = record { id = id 102 1; owner = sid 102 1; handle = 1; access = record { 0 = 1 }; share = record { 0 = 7 }; lease = Some (name 2 9); durable = 0; opened = 1; marked = false }

abbrev third_entry : ShareEntry
third_entry = record { id = id 103 1; owner = sid 103 1; handle = 1; access = record { 0 = 0x80 }; share = record { 0 = 7 }; lease = Some (name 1 8); durable = 60; opened = 2; marked = false }

abbrev lock_token : Token
lock_token = record { spot = LockOf 5; call = 3 }

abbrev open_token : Token
open_token = record { spot = OpenOf 1; call = 2 }

-- Stale are the open record of 102.1, a hold of 102, the entry, the watch and the range of 102, its lease, a reference that no open has,
-- and the watch of 101 behind 102, which is dead.
unfoldable chains : Chains
unfolding stored
chains = stored (
    open_at 101 1 (id 101 1) 1
    ∷ open_at 102 1 (id 102 1) 1
    ∷ open_at 103 1 (id 103 1) 1
    ∷ lock_at 5 (held 102 1 Shared ∷ held 103 2 Exclusive ∷ []) (watch 101 1 3 ∷ [])
    ∷ share_at 2 1 (codes "a") false (first_entry ∷ stale_entry ∷ third_entry ∷ []) (watch 102 1 2 ∷ watch 104 1 2 ∷ [])
    ∷ lease_at (name 1 7) (breaks_to 1 3 1 45 (ref (id 101 1) (sid 101 1) 0 ∷ []))
    ∷ lease_at (name 2 9) (unbroken 1 3 (ref (id 102 1) (sid 102 1) 0 ∷ []))
    ∷ lease_at (name 1 8) (unbroken 1 3 (ref (id 103 1) (sid 103 1) 60 ∷ ref (id 103 5) (sid 103 1) 0 ∷ []))
    ∷ register_at 101 (record { worker = 1; alive = true; session = 1; connected = 0; ended = []; watchers = watch 102 1 2 ∷ watch 104 1 2 ∷ [] })
    ∷ register_at 102 (record { worker = 2; alive = false; session = 1; connected = 0; ended = 5 ∷ []; watchers = [] })
    ∷ register_at 103 (record { worker = 3; alive = true; session = 2; connected = 6; ended = 6 ∷ []; watchers = watch 101 1 3 ∷ [] })
    ∷ register_at 104 (record { worker = 4; alive = true; session = 1; connected = 0; ended = []; watchers = [] })
    ∷ ranges_at 1 (item (id 101 1) 0 10 Exclusive ∷ item (id 102 1) 20 5 Shared ∷ []) (watch 102 1 7 ∷ [])
    ∷ mail_at 101 1 (lock_token ∷ []) (sent ∷ [])
    ∷ mail_at 104 1 (open_token ∷ []) []
    ∷ []
    )

unfoldable shown_by : Chains → View
unfolding raw read_run times_read read_all open_fields hold upgrade_watch glock_fields unmarked_entry share_entry old_share_fields share_fields lease_ref lease_fields register_fields range_item range_fields token letter mail_fields
shown_by k = view_of_chains setup 32 k

-- ---- what they show

opens_shown : map (shown_by chains).opens_of (1 ∷ 2 ∷ 3 ∷ []) ≡ (first_open ∷ third_open ∷ []) ∷ [] ∷ [] ∷ []
unfolding shown_by chains
opens_shown = refl

-- The handle of the dead and that of an id that is no open show nothing.
handles_shown : map (λ owner. (shown_by chains).opens_of_handle owner 1) (sid 101 1 ∷ sid 101 2 ∷ sid 102 1 ∷ sid 103 1 ∷ []) ≡ (first_open ∷ []) ∷ [] ∷ [] ∷ (third_open ∷ []) ∷ []
unfolding shown_by chains
handles_shown = refl

ids_shown : map (shown_by chains).opens_of_id (id 101 1 ∷ id 102 1 ∷ id 103 1 ∷ id 103 5 ∷ []) ≡ (first_open ∷ []) ∷ [] ∷ (third_open ∷ []) ∷ [] ∷ []
unfolding shown_by chains
ids_shown = refl

leases_shown : map (shown_by chains).leases_of (name 1 7 ∷ name 1 8 ∷ name 2 9 ∷ []) ≡ map (view table).leases_of (name 1 7 ∷ name 1 8 ∷ name 2 9 ∷ [])
unfolding shown_by chains
leases_shown = refl

ranges_shown : map (shown_by chains).ranges_of (1 ∷ 2 ∷ []) ≡ map (view table).ranges_of (1 ∷ 2 ∷ [])
unfolding shown_by chains
ranges_shown = refl

holds_shown : map (shown_by chains).holds_of (5 ∷ 6 ∷ []) ≡ map (view table).holds_of (5 ∷ 6 ∷ [])
unfolding shown_by chains
holds_shown = refl

watches_shown : map (shown_by chains).watches_on (OpenOf 1 ∷ RangesOf 1 ∷ LockOf 5 ∷ []) ≡ map (view table).watches_on (OpenOf 1 ∷ RangesOf 1 ∷ LockOf 5 ∷ [])
unfolding shown_by chains
watches_shown = refl

-- Nobody waits behind a session that has ended, whoever waits behind the next one of its worker.
behind_shown : map (shown_by chains).watches_behind (sid 101 1 ∷ sid 103 1 ∷ sid 103 2 ∷ []) ≡ map (view table).watches_behind (sid 101 1 ∷ sid 103 1 ∷ sid 103 2 ∷ [])
unfolding shown_by chains
behind_shown = refl

-- The mailbox of session 1 isn't that of session 2.
tokens_shown : map (shown_by chains).tokens_of (sid 101 1 ∷ sid 101 2 ∷ sid 104 1 ∷ []) ≡ map (view table).tokens_of (sid 101 1 ∷ sid 101 2 ∷ sid 104 1 ∷ [])
unfolding shown_by chains
tokens_shown = refl

letters_shown : map (shown_by chains).letters_of (sid 101 1 ∷ sid 101 2 ∷ sid 104 1 ∷ []) ≡ (record { to = sid 101 1; letter = sent } ∷ []) ∷ [] ∷ [] ∷ []
unfolding shown_by chains
letters_shown = refl

workers_shown : map (shown_by chains).worker_of (101 ∷ 102 ∷ 103 ∷ 105 ∷ []) ≡ map (view table).worker_of (101 ∷ 102 ∷ 103 ∷ 105 ∷ [])
unfolding shown_by chains
workers_shown = refl

ended_shown : map (shown_by chains).ended_of (101 ∷ 102 ∷ 103 ∷ []) ≡ [] ∷ (ended 102 1 5 ∷ []) ∷ (ended 103 1 6 ∷ []) ∷ []
unfolding shown_by chains
ended_shown = refl

-- ---- one step

abbrev closed : Entry
closed = calls 1 10 10 (call.Close 1) reply.Done

unfoldable step_at : Chains → Entry → Chains
unfolding conclude expired_by settle_where settle_by_key settle_file set_lease with_pending end_session begin_session break_lease break_each close caller_of raw read_run times_read read_all open_fields hold upgrade_watch glock_fields unmarked_entry share_entry old_share_fields share_fields lease_ref lease_fields register_fields range_item range_fields token letter mail_fields
step_at k e = step setup 32 k e

-- The open goes with its lease and its range, and 104, which waits behind it, is woken. The stale entry and hold are what others left.
closed_makes : step_at chains closed ≡ changed (
    no_open_at 101 1
    ∷ share_at 2 1 (codes "a") false (third_entry ∷ []) []
    ∷ no_lease_at (name 1 7)
    ∷ no_lease_at (name 2 9)
    ∷ lease_at (name 1 8) (unbroken 1 3 (ref (id 103 1) (sid 103 1) 60 ∷ []))
    ∷ register_at 101 (record { worker = 1; alive = true; session = 1; connected = 0; ended = []; watchers = [] })
    ∷ no_ranges_at 1
    ∷ mail_at 104 1 [] (Wake 2 ∷ [])
    ∷ []
    ) chains
unfolding step_at chains changed
closed_makes = refl

unfoldable answer_at : Chains → ℕ → ℕ → Rattle.std.specs.Prelude.Option Reply
unfolding conclude expired_by settle_where settle_by_key settle_file set_lease with_pending end_session begin_session break_lease break_each close caller_of shown_by
answer_at k worker handle = answer_of setup (shown_by k) worker 10 (at 10) (call.Close handle)

-- Worker 1 closes its handle and no other; the dead have no answer.
answers : map (λ worker. answer_at chains worker 1) (1 ∷ 2 ∷ 3 ∷ []) ≡ Some reply.Done ∷ None ∷ Some reply.FileClosed ∷ []
unfolding answer_at shown_by chains raw read_run times_read read_all open_fields hold upgrade_watch glock_fields unmarked_entry share_entry old_share_fields share_fields lease_ref lease_fields register_fields range_item range_fields token letter mail_fields
answers = refl
