-- Worked examples: what the table tells under each key. Worker 101 lives in session 1 and 102 in session 3; session 1 of 102 has ended, and 103
-- is dead.
use Rattle.std.specs.Prelude.{◌≡◌, true, false, [], ◌∷◌, None, Some, refl}
use Rattle.sid_core.specs.declared.ids.Sid.{Sid}
use Rattle.sid_core.specs.declared.ids.Spot.TheVariants.{OpenOf, RangesOf, LockOf}
use Rattle.serial_table.specs.declared.table.Table.{Table}
use Rattle.serial_table.specs.View.{view, lives, leases_at}
use Rattle.serial_table.specs.File.{file_view}
use Rattle.serial_table.proofs.Samples.{sid, id, name, nothing_open, worker_103, plain, leased, durable, lease, range, shares_lock, holds_alone, waits, just_waits, wakes, ended}

abbrev us : Sid
us = sid 101 1

abbrev them : Sid
them = sid 102 3

abbrev table : Table
table = record nothing_open {
  opens = plain 101 1 4 1 ∷ plain 102 3 4 2 ∷ record (plain 102 1 1 1) { owner = them; handle = 6 } ∷ durable (leased (name 2 7) (plain 102 1 2 1)) ∷ [];
  leases = lease (name 2 7) 1 3 ∷ lease (name 1 7) 2 1 ∷ [];
  ranges = range (id 101 4) 1 0 ∷ range (id 102 4) 2 0 ∷ range (id 101 4) 1 20 ∷ [];
  holds = shares_lock us 9 ∷ holds_alone us 8 ∷ shares_lock them 9 ∷ [];
  waiters =
      waits us 5 (OpenOf 1) them ∷ record (waits them 6 (LockOf 9) us) { upgrade = true } ∷ just_waits us 7 (RangesOf 1)
      ∷ waits them 8 (OpenOf 1) us ∷ waits us 9 (LockOf 1) them ∷ [];
  letters = wakes us 1 ∷ wakes them 1 ∷ wakes us 2 ∷ [];
}

-- The opens of a file stand in the order in which they were granted.
opens_of_a_file : (view table).opens_of 1
    ≡ plain 101 1 4 1 ∷ record (plain 102 1 1 1) { owner = them; handle = 6 } ∷ durable (leased (name 2 7) (plain 102 1 2 1)) ∷ []
opens_of_a_file = refl

-- A handle goes by its present owner, and an id by its first one.
opens_of_a_handle : (view table).opens_of_handle them 6 ≡ record (plain 102 1 1 1) { owner = them; handle = 6 } ∷ []
opens_of_a_handle = refl

no_open_of_an_old_handle : (view table).opens_of_handle (sid 102 1) 1 ≡ []
no_open_of_an_old_handle = refl

opens_of_an_id : (view table).opens_of_id (id 102 1) ≡ record (plain 102 1 1 1) { owner = them; handle = 6 } ∷ []
opens_of_an_id = refl

-- A lease goes by guid and key, whatever its file, and of a file by that too.
leases_of_a_name : (view table).leases_of (name 1 7) ≡ lease (name 1 7) 2 1 ∷ []
leases_of_a_name = refl

lease_of_its_file : leases_at (view table) (name 1 7) 2 ≡ lease (name 1 7) 2 1 ∷ []
lease_of_its_file = refl

no_lease_of_another_file : leases_at (view table) (name 1 7) 1 ≡ []
no_lease_of_another_file = refl

ranges_of_a_file : (view table).ranges_of 1 ≡ range (id 101 4) 1 0 ∷ range (id 101 4) 1 20 ∷ []
ranges_of_a_file = refl

holds_of_a_lock : (view table).holds_of 9 ≡ shares_lock us 9 ∷ shares_lock them 9 ∷ []
holds_of_a_lock = refl

-- Who waits on a spot, in order: their sessions and calls. A lock of the same number is another spot.
waiters_on_opens : (view table).watches_on (OpenOf 1) ≡ record { sid = us; call = 5; upgrade = false } ∷ record { sid = them; call = 8; upgrade = false } ∷ []
waiters_on_opens = refl

waiters_on_ranges : (view table).watches_on (RangesOf 1) ≡ record { sid = us; call = 7; upgrade = false } ∷ []
waiters_on_ranges = refl

-- Of a lock the flag is told too.
waiters_on_a_lock : (view table).watches_on (LockOf 9) ≡ record { sid = them; call = 6; upgrade = true } ∷ []
waiters_on_a_lock = refl

-- Of a file it isn't.
abbrev flagged : Table
flagged = record nothing_open { waiters = record (waits us 5 (OpenOf 1) them) { upgrade = true } ∷ record (waits us 7 (RangesOf 1) them) { upgrade = true } ∷ [] }

no_flag_on_opens : (view flagged).watches_on (OpenOf 1) ≡ record { sid = us; call = 5; upgrade = false } ∷ []
no_flag_on_opens = refl

no_flag_on_ranges : (view flagged).watches_on (RangesOf 1) ≡ record { sid = us; call = 7; upgrade = false } ∷ []
no_flag_on_ranges = refl

-- Who waits behind a session, wherever: without the flag.
waiters_behind_a_session : (view table).watches_behind us ≡ record { sid = them; call = 6; upgrade = false } ∷ record { sid = them; call = 8; upgrade = false } ∷ []
waiters_behind_a_session = refl

-- What a session waits for, in order.
tokens_of_a_session : (view table).tokens_of us
    ≡ record { spot = OpenOf 1; call = 5 } ∷ record { spot = RangesOf 1; call = 7 } ∷ record { spot = LockOf 1; call = 9 } ∷ []
tokens_of_a_session = refl

letters_of_a_session : (view table).letters_of us ≡ wakes us 1 ∷ wakes us 2 ∷ []
letters_of_a_session = refl

worker_of_a_pid : (view table).worker_of 103 ≡ Some worker_103
worker_of_a_pid = refl

nobody_has_the_pid : (view table).worker_of 104 ≡ None
nobody_has_the_pid = refl

ended_sessions_of_a_pid : (view table).ended_of 102 ≡ ended 102 1 10 ∷ ended 102 2 40 ∷ []
ended_sessions_of_a_pid = refl

-- ---- who lives

current_session_lives : lives (view table) them ≡ true
current_session_lives = refl

earlier_session_has_ended : lives (view table) (sid 102 2) ≡ false
earlier_session_has_ended = refl

later_session_has_not_begun : lives (view table) (sid 102 4) ≡ false
later_session_has_not_begun = refl

last_session_of_the_dead : lives (view table) (sid 103 2) ≡ false
last_session_of_the_dead = refl

session_of_nobody : lives (view table) (sid 104 1) ≡ false
session_of_nobody = refl

-- ---- a file by itself: an open is connected where its present owner lives

opens_with_their_owners : (file_view 1 (view table)).opens
    ≡ record { row = plain 101 1 4 1; connected = true } ∷ record { row = record (plain 102 1 1 1) { owner = them; handle = 6 }; connected = true }
    ∷ record { row = durable (leased (name 2 7) (plain 102 1 2 1)); connected = false } ∷ []
opens_with_their_owners = refl

watches_of_a_file : (file_view 1 (view table)).range_watches ≡ record { sid = us; call = 7; upgrade = false } ∷ []
watches_of_a_file = refl
