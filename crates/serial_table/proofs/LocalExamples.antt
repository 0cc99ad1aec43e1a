-- Worked examples: which changes are of one file, and what they do to what a file shows. Worker 101 lives in session 1 and 102 in session 3.
use Rattle.std.specs.Prelude.{◌≡◌, true, false, [], ◌∷◌, None, refl}
use Rattle.sid_core.specs.declared.call.Mode.TheVariants.{Exclusive}
use Rattle.sid_core.specs.declared.ids.Sid.{Sid}
use Rattle.sid_core.specs.declared.ids.Spot.TheVariants.{OpenOf, RangesOf}
use Rattle.serial_table.specs.declared.change.Change.TheVariants as c
use Rattle.serial_table.specs.declared.table.Table.{Table}
use Rattle.serial_table.specs.View.{view, lives}
use Rattle.serial_table.specs.File.{FileView, file_view}
use Rattle.serial_table.specs.Settle.{settle_file}
use Rattle.serial_table.specs.Change.{set_lease}
use Rattle.serial_table.specs.Local.{is_in, all_in, perform_in_file, perform_all_in_file, perform_beside}
use Rattle.serial_table.proofs.Samples.{sid, id, name, at, state, nothing_open, plain, leased, lease, breaks, range, shares_lock, waits, just_waits, wakes}

abbrev us : Sid
us = sid 101 1

abbrev them : Sid
them = sid 102 3

-- ---- which are

-- Changes of the opens, leases and ranges of file 1, a wait that ends and settling are of file 1.
changes_of_file_1 : all_in (lives (view nothing_open)) 1 (
    c.AddOpen (plain 101 1 4 1) ∷ c.DropOpen 1 (id 102 4) ∷ c.AddLease (lease (name 1 7) 1 3) ∷ c.SetLease 1 (name 1 7) (state 1) None
    ∷ c.Acknowledge 1 (name 1 7) (state 1) ∷ c.AddRange (range (id 101 4) 1 0) ∷ c.DropRange (range (id 101 4) 1 0) ∷ c.DropWaiter them 5 ∷ c.Settle ∷ []
    ) ≡ true
changes_of_file_1 = refl

-- One of file 2 among them is enough that they aren't.
one_of_file_2 : all_in (lives (view nothing_open)) 1 (c.DropOpen 1 (id 102 4) ∷ c.DropRange (range (id 101 4) 2 0) ∷ []) ≡ false
one_of_file_2 = refl

open_of_file_2 : is_in (lives (view nothing_open)) 1 (c.AddOpen (plain 101 1 4 2)) ≡ false
open_of_file_2 = refl

-- An open that is added for a session that has ended.
open_of_an_ended_session : is_in (lives (view nothing_open)) 1 (c.AddOpen (plain 102 2 4 1)) ≡ false
open_of_an_ended_session = refl

-- Locks, letters, sessions, waiters that come and opens that are taken over are of no file.
changes_of_no_file : all_in (lives (view nothing_open)) 1 (c.AddHold (shares_lock us 1) ∷ []) ≡ false
changes_of_no_file = refl

letter_of_no_file : is_in (lives (view nothing_open)) 1 (c.Send (wakes us 1)) ≡ false
letter_of_no_file = refl

end_of_no_file : is_in (lives (view nothing_open)) 1 (c.EndSession us (at 70)) ≡ false
end_of_no_file = refl

taken_over_of_no_file : is_in (lives (view nothing_open)) 1 (c.TakeOver 1 (id 102 4) us 9) ≡ false
taken_over_of_no_file = refl

-- ---- what they do

abbrev table : Table
table = record nothing_open {
  opens = leased (name 1 7) (plain 101 1 4 1) ∷ plain 102 3 4 1 ∷ [];
  leases = breaks 3 1 (lease (name 1 7) 1 7) ∷ [];
  ranges = range (id 102 4) 1 0 ∷ range (id 101 4) 1 20 ∷ [];
  waiters = waits them 5 (OpenOf 1) us ∷ just_waits us 6 (RangesOf 1) ∷ waits them 7 (OpenOf 1) us ∷ [];
}

abbrev changed : FileView
changed = perform_all_in_file (c.DropOpen 1 (id 102 4) ∷ c.DropWaiter us 6 ∷ c.DropWaiter them 5 ∷ c.Settle ∷ []) (file_view 1 (view table))

-- An open goes with its range, a wait ends on either spot, and what is left is settled.
opens_left : changed.opens ≡ record { row = leased (name 1 7) (plain 101 1 4 1); connected = true } ∷ []
unfolding settle_file
opens_left = refl

ranges_left : changed.ranges ≡ range (id 101 4) 1 20 ∷ []
unfolding settle_file
ranges_left = refl

leases_left : changed.leases (name 1 7) ≡ breaks 3 1 (lease (name 1 7) 1 7) ∷ []
unfolding settle_file
leases_left = refl

open_waits_left : changed.open_watches ≡ record { sid = them; call = 7; upgrade = false } ∷ []
unfolding settle_file
open_waits_left = refl

range_waits_left : changed.range_watches ≡ []
unfolding settle_file
range_waits_left = refl

-- A change of another file takes only a waiter from this one.
beside_a_wait : (perform_beside (c.DropWaiter them 5) (file_view 1 (view table))).open_watches ≡ record { sid = them; call = 7; upgrade = false } ∷ []
beside_a_wait = refl

beside_an_open : perform_beside (c.DropOpen 2 (id 102 4)) (file_view 1 (view table)) ≡ file_view 1 (view table)
beside_an_open = refl

-- A lock changes nothing in a file.
lock_in_a_file : perform_in_file (c.SetHold 1 us Exclusive) (file_view 1 (view table)) ≡ file_view 1 (view table)
lock_in_a_file = refl

-- An acknowledged lease, as the file shows it.
acknowledged_in_a_file : (perform_in_file (c.Acknowledge 1 (name 1 7) (state 1)) (file_view 1 (view table))).leases (name 1 7) ≡ lease (name 1 7) 1 1 ∷ []
unfolding set_lease
acknowledged_in_a_file = refl
