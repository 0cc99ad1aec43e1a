-- Worked examples: at which leases a call looks, and what expires of them. Our call and theirs are made at moment 70.
use Rattle.std.specs.Prelude.{◌≡◌, true, false, List, [], ◌∷◌, None, refl}
use Rattle.sid_core.specs.declared.call.Call.{Call}
use Rattle.sid_core.specs.declared.call.Call.TheVariants as call
use Rattle.sid_core.specs.declared.call.Mode.TheVariants.{Shared}
use Rattle.sid_core.specs.declared.ids.LeaseName.{LeaseName}
use Rattle.serial_table.specs.declared.change.Change.TheVariants.{SetLease, Settle}
use Rattle.serial_table.specs.declared.rows.LeaseRow.{LeaseRow}
use Rattle.serial_table.specs.declared.table.Table.{Table}
use Rattle.serial_table.specs.View.{view}
use Rattle.serial_table.specs.Expire.{look, expiry}
use Rattle.serial_table.proofs.Samples.{setup, name, at, state, nothing_open, plain, leased, lease, breaks, opens}
use Rattle.serial_table.proofs.SampleCalls.{our_call, opens_leased, span, shows}

abbrev eight : LeaseName
eight = name 2 8

abbrev seven : LeaseName
seven = name 1 7

abbrev nine : LeaseName
nine = name 1 9

-- file 1 has opens under two leases, of which one is ours with handle 4; our handle 6 is of file 2, under a third
abbrev opened : Table
opened = record nothing_open { opens = leased eight (plain 102 3 5 1) ∷ plain 102 3 7 1 ∷ leased seven (plain 101 1 4 1) ∷ leased nine (plain 101 1 6 2) ∷ leased eight (plain 102 3 6 1) ∷ [] }

abbrev looked_at : Call → List LeaseName
looked_at call = look setup (view opened) our_call call

-- ---- at which leases each call looks

open_looks : looked_at (opens 1 0x1 7) ≡ eight ∷ seven ∷ []
open_looks = refl

open_looks_at_the_asked_one : looked_at (opens_leased 1 0x1 7 9 7) ≡ eight ∷ seven ∷ nine ∷ []
open_looks_at_the_asked_one = refl

open_looks_at_each_once : looked_at (opens_leased 1 0x1 7 7 7) ≡ eight ∷ seven ∷ []
open_looks_at_each_once = refl

close_looks : looked_at (call.Close 4) ≡ eight ∷ seven ∷ []
close_looks = refl

-- a handle of another file, and one that names no open
close_looks_at_its_file : looked_at (call.Close 6) ≡ nine ∷ []
close_looks_at_its_file = refl

close_of_no_open : looked_at (call.Close 5) ≡ []
close_of_no_open = refl

delete_looks : looked_at (call.Delete 4 true) ≡ eight ∷ seven ∷ []
delete_looks = refl

lock_looks : looked_at (call.Lock 4 (span 0 1) Shared false) ≡ eight ∷ seven ∷ []
lock_looks = refl

unlock_looks : looked_at (call.Unlock 4 (span 0 1)) ≡ eight ∷ seven ∷ []
unlock_looks = refl

read_looks : looked_at (call.Read 4 (span 0 1)) ≡ eight ∷ seven ∷ []
read_looks = refl

write_looks : looked_at (call.Write 4 (span 0 1)) ≡ eight ∷ seven ∷ []
write_looks = refl

-- the named lease of our client, whether it is there or not
ack_looks : looked_at (call.Ack 8 (state 1)) ≡ name 1 8 ∷ []
ack_looks = refl

-- the file of the open that worker 2 made by call 7
reconnect_looks : looked_at (call.Reconnect 2 7 7) ≡ eight ∷ seven ∷ []
reconnect_looks = refl

reconnect_of_no_open : looked_at (call.Reconnect 2 8 7) ≡ []
reconnect_of_no_open = refl

scavenge_looks : looked_at call.Scavenge ≡ eight ∷ seven ∷ nine ∷ []
scavenge_looks = refl

glock_looks_at_none : looked_at (call.GLock 7 Shared true) ≡ []
glock_looks_at_none = refl

gunlock_looks_at_none : looked_at (call.GUnlock 7) ≡ []
gunlock_looks_at_none = refl

recv_looks_at_none : looked_at call.Recv ≡ []
recv_looks_at_none = refl

disconnect_looks_at_none : looked_at call.Disconnect ≡ []
disconnect_looks_at_none = refl

tidy_looks_at_none : looked_at call.Tidy ≡ []
tidy_looks_at_none = refl

status_looks_at_none : looked_at (shows true true true) ≡ []
status_looks_at_none = refl

-- ---- what expires: the breaks below are acknowledged from moment 105 on

abbrev leases : List LeaseRow → Table
leases rows = record nothing_open { leases = rows }

none_before : expiry (view (leases (breaks 3 1 (lease seven 1 7) ∷ []))) (at 104) (seven ∷ []) ≡ []
none_before = refl

-- with what is needed, and not what was asked for; then the table settles
from_there_on : expiry (view (leases (breaks 3 1 (lease seven 1 7) ∷ []))) (at 105) (seven ∷ []) ≡ SetLease 1 seven (state 1) None ∷ Settle ∷ []
from_there_on = refl

still_later : expiry (view (leases (breaks 3 1 (lease seven 1 7) ∷ []))) (at 300) (seven ∷ []) ≡ SetLease 1 seven (state 1) None ∷ Settle ∷ []
still_later = refl

-- Only of the leases that are looked at, in this order, and only where they are breaking.
only_those_looked_at : expiry (view (leases (breaks 3 3 (lease seven 1 7) ∷ breaks 5 5 (lease eight 1 7) ∷ breaks 0 0 (lease (name 2 9) 1 3) ∷ lease nine 2 7 ∷ []))) (at 105) (nine ∷ eight ∷ seven ∷ [])
    ≡ SetLease 1 eight (state 5) None ∷ SetLease 1 seven (state 3) None ∷ Settle ∷ []
only_those_looked_at = refl

none_of_no_lease : expiry (view (leases (breaks 3 3 (lease seven 1 7) ∷ []))) (at 105) (eight ∷ []) ≡ []
none_of_no_lease = refl
