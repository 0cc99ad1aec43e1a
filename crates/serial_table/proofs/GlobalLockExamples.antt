-- Worked examples: what `glock` and `gunlock` decide and come to. Worker 101 lives in session 1 and 102 in session 3. Call 9 is of worker 102.
use Rattle.std.specs.Prelude.{◌≡◌, ℕ, Bool, true, false, List, [], ◌∷◌, None, Some, refl}
use Rattle.sid_core.specs.declared.call.Call.{Call}
use Rattle.sid_core.specs.declared.call.Call.TheVariants.{GLock, GUnlock}
use Rattle.sid_core.specs.declared.call.Mode.TheVariants.{Shared, Exclusive}
use Rattle.sid_core.specs.declared.ids.Sid.{Sid}
use Rattle.sid_core.specs.declared.ids.Spot.TheVariants.{OpenOf, LockOf}
use Rattle.sid_core.specs.declared.reply.Reply.TheVariants.{Granted, Done, Pending, LockNotGranted, PossibleDeadlock, ObjectNameNotFound}
use Rattle.serial_table.specs.declared.change.Change.TheVariants as c
use Rattle.serial_table.specs.declared.rows.HoldRow.{HoldRow}
use Rattle.serial_table.specs.declared.rows.WaiterRow.{WaiterRow}
use Rattle.serial_table.specs.declared.table.Table.{Table}
use Rattle.serial_table.specs.Decision.{only_reply}
use Rattle.serial_table.proofs.CallsAt.{decision_at, outcome_at}
use Rattle.serial_table.proofs.Samples.{sid, nothing_open, shares_lock, holds_alone, waits, wakes}
use Rattle.serial_table.proofs.SampleCalls.{us, them, their_call}

-- a third session, whoever it is
abbrev third : Sid
third = sid 104 1

abbrev table : List HoldRow → List WaiterRow → Table
table holds waiters = record nothing_open { holds = holds; waiters = waiters }

abbrev shares : Bool → Call
shares wait = GLock 8 Shared wait

abbrev takes : Bool → Call
takes wait = GLock 8 Exclusive wait

-- waits to hold the lock alone that it shares
abbrev upgrades : Sid → ℕ → WaiterRow
upgrades waiting call = record (waits waiting call (LockOf 8) them) { upgrade = true }

-- ---- without a hold

-- A shared hold comes beside shared ones. The caller waits no longer for this lock, and goes on waiting for another.
shared_beside_shared : decision_at (table (shares_lock us 8 ∷ []) (waits them 5 (LockOf 8) us ∷ waits them 6 (LockOf 9) us ∷ [])) their_call (shares false) ≡ record {
  changes = c.DropWaiter them 5 ∷ c.AddHold (shares_lock them 8) ∷ [];
  reply = Granted None false;
  posts = [];
  spots = [];
  waits = None;
}
unfolding decision_at
shared_beside_shared = refl

-- An exclusive one comes where nobody holds the lock; a hold of another lock is in nobody's way.
exclusive_alone : decision_at (table (holds_alone us 9 ∷ []) []) their_call (takes false)
    ≡ record { changes = c.AddHold (holds_alone them 8) ∷ []; reply = Granted None false; posts = []; spots = []; waits = None }
unfolding decision_at
exclusive_alone = refl

-- Else the caller is refused, or waits behind the first holder in its way.
shared_over_exclusive : decision_at (table (holds_alone us 8 ∷ []) (waits them 5 (LockOf 8) us ∷ [])) their_call (shares false)
    ≡ record (only_reply LockNotGranted) { changes = c.DropWaiter them 5 ∷ [] }
unfolding decision_at
shared_over_exclusive = refl

shared_waits : decision_at (table (holds_alone us 8 ∷ []) []) their_call (shares true)
    ≡ record (only_reply Pending) { waits = Some (waits them 9 (LockOf 8) us) }
unfolding decision_at
shared_waits = refl

exclusive_over_shared : decision_at (table (shares_lock third 8 ∷ shares_lock us 8 ∷ []) []) their_call (takes false) ≡ only_reply LockNotGranted
unfolding decision_at
exclusive_over_shared = refl

-- The first of those that share it is waited for. This is no upgrade.
exclusive_waits : decision_at (table (shares_lock third 8 ∷ shares_lock us 8 ∷ []) []) their_call (takes true)
    ≡ record (only_reply Pending) { waits = Some (waits them 9 (LockOf 8) third) }
unfolding decision_at
exclusive_waits = refl

-- A shared request waits for the exclusive hold alone, though a shared one stand before it.
behind_the_exclusive_one : (decision_at (table (shares_lock third 8 ∷ holds_alone us 8 ∷ []) []) their_call (shares true)).waits ≡ Some (waits them 9 (LockOf 8) us)
unfolding decision_at
behind_the_exclusive_one = refl

-- ---- with a hold

-- What is held already is granted, and nothing changes. Another's wish to upgrade is no matter.
shared_again : decision_at (table (shares_lock us 8 ∷ shares_lock them 8 ∷ []) (upgrades us 6 ∷ [])) their_call (shares false) ≡ only_reply (Granted None false)
unfolding decision_at
shared_again = refl

exclusive_again : decision_at (table (holds_alone them 8 ∷ []) []) their_call (takes true) ≡ only_reply (Granted None false)
unfolding decision_at
exclusive_again = refl

-- Lowered.
hold_is_lowered : decision_at (table (holds_alone them 8 ∷ []) []) their_call (shares true) ≡ record {
  changes = c.SetHold 8 them Shared ∷ [];
  reply = Granted None false;
  posts = [];
  spots = LockOf 8 ∷ [];
  waits = None;
}
unfolding decision_at
hold_is_lowered = refl

-- Raised, where no other shares it.
hold_is_raised : decision_at (table (shares_lock them 8 ∷ shares_lock us 9 ∷ []) []) their_call (takes false) ≡ record {
  changes = c.SetHold 8 them Exclusive ∷ [];
  reply = Granted None false;
  posts = [];
  spots = [];
  waits = None;
}
unfolding decision_at
hold_is_raised = refl

-- Else it waits to be raised, behind the first other holder.
upgrade_waits : decision_at (table (shares_lock them 8 ∷ shares_lock third 8 ∷ shares_lock us 8 ∷ []) []) their_call (takes true)
    ≡ record (only_reply Pending) { waits = Some (record (waits them 9 (LockOf 8) third) { upgrade = true }) }
unfolding decision_at
upgrade_waits = refl

-- One upgrade at a time: another that waits for it already is refused, if it would wait.
deadlock_of_two_upgrades : decision_at (table (shares_lock them 8 ∷ shares_lock us 8 ∷ []) (upgrades us 6 ∷ waits them 5 (LockOf 8) us ∷ [])) their_call (takes true)
    ≡ record (only_reply PossibleDeadlock) { changes = c.DropWaiter them 5 ∷ [] }
unfolding decision_at
deadlock_of_two_upgrades = refl

upgrade_at_once : decision_at (table (shares_lock them 8 ∷ shares_lock us 8 ∷ []) (upgrades us 6 ∷ [])) their_call (takes false) ≡ only_reply LockNotGranted
unfolding decision_at
upgrade_at_once = refl

-- A waiter that is no upgrade, and the caller's own earlier upgrade, are no deadlock; nor is an upgrade of another lock.
no_deadlock : (decision_at (table (shares_lock them 8 ∷ shares_lock us 8 ∷ []) (waits third 6 (LockOf 8) them ∷ upgrades them 5 ∷ record (upgrades us 7) { spot = LockOf 9 } ∷ [])) their_call (takes true)).reply
    ≡ Pending
unfolding decision_at
no_deadlock = refl

-- ---- `gunlock`

hold_goes : decision_at (table (shares_lock us 8 ∷ shares_lock them 8 ∷ []) (waits them 5 (LockOf 8) us ∷ [])) their_call (GUnlock 8) ≡ record {
  changes = c.DropWaiter them 5 ∷ c.DropHold 8 them ∷ [];
  reply = Done;
  posts = [];
  spots = LockOf 8 ∷ [];
  waits = None;
}
unfolding decision_at
hold_goes = refl

-- Without a hold the caller's waiter goes all the same.
no_hold_to_give_up : decision_at (table (shares_lock us 8 ∷ holds_alone them 9 ∷ []) (waits them 5 (LockOf 8) us ∷ [])) their_call (GUnlock 8)
    ≡ record (only_reply ObjectNameNotFound) { changes = c.DropWaiter them 5 ∷ [] }
unfolding decision_at
no_hold_to_give_up = refl

-- ---- who is woken: all who wait for the lock, whoever they wait behind, and nobody else

abbrev waiting : List WaiterRow
waiting = waits us 6 (LockOf 8) them ∷ waits us 7 (LockOf 9) them ∷ waits us 8 (OpenOf 8) them ∷ waits third 4 (LockOf 8) us ∷ []

giving_up_wakes : (outcome_at (table (holds_alone them 8 ∷ []) waiting) their_call (GUnlock 8)).posts ≡ wakes us 6 ∷ wakes third 4 ∷ []
unfolding outcome_at
giving_up_wakes = refl

lowering_wakes : (outcome_at (table (holds_alone them 8 ∷ []) waiting) their_call (shares false)).posts ≡ wakes us 6 ∷ wakes third 4 ∷ []
unfolding outcome_at
lowering_wakes = refl

raising_wakes_nobody : (outcome_at (table (shares_lock them 8 ∷ []) waiting) their_call (takes false)).posts ≡ []
unfolding outcome_at
raising_wakes_nobody = refl

nothing_to_give_up_wakes_nobody : (outcome_at (table (holds_alone us 8 ∷ []) waiting) their_call (GUnlock 8)).posts ≡ []
unfolding outcome_at
nothing_to_give_up_wakes_nobody = refl
