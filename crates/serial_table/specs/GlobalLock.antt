-- `glock` and `gunlock`: global locks, after Samba's g_lock.
use Rattle.std.specs.Prelude.{ℕ, Bool, true, false, not, ◌&&◌, ◌||◌, List, [], ◌∷◌, Some, None, filter, if◌then◌else◌}
use Rattle.std.specs.List.{list_any}
use Rattle.sid_core.specs.declared.ids.Sid.{Sid}
use Rattle.sid_core.specs.declared.ids.Spot.TheVariants.{LockOf}
use Rattle.sid_core.specs.declared.call.Mode.{Mode}
use Rattle.sid_core.specs.declared.call.Mode.TheVariants.{Shared, Exclusive}
use Rattle.sid_core.specs.declared.reply.Reply.TheVariants.{Granted, Done, ObjectNameNotFound, LockNotGranted, PossibleDeadlock, Pending}
use Rattle.sid_core.specs.Ids.{same_sid}
use Rattle.serial_table.specs.declared.rows.HoldRow.{HoldRow}
use Rattle.serial_table.specs.declared.rows.WaiterRow.{WaiterRow}
use Rattle.serial_table.specs.declared.change.Change.{Change}
use Rattle.serial_table.specs.declared.change.Change.TheVariants.{AddHold, SetHold, DropHold}
use Rattle.serial_table.specs.declared.decision.Caller.{Caller}
use Rattle.serial_table.specs.declared.decision.Decision.{Decision}
use Rattle.serial_table.specs.View.{View}
use Rattle.serial_table.specs.Change.{same_mode}
use Rattle.serial_table.specs.Decision.{only_reply, no_longer_waits}

-- ---- whose holds

abbrev pub own_holds : View → Caller → ℕ → List HoldRow
own_holds v caller key = filter (λ hold. same_sid hold.owner caller.sid) (v.holds_of key)

abbrev pub other_holds : View → Caller → ℕ → List HoldRow
other_holds v caller key = filter (λ hold. not (same_sid hold.owner caller.sid)) (v.holds_of key)

-- one of the two is exclusive
abbrev pub keeps_out : Mode → HoldRow → Bool
keeps_out mode hold = same_mode hold.mode Exclusive || same_mode mode Exclusive

-- another session waits to hold the lock alone that it shares
abbrev pub other_upgrades : View → Caller → ℕ → Bool
other_upgrades v caller key = list_any (λ watch. watch.upgrade && not (same_sid watch.sid caller.sid)) (v.watches_on (LockOf key))

-- ---- what is decided

abbrev pub granted_by : List Change → Decision
granted_by changes = record (only_reply (Granted None false)) { changes = changes }

abbrev pub lock_waiter : Caller → ℕ → Sid → Bool → WaiterRow
lock_waiter caller key blocker upgrade = record { sid = caller.sid; call = caller.number; spot = LockOf key; blocker = Some blocker; upgrade = upgrade }

abbrev pub wait_for_lock : Caller → ℕ → Sid → Bool → Decision
wait_for_lock caller key blocker upgrade = record (only_reply Pending) { waits = Some (lock_waiter caller key blocker upgrade) }

-- a hold that is lowered lets others in
abbrev pub lower : Caller → ℕ → Decision
lower caller key = record (granted_by (SetHold key caller.sid Shared ∷ [])) { spots = LockOf key ∷ [] }

-- Of two that share the lock and wait to hold it alone, neither would ever get it.
abbrev pub raise : View → Caller → ℕ → Bool → List HoldRow → Decision
raise v caller key wait [] = granted_by (SetHold key caller.sid Exclusive ∷ [])
raise v caller key false (first ∷ others) = only_reply LockNotGranted
raise v caller key true (first ∷ others) =
    if other_upgrades v caller key then only_reply PossibleDeadlock else wait_for_lock caller key first.owner true

-- by the mode in which the caller holds the lock and the one that is asked
abbrev pub change_hold : View → Caller → ℕ → Bool → Mode → Mode → Decision
change_hold v caller key wait Shared Shared = granted_by []
change_hold v caller key wait Exclusive Exclusive = granted_by []
change_hold v caller key wait Exclusive Shared = lower caller key
change_hold v caller key wait Shared Exclusive = raise v caller key wait (other_holds v caller key)

-- by the holds that keep the caller out
abbrev pub gain_hold : Caller → ℕ → Mode → Bool → List HoldRow → Decision
gain_hold caller key mode wait [] = granted_by (AddHold (record { owner = caller.sid; key = key; mode = mode }) ∷ [])
gain_hold caller key mode false (first ∷ others) = only_reply LockNotGranted
gain_hold caller key mode true (first ∷ others) = wait_for_lock caller key first.owner false

-- by the caller's own hold
abbrev pub glock_by : View → Caller → ℕ → Mode → Bool → List HoldRow → Decision
glock_by v caller key mode wait (own ∷ others) = change_hold v caller key wait own.mode mode
glock_by v caller key mode wait [] = gain_hold caller key mode wait (filter (keeps_out mode) (other_holds v caller key))

-- The caller no longer waits for the lock, whatever follows.
unfoldable pub glock : View → Caller → ℕ → Mode → Bool → Decision
glock v caller key mode wait = no_longer_waits caller (v.watches_on (LockOf key)) (glock_by v caller key mode wait (own_holds v caller key))

abbrev pub gunlock_by : Caller → ℕ → List HoldRow → Decision
gunlock_by caller key [] = only_reply ObjectNameNotFound
gunlock_by caller key (own ∷ others) = record (only_reply Done) { changes = DropHold key caller.sid ∷ []; spots = LockOf key ∷ [] }

-- Here too.
unfoldable pub gunlock : View → Caller → ℕ → Decision
gunlock v caller key = no_longer_waits caller (v.watches_on (LockOf key)) (gunlock_by caller key (own_holds v caller key))
