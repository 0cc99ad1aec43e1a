-- Worked examples: a lock with stale holds and watches. Worker 101 is in its second session and 102 in its first; 103 is dead.
use Rattle.std.specs.Prelude.{◌≡◌, ℕ, Bool, true, false, List, [], ◌∷◌, Some, None, map, filter, if◌then◌else◌, ◌==◌, refl}
use Rattle.sid_core.specs.declared.ids.Sid.{Sid}
use Rattle.sid_core.specs.declared.ids.Spot.TheVariants.{LockOf}
use Rattle.sid_core.specs.declared.call.Mode.{Mode}
use Rattle.sid_core.specs.declared.call.Mode.TheVariants.{Shared, Exclusive}
use Rattle.sid_core.specs.declared.reply.Reply.TheVariants as reply
use Rattle.serial_table.specs.declared.rows.HoldRow.{HoldRow}
use Rattle.serial_table.specs.declared.rows.Watch.{Watch}
use Rattle.serial_table.specs.declared.decision.Caller.{Caller}
use Rattle.serial_table.specs.View.{View}
use Rattle.serial_table.specs.Change.{set_hold}
use Rattle.serial_table.specs.GlobalLock.{glock, gunlock}
use Rattle.record_codec.specs.declared.watch.WatchRec.{WatchRec}
use Rattle.record_codec.specs.declared.glock_rec.Hold.{Hold}
use Rattle.record_codec.specs.declared.register_rec.RegisterRec.{RegisterRec}
use Rattle.record_codec.specs.declared.mail_rec.MailRec.{MailRec}
use Rattle.record_codec.specs.Counts.{Records, hold_counts, watch_counts}
use Rattle.g_lock.specs.declared.answer.GAnswer.TheVariants.{Granted, Lowered, NotGranted, Pending, PossibleDeadlock}
use Rattle.record_rows.specs.Rows.{hold_row}
use Rattle.g_lock.specs.Answer.{without_changes, told, holds_after, who_keeps_out, who_upgrades}

abbrev sid : ℕ → ℕ → Sid
sid pid session = record { pid = pid; session = session }

abbrev worker : ℕ → Bool → ℕ → RegisterRec
worker number alive session = record { worker = number; alive = alive; session = session; connected = 0; ended = []; watchers = [] }

-- call 5 of 102 waits for lock 8, and call 6 for lock 9
abbrev box : MailRec
box = record { session = 1; tokens = record { spot = LockOf 8; call = 5 } ∷ record { spot = LockOf 9; call = 6 } ∷ []; letters = [] }

abbrev records : Records
records = record {
  register = λ pid. if pid == 101 then Some (worker 1 true 2) else (if pid == 102 then Some (worker 2 true 1) else (if pid == 103 then Some (worker 3 false 4) else None));
  mail = λ pid. if pid == 102 then Some box else None;
  lease = λ _. None;
  share = λ _. None;
}

abbrev held : ℕ → ℕ → Mode → Hold
held pid session mode = record { sid = sid pid session; mode = mode }

abbrev row : ℕ → ℕ → Mode → HoldRow
row pid session mode = record { owner = sid pid session; key = 8; mode = mode }

-- Of the dead worker, of an earlier session of 101, of a pid that nobody knows: none of these counts.
abbrev holds : List Hold
holds = held 103 4 Exclusive ∷ held 101 1 Exclusive ∷ held 102 1 Shared ∷ held 104 1 Shared ∷ held 101 2 Shared ∷ []

pub two_count : map (hold_row 8) (filter (hold_counts records) holds) ≡ row 102 1 Shared ∷ row 101 2 Shared ∷ []
two_count = refl

abbrev upgrade : ℕ → ℕ → ℕ → WatchRec
upgrade pid session call = record { sid = sid pid session; call = call; upgrade = true }

-- A call that waits for another lock, and one of a session without a mailbox, don't count here.
pub one_waits : filter (watch_counts records (LockOf 8)) (upgrade 102 1 6 ∷ upgrade 103 4 3 ∷ upgrade 102 1 5 ∷ []) ≡ upgrade 102 1 5 ∷ []
one_waits = refl

-- ---- what is answered: the caller is 101

abbrev caller : Caller
caller = record { sid = sid 101 2; guid = 7; number = 9; moment = record { 0 = 3 } }

abbrev shows : List HoldRow → List Watch → View
shows holds watches = record {
  opens_of = λ _. [];
  opens_of_handle = λ _ _. [];
  opens_of_id = λ _. [];
  leases_of = λ _. [];
  ranges_of = λ _. [];
  holds_of = λ _. holds;
  watches_on = λ _. watches;
  watches_behind = λ _. [];
  tokens_of = λ _. [];
  letters_of = λ _. [];
  worker_of = λ _. None;
  ended_of = λ _. [];
  is_pending = λ _. false;
}

-- 102 shares the lock too
abbrev both : View
both = shows (row 102 1 Shared ∷ row 101 2 Shared ∷ []) []

-- and waits to hold it alone
abbrev upgrading : View
upgrading = shows (row 102 1 Shared ∷ row 101 2 Shared ∷ []) (record { sid = sid 102 1; call = 5; upgrade = true } ∷ [])

pub granted_again : told caller 8 Granted ≡ without_changes (glock both caller 8 Shared false)
unfolding glock
granted_again = refl

-- An exclusive hold of one's own that is shared from now on lets others in, and the answer says so.
pub lowered : told caller 8 Lowered ≡ without_changes (glock (shows (row 101 2 Exclusive ∷ []) []) caller 8 Shared false)
unfolding glock
lowered = refl

pub lowered_holds : holds_after (shows (row 101 2 Exclusive ∷ []) []) 8 (glock (shows (row 101 2 Exclusive ∷ []) []) caller 8 Shared false) ≡ row 101 2 Shared ∷ []
unfolding glock set_hold
lowered_holds = refl

pub not_granted : told caller 8 (NotGranted (sid 102 1)) ≡ without_changes (glock both caller 8 Exclusive false)
unfolding glock
not_granted = refl

pub waits_to_upgrade : told caller 8 (Pending (sid 102 1) true) ≡ without_changes (glock both caller 8 Exclusive true)
unfolding glock
waits_to_upgrade = refl

pub waits_without_a_hold : told caller 8 (Pending (sid 102 1) false) ≡ without_changes (glock (shows (row 102 1 Shared ∷ []) []) caller 8 Exclusive true)
unfolding glock
waits_without_a_hold = refl

pub deadlock : told caller 8 (PossibleDeadlock (sid 102 1)) ≡ without_changes (glock upgrading caller 8 Exclusive true)
unfolding glock
deadlock = refl

-- ---- whom a refusal names

-- a shared hold keeps no shared one out
pub nobody_keeps_out : who_keeps_out both caller 8 Shared ≡ None
nobody_keeps_out = refl

-- the first of the others, not the caller's own
pub the_first_keeps_out : who_keeps_out (shows (row 101 2 Shared ∷ row 102 1 Shared ∷ row 105 1 Shared ∷ []) []) caller 8 Exclusive ≡ Some (sid 102 1)
the_first_keeps_out = refl

pub the_exclusive_one_keeps_out : who_keeps_out (shows (row 102 1 Shared ∷ row 105 1 Exclusive ∷ []) []) caller 8 Shared ≡ Some (sid 105 1)
the_exclusive_one_keeps_out = refl

-- neither the caller's own wait nor one that is no upgrade
pub the_first_upgrade : who_upgrades (shows [] (record { sid = sid 101 2; call = 4; upgrade = true } ∷ record { sid = sid 105 1; call = 2; upgrade = false } ∷ record { sid = sid 102 1; call = 5; upgrade = true } ∷ [])) caller 8 ≡ Some (sid 102 1)
the_first_upgrade = refl

-- ---- a hold that is given up

pub gives_up : (gunlock both caller 8).reply ≡ reply.Done
unfolding gunlock
gives_up = refl

pub others_hold_on : holds_after both 8 (gunlock both caller 8) ≡ row 102 1 Shared ∷ []
unfolding gunlock
others_hold_on = refl
