-- For the code: what it looks for in a record, and what it answers by what it finds.
use Rattle.std.specs.Prelude.{ℕ, Bool, true, false, not, ◌&&◌, ◌||◌, List, [], ◌∷◌, ◌++◌, map, Option, Some, None, if◌then◌else◌}
use Rattle.std.specs.Ordering.{nat_cmp}
use Rattle.std.specs.FinMap.{FinMap}
use Rattle.sid_core.specs.declared.ids.Sid.{Sid}
use Rattle.sid_core.specs.declared.ids.Spot.TheVariants.{LockOf}
use Rattle.sid_core.specs.declared.call.Mode.{Mode}
use Rattle.sid_core.specs.declared.call.Mode.TheVariants.{Shared, Exclusive}
use Rattle.sid_core.specs.Ids.{same_sid}
use Rattle.serial_table.specs.Change.{same_mode}
use Rattle.record_codec.specs.declared.watch.WatchRec.{WatchRec}
use Rattle.record_codec.specs.declared.glock_rec.Hold.{Hold}
use Rattle.record_codec.specs.declared.mail_rec.MailRec.{MailRec}
use Rattle.record_codec.specs.declared.register_rec.RegisterRec.{RegisterRec}
use Rattle.record_codec.specs.Counts.{hold_counts, watch_counts}
use Rattle.server_ids.specs.Sessions.{registered}
use Rattle.record_watch.specs.Watches.{mailed}
use Rattle.g_lock.specs.declared.answer.GAnswer.{GAnswer}
use Rattle.g_lock.specs.declared.answer.GAnswer.TheVariants.{Granted, Lowered, NotGranted, Pending, PossibleDeadlock}

abbrev pub is_exclusive : Mode → Bool
is_exclusive mode = same_mode mode Exclusive

abbrev pub is_own : Sid → Hold → Bool
is_own sid hold = same_sid hold.sid sid

abbrev pub is_in_the_way : FinMap nat_cmp RegisterRec → Sid → Mode → Hold → Bool
is_in_the_way register sid mode hold =
    hold_counts (registered register) hold && (not (is_own sid hold) && (is_exclusive hold.mode || is_exclusive mode))

abbrev pub is_upgrade_beside : FinMap nat_cmp MailRec → ℕ → Sid → WatchRec → Bool
is_upgrade_beside mails key sid watch = watch_counts (mailed mails) (LockOf key) watch && (watch.upgrade && not (same_sid watch.sid sid))

-- ---- answers

-- behind this holder, beside this call that waits to hold the lock alone
abbrev pub raised_behind : Bool → Sid → Option WatchRec → GAnswer
raised_behind false first beside = NotGranted first
raised_behind true first None = Pending first true
raised_behind true first (Some watch) = PossibleDeadlock watch.sid

abbrev pub raised : Bool → Option Hold → Option WatchRec → GAnswer
raised wait None beside = Granted
raised wait (Some first) beside = raised_behind wait first.sid beside

abbrev pub changed : Bool → Mode → Mode → Option Hold → Option WatchRec → GAnswer
changed wait Shared Shared first beside = Granted
changed wait Exclusive Exclusive first beside = Granted
changed wait Exclusive Shared first beside = Lowered
changed wait Shared Exclusive first beside = raised wait first beside

abbrev pub gained : Bool → Option Hold → GAnswer
gained wait None = Granted
gained false (Some first) = NotGranted first.sid
gained true (Some first) = Pending first.sid false

-- by the session's own hold, and the first hold in its way
abbrev pub answered : Bool → Mode → Option Hold → Option Hold → Option WatchRec → GAnswer
answered wait mode None first beside = gained wait first
answered wait mode (Some own) first beside = changed wait own.mode mode first beside

-- ---- holds

abbrev pub own_in : Sid → Mode → Hold
own_in sid mode = record { sid = sid; mode = mode }

-- the session's own hold in this mode
abbrev pub in_mode : Sid → Mode → Hold → Hold
in_mode sid mode hold = if is_own sid hold then record hold { mode = mode } else hold

-- the holds once the session has the lock in this mode
abbrev pub held_in : Sid → Mode → Option Hold → List Hold → List Hold
held_in sid mode None holds = holds ++ own_in sid mode ∷ []
held_in sid mode (Some own) holds = if same_mode own.mode mode then holds else map (in_mode sid mode) holds

abbrev pub becomes : GAnswer → Sid → Mode → Option Hold → List Hold → List Hold
becomes Granted sid mode own holds = held_in sid mode own holds
becomes Lowered sid mode own holds = held_in sid mode own holds
becomes _ sid mode own holds = holds
