-- What an answer tells of what the table decides, and whom a refusal names.
use Rattle.std.specs.Prelude.{◌≡◌, ℕ, Bool, true, false, not, ◌&&◌, List, [], ◌∷◌, Option, Some, None, filter, find}
use Rattle.std.specs.Option.{option_map}
use Rattle.sid_core.specs.declared.ids.Sid.{Sid}
use Rattle.sid_core.specs.declared.ids.Spot.TheVariants.{LockOf}
use Rattle.sid_core.specs.declared.call.Mode.{Mode}
use Rattle.sid_core.specs.declared.reply.Reply.{Reply}
use Rattle.sid_core.specs.declared.reply.Reply.TheVariants as reply
use Rattle.sid_core.specs.Ids.{same_sid}
use Rattle.serial_table.specs.declared.rows.HoldRow.{HoldRow}
use Rattle.serial_table.specs.declared.rows.Watch.{Watch}
use Rattle.serial_table.specs.declared.decision.Caller.{Caller}
use Rattle.serial_table.specs.declared.decision.Decision.{Decision}
use Rattle.serial_table.specs.View.{View}
use Rattle.serial_table.specs.Change.{perform_all_by_key}
use Rattle.serial_table.specs.Decision.{only_reply}
use Rattle.serial_table.specs.GlobalLock.{other_holds, keeps_out, granted_by, wait_for_lock}
use Rattle.g_lock.specs.declared.answer.GAnswer.{GAnswer}
use Rattle.g_lock.specs.declared.answer.GAnswer.TheVariants.{Granted, Lowered, NotGranted, Pending, PossibleDeadlock, OutOfMemory}

-- Said of each answer but that for want of memory.
abbrev pub IfAnswered : GAnswer → Type 0 → Type 0
IfAnswered OutOfMemory said = Unit {0}
IfAnswered _ said = said

-- a decision without what it changes: the reply, the spots that it frees, and how the caller waits
abbrev pub without_changes : Decision → Decision
without_changes decision = record decision { changes = [] }

-- what the answer tells of the decision
abbrev pub told : Caller → ℕ → GAnswer → Decision
told caller key Granted = granted_by []
told caller key Lowered = record (granted_by []) { spots = LockOf key ∷ [] }
told caller key (NotGranted holder) = only_reply reply.LockNotGranted
told caller key (Pending blocker upgrade) = wait_for_lock caller key blocker upgrade
told caller key (PossibleDeadlock other) = only_reply reply.PossibleDeadlock
told caller key OutOfMemory = only_reply reply.LockNotGranted

-- the holds of the lock once a decision's changes are made
abbrev pub holds_after : View → ℕ → Decision → List HoldRow
holds_after v key decision = (perform_all_by_key decision.changes v).holds_of key

-- ---- whom a refusal names

abbrev pub first_owner : List HoldRow → Option Sid
first_owner [] = None
first_owner (hold ∷ others) = Some hold.owner

-- the first other holder that keeps the caller from the mode
abbrev pub who_keeps_out : View → Caller → ℕ → Mode → Option Sid
who_keeps_out v caller key mode = first_owner (filter (keeps_out mode) (other_holds v caller key))

-- the first of the others who wait to hold the lock alone that they share
abbrev pub who_upgrades : View → Caller → ℕ → Option Sid
who_upgrades v caller key =
    option_map (λ (watch : Watch). watch.sid) (find (λ watch. watch.upgrade && not (same_sid watch.sid caller.sid)) (v.watches_on (LockOf key)))

-- An answer that the lock isn't granted names this holder.
abbrev pub NamesHolder : GAnswer → Option Sid → Type 0
NamesHolder (NotGranted holder) first = first ≡ Some holder
NamesHolder _ first = Unit {0}

-- An answer that this may be a deadlock names this session.
abbrev pub NamesOther : GAnswer → Option Sid → Type 0
NamesOther (PossibleDeadlock other) first = first ≡ Some other
NamesOther _ first = Unit {0}
