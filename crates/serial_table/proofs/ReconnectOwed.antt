-- `reconnect` takes an open over.
use Rattle.std.proofs.Common.{◌≡◌, ◌&&◌, ℕ, true, List, [], ◌∷◌, Some, refl, arith}
use Rattle.std.specs.List.{list_all, IsDistinct}
use Rattle.std.proofs.lemmas.Bool.{cond_both}
use Rattle.sid_core.specs.declared.ids.LeaseName.{LeaseName}
use Rattle.sid_core.specs.declared.bits.LeaseState.{LeaseState}
use Rattle.sid_core.specs.declared.reply.Reply.{Reply}
use Rattle.sid_core.specs.declared.reply.Reply.TheVariants.{Granted, ObjectNameNotFound}
use Rattle.sid_core.specs.declared.setup.Setup.{Setup}
use Rattle.serial_table.specs.declared.rows.OpenRow.{OpenRow}
use Rattle.serial_table.specs.declared.rows.LeaseRow.{LeaseRow}
use Rattle.serial_table.specs.declared.table.Table.{Table}
use Rattle.serial_table.specs.declared.change.Change.TheVariants as c
use Rattle.serial_table.specs.declared.decision.Caller.{Caller}
use Rattle.serial_table.specs.declared.decision.Decision.{Decision}
use Rattle.serial_table.specs.View.{View, view, carries, leases_at}
use Rattle.serial_table.specs.Decision.{only_reply}
use Rattle.serial_table.specs.Asked.{own_lease}
use Rattle.serial_table.specs.Durable.{can_be_taken}
use Rattle.serial_table.specs.Reconnect.{take_over, reconnect_first, made_by, reconnect}
use Rattle.serial_table.specs.InPlace.{is_made}
use Rattle.serial_table.proofs.SameWorkers.{keeps_workers}
use Rattle.serial_table.proofs.Owing.{IsCalling, IsCallingInSets, DecisionHolds, DecisionBrings, one_adds, reply_holds, reply_brings}

-- ---- what it can decide

-- the open has the caller's session as its owner
abbrev taken : Caller → OpenRow → LeaseState → Decision
taken caller row held = record (only_reply (Granted (Some held) true)) { changes = c.TakeOver row.file row.id caller.sid caller.number ∷ [] }

-- what holds of each decision of `reconnect`, whatever the opens are
pub record HoldsOfEach (P : Decision → Type 0) (caller : Caller) : Type 0 where
  pub replies : (reply : Reply) → P (only_reply reply)
  pub takes : (row : OpenRow) (held : LeaseState) → P (taken caller row held)

module _ (P : Decision → Type 0) (caller : Caller) (h : HoldsOfEach P caller) where
  of_take_over : (row : OpenRow) (leases : List LeaseRow) → P (take_over caller row leases)
  of_take_over row [] = h.replies _
  of_take_over row (lease ∷ others) = h.takes row lease.held

  of_first : (v : View) (name : LeaseName) (rows : List OpenRow) → P (reconnect_first v caller name rows)
  of_first v name [] = h.replies _
  of_first v name (row ∷ others) =
      cond_both (can_be_taken v caller.moment row && carries name row.lease) (take_over caller row (leases_at v name row.file)) (only_reply ObjectNameNotFound) P
      (λ _. of_take_over row (leases_at v name row.file)) (λ _. h.replies _)

  pub of_reconnect : (setup : Setup) (v : View) (worker call key : ℕ) → P (reconnect setup v caller worker call key)
  unfolding reconnect
  of_reconnect setup v worker call key = of_first v (own_lease caller key) (made_by setup v worker call)

-- ---- what it owes

pub reconnect_holds : (low : ℕ → ℕ) (t : Table) (setup : Setup) (caller : Caller) (worker call key : ℕ) → IsCalling low t caller → DecisionHolds low t (reconnect setup (view t) caller worker call key)
unfolding IsDistinct
reconnect_holds low t setup caller worker call key k =
    of_reconnect (DecisionHolds low t) caller
    (record {
      replies = λ reply. reply_holds low t reply k.consistent;
      takes = λ row held. record {
        fits = record { changes = (k.alive, tt); waits = tt; posts = refl };
        numbers = record { changes = (k.number, tt); waits = λ u. tt };
        adds = one_adds t (taken caller row held) (c.TakeOver row.file row.id caller.sid caller.number) refl k.consistent (k.alive, tt) (omega arith) refl refl refl (omega arith) tt;
      };
    }) setup (view t) worker call key

pub reconnect_brings : (setup : Setup) (t : Table) (caller : Caller) (worker call key : ℕ) → IsCallingInSets setup t caller → DecisionBrings setup t (reconnect setup (view t) caller worker call key)
reconnect_brings setup t caller worker call key k =
    of_reconnect (DecisionBrings setup t) caller
    (record {
      replies = λ reply. reply_brings setup t reply;
      takes = λ row held. record { changes = (k.number, tt); waits = λ u. tt; letters = λ post i. absurd i };
    }) setup (view t) worker call key

-- ---- in place

pub reconnect_made : (setup : Setup) (v : View) (caller : Caller) (worker call key : ℕ) → list_all is_made (reconnect setup v caller worker call key).changes ≡ true
reconnect_made setup v caller worker call key =
    of_reconnect (λ d. list_all is_made d.changes ≡ true) caller (record { replies = λ reply. refl; takes = λ row held. refl }) setup v worker call key

pub reconnect_keeps : (setup : Setup) (v : View) (caller : Caller) (worker call key : ℕ) → list_all keeps_workers (reconnect setup v caller worker call key).changes ≡ true
reconnect_keeps setup v caller worker call key =
    of_reconnect (λ d. list_all keeps_workers d.changes ≡ true) caller (record { replies = λ reply. refl; takes = λ row held. refl }) setup v worker call key
