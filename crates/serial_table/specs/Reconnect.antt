-- `reconnect` ([MS-SMB2] 3.3.5.9.7).
use Rattle.std.specs.Prelude.{ℕ, true, ◌&&◌, List, [], ◌∷◌, Some, if◌then◌else◌}
use Rattle.std.specs.Option.{option_map_or}
use Rattle.sid_core.specs.declared.ids.LeaseName.{LeaseName}
use Rattle.sid_core.specs.declared.setup.Setup.{Setup}
use Rattle.sid_core.specs.declared.setup.WorkerInfo.{WorkerInfo}
use Rattle.sid_core.specs.declared.reply.Reply.TheVariants.{Granted, ObjectNameNotFound}
use Rattle.serial_table.specs.declared.rows.OpenRow.{OpenRow}
use Rattle.serial_table.specs.declared.rows.LeaseRow.{LeaseRow}
use Rattle.serial_table.specs.declared.change.Change.TheVariants.{TakeOver}
use Rattle.serial_table.specs.declared.decision.Caller.{Caller}
use Rattle.serial_table.specs.declared.decision.Decision.{Decision}
use Rattle.serial_table.specs.View.{View, carries, leases_at}
use Rattle.serial_table.specs.Decision.{only_reply}
use Rattle.serial_table.specs.ByNumber.{declared_at}
use Rattle.serial_table.specs.Asked.{own_lease}
use Rattle.serial_table.specs.Durable.{can_be_taken}

-- The open has the caller's session as its owner, and the call's number as its handle. The reply tells what its lease holds.
abbrev pub take_over : Caller → OpenRow → List LeaseRow → Decision
take_over caller open_row [] = only_reply ObjectNameNotFound
take_over caller open_row (lease ∷ others) =
    record (only_reply (Granted (Some lease.held) true)) { changes = TakeOver open_row.file open_row.id caller.sid caller.number ∷ [] }

-- the open with the id, if it is there: it has to be disconnected, under the lease, and before its deadline
abbrev pub reconnect_first : View → Caller → LeaseName → List OpenRow → Decision
reconnect_first v caller name [] = only_reply ObjectNameNotFound
reconnect_first v caller name (open_row ∷ others) =
    if can_be_taken v caller.moment open_row && carries name open_row.lease
    then take_over caller open_row (leases_at v name open_row.file)
    else only_reply ObjectNameNotFound

-- the opens that a worker's call made
abbrev pub made_by : Setup → View → ℕ → ℕ → List OpenRow
made_by setup v worker call = option_map_or (λ (info : WorkerInfo). v.opens_of_id (record { pid = info.pid; call = call })) (declared_at setup.workers worker) []

unfoldable pub reconnect : Setup → View → Caller → ℕ → ℕ → ℕ → Decision
reconnect setup v caller worker call key = reconnect_first v caller (own_lease caller key) (made_by setup v worker call)
