-- A `reconnect` by what the records of the named open tell.
use Rattle.std.specs.Prelude.{◌≡◌, ◌≤◌, ℕ, Bool, true, ◌&&◌, [], ◌∷◌, Option, Some, None, filter, map, length, if◌then◌else◌}
use Rattle.std.specs.List.{list_any, AllByRecursion}
use Rattle.std.specs.Ordering.{nat_cmp}
use Rattle.std.specs.FinMap as finmap
use Rattle.std.specs.FinMap.{FinMap}
use Rattle.sid_core.specs.declared.ids.Sid.{Sid}
use Rattle.sid_core.specs.declared.ids.OpenId.{OpenId}
use Rattle.sid_core.specs.declared.ids.LeaseName.{LeaseName}
use Rattle.sid_core.specs.declared.ids.Moment.{Moment}
use Rattle.sid_core.specs.declared.bits.LeaseState.{LeaseState}
use Rattle.sid_core.specs.declared.setup.Setup.{Setup}
use Rattle.sid_core.specs.declared.reply.Reply.TheVariants.{Granted, ObjectNameNotFound}
use Rattle.sid_core.specs.Ids.{same_id}
use Rattle.serial_table.specs.declared.change.Change.TheVariants.{TakeOver}
use Rattle.serial_table.specs.declared.decision.Caller.{Caller}
use Rattle.serial_table.specs.declared.decision.Decision.{Decision}
use Rattle.serial_table.specs.View.{View, carries, leases_at}
use Rattle.serial_table.specs.Decision.{only_reply}
use Rattle.serial_table.specs.Reconnect.{made_by}
use Rattle.record_codec.specs.declared.share_rec.ShareRec.{ShareRec}
use Rattle.record_codec.specs.declared.lease_rec.LeaseRec.{LeaseRec}
use Rattle.record_codec.specs.declared.register_rec.RegisterRec.{RegisterRec}
use Rattle.record_codec.specs.Counts.{Records, entry_counts}
use Rattle.record_rows.specs.Rows.{lease_row, open_row}
use Rattle.durable_open.specs.Deadlines.{ShowsSessions}
use Rattle.durable_open.specs.Taking.{settled}

-- the register and lease records, as what decides which entries count
abbrev pub recorded : FinMap nat_cmp RegisterRec → (LeaseName → Option LeaseRec) → Records
recorded register leases = record { register = finmap.get register; mail = λ _. None; lease = leases; share = λ _. None }

-- The session calls at this moment, and its client has the lease name.
abbrev pub caller_of : LeaseName → Sid → ℕ → Moment → Caller
caller_of name owner handle now = record { sid = owner; guid = name.guid; number = handle; moment = now }

-- The open that the worker's call made is the one with the id, and the table shows of it what the records tell.
pub record Names (register : FinMap nat_cmp RegisterRec) (leases : LeaseName → Option LeaseRec) (lease : LeaseRec) (rec : ShareRec) (name : LeaseName) (id : OpenId) (setup : Setup) (v : View) (worker call : ℕ) : Type 0 where
  -- `lease` is the record of the name.
  pub lease_is : leases name ≡ Some lease
  -- The opens with the id are the entries that have it and count, one at most.
  pub opens_are : made_by setup v worker call ≡ map (open_row rec.file) (filter (λ e. same_id e.id id && entry_counts (recorded register leases) rec.file e) rec.entries)
  pub one : length (made_by setup v worker call) ≤ 1
  -- The lease of such an open is there, as the record tells it once it is settled.
  pub lease_shown : list_any (λ o. carries name o.lease) (made_by setup v worker call) ≡ true → leases_at v name rec.file ≡ lease_row name (settled register lease) ∷ []
  pub sessions_shown : AllByRecursion (λ o. ShowsSessions register v o.owner.pid) (made_by setup v worker call)

-- The open is granted again, with what its lease holds; or there is none.
abbrev pub answer : Bool → LeaseState → ℕ → OpenId → Sid → ℕ → Decision
answer taken held file id owner handle =
    if taken
    then record (only_reply (Granted (Some held) true)) { changes = TakeOver file id owner handle ∷ [] }
    else only_reply ObjectNameNotFound
