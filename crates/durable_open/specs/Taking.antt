-- An open that a `reconnect` takes over.
use Rattle.std.specs.Prelude.{ℕ, Bool, ◌&&◌, map, if◌then◌else◌}
use Rattle.std.specs.Ordering.{nat_cmp}
use Rattle.std.specs.FinMap.{FinMap}
use Rattle.sid_core.specs.declared.ids.Sid.{Sid}
use Rattle.sid_core.specs.declared.ids.OpenId.{OpenId}
use Rattle.sid_core.specs.declared.ids.LeaseName.{LeaseName}
use Rattle.sid_core.specs.declared.ids.Moment.{Moment}
use Rattle.sid_core.specs.Ids.{same_id}
use Rattle.serial_table.specs.View.{carries}
use Rattle.serial_table.specs.Durable.{can_be_taken}
use Rattle.record_codec.specs.declared.share_rec.ShareEntry.{ShareEntry}
use Rattle.record_codec.specs.declared.lease_rec.LeaseRef.{LeaseRef}
use Rattle.record_codec.specs.declared.lease_rec.LeaseRec.{LeaseRec}
use Rattle.record_codec.specs.declared.register_rec.RegisterRec.{RegisterRec}
use Rattle.leases_db.specs.Refs.{is_of}
use Rattle.record_rows.specs.Rows.{open_row}
use Rattle.serial_table.specs.declared.rows.OpenRow.{OpenRow}
use Rattle.serial_table.specs.Change.{new_owner}
use Rattle.record_codec.specs.Counts.{settled_refs, with_refs}
use Rattle.server_ids.specs.Sessions.{registered}
use Rattle.durable_open.specs.Deadlines.{sessions_of}
use Rattle.durable_open.specs.Keeping.{is_kept_by}

-- the lease record as settling leaves it
abbrev pub settled : FinMap nat_cmp RegisterRec → LeaseRec → LeaseRec
settled register lease = with_refs (registered register) lease (settled_refs (registered register) lease)

-- It is disconnected, its deadline is above the moment, and it is under the lease of this name, which keeps it.
abbrev pub can_take : FinMap nat_cmp RegisterRec → LeaseRec → LeaseName → ℕ → Moment → ShareEntry → Bool
can_take register lease name file now e =
    can_be_taken (sessions_of register) now (open_row file e) && (carries name e.lease && is_kept_by register lease file e)

-- and it has this id
abbrev pub is_taken : FinMap nat_cmp RegisterRec → LeaseRec → LeaseName → ℕ → Moment → OpenId → ShareEntry → Bool
is_taken register lease name file now id e = same_id e.id id && can_take register lease name file now e

abbrev pub with_owner : Sid → ℕ → ShareEntry → ShareEntry
with_owner owner handle e = record e { owner = owner; handle = handle }

-- Those that are taken have this owner and handle, and the others stay.
abbrev pub taken_over : (ShareEntry → Bool) → Sid → ℕ → ShareEntry → ShareEntry
taken_over taken owner handle e = if taken e then with_owner owner handle e else e

abbrev pub ref_taken_over : OpenId → Sid → LeaseRef → LeaseRef
ref_taken_over id owner ref = if is_of id ref then record ref { owner = owner } else ref

-- the lease of the open, whose reference has this owner
abbrev pub lease_taken_over : OpenId → Sid → LeaseRec → LeaseRec
lease_taken_over id owner lease = record lease { refs = map (ref_taken_over id owner) lease.refs }

-- The row of an entry after the table's change: of the opens, which are those that count, that with the id has this owner and handle.
abbrev pub row_after : (ShareEntry → Bool) → ℕ → OpenId → Sid → ℕ → ShareEntry → OpenRow
row_after counts file id owner handle e = if counts e then new_owner file id owner handle (open_row file e) else open_row file e
