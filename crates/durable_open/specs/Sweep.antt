-- Opens that expire, by the records.
use Rattle.std.specs.Prelude.{◌≡◌, ℕ, Bool, false, ◌&&◌, List, [], ◌∷◌, Option, filter, map, if◌then◌else◌}
use Rattle.std.specs.List.{list_any, AllByRecursion, IsDistinct}
use Rattle.std.specs.Option.{option_map, option_map_or}
use Rattle.std.specs.Ordering.{nat_cmp}
use Rattle.std.specs.FinMap.{FinMap}
use Rattle.sid_core.specs.declared.ids.OpenId.{OpenId}
use Rattle.sid_core.specs.declared.ids.LeaseName.{LeaseName}
use Rattle.sid_core.specs.declared.ids.Moment.{Moment}
use Rattle.sid_core.specs.Ids.{same_id}
use Rattle.serial_table.specs.View.{View, carries}
use Rattle.serial_table.specs.Durable.{is_expired}
use Rattle.record_codec.specs.declared.share_rec.ShareEntry.{ShareEntry}
use Rattle.record_codec.specs.declared.lease_rec.LeaseRec.{LeaseRec}
use Rattle.record_codec.specs.declared.register_rec.RegisterRec.{RegisterRec}
use Rattle.record_codec.specs.Counts.{is_connected, entry_counts}
use Rattle.server_ids.specs.Sessions.{registered}
use Rattle.leases_db.specs.Refs.{is_of, without}
use Rattle.record_rows.specs.Rows.{open_row}
use Rattle.durable_open.specs.Deadlines.{sessions_of, ShowsSessions}
use Rattle.durable_open.specs.Keeping.{is_kept_by}
use Rattle.durable_open.specs.Naming.{recorded}

-- It is durable, and its lease keeps it, if it has one.
abbrev pub is_kept_at : FinMap nat_cmp RegisterRec → Option LeaseRec → ℕ → ShareEntry → Bool
is_kept_at register lease file e = option_map_or (λ rec. is_kept_by register rec file e) lease false

abbrev pub is_kept_among : FinMap nat_cmp RegisterRec → (LeaseName → Option LeaseRec) → ℕ → ShareEntry → Bool
is_kept_among register leases file e = option_map_or (λ name. is_kept_at register (leases name) file e) e.lease false

abbrev pub has_expired : FinMap nat_cmp RegisterRec → ℕ → Moment → ShareEntry → Bool
has_expired register file now e = is_expired (sessions_of register) now (open_row file e)

-- Its deadline has come, and it counts: its session has ended, so its lease keeps it.
abbrev pub goes : FinMap nat_cmp RegisterRec → ℕ → Moment → (LeaseName → Option LeaseRec) → ShareEntry → Bool
goes register file now leases e = has_expired register file now e && is_kept_among register leases file e

-- the lease of this name, which loses the reference to the open where it keeps it
abbrev pub once_dropped : FinMap nat_cmp RegisterRec → ℕ → ShareEntry → LeaseName → LeaseRec → LeaseRec
once_dropped register file e name lease = if carries name e.lease && is_kept_by register lease file e then without e.id lease else lease

abbrev pub once_gone : FinMap nat_cmp RegisterRec → ℕ → Moment → ShareEntry → LeaseName → LeaseRec → LeaseRec
once_gone register file now e name lease =
    if has_expired register file now e && (carries name e.lease && is_kept_by register lease file e) then without e.id lease else lease

-- the leases after this open, if it goes
abbrev pub after_one : FinMap nat_cmp RegisterRec → ℕ → Moment → ShareEntry → (LeaseName → Option LeaseRec) → LeaseName → Option LeaseRec
after_one register file now e leases name = option_map (once_gone register file now e name) (leases name)

-- The opens go one after another: what stays of them,
abbrev pub kept_of : FinMap nat_cmp RegisterRec → ℕ → Moment → (LeaseName → Option LeaseRec) → List ShareEntry → List ShareEntry
kept_of register file now leases [] = []
kept_of register file now leases (e ∷ es) =
    if goes register file now leases e
    then kept_of register file now (after_one register file now e leases) es
    else e ∷ kept_of register file now (after_one register file now e leases) es

-- .. and the leases then.
abbrev pub leases_after : FinMap nat_cmp RegisterRec → ℕ → Moment → (LeaseName → Option LeaseRec) → List ShareEntry → LeaseName → Option LeaseRec
leases_after register file now leases [] = leases
leases_after register file now leases (e ∷ es) = leases_after register file now (after_one register file now e leases) es

-- ---- what the records of a table tell

abbrev pub has_living_ref : FinMap nat_cmp RegisterRec → OpenId → LeaseRec → Bool
has_living_ref register id rec = list_any (λ ref. is_of id ref && is_connected (registered register) ref) rec.refs

-- Its lease has a reference to it whose owner lives.
abbrev pub is_held_on : FinMap nat_cmp RegisterRec → (LeaseName → Option LeaseRec) → ShareEntry → Bool
is_held_on register leases e = option_map_or (λ name. option_map_or (has_living_ref register e.id) (leases name) false) e.lease false

-- Of the opens that go no two have one id, and no lease has a reference to one whose owner lives.
pub record Agree (register : FinMap nat_cmp RegisterRec) (file : ℕ) (now : Moment) (leases : LeaseName → Option LeaseRec) (es : List ShareEntry) : Type 0 where
  pub ids_differ : IsDistinct (λ a b. same_id a.id b.id) (filter (goes register file now leases) es)
  pub refs_ended : list_any (λ e. goes register file now leases e && is_held_on register leases e) es ≡ false

-- The table's opens of the file are the entries that count, and it shows of their owners what the register records tell.
pub record ShowsOpens (register : FinMap nat_cmp RegisterRec) (file : ℕ) (leases : LeaseName → Option LeaseRec) (es : List ShareEntry) (v : View) : Type 0 where
  pub opens_are : v.opens_of file ≡ map (open_row file) (filter (entry_counts (recorded register leases) file) es)
  pub sessions_shown : AllByRecursion (λ e. ShowsSessions register v e.owner.pid) es
