-- What settles after every event, each file by itself.
use Rattle.std.specs.Prelude.{ℕ, Bool, true, false, ◌&&◌, ◌||◌, not, Option, Some, None, filter, map, if◌then◌else◌}
use Rattle.std.specs.List.{list_any}
use Rattle.std.specs.Option.{option_map_or}
use Rattle.sid_core.specs.Ids.{same_id}
use Rattle.sid_core.specs.Values.{has}
use Rattle.serial_table.specs.declared.rows.OpenRow.{OpenRow}
use Rattle.serial_table.specs.declared.rows.LeaseRow.{LeaseRow}
use Rattle.serial_table.specs.declared.rows.Breaking.{Breaking}
use Rattle.serial_table.specs.declared.rows.RangeRow.{RangeRow}
use Rattle.serial_table.specs.declared.table.Table.{Table}
use Rattle.serial_table.specs.View.{View, view, lives, keeping_opens}
use Rattle.serial_table.specs.File.{FileView, FileOpen, file_view, file_open, is_under}

-- the break is over, with the state that was needed
abbrev pub broken_to_needed : LeaseRow → Option Breaking → LeaseRow
broken_to_needed lease None = lease
broken_to_needed lease (Some breaking) = record lease { held = breaking.needed; breaking = None }

-- (a) A breaking lease with no connected open takes what is needed, and isn't breaking.
abbrev pub settled_lease : FileView → LeaseRow → LeaseRow
settled_lease f lease =
    if list_any (λ o. is_under lease.name o && o.connected) f.opens then lease else broken_to_needed lease lease.breaking

abbrev pub lacks_handle : FileView → LeaseRow → Bool
lacks_handle f lease = not (has (settled_lease f lease).held.0 2)

-- (b) A lease that then lacks HANDLE loses its disconnected opens ..
abbrev pub keeps_open : FileView → FileOpen → Bool
keeps_open f o = o.connected || not (option_map_or (λ name. list_any (lacks_handle f) (f.leases name)) o.row.lease false)

-- .. with their byte ranges.
abbrev pub keeps_range : FileView → RangeRow → Bool
keeps_range f range = not (list_any (λ o. same_id o.row.id range.id && not (keeps_open f o)) f.opens)

-- (c) A lease without opens is gone.
abbrev pub keeps_lease : FileView → LeaseRow → Bool
keeps_lease f lease = list_any (λ o. is_under lease.name o && keeps_open f o) f.opens

-- (d) A file without opens isn't pending.
abbrev pub keeps_pending : FileView → Bool
keeps_pending f = list_any (keeps_open f) f.opens

-- a file after the four, in this order
unfoldable pub settle_file : FileView → FileView
settle_file f = record f {
  opens = filter (keeps_open f) f.opens;
  ranges = filter (keeps_range f) f.ranges;
  leases = λ name. filter (keeps_lease f) (map (settled_lease f) (f.leases name));
  pending = f.pending && keeps_pending f;
}

-- ---- the same of the rows of files that pass a test; the rows of other files stay as they are

abbrev pub row_stays : (ℕ → Bool) → View → OpenRow → Bool
row_stays here v open_row = not (here open_row.file) || keeps_open (file_view open_row.file v) (file_open (lives v) open_row)

abbrev pub range_stays : (ℕ → Bool) → View → RangeRow → Bool
range_stays here v range = not (here range.file) || keeps_range (file_view range.file v) range

abbrev pub lease_settles : (ℕ → Bool) → View → LeaseRow → LeaseRow
lease_settles here v lease = if here lease.file then settled_lease (file_view lease.file v) lease else lease

abbrev pub lease_stays : (ℕ → Bool) → View → LeaseRow → Bool
lease_stays here v lease = not (here lease.file) || keeps_lease (file_view lease.file v) lease

abbrev pub pending_stays : (ℕ → Bool) → View → ℕ → Bool
pending_stays here v file = not (here file) || keeps_pending (file_view file v)

unfoldable pub settle_where : (ℕ → Bool) → Table → Table
settle_where here t = record t {
  opens = filter (row_stays here (view t)) t.opens;
  ranges = filter (range_stays here (view t)) t.ranges;
  leases = filter (lease_stays here (view t)) (map (lease_settles here (view t)) t.leases);
  pending = filter (pending_stays here (view t)) t.pending;
}

-- the table after all its files have settled
abbrev pub settle : Table → Table
settle t = settle_where (λ file. true) t

-- the same, key by key
unfoldable pub settle_by_key : View → View
settle_by_key v = record (keeping_opens (row_stays (λ file. true) v) (range_stays (λ file. true) v) v) {
  leases_of = λ name. filter (lease_stays (λ file. true) v) (map (lease_settles (λ file. true) v) (v.leases_of name));
  is_pending = λ file. v.is_pending file && pending_stays (λ file. true) v file;
}
