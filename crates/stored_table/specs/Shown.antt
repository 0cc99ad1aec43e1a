-- What the records show of a file: the parts that count, as a table has them.
use Rattle.std.specs.Prelude.{ℕ, ◌==◌, ◌&&◌, Bool, false, if◌then◌else◌, List, [], ◌∷◌, Option, map, filter}
use Rattle.std.specs.List.{list_any}
use Rattle.std.specs.Option.{option_map_or, option_and_then}
use Rattle.sid_core.specs.declared.ids.Spot.TheVariants.{OpenOf, RangesOf}
use Rattle.sid_core.specs.declared.ids.LeaseName.{LeaseName}
use Rattle.serial_table.specs.declared.rows.LeaseRow.{LeaseRow}
use Rattle.serial_table.specs.View.{carries}
use Rattle.serial_table.specs.File.{FileView, file_open}
use Rattle.record_codec.specs.declared.watch.WatchRec.{WatchRec}
use Rattle.record_codec.specs.declared.share_rec.ShareEntry.{ShareEntry}
use Rattle.record_codec.specs.declared.lease_rec.LeaseRec.{LeaseRec}
use Rattle.record_codec.specs.declared.range_rec.RangeItem.{RangeItem}
use Rattle.record_codec.specs.Counts.{lives, entry_counts, pending_counts, watch_counts, range_counts, settled_lease}
use Rattle.stored_table.specs.Decoded.{AllRecords, deciding}
use Rattle.record_rows.specs.Rows.{open_row, lease_row, range_row, watch_row}

-- ---- what counts of a file

-- what a record has in a list; nothing where there is no record
abbrev pub part_of : {R A : Type 0} → (R → List A) → Option R → List A
part_of list o = option_map_or list o []

-- the entries that count
abbrev pub valid_entries : AllRecords → ℕ → List ShareEntry
valid_entries s file = part_of (λ r. filter (entry_counts (deciding s) file) r.entries) (s.shares file)

abbrev pub valid_ranges : AllRecords → ℕ → List RangeItem
valid_ranges s file = part_of (λ r. filter (range_counts (deciding s) file) r.ranges) (s.ranges file)

-- those whose token is there
abbrev pub open_watches : AllRecords → ℕ → List WatchRec
open_watches s file = part_of (λ r. filter (watch_counts (deciding s) (OpenOf file)) r.watchers) (s.shares file)

abbrev pub range_watches : AllRecords → ℕ → List WatchRec
range_watches s file = part_of (λ r. filter (watch_counts (deciding s) (RangesOf file)) r.watchers) (s.ranges file)

-- The file is to go, where an entry that counts is there.
abbrev pub pending_shown : AllRecords → ℕ → Bool
pending_shown s file = option_map_or (λ r. r.pending && pending_counts (deciding s) file r) (s.shares file) false

-- some entry of the file's share mode record carries the name, whether it counts or not
abbrev pub is_named : AllRecords → ℕ → LeaseName → Bool
is_named s file name = list_any (λ e. carries name e.lease) (part_of (λ r. r.entries) (s.shares file))

abbrev pub if_of_file : ℕ → LeaseName → LeaseRec → List LeaseRow
if_of_file file name r = if r.file == file then lease_row name r ∷ [] else []

-- The settled lease of a name, where it is of the file and the file's record names it: no other lease record is looked at.
abbrev pub lease_shown : AllRecords → ℕ → LeaseName → List LeaseRow
lease_shown s file name =
    if is_named s file name then option_map_or (if_of_file file name) (option_and_then (settled_lease (deciding s)) (s.leases name)) [] else []

-- what the records show of a file, as a table shows it
abbrev pub shown : ℕ → AllRecords → FileView
shown file s = record {
  opens = map (λ e. file_open (lives (deciding s)) (open_row file e)) (valid_entries s file);
  leases = lease_shown s file;
  ranges = map (range_row file) (valid_ranges s file);
  open_watches = map watch_row (open_watches s file);
  range_watches = map watch_row (range_watches s file);
  pending = pending_shown s file;
}
