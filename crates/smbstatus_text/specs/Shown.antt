-- When a table shows what the records tell: of the workers, of a file's opens, and of its byte ranges.
use Rattle.std.specs.Prelude.{◌≡◌, ℕ, ◌==◌, List, Some, map, filter, IfSome}
use Rattle.std.specs.List.{AllByRecursion}
use Rattle.std.specs.Option.{option_map}
use Rattle.std.specs.Ordering.{nat_cmp}
use Rattle.std.specs.FinMap as map
use Rattle.std.specs.FinMap.{FinMap}
use Rattle.sid_core.specs.declared.ids.LeaseName.{LeaseName}
use Rattle.sid_core.specs.declared.setup.Setup.{Setup}
use Rattle.serial_table.specs.declared.rows.LeaseRow.{LeaseRow}
use Rattle.serial_table.specs.View.{View}
use Rattle.serial_table.specs.File.{FileView, file_open}
use Rattle.record_codec.specs.declared.share_rec.ShareEntry.{ShareEntry}
use Rattle.record_codec.specs.declared.share_rec.ShareRec.{ShareRec}
use Rattle.record_codec.specs.declared.range_rec.RangeRec.{RangeRec}
use Rattle.record_codec.specs.declared.register_rec.RegisterRec.{RegisterRec}
use Rattle.record_codec.specs.Counts.{Records, lives, entry_counts, range_counts}
use Rattle.server_ids.specs.Sessions.{worker_row}
use Rattle.leases_db.specs.Rows.{leases_by}
use Rattle.record_rows.specs.Rows.{open_row, range_row}

-- ---- workers

-- Each declared worker has in the table the last session that the record of its pid tells of.
abbrev pub ShowsWorkers : Setup → FinMap nat_cmp RegisterRec → View → Type 0
ShowsWorkers setup register v = AllByRecursion (λ info. v.worker_of info.pid ≡ option_map (worker_row info.pid) (map.get register info.pid)) setup.workers

-- ---- opens

-- the lease of the name by its record, where that is of this file
abbrev pub lease_of_file : Records → ℕ → LeaseName → List LeaseRow
lease_of_file records file name = filter (λ lease. lease.file == file) (leases_by name (records.lease name))

-- the entries that count
abbrev pub counted : Records → ShareRec → List ShareEntry
counted records rec = filter (entry_counts records rec.file) rec.entries

-- The file's opens are the entries that count, in their order, and of the lease of each it has what the record tells.
pub record ShowsOpens (records : Records) (rec : ShareRec) (f : FileView) : Type 0 where
  pub opens_are : f.opens ≡ map (λ e. file_open (lives records) (open_row rec.file e)) (counted records rec)
  pub leases_are : AllByRecursion (λ e. IfSome e.lease (λ name. f.leases name ≡ lease_of_file records rec.file name)) (counted records rec)

-- ---- ranges

-- the records, with this one as the share mode record of each file
abbrev pub with_share : ShareRec → Records → Records
with_share rec records = record records { share = λ _. Some rec }

-- The file's opens are the entries that count, and its byte ranges are those whose open is one of these, in their order.
pub record ShowsRanges (records : Records) (ranges : RangeRec) (opens : ShareRec) (f : FileView) : Type 0 where
  pub opens_are : f.opens ≡ map (λ e. file_open (lives records) (open_row opens.file e)) (counted records opens)
  pub ranges_are : f.ranges ≡ map (range_row ranges.file) (filter (range_counts (with_share opens records) ranges.file) ranges.ranges)
