-- When a table shows of a file the ranges of its record that count.
use Rattle.std.specs.Prelude.{◌≡◌, ℕ, not, List, map, filter}
use Rattle.std.specs.List.{list_any}
use Rattle.sid_core.specs.declared.ids.OpenId.{OpenId}
use Rattle.sid_core.specs.Ids.{same_id}
use Rattle.serial_table.specs.declared.rows.OpenRow.{OpenRow}
use Rattle.serial_table.specs.declared.rows.RangeRow.{RangeRow}
use Rattle.serial_table.specs.File.{FileView}
use Rattle.record_codec.specs.declared.range_rec.RangeItem.{RangeItem}
use Rattle.record_codec.specs.declared.share_rec.ShareRec.{ShareRec}
use Rattle.record_rows.specs.Rows.{range_row}
use Rattle.record_codec.specs.Counts.{Records, entry_counts, id_counts, range_counts}

-- the ranges of the file that count
abbrev pub counted_ranges : Records → ℕ → List RangeItem → List RangeRow
counted_ranges records file ranges = map (range_row file) (filter (range_counts records file) ranges)

-- those that don't
abbrev pub stale_ranges : Records → ℕ → List RangeItem → List RangeItem
stale_ranges records file ranges = filter (λ range. not (range_counts records file range)) ranges

-- the ids of the file's opens that count, in whatever order
abbrev pub AreValid : Records → ℕ → List OpenId → Type 0
AreValid records file valid = (id : OpenId) → list_any (λ v. same_id v id) valid ≡ id_counts records file id

-- the ids of the entries of the file's share mode record that count
abbrev pub valid_ids : Records → ℕ → ShareRec → List OpenId
valid_ids records file share = map (λ entry. entry.id) (filter (entry_counts records file) share.entries)

-- The open is one of the file, and calls before a table that has the ranges of the file that count.
pub record AsksBefore (records : Records) (file : ℕ) (ranges : List RangeItem) (id : OpenId) (f : FileView) (open_row : OpenRow) : Type 0 where
  pub id_is : open_row.id ≡ id
  pub file_is : open_row.file ≡ file
  pub ranges_are : f.ranges ≡ counted_ranges records file ranges

-- And it knows which opens of the file count.
pub record AsksAmong (records : Records) (file : ℕ) (valid : List OpenId) (ranges : List RangeItem) (id : OpenId) (f : FileView) (open_row : OpenRow) : Type 0 where
  pub before : AsksBefore records file ranges id f open_row
  pub valid_are : AreValid records file valid
