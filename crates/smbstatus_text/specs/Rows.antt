-- For the code: what is written of a part of a record.
use Rattle.std.specs.Prelude.{ℕ, ◌&&◌, Bool, List, [], Option, find, if◌then◌else◌}
use Rattle.std.specs.Option.{option_map_or}
use Rattle.sid_core.specs.Ids.{same_id}
use Rattle.sid_core.specs.declared.ids.OpenId.{OpenId}
use Rattle.sid_core.specs.declared.setup.FileInfo.{FileInfo}
use Rattle.sid_core.specs.declared.setup.Setup.{Setup}
use Rattle.serial_table.specs.declared.rows.LeaseRow.{LeaseRow}
use Rattle.serial_table.specs.Tables as tables
use Rattle.serial_table.specs.Tables.{lease_column, owner_text}
use Rattle.record_codec.specs.declared.share_rec.ShareEntry.{ShareEntry}
use Rattle.record_codec.specs.declared.range_rec.RangeItem.{RangeItem}
use Rattle.record_codec.specs.Counts.{Records, lives, entry_counts}
use Rattle.record_rows.specs.Rows as rows
use Rattle.smbstatus_text.specs.Shown.{lease_of_file}

-- ---- opens

abbrev pub lease_of_entry : Records → ℕ → ShareEntry → List LeaseRow
lease_of_entry records file e = option_map_or (lease_of_file records file) e.lease []

abbrev pub entry_row : Setup → FileInfo → Records → ℕ → ShareEntry → List ℕ
entry_row setup info records file e = tables.open_row setup info (lives records e.owner) (rows.open_row file e) (lease_column (lease_of_entry records file e))

-- the row of an entry that counts
abbrev pub counted_row : Setup → FileInfo → Records → ℕ → ShareEntry → List ℕ
counted_row setup info records file e = if entry_counts records file e then entry_row setup info records file e else []

-- ---- ranges

-- an entry of this id that counts
abbrev pub is_open : Records → ℕ → OpenId → ShareEntry → Bool
is_open records file id e = same_id e.id id && entry_counts records file e

-- the first of them
abbrev pub open_of : Records → ℕ → List ShareEntry → OpenId → Option ShareEntry
open_of records file entries id = find (is_open records file id) entries

abbrev pub item_row : FileInfo → Records → ℕ → RangeItem → ShareEntry → List ℕ
item_row info records file r e = tables.range_row info (owner_text (lives records e.owner) e.owner.pid) (rows.range_row file r)

-- the row of a range that counts
abbrev pub counted_range_row : FileInfo → Records → ℕ → List ShareEntry → RangeItem → List ℕ
counted_range_row info records file entries r = option_map_or (item_row info records file r) (open_of records file entries r.id) []
