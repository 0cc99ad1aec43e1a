-- For the code: a map that finds a file's open by its id.
use Rattle.std.specs.Prelude.{◌≡◌, ℕ, List, []}
use Rattle.std.specs.Option.{option_map_or}
use Rattle.std.specs.BTreeMap.{BTreeMap, get}
use Rattle.std.specs.declared.cmp.Ordering.{Ordering}
use Rattle.std.specs.Ordering.{nat_cmp, ordering_then}
use Rattle.sid_core.specs.declared.ids.OpenId.{OpenId}
use Rattle.sid_core.specs.declared.setup.FileInfo.{FileInfo}
use Rattle.record_codec.specs.declared.range_rec.RangeItem.{RangeItem}
use Rattle.record_codec.specs.declared.share_rec.ShareEntry.{ShareEntry}
use Rattle.record_codec.specs.Counts.{Records}
use Rattle.smbstatus_text.specs.Rows.{open_of, item_row}

abbrev pub id_cmp : ℕ × ℕ → ℕ × ℕ → Ordering
id_cmp a b = ordering_then (nat_cmp a.0 b.0) (nat_cmp a.1 b.1)

abbrev pub key_of : OpenId → ℕ × ℕ
key_of id = (id.pid, id.call)

-- the first entry of each id that counts
abbrev pub FindsOpens : Records → ℕ → BTreeMap (ℕ × ℕ) ShareEntry → List ShareEntry → Type 0
FindsOpens records file map entries = (id : OpenId) → get id_cmp map (key_of id) ≡ open_of records file entries id

-- the row of a range whose open the map has
unfoldable pub found_range_row : FileInfo → Records → ℕ → BTreeMap (ℕ × ℕ) ShareEntry → RangeItem → List ℕ
found_range_row info records file map r = option_map_or (item_row info records file r) (get id_cmp map (key_of r.id)) []
