-- For the code: what it looks for in a record. The rules of ranges look at nothing of an open but its id, and not at a range's file.
use Rattle.std.specs.Prelude.{Bool, false, ◌&&◌, List, None}
use Rattle.std.specs.List.{list_any}
use Rattle.sid_core.specs.declared.ids.OpenId.{OpenId}
use Rattle.sid_core.specs.declared.call.Span.{Span}
use Rattle.sid_core.specs.declared.call.Mode.{Mode}
use Rattle.sid_core.specs.Ids.{same_id}
use Rattle.serial_table.specs.declared.rows.OpenRow.{OpenRow}
use Rattle.serial_table.specs.Range.{range_conflict}
use Rattle.record_codec.specs.declared.range_rec.RangeItem.{RangeItem}
use Rattle.record_rows.specs.Rows.{range_row}
use Rattle.brlock.specs.Answer.{forbids}

-- some open of this id
abbrev pub open_with : OpenId → OpenRow
open_with id = record {
  id = id;
  owner = record { pid = 0; session = 0 };
  handle = 0;
  file = 0;
  access = record { 0 = 0 };
  share = record { 0 = 0 };
  lease = None;
  durable = 0;
  opened = record { 0 = 0 };
  marked = false;
}

abbrev pub is_valid : List OpenId → OpenId → Bool
is_valid valid id = list_any (λ v. same_id v id) valid

abbrev pub conflicts : OpenId → Span → Mode → RangeItem → Bool
conflicts id span mode held = range_conflict (range_row 0 held) id span mode

-- a range that counts and conflicts
abbrev pub is_in_the_way : List OpenId → OpenId → Span → Mode → RangeItem → Bool
is_in_the_way valid id span mode held = is_valid valid held.id && conflicts id span mode held

abbrev pub item_forbids : OpenId → Span → Bool → RangeItem → Bool
item_forbids id span write held = forbids (open_with id) span write (range_row 0 held)

-- a range that counts and forbids the access
abbrev pub is_forbidding : List OpenId → OpenId → Span → Bool → RangeItem → Bool
is_forbidding valid id span write held = is_valid valid held.id && item_forbids id span write held
