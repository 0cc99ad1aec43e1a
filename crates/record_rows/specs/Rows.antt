-- Parts of records as rows of the table, and rows as parts of records.
use Rattle.std.specs.Prelude.{ℕ, Option, Some, None, if◌then◌else◌}
use Rattle.sid_core.specs.declared.ids.LeaseName.{LeaseName}
use Rattle.serial_table.specs.declared.rows.OpenRow.{OpenRow}
use Rattle.serial_table.specs.declared.rows.LeaseRow.{LeaseRow}
use Rattle.serial_table.specs.declared.rows.Breaking.{Breaking}
use Rattle.serial_table.specs.declared.rows.RangeRow.{RangeRow}
use Rattle.serial_table.specs.declared.rows.HoldRow.{HoldRow}
use Rattle.serial_table.specs.declared.rows.Watch.{Watch}
use Rattle.serial_table.specs.View.{Token}
use Rattle.record_codec.specs.declared.watch.WatchRec.{WatchRec}
use Rattle.record_codec.specs.declared.glock_rec.Hold.{Hold}
use Rattle.record_codec.specs.declared.share_rec.ShareEntry.{ShareEntry}
use Rattle.record_codec.specs.declared.lease_rec.LeaseRef.{LeaseRef}
use Rattle.record_codec.specs.declared.lease_rec.LeaseRec.{LeaseRec}
use Rattle.record_codec.specs.declared.range_rec.RangeItem.{RangeItem}
use Rattle.record_codec.specs.declared.mail_rec.Token as mail

-- ---- parts of records as rows

-- an entry of this file's share mode record
abbrev pub open_row : ℕ → ShareEntry → OpenRow
open_row file e = record {
  id = e.id;
  owner = e.owner;
  handle = e.handle;
  file = file;
  access = e.access;
  share = e.share;
  lease = e.lease;
  durable = e.durable;
  opened = record { 0 = e.opened };
  marked = e.marked;
}

abbrev pub breaking_of : LeaseRec → Option Breaking
breaking_of r = if r.breaking then Some (record { asked = r.asked; needed = r.needed; until = record { 0 = r.until } }) else None

abbrev pub lease_row : LeaseName → LeaseRec → LeaseRow
lease_row name r = record { name = name; file = r.file; held = r.held; breaking = breaking_of r }

-- a range of this file's record
abbrev pub range_row : ℕ → RangeItem → RangeRow
range_row file r = record { id = r.id; file = file; span = record { start = r.start; length = r.length }; mode = r.mode }

-- a hold of this lock's record
abbrev pub hold_row : ℕ → Hold → HoldRow
hold_row key h = record { owner = h.sid; key = key; mode = h.mode }

abbrev pub watch_row : WatchRec → Watch
watch_row w = record { sid = w.sid; call = w.call; upgrade = w.upgrade }

-- ---- rows as parts of records

abbrev pub entry_of : OpenRow → ShareEntry
entry_of o = record {
  id = o.id;
  owner = o.owner;
  handle = o.handle;
  access = o.access;
  share = o.share;
  lease = o.lease;
  durable = o.durable;
  opened = o.opened.0;
  marked = o.marked;
}

-- what the record of its lease has of an open
abbrev pub ref_of : OpenRow → LeaseRef
ref_of o = record { id = o.id; owner = o.owner; durable = o.durable }

abbrev pub item_of : RangeRow → RangeItem
item_of r = record { id = r.id; start = r.span.start; length = r.span.length; mode = r.mode }

abbrev pub hold_of : HoldRow → Hold
hold_of h = record { sid = h.owner; mode = h.mode }

abbrev pub watch_of : Watch → WatchRec
watch_of w = record { sid = w.sid; call = w.call; upgrade = w.upgrade }

abbrev pub token_of : Token → mail.Token
token_of t = record { spot = t.spot; call = t.call }
