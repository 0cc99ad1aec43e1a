-- What the table shows of one file. Settling and every call of one file go by this alone.
use Rattle.std.specs.Prelude.{ℕ, Bool, List, map}
use Rattle.sid_core.specs.declared.ids.Sid.{Sid}
use Rattle.sid_core.specs.declared.ids.LeaseName.{LeaseName}
use Rattle.sid_core.specs.declared.ids.Spot.TheVariants.{OpenOf, RangesOf}
use Rattle.serial_table.specs.declared.rows.OpenRow.{OpenRow}
use Rattle.serial_table.specs.declared.rows.LeaseRow.{LeaseRow}
use Rattle.serial_table.specs.declared.rows.RangeRow.{RangeRow}
use Rattle.serial_table.specs.declared.rows.Watch.{Watch}
use Rattle.serial_table.specs.View.{View, lives, leases_at, carries}

-- an open, and whether its owner's session lives
pub record FileOpen : Type 0 where
  pub row : OpenRow
  pub connected : Bool

pub record FileView : Type 0 where
  pub opens : List FileOpen
  pub leases : LeaseName → List LeaseRow
  pub ranges : List RangeRow
  pub open_watches : List Watch
  pub range_watches : List Watch
  pub pending : Bool

-- an open of a file, by who lives
abbrev pub file_open : (Sid → Bool) → OpenRow → FileOpen
file_open alive open_row = record { row = open_row; connected = alive open_row.owner }

abbrev pub file_view : ℕ → View → FileView
file_view file v = record {
  opens = map (file_open (lives v)) (v.opens_of file);
  leases = λ name. leases_at v name file;
  ranges = v.ranges_of file;
  open_watches = v.watches_on (OpenOf file);
  range_watches = v.watches_on (RangesOf file);
  pending = v.is_pending file;
}

-- it carries this lease
abbrev pub is_under : LeaseName → FileOpen → Bool
is_under name o = carries name o.row.lease
