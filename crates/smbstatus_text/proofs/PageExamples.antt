-- Worked examples: what the records of a file show, its rows, and a page of two files. Pid 101 lives in its session 2, and pid 102 has died.
use Rattle.std.specs.Prelude.{◌≡◌, true, false, ◌==◌, [], ◌∷◌, Some, None, if◌then◌else◌, codes, refl}
use Rattle.std.specs.Fmt.{digits}
use Rattle.sid_core.specs.declared.call.Mode.TheVariants.{Shared, Exclusive}
use Rattle.sid_core.specs.declared.setup.FileInfo.{FileInfo}
use Rattle.sid_core.specs.declared.setup.Setup.{Setup}
use Rattle.serial_table.specs.declared.rows.LeaseRow.{LeaseRow}
use Rattle.serial_table.specs.File.{FileView}
use Rattle.serial_table.specs.Tables.{file_rows, range_rows}
use Rattle.serial_table.proofs.Samples as samples
use Rattle.serial_table.proofs.SampleCalls.{printed}
use Rattle.record_codec.specs.declared.share_rec.ShareRec.{ShareRec}
use Rattle.record_codec.specs.declared.range_rec.RangeRec.{RangeRec}
use Rattle.record_codec.specs.Counts.{Records}
use Rattle.record_rows.specs.Rows.{open_row, range_row}
use Rattle.share_modes.proofs.EntryExamples.{id_of, seven, eight, open_of, ref_of, lease_of, broken, with_lease}
use Rattle.smbstatus_text.specs.Shown.{lease_of_file, ShowsOpens, ShowsRanges}
use Rattle.smbstatus_text.specs.Pages.{told}

abbrev setup : Setup
setup = record samples.setup {
  workers =
      record (samples.worker_info 101 1 (codes "hostA")) { uid = 7 } ∷ record (samples.worker_info 102 2 (codes "hostB")) { uid = 8 } ∷ [];
}

abbrev first_file : FileInfo
first_file = record { dev = 1; inode = 11; path = codes "/srv/data"; name = codes "a.txt" }

-- ---- leases

-- of this file, with a reference
own_lease_is_shown : lease_of_file (with_lease (lease_of 1 3 (ref_of 102 1 3 60 ∷ []))) 1 seven
    ≡ record { name = seven; file = 1; held = record { 0 = 3 }; breaking = None } ∷ []
own_lease_is_shown = refl

-- of another file, without a reference, and without a record
other_lease_isnt_shown : lease_of_file (with_lease (lease_of 2 3 (ref_of 102 1 3 60 ∷ []))) 1 seven ≡ []
other_lease_isnt_shown = refl

settled_lease_isnt_shown : lease_of_file (with_lease (lease_of 1 3 [])) 1 seven ≡ []
settled_lease_isnt_shown = refl

unknown_lease_isnt_shown : lease_of_file (with_lease (lease_of 1 3 (ref_of 102 1 3 60 ∷ []))) 1 eight ≡ []
unknown_lease_isnt_shown = refl

-- ---- opens

-- a lease from RWH to RW, of an open of a living session and a durable one of the dead
abbrev records : Records
records = with_lease (broken (ref_of 101 2 6 0 ∷ ref_of 102 1 3 60 ∷ []))

-- an open of the dead, two of the living, of which the second has the lease, and the durable one
abbrev rec : ShareRec
rec = record {
  file = 1;
  path = codes "/srv/data";
  name = codes "a.txt";
  pending = false;
  entries = open_of 102 1 1 None 0 ∷ open_of 101 2 5 None 0 ∷ open_of 101 2 6 (Some seven) 0 ∷ open_of 102 1 3 (Some seven) 60 ∷ [];
  watchers = [];
}

abbrev breaking : LeaseRow
breaking = record {
  name = seven;
  file = 1;
  held = record { 0 = 7 };
  breaking = Some (record { asked = record { 0 = 5 }; needed = record { 0 = 5 }; until = record { 0 = 135 } });
}

abbrev shown_file : FileView
shown_file = record {
  opens =
      record { row = open_row 1 (open_of 101 2 5 None 0); connected = true } ∷ record { row = open_row 1 (open_of 101 2 6 (Some seven) 0); connected = true }
      ∷ record { row = open_row 1 (open_of 102 1 3 (Some seven) 60); connected = false } ∷ [];
  leases = λ name. if name.key == 7 then breaking ∷ [] else [];
  ranges = range_row 1 (record { id = id_of 102 3; start = 0; length = 10; mode = Exclusive }) ∷ [];
  open_watches = [];
  range_watches = [];
  pending = false;
}

opens_are_shown : ShowsOpens records rec shown_file
opens_are_shown = record { opens_are = refl; leases_are = (tt, (refl, (refl, tt))) }

rows_of_opens : file_rows setup first_file shown_file ≡ printed (
    codes "101    7      DENY_ALL   0x3       RDWR   NONE  /srv/data    a.txt        4"
    ∷ codes "101    7      DENY_ALL   0x3       RDWR   RWH*  /srv/data    a.txt        4"
    ∷ codes "-      8      DENY_ALL   0x3       RDWR   RWH*  /srv/data    a.txt        4" ∷ []
    )
unfolding digits
rows_of_opens = refl

-- ---- ranges

-- one of an open that doesn't count, and one of the durable open
abbrev ranges : RangeRec
ranges = record {
  file = 1;
  ranges = record { id = id_of 102 1; start = 5; length = 6; mode = Shared } ∷ record { id = id_of 102 3; start = 0; length = 10; mode = Exclusive } ∷ [];
  watchers = [];
}

ranges_are_shown : ShowsRanges records ranges rec shown_file
ranges_are_shown = record { opens_are = refl; ranges_are = refl }

rows_of_ranges : range_rows first_file shown_file ≡ printed (codes "-      x    0                    10                   a.txt" ∷ [])
unfolding digits
rows_of_ranges = refl

-- ---- which file

first_is_told : told (file_rows setup) setup.files 1 shown_file ≡ file_rows setup first_file shown_file
first_is_told = refl

none_before : told (file_rows setup) setup.files 0 shown_file ≡ []
none_before = refl

none_behind : told (file_rows setup) setup.files 3 shown_file ≡ []
none_behind = refl
