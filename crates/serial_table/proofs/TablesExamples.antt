-- Worked examples: the tables of smbstatus. Worker 101 lives in session 1 since moment 0 and 102 in session 3 since moment 40; 103 is dead.
use Rattle.std.specs.Prelude.{◌≡◌, Bool, true, false, [], ◌∷◌, ◌++◌, codes, map, refl}
use Rattle.std.specs.Fmt.{digits}
use Rattle.sid_core.specs.declared.call.Tables.{Tables}
use Rattle.sid_core.specs.declared.setup.Setup.{Setup}
use Rattle.serial_table.specs.declared.rows.OpenRow.{OpenRow}
use Rattle.serial_table.specs.declared.table.Table.{Table}
use Rattle.serial_table.specs.View.{view}
use Rattle.serial_table.specs.History.{start}
use Rattle.serial_table.specs.Tables.{tables, column, deny_text, mode_text, access_text}
use Rattle.serial_table.proofs.Samples.{setup, worker_info, id, sid, name, nothing_open, worker_103, plain, leased, durable, lease, breaks, range, shared_range}
use Rattle.serial_table.proofs.SampleCalls.{printed}

abbrev chosen : Bool → Bool → Bool → Tables
chosen shares files ranges = record { shares = shares; files = files; ranges = ranges }

-- ---- which tables

abbrev only_one : Setup
only_one = record { workers = worker_info 101 1 (codes "hostA") ∷ []; files = setup.files }

-- Shares and files, where one worker is connected and nothing is open.
nothing_is_open : tables only_one (view (start only_one)) (chosen true true false) ≡ printed (
    codes "Service      Pid    Machine      Connected" ∷ codes "------------------------------------------" ∷ codes "data         101    hostA        0" ∷ []
    ∷ codes "No locked files" ∷ [] ∷ []
    )
unfolding tables digits
nothing_is_open = refl

only_files : tables only_one (view (start only_one)) (chosen false true false) ≡ printed (codes "No locked files" ∷ [] ∷ [])
unfolding tables
only_files = refl

files_and_ranges : tables only_one (view (start only_one)) (chosen false true true) ≡ printed (codes "No locked files" ∷ [] ∷ codes "No byte range locks" ∷ [] ∷ [])
unfolding tables
files_and_ranges = refl

no_table : tables only_one (view (start only_one)) (chosen false false false) ≡ []
unfolding tables
no_table = refl

-- ---- shares

-- Who is dead isn't shown. Each moment is that at which the current session was connected.
living_workers : tables setup (view nothing_open) (chosen true false false) ≡ printed (
    codes "Service      Pid    Machine      Connected" ∷ codes "------------------------------------------" ∷ codes "data         101    hostA        0"
    ∷ codes "data         102    hostB        40" ∷ [] ∷ []
    )
unfolding tables digits
living_workers = refl

-- Where all are dead the head stands alone.
nobody_lives : tables (record { workers = worker_info 103 3 (codes "hostC") ∷ []; files = [] }) (view (record nothing_open { workers = worker_103 ∷ [] })) (chosen true false false) ≡ printed (
    codes "Service      Pid    Machine      Connected" ∷ codes "------------------------------------------" ∷ [] ∷ []
    )
unfolding tables
nobody_lives = refl

-- ---- files

-- made by worker 102, and taken over by 103, which is dead
abbrev lost : OpenRow
lost = record (durable (leased (name 2 8) (plain 102 2 5 1))) { owner = sid 103 2 }

abbrev opened : Table
opened = record nothing_open {
  opens =
      record (plain 102 3 4 2) { access = record { 0 = 0x1F01FF }; share = record { 0 = 0 } } ∷ leased (name 1 7) (plain 101 1 4 1)
      ∷ lost ∷ record (plain 102 3 6 1) { access = record { 0 = 0x80 }; share = record { 0 = 5 } } ∷ [];
  leases = breaks 3 3 (lease (name 1 7) 1 7) ∷ lease (name 2 8) 1 3 ∷ [];
  ranges = range (id 102 4) 2 100 ∷ shared_range (id 102 5) 1 20 ∷ range (id 101 4) 1 0 ∷ [];
}

abbrev several : Setup
several = record setup {
  workers =
      record (worker_info 101 1 (codes "hostA")) { uid = 7 } ∷ record (worker_info 102 2 (codes "hostB")) { uid = 4294967295 }
      ∷ record (worker_info 103 3 (codes "hostC")) { uid = 9 } ∷ [];
}

-- By file, then in the order of the opens. A disconnected open has no pid, and the uid of its owner's worker. What is too long isn't cut.
open_files : tables several (view opened) (chosen false true false) ≡ printed (
    codes "Locked files:" ∷ codes "Pid    User   DenyMode   Access    R/W    Lease Path         Name         Time"
    ∷ codes "------------------------------------------------------------------------------"
    ∷ codes "101    7      DENY_NONE  0x3       RDWR   RWH*  /srv/data    a.txt        5"
    ∷ codes "-      9      DENY_NONE  0x3       RDWR   RH    /srv/data    a.txt        5"
    ∷ codes "102    4294967295 DENY_WRITE 0x80      RDONLY NONE  /srv/data    a.txt        5"
    ∷ codes "102    4294967295 DENY_ALL   0x1f01ff  RDWR   NONE  /srv/data    b.txt        5" ∷ [] ∷ []
    )
unfolding tables digits
open_files = refl

-- What an open denies, by what it shares: none, reading, writing, both, and the same with deleting.
denied : map deny_text (record { 0 = 0 } ∷ record { 0 = 1 } ∷ record { 0 = 2 } ∷ record { 0 = 3 } ∷ record { 0 = 4 } ∷ record { 0 = 5 } ∷ record { 0 = 6 } ∷ record { 0 = 7 } ∷ [])
    ≡ codes "DENY_ALL" ∷ codes "DENY_WRITE" ∷ codes "DENY_READ" ∷ codes "DENY_NONE" ∷ codes "DENY_ALL" ∷ codes "DENY_WRITE" ∷ codes "DENY_READ" ∷ codes "DENY_NONE" ∷ []
denied = refl

-- To append alone counts as reading.
read_or_write : map mode_text (record { 0 = 0x1 } ∷ record { 0 = 0x2 } ∷ record { 0 = 0x3 } ∷ record { 0 = 0x4 } ∷ record { 0 = 0x6 } ∷ record { 0 = 0x1F01FD } ∷ [])
    ≡ codes "RDONLY" ∷ codes "WRONLY" ∷ codes "RDWR" ∷ codes "RDONLY" ∷ codes "WRONLY" ∷ codes "RDONLY" ∷ []
read_or_write = refl

access_in_hexadecimal : map access_text (record { 0 = 0x1F01FF } ∷ record { 0 = 0x80 } ∷ []) ≡ codes "0x1f01ff" ∷ codes "0x80" ∷ []
unfolding digits
access_in_hexadecimal = refl

-- Filled to the width and one space more, just as wide, and wider.
columns : column 4 (codes "ab") ++ (column 4 (codes "abcd") ++ column 4 (codes "abcdef")) ≡ codes "ab   abcd abcdef "
columns = refl

-- ---- ranges

-- By file, then in the order of granting. The pid is that of the range's open.
locked_ranges : tables several (view (record opened { opens = lost ∷ plain 102 3 4 2 ∷ leased (name 1 7) (plain 101 1 4 1) ∷ [] })) (chosen true true true) ≡ printed (
    codes "Service      Pid    Machine      Connected" ∷ codes "------------------------------------------" ∷ codes "data         101    hostA        0"
    ∷ codes "data         102    hostB        40" ∷ [] ∷ codes "Locked files:"
    ∷ codes "Pid    User   DenyMode   Access    R/W    Lease Path         Name         Time"
    ∷ codes "------------------------------------------------------------------------------"
    ∷ codes "-      9      DENY_NONE  0x3       RDWR   RH    /srv/data    a.txt        5"
    ∷ codes "101    7      DENY_NONE  0x3       RDWR   RWH*  /srv/data    a.txt        5"
    ∷ codes "102    4294967295 DENY_NONE  0x3       RDWR   NONE  /srv/data    b.txt        5" ∷ [] ∷ codes "Byte range locks:"
    ∷ codes "Pid    Kind Start                Length               Name" ∷ codes "----------------------------------------------------------"
    ∷ codes "-      s    20                   10                   a.txt" ∷ codes "101    x    0                    10                   a.txt"
    ∷ codes "102    x    100                  10                   b.txt" ∷ [] ∷ []
    )
unfolding tables digits
locked_ranges = refl
