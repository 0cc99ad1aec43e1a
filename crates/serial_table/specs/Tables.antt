-- The tables of smbstatus(1): who is connected, which files are open, and which byte ranges are locked. Heads, widths and the order of
-- rows are this project's own.
use Rattle.std.specs.Prelude.{ℕ, suc, ◌-◌, ◌==◌, Bool, true, false, List, [], ◌∷◌, ◌++◌, codes, length, replicate, is_some, if◌then◌else◌}
use Rattle.std.specs.List.{flat_map, find}
use Rattle.std.specs.Option.{option_map_or}
use Rattle.std.specs.Fmt.{decimal, digits}
use Rattle.sid_core.specs.declared.bits.Access.{Access}
use Rattle.sid_core.specs.declared.bits.Share.{Share}
use Rattle.sid_core.specs.declared.call.Tables.{Tables}
use Rattle.sid_core.specs.declared.setup.Setup.{Setup}
use Rattle.sid_core.specs.declared.setup.WorkerInfo.{WorkerInfo}
use Rattle.sid_core.specs.declared.setup.FileInfo.{FileInfo}
use Rattle.sid_core.specs.Values.{has}
use Rattle.sid_core.specs.Words.{state_text, lock_text}
use Rattle.serial_table.specs.declared.rows.WorkerRow.{WorkerRow}
use Rattle.serial_table.specs.declared.rows.OpenRow.{OpenRow}
use Rattle.serial_table.specs.declared.rows.LeaseRow.{LeaseRow}
use Rattle.serial_table.specs.declared.rows.RangeRow.{RangeRow}
use Rattle.serial_table.specs.View.{View, has_id}
use Rattle.serial_table.specs.File.{FileView, FileOpen, file_view}

-- ---- lines

-- at the left, filled with spaces to the width, and one space to the next column; a longer text isn't cut
abbrev pub column : ℕ → List ℕ → List ℕ
column width text = text ++ (replicate (width - length text) 32 ++ 32 ∷ [])

abbrev pub line : List ℕ → List ℕ
line text = text ++ 10 ∷ []

abbrev pub hyphens : ℕ → List ℕ
hyphens count = line (replicate count 45)

-- the line that says that there are none, or the title, the head and the rows; and an empty line
abbrev pub rows_or_none : List ℕ → List ℕ → List ℕ → List ℕ
rows_or_none none head [] = line none ++ 10 ∷ []
rows_or_none none head (byte ∷ bytes) = head ++ ((byte ∷ bytes) ++ 10 ∷ [])

-- ---- shares

abbrev pub shares_line : List ℕ → List ℕ → List ℕ → List ℕ → List ℕ
shares_line service pid machine connected = column 12 service ++ (column 6 pid ++ (column 12 machine ++ line connected))

abbrev pub shares_head : List ℕ
shares_head = shares_line (codes "Service") (codes "Pid") (codes "Machine") (codes "Connected") ++ hyphens 42

-- when its current session was connected
abbrev pub shares_row : WorkerInfo → WorkerRow → List ℕ
shares_row info row = if row.alive then shares_line info.share (decimal info.pid) info.machine (decimal row.connected.0) else []

-- the living workers, by their numbers
abbrev pub shares_table : Setup → View → List ℕ
shares_table setup v = shares_head ++ (flat_map (λ info. option_map_or (shares_row info) (v.worker_of info.pid) []) setup.workers ++ 10 ∷ [])

-- ---- files

abbrev pub files_line : List ℕ → List ℕ → List ℕ → List ℕ → List ℕ → List ℕ → List ℕ → List ℕ → List ℕ → List ℕ
files_line pid user deny access mode lease path name time =
    column 6 pid ++ (column 6 user ++ (column 10 deny ++ (column 9 access ++ (column 6 mode ++ (column 5 lease ++ (column 12 path ++ (column 12 name ++ line time)))))))

abbrev pub files_head : List ℕ
files_head =
    line (codes "Locked files:")
    ++ (files_line (codes "Pid") (codes "User") (codes "DenyMode") (codes "Access") (codes "R/W") (codes "Lease") (codes "Path") (codes "Name") (codes "Time") ++ hyphens 78)

-- the pid of an owner's session, where it lives
abbrev pub owner_text : Bool → ℕ → List ℕ
owner_text connected pid = if connected then decimal pid else codes "-"

abbrev pub pid_text : FileOpen → List ℕ
pid_text o = owner_text o.connected o.row.owner.pid

-- the uid of the present owner's worker
abbrev pub user_text : Setup → ℕ → List ℕ
user_text setup pid = option_map_or (λ (info : WorkerInfo). decimal info.uid) (find (λ (info : WorkerInfo). info.pid == pid) setup.workers) []

-- what the open denies others, by what it shares of reading and writing
abbrev pub deny_text : Share → List ℕ
deny_text share =
    if has share.0 1 then (if has share.0 2 then codes "DENY_NONE" else codes "DENY_WRITE")
    else (if has share.0 2 then codes "DENY_READ" else codes "DENY_ALL")

abbrev pub access_text : Access → List ℕ
access_text access = codes "0x" ++ digits 16 false access.0

-- by FILE_WRITE_DATA and FILE_READ_DATA, whatever else is there
abbrev pub mode_text : Access → List ℕ
mode_text access = if has access.0 0x2 then (if has access.0 0x1 then codes "RDWR" else codes "WRONLY") else codes "RDONLY"

-- a star where the lease is breaking
abbrev pub lease_column : List LeaseRow → List ℕ
lease_column [] = codes "NONE"
lease_column (lease ∷ others) = state_text lease.held.0 ++ (if is_some lease.breaking then codes "*" else [])

abbrev pub leases_of_open : FileView → FileOpen → List LeaseRow
leases_of_open f o = option_map_or (λ name. f.leases name) o.row.lease []

-- an open of the file, whether its owner is connected, and the text of its lease
abbrev pub open_row : Setup → FileInfo → Bool → OpenRow → List ℕ → List ℕ
open_row setup info connected row lease =
    files_line (owner_text connected row.owner.pid) (user_text setup row.owner.pid) (deny_text row.share) (access_text row.access) (mode_text row.access) lease
    info.path info.name (decimal row.opened.0)

abbrev pub files_row : Setup → FileInfo → FileView → FileOpen → List ℕ
files_row setup info f o = open_row setup info o.connected o.row (lease_column (leases_of_open f o))

abbrev pub file_rows : Setup → FileInfo → FileView → List ℕ
file_rows setup info f = flat_map (files_row setup info f) f.opens

-- what is told of each declared file, by its number from this one on
abbrev pub of_files : (FileInfo → FileView → List ℕ) → View → ℕ → List FileInfo → List ℕ
of_files rows v number [] = []
of_files rows v number (info ∷ infos) = rows info (file_view number v) ++ of_files rows v (suc number) infos

-- the table that has these rows
abbrev pub files_page : List ℕ → List ℕ
files_page rows = rows_or_none (codes "No locked files") files_head rows

-- by file, and then in the order of the opens
abbrev pub files_table : Setup → View → List ℕ
files_table setup v = files_page (of_files (file_rows setup) v 1 setup.files)

-- ---- ranges

abbrev pub ranges_line : List ℕ → List ℕ → List ℕ → List ℕ → List ℕ → List ℕ
ranges_line pid kind start length name = column 6 pid ++ (column 4 kind ++ (column 20 start ++ (column 20 length ++ line name)))

abbrev pub ranges_head : List ℕ
ranges_head =
    line (codes "Byte range locks:")
    ++ (ranges_line (codes "Pid") (codes "Kind") (codes "Start") (codes "Length") (codes "Name") ++ hyphens 58)

-- a range of the file, and the text of the pid
abbrev pub range_row : FileInfo → List ℕ → RangeRow → List ℕ
range_row info pid range = ranges_line pid (lock_text range.mode) (decimal range.span.start) (decimal range.span.length) info.name

-- the pid as of the range's open
abbrev pub ranges_row : FileInfo → FileView → RangeRow → List ℕ
ranges_row info f range = range_row info (option_map_or pid_text (find (λ o. has_id range.id o.row) f.opens) []) range

abbrev pub range_rows : FileInfo → FileView → List ℕ
range_rows info f = flat_map (ranges_row info f) f.ranges

-- the table that has these rows
abbrev pub ranges_page : List ℕ → List ℕ
ranges_page rows = rows_or_none (codes "No byte range locks") ranges_head rows

-- by file, and then in the order of granting
abbrev pub ranges_table : Setup → View → List ℕ
ranges_table setup v = ranges_page (of_files range_rows v 1 setup.files)

-- ---- those that are chosen, in this order

abbrev pub table_if : Bool → List ℕ → List ℕ
table_if true table = table
table_if false table = []

unfoldable pub tables : Setup → View → Tables → List ℕ
tables setup v chosen =
    table_if chosen.shares (shares_table setup v) ++ (table_if chosen.files (files_table setup v) ++ table_if chosen.ranges (ranges_table setup v))
