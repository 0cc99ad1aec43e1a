-- For the code: a file's opens and leases on lists of their own, at which its leases are broken one after another.
use Rattle.std.specs.Prelude.{ℕ, Bool, false, ◌&&◌, List, [], filter, find, Option}
use Rattle.std.specs.Option.{option_map, option_map_or}
use Rattle.sid_core.specs.declared.ids.Sid.{Sid}
use Rattle.sid_core.specs.declared.ids.LeaseName.{LeaseName}
use Rattle.sid_core.specs.declared.ids.Moment.{Moment}
use Rattle.sid_core.specs.Ids.{same_name}
use Rattle.serial_table.specs.declared.rows.OpenRow.{OpenRow}
use Rattle.serial_table.specs.declared.rows.LeaseRow.{LeaseRow}
use Rattle.serial_table.specs.declared.rows.WorkerRow.{WorkerRow}
use Rattle.serial_table.specs.declared.table.Table.{Table}
use Rattle.serial_table.specs.declared.lists.Lists.{Lists}
use Rattle.serial_table.specs.declared.breaks.Breaks as code
use Rattle.serial_table.specs.View.{view, is_of_file, has_name, carries}
use Rattle.serial_table.specs.File.{FileView, file_view}
use Rattle.serial_table.specs.Break.{Breaks, break_first}
use Rattle.serial_table.specs.InPlace.{table_of, lives_by, is_lease_of}

-- the file's opens and leases, and all workers
abbrev pub alone : ℕ → Table → Table
alone file t = record {
  opens = filter (is_of_file file) t.opens;
  leases = filter (is_lease_of file) t.leases;
  ranges = [];
  holds = [];
  waiters = [];
  letters = [];
  workers = t.workers;
  ended = [];
  pending = [];
}

-- what they show of the file: all but its ranges, who waits, and whether it is to go
abbrev pub opens_and_leases : FileView → FileView
opens_and_leases f = record f { ranges = []; open_watches = []; range_watches = []; pending = false }

abbrev pub shown : ℕ → Lists → FileView
shown file rows = file_view file (view (table_of rows))

abbrev pub breaks_of : code.Breaks → Breaks
breaks_of b = record { changes = b.changes.items; posts = b.posts.items; blocker = b.blocker }

-- an open of the file, of these workers, that is connected under the lease
abbrev pub is_connected_under : List WorkerRow → ℕ → LeaseName → OpenRow → Bool
is_connected_under workers file name o = is_of_file file o && (carries name o.lease && lives_by workers o.owner)

-- the owner of the first of them
abbrev pub owner_under : List OpenRow → List WorkerRow → ℕ → LeaseName → Option Sid
owner_under opens workers file name = option_map (λ o. o.owner) (find (is_connected_under workers file name) opens)

abbrev pub is_lease_named : ℕ → LeaseName → LeaseRow → Bool
is_lease_named file name lease = has_name name lease && is_lease_of file lease

-- the name is this one
abbrev pub is_own : Option LeaseName → LeaseName → Bool
is_own own name = option_map_or (same_name name) own false

-- the break of the file's first lease of a name, if there is one
unfoldable pub break_named : Moment → ℕ → FileView → ℕ → LeaseName → Breaks
break_named now file f kept name = break_first now file f kept (f.leases name)
