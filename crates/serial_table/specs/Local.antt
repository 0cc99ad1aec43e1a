-- What a change of one file does to what that file shows.
use Rattle.std.specs.Prelude.{ℕ, Bool, true, false, ◌==◌, ◌&&◌, List, [], ◌∷◌, ◌++◌, None, filter, map}
use Rattle.sid_core.specs.declared.ids.Sid.{Sid}
use Rattle.serial_table.specs.declared.rows.Watch.{Watch}
use Rattle.serial_table.specs.declared.change.Change.{Change}
use Rattle.serial_table.specs.declared.change.Change.TheVariants as c
use Rattle.serial_table.specs.View.{has_name}
use Rattle.serial_table.specs.File.{FileView}
use Rattle.serial_table.specs.Lists.{drop_first}
use Rattle.serial_table.specs.Settle.{settle_file}
use Rattle.serial_table.specs.Change.{is_other_open, is_other_range, is_other_wait, set_lease, same_range}

abbrev pub is_other_watch : Sid → ℕ → Watch → Bool
is_other_watch sid call watch = is_other_wait sid call watch.sid watch.call

-- that call waits no more, on neither spot of the file
abbrev pub without : Sid → ℕ → FileView → FileView
without sid call f = record f { open_watches = filter (is_other_watch sid call) f.open_watches; range_watches = filter (is_other_watch sid call) f.range_watches }

-- Changes that are of no file change nothing here.
abbrev pub perform_in_file : Change → FileView → FileView
perform_in_file (c.AddOpen open_row) f = record f { opens = f.opens ++ record { row = open_row; connected = true } ∷ [] }
perform_in_file (c.DropOpen file id) f = record f { opens = filter (λ o. is_other_open file id o.row) f.opens; ranges = filter (is_other_range file id) f.ranges }
perform_in_file (c.AddLease lease) f = record f { leases = λ name. f.leases name ++ filter (has_name name) (lease ∷ []) }
perform_in_file (c.SetLease file name held breaking) f = record f { leases = λ n. map (set_lease file name held breaking) (f.leases n) }
perform_in_file (c.Acknowledge file name state) f = record f { leases = λ n. map (set_lease file name state None) (f.leases n) }
perform_in_file (c.AddRange range) f = record f { ranges = f.ranges ++ range ∷ [] }
perform_in_file (c.DropRange range) f = record f { ranges = drop_first (same_range range) f.ranges }
perform_in_file (c.AddPending file) f = record f { pending = true }
perform_in_file (c.DropPending file) f = record f { pending = false }
perform_in_file (c.DropWaiter sid call) f = without sid call f
perform_in_file c.Settle f = settle_file f
perform_in_file _ f = f

abbrev pub perform_all_in_file : List Change → FileView → FileView
perform_all_in_file [] f = f
perform_all_in_file (c ∷ cs) f = perform_all_in_file cs (perform_in_file c f)

-- The change is of this file alone, and an open is added for an owner who lives: what a call of one file decides on.
abbrev pub is_in : (Sid → Bool) → ℕ → Change → Bool
is_in alive file (c.AddOpen open_row) = (open_row.file == file) && alive open_row.owner
is_in alive file (c.DropOpen g id) = g == file
is_in alive file (c.AddLease lease) = lease.file == file
is_in alive file (c.SetLease g name held breaking) = g == file
is_in alive file (c.Acknowledge g name state) = g == file
is_in alive file (c.AddRange range) = range.file == file
is_in alive file (c.DropRange range) = range.file == file
is_in alive file (c.AddPending g) = g == file
is_in alive file (c.DropPending g) = g == file
is_in alive file (c.DropWaiter sid call) = true
is_in alive file c.Settle = true
is_in alive file _ = false

abbrev pub all_in : (Sid → Bool) → ℕ → List Change → Bool
all_in alive file [] = true
all_in alive file (c ∷ cs) = is_in alive file c && all_in alive file cs

-- what a change of another file does to a file that is settled: a waiter goes wherever it waits
abbrev pub perform_beside : Change → FileView → FileView
perform_beside (c.DropWaiter sid call) f = without sid call f
perform_beside _ f = f

abbrev pub perform_all_beside : List Change → FileView → FileView
perform_all_beside [] f = f
perform_all_beside (c ∷ cs) f = perform_all_beside cs (perform_beside c f)
