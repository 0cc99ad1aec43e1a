-- Whom changes wake: those who wait on a spot that they free.
use Rattle.std.specs.Prelude.{ℕ, Bool, false, ◌==◌, ◌&&◌, ◌||◌, not, List, [], ◌∷◌}
use Rattle.std.specs.List.{list_any, flat_map}
use Rattle.sid_core.specs.declared.call.Mode.TheVariants.{Shared, Exclusive}
use Rattle.sid_core.specs.declared.ids.Spot.{Spot}
use Rattle.sid_core.specs.declared.ids.Spot.TheVariants.{OpenOf, RangesOf, LockOf}
use Rattle.sid_core.specs.declared.entry.Letter.TheVariants.{Wake}
use Rattle.sid_core.specs.declared.entry.Post.{Post}
use Rattle.sid_core.specs.Ids.{same_id}
use Rattle.serial_table.specs.declared.rows.Watch.{Watch}
use Rattle.serial_table.specs.declared.change.Change.{Change}
use Rattle.serial_table.specs.declared.change.Change.TheVariants as c
use Rattle.serial_table.specs.View.{View, has_id}
use Rattle.serial_table.specs.File.{FileView, file_view}
use Rattle.serial_table.specs.Settle.{keeps_open, keeps_range}
use Rattle.serial_table.specs.Change.{perform_by_key, same_range, same_mode, is_hold}

-- it removes an open of the file, or accepts an acknowledgement on a lease of it
abbrev pub frees_opens : Change → ℕ → FileView → Bool
frees_opens (c.DropOpen file id) of f = (file == of) && list_any (λ o. has_id id o.row) f.opens
frees_opens (c.Acknowledge file name state) of f = file == of
frees_opens c.Settle of f = list_any (λ o. not (keeps_open f o)) f.opens
frees_opens _ of f = false

-- it removes a range of the file, alone or with its open
abbrev pub frees_ranges : Change → ℕ → FileView → Bool
frees_ranges (c.DropOpen file id) of f = (file == of) && list_any (λ range. same_id range.id id) f.ranges
frees_ranges (c.DropRange range) of f = list_any (same_range range) f.ranges
frees_ranges c.Settle of f = list_any (λ range. not (keeps_range f range)) f.ranges
frees_ranges _ of f = false

-- it removes or lowers a hold of the lock
abbrev pub frees_lock : Change → ℕ → View → Bool
frees_lock (c.DropHold key owner) of v = (key == of) && list_any (is_hold key owner) (v.holds_of of)
frees_lock (c.SetHold key owner Shared) of v = (key == of) && list_any (λ hold. is_hold key owner hold && same_mode hold.mode Exclusive) (v.holds_of of)
frees_lock _ of v = false

abbrev pub frees : Change → Spot → View → Bool
frees change (OpenOf file) v = frees_opens change file (file_view file v)
frees change (RangesOf file) v = frees_ranges change file (file_view file v)
frees change (LockOf key) v = frees_lock change key v

-- one of the changes, made one after another, frees the spot
abbrev pub some_frees : List Change → View → Spot → Bool
some_frees [] v spot = false
some_frees (c ∷ cs) v spot = frees c spot v || some_frees cs (perform_by_key c v) spot

-- ---- who is woken

-- each waiter gets one letter, with the number of its call
abbrev pub wake : Watch → Post
wake watch = record { to = watch.sid; letter = Wake watch.call }

-- all who wait on these spots, one spot after another
abbrev pub waiting_on : View → List Spot → List Watch
waiting_on v spots = flat_map (λ spot. v.watches_on spot) spots
