-- What it means to break bits of a lease ([MS-SMB2] 3.3.4.7). That a break of R needs no acknowledgement is the standard's; that a
-- second break only adds to what is needed is this project's own.
use Rattle.std.specs.Prelude.{ℕ, Bool, true, false, ◌==◌, ◌+◌, ◌-◌, ◌^◌, ◌&&◌, not, List, [], ◌∷◌, ◌++◌, Option, Some, None, filter, map, min, bit_and, if◌then◌else◌}
use Rattle.std.specs.List.{list_any, filter_map}
use Rattle.std.specs.Option.{option_map_or}
use Rattle.sid_core.specs.declared.ids.Sid.{Sid}
use Rattle.sid_core.specs.declared.ids.LeaseName.{LeaseName}
use Rattle.sid_core.specs.declared.ids.Moment.{Moment}
use Rattle.sid_core.specs.declared.entry.Post.{Post}
use Rattle.sid_core.specs.declared.entry.Letter.TheVariants as letter
use Rattle.sid_core.specs.Ids.{same_name}
use Rattle.sid_core.specs.Values.{is_part_of}
use Rattle.sid_core.specs.Words.{lease_state}
use Rattle.serial_table.specs.declared.rows.OpenRow.{OpenRow}
use Rattle.serial_table.specs.declared.rows.LeaseRow.{LeaseRow}
use Rattle.serial_table.specs.declared.rows.Breaking.{Breaking}
use Rattle.serial_table.specs.declared.change.Change.{Change}
use Rattle.serial_table.specs.declared.change.Change.TheVariants.{SetLease, Settle}
use Rattle.serial_table.specs.File.{FileView, FileOpen, is_under}
use Rattle.serial_table.specs.Local.{perform_all_in_file}

-- what breaks change and post, and the session that they wait for
pub record Breaks : Type 0 where
  pub changes : List Change
  pub posts : List Post
  pub blocker : Option Sid

abbrev pub no_break : Breaks
no_break = record { changes = []; posts = []; blocker = None }

-- ---- the bits that stay: READ is 1, HANDLE 2 and WRITE 4

abbrev pub all_but_handle : ℕ
all_but_handle = 5

abbrev pub all_but_write : ℕ
all_but_write = 3

abbrev pub none_of_them : ℕ
none_of_them = 0

-- ---- a lease

abbrev pub sets_lease : ℕ → LeaseRow → ℕ → Option Breaking → Change
sets_lease file lease held breaking = SetLease file lease.name (lease_state held) breaking

-- from what it holds to the target
abbrev pub break_post : ℕ → Sid → LeaseRow → ℕ → Bool → Post
break_post file to lease target ack = record { to = to; letter = letter.Break file lease.name.key lease.held (lease_state target) ack }

-- how many seconds after a break it counts as acknowledged
abbrev pub break_seconds : ℕ
break_seconds = 35

-- The moment at which a break that is made now counts as acknowledged. A moment has 64 bits.
abbrev pub until_of : Moment → Moment
until_of now = record { 0 = min (now.0 + break_seconds) (2 ^ 64 - 1) }

-- a break that is asked for, and of which all is needed
abbrev pub new_breaking : Moment → ℕ → Breaking
new_breaking now target = record { asked = lease_state target; needed = lease_state target; until = until_of now }

-- None of its opens is connected: nobody is told, it holds the target, and the table settles.
abbrev pub breaks_at_once : ℕ → LeaseRow → ℕ → Breaks
breaks_at_once file lease target = record no_break { changes = sets_lease file lease target None ∷ Settle ∷ [] }

-- It holds R: it then holds nothing, without an acknowledgement.
abbrev pub breaks_read : ℕ → Sid → LeaseRow → ℕ → Breaks
breaks_read file to lease target = record no_break {
  changes = sets_lease file lease target None ∷ [];
  posts = break_post file to lease target false ∷ [];
}

-- It holds what it held until the break is acknowledged, and blocks.
abbrev pub begins_to_break : Moment → ℕ → Sid → LeaseRow → ℕ → Breaks
begins_to_break now file to lease target = record {
  changes = sets_lease file lease lease.held.0 (Some (new_breaking now target)) ∷ [];
  posts = break_post file to lease target true ∷ [];
  blocker = Some to;
}

-- The letter goes to the owner of its first connected open.
abbrev pub breaks_to : Moment → ℕ → List OpenRow → LeaseRow → ℕ → Breaks
breaks_to now file [] lease target = breaks_at_once file lease target
breaks_to now file (first ∷ others) lease target =
    if lease.held.0 == 1 then breaks_read file first.owner lease target else begins_to_break now file first.owner lease target

abbrev pub first_owner : List OpenRow → Option Sid
first_owner [] = None
first_owner (first ∷ others) = Some first.owner

-- It is breaking already: less is needed, and nobody is told. It blocks where it holds a bit that has to go.
abbrev pub breaks_further : ℕ → List OpenRow → LeaseRow → Breaking → ℕ → Breaks
breaks_further file connected lease breaking kept = record no_break {
  changes = sets_lease file lease lease.held.0 (Some (record breaking { needed = lease_state (bit_and breaking.needed.0 kept) })) ∷ [];
  blocker = if is_part_of lease.held.0 kept then None else first_owner connected;
}

abbrev pub break_by : Moment → ℕ → List OpenRow → ℕ → LeaseRow → Option Breaking → Breaks
break_by now file connected kept lease (Some breaking) = breaks_further file connected lease breaking kept
break_by now file connected kept lease None =
    if is_part_of lease.held.0 kept then no_break else breaks_to now file connected lease (bit_and lease.held.0 kept)

-- the connected opens of a lease, in order
abbrev pub connected_under : FileView → LeaseName → List OpenRow
connected_under f name = map (λ o. o.row) (filter (λ o. is_under name o && o.connected) f.opens)

-- all bits but those kept are broken
unfoldable pub break_lease : Moment → ℕ → FileView → ℕ → LeaseRow → Breaks
break_lease now file f kept lease = break_by now file (connected_under f lease.name) kept lease lease.breaking

-- ---- leases, one after another

-- the lease of a name, if it is there
abbrev pub break_first : Moment → ℕ → FileView → ℕ → List LeaseRow → Breaks
break_first now file f kept [] = no_break
break_first now file f kept (lease ∷ others) = break_lease now file f kept lease

abbrev pub first_of : Option Sid → Option Sid → Option Sid
first_of (Some sid) other = Some sid
first_of None other = other

-- the one and then the other; the first that blocks is waited for
abbrev pub both : Breaks → Breaks → Breaks
both a b = record { changes = a.changes ++ b.changes; posts = a.posts ++ b.posts; blocker = first_of a.blocker b.blocker }

-- Each lease is broken at what the breaks before it left. One that blocks doesn't keep the others from breaking.
unfoldable pub break_each : Moment → ℕ → FileView → ℕ → List LeaseName → Breaks
break_each now file f kept [] = no_break
break_each now file f kept (name ∷ names) =
    both (break_first now file f kept (f.leases name)) (break_each now file (perform_all_in_file (break_first now file f kept (f.leases name)).changes f) kept names)

-- ---- which leases

-- each name where it stands first, without those met before
abbrev pub each_once : List LeaseName → List LeaseName → List LeaseName
each_once met [] = []
each_once met (name ∷ names) = if list_any (same_name name) met then each_once met names else name ∷ each_once (name ∷ met) names

-- the leases of a list of opens, by the first open in it
abbrev pub names_of : List FileOpen → List LeaseName
names_of opens = each_once [] (filter_map (λ o. o.row.lease) opens)

-- all bits but those kept are broken of each lease of the file other than this one
abbrev pub break_others : Moment → ℕ → FileView → ℕ → Option LeaseName → Breaks
break_others now file f kept own = break_each now file f kept (filter (λ name. not (option_map_or (same_name name) own false)) (names_of f.opens))
