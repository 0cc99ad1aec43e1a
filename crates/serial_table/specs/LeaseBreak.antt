-- For the code: what breaking one lease comes to, as plain data.
use Rattle.std.specs.Prelude.{ℕ, Bool, true, false, ◌==◌, List, [], ◌∷◌, Option, Some, None, bit_and, if◌then◌else◌}
use Rattle.sid_core.specs.declared.ids.Sid.{Sid}
use Rattle.sid_core.specs.declared.ids.Moment.{Moment}
use Rattle.sid_core.specs.declared.entry.Post.{Post}
use Rattle.sid_core.specs.Values.{is_part_of}
use Rattle.sid_core.specs.Words.{lease_state}
use Rattle.serial_table.specs.declared.rows.LeaseRow.{LeaseRow}
use Rattle.serial_table.specs.declared.rows.Breaking.{Breaking}
use Rattle.serial_table.specs.declared.change.Change.{Change}
use Rattle.serial_table.specs.declared.change.Change.TheVariants.{SetLease, Settle}
use Rattle.serial_table.specs.declared.lease_break.LeaseBreak.{LeaseBreak}
use Rattle.serial_table.specs.Break.{Breaks, no_break, sets_lease, breaks_at_once, breaks_read, begins_to_break}

abbrev pub settles : Bool → List Change
settles true = Settle ∷ []
settles false = []

abbrev pub letters : Option Post → List Post
letters None = []
letters (Some post) = post ∷ []

-- the breaks of one lease
abbrev pub breaks_by : ℕ → LeaseRow → LeaseBreak → Breaks
breaks_by file lease b = record { changes = SetLease file lease.name b.held b.breaking ∷ settles b.settles; posts = letters b.post; blocker = b.blocker }

abbrev pub breaks_if_any : ℕ → LeaseRow → Option LeaseBreak → Breaks
breaks_if_any file lease None = no_break
breaks_if_any file lease (Some b) = breaks_by file lease b

-- ---- the breaks of a lease by the owner of its first connected open

abbrev pub breaks_of_owner : Moment → ℕ → Option Sid → LeaseRow → ℕ → Breaks
breaks_of_owner now file None lease target = breaks_at_once file lease target
breaks_of_owner now file (Some to) lease target = if lease.held.0 == 1 then breaks_read file to lease target else begins_to_break now file to lease target

abbrev pub breaks_further_by : ℕ → Option Sid → LeaseRow → Breaking → ℕ → Breaks
breaks_further_by file to lease breaking kept = record no_break {
  changes = sets_lease file lease lease.held.0 (Some (record breaking { needed = lease_state (bit_and breaking.needed.0 kept) })) ∷ [];
  blocker = if is_part_of lease.held.0 kept then None else to;
}

abbrev pub break_by_owner : Moment → ℕ → Option Sid → ℕ → LeaseRow → Option Breaking → Breaks
break_by_owner now file to kept lease (Some breaking) = breaks_further_by file to lease breaking kept
break_by_owner now file to kept lease None =
    if is_part_of lease.held.0 kept then no_break else breaks_of_owner now file to lease (bit_and lease.held.0 kept)
