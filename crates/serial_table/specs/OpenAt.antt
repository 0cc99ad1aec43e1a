-- For the code: the opens in the way of an `open` by their rows, its steps at a file as its breaks have left it and at one without
-- leases, and the lease of a grant as plain data.
use Rattle.std.specs.Prelude.{Bool, true, false, ◌&&◌, ◌||◌, not, List, [], ◌∷◌, Option, Some, None, if◌then◌else◌}
use Rattle.std.specs.List.{list_any}
use Rattle.std.specs.Option.{option_map_or}
use Rattle.sid_core.specs.declared.ids.Sid.{Sid}
use Rattle.sid_core.specs.declared.reply.Reply.TheVariants.{SharingViolation}
use Rattle.serial_table.specs.declared.rows.OpenRow.{OpenRow}
use Rattle.serial_table.specs.declared.change.Change.{Change}
use Rattle.serial_table.specs.declared.decision.Caller.{Caller}
use Rattle.serial_table.specs.declared.decision.Decision.{Decision}
use Rattle.serial_table.specs.declared.grant.LeaseGrant as code
use Rattle.serial_table.specs.View.{carries}
use Rattle.serial_table.specs.File.{FileView}
use Rattle.serial_table.specs.Local.{perform_all_in_file}
use Rattle.serial_table.specs.Decision.{only_reply}
use Rattle.serial_table.specs.Break.{Breaks, no_break, both}
use Rattle.serial_table.specs.Share.{share_conflict}
use Rattle.serial_table.specs.Asked.{Asked, is_stat, conflicts, holds_handle, is_asked_and_connected}
use Rattle.serial_table.specs.Grant.{LeaseGrant, grant}
use Rattle.serial_table.specs.Open.{other_breaks, wait_for_open}

abbrev pub row_conflicts : Asked → OpenRow → Bool
row_conflicts asked row = share_conflict asked.access.0 asked.share.0 row.access.0 row.share.0

abbrev pub row_refuses : FileView → Asked → OpenRow → Bool
row_refuses f asked row = option_map_or (λ name. not (holds_handle f name) || is_asked_and_connected f asked name) row.lease true

abbrev pub row_is_beside : Asked → OpenRow → Bool
row_is_beside asked row = not (is_stat row.access) && not (option_map_or (λ name. carries name row.lease) asked.lease false)

abbrev pub change_if_any : Option Change → List Change
change_if_any None = []
change_if_any (Some change) = change ∷ []

abbrev pub grant_of : code.LeaseGrant → LeaseGrant
grant_of lease = record { changes = change_if_any lease.change; held = lease.held.0; breaks = lease.breaks }

-- all breaks are made
abbrev pub wait_or_grant_at : FileView → Caller → Asked → Breaks → Option Sid → Decision
wait_or_grant_at left caller asked done (Some blocker) = wait_for_open caller asked done blocker
wait_or_grant_at left caller asked done None = grant left caller asked done

-- the other breaks are left
abbrev pub go_further : FileView → Caller → Asked → Breaks → Decision
go_further left caller asked done =
    wait_or_grant_at (perform_all_in_file (other_breaks left asked).changes left) caller asked (both done (other_breaks left asked)) (both done (other_breaks left asked)).blocker

-- a file of which there is no lease: an open that conflicts refuses, and there is nothing to break
abbrev pub open_unleased : FileView → Caller → Asked → Decision
open_unleased f caller asked = if list_any (conflicts asked) f.opens then only_reply SharingViolation else grant f caller asked no_break
