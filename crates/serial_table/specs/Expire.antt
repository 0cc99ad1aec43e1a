-- Breaks that expire: a call first looks at some leases, and each of these whose break has lasted too long counts as acknowledged with
-- what was needed.
use Rattle.std.specs.Prelude.{ℕ, Bool, false, nat_le, List, [], ◌∷◌, ◌++◌, Option, Some, None, filter, map}
use Rattle.std.specs.List.{flat_map, filter_map}
use Rattle.std.specs.Option.{option_map_or}
use Rattle.sid_core.specs.declared.bits.LeaseState.{LeaseState}
use Rattle.sid_core.specs.declared.call.Call.{Call}
use Rattle.sid_core.specs.declared.call.Call.TheVariants as call
use Rattle.sid_core.specs.declared.call.LeaseAsk.{LeaseAsk}
use Rattle.sid_core.specs.declared.ids.LeaseName.{LeaseName}
use Rattle.sid_core.specs.declared.ids.Moment.{Moment}
use Rattle.sid_core.specs.declared.setup.Setup.{Setup}
use Rattle.serial_table.specs.declared.rows.OpenRow.{OpenRow}
use Rattle.serial_table.specs.declared.rows.LeaseRow.{LeaseRow}
use Rattle.serial_table.specs.declared.rows.Breaking.{Breaking}
use Rattle.serial_table.specs.declared.change.Change.{Change}
use Rattle.serial_table.specs.declared.change.Change.TheVariants.{SetLease, Settle}
use Rattle.serial_table.specs.declared.decision.Caller.{Caller}
use Rattle.serial_table.specs.declared.table.Table.{Table}
use Rattle.serial_table.specs.View.{View, view}
use Rattle.serial_table.specs.Change.{perform_all}
use Rattle.serial_table.specs.Break.{each_once}
use Rattle.serial_table.specs.Asked.{own_lease}
use Rattle.serial_table.specs.Scavenge.{files_of}
use Rattle.serial_table.specs.Reconnect.{made_by}

-- ---- which leases a call looks at

-- the lease names that these opens carry
abbrev pub carried_by : List OpenRow → List LeaseName
carried_by opens = filter_map (λ o. o.lease) opens

-- the leases of a file, by their first open
abbrev pub names_at : View → ℕ → List LeaseName
names_at v file = each_once [] (carried_by (v.opens_of file))

abbrev pub asked_names : Caller → Option LeaseAsk → List LeaseName
asked_names caller None = []
asked_names caller (Some ask) = own_lease caller ask.key ∷ []

-- the leases of the file of the first of these opens, if there is one
abbrev pub names_beside : View → List OpenRow → List LeaseName
names_beside v [] = []
names_beside v (open_row ∷ others) = names_at v open_row.file

-- An `open` looks at the leases of its file and at the one that it asks for, of whatever file; a call by a handle, at the leases of the
-- file of the handle's open; an `ack`, at the named lease; a `reconnect`, at the leases of the file of the named open; a `scavenge`, at
-- all. No other call looks at any.
abbrev pub look : Setup → View → Caller → Call → List LeaseName
look setup v caller (call.OpenFile file access share lease durable overwrite delete) = each_once [] (carried_by (v.opens_of file) ++ asked_names caller lease)
look setup v caller (call.Close handle) = names_beside v (v.opens_of_handle caller.sid handle)
look setup v caller (call.Delete handle on) = names_beside v (v.opens_of_handle caller.sid handle)
look setup v caller (call.Ack key state) = own_lease caller key ∷ []
look setup v caller (call.Lock handle span mode wait) = names_beside v (v.opens_of_handle caller.sid handle)
look setup v caller (call.Unlock handle span) = names_beside v (v.opens_of_handle caller.sid handle)
look setup v caller (call.Read handle span) = names_beside v (v.opens_of_handle caller.sid handle)
look setup v caller (call.Write handle span) = names_beside v (v.opens_of_handle caller.sid handle)
look setup v caller (call.Reconnect worker made key) = names_beside v (made_by setup v worker made)
look setup v caller call.Scavenge = flat_map (names_at v) (files_of setup)
look setup v caller _ = []

-- ---- what expires

-- it is breaking, and the break counts as acknowledged at or before this moment
abbrev pub is_due : Moment → LeaseRow → Bool
is_due now lease = option_map_or (λ (b : Breaking). nat_le b.until.0 now.0) lease.breaking false

-- what is needed of it, where it is breaking
abbrev pub needed_of : LeaseRow → LeaseState
needed_of lease = option_map_or (λ (b : Breaking). b.needed) lease.breaking lease.held

-- It holds what is needed, and isn't breaking.
abbrev pub expires : LeaseRow → Change
expires lease = SetLease lease.file lease.name (needed_of lease) None

-- the leases of these names that are due
abbrev pub due : View → Moment → List LeaseName → List LeaseRow
due v now names = filter (is_due now) (flat_map (λ name. v.leases_of name) names)

-- changes after which the table settles, where there are any
abbrev pub then_settles : List Change → List Change
then_settles [] = []
then_settles (change ∷ changes) = change ∷ (changes ++ Settle ∷ [])

-- Each due lease of these names expires, and the table settles. Where none is due, nothing changes.
abbrev pub expiry : View → Moment → List LeaseName → List Change
expiry v now names = then_settles (map expires (due v now names))

-- the table after it
abbrev pub expire : List LeaseName → Moment → Table → Table
expire names now t = perform_all (expiry (view t) now names) t

-- what expires before a call decides
unfoldable pub expired_by : Setup → View → Caller → Call → List Change
expired_by setup v caller call = expiry v caller.moment (look setup v caller call)
