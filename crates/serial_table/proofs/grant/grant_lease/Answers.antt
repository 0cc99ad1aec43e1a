use Rattle.std.proofs.Common.{◌≡◌, ℕ, List, filter, find, refl, sym, ap, ◌∙◌}
use Rattle.std.specs.Option.{option_map_or}
use Rattle.sid_core.specs.declared.ids.LeaseName.{LeaseName}
use Rattle.serial_table.specs.declared.rows.LeaseRow.{LeaseRow}
use Rattle.serial_table.specs.View.{has_name}
use Rattle.serial_table.specs.InPlace.{is_lease_of}
use Rattle.serial_table.specs.Asked.{Asked}
use Rattle.serial_table.specs.Alone.{shown, is_lease_named}
use Rattle.serial_table.specs.Grant.{allowed, new_lease, old_lease, lease_by}
use Rattle.serial_table.proofs.Heads.{by_first_of_both}
use Rattle.serial_table.proofs.grant.grant_lease.Goals as goal

by_found : (asked : Asked) (name : LeaseName) (may : ℕ) (leases : List LeaseRow)
    → option_map_or (λ (l : LeaseRow). old_lease asked.file l asked.state.0 may) (find (is_lease_named asked.file name) leases) (new_lease name asked.file may)
    ≡ lease_by name asked may (filter (is_lease_of asked.file) (filter (has_name name) leases))
by_found asked name may leases =
    sym (by_first_of_both (lease_by name asked may) (λ (l : LeaseRow). old_lease asked.file l asked.state.0 may) (new_lease name asked.file may) refl (λ l ls. refl) (is_lease_of asked.file) (has_name name) leases)

pub returns-in-Some : goal.returns-in-Some
returns-in-Some c =
    let asked = c.args.asked.now in
    let may = allowed (shown asked.file c.args.rows.now) asked in
    c.old_lease.ensures
    ∙ ap (old_lease asked.file c.in-Some.lease asked.state.0) c.allowed-may.ensures
    ∙ ap (λ found. option_map_or (λ (l : LeaseRow). old_lease asked.file l asked.state.0 may) found (new_lease c.args.name asked.file may)) (c.in-Some.ensures ∙ ap (find (is_lease_named asked.file c.args.name)) c.as_slice.ensures.value)
    ∙ by_found asked c.args.name may c.args.rows.now.leases.items

pub returns-in-None : goal.returns-in-None
returns-in-None c =
    let asked = c.args.asked.now in
    let may = allowed (shown asked.file c.args.rows.now) asked in
    c.new_lease.ensures
    ∙ ap (new_lease c.args.name asked.file) c.allowed-may.ensures
    ∙ ap (λ found. option_map_or (λ (l : LeaseRow). old_lease asked.file l asked.state.0 may) found (new_lease c.args.name asked.file may)) (c.in-None.ensures ∙ ap (find (is_lease_named asked.file c.args.name)) c.as_slice.ensures.value)
    ∙ by_found asked c.args.name may c.args.rows.now.leases.items
