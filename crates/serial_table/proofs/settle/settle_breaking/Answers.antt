use Rattle.std.proofs.Common.{sym, ap, ◌∙◌, ◌&&◌, is_some}
use Rattle.std.specs.List.{list_any}
use Rattle.serial_table.specs.declared.rows.LeaseRow.{LeaseRow}
use Rattle.serial_table.specs.InPlace.{in_scope, lives_by}
use Rattle.serial_table.proofs.Unmoved.{none_ends}
use Rattle.serial_table.proofs.settle.settle_breaking.Goals as goal

pub returns-else-some_lease_breaks-clause-items : goal.returns-else-some_lease_breaks-clause-items
returns-else-some_lease_breaks-clause-items c =
    sym (none_ends (in_scope c.args.scope) c.args.opens.now (lives_by c.args.workers.now) c.args.leases.now.items
    (ap (list_any (λ (lease : LeaseRow). in_scope c.args.scope lease.file && is_some lease.breaking)) (sym c.as_slice.ensures.value) ∙ sym c.some_lease_breaks.ensures ∙ c.if-some_lease_breaks.false))
