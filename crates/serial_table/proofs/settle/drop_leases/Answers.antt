use Rattle.std.proofs.Common.{sym, ap, ◌∙◌}
use Rattle.std.specs.List.{list_any}
use Rattle.serial_table.specs.InPlace.{in_scope, lease_goes}
use Rattle.serial_table.proofs.Unmoved.{none_leaves}
use Rattle.serial_table.proofs.settle.drop_leases.Goals as goal

pub returns-else-some_lease_goes-clause-items : goal.returns-else-some_lease_goes-clause-items
returns-else-some_lease_goes-clause-items c =
    sym (none_leaves (lease_goes (in_scope c.args.scope) c.args.opens.now) c.args.leases.now.items
    (ap (list_any (lease_goes (in_scope c.args.scope) c.args.opens.now)) (sym c.as_slice.ensures.value) ∙ sym c.some_lease_goes.ensures ∙ c.if-some_lease_goes.false))
