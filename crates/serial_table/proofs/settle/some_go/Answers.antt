use Rattle.std.proofs.Common.{sym, ◌∙◌}
use Rattle.serial_table.specs.InPlace.{in_scope, lives_by}
use Rattle.serial_table.proofs.Going.{none_goes}
use Rattle.serial_table.proofs.settle.some_go.Goals as goal

pub returns-else-some_lease_lacks : goal.returns-else-some_lease_lacks
returns-else-some_lease_lacks c =
    c.if-some_lease_lacks.false ∙ sym (none_goes (in_scope c.args.scope) c.args.leases.now (sym c.some_lease_lacks.ensures ∙ c.if-some_lease_lacks.false) (lives_by c.args.workers.now) c.args.opens.now)
