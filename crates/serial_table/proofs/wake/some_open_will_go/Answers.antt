use Rattle.std.proofs.Common.{sym, ◌∙◌}
use Rattle.serial_table.specs.InPlace.{table_of}
use Rattle.serial_table.proofs.Going.{none_will_go}
use Rattle.serial_table.proofs.wake.some_open_will_go.Goals as goal

pub returns-else-some_lease_will_lack : goal.returns-else-some_lease_will_lack
returns-else-some_lease_will_lack c =
    c.if-some_lease_will_lack.false ∙ sym (none_will_go (table_of c.args.lists.now) c.args.file (sym c.some_lease_will_lack.ensures ∙ c.if-some_lease_will_lack.false))
