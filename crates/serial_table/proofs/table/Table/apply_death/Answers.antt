use Rattle.std.proofs.Common.{◌∙◌, ap}
use Rattle.std.specs.List.{list_all}
use Rattle.serial_table.specs.View.{view}
use Rattle.serial_table.specs.declared.decision.Decision.{Decision}
use Rattle.serial_table.specs.InPlace.{is_made}
use Rattle.serial_table.specs.Decision.{settling}
use Rattle.serial_table.proofs.Deciding.{dying_made, all_enough}
use Rattle.serial_table.proofs.table.Table.apply_death.Goals as goal

pub conclude-requires-clause-made : goal.conclude-requires-clause-made
conclude-requires-clause-made c =
    ap (λ (d : Decision). list_all is_made d.changes) c.in_ok-decision.ensures ∙ dying_made (view c.args.self.now) c.in-Some.caller.sid c.args.moment

pub conclude-requires-clause-enough : goal.conclude-requires-clause-enough
conclude-requires-clause-enough c = all_enough (settling c.in_ok-decision.decision) c.args.self.now
