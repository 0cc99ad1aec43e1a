use Rattle.std.proofs.Common.{◌∙◌, sym, ap, subst}
use Rattle.serial_table.specs.Decision.{settling}
use Rattle.serial_table.specs.InPlace.{scope_of, AreEnough}
use Rattle.serial_table.proofs.table.Table.conclude_call.Goals as goal

pub conclude-requires-clause-enough : goal.conclude-requires-clause-enough
conclude-requires-clause-enough c =
    subst (λ which. AreEnough which (settling c.args.decision.now) c.args.self.now) (sym (c.scope_of.ensures ∙ ap (scope_of c.args.call.now) c.as_slice.ensures)) c.requires.enough
