use Rattle.sid_core.specs.declared.entry.Event.TheVariants.{Called, Died}
use Rattle.serial_table.proofs.Calling.{settled_then}
use Rattle.serial_table.proofs.table.Table.apply.Goals as goal

pub returns-in-Called-clause-settled : goal.returns-in-Called-clause-settled
returns-in-Called-clause-settled c =
    settled_then c.args.setup.now c.args.entry.now.by (Called c.in-Called.number c.in-Called.moment c.in-Called.call c.in-Called.reply) c.args.self.now c.apply_call.new.self c.apply_call.result
    c.apply_call.ensures.taken c.apply_call.ensures.same c.requires.settled

pub returns-in-Died-clause-settled : goal.returns-in-Died-clause-settled
returns-in-Died-clause-settled c =
    settled_then c.args.setup.now c.args.entry.now.by (Died c.in-Died.worker c.in-Died.moment) c.args.self.now c.apply_death.new.self c.apply_death.result
    c.apply_death.ensures.taken c.apply_death.ensures.same c.requires.settled
