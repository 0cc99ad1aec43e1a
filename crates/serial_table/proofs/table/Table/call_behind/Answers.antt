use Rattle.serial_table.proofs.Scoped.{decided_made, decided_enough}
use Rattle.serial_table.proofs.table.Table.call_behind.Goals as goal

pub conclude_call-requires-clause-made : goal.conclude_call-requires-clause-made
conclude_call-requires-clause-made c = decided_made c.args.setup.now c.args.self.now c.args.caller.now c.args.call _ c.in_ok-decision.ensures c.requires.next

pub conclude_call-requires-clause-enough : goal.conclude_call-requires-clause-enough
conclude_call-requires-clause-enough c = decided_enough c.args.setup.now c.args.self.now c.args.caller.now c.args.call _ c.in_ok-decision.ensures c.requires.settled
