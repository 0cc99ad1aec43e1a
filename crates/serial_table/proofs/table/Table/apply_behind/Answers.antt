use Rattle.std.proofs.Common.{◌∙◌, sym, ap}
use Rattle.std.proofs.lemmas.Bool.{both_ways}
use Rattle.serial_table.specs.declared.decision.Decision.{Decision}
use Rattle.serial_table.proofs.Scoped.{decided_made, decided_enough}
use Rattle.serial_table.proofs.table.Table.apply_behind.Goals as goal

pub conclude_call-requires-clause-made : goal.conclude_call-requires-clause-made
conclude_call-requires-clause-made c = decided_made c.args.setup.now c.args.self.now c.args.caller.now c.args.call _ c.in_ok-decision.ensures c.requires.next

pub conclude_call-requires-clause-enough : goal.conclude_call-requires-clause-enough
conclude_call-requires-clause-enough c = decided_enough c.args.setup.now c.args.self.now c.args.caller.now c.args.call _ c.in_ok-decision.ensures c.requires.settled

pub returns-then-not-is_same_reply-clause-cause : goal.returns-then-not-is_same_reply-clause-cause
returns-then-not-is_same_reply-clause-cause c = (
  ap (λ (d : Decision). d.reply) (sym c.in_ok-decision.ensures),
  λ same. both_ways c.is_same_reply.result c.if-not-is_same_reply.true (c.is_same_reply.ensures.1 same),
)

pub returns-clause-reply : goal.returns-clause-reply
returns-clause-reply c = ap (λ (d : Decision). d.reply) (sym c.in_ok-decision.ensures) ∙ c.is_same_reply.ensures.0 c.if-not-is_same_reply.false
