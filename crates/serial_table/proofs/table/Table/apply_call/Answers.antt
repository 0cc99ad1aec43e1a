use Rattle.std.proofs.Common.{sym, subst}
use Rattle.std.specs.Prelude.{◌<◌, ◌+◌, ◌^◌, IfSome}
use Rattle.serial_table.specs.declared.decision.Caller.{Caller}
use Rattle.serial_table.proofs.Calling.{accepts_result, refuses_result}
use Rattle.serial_table.proofs.table.Table.apply_call.Goals as goal

pub apply_of-requires-clause-next : goal.apply_of-requires-clause-next
apply_of-requires-clause-next c = subst (λ o. IfSome o (λ (x : Caller). x.sid.session + 1 < 2 ^ 32)) (sym c.in-Some.ensures.caller) c.requires.next

pub returns-clause-taken : goal.returns-clause-taken
returns-clause-taken c =
    accepts_result c.args.setup.now c.args.self.now c.apply_of.new.self c.args.worker c.args.number c.args.moment c.args.call c.args.reply c.in-Some.caller c.apply_of.result
    (sym c.in-Some.ensures.caller) c.apply_of.ensures.reply c.apply_of.ensures.changed c.apply_of.ensures.posts

pub returns-clause-cause : goal.returns-clause-cause
returns-clause-cause c =
    refuses_result c.args.setup.now c.args.self.now c.args.worker c.args.number c.args.moment c.args.call c.args.reply c.in-Some.caller c.apply_of.result (sym c.in-Some.ensures.caller) c.apply_of.ensures.cause
