use Rattle.std.proofs.Common.{◌∙◌, sym, subst}
use Rattle.std.specs.Prelude.{IfErr}
use Rattle.serial_table.specs.Apply.{DiffersFrom}
use Rattle.std.proofs.lemmas.Result.{on_ok_weaker}
use Rattle.serial_table.proofs.Expiring.{copy_is_behind, itself_is_behind}
use Rattle.serial_table.proofs.table.Table.apply_of.Goals as goal

pub apply_behind-requires-clause-settled : goal.apply_behind-requires-clause-settled
apply_behind-requires-clause-settled c = (copy_is_behind c.args.setup.now c.args.self.now c.args.caller.now c.args.call _ _ c.in-Some.is c.in_ok-behind.ensures.some).settled c.requires.settled

pub apply_behind-requires-clause-lives : goal.apply_behind-requires-clause-lives
apply_behind-requires-clause-lives c = (copy_is_behind c.args.setup.now c.args.self.now c.args.caller.now c.args.call _ _ c.in-Some.is c.in_ok-behind.ensures.some).lives c.requires.lives

pub returns-in-Ok-clause-changed : goal.returns-in-Ok-clause-changed
returns-in-Ok-clause-changed c = c.in-Ok.ensures.changed ∙ sym (copy_is_behind c.args.setup.now c.args.self.now c.args.caller.now c.args.call _ _ c.in-Some.is c.in_ok-behind.ensures.some).changed

pub returns-in-Ok-clause-reply : goal.returns-in-Ok-clause-reply
returns-in-Ok-clause-reply c = (copy_is_behind c.args.setup.now c.args.self.now c.args.caller.now c.args.call _ _ c.in-Some.is c.in_ok-behind.ensures.some).reply ∙ c.in-Ok.ensures.reply

pub returns-in-Ok-clause-posts : goal.returns-in-Ok-clause-posts
returns-in-Ok-clause-posts c = c.in-Ok.ensures.posts ∙ sym (copy_is_behind c.args.setup.now c.args.self.now c.args.caller.now c.args.call _ _ c.in-Some.is c.in_ok-behind.ensures.some).posts

pub returns-in-None-clause-reply : goal.returns-in-None-clause-reply
returns-in-None-clause-reply c = on_ok_weaker c.apply_behind-in-None.result (λ h. (itself_is_behind c.args.setup.now c.args.self.now c.args.caller.now c.args.call _ c.in-None.is c.in_ok-behind.ensures.none).reply ∙ h) c.apply_behind-in-None.ensures.reply

pub returns-in-None-clause-cause : goal.returns-in-None-clause-cause
returns-in-None-clause-cause c =
    let here = itself_is_behind c.args.setup.now c.args.self.now c.args.caller.now c.args.call _ c.in-None.is c.in_ok-behind.ensures.none in
    subst (λ own. IfErr c.apply_behind-in-None.result (DiffersFrom c.args.reply own)) (sym here.reply) c.apply_behind-in-None.ensures.cause

pub returns-in-Err-clause-cause : goal.returns-in-Err-clause-cause
returns-in-Err-clause-cause c =
    let copy = copy_is_behind c.args.setup.now c.args.self.now c.args.caller.now c.args.call _ _ c.in-Some.is c.in_ok-behind.ensures.some in
    subst (λ own. DiffersFrom c.args.reply own c.in-Err.refusal) (sym copy.reply) c.in-Err.ensures.cause
