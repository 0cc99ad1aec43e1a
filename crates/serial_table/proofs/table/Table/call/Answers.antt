use Rattle.std.proofs.Common.{◌∙◌, sym, ap}
use Rattle.std.proofs.lemmas.Result.{IfOk-weaker}
use Rattle.serial_table.specs.View.{view}
use Rattle.serial_table.specs.Settle.{settle}
use Rattle.serial_table.specs.Decide.{decide}
use Rattle.serial_table.proofs.Concluding.{concluded_is_settled}
use Rattle.serial_table.proofs.Expiring.{copy_is_behind, itself_is_behind, settled_either}
use Rattle.serial_table.proofs.table.Table.call.Goals as goal

pub call_behind-requires-clause-settled : goal.call_behind-requires-clause-settled
call_behind-requires-clause-settled c = (copy_is_behind c.args.setup.now c.args.self.now c.args.caller.now c.args.call _ _ c.in-Some.is c.in_ok-behind.ensures.some).settled c.requires.settled

pub call_behind-requires-clause-lives : goal.call_behind-requires-clause-lives
call_behind-requires-clause-lives c = (copy_is_behind c.args.setup.now c.args.self.now c.args.caller.now c.args.call _ _ c.in-Some.is c.in_ok-behind.ensures.some).lives c.requires.lives

pub returns-in_ok-answer-in-Some-clause-changed : goal.returns-in_ok-answer-in-Some-clause-changed
returns-in_ok-answer-in-Some-clause-changed c = c.in_ok-answer-in-Some.ensures.changed ∙ sym (copy_is_behind c.args.setup.now c.args.self.now c.args.caller.now c.args.call _ _ c.in-Some.is c.in_ok-behind.ensures.some).changed

pub returns-in_ok-answer-in-Some-clause-reply : goal.returns-in_ok-answer-in-Some-clause-reply
returns-in_ok-answer-in-Some-clause-reply c = c.in_ok-answer-in-Some.ensures.reply ∙ sym (copy_is_behind c.args.setup.now c.args.self.now c.args.caller.now c.args.call _ _ c.in-Some.is c.in_ok-behind.ensures.some).reply

pub returns-in_ok-answer-in-Some-clause-posts : goal.returns-in_ok-answer-in-Some-clause-posts
returns-in_ok-answer-in-Some-clause-posts c = c.in_ok-answer-in-Some.ensures.posts ∙ sym (copy_is_behind c.args.setup.now c.args.self.now c.args.caller.now c.args.call _ _ c.in-Some.is c.in_ok-behind.ensures.some).posts

pub returns-in_ok-answer-in-Some-clause-settled : goal.returns-in_ok-answer-in-Some-clause-settled
returns-in_ok-answer-in-Some-clause-settled c =
    let done = c.in_ok-answer-in-Some.ensures.changed in
    ap settle done ∙ concluded_is_settled (decide c.args.setup.now (view c.in-Some.behind) c.args.caller.now c.args.call) c.in-Some.behind ∙ sym done

pub returns-in-None-clause-reply : goal.returns-in-None-clause-reply
returns-in-None-clause-reply c = IfOk-weaker c.call_behind-in-None.result _ _ (λ _ h. h ∙ sym (itself_is_behind c.args.setup.now c.args.self.now c.args.caller.now c.args.call _ c.in-None.is c.in_ok-behind.ensures.none).reply) c.call_behind-in-None.ensures.reply

pub returns-in-None-clause-settled : goal.returns-in-None-clause-settled
returns-in-None-clause-settled c =
    let t = c.args.self.now in
    settled_either c.call_behind-in-None.result (decide c.args.setup.now (view t) c.args.caller.now c.args.call) t c.call_behind-in-None.new.self c.call_behind-in-None.ensures.changed c.call_behind-in-None.ensures.err c.requires.settled
