use Rattle.std.proofs.Common.{◌≡◌, cond, [], ◌++◌, Some, sym, ap, ◌∙◌, append_assoc}
use Rattle.std.specs.List.{flat_map}
use Rattle.std.specs.Option.{option_map, option_map_or, unwrap_or}
use Rattle.sid_core.specs.declared.reply.Reply.TheVariants.{Unsuccessful}
use Rattle.serial_table.specs.View.{view}
use Rattle.serial_table.specs.Decide.{outcome}
use Rattle.serial_table.specs.Decision.{Outcome}
use Rattle.serial_table.specs.Step.{caller_of, answer_of, posts_of}
use Rattle.serial_table.specs.Text.{call_line, post_line, tables_under}
use Rattle.opendb_run.specs.Play.{call_event}
use Rattle.opendb_run.specs.Playing.{text_of_call}
use Rattle.opendb_run.proofs.play.play_call.Goals as goal

pub returns-clause-text : goal.returns-clause-text
unfolding text_of_call
returns-clause-text g c =
    let setup = c.args.setup.now in
    let t = c.args.table.now in
    let v = view c.args.table.now in
    let p = c.args.planned.now in
    let m = c.args.moment in
    let there : caller_of setup v p.worker p.number m ≡ Some c.in-Some.caller = sym c.in-Some.ensures.caller in
    let reply_is : c.in_ok-reply.reply ≡ unwrap_or (answer_of setup v p.worker p.number m p.call) Unsuccessful =
    c.in_ok-reply.ensures.reply ∙ sym (ap (λ o. unwrap_or (option_map (λ (done : Outcome). done.reply) (option_map (λ caller. outcome setup v caller p.call) o)) Unsuccessful) there) in
    let posts_is : c.in_ok-reply.posts ≡ posts_of setup v p.worker (call_event setup t m p) =
    c.in_ok-reply.ensures.posts ∙ sym (ap (λ o. option_map_or (λ (done : Outcome). done.posts) (option_map (λ caller. outcome setup v caller p.call) o) []) there) in
    let line = call_line p.worker p.number p.call (unwrap_or (answer_of setup v p.worker p.number m p.call) Unsuccessful) in
    let posts = flat_map (post_line setup) (posts_of setup v p.worker (call_event setup t m p)) in
    let under = tables_under setup v (call_event setup t m p) in
    let first = c.in_ok-push_call_line.ensures ∙ ap (λ r. c.args.text.now ++ call_line p.worker p.number p.call r) reply_is in
    let next = c.in_ok-push_post_lines.ensures ∙ (λ i. first i ++ flat_map (post_line setup) ((c.as_slice.ensures ∙ posts_is) i)) in
    c.in_ok-push.ensures.ok
    ∙ (λ i. next i ++ (c.as_slice-2.ensures.value ∙ c.in_ok-shown.ensures p.number m (unwrap_or (answer_of setup v p.worker p.number m p.call) Unsuccessful)) i)
    ∙ append_assoc (c.args.text.now ++ line) posts under
    ∙ append_assoc c.args.text.now line (posts ++ under)
    ∙ ap (λ b. c.args.text.now ++ cond b (line ++ (posts ++ under)) []) (sym (sym c.is_entered.ensures ∙ c.if-not-is_entered.false))
