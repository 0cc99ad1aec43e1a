use Rattle.std.proofs.Common.{cond, sym, ap, ◌∙◌}
use Rattle.std.proofs.lemmas.Result.{IfOk-weaker}
use Rattle.sid_core.specs.declared.reply.Reply.TheVariants.{SharingViolation}
use Rattle.serial_table.specs.Decision.{only_reply}
use Rattle.serial_table.specs.Alone.{shown}
use Rattle.serial_table.specs.Open.{handle_breaks, go_on}
use Rattle.serial_table.proofs.open.open_at.Goals as goal

pub returns-then-meets_refusal : goal.returns-then-meets_refusal
returns-then-meets_refusal c =
    let asked = c.args.asked.now in
    let f = shown asked.file c.args.rows.now in
    c.only_reply.ensures
    ∙ ap (λ b. cond b (only_reply SharingViolation) (go_on f c.args.caller.now asked (handle_breaks f asked) (handle_breaks f asked).blocker)) (sym c.if-meets_refusal.true ∙ c.meets_refusal.ensures)

pub returns-else-meets_refusal : goal.returns-else-meets_refusal
returns-else-meets_refusal c =
    let asked = c.args.asked.now in
    let f = shown asked.file c.args.rows.now in
    IfOk-weaker c.go_on.result _ _
    (λ _ h. h ∙ ap (λ b. cond b (only_reply SharingViolation) (go_on f c.args.caller.now asked (handle_breaks f asked) (handle_breaks f asked).blocker)) (sym c.if-meets_refusal.false ∙ c.meets_refusal.ensures))
    c.go_on.ensures
