use Rattle.std.proofs.Common.{sym, ap, ◌∙◌}
use Rattle.std.proofs.lemmas.Result.{IfOk-weaker}
use Rattle.serial_table.specs.View.{view, is_of_handle}
use Rattle.serial_table.specs.Unlock.{unlock_first, unlock}
use Rattle.serial_table.proofs.Heads.{head_found, none_found}
use Rattle.serial_table.proofs.unlock.unlock.Goals as goal

pub returns-in-Some : goal.returns-in-Some
unfolding unlock
returns-in-Some c =
    let found = head_found (is_of_handle c.args.caller.now.sid c.args.handle) c.args.table.now.opens c.in-Some.row (sym c.in-Some.ensures) in
    IfOk-weaker c.unlock_range.result _ _ (λ _ h. h ∙ ap (unlock_first (view c.args.table.now) c.args.span) (sym found.1)) c.unlock_range.ensures

pub returns-in-None : goal.returns-in-None
unfolding unlock
returns-in-None c =
    c.only_reply.ensures
    ∙ ap (unlock_first (view c.args.table.now) c.args.span) (sym (none_found (is_of_handle c.args.caller.now.sid c.args.handle) c.args.table.now.opens (sym c.in-None.ensures)))
