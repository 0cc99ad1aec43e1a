use Rattle.std.proofs.Common.{sym, ap, ◌∙◌}
use Rattle.std.proofs.lemmas.Result.{IfOk-weaker}
use Rattle.serial_table.specs.View.{view, is_of_handle}
use Rattle.serial_table.specs.Lock.{lock_first, lock}
use Rattle.serial_table.proofs.Heads.{head_found, none_found}
use Rattle.serial_table.proofs.lock.lock.Goals as goal

pub returns-in-Some : goal.returns-in-Some
unfolding lock
returns-in-Some c =
    let found = head_found (is_of_handle c.args.caller.now.sid c.args.handle) c.args.table.now.opens c.in-Some.row (sym c.in-Some.ensures) in
    IfOk-weaker c.lock_in.result _ _ (λ _ h. h ∙ ap (lock_first (view c.args.table.now) c.args.caller.now c.args.span c.args.mode c.args.wait) (sym found.1)) c.lock_in.ensures

pub returns-in-None : goal.returns-in-None
unfolding lock
returns-in-None c =
    c.only_reply.ensures
    ∙ ap (lock_first (view c.args.table.now) c.args.caller.now c.args.span c.args.mode c.args.wait) (sym (none_found (is_of_handle c.args.caller.now.sid c.args.handle) c.args.table.now.opens (sym c.in-None.ensures)))
