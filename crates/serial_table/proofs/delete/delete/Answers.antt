use Rattle.std.proofs.Common.{sym, ap, ◌∙◌}
use Rattle.std.proofs.lemmas.Result.{IfOk-weaker}
use Rattle.serial_table.specs.View.{is_of_handle}
use Rattle.serial_table.specs.Delete.{delete_first, delete}
use Rattle.serial_table.proofs.Heads.{head_found, none_found}
use Rattle.serial_table.proofs.delete.delete.Goals as goal

pub returns-in-Some : goal.returns-in-Some
unfolding delete
returns-in-Some c =
    let found = head_found (is_of_handle c.args.caller.now.sid c.args.handle) c.args.table.now.opens c.in-Some.row (sym c.in-Some.ensures) in
    IfOk-weaker c.delete_file.result _ _ (λ _ h. h ∙ ap (delete_first c.args.on) (sym found.1)) c.delete_file.ensures

pub returns-in-None : goal.returns-in-None
unfolding delete
returns-in-None c =
    c.only_reply.ensures
    ∙ ap (delete_first c.args.on) (sym (none_found (is_of_handle c.args.caller.now.sid c.args.handle) c.args.table.now.opens (sym c.in-None.ensures)))
