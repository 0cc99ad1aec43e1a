use Rattle.std.proofs.Common.{sym, ap, ◌∙◌}
use Rattle.std.proofs.lemmas.Result.{IfOk-weaker}
use Rattle.serial_table.specs.View.{view, is_of_handle}
use Rattle.serial_table.specs.ReadWrite.{write_first, write}
use Rattle.serial_table.proofs.Heads.{head_found, none_found}
use Rattle.serial_table.proofs.read_write.write.Goals as goal

pub returns-in-Some : goal.returns-in-Some
unfolding write
returns-in-Some c =
    let found = head_found (is_of_handle c.args.caller.now.sid c.args.handle) c.args.table.now.opens c.in-Some.row (sym c.in-Some.ensures) in
    IfOk-weaker c.write_file.result _ _ (λ _ h. h ∙ ap (write_first c.args.caller.now.moment (view c.args.table.now) c.args.span) (sym found.1)) c.write_file.ensures

pub returns-in-None : goal.returns-in-None
unfolding write
returns-in-None c =
    c.only_reply.ensures
    ∙ ap (write_first c.args.caller.now.moment (view c.args.table.now) c.args.span) (sym (none_found (is_of_handle c.args.caller.now.sid c.args.handle) c.args.table.now.opens (sym c.in-None.ensures)))
