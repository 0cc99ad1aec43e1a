use Rattle.std.proofs.Common.{sym, ◌∙◌}
use Rattle.std.proofs.lemmas.Result.{IfOk-weaker}
use Rattle.serial_table.specs.View.{is_of_handle}
use Rattle.serial_table.specs.Close.{close}
use Rattle.serial_table.proofs.Found.{close_found, close_none}
use Rattle.serial_table.proofs.close.close.Goals as goal

pub returns-in-Some : goal.returns-in-Some
unfolding close
returns-in-Some c =
    IfOk-weaker c.close_open.result _ _
    (λ _ h. h ∙ sym (close_found (is_of_handle c.args.caller.now.sid c.args.handle) c.args.table.now.opens c.in-Some.row (sym c.in-Some.ensures)))
    c.close_open.ensures

pub returns-in-None : goal.returns-in-None
unfolding close
returns-in-None c =
    c.only_reply.ensures ∙ sym (close_none (is_of_handle c.args.caller.now.sid c.args.handle) c.args.table.now.opens (sym c.in-None.ensures))
