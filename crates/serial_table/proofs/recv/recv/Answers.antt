use Rattle.std.proofs.Common.{sym, ap, ◌∙◌}
use Rattle.std.proofs.lemmas.Result.{IfOk-weaker}
use Rattle.serial_table.specs.View.{is_to}
use Rattle.serial_table.specs.Recv.{recv_first, recv}
use Rattle.serial_table.proofs.Heads.{head_found, none_found}
use Rattle.serial_table.proofs.recv.recv.Goals as goal

pub returns-in-Some : goal.returns-in-Some
unfolding recv
returns-in-Some c =
    let found = head_found (is_to c.args.caller.now.sid) c.args.table.now.letters c.in-Some.post (sym c.in-Some.ensures) in
    IfOk-weaker c.take_letter.result _ _ (λ _ h. h ∙ ap (recv_first c.args.caller.now) (sym found.1)) c.take_letter.ensures

pub returns-in-None : goal.returns-in-None
unfolding recv
returns-in-None c =
    c.only_reply.ensures ∙ ap (recv_first c.args.caller.now) (sym (none_found (is_to c.args.caller.now.sid) c.args.table.now.letters (sym c.in-None.ensures)))
