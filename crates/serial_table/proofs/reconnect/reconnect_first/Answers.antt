use Rattle.std.proofs.Common.{sym, ap, ◌∙◌}
use Rattle.std.proofs.lemmas.Result.{IfOk-weaker}
use Rattle.serial_table.specs.View.{view, has_id}
use Rattle.serial_table.specs.Reconnect.{reconnect_first}
use Rattle.serial_table.proofs.Heads.{head_found, none_found}
use Rattle.serial_table.proofs.reconnect.reconnect_first.Goals as goal

pub returns-in-Some : goal.returns-in-Some
returns-in-Some c =
    let found = head_found (has_id c.args.id) c.args.table.now.opens c.in-Some.row (sym c.in-Some.ensures) in
    IfOk-weaker c.reconnect_open.result _ _ (λ _ h. h found.0 ∙ ap (reconnect_first (view c.args.table.now) c.args.caller.now c.args.name) (sym found.1)) c.reconnect_open.ensures

pub returns-in-None : goal.returns-in-None
returns-in-None c =
    let none = none_found (has_id c.args.id) c.args.table.now.opens (sym c.in-None.ensures) in
    c.only_reply.ensures ∙ ap (reconnect_first (view c.args.table.now) c.args.caller.now c.args.name) (sym none)
