use Rattle.std.proofs.Common.{sym, ap, ◌∙◌}
use Rattle.std.proofs.lemmas.Result.{IfOk-weaker}
use Rattle.serial_table.specs.View.{view, has_id}
use Rattle.serial_table.specs.Expire.{names_beside}
use Rattle.serial_table.proofs.Heads.{head_found, none_found}
use Rattle.serial_table.proofs.expire.look_by_id.Goals as goal

pub returns-in-Some : goal.returns-in-Some
returns-in-Some c =
    let found = head_found (has_id c.args.id) c.args.table.now.opens c.in-Some.row (sym c.in-Some.ensures) in
    IfOk-weaker c.names_at.result _ _ (λ _ h. h ∙ ap (names_beside (view c.args.table.now)) (sym found.1)) c.names_at.ensures

pub returns-in-None : goal.returns-in-None
returns-in-None c = c.new.ensures.items ∙ ap (names_beside (view c.args.table.now)) (sym (none_found (has_id c.args.id) c.args.table.now.opens (sym c.in-None.ensures)))
