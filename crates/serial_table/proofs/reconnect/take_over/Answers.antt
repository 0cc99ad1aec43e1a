use Rattle.std.proofs.Common.{sym, ap, ◌∙◌, filter}
use Rattle.std.proofs.lemmas.Result.{IfOk-weaker}
use Rattle.serial_table.specs.View.{has_name}
use Rattle.serial_table.specs.InPlace.{is_lease_of}
use Rattle.serial_table.specs.Reconnect.{take_over}
use Rattle.serial_table.proofs.Heads.{head_found, none_found}
use Rattle.serial_table.proofs.reconnect.take_over.Goals as goal

pub returns-in-Some : goal.returns-in-Some
returns-in-Some c =
    let found = head_found (is_lease_of c.args.row.now.file) (filter (has_name c.args.name) c.args.table.now.leases) c.in-Some.lease (sym c.in-Some.ensures) in
    IfOk-weaker c.take_over_with.result _ _ (λ _ h. h found.0 ∙ ap (take_over c.args.caller.now c.args.row.now) (sym found.1)) c.take_over_with.ensures

pub returns-in-None : goal.returns-in-None
returns-in-None c =
    let none = none_found (is_lease_of c.args.row.now.file) (filter (has_name c.args.name) c.args.table.now.leases) (sym c.in-None.ensures) in
    c.only_reply.ensures ∙ ap (take_over c.args.caller.now c.args.row.now) (sym none)
