use Rattle.std.proofs.Common.{sym, ap, ◌∙◌, find}
use Rattle.std.proofs.lemmas.Result.{IfOk-weaker}
use Rattle.serial_table.specs.View.{view, has_name}
use Rattle.serial_table.specs.Asked.{own_lease}
use Rattle.serial_table.specs.Ack.{ack_first, ack}
use Rattle.serial_table.proofs.Heads.{head_found, none_found}
use Rattle.serial_table.proofs.ack.ack.Goals as goal

pub returns-in-Some : goal.returns-in-Some
unfolding ack
returns-in-Some c =
    let t = c.args.table.now in
    let name = own_lease c.args.caller.now c.args.key in
    let found = head_found (has_name name) t.leases c.in-Some.lease (sym (c.in-Some.ensures ∙ ap (λ n. find (has_name n) t.leases) c.own_lease.ensures)) in
    IfOk-weaker c.ack_lease.result _ _ (λ _ h. h found.0 ∙ ap (λ ls. ack_first c.args.caller.now.moment (view t) ls c.args.state) (sym found.1)) c.ack_lease.ensures

pub returns-in-None : goal.returns-in-None
unfolding ack
returns-in-None c =
    let t = c.args.table.now in
    let name = own_lease c.args.caller.now c.args.key in
    let none = none_found (has_name name) t.leases (sym (c.in-None.ensures ∙ ap (λ n. find (has_name n) t.leases) c.own_lease.ensures)) in
    c.only_reply.ensures ∙ ap (λ ls. ack_first c.args.caller.now.moment (view t) ls c.args.state) (sym none)
