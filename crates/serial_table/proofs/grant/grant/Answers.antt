use Rattle.std.proofs.Common.{sym, ap, ◌∙◌}
use Rattle.std.proofs.lemmas.Result.{IfOk-weaker}
use Rattle.serial_table.specs.Alone.{shown, breaks_of}
use Rattle.serial_table.specs.Grant.{LeaseGrant, is_durable, grant_under, grant_by, grant}
use Rattle.serial_table.proofs.grant.grant.Goals as goal

pub returns-in-Some : goal.returns-in-Some
unfolding grant
returns-in-Some c =
    let asked = c.args.asked.now in
    let caller = c.args.caller.now in
    let done = breaks_of c.args.done in
    IfOk-weaker c.grant_under.result _ _
    (λ _ h. h
    ∙ ap (λ (lease : LeaseGrant). grant_under caller asked done lease (is_durable asked lease)) c.grant_lease.ensures
    ∙ ap (grant_by (shown asked.file c.args.rows.now) caller asked done) (sym c.in-Some.is))
    c.grant_under.ensures

pub returns-in-None : goal.returns-in-None
unfolding grant
returns-in-None c =
    let asked = c.args.asked.now in
    IfOk-weaker c.grant_plain.result _ _
    (λ _ h. h ∙ ap (grant_by (shown asked.file c.args.rows.now) c.args.caller.now asked (breaks_of c.args.done)) (sym c.in-None.is))
    c.grant_plain.ensures
