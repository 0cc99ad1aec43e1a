use Rattle.std.proofs.Common.{sym, ap, ◌∙◌}
use Rattle.std.proofs.lemmas.Result.{IfOk-weaker}
use Rattle.serial_table.specs.View.{view}
use Rattle.serial_table.specs.File.{file_view}
use Rattle.serial_table.specs.Break.{Breaks, no_break}
use Rattle.serial_table.specs.Grant.{LeaseGrant, allowed, is_durable, lease_by, grant_plain, grant_under, grant_by, grant}
use Rattle.serial_table.specs.OpenAt.{grant_of}
use Rattle.serial_table.proofs.Unleased.{no_lease}
use Rattle.serial_table.proofs.grant.grant_unleased.Goals as goal

pub returns-in-Some : goal.returns-in-Some
unfolding grant
returns-in-Some c =
    let asked = c.args.asked.now in
    let caller = c.args.caller.now in
    let f = file_view asked.file (view c.args.table.now) in
    let name = c.in-Some.name in
    let lease = grant_of c.new_lease_at.result in
    IfOk-weaker c.grant_under.result _ _
    (λ _ h. h
    ∙ ap (λ (done : Breaks). grant_under caller asked done lease (is_durable asked lease)) c.no_break-done.ensures
    ∙ ap (λ (lease : LeaseGrant). grant_under caller asked no_break lease (is_durable asked lease)) (c.new_lease_at.ensures ∙ ap (lease_by name asked (allowed f asked)) (sym (no_lease c.args.table.now asked.file c.requires.none name)))
    ∙ ap (grant_by f caller asked no_break) (sym c.in-Some.is))
    c.grant_under.ensures

pub returns-in-None : goal.returns-in-None
unfolding grant
returns-in-None c =
    let asked = c.args.asked.now in
    let caller = c.args.caller.now in
    IfOk-weaker c.grant_plain.result _ _
    (λ _ h. h ∙ ap (grant_plain caller asked) c.no_break-done.ensures ∙ ap (grant_by (file_view asked.file (view c.args.table.now)) caller asked no_break) (sym c.in-None.is))
    c.grant_plain.ensures
