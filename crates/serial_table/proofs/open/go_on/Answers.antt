use Rattle.std.proofs.Common.{sym, ap, ◌∙◌}
use Rattle.std.proofs.lemmas.Result.{IfOk-weaker}
use Rattle.serial_table.specs.Break.{Breaks}
use Rattle.serial_table.specs.Alone.{shown}
use Rattle.serial_table.specs.Open.{handle_breaks, go_on}
use Rattle.serial_table.specs.OpenAt.{go_further}
use Rattle.serial_table.proofs.OpenSeen.{further_is}
use Rattle.serial_table.proofs.open.go_on.Goals as goal

pub returns-in-None : goal.returns-in-None
returns-in-None c =
    let asked = c.args.asked.now in
    let caller = c.args.caller.now in
    let f = shown asked.file c.args.rows.now in
    let left = shown asked.file c.break_handles.new.rows in
    let first = handle_breaks f asked in
    let made = c.in_ok-done.ensures.made in
    let free = ap (λ (b : Breaks). b.blocker) (sym made) ∙ c.in-None.is in
    IfOk-weaker c.go_further.result _ _
    (λ _ h. h ∙ ap (go_further left caller asked) made ∙ further_is caller asked left f first c.in_ok-done.ensures.rows free ∙ ap (go_on f caller asked first) (sym free))
    c.go_further.ensures
