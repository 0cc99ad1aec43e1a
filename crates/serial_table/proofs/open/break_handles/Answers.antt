use Rattle.std.proofs.Common.{ap, ◌∙◌}
use Rattle.serial_table.specs.Local.{perform_all_in_file}
use Rattle.serial_table.specs.Break.{both, no_break, break_each, all_but_handle}
use Rattle.serial_table.specs.Alone.{shown}
use Rattle.serial_table.specs.Open.{handle_breaks}
use Rattle.serial_table.proofs.open.break_handles.Goals as goal

pub returns-clause-made : goal.returns-clause-made
unfolding handle_breaks
returns-clause-made c =
    let file = c.args.asked.now.file in
    let f = shown file c.args.rows.now in
    c.in_ok-break_each.ensures.done
    ∙ ap (λ done. both done (break_each c.args.asked.now.moment file f all_but_handle c.as_slice.result.now)) c.no_break-done.ensures
    ∙ ap (λ names. both no_break (break_each c.args.asked.now.moment file f all_but_handle names)) (c.as_slice.ensures.value ∙ c.in_ok-names.ensures)

pub returns-clause-rows : goal.returns-clause-rows
unfolding handle_breaks
returns-clause-rows c =
    let file = c.args.asked.now.file in
    let f = shown file c.args.rows.now in
    c.in_ok-break_each.ensures.rows ∙ ap (λ names. perform_all_in_file (break_each c.args.asked.now.moment file f all_but_handle names).changes f) (c.as_slice.ensures.value ∙ c.in_ok-names.ensures)
