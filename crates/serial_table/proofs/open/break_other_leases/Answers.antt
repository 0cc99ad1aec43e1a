use Rattle.std.proofs.Common.{◌≡◌, ◌&&◌, not, cond, Bool, true, false, sym, ap, ◌∙◌}
use Rattle.std.proofs.lemmas.Result.{on_ok_weaker}
use Rattle.serial_table.specs.File.{FileView}
use Rattle.serial_table.specs.Local.{perform_all_in_file}
use Rattle.serial_table.specs.Break.{Breaks, both, no_break, break_others, all_but_write, none_of_them}
use Rattle.serial_table.specs.Asked.{Asked, is_stat}
use Rattle.serial_table.specs.Alone.{shown, breaks_of}
use Rattle.serial_table.specs.Open.{other_breaks}
use Rattle.serial_table.proofs.Broken.{both-no_break}
use Rattle.serial_table.proofs.open.break_other_leases.Goals as goal

by_test : (f : FileView) (asked : Asked) (b : Bool) → b ≡ (is_stat asked.access && not asked.overwrite)
    → cond b no_break (break_others asked.moment asked.file f (cond asked.overwrite none_of_them all_but_write) asked.lease) ≡ other_breaks f asked
unfolding other_breaks
by_test f asked b e = ap (λ b. cond b no_break (break_others asked.moment asked.file f (cond asked.overwrite none_of_them all_but_write) asked.lease)) e

none : (c : goal.Then-breaks_nothing) → no_break ≡ other_breaks (shown c.args.asked.now.file c.args.rows.now) c.args.asked.now
none c = by_test (shown c.args.asked.now.file c.args.rows.now) c.args.asked.now true (sym c.if-breaks_nothing.true ∙ c.breaks_nothing.ensures)

others : (c : goal.After-break_others) → break_others c.args.asked.now.moment c.args.asked.now.file (shown c.args.asked.now.file c.args.rows.now) c.kept_beside.result.0 c.args.asked.now.lease ≡ other_breaks (shown c.args.asked.now.file c.args.rows.now) c.args.asked.now
others c =
    let asked = c.args.asked.now in
    let f = shown asked.file c.args.rows.now in
    ap (λ kept. break_others asked.moment asked.file f kept asked.lease) c.kept_beside.ensures ∙ by_test f asked false (sym c.if-breaks_nothing.false ∙ c.breaks_nothing.ensures)

pub returns-then-breaks_nothing-clause-done : goal.returns-then-breaks_nothing-clause-done
returns-then-breaks_nothing-clause-done c = sym (both-no_break (breaks_of c.args.done.now)) ∙ ap (both (breaks_of c.args.done.now)) (none c)

pub returns-then-breaks_nothing-clause-rows : goal.returns-then-breaks_nothing-clause-rows
returns-then-breaks_nothing-clause-rows c = ap (λ (b : Breaks). perform_all_in_file b.changes (shown c.args.asked.now.file c.args.rows.now)) (none c)

pub returns-else-breaks_nothing-clause-done : goal.returns-else-breaks_nothing-clause-done
returns-else-breaks_nothing-clause-done c = on_ok_weaker c.break_others.result (λ h. h ∙ ap (both (breaks_of c.args.done.now)) (others c)) c.break_others.ensures.done

pub returns-else-breaks_nothing-clause-rows : goal.returns-else-breaks_nothing-clause-rows
returns-else-breaks_nothing-clause-rows c =
    on_ok_weaker c.break_others.result (λ h. h ∙ ap (λ (b : Breaks). perform_all_in_file b.changes (shown c.args.asked.now.file c.args.rows.now)) (others c)) c.break_others.ensures.rows
