use Rattle.std.proofs.Common.{not, filter, ap, ◌∙◌}
use Rattle.std.proofs.lemmas.Result.{on_ok_weaker}
use Rattle.serial_table.specs.Break.{both, break_each}
use Rattle.serial_table.specs.Alone.{shown, breaks_of, is_own}
use Rattle.serial_table.proofs.breaks.break_others.Goals as goal

pub returns-clause-done : goal.returns-clause-done
returns-clause-done c =
    on_ok_weaker c.break_each.result
    (λ h. h
    ∙ ap (λ names. both (breaks_of c.args.done.now) (break_each c.args.now c.args.file (shown c.args.file c.args.rows.now) c.args.kept.0 names))
    (c.as_slice.ensures.value ∙ (c.drop_own.ensures ∙ ap (filter (λ name. not (is_own c.args.own name))) c.in_ok-names.ensures)))
    c.break_each.ensures.done
