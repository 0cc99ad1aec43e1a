use Rattle.std.proofs.Common.{ap, ◌∙◌}
use Rattle.serial_table.specs.Break.{both, break_others}
use Rattle.serial_table.specs.InPlace.{table_of}
use Rattle.serial_table.specs.Alone.{shown}
use Rattle.serial_table.proofs.BreaksSeen.{broken_alone}
use Rattle.serial_table.proofs.breaks.breaks_of_others.Goals as goal

pub returns : goal.returns
returns c =
    c.in_ok-break_others.ensures.done
    ∙ ap (λ done. both done (break_others c.args.now c.args.file (shown c.args.file c.in_ok-rows.rows) c.args.kept.0 c.args.own)) c.no_break-done.ensures
    ∙ broken_alone c.args.now c.args.file c.args.kept.0 c.args.own c.args.table.now (table_of c.in_ok-rows.rows) c.in_ok-rows.ensures
