use Rattle.std.proofs.Common.{filter, ap, ◌∙◌}
use Rattle.std.specs.List.{list_any}
use Rattle.serial_table.specs.View.{is_of_file}
use Rattle.serial_table.specs.OpenAt.{row_conflicts}
use Rattle.serial_table.proofs.OpenSeen.{conflict_is}
use Rattle.serial_table.proofs.asked.meets_conflict.Goals as goal

pub returns : goal.returns
returns c = c.some_conflicts.ensures ∙ ap (λ rows. list_any (row_conflicts c.args.asked.now) (filter (is_of_file c.args.asked.now.file) rows)) c.as_slice.ensures ∙ conflict_is c.args.table.now c.args.asked.now
