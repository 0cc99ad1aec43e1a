use Rattle.std.proofs.Common.{filter, ap, ◌∙◌}
use Rattle.serial_table.specs.View.{is_of_file}
use Rattle.serial_table.proofs.expire.sorted_opens.Goals as goal

pub returns-clause-same : goal.returns-clause-same
returns-clause-same c = λ file. c.in_ok-sort_opens.ensures.same file ∙ ap (filter (is_of_file file)) c.in_ok-rows.ensures
