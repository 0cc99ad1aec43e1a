use Rattle.std.proofs.Common.{filter, ap, ◌∙◌}
use Rattle.serial_table.specs.View.{view, is_of_file}
use Rattle.serial_table.specs.Durable.{is_expired}
use Rattle.serial_table.proofs.Filters.{filter-filter}
use Rattle.serial_table.proofs.scavenge.expired_by_file.Goals as goal

pub returns-clause-same : goal.returns-clause-same
returns-clause-same c = λ file.
    let t = c.args.table.now in
    c.in_ok-sort_opens.ensures.same file
    ∙ ap (filter (is_of_file file)) c.in_ok-expired.ensures
    ∙ filter-filter (is_of_file file) (is_expired (view t) c.args.now) t.opens
