use Rattle.std.proofs.Common.{◌∙◌, sym, ap}
use Rattle.serial_table.specs.View.{view}
use Rattle.serial_table.specs.File.{file_view}
use Rattle.serial_table.specs.Wake.{frees_ranges}
use Rattle.serial_table.specs.InPlace.{table_of}
use Rattle.serial_table.proofs.InPlace.{ranges_will_go}
use Rattle.serial_table.proofs.wake.frees_ranges.Goals as goal

pub returns-in-Settle : goal.returns-in-Settle
returns-in-Settle c =
    c.some_range_will_go.ensures ∙ ranges_will_go (table_of c.args.lists.now) c.args.of
    ∙ ap (λ change. frees_ranges change c.args.of (file_view c.args.of (view (table_of c.args.lists.now)))) (sym c.in-Settle.is)
