use Rattle.std.proofs.Common.{ap, ◌∙◌, sym}
use Rattle.std.specs.List.{position}
use Rattle.serial_table.specs.Change.{same_range}
use Rattle.serial_table.proofs.Rewriting.{drop_found, drop_missing}
use Rattle.serial_table.proofs.perform.drop_range.Goals as goal

pub returns-in-Some-clause-items : goal.returns-in-Some-clause-items
returns-in-Some-clause-items c =
    c.remove.ensures.items ∙ drop_found (same_range c.args.range.now) c.args.ranges.now.items c.in-Some.place (ap (position (same_range c.args.range.now)) (sym c.as_slice.ensures.value) ∙ sym c.place_of_range.ensures ∙ c.in-Some.is)

pub returns-in_default-clause-items : goal.returns-in_default-clause-items
returns-in_default-clause-items c =
    sym (drop_missing (same_range c.args.range.now) c.args.ranges.now.items (ap (position (same_range c.args.range.now)) (sym c.as_slice.ensures.value) ∙ sym c.place_of_range.ensures ∙ c.in_default.is))
