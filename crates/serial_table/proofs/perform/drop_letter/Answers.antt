use Rattle.std.proofs.Common.{ap, ◌∙◌, sym}
use Rattle.std.specs.List.{position}
use Rattle.serial_table.specs.View.{is_to}
use Rattle.serial_table.proofs.Rewriting.{drop_found, drop_missing}
use Rattle.serial_table.proofs.perform.drop_letter.Goals as goal

pub returns-in-Some-clause-items : goal.returns-in-Some-clause-items
returns-in-Some-clause-items c =
    c.remove.ensures.items ∙ drop_found (is_to c.args.to) c.args.letters.now.items c.in-Some.place (ap (position (is_to c.args.to)) (sym c.as_slice.ensures.value) ∙ sym c.place_of_letter.ensures ∙ c.in-Some.is)

pub returns-in_default-clause-items : goal.returns-in_default-clause-items
returns-in_default-clause-items c =
    sym (drop_missing (is_to c.args.to) c.args.letters.now.items (ap (position (is_to c.args.to)) (sym c.as_slice.ensures.value) ∙ sym c.place_of_letter.ensures ∙ c.in_default.is))
