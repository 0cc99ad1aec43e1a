use Rattle.std.proofs.Common.{ap, ◌∙◌, sym}
use Rattle.std.specs.List.{position, remove}
use Rattle.serial_table.proofs.Rewriting.{drop_found, drop_missing}
use Rattle.brlock.specs.Answer.{is_range}
use Rattle.brlock.proofs.Dropping.{is_there, is_missing}
use Rattle.brlock.proofs.unlocking.drop_first.Goals as goal

pub returns-in-Some-clause-there : goal.returns-in-Some-clause-there
returns-in-Some-clause-there c =
    let a = c.args in
    is_there (is_range a.id a.span a.mode) a.list.now c.in-Some.place (sym (ap (position (is_range a.id a.span a.mode)) c.as_slice.ensures) ∙ sym c.place_of.ensures ∙ c.in-Some.is)

pub returns-in-Some-clause-list : goal.returns-in-Some-clause-list
returns-in-Some-clause-list c =
    let a = c.args in
    c.from_vec.ensures ∙ c.remove.ensures.items ∙ ap (λ items. remove items c.in-Some.place) c.take-ranges.ensures.taken
    ∙ drop_found (is_range a.id a.span a.mode) a.list.now c.in-Some.place (sym (ap (position (is_range a.id a.span a.mode)) c.as_slice.ensures) ∙ sym c.place_of.ensures ∙ c.in-Some.is)

pub returns-in-None-clause-there : goal.returns-in-None-clause-there
returns-in-None-clause-there c =
    let a = c.args in
    is_missing (is_range a.id a.span a.mode) a.list.now (sym (ap (position (is_range a.id a.span a.mode)) c.as_slice.ensures) ∙ sym c.place_of.ensures ∙ c.in-None.is)

pub returns-in-None-clause-list : goal.returns-in-None-clause-list
returns-in-None-clause-list c =
    let a = c.args in
    sym (drop_missing (is_range a.id a.span a.mode) a.list.now (sym (ap (position (is_range a.id a.span a.mode)) c.as_slice.ensures) ∙ sym c.place_of.ensures ∙ c.in-None.is))
