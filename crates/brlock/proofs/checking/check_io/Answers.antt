use Rattle.std.proofs.Common.{find, ap, ◌∙◌}
use Rattle.std.specs.Option.{option_map}
use Rattle.brlock.specs.Answer.{told_io}
use Rattle.brlock.specs.Scans.{is_forbidding}
use Rattle.brlock.proofs.Finding.{forbidding_named}
use Rattle.brlock.proofs.Deciding.{checks}
use Rattle.brlock.proofs.checking.check_io.Goals as goal

pub returns-clause-first : goal.returns-clause-first
returns-clause-first c = λ records file f open_row asks.
    let a = c.args in
    c.first_forbidding.ensures ∙ ap (λ ranges. option_map (λ held. held.id) (find (is_forbidding a.valid.now a.id a.span a.write) ranges)) c.as_slice.ensures
    ∙ forbidding_named records file a.valid.now a.rec.now.ranges a.id f open_row asks a.span a.write

pub returns-clause-decision : goal.returns-clause-decision
returns-clause-decision c = λ records file f open_row now asks may some fits.
    let a = c.args in
    ap (told_io now f open_row a.write) (
    c.first_forbidding.ensures ∙ ap (λ ranges. option_map (λ held. held.id) (find (is_forbidding a.valid.now a.id a.span a.write) ranges)) c.as_slice.ensures
    ∙ forbidding_named records file a.valid.now a.rec.now.ranges a.id f open_row asks a.span a.write)
    ∙ checks now f open_row a.span a.write may some fits
