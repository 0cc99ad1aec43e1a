use Rattle.std.proofs.Common.{◌≡◌, ◌<◌, ◌+◌, ℕ, List, length, get_or, Option, drop, sym, ap, ◌∙◌}
use Rattle.std.specs.Prelude.{unwrap_or}
use Rattle.std.proofs.lemmas.List.{at_drop_more, drop_all}
use Rattle.serial_table.specs.declared.change.Change.{Change}
use Rattle.serial_table.specs.InPlace.{file_of_change, file_of_changes}
use Rattle.serial_table.proofs.decide.file_of_changes.Goals as goal

-- the change at a place names its file, or the changes after it do
at_place : (changes : List Change) (i named : ℕ) (change : Change) (o : Option ℕ) → i < length changes → o ≡ file_of_change (get_or changes i change) → file_of_changes (drop i changes) ≡ named
    → unwrap_or o (file_of_changes (drop (i + 1) changes)) ≡ named
at_place changes i named change o lt is left =
    ap (λ p. unwrap_or p (file_of_changes (drop (i + 1) changes))) is ∙ sym (at_drop_more file_of_changes changes i change lt) ∙ left

pub returns-in-Some : goal.returns-in-Some
returns-in-Some c =
    at_place c.args.changes.now c.loop-change.change-index (file_of_changes c.args.changes.now) _ _ c.loop-change-test.true (sym c.in-Some.is ∙ c.file_of_change.ensures) c.loop-change.invariant.left

pub loop-change-preserved : goal.loop-change-preserved
loop-change-preserved c = record {
  left = at_place c.args.changes.now c.loop-change.change-index (file_of_changes c.args.changes.now) _ _ c.loop-change-test.true (sym c.in_default.is ∙ c.file_of_change.ensures) c.loop-change.invariant.left;
}

pub returns : goal.returns
returns c = ap file_of_changes (sym (drop_all c.loop-change.change-index c.args.changes.now c.loop-change-test.false)) ∙ c.loop-change.invariant.left
