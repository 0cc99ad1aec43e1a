use Rattle.std.proofs.Common.{◌+◌, ap, subst}
use Rattle.tests.specs.Adding.{At}
use Rattle.tests.specs.declared.adding.Stage.{Stage}
use Rattle.tests.proofs.Steps.{fits_both, planned_both, fits_add, placed, stored_one, stored_both, gave_one, gave_both}
use Rattle.tests.proofs.adding.advance.Goals as goal

pub returns-in_err-new-in-ReadBoth-clause-beside : goal.returns-in_err-new-in-ReadBoth-clause-beside
returns-in_err-new-in-ReadBoth-clause-beside g c = c.calls_in_a_row.ensures.none (g.C.Cells.shown c.args.cells.now) (g.C.Cells.beside c.args.cells.now) (g.C.Cells.tells c.args.cells.now)

pub plan-requires-clause-new : goal.plan-requires-clause-new
plan-requires-clause-new g c =
    let w = g.C.Cells.shown c.args.cells.now in let v = c.requires.at.0 in
    fits_both v w c.args.c _ _ _ c.in_ok-new-in-ReadBoth.ensures (subst (λ (s : Stage). At v c.args.c s w) c.in-ReadBoth.is c.requires.at.1)

pub returns-in_ok-new-in-ReadBoth-clause-at : goal.returns-in_ok-new-in-ReadBoth-clause-at
returns-in_ok-new-in-ReadBoth-clause-at g c = λ v at.
    let w = g.C.Cells.shown c.args.cells.now in
    planned_both v w (g.C.Cells.shown c.plan.new.self) c.args.c _ _ _ c.in_ok-new-in-ReadBoth.ensures c.plan.ensures.planned (subst (λ (s : Stage). At v c.args.c s w) c.in-ReadBoth.is at)

pub commit-requires-clause-fits : goal.commit-requires-clause-fits
commit-requires-clause-fits g c =
    let w = g.C.Cells.shown c.args.cells.now in let v = c.requires.at.0 in let a = subst (λ (s : Stage). At v c.args.c s w) c.in-Planned.is c.requires.at.1 in
    fits_add w c.args.c a.1.0 a.1.1 _ _ a.1.2 a.1.3 a.2 c.number-by.ensures (ap (λ n. n + 1) c.commits-seq.ensures)

pub returns-in-Done-commit-clause-at : goal.returns-in-Done-commit-clause-at
returns-in-Done-commit-clause-at g c = λ v at.
    let w = g.C.Cells.shown c.args.cells.now in let a = subst (λ (s : Stage). At v c.args.c s w) c.in-Planned.is at in
    placed v w (g.C.Cells.shown c.commit.new.self) c.args.c c.in-Done-commit.place a.1.0 a.1.1 _ _ a.0 a.1.2 a.1.3 c.number-by.ensures (ap (λ n. n + 1) c.commits-seq.ensures) c.in-Done-commit.ensures.commits

pub returns-in-Committed-clause-at : goal.returns-in-Committed-clause-at
returns-in-Committed-clause-at g c = λ v at.
    let w = g.C.Cells.shown c.args.cells.now in
    stored_one v w (g.C.Cells.shown c.store_next.new.self) c.args.c c.in-Committed.place c.store_next.result c.store_next.ensures.stored (subst (λ (s : Stage). At v c.args.c s w) c.in-Committed.is at)

pub returns-in-StoredOne-clause-at : goal.returns-in-StoredOne-clause-at
returns-in-StoredOne-clause-at g c = λ v at.
    let w = g.C.Cells.shown c.args.cells.now in
    stored_both v w (g.C.Cells.shown c.store_next-in-StoredOne.new.self) c.args.c c.in-StoredOne.place c.store_next-in-StoredOne.result c.store_next-in-StoredOne.ensures.stored (subst (λ (s : Stage). At v c.args.c s w) c.in-StoredOne.is at)

pub returns-in-StoredBoth-clause-at : goal.returns-in-StoredBoth-clause-at
returns-in-StoredBoth-clause-at g c = λ v at.
    let w = g.C.Cells.shown c.args.cells.now in
    gave_one v w (g.C.Cells.shown c.release_next.new.self) c.args.c c.in-StoredBoth.place c.release_next.result c.release_next.ensures.released (subst (λ (s : Stage). At v c.args.c s w) c.in-StoredBoth.is at)

pub returns-in-GaveOne-clause-at : goal.returns-in-GaveOne-clause-at
returns-in-GaveOne-clause-at g c = λ v at.
    let w = g.C.Cells.shown c.args.cells.now in
    gave_both v w (g.C.Cells.shown c.release_next-in-GaveOne.new.self) c.args.c c.in-GaveOne.place c.release_next-in-GaveOne.result c.release_next-in-GaveOne.ensures.released (subst (λ (s : Stage). At v c.args.c s w) c.in-GaveOne.is at)

pub returns-in-Done-clause-beside : goal.returns-in-Done-clause-beside
returns-in-Done-clause-beside g c = c.calls_in_a_row.ensures.none (g.C.Cells.shown c.args.cells.now) (g.C.Cells.beside c.args.cells.now) (g.C.Cells.tells c.args.cells.now)
