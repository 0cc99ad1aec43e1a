use Rattle.std.proofs.Common.{[], sym, refl, ◌∙◌, arith, append-nil}
use Rattle.tests.proofs.Steps.{few_at}
use Rattle.tests.proofs.adding.add.Goals as goal

pub loop-init : goal.loop-init
loop-init g c =
    let v = g.C.Cells.shown c.args.cells.now in (
      refl,
      refl,
      c.calls_in_a_row.ensures.none v (g.C.Cells.beside c.args.cells.now) (g.C.Cells.tells c.args.cells.now),
      refl,
      (record { able = c.requires.idle.0; number = refl; seen = ([], sym (append-nil v.seen)); own = refl }, c.requires.idle.1, c.requires.idle.2),
    )

pub advance-requires-clause-chains : goal.advance-requires-clause-chains
advance-requires-clause-chains g c = let same = c.loop.invariant.1 in (omega arith, omega arith)

pub advance-requires-clause-few : goal.advance-requires-clause-few
advance-requires-clause-few g c = few_at (g.C.Cells.shown c.args.cells.now) _ c.args.c _ c.loop.invariant.4 c.requires.few

pub advance-requires-clause-at : goal.advance-requires-clause-at
advance-requires-clause-at g c = (g.C.Cells.shown c.args.cells.now, c.loop.invariant.4)

pub returns-in_err-stage-clause-bond : goal.returns-in_err-stage-clause-bond
returns-in_err-stage-clause-bond g c = (c.advance.ensures.bond.0 ∙ c.loop.invariant.0, c.advance.ensures.bond.1 ∙ c.loop.invariant.1)

pub returns-in_err-stage-clause-beside : goal.returns-in_err-stage-clause-beside
returns-in_err-stage-clause-beside g c = c.calls_in_a_row.ensures.two (g.C.Cells.shown c.args.cells.now) (g.C.Cells.shown c.loop.cells) (g.C.Cells.shown c.advance.new.cells) (g.C.Cells.beside c.args.cells.now) (g.C.Cells.beside c.loop.cells) (g.C.Cells.beside c.advance.new.cells) c.loop.invariant.3 c.loop.invariant.2 c.advance.ensures.beside

pub loop-preserved : goal.loop-preserved
loop-preserved g c =
    let i = c.loop.invariant in let v = g.C.Cells.shown c.args.cells.now in (
      c.advance.ensures.bond.0 ∙ i.0,
      c.advance.ensures.bond.1 ∙ i.1,
      c.calls_in_a_row.ensures.two (g.C.Cells.shown c.args.cells.now) (g.C.Cells.shown c.loop.cells) (g.C.Cells.shown c.advance.new.cells) (g.C.Cells.beside c.args.cells.now) (g.C.Cells.beside c.loop.cells) (g.C.Cells.beside c.advance.new.cells) i.3 i.2 c.advance.ensures.beside,
      c.advance.ensures.number ∙ i.3,
      c.in_ok-stage.ensures.at v i.4,
    )

pub returns-clause-bond : goal.returns-clause-bond
returns-clause-bond g c = let i = c.loop.invariant in (i.0, i.1)

pub returns-clause-beside : goal.returns-clause-beside
returns-clause-beside g c = c.loop.invariant.2

pub returns-clause-at : goal.returns-clause-at
returns-clause-at g c = c.loop.invariant.4
