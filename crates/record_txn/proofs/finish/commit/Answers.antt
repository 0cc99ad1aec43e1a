use Rattle.std.proofs.Common.{◌∙◌, sym}
use Rattle.turn_types.specs.declared.answers.Commit.TheVariants.{Done, Busy, OutOfMemory}
use Rattle.record_txn.proofs.Going.{goes_on, by_call}
use Rattle.record_txn.proofs.Finishing.{committed, number_committed}
use Rattle.record_txn.proofs.finish.commit.Goals as goal

pub returns-in-Done-clause-goes : goal.returns-in-Done-clause-goes
returns-in-Done-clause-goes g c = let it = g.C.Cells in let rule = g.C.Rule.Replay in let s = c.args.cells.now in let t = c.commit.new.self in let e = c.in-Done.ensures in
    goes_on it.bond it.chains it.quiet it.shown it.beside s t c.end_committed.new.cells (by_call it.bond it.chains it.quiet it.shown it.beside s t e.bond e.quiet e.beside (number_committed rule.step rule.legal rule.follows rule.buries (it.shown s) (it.shown t) c.args.entry (Done c.in-Done.place) e.commits)) c.end_committed.ensures.goes

pub returns-in-Done-clause-finished : goal.returns-in-Done-clause-finished
returns-in-Done-clause-finished g c = let it = g.C.Cells in let rule = g.C.Rule.Replay in
    committed rule.step rule.legal rule.follows rule.buries c.args.stop (it.shown c.args.cells.now) (it.shown c.commit.new.self) (it.shown c.end_committed.new.cells) c.args.entry c.in-Done.place c.end_committed.result
    (sym c.dies_early.ensures ∙ c.if-dies_early.false) c.in-Done.ensures.commits c.end_committed.ensures.ended

pub returns-in-Busy-clause-goes : goal.returns-in-Busy-clause-goes
returns-in-Busy-clause-goes g c = let it = g.C.Cells in let rule = g.C.Rule.Replay in let s = c.args.cells.now in let t = c.commit.new.self in let e = c.in-Busy.ensures in
    goes_on it.bond it.chains it.quiet it.shown it.beside s t c.drop_plan.new.cells (by_call it.bond it.chains it.quiet it.shown it.beside s t e.bond e.quiet e.beside (number_committed rule.step rule.legal rule.follows rule.buries (it.shown s) (it.shown t) c.args.entry (Busy c.in-Busy.holder) e.commits)) c.drop_plan.ensures.goes

pub returns-in-OutOfMemory-clause-goes : goal.returns-in-OutOfMemory-clause-goes
returns-in-OutOfMemory-clause-goes g c = let it = g.C.Cells in let rule = g.C.Rule.Replay in let s = c.args.cells.now in let t = c.commit.new.self in let e = c.in-OutOfMemory.ensures in
    goes_on it.bond it.chains it.quiet it.shown it.beside s t c.drop_plan-in-OutOfMemory.new.cells (by_call it.bond it.chains it.quiet it.shown it.beside s t e.bond e.quiet e.beside (number_committed rule.step rule.legal rule.follows rule.buries (it.shown s) (it.shown t) c.args.entry OutOfMemory e.commits)) c.drop_plan-in-OutOfMemory.ensures.goes
