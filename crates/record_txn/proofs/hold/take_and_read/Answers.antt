use Rattle.std.proofs.Common.{ap}
use Rattle.turn_types.specs.Shown.{Shown}
use Rattle.turn_types.specs.declared.answers.Take.TheVariants.{Taken, Orphan}
use Rattle.record_txn.proofs.Going.{goes_on, goes_by, by_call}
use Rattle.record_txn.proofs.Holding.{number_tried, taken_found, taken_read, met_orphan}
use Rattle.record_txn.proofs.hold.take_and_read.Goals as goal

pub returns-then-dies-clause-goes : goal.returns-then-dies-clause-goes
returns-then-dies-clause-goes g c = let it = g.C.Cells in let s = c.args.cells.now in let t = c.take.new.self in let u = c.die.new.self in let e = c.in-Taken.ensures in let d = c.die.ensures in
    goes_by it.bond it.chains it.quiet it.shown it.beside s t u
    (by_call it.bond it.chains it.quiet it.shown it.beside s t e.bond (λ q. e.quiet) e.beside (number_tried c.args.c (it.shown s) (it.shown t) Taken e.tried))
    d.bond d.quiet d.beside (ap (λ (v : Shown g.row.C-Rule.Denot). v.number) d.died)

pub read-requires-clause-held : goal.read-requires-clause-held
read-requires-clause-held g c = let it = g.C.Cells in
    let t = c.in-Taken.ensures.tried in (t.0, taken_found c.args.c (it.shown c.args.cells.now) (it.shown c.take.new.self) c.requires.chain.1 t)

pub returns-in-Ok-clause-goes : goal.returns-in-Ok-clause-goes
returns-in-Ok-clause-goes g c = let it = g.C.Cells in let s = c.args.cells.now in let t = c.take.new.self in let u = c.read.new.self in let e = c.in-Taken.ensures in let d = c.in-Ok.ensures in
    goes_by it.bond it.chains it.quiet it.shown it.beside s t u
    (by_call it.bond it.chains it.quiet it.shown it.beside s t e.bond (λ q. e.quiet) e.beside (number_tried c.args.c (it.shown s) (it.shown t) Taken e.tried))
    d.bond d.quiet d.beside (ap (λ (v : Shown g.row.C-Rule.Denot). v.number) d.learnt.shown)

pub returns-in-Ok-clause-holds : goal.returns-in-Ok-clause-holds
returns-in-Ok-clause-holds g c = let it = g.C.Cells in let rule = g.C.Rule.Replay in
    taken_read rule.step rule.legal rule.follows rule.buries c.args.c (it.shown c.args.cells.now) (it.shown c.take.new.self) (it.shown c.read.new.self) c.in-Ok.chain c.requires.chain.1 c.in-Taken.ensures.tried c.in-Ok.ensures.learnt

pub returns-in-Err-clause-goes : goal.returns-in-Err-clause-goes
returns-in-Err-clause-goes g c = let it = g.C.Cells in let s = c.args.cells.now in let t = c.take.new.self in let u = c.read.new.self in let e = c.in-Taken.ensures in let d = c.in-Err.ensures in
    goes_on it.bond it.chains it.quiet it.shown it.beside s u c.give_all_back.new.cells
    (goes_by it.bond it.chains it.quiet it.shown it.beside s t u
    (by_call it.bond it.chains it.quiet it.shown it.beside s t e.bond (λ q. e.quiet) e.beside (number_tried c.args.c (it.shown s) (it.shown t) Taken e.tried))
    d.bond d.quiet d.beside (ap (λ (v : Shown g.row.C-Rule.Denot). v.number) d.refused.shown)) c.give_all_back.ensures.goes

pub returns-in-Orphan-clause-goes : goal.returns-in-Orphan-clause-goes
returns-in-Orphan-clause-goes g c = let it = g.C.Cells in let s = c.args.cells.now in let t = c.take.new.self in let e = c.in-Orphan.ensures in
    goes_on it.bond it.chains it.quiet it.shown it.beside s t c.recover.new.cells
    (by_call it.bond it.chains it.quiet it.shown it.beside s t e.bond (λ q. e.quiet) e.beside (number_tried c.args.c (it.shown s) (it.shown t) (Orphan c.in-Orphan.holder) e.tried)) c.recover.ensures.goes

pub returns-in-Orphan-clause-ends : goal.returns-in-Orphan-clause-ends
returns-in-Orphan-clause-ends g c = let it = g.C.Cells in
    met_orphan c.args.c c.in-Orphan.holder c.args.stop (it.shown c.args.cells.now) (it.shown c.take.new.self) (it.shown c.recover.new.cells) c.recover.result c.requires.unplanned c.in-Orphan.ensures.tried c.recover.ensures.ends
