use Rattle.std.proofs.Common.{refl, ap, subst}
use Rattle.turn_types.specs.Ends.{HasFreed, HasStopped}
use Rattle.turn_types.specs.Shown.{Shown}
use Rattle.turn_types.specs.declared.answers.Recover.TheVariants.{Freed, Stopped}
use Rattle.record_txn.proofs.Going.{goes_on, goes_by, by_call}
use Rattle.record_txn.proofs.Holding.{number_recovered}
use Rattle.record_txn.proofs.hold.recover.Goals as goal

pub returns-in-Freed-clause-goes : goal.returns-in-Freed-clause-goes
returns-in-Freed-clause-goes g c = let it = g.C.Cells in let s = c.args.cells.now in let t = c.recover.new.self in let e = c.in-Freed.ensures in
    goes_on it.bond it.chains it.quiet it.shown it.beside s t c.give_all_back.new.cells
    (by_call it.bond it.chains it.quiet it.shown it.beside s t e.bond e.quiet e.beside (number_recovered _ _ (it.shown s) (it.shown t) Freed e.recovered)) c.give_all_back.ensures.goes

pub returns-in-Freed-clause-ends : goal.returns-in-Freed-clause-ends
returns-in-Freed-clause-ends g c = let it = g.C.Cells in
    let m = c.most_steps.ensures in let v = it.shown c.args.cells.now in let u = it.shown c.recover.new.self in
    (refl, (u, subst (λ k. HasFreed c.args.dead k v u) m c.in-Freed.ensures.recovered, c.give_all_back.ensures.given))

pub returns-in-Stopped-clause-goes : goal.returns-in-Stopped-clause-goes
returns-in-Stopped-clause-goes g c = let it = g.C.Cells in let s = c.args.cells.now in let t = c.recover.new.self in let u = c.die.new.self in let e = c.in-Stopped.ensures in let d = c.die.ensures in
    goes_by it.bond it.chains it.quiet it.shown it.beside s t u
    (by_call it.bond it.chains it.quiet it.shown it.beside s t e.bond e.quiet e.beside (number_recovered _ _ (it.shown s) (it.shown t) Stopped e.recovered))
    d.bond d.quiet d.beside (ap (λ (v : Shown g.row.C-Rule.Denot). v.number) d.died)

pub returns-in-Stopped-clause-ends : goal.returns-in-Stopped-clause-ends
returns-in-Stopped-clause-ends g c = let it = g.C.Cells in
    let m = c.most_steps.ensures in let v = it.shown c.args.cells.now in let u = it.shown c.recover.new.self in
    (u, subst (λ k. HasStopped c.args.dead k v u) m c.in-Stopped.ensures.recovered, c.die.ensures.died)
