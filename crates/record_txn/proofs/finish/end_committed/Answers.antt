use Rattle.std.proofs.Common.{◌∙◌, length, ap, arith}
use Rattle.turn_types.specs.Shown.{Shown, Numbered, due}
use Rattle.record_txn.proofs.Going.{goes_on, goes_by}
use Rattle.record_txn.proofs.Finishing.{changed_long}
use Rattle.record_txn.proofs.finish.end_committed.Goals as goal

pub give_all_back-requires-clause-over : goal.give_all_back-requires-clause-over
give_all_back-requires-clause-over g c = let v = g.C.Cells.shown c.args.cells.now in
    let same = ap (λ (t : Shown g.row.C-Rule.Denot). length t.held) c.store_all.ensures.stored ∙ changed_long (due v.plan) v.held in
    λ none. let empty = ap (λ (t : Numbered). length t) none in absurd (omega (arith, c.requires.some_held, same, empty))

pub returns-in-None-clause-goes : goal.returns-in-None-clause-goes
returns-in-None-clause-goes g c = let it = g.C.Cells in
    goes_on it.bond it.chains it.quiet it.shown it.beside c.args.cells.now c.store_all.new.cells c.give_all_back.new.cells c.store_all.ensures.goes c.give_all_back.ensures.goes

pub returns-in-Some-clause-goes : goal.returns-in-Some-clause-goes
returns-in-Some-clause-goes g c = let it = g.C.Cells in let e = c.die.ensures in
    goes_by it.bond it.chains it.quiet it.shown it.beside c.args.cells.now c.reach.new.cells c.die.new.self c.reach.ensures.goes e.bond e.quiet e.beside (ap (λ (v : Shown g.row.C-Rule.Denot). v.number) e.died)
