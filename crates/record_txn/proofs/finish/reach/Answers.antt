use Rattle.std.proofs.Common.{◌∙◌, length, ap, arith}
use Rattle.turn_types.specs.Shown.{Shown, due}
use Rattle.record_txn.proofs.Going.{goes_on, stays}
use Rattle.record_txn.proofs.Finishing.{changed_long, stays_there}
use Rattle.record_txn.proofs.finish.reach.Goals as goal

pub give_first_back-requires-clause-some_held : goal.give_first_back-requires-clause-some_held
give_first_back-requires-clause-some_held g c = let v = g.C.Cells.shown c.args.cells.now in
    let same = ap (λ (t : Shown g.row.C-Rule.Denot). length t.held) c.store_all.ensures.stored ∙ changed_long (due v.plan) v.held in omega (arith, c.requires.some_held, same)

pub returns-in-Release-clause-goes : goal.returns-in-Release-clause-goes
returns-in-Release-clause-goes g c = let it = g.C.Cells in
    goes_on it.bond it.chains it.quiet it.shown it.beside c.args.cells.now c.store_all.new.cells c.give_first_back.new.cells c.store_all.ensures.goes c.give_first_back.ensures.goes

pub returns-in-Take : goal.returns-in-Take
returns-in-Take g c = let it = g.C.Cells in record { goes = stays it.bond it.chains it.quiet it.shown it.beside c.args.cells.now (it.tells c.args.cells.now); reached = stays_there (it.shown c.args.cells.now) c.args.point c.in-Take.is; lives = c.requires.able.lives }
