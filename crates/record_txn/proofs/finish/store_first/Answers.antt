use Rattle.std.proofs.Common.{None}
use Rattle.record_txn.proofs.Going.{goes_on, by_call}
use Rattle.record_txn.proofs.Moving.{number_stored}
use Rattle.record_txn.proofs.finish.store_first.Goals as goal

pub returns-in-None-clause-goes : goal.returns-in-None-clause-goes
returns-in-None-clause-goes g c = let it = g.C.Cells in let s = c.args.cells.now in let t = c.store_next.new.self in let e = c.in-None.ensures in
    goes_on it.bond it.chains it.quiet it.shown it.beside s t c.give_first_back.new.cells (by_call it.bond it.chains it.quiet it.shown it.beside s t e.bond e.quiet e.beside (number_stored (it.shown s) (it.shown t) None e.stored)) c.give_first_back.ensures.goes
