use Rattle.std.proofs.Common.{refl}
use Rattle.record_txn.proofs.Going.{stays, goes_on, by_call}
use Rattle.record_txn.proofs.Moving.{stores_none, stores_one, number_stored}
use Rattle.record_txn.proofs.moves.store_all.Goals as goal

pub loop-chain-init : goal.loop-chain-init
loop-chain-init g c = let it = g.C.Cells in let s = c.args.cells.now in record {
  goes = stays it.bond it.chains it.quiet it.shown it.beside s (it.tells s);
  stores = stores_none (it.shown s) (it.shown s) c.requires.committed refl;
}

pub loop-chain-preserved : goal.loop-chain-preserved
loop-chain-preserved g c = let it = g.C.Cells in let s = c.loop-chain.cells in let t = c.store_next.new.self in let e = c.store_next.ensures in record {
  goes = goes_on it.bond it.chains it.quiet it.shown it.beside c.args.cells.now s t c.loop-chain.invariant.goes (by_call it.bond it.chains it.quiet it.shown it.beside s t e.bond e.quiet e.beside (number_stored (it.shown s) (it.shown t) c.store_next.result e.stored));
  stores = stores_one (it.shown c.args.cells.now) (it.shown s) (it.shown t) c.in-Some.chain c.loop-chain.invariant.stores c.in-Some.ensures.stored;
}

pub returns-clause-goes : goal.returns-clause-goes
returns-clause-goes g c = let it = g.C.Cells in let s = c.loop-chain.cells in let t = c.store_next.new.self in let e = c.store_next.ensures in
    goes_on it.bond it.chains it.quiet it.shown it.beside c.args.cells.now s t c.loop-chain.invariant.goes (by_call it.bond it.chains it.quiet it.shown it.beside s t e.bond e.quiet e.beside (number_stored (it.shown s) (it.shown t) c.store_next.result e.stored))
