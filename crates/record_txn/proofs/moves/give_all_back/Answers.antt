use Rattle.std.proofs.Common.{refl}
use Rattle.record_txn.proofs.Going.{stays, goes_on, by_call}
use Rattle.record_txn.proofs.Moving.{gives_none, gives_one, number_released}
use Rattle.record_txn.proofs.moves.give_all_back.Goals as goal

pub loop-chain-init : goal.loop-chain-init
loop-chain-init g c = let it = g.C.Cells in let s = c.args.cells.now in record {
  goes = stays it.bond it.chains it.quiet it.shown it.beside s (it.tells s);
  gives = gives_none (it.shown s) (it.shown s) c.requires.stored c.requires.over refl;
}

pub loop-chain-preserved : goal.loop-chain-preserved
loop-chain-preserved g c = let it = g.C.Cells in let s = c.loop-chain.cells in let t = c.release_next.new.self in let e = c.release_next.ensures in record {
  goes = goes_on it.bond it.chains it.quiet it.shown it.beside c.args.cells.now s t c.loop-chain.invariant.goes (by_call it.bond it.chains it.quiet it.shown it.beside s t e.bond e.quiet e.beside (number_released (it.shown s) (it.shown t) c.release_next.result e.released));
  gives = gives_one (it.shown c.args.cells.now) (it.shown s) (it.shown t) c.in-Some.chain c.loop-chain.invariant.gives c.in-Some.ensures.released;
}

pub returns-clause-goes : goal.returns-clause-goes
returns-clause-goes g c = let it = g.C.Cells in let s = c.loop-chain.cells in let t = c.release_next.new.self in let e = c.release_next.ensures in
    goes_on it.bond it.chains it.quiet it.shown it.beside c.args.cells.now s t c.loop-chain.invariant.goes (by_call it.bond it.chains it.quiet it.shown it.beside s t e.bond e.quiet e.beside (number_released (it.shown s) (it.shown t) c.release_next.result e.released))
