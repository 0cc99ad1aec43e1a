use Rattle.std.proofs.Common.{length}
use Rattle.record_txn.specs.Goes.{Goes}
use Rattle.record_txn.proofs.Moving.{IsGiving}
use Rattle.record_txn.proofs.moves.give_all_back.Given as goal

abbrev pub invariant-loop-chain : goal.invariant-loop-chain
invariant-loop-chain g l = let it = g.C.Cells in record {
  goes : Goes it.bond it.chains it.quiet it.shown it.beside l.fn.cells l.cells;
  gives : IsGiving (it.shown l.fn.cells) (it.shown l.cells);
}

abbrev pub decreases-loop-chain : goal.decreases-loop-chain
decreases-loop-chain g l = length (g.C.Cells.shown l.cells).held
