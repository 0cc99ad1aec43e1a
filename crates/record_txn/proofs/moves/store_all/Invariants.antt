use Rattle.std.proofs.Common.{length}
use Rattle.turn_types.specs.Shown.{due}
use Rattle.record_txn.specs.Goes.{Goes}
use Rattle.record_txn.proofs.Moving.{IsStoring}
use Rattle.record_txn.proofs.moves.store_all.Given as goal

abbrev pub invariant-loop-chain : goal.invariant-loop-chain
invariant-loop-chain g l = let it = g.C.Cells in record {
  goes : Goes it.bond it.chains it.quiet it.shown it.beside l.fn.cells l.cells;
  stores : IsStoring (it.shown l.fn.cells) (it.shown l.cells);
}

abbrev pub decreases-loop-chain : goal.decreases-loop-chain
decreases-loop-chain g l = length (due (g.C.Cells.shown l.cells).plan)
