use Rattle.std.proofs.Common.{◌≡◌, drop}
use Rattle.record_txn.specs.Hand.{chains_of}
use Rattle.record_txn.specs.Open.{IsOpen}
use Rattle.by_hand.specs.Steps.{AreHeld, with_changes, numbers}
use Rattle.by_hand.proofs.steps.change_all.Given as goal

abbrev pub invariant-loop-change : goal.invariant-loop-change
invariant-loop-change g l = let it = g.C.Cells in let rule = g.C.Rule.Replay in let s = l.txn in record {
  name : s.cells.ghost_name ≡ l.fn.txn.cells.ghost_name;
  cells : s.cells.now ≡ l.fn.txn.cells.now;
  chains : s.chains ≡ l.fn.txn.chains;
  stop : s.stop ≡ l.fn.txn.stop;
  opened : IsOpen rule.step rule.legal rule.follows rule.buries (it.quiet s.cells.now) (it.chains s.cells.now) s.chains s.stop s.hand.items (it.shown s.cells.now);
  rest : AreHeld s.chains (numbers (chains_of s.hand.items)) (drop l.change-index l.changes);
  changed : with_changes s.chains (drop l.change-index l.changes) (chains_of s.hand.items) ≡ with_changes l.fn.txn.chains l.changes (chains_of l.fn.txn.hand.items);
}
