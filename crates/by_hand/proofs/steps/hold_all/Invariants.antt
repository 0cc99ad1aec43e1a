use Rattle.std.proofs.Common.{◌≡◌, ℕ, take, drop}
use Rattle.turn_types.specs.Journal.{RiseWithin}
use Rattle.turn_types.specs.Shown.{AllBelow}
use Rattle.record_txn.specs.Goes.{Goes}
use Rattle.record_txn.specs.Hand.{chains_of}
use Rattle.record_txn.specs.Open.{IsOpen}
use Rattle.by_hand.specs.Steps.{HasTaken}
use Rattle.by_hand.proofs.steps.hold_all.Given as goal

abbrev pub invariant-loop-c : goal.invariant-loop-c
invariant-loop-c g l = let it = g.C.Cells in let rule = g.C.Rule.Replay in let s = l.txn in record {
  cells : s.cells.ghost_name ≡ l.fn.txn.cells.ghost_name;
  chains : s.chains ≡ l.fn.txn.chains;
  stop : s.stop ≡ l.fn.txn.stop;
  goes : Goes it.bond it.chains it.quiet it.shown it.beside l.fn.txn.cells.now s.cells.now;
  opened : IsOpen rule.step rule.legal rule.follows rule.buries (it.quiet s.cells.now) (it.chains s.cells.now) s.chains s.stop s.hand.items (it.shown s.cells.now);
  taken : HasTaken (it.shown l.fn.txn.cells.now) (it.shown s.cells.now) (take l.c-index l.footprint) (chains_of s.hand.items);
  rest : (n : ℕ) × AllBelow n (it.shown s.cells.now).held × RiseWithin n (it.chains s.cells.now) (drop l.c-index l.footprint);
}
