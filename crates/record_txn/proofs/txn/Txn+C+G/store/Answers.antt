use Rattle.std.proofs.Common.{List, sym, subst}
use Rattle.record_txn.specs.Hand.{IsHandOf}
use Rattle.record_txn.specs.declared.hand.Held.{Held}
use Rattle.record_txn.proofs.Hands.{still_hand}
use Rattle.record_txn.proofs.Holding.{opens_with}
use Rattle.record_txn.proofs.txn.Txn+C+G.store.Goals as goal

pub returns-clause-opened : goal.returns-clause-opened
returns-clause-opened g c = let it = g.C.Cells in let rule = g.C.Rule.Replay in let s = c.args.self.now in let v = it.shown s.cells.now in let o = c.requires.opened in
    opens_with rule.step rule.legal rule.follows rule.buries (it.quiet s.cells.now) (it.chains s.cells.now) s.chains s.stop s.hand.items c.put_in.new.hand.items v o
    (subst (λ (t : List Held). IsHandOf t v.held) (sym c.in_ok-put_in.ensures.ok) (still_hand _ _ s.hand.items v.held o.hand))
