use Rattle.std.proofs.Common.{false, List, [], ◌∷◌, ◌++◌, ◌∙◌, sym, ap, subst}
use Rattle.record_txn.specs.Hand.{chains_of}
use Rattle.record_txn.specs.Holding.{dies_at_first}
use Rattle.record_txn.specs.Open.{IsOpen}
use Rattle.record_txn.specs.declared.hand.Held.{Held}
use Rattle.record_txn.proofs.Hands.{chains_snoc}
use Rattle.record_txn.proofs.Holding.{opens_more, same_death}
use Rattle.record_txn.proofs.txn.Txn+C+G.hold.Goals as goal

pub take_and_read-requires-clause-dies : goal.take_and_read-requires-clause-dies
take_and_read-requires-clause-dies g c = let s = c.args.self.now in
    c.dies_at_first-dies.ensures ∙ ap (λ (t : List Held). dies_at_first s.stop (chains_of t)) (c.as_slice.ensures.value ∙ c.reserve.ensures.items) ∙ same_death s.stop s.hand.items (g.C.Cells.shown s.cells.now).held c.requires.opened.hand

pub returns-clause-opened : goal.returns-clause-opened
returns-clause-opened g c =
    let it = g.C.Cells in let rule = g.C.Rule.Replay in let s = c.args.self.now in let t = c.take_and_read.new.cells in let e = c.in_ok-chain.ensures in let o = c.requires.opened in
    let more = opens_more rule.step rule.legal rule.follows rule.buries (it.quiet s.cells.now) (it.quiet t) (it.chains s.cells.now) (it.chains t) s.chains s.stop s.hand.items c.args.c c.in_ok-chain.chain (it.shown s.cells.now) (it.shown t)
    o (e.goes.quiet o.quiet) e.goes.chains c.requires.chain.1 e.lives e.holds in
    let h : Held = record { number = c.args.c; chain = c.in_ok-chain.chain; is_changed = false } in
    subst (λ (k : List Held). IsOpen rule.step rule.legal rule.follows rule.buries (it.quiet t) (it.chains t) s.chains s.stop k (it.shown t)) (sym (c.push_reserved.ensures.items ∙ ap (λ (k : List Held). k ++ h ∷ []) c.reserve.ensures.items)) more

pub returns-clause-holds : goal.returns-clause-holds
returns-clause-holds g c = let s = c.args.self.now in let h : Held = record { number = c.args.c; chain = c.in_ok-chain.chain; is_changed = false } in
    (c.in_ok-chain.chain, c.in_ok-chain.ensures.holds, ap chains_of (c.push_reserved.ensures.items ∙ ap (λ (t : List Held). t ++ h ∷ []) c.reserve.ensures.items) ∙ chains_snoc s.hand.items h)
