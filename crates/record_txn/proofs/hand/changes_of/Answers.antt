use Rattle.std.proofs.Common.{cond, [], ◌∷◌, ◌++◌, sym, ap, ◌∙◌, append-nil}
use Rattle.turn_types.specs.Shown.{Numbered}
use Rattle.record_txn.specs.Hand.{changes_of}
use Rattle.record_txn.proofs.Hands.{changes_snoc}
use Rattle.record_txn.proofs.hand.changes_of.Goals as goal

pub loop-held-preserved-in-Continue-branch-2 : goal.loop-held-preserved-in-Continue-branch-2
loop-held-preserved-in-Continue-branch-2 c = let h = c.in-Some.held in let so = c.loop-held.yielded in
    c.in_ok-push.ensures.items ∙ ap (λ (t : Numbered). t ++ (h.number, h.chain) ∷ []) c.loop-held.invariant ∙ sym (changes_snoc so h ∙ ap (λ b. changes_of so ++ cond b ((h.number, h.chain) ∷ []) []) c.if-held.true)

pub loop-held-preserved : goal.loop-held-preserved
loop-held-preserved c = let h = c.in-Some.held in let so = c.loop-held.yielded in
    c.loop-held.invariant ∙ sym (changes_snoc so h ∙ ap (λ b. changes_of so ++ cond b ((h.number, h.chain) ∷ []) []) c.if-held.false ∙ append-nil (changes_of so))
