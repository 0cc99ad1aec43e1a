use Rattle.std.proofs.Common.{◌≡◌, [], ◌∷◌, ap, sym, subst, ◌∙◌, rules}
use Rattle.std.specs.Prelude.{IfSome}
use mathlib.Core.Option.{some}
use Rattle.chain_map.specs.Pairs.{Pairs}
use Rattle.turn_types.specs.Shown.{look, replay}
use Rattle.record_txn.specs.Goes.{Goes}
use Rattle.record_txn.specs.Hand.{chains_of, changes_of}
use Rattle.record_txn.specs.Open.{IsOpen}
use Rattle.record_txn.specs.Finishing.{Finished, MayFinish, next_entry}
use Rattle.by_hand.specs.Steps.{HasLeft, AreHeld, numbers, with_changes}
use Rattle.by_hand.specs.Decided.{asked_chain, chosen}
use Rattle.by_hand.proofs.Holding.{when_ok}
use Rattle.by_hand.proofs.Deciding.{holds_for, goes_since, choice_found, asked_held, changes_held, finishes, done_is, undone_is}
use Rattle.by_hand.proofs.entry.enter.Goals as goal

pub is_stored-requires-clause-held : goal.is_stored-requires-clause-held
is_stored-requires-clause-held g c = let it = g.C.Cells in let rule = g.C.Rule.Replay in let s = c.args.cells.now in let x = c.args.decision.now in let n = c.args.chains in let t = c.hold_all.new.txn in
    let h = holds_for it.bond it.chains it.quiet it.shown it.beside rule.first rule.step rule.legal rule.follows rule.buries rule.names s _ t.cells.now n t.chains x t.stop t.hand.items c.start-txn.ensures.cells.1 c.hold_all.ensures.goes c.in_default.ensures.taken c.in_default.ensures.opened c.requires.decided c.tell.ensures in
    subst (λ m. (y : Pairs) × (look (asked_chain m x) (chains_of t.hand.items) ≡ some y)) (sym (c.hold_all.ensures.kept.0 ∙ c.start-txn.ensures.fresh.0)) (asked_held rule.first rule.step rule.legal rule.follows rule.buries rule.names (it.shown s) (it.shown t.cells.now) (it.beside s) (it.beside t.cells.now) n x (chains_of t.hand.items) h)

pub change_all-requires-clause-held : goal.change_all-requires-clause-held
change_all-requires-clause-held g c = let it = g.C.Cells in let rule = g.C.Rule.Replay in let s = c.args.cells.now in let x = c.args.decision.now in let n = c.args.chains in let t = c.hold_all.new.txn in
    let h = holds_for it.bond it.chains it.quiet it.shown it.beside rule.first rule.step rule.legal rule.follows rule.buries rule.names s _ t.cells.now n t.chains x t.stop t.hand.items c.start-txn.ensures.cells.1 c.hold_all.ensures.goes c.in_default.ensures.taken c.in_default.ensures.opened c.requires.decided c.tell.ensures in
    let begins = c.hold_all.ensures.kept.0 ∙ c.start-txn.ensures.fresh.0 in let choice = c.choice_of-choice.result in
    subst (λ m. AreHeld m (numbers (chains_of t.hand.items)) choice.changes.now) (sym begins) (changes_held rule.first rule.step rule.legal rule.follows rule.buries rule.names (it.shown s) (it.shown t.cells.now) (it.beside s) (it.beside t.cells.now) n x (chains_of t.hand.items) h choice
    (choice_found x (chains_of t.hand.items) t.chains n c.is_stored.result choice c.choice_of-choice.ensures c.is_stored.ensures begins))

pub finish-requires-clause-may : goal.finish-requires-clause-may
finish-requires-clause-may g c = let it = g.C.Cells in let rule = g.C.Rule.Replay in let s = c.args.cells.now in let x = c.args.decision.now in let n = c.args.chains in let t = c.hold_all.new.txn in let u = c.change_all.new.txn in
    let h = holds_for it.bond it.chains it.quiet it.shown it.beside rule.first rule.step rule.legal rule.follows rule.buries rule.names s _ t.cells.now n t.chains x t.stop t.hand.items c.start-txn.ensures.cells.1 c.hold_all.ensures.goes c.in_default.ensures.taken c.in_default.ensures.opened c.requires.decided c.tell.ensures in
    let begins = c.hold_all.ensures.kept.0 ∙ c.start-txn.ensures.fresh.0 in let choice = c.choice_of-choice.result in let same = c.change_all.ensures.cells.1 in
    let changed = subst (λ m. chains_of u.hand.items ≡ with_changes m choice.changes.now (chains_of t.hand.items)) begins (when_ok c.change_all.result c.change_all.ensures.changed (search rules)) in
    subst (λ y. MayFinish rule.step rule.legal rule.follows rule.buries rule.names (chains_of u.hand.items) (it.shown y) (next_entry (it.shown y) choice.event)) (sym same)
    (finishes rule.first rule.step rule.legal rule.follows rule.buries rule.names (it.shown s) (it.shown t.cells.now) (it.beside s) (it.beside t.cells.now) n x (chains_of t.hand.items) h rule.law choice (it.quiet t.cells.now) (it.chains t.cells.now) u.chains u.stop u.hand.items
    (choice_found x (chains_of t.hand.items) t.chains n c.is_stored.result choice c.choice_of-choice.ensures c.is_stored.ensures begins)
    (subst (λ y. IsOpen rule.step rule.legal rule.follows rule.buries (it.quiet y) (it.chains y) u.chains u.stop u.hand.items (it.shown y)) same c.change_all.ensures.opened) changed)

pub returns-then-is_err-clause-goes : goal.returns-then-is_err-clause-goes
returns-then-is_err-clause-goes g c = let it = g.C.Cells in
    subst (λ y. Goes it.bond it.chains it.quiet it.shown it.beside c.args.cells.now y) (search rules)
    (goes_since it.bond it.chains it.quiet it.shown it.beside c.args.cells.now _ c.hold_all.new.txn.cells.now c.change_all.new.txn.cells.now c.drop_all.new.self.0 c.start-txn.ensures.cells.1 c.hold_all.ensures.goes c.change_all.ensures.cells.1 c.drop_all.ensures.goes)

pub returns-in-Done-clause-goes : goal.returns-in-Done-clause-goes
returns-in-Done-clause-goes g c = let it = g.C.Cells in
    subst (λ y. Goes it.bond it.chains it.quiet it.shown it.beside c.args.cells.now y) (search rules)
    (goes_since it.bond it.chains it.quiet it.shown it.beside c.args.cells.now _ c.hold_all.new.txn.cells.now c.change_all.new.txn.cells.now c.finish.new.self.0 c.start-txn.ensures.cells.1 c.hold_all.ensures.goes c.change_all.ensures.cells.1 c.finish.ensures.goes)

pub returns-in-Done-clause-entered : goal.returns-in-Done-clause-entered
returns-in-Done-clause-entered g c = let it = g.C.Cells in let rule = g.C.Rule.Replay in let s = c.args.cells.now in let x = c.args.decision.now in let n = c.args.chains in let t = c.hold_all.new.txn in let u = c.change_all.new.txn in
    let h = holds_for it.bond it.chains it.quiet it.shown it.beside rule.first rule.step rule.legal rule.follows rule.buries rule.names s _ t.cells.now n t.chains x t.stop t.hand.items c.start-txn.ensures.cells.1 c.hold_all.ensures.goes c.in_default.ensures.taken c.in_default.ensures.opened c.requires.decided c.tell.ensures in
    let begins = c.hold_all.ensures.kept.0 ∙ c.start-txn.ensures.fresh.0 in let choice = c.choice_of-choice.result in
    let never = c.change_all.ensures.kept.1 ∙ c.hold_all.ensures.kept.1 ∙ c.start-txn.ensures.fresh.1 in let z = c.finish.new.self.0 in
    subst (λ y. IfSome (it.beside s) (λ b. HasLeft (it.shown s) (it.shown y) (next_entry (it.shown s) (chosen n (replay rule.step (it.shown s) b.journal) x).event ∷ []))) (search rules)
    (done_is rule.first rule.step rule.legal rule.follows rule.buries rule.names (it.shown s) (it.shown t.cells.now) (it.beside s) (it.beside t.cells.now) n x (chains_of t.hand.items) h (it.shown u.cells.now) (it.shown z) choice u.stop (changes_of u.hand.items) c.in-Done.place
    (choice_found x (chains_of t.hand.items) t.chains n c.is_stored.result choice c.choice_of-choice.ensures c.is_stored.ensures begins) (ap it.shown c.change_all.ensures.cells.1) never
    (subst (λ r. Finished rule.step rule.legal rule.follows rule.buries u.stop (changes_of u.hand.items) (it.shown u.cells.now) (it.shown z) (next_entry (it.shown u.cells.now) choice.event) r) c.in-Done.is c.finish.ensures.finished))

pub returns-in_default-finish : goal.returns-in_default-finish
returns-in_default-finish g c = let it = g.C.Cells in let rule = g.C.Rule.Replay in let s = c.args.cells.now in let x = c.args.decision.now in let n = c.args.chains in let t = c.hold_all.new.txn in let u = c.change_all.new.txn in
    let h = holds_for it.bond it.chains it.quiet it.shown it.beside rule.first rule.step rule.legal rule.follows rule.buries rule.names s _ t.cells.now n t.chains x t.stop t.hand.items c.start-txn.ensures.cells.1 c.hold_all.ensures.goes c.in_default.ensures.taken c.in_default.ensures.opened c.requires.decided c.tell.ensures in
    let never = c.change_all.ensures.kept.1 ∙ c.hold_all.ensures.kept.1 ∙ c.start-txn.ensures.fresh.1 in let z = c.finish.new.self.0 in let what = c.choice_of-choice.result.event in record {
      goes = subst (λ y. Goes it.bond it.chains it.quiet it.shown it.beside s y) (search rules)
          (goes_since it.bond it.chains it.quiet it.shown it.beside s _ t.cells.now u.cells.now z c.start-txn.ensures.cells.1 c.hold_all.ensures.goes c.change_all.ensures.cells.1 c.finish.ensures.goes);
      entered = tt;
      undone = subst (λ y. HasLeft (it.shown s) (it.shown y) []) (search rules) (undone_is rule.first rule.step rule.legal rule.follows rule.buries rule.names (it.shown s) (it.shown t.cells.now) (it.beside s) (it.beside t.cells.now) n x (chains_of t.hand.items) h (it.shown u.cells.now) (it.shown z) u.stop (changes_of u.hand.items) what
          c.finish.result (ap it.shown c.change_all.ensures.cells.1) never c.in_default-finish.not-Done c.finish.ensures.finished);
    }
