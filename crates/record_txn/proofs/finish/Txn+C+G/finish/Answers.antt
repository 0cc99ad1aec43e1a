use Rattle.std.proofs.Common.{◌≡◌, ◌+◌, ◌∙◌, length, refl, sym, ap, subst}
use Rattle.sid_core.specs.declared.entry.Entry.{Entry}
use Rattle.turn_types.specs.Shown.{Shown, Numbered, RisesFrom, Within, IsPart, planned}
use Rattle.turn_types.specs.Journal.{Chains}
use Rattle.turn_types.specs.Calls.{Fits}
use Rattle.record_txn.specs.Hand.{chains_of, changes_of}
use Rattle.record_txn.specs.Finishing.{Finished, next_entry}
use Rattle.record_txn.proofs.Going.{goes_on, by_call}
use Rattle.record_txn.proofs.Becoming.{becomes, at_last}
use Rattle.record_txn.proofs.Hands.{changes_rise, changes_within}
use Rattle.record_txn.proofs.Finishing.{fits_finish, finished_from}
use Rattle.record_txn.proofs.finish.Txn+C+G.finish.Goals as goal

pub plan-requires-clause-new : goal.plan-requires-clause-new
plan-requires-clause-new g c = let s = c.args.self in let v = g.C.Cells.shown s.cells.now in let o = c.requires.opened in
    subst (λ (t : Numbered). RisesFrom 0 t × Within t v.held) (sym c.in-Ok.ensures) (changes_rise 0 s.hand.items v.held o.hand o.rising, changes_within s.hand.items v.held o.hand)

pub commit-requires-clause-fits : goal.commit-requires-clause-fits
commit-requires-clause-fits g c = let it = g.C.Cells in let rule = g.C.Rule.Replay in let s = c.args.self in let v = it.shown s.cells.now in let p = it.shown c.plan.new.self in let o = c.requires.opened in
    let q = c.plan.ensures.planned in
    let by = c.number.ensures ∙ ap (λ (t : Shown g.row.C-Rule.Denot). t.number) q.0 in let seq = ap (λ n. n + 1) (c.commits.ensures ∙ ap (λ (t : Shown g.row.C-Rule.Denot). length t.own) q.0) in
    let is : next_entry v c.args.what ≡ record { by = c.number.result; seq = c.commits.result + 1; what = c.args.what } = λ j. record { by = sym by j; seq = sym seq j; what = c.args.what } in
    subst (λ (t : Entry). Fits rule.step rule.legal rule.follows rule.buries rule.names p t) is
    (fits_finish rule.step rule.legal rule.follows rule.buries rule.names s.hand.items c.in-Ok.changes.items v p (next_entry v c.args.what) refl refl o.hand o.rising o.parts c.requires.may c.in-Ok.ensures q)

pub returns-clause-goes : goal.returns-clause-goes
returns-clause-goes g c = let it = g.C.Cells in let s = c.args.self.cells.now in let t = c.plan.new.self in let e = c.plan.ensures in
    goes_on it.bond it.chains it.quiet it.shown it.beside s t c.commit.new.cells (by_call it.bond it.chains it.quiet it.shown it.beside s t e.bond e.quiet e.beside (ap (λ (v : Shown g.row.C-Rule.Denot). v.number) e.planned.0)) c.commit.ensures.goes

pub returns-clause-finished : goal.returns-clause-finished
returns-clause-finished g c = let it = g.C.Cells in let rule = g.C.Rule.Replay in let s = c.args.self in let v = it.shown s.cells.now in let p = it.shown c.plan.new.self in let w = it.shown c.commit.new.cells in
    let q = c.plan.ensures.planned in
    let by = c.number.ensures ∙ ap (λ (t : Shown g.row.C-Rule.Denot). t.number) q.0 in let seq = ap (λ n. n + 1) (c.commits.ensures ∙ ap (λ (t : Shown g.row.C-Rule.Denot). length t.own) q.0) in
    let is : record { by = c.number.result; seq = c.commits.result + 1; what = c.args.what } ≡ next_entry v c.args.what = λ j. record { by = by j; seq = seq j; what = c.args.what } in
    subst (λ (t : Numbered). Finished rule.step rule.legal rule.follows rule.buries s.stop t v w (next_entry v c.args.what) c.commit.result) c.in-Ok.ensures
    (finished_from rule.step rule.legal rule.follows rule.buries s.stop c.in-Ok.changes.items v p w (next_entry v c.args.what) c.commit.result q
    (subst (λ (t : Entry). Finished rule.step rule.legal rule.follows rule.buries s.stop (planned p.plan) p w t c.commit.result) is c.commit.ensures.finished))

pub returns-clause-becomes : goal.returns-clause-becomes
returns-clause-becomes g c = λ began entered. let it = g.C.Cells in let rule = g.C.Rule.Replay in let s = c.args.self in let v = it.shown s.cells.now in let o = c.requires.opened in
    let e = next_entry v c.args.what in
    at_last rule.step rule.legal rule.follows rule.buries (λ (k : Chains). IsPart (chains_of s.hand.items) k) s.stop (changes_of s.hand.items) v (it.shown c.commit.new.cells) e c.commit.result (returns-clause-finished g c) entered
    (λ u place in_place. becomes rule.first rule.step rule.legal rule.names rule.follows rule.buries rule.law s.hand.items (changes_of s.hand.items) v u e place refl began o.hand o.parts (o.law c.requires.may.some_held) c.requires.may in_place)
