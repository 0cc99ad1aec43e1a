use Rattle.std.proofs.Common.{sym, refl, ap, ◌∙◌, arith, Some}
use mathlib.Core.Logic.{dite}
use native.Mathlib.Decide.{ℕ_discrete}
use Rattle.dbwrap_core.proofs.Lists as lists
use Rattle.dbwrap_core.proofs.Redoing as redo
use Rattle.dbwrap_core.proofs.plain.PlainCells.store_due.Goals as goal

pub index-requires : goal.index-requires
index-requires g c =
    let cells = c.args.self.now in let rd = c.requires.dead in let inside = lists.within cells.passes.items c.args.dead rd.0 rd.2 in
    omega arith

pub loop-stored-init : goal.loop-stored-init
loop-stored-init g c =
    (redo.no_step c.args.self.now c.args.dead c.requires.dead, c.requires.unmade, refl, omega arith, (λ most e. omega arith))

pub returns-then-is_over-clause-redone : goal.returns-then-is_over-clause-redone
returns-then-is_over-clause-redone g c =
    c.loop-stored.invariant.0

pub returns-then-is_over-clause-unmade : goal.returns-then-is_over-clause-unmade
returns-then-is_over-clause-unmade g c =
    c.loop-stored.invariant.1

pub returns-then-is_over-clause-words : goal.returns-then-is_over-clause-words
returns-then-is_over-clause-words g c =
    c.loop-stored.invariant.2

pub returns-then-is_over-clause-counted : goal.returns-then-is_over-clause-counted
returns-then-is_over-clause-counted g c =
    c.loop-stored.invariant.3

pub returns-then-is_over-clause-stopped : goal.returns-then-is_over-clause-stopped
returns-then-is_over-clause-stopped g c l =
    c.is_over.ensures.over c.if-is_over.true

pub returns-then-is_over-clause-allowed : goal.returns-then-is_over-clause-allowed
returns-then-is_over-clause-allowed g c =
    c.loop-stored.invariant.4

pub store_last-requires-clause-dead : goal.store_last-requires-clause-dead
store_last-requires-clause-dead g c =
    c.loop-stored.invariant.0.dead

pub store_last-requires-clause-unmade : goal.store_last-requires-clause-unmade
store_last-requires-clause-unmade g c =
    c.loop-stored.invariant.1

pub store_last-requires-clause-due : goal.store_last-requires-clause-due
store_last-requires-clause-due g c =
    let some_left = redo.left_here c.args.self.now c.args.dead c.requires.dead c.requires.unmade c.index.result.now c.index.ensures in
    let i = c.loop-stored.invariant in
    let due = c.len-due.ensures in let more = c.loop-stored-test.true in let sum = i.3 in omega arith

pub loop-stored-preserved : goal.loop-stored-preserved
loop-stored-preserved g c =
    let i = c.loop-stored.invariant in
    let e = c.store_last.ensures in let sum = i.3 in let one = e.counted in (
      redo.joined c.args.self.now c.loop-stored.self c.store_last.new.self c.args.dead i.0 e.redone,
      e.unmade,
      e.words ∙ i.2,
      omega arith,
      (λ most is. let a = i.4 most is in dite (ℕ_discrete c.loop-stored.stored most) (λ same. absurd (c.is_over.ensures.left c.if-is_over.false (is ∙ ap Some (sym same)))) (λ out. omega arith)),
    )

pub returns-clause-redone : goal.returns-clause-redone
returns-clause-redone g c =
    c.loop-stored.invariant.0

pub returns-clause-unmade : goal.returns-clause-unmade
returns-clause-unmade g c =
    c.loop-stored.invariant.1

pub returns-clause-words : goal.returns-clause-words
returns-clause-words g c =
    c.loop-stored.invariant.2

pub returns-clause-counted : goal.returns-clause-counted
returns-clause-counted g c =
    let i = c.loop-stored.invariant in
    let sum = i.3 in let over = c.loop-stored-test.false in let most = c.loop-stored.auto.stored-end in omega arith

pub returns-clause-stopped : goal.returns-clause-stopped
returns-clause-stopped g c some_more =
    let some_left = redo.left_here c.args.self.now c.args.dead c.requires.dead c.requires.unmade c.index.result.now c.index.ensures in
    let i = c.loop-stored.invariant in
    let due = c.len-due.ensures in let sum = i.3 in let over = c.loop-stored-test.false in let most = c.loop-stored.auto.stored-end in absurd (omega arith)

pub returns-clause-allowed : goal.returns-clause-allowed
returns-clause-allowed g c most is =
    let i = c.loop-stored.invariant in
    let a = i.4 most is in let over = c.loop-stored-test.false in let end = c.loop-stored.auto.stored-end in omega arith
