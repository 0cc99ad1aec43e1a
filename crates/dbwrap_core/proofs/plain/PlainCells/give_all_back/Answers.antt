use Rattle.std.proofs.Common.{◌≡◌, ℕ, ◌+◌, ◌<◌, List, length, slice_set, sym, ap, ◌∙◌, subst, arith, Some}
use mathlib.Core.Option.{some, some-injective}
use mathlib.Core.Logic.{dite}
use native.Mathlib.Decide.{ℕ_discrete}
use lib.ListN.{get_elem?}
use Rattle.dbwrap_core.specs.declared.plain.PlainCells.{PlainCells}
use Rattle.dbwrap_core.specs.Redone.{stored_or_not, made_or_not, count_of}
use Rattle.dbwrap_core.proofs.Lists as lists
use Rattle.dbwrap_core.proofs.Planning as plans
use Rattle.dbwrap_core.proofs.Redoing as redo
use Rattle.dbwrap_core.proofs.plain.PlainCells.give_all_back.Goals.{then-index-dead+else-is_over, else-index-dead}
use Rattle.dbwrap_core.proofs.plain.PlainCells.give_all_back.Goals as goal

pub index-requires : goal.index-requires
index-requires g c =
    let cells = c.args.self.now in let rd = c.requires.dead in let inside = lists.within cells.passes.items c.args.dead rd.0 rd.2 in
    omega arith

pub returns-then-not-is_empty-clause-redone : goal.returns-then-not-is_empty-clause-redone
returns-then-not-is_empty-clause-redone g c =
    redo.no_step c.args.self.now c.args.dead c.requires.dead

pub returns-then-not-is_empty-clause-stopped : goal.returns-then-not-is_empty-clause-stopped
returns-then-not-is_empty-clause-stopped g c x e =
    let some_left = redo.left_here c.args.self.now c.args.dead c.requires.dead c.requires.unmade c.index.result.now c.index.ensures in
    let empty = c.is_empty.ensures in let not_empty = c.if-not-is_empty.true in
    let some_more : 0 < length c.index.result.now.new.items = grind arith in c.requires.stopped (omega arith) ∙ ap Some (omega arith)

pub loop-c-init : goal.loop-c-init
loop-c-init g c =
    let cells = c.args.self.now in let rd = c.requires.dead in let some_left = redo.left_here cells c.args.dead rd c.requires.unmade c.index.result.now c.index.ensures in
    let long = redo.left_is cells c.args.dead rd c.requires.unmade in let is_empty = c.is_empty.ensures in let empty = c.if-not-is_empty.false in
    let none : length c.index.result.now.new.items ≡ 0 = grind arith in
    (redo.no_step cells c.args.dead rd, ap stored_or_not rd.2 ∙ redo.stored_if_empty rd.0.stage rd.0.new.items (ap made_or_not (sym rd.2) ∙ c.requires.unmade) (plans.nil_of rd.0.new.items (omega arith)), omega arith, (λ b l e. absurd (omega arith)), (λ most e l. omega arith))

pub overflow_add-dead : goal.overflow_add-dead
overflow_add-dead g c =
    let cells = c.args.self.now in let rd = c.requires.dead in let inside = lists.within cells.passes.items c.args.dead rd.0 rd.2 in
    let few = cells.sound.few_passes in omega arith

pub overflow_add-stored : goal.overflow_add-stored
overflow_add-stored g c =
    let sum = c.loop-c.invariant.2 in let most = redo.few_words c.args.self.now (c.args.dead + 1) in let few = c.requires.few in omega arith

pub returns-then-is_over-clause-redone : goal.returns-then-is_over-clause-redone
returns-then-is_over-clause-redone g c =
    c.loop-c.invariant.0

pub returns-then-is_over-clause-counted : goal.returns-then-is_over-clause-counted
returns-then-is_over-clause-counted g c =
    c.loop-c.invariant.2

pub returns-then-is_over-clause-stopped : goal.returns-then-is_over-clause-stopped
returns-then-is_over-clause-stopped g c x e =
    c.is_over.ensures.over c.if-is_over.true

pub returns-then-is_over-clause-allowed : goal.returns-then-is_over-clause-allowed
returns-then-is_over-clause-allowed g c =
    c.loop-c.invariant.4

pub give_back-requires-clause-dead : goal.give_back-requires-clause-dead
give_back-requires-clause-dead g c =
    c.loop-c.invariant.0.dead

pub give_back-requires-clause-stored : goal.give_back-requires-clause-stored
give_back-requires-clause-stored g c =
    c.loop-c.invariant.1

pub give_back-requires-clause-held : goal.give_back-requires-clause-held
give_back-requires-clause-held g c =
    let i = c.loop-c.invariant in
    let same_words = i.0.words in let more = c.loop-c-test.true in let end = c.len-c-end.ensures in
    let word = lists.at_place c.loop-c.self.words.items c.loop-c.c c.index-in-loop-c.result.now (omega arith) c.index-in-loop-c.ensures in
    let names = c.if-index-dead.true in word ∙ ap some (omega arith)

pub overflow_add-freed : goal.overflow_add-freed
overflow_add-freed g c =
    let sum = c.loop-c.invariant.2 in let most = redo.few_words c.args.self.now (c.args.dead + 1) in let few = c.requires.few in omega arith

pub loop-c-preserved : goal.loop-c-preserved
loop-c-preserved g c =
    let i = c.loop-c.invariant in
    let same_words = i.0.words in let more = c.loop-c-test.true in let end = c.len-c-end.ensures in
    let word = lists.at_place c.loop-c.self.words.items c.loop-c.c c.index-in-loop-c.result.now (omega arith) c.index-in-loop-c.ensures in
    elim c.if-index-dead.branch [
      | then-index-dead+else-is_over w ↦
          let e = w.give_back.ensures in let names = w.if-index-dead.true in let named : get_elem? c.loop-c.self.words.items c.loop-c.c ≡ some (c.args.dead + 1) = word ∙ ap some (omega arith) in
          let sum = i.2 in let less = redo.one_less (c.args.dead + 1) c.loop-c.c 0 c.loop-c.self.words.items named (λ z. omega arith) in
          let count : count_of (c.args.dead + 1) w.give_back.new.self.words.items ≡ count_of (c.args.dead + 1) (slice_set c.loop-c.self.words.items c.loop-c.c 0) = ap (λ (l : List ℕ). count_of (c.args.dead + 1) l) e.word in
          subst (λ (t : PlainCells g.row.R.Denot g.R.Replay × ℕ). redo.Giving c.args.self.now c.args.dead c.args.stop c.args.stored t.1 (c.loop-c.c + 1) t.0) (λ j. (sym w.self-is j, sym w.freed-is j)) (
            redo.joined c.args.self.now c.loop-c.self w.give_back.new.self c.args.dead i.0 e.redone,
            e.stored,
            omega arith,
            (λ b l at. let was = subst (λ (t : List ℕ). get_elem? t b ≡ some (c.args.dead + 1)) e.word at in dite (ℕ_discrete b c.loop-c.c)
                (λ same. let z = some-injective 0 (c.args.dead + 1) (sym (lists.set_same c.loop-c.self.words.items c.loop-c.c 0 (omega arith)) ∙ subst (λ y. get_elem? (slice_set c.loop-c.self.words.items c.loop-c.c 0) y ≡ some (c.args.dead + 1)) same was) in omega arith)
                (λ out. i.3 b (omega arith) (sym (lists.set_other c.loop-c.self.words.items c.loop-c.c b 0 out) ∙ was))),
            (λ most is l. let a = i.4 most is l in dite (ℕ_discrete (c.args.stored + c.loop-c.freed) most) (λ same. absurd (w.is_over.ensures.left w.if-is_over.false (is ∙ ap Some (sym same)))) (λ out. omega arith)),
          )
      | else-index-dead w ↦
          subst (λ (t : PlainCells g.row.R.Denot g.R.Replay × ℕ). redo.Giving c.args.self.now c.args.dead c.args.stop c.args.stored t.1 (c.loop-c.c + 1) t.0) (λ j. (sym w.self-is j, sym w.freed-is j)) (
            i.0,
            i.1,
            i.2,
            (λ b l at. dite (ℕ_discrete b c.loop-c.c)
                (λ same. let z = some-injective c.index-in-loop-c.result.now (c.args.dead + 1) (sym word ∙ subst (λ y. get_elem? c.loop-c.self.words.items y ≡ some (c.args.dead + 1)) same at) in let no_name = w.if-index-dead.false in omega arith)
                (λ out. i.3 b (omega arith) at)),
            i.4,
          )
    ]

pub returns-clause-redone : goal.returns-clause-redone
returns-clause-redone g c =
    c.loop-c.invariant.0

pub returns-clause-counted : goal.returns-clause-counted
returns-clause-counted g c =
    c.loop-c.invariant.2

pub returns-clause-stopped : goal.returns-clause-stopped
returns-clause-stopped g c x e =
    let i = c.loop-c.invariant in
    let inside = lists.within c.loop-c.self.words.items x _ e in let same_words = i.0.words in let over = c.loop-c-test.false in let end = c.len-c-end.ensures in absurd (i.3 x (omega arith) e)

pub returns-clause-allowed : goal.returns-clause-allowed
returns-clause-allowed g c =
    c.loop-c.invariant.4
