use Rattle.std.proofs.Common.{◌≡◌, true, sym, refl, ap, ◌∙◌, arith, length-set}
use Rattle.turn_types.specs.Shown.{is_stored}
use Rattle.dbwrap_core.specs.Shows.{plan_of}
use Rattle.dbwrap_core.specs.Sound.{due_of}
use Rattle.dbwrap_core.specs.Redone.{stored_or_not}
use Rattle.dbwrap_core.proofs.Lists as lists
use Rattle.dbwrap_core.proofs.Holding as holding
use Rattle.dbwrap_core.proofs.Keeping as keep
use Rattle.dbwrap_core.proofs.Planning as plans
use Rattle.dbwrap_core.proofs.Redoing as redo
use Rattle.dbwrap_core.proofs.plain.PlainCells.give_back.Goals as goal

pub index_mut-requires : goal.index_mut-requires
index_mut-requires g c =
    let inside = lists.within c.args.self.now.words.items c.args.c _ c.requires.held in omega arith

pub invariant_of-self : goal.invariant_of-self
invariant_of-self g c =
    let cells = c.args.self.now in let rd = c.requires.dead in
    let stored : is_stored (plan_of rd.0.stage rd.0.new.items) ≡ true = ap stored_or_not (sym rd.2) ∙ c.requires.stored in
    record { sound = keep.gives_back cells.sound c.args.dead c.args.c rd.0 rd.2 c.requires.held (plans.stored_plans _ stored) (plans.stored_due _ stored) }

pub returns-clause-redone : goal.returns-clause-redone
returns-clause-redone g c =
    let cells = c.args.self.now in let rd = c.requires.dead in
    redo.redoing cells _ c.args.dead rd.0 rd.0 rd.1 refl refl refl refl (length-set _ _ _) (sym (lists.set_self cells.passes.items c.args.dead rd.0 rd.2)) rd.2 rd.3 refl
    (λ m out. holding.held_freed c.args.dead c.args.c cells.chains.items cells.words.items c.requires.held m out)
    (λ x f. redo.was_word c.args.dead c.args.c x cells.words.items c.requires.held f) (redo.same_there cells.chains.items (due_of rd.0))
