use Rattle.std.proofs.Common.{sym, refl, ap, ◌∙◌, arith}
use Rattle.turn_types.specs.Shown.{Numbered, look, or_else, due}
use Rattle.dbwrap_core.specs.declared.pass.Stage.{Stage}
use Rattle.dbwrap_core.specs.declared.pass.Stage.TheVariants as stage
use Rattle.dbwrap_core.specs.Shows.{plan_of}
use Rattle.dbwrap_core.specs.Sound.{due_of}
use Rattle.dbwrap_core.specs.Redone.{made_or_not}
use Rattle.dbwrap_core.proofs.Lists as lists
use Rattle.dbwrap_core.proofs.Keeping as keep
use Rattle.dbwrap_core.proofs.Redoing as redo
use Rattle.dbwrap_core.proofs.plain.PlainCells.drop_uncommitted.Goals as goal

pub index_mut-it-requires : goal.index_mut-it-requires
index_mut-it-requires g c =
    let rd = c.requires.dead in let inside = lists.within c.args.self.now.passes.items c.args.dead rd.0 rd.2 in omega arith

pub invariant_of-self : goal.invariant_of-self
invariant_of-self g c =
    let cells = c.args.self.now in let it = c.index_mut-it.result.now in let f = redo.found cells c.args.dead c.requires.dead it c.index_mut-it.ensures.value in
    record { sound = keep.empties cells.sound c.args.dead it (record it { stage = stage.Nothing; new = c.clear.new.self }) f.0 refl (ap (λ (s : Stage). due (plan_of s it.new.items)) c.in-Made.is) c.clear.ensures.items }

pub returns-in-Made-clause-redone : goal.returns-in-Made-clause-redone
returns-in-Made-clause-redone g c =
    let cells = c.args.self.now in let it = c.index_mut-it.result.now in let f = redo.found cells c.args.dead c.requires.dead it c.index_mut-it.ensures.value in
    redo.redoing cells _ c.args.dead it (record it { stage = stage.Nothing; new = c.clear.new.self }) c.requires.dead.1 refl refl refl refl refl refl f.0 f.1 refl (λ m out. refl) (λ x e. e)
    (λ x y z e h. ap (λ (l : Numbered). or_else (look x l) z) (sym (ap (λ (s : Stage). due (plan_of s it.new.items)) c.in-Made.is)) ∙ redo.same_there cells.chains.items (due_of it) x y z e h)

pub returns-in-Made-clause-unmade : goal.returns-in-Made-clause-unmade
returns-in-Made-clause-unmade g c =
    let cells = c.args.self.now in let rd = c.requires.dead in
    ap made_or_not (lists.set_same cells.passes.items c.args.dead (record c.index_mut-it.result.now { stage = stage.Nothing; new = c.clear.new.self }) (lists.within cells.passes.items c.args.dead rd.0 rd.2))

pub returns-in_default-clause-redone : goal.returns-in_default-clause-redone
returns-in_default-clause-redone g c =
    let cells = c.args.self.now in let it = c.index_mut-it.result.now in let f = redo.found cells c.args.dead c.requires.dead it c.index_mut-it.ensures.value in
    redo.redoing cells _ c.args.dead it it c.requires.dead.1 refl refl refl refl refl refl f.0 f.1 refl (λ m out. refl) (λ x e. e) (redo.same_there cells.chains.items (due_of it))

pub returns-in_default-clause-unmade : goal.returns-in_default-clause-unmade
returns-in_default-clause-unmade g c =
    let cells = c.args.self.now in let it = c.index_mut-it.result.now in let rd = c.requires.dead in
    ap made_or_not (lists.set_same cells.passes.items c.args.dead it (lists.within cells.passes.items c.args.dead rd.0 rd.2)) ∙ redo.unmade_stage it.stage it.new.items c.in_default.not-Made
