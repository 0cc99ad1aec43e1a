use Rattle.std.proofs.Common.{◌∷◌, [], length, refl, ap, ◌∙◌, arith, length-set, length-append}
use Rattle.turn_types.specs.Shown.{Numbered, due, is_made}
use Rattle.dbwrap_core.specs.declared.pass.Stage.{Stage}
use Rattle.dbwrap_core.specs.Shows.{plan_of}
use Rattle.dbwrap_core.specs.Sound.{due_of}
use Rattle.dbwrap_core.specs.Redone.{due_or_none, made_or_not}
use Rattle.dbwrap_core.proofs.Lists as lists
use Rattle.dbwrap_core.proofs.Planning as plans
use Rattle.dbwrap_core.proofs.Redoing as redo
use Rattle.dbwrap_core.proofs.Storing as storing
use Rattle.dbwrap_core.proofs.plain.PlainCells.store_last.Goals as goal

pub index_mut-it-requires : goal.index_mut-it-requires
index_mut-it-requires g c =
    let rd = c.requires.dead in let inside = lists.within c.args.self.now.passes.items c.args.dead rd.0 rd.2 in omega arith

pub index_mut-requires : goal.index_mut-requires
index_mut-requires g c =
    let cells = c.args.self.now in let it = c.index_mut-it.result.now in let f = redo.found cells c.args.dead c.requires.dead it c.index_mut-it.ensures.value in
    let last = storing.last cells c.args.dead it f.0 _ _ _ c.in-Some.ensures.items (redo.unmade_here cells c.args.dead it f.0 c.requires.unmade) in
    let inside = last.inside in omega arith

pub invariant_of-self : goal.invariant_of-self
invariant_of-self g c =
    let cells = c.args.self.now in let it = c.index_mut-it.result.now in let f = redo.found cells c.args.dead c.requires.dead it c.index_mut-it.ensures.value in
    let last = storing.last cells c.args.dead it f.0 _ _ _ c.in-Some.ensures.items (redo.unmade_here cells c.args.dead it f.0 c.requires.unmade) in
    record { sound = storing.stored cells c.args.dead it f.0 (record it { new = c.pop.new.self }) _ _ last refl c.in-Some.ensures.items }

pub invariant_of-self-in_default : goal.invariant_of-self-in_default
invariant_of-self-in_default g c =
    let cells = c.args.self.now in let it = c.index_mut-it.result.now in let f = redo.found cells c.args.dead c.requires.dead it c.index_mut-it.ensures.value in
    let emptied = c.in_default.ensures.cases.0 in absurd (redo.none_left cells c.args.dead it f.0 (plans.nil_of it.new.items (omega arith)) c.requires.due)

pub returns-in-Some-clause-redone : goal.returns-in-Some-clause-redone
returns-in-Some-clause-redone g c =
    let cells = c.args.self.now in let it = c.index_mut-it.result.now in let f = redo.found cells c.args.dead c.requires.dead it c.index_mut-it.ensures.value in
    let last = storing.last cells c.args.dead it f.0 _ _ _ c.in-Some.ensures.items (redo.unmade_here cells c.args.dead it f.0 c.requires.unmade) in let after = record it { new = c.pop.new.self } in
    redo.redoing cells _ c.args.dead it after c.requires.dead.1 refl refl refl (length-set _ _ _) refl refl f.0 f.1 refl (storing.others cells c.args.dead it f.0 _ _ _ last) (λ x e. e)
    (λ x y z e h. redo.stored_same cells.chains.items c.in-Some.c c.in-Some.chain c.pop.new.self.items (due_of after) (due_of it) x y z (ap (λ (s : Stage). due (plan_of s c.pop.new.self.items)) last.committed) last.due_is last.missing last.inside e h)

pub returns-in-Some-clause-unmade : goal.returns-in-Some-clause-unmade
returns-in-Some-clause-unmade g c =
    let cells = c.args.self.now in let it = c.index_mut-it.result.now in let f = redo.found cells c.args.dead c.requires.dead it c.index_mut-it.ensures.value in
    let last = storing.last cells c.args.dead it f.0 _ _ _ c.in-Some.ensures.items (redo.unmade_here cells c.args.dead it f.0 c.requires.unmade) in
    ap made_or_not (lists.set_same cells.passes.items c.args.dead (record it { new = c.pop.new.self }) (lists.within _ _ _ f.0)) ∙ ap (λ (s : Stage). is_made (plan_of s c.pop.new.self.items)) last.committed

pub returns-in-Some-clause-counted : goal.returns-in-Some-clause-counted
returns-in-Some-clause-counted g c =
    let cells = c.args.self.now in let it = c.index_mut-it.result.now in let f = redo.found cells c.args.dead c.requires.dead it c.index_mut-it.ensures.value in
    let last = storing.last cells c.args.dead it f.0 _ _ _ c.in-Some.ensures.items (redo.unmade_here cells c.args.dead it f.0 c.requires.unmade) in
    let new_due = ap (λ (l : Numbered). length l) (ap due_or_none (lists.set_same cells.passes.items c.args.dead (record it { new = c.pop.new.self }) (lists.within _ _ _ f.0)) ∙ ap (λ (s : Stage). due (plan_of s c.pop.new.self.items)) last.committed) in
    let old_due = ap (λ (l : Numbered). length l) (ap due_or_none f.0 ∙ last.due_is) in let both = length-append c.pop.new.self.items ((c.in-Some.c, c.in-Some.chain) ∷ []) in omega arith

pub returns-in_default-clause-redone : goal.returns-in_default-clause-redone
returns-in_default-clause-redone g c =
    let cells = c.args.self.now in let it = c.index_mut-it.result.now in let f = redo.found cells c.args.dead c.requires.dead it c.index_mut-it.ensures.value in
    let emptied = c.in_default.ensures.cases.0 in absurd (redo.none_left cells c.args.dead it f.0 (plans.nil_of it.new.items (omega arith)) c.requires.due)

pub returns-in_default-clause-unmade : goal.returns-in_default-clause-unmade
returns-in_default-clause-unmade g c =
    let cells = c.args.self.now in let it = c.index_mut-it.result.now in let f = redo.found cells c.args.dead c.requires.dead it c.index_mut-it.ensures.value in
    let emptied = c.in_default.ensures.cases.0 in absurd (redo.none_left cells c.args.dead it f.0 (plans.nil_of it.new.items (omega arith)) c.requires.due)

pub returns-in_default-clause-counted : goal.returns-in_default-clause-counted
returns-in_default-clause-counted g c =
    let cells = c.args.self.now in let it = c.index_mut-it.result.now in let f = redo.found cells c.args.dead c.requires.dead it c.index_mut-it.ensures.value in
    let emptied = c.in_default.ensures.cases.0 in absurd (redo.none_left cells c.args.dead it f.0 (plans.nil_of it.new.items (omega arith)) c.requires.due)
