use Rattle.std.proofs.Common.{◌≡◌, ◌+◌, true, refl, subst, arith}
use Rattle.std.specs.Prelude.{fold}
use mathlib.Core.Option.{some}
use lib.ListN.{get_elem?}
use Rattle.turn_types.specs.Shown.{Numbered, Shown, look, or_else, is_nothing, Within}
use Rattle.turn_types.specs.Calls.{Planned}
use Rattle.dbwrap_core.proofs.Here as pass
use Rattle.dbwrap_core.proofs.Lists as lists
use Rattle.dbwrap_core.proofs.Holding as holding
use Rattle.dbwrap_core.proofs.Keeping as keep
use Rattle.dbwrap_core.proofs.Planning as plans
use Rattle.dbwrap_core.proofs.plain.PlainCells.plan.Goals as goal

pub invariant_of-self : goal.invariant_of-self
invariant_of-self g c =
    let cells = c.args.self.now in let me = c.index_mut-me.result.now in
    let h = pass.here cells c.args.pass me c.requires.pass c.index_mut-me.ensures.value c.requires.able.lives in
    let idle = plans.none_due _ (plans.not_committed _ (subst (λ (v : Shown g.row.R.Denot). is_nothing v.plan ≡ true) h.old c.requires.unplanned)) in
    let inside = subst (λ (v : Shown g.row.R.Denot). Within c.args.new.items v.held) h.old c.requires.new.1 in
    record {
      sound = keep.replans cells.sound c.args.pass me _ h.at refl (record {
        parts = λ x y e f. subst (λ (d : Numbered). get_elem? (fold (g.R.Replay.step cells.rule) cells.first.value.items cells.journal.items) x ≡ some (or_else (look x d) y)) idle ((cells.sound.each c.args.pass me h.at).parts x y e f);
        planned = λ i x e. let t = plans.within_at c.args.new.items _ i x inside e in (holding.found_at (c.args.pass + 1) x.0 cells.chains.items cells.words.items t.0 t.1).0;
        rising = λ i j x y e f l. plans.rises_at 0 c.args.new.items i j x y c.requires.new.0 e f l;
        idle = λ z. plans.never z;
        at_death = λ d e. keep.living_not_dead me d h.lives e;
      });
    }

pub returns-clause-still : goal.returns-clause-still
returns-clause-still g c =
    let cells = c.args.self.now in let me = c.index_mut-me.result.now in
    let h = pass.here cells c.args.pass me c.requires.pass c.index_mut-me.ensures.value c.requires.able.lives in
    pass.still cells c.args.pass me h _ _ refl refl refl refl refl refl refl

pub returns-clause-planned : goal.returns-clause-planned
returns-clause-planned g c =
    let cells = c.args.self.now in let me = c.index_mut-me.result.now in
    let h = pass.here cells c.args.pass me c.requires.pass c.index_mut-me.ensures.value c.requires.able.lives in
    pass.alters cells c.args.pass me h _ (λ v w. Planned v w c.args.new.items) h.lives (refl, lists.rose _ _ (omega arith) c.saturating_add-me.ensures)
