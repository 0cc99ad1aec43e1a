use Rattle.std.proofs.Common.{◌≡◌, false, refl, subst}
use Rattle.turn_types.specs.Shown.{Shown, is_committed}
use Rattle.turn_types.specs.Calls.{Abandoned}
use Rattle.dbwrap_core.proofs.Here as pass
use Rattle.dbwrap_core.proofs.Keeping as keep
use Rattle.dbwrap_core.proofs.Planning as plans
use Rattle.dbwrap_core.proofs.plain.PlainCells.abandon.Goals as goal

pub invariant_of-self : goal.invariant_of-self
invariant_of-self g c =
    let cells = c.args.self.now in let me = c.index_mut-me.result.now in
    let h = pass.here cells c.args.pass me c.requires.pass c.index_mut-me.ensures.value c.requires.able.lives in
    record { sound = keep.empties cells.sound c.args.pass me _ h.at refl (plans.none_due _ (subst (λ (v : Shown g.row.R.Denot). is_committed v.plan ≡ false) h.old c.requires.uncommitted)) c.clear.ensures.items }

pub returns-clause-still : goal.returns-clause-still
returns-clause-still g c =
    let cells = c.args.self.now in let me = c.index_mut-me.result.now in
    let h = pass.here cells c.args.pass me c.requires.pass c.index_mut-me.ensures.value c.requires.able.lives in
    pass.still cells c.args.pass me h _ _ refl refl refl refl refl refl refl

pub returns-clause-abandoned : goal.returns-clause-abandoned
returns-clause-abandoned g c =
    let cells = c.args.self.now in let me = c.index_mut-me.result.now in
    let h = pass.here cells c.args.pass me c.requires.pass c.index_mut-me.ensures.value c.requires.able.lives in
    pass.alters cells c.args.pass me h _ Abandoned h.lives refl
