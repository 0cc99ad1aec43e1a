use Rattle.std.proofs.Common.{refl}
use Rattle.turn_types.specs.Calls.{HasDied}
use Rattle.dbwrap_core.proofs.Here as pass
use Rattle.dbwrap_core.proofs.Keeping as keep
use Rattle.dbwrap_core.proofs.Dying as dying
use Rattle.dbwrap_core.proofs.plain.PlainCells.die.Goals as goal

pub invariant_of-self : goal.invariant_of-self
invariant_of-self g c =
    let cells = c.args.self.now in let me = c.index_mut-me.result.now in
    let h = pass.here cells c.args.pass me c.requires.pass c.index_mut-me.ensures.value c.requires.lives in let d = c.death_of-death.ensures in let plan = d.plan me h.at in
    record { sound = keep.dies cells.sound c.args.pass me c.death_of-death.result h.at h.lives d.chains d.words plan.0 plan.1 }

pub returns-clause-still : goal.returns-clause-still
returns-clause-still g c =
    let cells = c.args.self.now in let me = c.index_mut-me.result.now in
    let h = pass.here cells c.args.pass me c.requires.pass c.index_mut-me.ensures.value c.requires.lives in
    pass.still cells c.args.pass me h _ _ refl refl refl refl refl refl refl

pub returns-clause-died : goal.returns-clause-died
returns-clause-died g c =
    let cells = c.args.self.now in let me = c.index_mut-me.result.now in
    let h = pass.here cells c.args.pass me c.requires.pass c.index_mut-me.ensures.value c.requires.lives in let d = c.death_of-death.ensures in let plan = d.plan me h.at in
    pass.ends cells c.args.pass me h _ HasDied (dying.dying cells.rule cells.first.value.items cells.chains.items cells.words.items cells.journal.items c.args.pass me c.death_of-death.result d.chains d.words plan.0 plan.1)
