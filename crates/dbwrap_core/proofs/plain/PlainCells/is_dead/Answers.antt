use Rattle.std.proofs.Common.{◌<◌, length, slice_set, refl, ap, subst, Some, None, true, false, arith}
use Rattle.turn_types.specs.Calls.{Asked}
use Rattle.turn_types.specs.Shown.{Shown}
use Rattle.dbwrap_core.specs.Shows.{lives as is_alive}
use Rattle.dbwrap_core.proofs.Here as pass
use Rattle.dbwrap_core.proofs.Lists as lists
use Rattle.dbwrap_core.proofs.Keeping as keep
use Rattle.dbwrap_core.proofs.plain.PlainCells.is_dead.Goals as goal

pub index-requires : goal.index-requires
index-requires g c =
    let cells = c.args.self.now in let p = pass.somewhere cells c.args.pass c.requires.pass c.requires.able.lives in
    let inside = pass.known_place cells c.args.pass p.0 p.1 c.args.other c.requires.other in omega arith

pub invariant_of-self : goal.invariant_of-self
invariant_of-self g c =
    let cells = c.args.self.now in let me = c.index_mut-me.result.now in
    let h = pass.here cells c.args.pass me c.requires.pass c.index_mut-me.ensures.value c.requires.able.lives in
    record { sound = keep.counts cells.sound c.args.pass me _ _ _ _ _ h.at }

pub returns-then-lives-clause-still : goal.returns-then-lives-clause-still
returns-then-lives-clause-still g c =
    let cells = c.args.self.now in let me = c.index_mut-me.result.now in
    let h = pass.here cells c.args.pass me c.requires.pass c.index_mut-me.ensures.value c.requires.able.lives in
    pass.still cells c.args.pass me h _ _ refl refl refl refl refl refl refl

pub returns-then-lives-clause-asked : goal.returns-then-lives-clause-asked
returns-then-lives-clause-asked g c =
    let cells = c.args.self.now in let me = c.index_mut-me.result.now in
    let h = pass.here cells c.args.pass me c.requires.pass c.index_mut-me.ensures.value c.requires.able.lives in
    let sw = c.status_word.ensures.living c.if-lives.true in
    pass.alters cells c.args.pass me h _ (λ v w. Asked c.args.other v w false) h.lives (λ j. pass.showing cells c.args.pass (record me { looked = record { chain = None; journal = None; status = Some (c.args.other, sw j) } }))

pub returns-then-lives-clause-told : goal.returns-then-lives-clause-told
returns-then-lives-clause-told g c =
    let cells = c.args.self.now in let p = pass.somewhere cells c.args.pass c.requires.pass c.requires.able.lives in let other = c.index.result.now in
    let at_other = lists.at_place cells.passes.items c.args.other other (pass.known_place cells c.args.pass p.0 p.1 c.args.other c.requires.other) c.index.ensures in
    pass.tells cells c.args.other other true at_other (ap is_alive (lists.told_none other.death c.is_none-lives.result c.is_none-lives.ensures c.if-lives.true))

pub index_mut-requires : goal.index_mut-requires
index_mut-requires g c =
    let cells = c.args.self.now in let me = c.index_mut-me.result.now in
    let h = pass.here cells c.args.pass me c.requires.pass c.index_mut-me.ensures.value c.requires.able.lives in
    let inside = subst (λ (v : Shown g.row.R.Denot). c.args.other < length v.dead) h.old c.requires.other in omega arith

pub invariant_of-self-2 : goal.invariant_of-self-2
invariant_of-self-2 g c =
    let cells = c.args.self.now in let me = c.index_mut-me.result.now in let other = c.index.result.now in
    let h = pass.here cells c.args.pass me c.requires.pass c.index_mut-me.ensures.value c.requires.able.lives in
    let at_other = lists.at_place cells.passes.items c.args.other other (pass.known_place cells c.args.pass me h c.args.other c.requires.other) c.index.ensures in
    record { sound = keep.learns_dead cells.sound c.args.pass c.args.other me _ other h.at at_other (lists.told_some other.death c.is_none-lives.result c.is_none-lives.ensures c.if-lives.false) refl refl }

pub returns-clause-still : goal.returns-clause-still
returns-clause-still g c =
    let cells = c.args.self.now in let me = c.index_mut-me.result.now in
    let h = pass.here cells c.args.pass me c.requires.pass c.index_mut-me.ensures.value c.requires.able.lives in
    pass.still cells c.args.pass me h _ _ refl refl refl refl refl refl refl

pub returns-clause-asked : goal.returns-clause-asked
returns-clause-asked g c =
    let cells = c.args.self.now in let me = c.index_mut-me.result.now in
    let h = pass.here cells c.args.pass me c.requires.pass c.index_mut-me.ensures.value c.requires.able.lives in
    let sw = c.status_word.ensures.dead c.if-lives.false in
    let known = lists.learnt me.dead.items c.args.other (subst (λ (v : Shown g.row.R.Denot). c.args.other < length v.dead) h.old c.requires.other) in
    pass.alters cells c.args.pass me h _ (λ v w. Asked c.args.other v w true) h.lives (known, (1, omega arith, (λ j. record (pass.showing cells c.args.pass me) { dead = slice_set me.dead.items c.args.other true; looked = record { chain = None; journal = None; status = Some (c.args.other, sw j) } })))

pub returns-clause-told : goal.returns-clause-told
returns-clause-told g c =
    let cells = c.args.self.now in let p = pass.somewhere cells c.args.pass c.requires.pass c.requires.able.lives in let other = c.index.result.now in
    let at_other = lists.at_place cells.passes.items c.args.other other (pass.known_place cells c.args.pass p.0 p.1 c.args.other c.requires.other) c.index.ensures in
    pass.tells cells c.args.other other false at_other (ap is_alive (lists.told_some other.death c.is_none-lives.result c.is_none-lives.ensures c.if-lives.false).1)
