use Rattle.std.proofs.Common.{ℕ, ◌+◌, refl, ap, ◌∙◌, arith, Some}
use Rattle.turn_types.specs.declared.answers.Recover.TheVariants.{Freed, Stopped}
use Rattle.dbwrap_core.specs.Redone.{Counted}
use Rattle.dbwrap_core.proofs.Here as pass
use Rattle.dbwrap_core.proofs.Lists as lists
use Rattle.dbwrap_core.proofs.Keeping as keep
use Rattle.dbwrap_core.proofs.plain.PlainCells.end_recovery.Goals as goal

pub overflow_add-dead : goal.overflow_add-dead
overflow_add-dead g c =
    let cells = c.args.self.now in let rd = c.requires.dead in let inside = lists.within cells.passes.items c.args.dead rd.0 rd.2 in let few = cells.sound.few_passes in omega arith

pub index_mut-requires : goal.index_mut-requires
index_mut-requires g c =
    let cells = c.args.self.now in let me = c.index_mut-me.result.now in
    let h = pass.here cells c.args.pass me c.requires.pass c.index_mut-me.ensures.value c.requires.lives in
    let rd = c.requires.dead in let inside = lists.within cells.passes.items c.args.dead rd.0 rd.2 in let frees = (cells.sound.each c.args.pass me h.at).frees in omega arith

pub invariant_of-self : goal.invariant_of-self
invariant_of-self g c =
    let cells = c.args.self.now in let me = c.index_mut-me.result.now in
    let h = pass.here cells c.args.pass me c.requires.pass c.index_mut-me.ensures.value c.requires.lives in
    let unnamed = lists.nowhere (c.args.dead + 1) cells.words.items (lists.searched _ cells.words.items _ _ c.as_slice.ensures.value c.first_with-held.ensures ∙ c.in_default.is) in
    let rd = c.requires.dead in record { sound = keep.learns_freed cells.sound c.args.pass c.args.dead me _ rd.0 rd.1 h.at rd.2 rd.3 unnamed refl refl }

pub returns-in_default-clause-still : goal.returns-in_default-clause-still
returns-in_default-clause-still g c =
    let cells = c.args.self.now in let me = c.index_mut-me.result.now in
    let h = pass.here cells c.args.pass me c.requires.pass c.index_mut-me.ensures.value c.requires.lives in
    pass.still cells c.args.pass me h _ _ refl refl refl refl refl refl refl

pub returns-in_default-clause-counted : goal.returns-in_default-clause-counted
returns-in_default-clause-counted g c =
    let cells = c.args.self.now in let me = c.index_mut-me.result.now in
    let h = pass.here cells c.args.pass me c.requires.pass c.index_mut-me.ensures.value c.requires.lives in
    let unnamed = lists.nowhere (c.args.dead + 1) cells.words.items (lists.searched _ cells.words.items _ _ c.as_slice.ensures.value c.first_with-held.ensures ∙ c.in_default.is) in
    let rd = c.requires.dead in let inside = lists.within cells.passes.items c.args.dead rd.0 rd.2 in let frees = (cells.sound.each c.args.pass me h.at).frees in
    pass.alters cells c.args.pass me h _ (λ v w. Counted c.args.dead c.args.stored c.args.freed v w cells.words.items Freed) h.lives
    (refl, lists.learnt me.freed.items c.args.dead (omega arith), lists.rose_by _ _ _ (omega arith) c.saturating_add-me.ensures, lists.rose_by _ _ _ (omega arith) c.saturating_add-me-2.ensures, unnamed)

pub invariant_of-self-2 : goal.invariant_of-self-2
invariant_of-self-2 g c =
    let cells = c.args.self.now in let me = c.index_mut-me.result.now in
    let h = pass.here cells c.args.pass me c.requires.pass c.index_mut-me.ensures.value c.requires.lives in
    record { sound = keep.counts cells.sound c.args.pass me _ _ _ _ _ h.at }

pub returns-clause-still : goal.returns-clause-still
returns-clause-still g c =
    let cells = c.args.self.now in let me = c.index_mut-me.result.now in
    let h = pass.here cells c.args.pass me c.requires.pass c.index_mut-me.ensures.value c.requires.lives in
    pass.still cells c.args.pass me h _ _ refl refl refl refl refl refl refl

pub returns-clause-counted : goal.returns-clause-counted
returns-clause-counted g c =
    let cells = c.args.self.now in let me = c.index_mut-me.result.now in
    let h = pass.here cells c.args.pass me c.requires.pass c.index_mut-me.ensures.value c.requires.lives in
    let word = lists.found_at (c.args.dead + 1) c.in-Some.c cells.words.items (lists.searched _ cells.words.items _ _ c.as_slice.ensures.value c.first_with-held.ensures ∙ c.in-Some.is) in
    pass.alters cells c.args.pass me h _ (λ v w. Counted c.args.dead c.args.stored c.args.freed v w cells.words.items Stopped) h.lives
    (c.in-Some.c, word.0, ap (λ (z : ℕ). Some (c.in-Some.c, z + 1)) c.from.ensures, refl, lists.rose_by _ _ _ (omega arith) c.saturating_add-me.ensures, lists.rose_by _ _ _ (omega arith) c.saturating_add-me-2.ensures)
