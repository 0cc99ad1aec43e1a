use Rattle.std.proofs.Common.{◌≡◌, ◌+◌, ◌-◌, true, false, [], slice_set, sym, refl, Option, Some, None, ap, subst, ◌∙◌, arith, append-nil}
use mathlib.Core.Option.{some, some-injective}
use lib.ListN.{get_elem?}
use Rattle.turn_types.specs.Shown.{AllBelow, Shown}
use Rattle.turn_types.specs.Calls.{Tried}
use Rattle.turn_types.specs.declared.answers.Take.TheVariants.{Taken, Busy, Orphan}
use Rattle.dbwrap_core.specs.declared.pass.Death.{Death}
use Rattle.dbwrap_core.specs.Shows.{held_at, lives as is_alive}
use Rattle.dbwrap_core.proofs.Here as pass
use Rattle.dbwrap_core.proofs.Lists as lists
use Rattle.dbwrap_core.proofs.Holding as holding
use Rattle.dbwrap_core.proofs.Keeping as keep
use Rattle.dbwrap_core.proofs.Taking as taking
use Rattle.dbwrap_core.proofs.Quietly.{nothing_found}
use Rattle.dbwrap_core.proofs.plain.PlainCells.try_take.Goals as goal

pub invariant_of-self : goal.invariant_of-self
invariant_of-self g c =
    let cells = c.args.self.now in let me = c.index_mut-me.result.now in
    let h = pass.here cells c.args.pass me c.requires.pass c.index_mut-me.ensures.value c.requires.able.lives in
    let word = taking.word_at cells c.args.c _ c.requires.chain.0 c.index-holder.ensures ∙ ap some (let z = c.if-holder-eq0.true in omega arith) in
    record { sound = keep.counts (keep.takes cells.sound c.args.pass c.args.c me h.at h.lives word) c.args.pass me _ _ _ _ _ h.at }

pub returns-then-holder-eq0-clause-still : goal.returns-then-holder-eq0-clause-still
returns-then-holder-eq0-clause-still g c =
    let cells = c.args.self.now in let me = c.index_mut-me.result.now in
    let h = pass.here cells c.args.pass me c.requires.pass c.index_mut-me.ensures.value c.requires.able.lives in
    let word : get_elem? cells.words.items c.args.c ≡ some 0 = taking.word_at cells c.args.c _ c.requires.chain.0 c.index-holder.ensures ∙ ap some (let z = c.if-holder-eq0.true in omega arith) in
    pass.moves cells c.args.pass me h _ _ [] refl refl refl refl (sym (append-nil _)) (sym (append-nil _))
    (λ m q e d. (refl, holding.held_aside (m + 1) 0 c.args.c (c.args.pass + 1) cells.chains.items cells.words.items (λ z. let y = some-injective 0 (m + 1) (sym word ∙ z) in omega arith) (λ z. d (omega arith))))

pub returns-then-holder-eq0-clause-tried : goal.returns-then-holder-eq0-clause-tried
returns-then-holder-eq0-clause-tried g c =
    let cells = c.args.self.now in let me = c.index_mut-me.result.now in
    let h = pass.here cells c.args.pass me c.requires.pass c.index_mut-me.ensures.value c.requires.able.lives in
    let word : get_elem? cells.words.items c.args.c ≡ some 0 = taking.word_at cells c.args.c _ c.requires.chain.0 c.index-holder.ensures ∙ ap some (let z = c.if-holder-eq0.true in omega arith) in
    let y = lists.there cells.chains.items c.args.c c.requires.chain.0 in
    let grown = holding.held_grows (c.args.pass + 1) c.args.c cells.chains.items cells.words.items y.0 word (λ z. omega arith) y.1 (subst (λ (v : Shown g.row.R.Denot). AllBelow c.args.c v.held) h.old c.requires.chain.1) in
    let after = record me { taken = c.saturating_add-me.result; done = c.saturating_add-me-then-holder-eq0.result } in
    pass.becomes cells c.args.pass me h cells.chains.items (slice_set cells.words.items c.args.c (c.args.pass + 1)) cells.journal.items after (λ v w. Tried c.args.c v w Taken) h.lives (
      y.0,
      (λ j. record (pass.showing cells c.args.pass after) { held = grown j }),
      lists.rose _ _ (omega arith) c.saturating_add-me.ensures,
      lists.rose _ _ (omega arith) c.saturating_add-me-then-holder-eq0.ensures,
    )

pub index-requires : goal.index-requires
index-requires g c =
    let inside = taking.names_within c.args.self.now c.args.c c.index-holder.result.now c.requires.chain.0 c.index-holder.ensures (let z = c.if-holder-eq0.false in omega arith) in omega arith

pub invariant_of-self-then-lives : goal.invariant_of-self-then-lives
invariant_of-self-then-lives g c =
    let cells = c.args.self.now in let me = c.index_mut-me-2.result.now in
    let h = pass.here cells c.args.pass me c.requires.pass c.index_mut-me-2.ensures.value c.requires.able.lives in
    record { sound = keep.counts cells.sound c.args.pass me _ _ _ _ _ h.at }

pub returns-then-lives-clause-still : goal.returns-then-lives-clause-still
returns-then-lives-clause-still g c =
    let cells = c.args.self.now in let me = c.index_mut-me-2.result.now in
    let h = pass.here cells c.args.pass me c.requires.pass c.index_mut-me-2.ensures.value c.requires.able.lives in
    pass.still cells c.args.pass me h _ _ refl refl refl refl refl refl refl

pub returns-then-lives-clause-tried : goal.returns-then-lives-clause-tried
returns-then-lives-clause-tried g c =
    let cells = c.args.self.now in let me = c.index_mut-me-2.result.now in let holder = c.index-holder.result.now in
    let h = pass.here cells c.args.pass me c.requires.pass c.index_mut-me-2.ensures.value c.requires.able.lives in
    let it = taking.others cells c.args.c c.args.pass me h holder c.index.result.now c.requires.chain c.index-holder.ensures (let z = c.if-holder-eq0.false in omega arith) c.index.ensures in
    let w = c.from.ensures ∙ sym it.number in let sw = c.status_word.ensures.living c.if-lives.true in
    pass.alters cells c.args.pass me h _ (λ v w. Tried c.args.c v w (Busy (holder - 1))) h.lives (it.not_own, (λ j. pass.showing cells c.args.pass (record me { looked = record { chain = Some (c.args.c, w j); journal = None; status = Some (holder - 1, sw j) } })))

pub returns-then-lives-clause-names : goal.returns-then-lives-clause-names
returns-then-lives-clause-names g c =
    let cells = c.args.self.now in let p = pass.somewhere cells c.args.pass c.requires.pass c.requires.able.lives in let holder = c.index-holder.result.now in let other = c.index.result.now in
    let it = taking.others cells c.args.c c.args.pass p.0 p.1 holder other c.requires.chain c.index-holder.ensures (let z = c.if-holder-eq0.false in omega arith) c.index.ensures in
    pass.tells cells (holder - 1) other true it.at (ap is_alive (lists.told_none other.death c.is_none-lives.result c.is_none-lives.ensures c.if-lives.true))

pub returns-then-lives-clause-never : goal.returns-then-lives-clause-never
returns-then-lives-clause-never g c h quiet is =
    let cells = c.args.self.now in let p = pass.somewhere cells c.args.pass c.requires.pass c.requires.able.lives in let holder = c.index-holder.result.now in let other = c.index.result.now in
    let it = taking.others cells c.args.c c.args.pass p.0 p.1 holder other c.requires.chain c.index-holder.ensures (let z = c.if-holder-eq0.false in omega arith) c.index.ensures in
    let none = lists.told_none other.death c.is_none-lives.result c.is_none-lives.ensures c.if-lives.true in
    let idle = quiet (holder - 1) (pass.shown cells (holder - 1) other) (pass.shown_there cells (holder - 1) other it.at) it.not_own (ap is_alive none) in
    nothing_found c.args.c _ it.chain.0 (holding.found_here ((holder - 1) + 1) c.args.c cells.chains.items cells.words.items it.chain.0 it.word it.chain.1) (sym (ap (λ (d : Option Death). held_at d ((holder - 1) + 1) cells.chains.items cells.words.items) none) ∙ idle)

pub index_mut-requires-2 : goal.index_mut-requires-2
index_mut-requires-2 g c =
    let cells = c.args.self.now in let me = c.index_mut-me-2.result.now in
    let h = pass.here cells c.args.pass me c.requires.pass c.index_mut-me-2.ensures.value c.requires.able.lives in
    let inside = taking.names_within cells c.args.c c.index-holder.result.now c.requires.chain.0 c.index-holder.ensures (let z = c.if-holder-eq0.false in omega arith) in
    let deaths = (cells.sound.each c.args.pass me h.at).deaths in omega arith

pub invariant_of-self-2 : goal.invariant_of-self-2
invariant_of-self-2 g c =
    let cells = c.args.self.now in let me = c.index_mut-me-2.result.now in let holder = c.index-holder.result.now in let other = c.index.result.now in
    let h = pass.here cells c.args.pass me c.requires.pass c.index_mut-me-2.ensures.value c.requires.able.lives in
    let it = taking.others cells c.args.c c.args.pass me h holder other c.requires.chain c.index-holder.ensures (let z = c.if-holder-eq0.false in omega arith) c.index.ensures in
    record { sound = keep.learns_dead cells.sound c.args.pass (holder - 1) me _ other h.at it.at (lists.told_some other.death c.is_none-lives.result c.is_none-lives.ensures c.if-lives.false) refl refl }

pub returns-clause-still : goal.returns-clause-still
returns-clause-still g c =
    let cells = c.args.self.now in let me = c.index_mut-me-2.result.now in
    let h = pass.here cells c.args.pass me c.requires.pass c.index_mut-me-2.ensures.value c.requires.able.lives in
    pass.still cells c.args.pass me h _ _ refl refl refl refl refl refl refl

pub returns-clause-tried : goal.returns-clause-tried
returns-clause-tried g c =
    let cells = c.args.self.now in let me = c.index_mut-me-2.result.now in let holder = c.index-holder.result.now in
    let h = pass.here cells c.args.pass me c.requires.pass c.index_mut-me-2.ensures.value c.requires.able.lives in
    let it = taking.others cells c.args.c c.args.pass me h holder c.index.result.now c.requires.chain c.index-holder.ensures (let z = c.if-holder-eq0.false in omega arith) c.index.ensures in
    let w = c.from.ensures ∙ sym it.number in let sw = c.status_word.ensures.dead c.if-lives.false in
    let o = cells.sound.each c.args.pass me h.at in let deaths = o.deaths in let inside = lists.within cells.passes.items (holder - 1) _ it.at in
    let not_freed = lists.is_false me.freed.items (holder - 1) (o.recovered c.args.c (holder - 1) it.word) in
    pass.alters cells c.args.pass me h _ (λ v w. Tried c.args.c v w (Orphan (holder - 1))) h.lives
    (it.not_own, not_freed, lists.learnt me.dead.items (holder - 1) (omega arith), (1, omega arith, (λ j. record (pass.showing cells c.args.pass me) { dead = slice_set me.dead.items (holder - 1) true; looked = record { chain = Some (c.args.c, w j); journal = None; status = Some (holder - 1, sw j) } })))

pub returns-clause-names : goal.returns-clause-names
returns-clause-names g c =
    let cells = c.args.self.now in let p = pass.somewhere cells c.args.pass c.requires.pass c.requires.able.lives in let holder = c.index-holder.result.now in let other = c.index.result.now in
    let it = taking.others cells c.args.c c.args.pass p.0 p.1 holder other c.requires.chain c.index-holder.ensures (let z = c.if-holder-eq0.false in omega arith) c.index.ensures in
    pass.tells cells (holder - 1) other false it.at (ap is_alive (lists.told_some other.death c.is_none-lives.result c.is_none-lives.ensures c.if-lives.false).1)
