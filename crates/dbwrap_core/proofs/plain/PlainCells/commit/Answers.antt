use Rattle.std.proofs.Common.{◌≡◌, ◌+◌, List, [], ◌∷◌, ◌++◌, take, sym, refl, ap, subst, ◌∙◌, arith, append-nil}
use Rattle.sid_core.specs.declared.entry.Entry.{Entry}
use Rattle.turn_types.specs.Journal.{of_pass}
use Rattle.turn_types.specs.Calls.{Kept, Lawfully, Stands}
use Rattle.dbwrap_core.specs.Sound.{Sound}
use Rattle.dbwrap_core.specs.declared.pass.PlainPass.{PlainPass}
use Rattle.dbwrap_core.specs.declared.pass.Stage.TheVariants as stage
use Rattle.dbwrap_core.proofs.Here as pass
use Rattle.dbwrap_core.proofs.Lists as lists
use Rattle.dbwrap_core.proofs.Lawful as lawful
use Rattle.dbwrap_core.proofs.Committing as committing
use Rattle.dbwrap_core.proofs.plain.PlainCells.commit.Goals as goal

pub returns-then-is_err-clause-still : goal.returns-then-is_err-clause-still
returns-then-is_err-clause-still g c =
    let cells = c.args.self.now in let me = c.index_mut-me.result.now in
    let h = pass.here cells c.args.pass me c.requires.pass c.index_mut-me.ensures.value c.requires.able.lives in
    let refused = c.if-is_err.true in let told = c.is_err.ensures in let pushed = c.push.ensures.items in
    let kept : c.push.new.self.items ≡ cells.journal.items = grind arith in
    pass.still cells c.args.pass me h _ _ refl refl refl refl kept refl refl

pub returns-then-is_err-clause-commits : goal.returns-then-is_err-clause-commits
returns-then-is_err-clause-commits g c =
    let cells = c.args.self.now in let me = c.index_mut-me.result.now in
    let h = pass.here cells c.args.pass me c.requires.pass c.index_mut-me.ensures.value c.requires.able.lives in
    let refused = c.if-is_err.true in let told = c.is_err.ensures in let pushed = c.push.ensures.items in
    let kept : c.push.new.self.items ≡ cells.journal.items = grind arith in
    pass.becomes cells c.args.pass me h cells.chains.items cells.words.items c.push.new.self.items me (λ v w. Kept g.R.Replay.step g.R.Replay.legal g.R.Replay.follows g.R.Replay.buries v w) h.lives (record {
      shown = λ j. record (pass.living cells c.args.pass cells.chains.items cells.words.items c.push.new.self.items me) { own = of_pass c.args.pass (take me.seen (kept j)) };
      old = ([], ap (λ (t : List Entry). take me.seen t) kept ∙ sym (append-nil _));
      law = subst (λ (js : List Entry). Lawfully g.R.Replay.step g.R.Replay.legal g.R.Replay.follows g.R.Replay.buries (pass.living cells c.args.pass cells.chains.items cells.words.items js me)) (sym kept) (lawful.lawful cells.sound c.args.pass me h.at h.lives);
    })

pub invariant_of-self-2 : goal.invariant_of-self-2
invariant_of-self-2 g c =
    let cells = c.args.self.now in let me = c.index_mut-me.result.now in let after = record me { seen = c.len-place.result + 1; commits = c.args.entry.seq; stage = stage.Committed; done = c.saturating_add-me.result } in
    let h = pass.here cells c.args.pass me c.requires.pass c.index_mut-me.ensures.value c.requires.able.lives in
    let taken = c.if-is_err.false in let told = c.is_err.ensures in let pushed = c.push.ensures.items in
    let it = committing.committed cells c.args.pass me h after c.args.entry c.push.new.self.items (g.R.Replay.law cells.rule) c.requires.fits (let z = c.len-place.ensures in omega arith) refl (grind arith) in
    record { sound = it.sound }

pub returns-clause-still : goal.returns-clause-still
returns-clause-still g c =
    let cells = c.args.self.now in let me = c.index_mut-me.result.now in let after = record me { seen = c.len-place.result + 1; commits = c.args.entry.seq; stage = stage.Committed; done = c.saturating_add-me.result } in
    let h = pass.here cells c.args.pass me c.requires.pass c.index_mut-me.ensures.value c.requires.able.lives in
    let taken = c.if-is_err.false in let told = c.is_err.ensures in let pushed = c.push.ensures.items in
    let more : c.push.new.self.items ≡ cells.journal.items ++ c.args.entry ∷ [] = grind arith in
    let it = committing.committed cells c.args.pass me h after c.args.entry c.push.new.self.items (g.R.Replay.law cells.rule) c.requires.fits (let z = c.len-place.ensures in omega arith) refl more in
    pass.moves cells c.args.pass me h _ after (c.args.entry ∷ []) refl refl refl refl more it.gains (λ m q at out. (it.others m q at, refl))

pub returns-clause-commits : goal.returns-clause-commits
returns-clause-commits g c =
    let cells = c.args.self.now in let me = c.index_mut-me.result.now in let after = record me { seen = c.len-place.result + 1; commits = c.args.entry.seq; stage = stage.Committed; done = c.saturating_add-me.result } in
    let h = pass.here cells c.args.pass me c.requires.pass c.index_mut-me.ensures.value c.requires.able.lives in
    let taken = c.if-is_err.false in let told = c.is_err.ensures in let pushed = c.push.ensures.items in
    let it = committing.committed cells c.args.pass me h after c.args.entry c.push.new.self.items (g.R.Replay.law cells.rule) c.requires.fits (let z = c.len-place.ensures in omega arith) refl (grind arith) in
    pass.becomes cells c.args.pass me h cells.chains.items cells.words.items c.push.new.self.items after (λ v w. Stands g.R.Replay.step g.R.Replay.legal g.R.Replay.follows g.R.Replay.buries v w c.args.entry c.len-place.result) h.lives
    (it.stands c.len-place.result (c.len-place.ensures ∙ omega arith) (lists.rose _ _ (omega arith) c.saturating_add-me.ensures))

pub returns-then-is_err-clause-buried : goal.returns-then-is_err-clause-buried
returns-then-is_err-clause-buried g c =
    let cells = c.args.self.now in let me = c.index_mut-me.result.now in
    let h = pass.here cells c.args.pass me c.requires.pass c.index_mut-me.ensures.value c.requires.able.lives in
    let refused = c.if-is_err.true in let told = c.is_err.ensures in let pushed = c.push.ensures.items in
    let kept : c.push.new.self.items ≡ cells.journal.items = grind arith in
    lawful.buries_the_dead (subst (λ (t : List Entry × List PlainPass). Sound g.R.Replay.first g.R.Replay.step g.R.Replay.legal g.R.Replay.follows g.R.Replay.buries cells.rule cells.first.value.items cells.chains.items cells.words.items t.0 t.1) (λ j. (sym kept j, sym (lists.set_self cells.passes.items c.args.pass me h.at) j)) cells.sound)

pub returns-clause-buried : goal.returns-clause-buried
returns-clause-buried g c =
    let cells = c.args.self.now in let me = c.index_mut-me.result.now in let after = record me { seen = c.len-place.result + 1; commits = c.args.entry.seq; stage = stage.Committed; done = c.saturating_add-me.result } in
    let h = pass.here cells c.args.pass me c.requires.pass c.index_mut-me.ensures.value c.requires.able.lives in
    let taken = c.if-is_err.false in let told = c.is_err.ensures in let pushed = c.push.ensures.items in
    let it = committing.committed cells c.args.pass me h after c.args.entry c.push.new.self.items (g.R.Replay.law cells.rule) c.requires.fits (let z = c.len-place.ensures in omega arith) refl (grind arith) in
    lawful.buries_the_dead it.sound
