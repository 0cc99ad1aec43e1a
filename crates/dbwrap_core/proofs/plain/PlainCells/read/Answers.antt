use Rattle.std.proofs.Common.{◌≡◌, ◌+◌, true, List, [], take, sym, refl, ap, subst, ◌∙◌, arith, append-nil}
use Rattle.std.specs.Prelude.{fold}
use mathlib.Core.Option.{some}
use lib.ListN.{get_elem?}
use Rattle.sid_core.specs.declared.entry.Entry.{Entry}
use Rattle.turn_types.specs.Journal.{Legal, of_pass}
use Rattle.turn_types.specs.Shown.{Numbered, Shown, look, or_else, is_nothing}
use Rattle.turn_types.specs.Calls.{Learnt, Kept}
use Rattle.dbwrap_core.proofs.Here as pass
use Rattle.dbwrap_core.proofs.Lists as lists
use Rattle.dbwrap_core.proofs.Lawful.{lawful}
use Rattle.dbwrap_core.proofs.Holding as holding
use Rattle.dbwrap_core.proofs.Keeping as keep
use Rattle.dbwrap_core.proofs.Planning as plans
use Rattle.dbwrap_core.proofs.plain.PlainCells.read.Goals as goal

pub index-requires : goal.index-requires
index-requires g c =
    let cells = c.args.self.now in let p = pass.somewhere cells c.args.pass c.requires.pass c.requires.able.lives in
    let t = holding.found_at (c.args.pass + 1) c.args.c cells.chains.items cells.words.items c.requires.held.0 (subst (λ (v : Shown g.row.R.Denot). look c.args.c v.held ≡ some c.requires.held.0) p.1.old c.requires.held.1) in
    let z = lists.within cells.chains.items c.args.c _ t.1 in omega arith

pub returns-in_err-chain-clause-still : goal.returns-in_err-chain-clause-still
returns-in_err-chain-clause-still g c =
    let cells = c.args.self.now in let p = pass.somewhere cells c.args.pass c.requires.pass c.requires.able.lives in
    pass.unmoved cells c.args.pass p.0 p.1

pub returns-in_err-chain-clause-refused : goal.returns-in_err-chain-clause-refused
returns-in_err-chain-clause-refused g c =
    let cells = c.args.self.now in let p = pass.somewhere cells c.args.pass c.requires.pass c.requires.able.lives in
    lists.on_err c.from_residual.result _ (subst (λ (v : Shown g.row.R.Denot). Kept g.R.Replay.step g.R.Replay.legal g.R.Replay.follows g.R.Replay.buries v v) (sym p.1.old) (record { shown = refl; old = ([], sym (append-nil _)); law = lawful cells.sound c.args.pass p.0 p.1.at p.1.lives }))

pub invariant_of-self : goal.invariant_of-self
invariant_of-self g c =
    let cells = c.args.self.now in let me = c.index_mut-me.result.now in
    let h = pass.here cells c.args.pass me c.requires.pass c.index_mut-me.ensures.value c.requires.able.lives in
    record { sound = keep.sees cells.sound c.args.pass me _ h.at h.lives (let z = c.len-seen.ensures in omega arith) (lists.take_whole _ cells.journal.items (c.len-seen.ensures ∙ omega arith)) }

pub returns-clause-still : goal.returns-clause-still
returns-clause-still g c =
    let cells = c.args.self.now in let me = c.index_mut-me.result.now in
    let h = pass.here cells c.args.pass me c.requires.pass c.index_mut-me.ensures.value c.requires.able.lives in
    let whole : take c.len-seen.result cells.journal.items ≡ cells.journal.items = lists.take_whole _ cells.journal.items (c.len-seen.ensures ∙ omega arith) in
    pass.still cells c.args.pass me h _ _ refl refl refl refl refl refl (ap (of_pass c.args.pass) whole ∙ sym (cells.sound.each c.args.pass me h.at).own)

pub returns-clause-learnt : goal.returns-clause-learnt
returns-clause-learnt g c =
    let cells = c.args.self.now in let me = c.index_mut-me.result.now in
    let h = pass.here cells c.args.pass me c.requires.pass c.index_mut-me.ensures.value c.requires.able.lives in
    let whole : take c.len-seen.result cells.journal.items ≡ cells.journal.items = lists.take_whole _ cells.journal.items (c.len-seen.ensures ∙ omega arith) in
    let idle = plans.none_due _ (plans.not_committed _ (subst (λ (v : Shown g.row.R.Denot). is_nothing v.plan ≡ true) h.old c.requires.unplanned)) in
    let o = cells.sound.each c.args.pass me h.at in
    let t = holding.found_at (c.args.pass + 1) c.args.c cells.chains.items cells.words.items c.requires.held.0 (subst (λ (v : Shown g.row.R.Denot). look c.args.c v.held ≡ some c.requires.held.0) h.old c.requires.held.1) in
    let here = lists.at_place cells.chains.items c.args.c c.index.result.now (lists.within cells.chains.items c.args.c _ t.1) c.index.ensures in
    pass.alters cells c.args.pass me h _ (λ v w. Learnt g.R.Replay.step g.R.Replay.legal g.R.Replay.follows g.R.Replay.buries c.args.c v w c.in_ok-chain.chain) h.lives (record {
      shown = λ j. record (pass.showing cells c.args.pass (record me { seen = c.len-seen.result })) { own = (ap (of_pass c.args.pass) whole ∙ sym o.own) j };
      old = (let r = lists.take_prefix me.seen cells.journal.items in (r.0, whole ∙ r.1));
      contents = holding.found_here (c.args.pass + 1) c.args.c cells.chains.items cells.words.items _ t.0 (here ∙ ap some (sym c.in_ok-chain.ensures));
      parts = λ x y e. let f = holding.found_at (c.args.pass + 1) x cells.chains.items cells.words.items y e in
          subst (λ (js : List Entry). get_elem? (fold (g.R.Replay.step cells.rule) cells.first.value.items js) x ≡ some y) (sym whole)
          (subst (λ (d : Numbered). get_elem? (fold (g.R.Replay.step cells.rule) cells.first.value.items cells.journal.items) x ≡ some (or_else (look x d) y)) idle (o.parts x y f.0 f.1));
      law = record {
        is_legal = subst (λ (js : List Entry). Legal (g.R.Replay.step cells.rule) (g.R.Replay.legal cells.rule) (g.R.Replay.follows cells.rule) cells.first.value.items js) (sym whole) cells.sound.is_legal;
        own = refl;
        unburied = λ i e f. o.unburied i e h.lives (subst (λ (js : List Entry). get_elem? js i ≡ some e) whole f);
      };
    })
