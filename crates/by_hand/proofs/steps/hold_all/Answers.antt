use Rattle.std.proofs.Common.{◌≡◌, suc, ◌+◌, [], take, drop, slice_index_or, sym, ap, subst, ◌∙◌, refl, arith}
use Rattle.std.proofs.Math.Seq.{drop-cons, take-suc}
use Rattle.turn_types.specs.Journal.{RiseWithin}
use Rattle.turn_types.specs.Shown.{Shown, Numbered, AllBelow}
use Rattle.record_txn.specs.Hand.{chains_of}
use Rattle.record_txn.proofs.Going.{goes_on, stays}
use Rattle.by_hand.specs.Steps.{HasTaken}
use Rattle.by_hand.proofs.Holding.{none_held, starts, takes_more, below_more, below_snoc}
use Rattle.by_hand.proofs.steps.hold_all.Goals as goal

pub loop-c-init : goal.loop-c-init
loop-c-init g c = let it = g.C.Cells in let s = c.args.txn.now in let v = it.shown s.cells.now in let none = c.requires.fresh.0 in
    let free = none_held s.hand.items v.held none c.requires.opened.hand in record {
      cells = refl;
      chains = refl;
      stop = refl;
      goes = stays it.bond it.chains it.quiet it.shown it.beside s.cells.now (it.tells s.cells.now);
      opened = c.requires.opened;
      taken = subst (λ (t : Numbered). HasTaken v v [] t) (sym (ap chains_of none)) (starts v free);
      rest = (0, subst (λ (t : Numbered). AllBelow 0 t) (sym free) tt, c.requires.footprint);
    }

pub hold-requires-clause-chain : goal.hold-requires-clause-chain
hold-requires-clause-chain g c = let it = g.C.Cells in let s = c.loop-c.txn in let r = c.loop-c.invariant.rest in let x = slice_index_or c.args.footprint.now c.loop-c.c-index 0 in
    let t = subst (λ cs. RiseWithin r.0 (it.chains s.cells.now) cs) (drop-cons c.args.footprint.now c.loop-c.c-index 0 c.loop-c-test.true) r.2 in
    (t.1, below_more r.0 x (it.shown s.cells.now).held t.0 r.1)

pub returns-in_err-hold-clause-goes : goal.returns-in_err-hold-clause-goes
returns-in_err-hold-clause-goes g c = let it = g.C.Cells in goes_on it.bond it.chains it.quiet it.shown it.beside c.args.txn.now.cells.now c.loop-c.txn.cells.now c.hold.new.self.cells.now c.loop-c.invariant.goes c.hold.ensures.goes

pub loop-c-preserved : goal.loop-c-preserved
loop-c-preserved g c = let it = g.C.Cells in let rule = g.C.Rule.Replay in let s = c.loop-c.txn in let t = c.hold.new.self in let r = c.loop-c.invariant.rest in let n = c.loop-c.c-index in
    let fp = c.args.footprint.now in let x = slice_index_or fp n 0 in let e = c.hold.ensures in let i = c.loop-c.invariant in let h = c.in_ok-hold.ensures.holds in
    let more : suc n ≡ n + 1 = omega arith in
    let rise = subst (λ cs. RiseWithin r.0 (it.chains s.cells.now) cs) (drop-cons fp n 0 c.loop-c-test.true) r.2 in record {
      cells = e.cells ∙ i.cells;
      chains = e.kept.0 ∙ i.chains;
      stop = e.kept.1 ∙ i.stop;
      goes = goes_on it.bond it.chains it.quiet it.shown it.beside c.args.txn.now.cells.now s.cells.now t.cells.now i.goes e.goes;
      opened = c.in_ok-hold.ensures.opened;
      taken = takes_more rule.step rule.legal rule.follows rule.buries x (take n fp) (take (n + 1) fp) (chains_of s.hand.items) (chains_of t.hand.items) h.0 (it.shown c.args.txn.now.cells.now) (it.shown s.cells.now) (it.shown t.cells.now)
          i.taken h.1 h.2 (ap (λ m. take m fp) (sym more) ∙ take-suc fp n 0 c.loop-c-test.true);
      rest = (
        x + 1,
        subst (λ (k : Numbered). AllBelow (x + 1) k) (sym (ap (λ (u : Shown g.row.C-Rule.Denot). u.held) h.1.shown)) (below_snoc r.0 x h.0 (it.shown s.cells.now).held rise.0 r.1),
        subst (λ m. RiseWithin (x + 1) m (drop (n + 1) fp)) (sym e.goes.chains) (subst (λ m. RiseWithin (x + 1) (it.chains s.cells.now) (drop m fp)) more rise.2),
      );
    }
