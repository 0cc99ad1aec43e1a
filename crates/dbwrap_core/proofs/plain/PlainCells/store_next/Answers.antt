use Rattle.std.proofs.Common.{◌≡◌, ◌+◌, false, [], slice_set, sym, refl, Some, ap, subst, ◌∙◌, arith, append-nil, length-set}
use Rattle.turn_types.specs.Shown.{Numbered, Shown, is_made}
use Rattle.turn_types.specs.Shown as plan
use Rattle.turn_types.specs.Calls.{Stored}
use Rattle.dbwrap_core.specs.declared.pass.Stage.{Stage}
use Rattle.dbwrap_core.specs.Shows.{plan_of}
use Rattle.dbwrap_core.proofs.Here as pass
use Rattle.dbwrap_core.proofs.Lists as lists
use Rattle.dbwrap_core.proofs.Holding as holding
use Rattle.dbwrap_core.proofs.Keeping as keep
use Rattle.dbwrap_core.proofs.Planning as plans
use Rattle.dbwrap_core.proofs.Storing as storing
use Rattle.dbwrap_core.proofs.plain.PlainCells.store_next.Goals as goal

pub invariant_of-self : goal.invariant_of-self
invariant_of-self g c =
    let cells = c.args.self.now in let me = c.index_mut-me.result.now in
    let h = pass.here cells c.args.pass me c.requires.pass c.index_mut-me.ensures.value c.requires.able.lives in
    record { sound = keep.renews cells.sound c.args.pass me (record me { new = c.pop.new.self }) h.at refl (sym (append-nil _) ∙ sym c.in_err-c.ensures.items) }

pub returns-in_err-c-clause-still : goal.returns-in_err-c-clause-still
returns-in_err-c-clause-still g c =
    let cells = c.args.self.now in let me = c.index_mut-me.result.now in
    let h = pass.here cells c.args.pass me c.requires.pass c.index_mut-me.ensures.value c.requires.able.lives in
    pass.still cells c.args.pass me h _ _ refl refl refl refl refl refl refl

pub returns-in_err-c-clause-stored : goal.returns-in_err-c-clause-stored
returns-in_err-c-clause-stored g c =
    let cells = c.args.self.now in let me = c.index_mut-me.result.now in
    let h = pass.here cells c.args.pass me c.requires.pass c.index_mut-me.ensures.value c.requires.able.lives in
    let emptied = c.in_err-c.ensures.cases.0 in let empty = plans.nil_of me.new.items (omega arith) in let after = record me { new = c.pop.new.self } in
    pass.alters cells c.args.pass me h after (λ v w. Stored v w c.from_residual.result) h.lives
    (subst (λ o. Stored (pass.showing cells c.args.pass me) (pass.showing cells c.args.pass after) o) (sym c.from_residual.ensures)
    (plans.due_nil me.stage me.new.items empty, λ j. record (pass.showing cells c.args.pass me) { plan = plan_of me.stage ((sym (append-nil _) ∙ sym c.in_err-c.ensures.items) j) }))

pub index_mut-requires : goal.index_mut-requires
index_mut-requires g c =
    let cells = c.args.self.now in let me = c.index_mut-me.result.now in
    let h = pass.here cells c.args.pass me c.requires.pass c.index_mut-me.ensures.value c.requires.able.lives in
    let last = storing.last cells c.args.pass me h.at _ _ _ c.in_ok-c.ensures.items (subst (λ (v : Shown g.row.R.Denot). is_made v.plan ≡ false) h.old c.requires.committed) in
    let inside = last.inside in omega arith

pub invariant_of-self-2 : goal.invariant_of-self-2
invariant_of-self-2 g c =
    let cells = c.args.self.now in let me = c.index_mut-me.result.now in
    let h = pass.here cells c.args.pass me c.requires.pass c.index_mut-me.ensures.value c.requires.able.lives in
    let last = storing.last cells c.args.pass me h.at _ _ _ c.in_ok-c.ensures.items (subst (λ (v : Shown g.row.R.Denot). is_made v.plan ≡ false) h.old c.requires.committed) in
    record { sound = storing.stored cells c.args.pass me h.at (record me { new = c.pop.new.self; done = c.saturating_add-me.result }) _ _ last refl c.in_ok-c.ensures.items }

pub returns-clause-still : goal.returns-clause-still
returns-clause-still g c =
    let cells = c.args.self.now in let me = c.index_mut-me.result.now in
    let h = pass.here cells c.args.pass me c.requires.pass c.index_mut-me.ensures.value c.requires.able.lives in
    let last = storing.last cells c.args.pass me h.at _ _ _ c.in_ok-c.ensures.items (subst (λ (v : Shown g.row.R.Denot). is_made v.plan ≡ false) h.old c.requires.committed) in
    pass.moves cells c.args.pass me h _ _ [] refl refl (length-set _ _ _) refl (sym (append-nil _)) (sym (append-nil _)) (λ m q e out. (refl, storing.others cells c.args.pass me h.at _ _ _ last m out))

pub returns-clause-stored : goal.returns-clause-stored
returns-clause-stored g c =
    let cells = c.args.self.now in let me = c.index_mut-me.result.now in
    let h = pass.here cells c.args.pass me c.requires.pass c.index_mut-me.ensures.value c.requires.able.lives in
    let last = storing.last cells c.args.pass me h.at _ _ _ c.in_ok-c.ensures.items (subst (λ (v : Shown g.row.R.Denot). is_made v.plan ≡ false) h.old c.requires.committed) in
    let chains = slice_set cells.chains.items c.in_ok-c.c c.in_ok-c.chain in let after = record me { new = c.pop.new.self; done = c.saturating_add-me.result } in
    pass.becomes cells c.args.pass me h chains cells.words.items cells.journal.items after (λ v w. Stored v w (Some c.in_ok-c.c)) h.lives (
      c.in_ok-c.chain,
      c.pop.new.self.items,
      ap (λ (s : Stage). plan_of s me.new.items) last.committed ∙ ap (λ (d : Numbered). plan.Committed d) c.in_ok-c.ensures.items,
      (λ j. record (pass.living cells c.args.pass chains cells.words.items cells.journal.items after) { plan = plan_of (last.committed j) c.pop.new.self.items; held = holding.held_becomes (c.args.pass + 1) c.in_ok-c.c cells.chains.items cells.words.items c.in_ok-c.chain last.word j }),
      lists.rose _ _ (omega arith) c.saturating_add-me.ensures,
    )
