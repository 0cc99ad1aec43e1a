use Rattle.std.proofs.Common.{◌≡◌, ◌+◌, true, [], slice_set, sym, refl, Some, ap, subst, ◌∙◌, arith, append-nil, length-set}
use Rattle.turn_types.specs.Shown.{Shown, is_stored}
use Rattle.turn_types.specs.Calls.{Released}
use Rattle.dbwrap_core.specs.Shows.{held_by}
use Rattle.dbwrap_core.specs.Plain.{shown_at}
use Rattle.dbwrap_core.proofs.Here as pass
use Rattle.dbwrap_core.proofs.Lists as lists
use Rattle.dbwrap_core.proofs.Holding as holding
use Rattle.dbwrap_core.proofs.Keeping as keep
use Rattle.dbwrap_core.proofs.Planning as plans
use Rattle.dbwrap_core.proofs.plain.PlainCells.release_next.Goals as goal

pub returns-in_err-c-clause-still : goal.returns-in_err-c-clause-still
returns-in_err-c-clause-still g c =
    let cells = c.args.self.now in let p = pass.somewhere cells c.args.pass c.requires.pass c.requires.able.lives in
    pass.unmoved cells c.args.pass p.0 p.1

pub returns-in_err-c-clause-released : goal.returns-in_err-c-clause-released
returns-in_err-c-clause-released g c =
    let cells = c.args.self.now in let p = pass.somewhere cells c.args.pass c.requires.pass c.requires.able.lives in
    let none = lists.searched (c.args.pass + 1) cells.words.items _ _ c.as_slice.ensures.value c.in_err-c.ensures in
    subst (λ o. Released (shown_at cells c.args.pass) (shown_at cells c.args.pass) o) (sym c.from_residual.ensures)
    (ap (λ (v : Shown g.row.R.Denot). v.held) p.1.old ∙ holding.none_with (c.args.pass + 1) cells.chains.items cells.words.items none, refl)

pub invariant_of-self : goal.invariant_of-self
invariant_of-self g c =
    let cells = c.args.self.now in let me = c.index_mut-me.result.now in
    let h = pass.here cells c.args.pass me c.requires.pass c.index_mut-me.ensures.value c.requires.able.lives in
    let word = lists.found_at (c.args.pass + 1) c.in_ok-c.c cells.words.items (lists.searched _ cells.words.items _ _ c.as_slice.ensures.value c.in_ok-c.ensures) in
    let stored = subst (λ (v : Shown g.row.R.Denot). is_stored v.plan ≡ true) h.old c.requires.stored in
    let nil = plans.left me.stage me.new.items [] stored (cells.sound.each c.args.pass me h.at).idle in
    let given = keep.gives_back cells.sound c.args.pass c.in_ok-c.c me h.at word.0 (plans.stored_plans _ stored) (plans.stored_due _ stored) in
    record { sound = keep.empties given c.args.pass me (record me { stage = c.stage_after-me.result; done = c.saturating_add-me.result }) h.at refl (plans.stored_due _ stored) nil }

pub returns-clause-still : goal.returns-clause-still
returns-clause-still g c =
    let cells = c.args.self.now in let me = c.index_mut-me.result.now in
    let h = pass.here cells c.args.pass me c.requires.pass c.index_mut-me.ensures.value c.requires.able.lives in
    let word = lists.found_at (c.args.pass + 1) c.in_ok-c.c cells.words.items (lists.searched _ cells.words.items _ _ c.as_slice.ensures.value c.in_ok-c.ensures) in
    pass.moves cells c.args.pass me h _ _ [] refl refl refl refl (sym (append-nil _)) (sym (append-nil _)) (λ m q e out. (refl, holding.held_freed c.args.pass c.in_ok-c.c cells.chains.items cells.words.items word.0 m out))

pub returns-clause-released : goal.returns-clause-released
returns-clause-released g c =
    let cells = c.args.self.now in let me = c.index_mut-me.result.now in
    let h = pass.here cells c.args.pass me c.requires.pass c.index_mut-me.ensures.value c.requires.able.lives in
    let word = lists.found_at (c.args.pass + 1) c.in_ok-c.c cells.words.items (lists.searched _ cells.words.items _ _ c.as_slice.ensures.value c.in_ok-c.ensures) in
    let stored = subst (λ (v : Shown g.row.R.Denot). is_stored v.plan ≡ true) h.old c.requires.stored in
    let nil = plans.left me.stage me.new.items [] stored (cells.sound.each c.args.pass me h.at).idle in
    let inside = lists.within cells.words.items c.in_ok-c.c _ word.0 in let many = cells.sound.each_held in
    let y = lists.there cells.chains.items c.in_ok-c.c (omega arith) in
    let words = slice_set cells.words.items c.in_ok-c.c 0 in let after = record me { stage = c.stage_after-me.result; done = c.saturating_add-me.result } in
    let second = lists.searched (c.args.pass + 1) words _ _ c.as_slice-2.ensures.value c.first_with-2.ensures in
    let plan_is = plans.after_stage me.stage c.stage_after-me.result me.new.items (held_by (c.args.pass + 1) 0 cells.chains.items words) c.is_none-last.result stored nil c.stage_after-me.ensures.last c.stage_after-me.ensures.other
    (λ b. holding.none_with (c.args.pass + 1) cells.chains.items words (second ∙ lists.told_none c.first_with-2.result c.is_none-last.result c.is_none-last.ensures b))
    (λ b. let t = lists.told_some c.first_with-2.result c.is_none-last.result c.is_none-last.ensures b in let w = lists.found_at (c.args.pass + 1) t.0 words (second ∙ t.1) in
    let l = lists.within words t.0 _ w.0 in let set = length-set cells.words.items c.in_ok-c.c 0 in let z = lists.there cells.chains.items t.0 (omega arith) in holding.some_held (c.args.pass + 1) t.0 cells.chains.items words z.0 w.0 z.1) in
    pass.becomes cells c.args.pass me h cells.chains.items words cells.journal.items after (λ v w. Released v w (Some c.in_ok-c.c)) h.lives (
      y.0,
      held_by (c.args.pass + 1) 0 cells.chains.items words,
      holding.held_least (c.args.pass + 1) c.in_ok-c.c 0 cells.chains.items cells.words.items y.0 word.0 y.1 word.1 (λ z. omega arith),
      (λ j. record (pass.living cells c.args.pass cells.chains.items words cells.journal.items after) { plan = plan_is j }),
      lists.rose _ _ (omega arith) c.saturating_add-me.ensures,
    )
