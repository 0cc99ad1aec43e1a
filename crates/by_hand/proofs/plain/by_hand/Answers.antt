use Rattle.std.proofs.Common.{◌≡◌, ◌<◌, ◌∷◌, [], List, length, refl, ap, sym, subst, ◌∙◌, rules}
use Rattle.std.proofs.Common as std
use Rattle.turn_types.specs.Shown.{replay}
use Rattle.turn_types.specs.Journal.{Chains}
use Rattle.dbwrap_core.specs.Plain.{beside_of, shown_at, seat_tells}
use Rattle.record_txn.specs.Finishing.{next_entry}
use Rattle.by_hand.specs.Decided.{IsDecidedBy, IsDecidedBeside, chosen}
use Rattle.by_hand.specs.Idle.{IsIdle}
use Rattle.by_hand.specs.Steps.{HasLeft}
use Rattle.turn_types.specs.Beside.{Leaves}
use Rattle.by_hand.proofs.Idling.{ChainsTold, chains_at, still_idle, is_undone, is_carried_out, on_ok, on_err, either}
use Rattle.by_hand.proofs.plain.by_hand.Goals as goal

pub enter-done-requires-clause-idle : goal.enter-done-requires-clause-idle
enter-done-requires-clause-idle g c = let s = c.seat-seat.result in let v = shown_at s.cells.now s.pass in (subst (λ p. IsIdle (beside_of p)) (sym c.seat-seat.ensures.same.1) c.requires.idle).each v.number v (seat_tells s.cells.now s.pass s.here)

pub enter-done-requires-clause-decided : goal.enter-done-requires-clause-decided
enter-done-requires-clause-decided g c = let rule = g.R.Replay in let s = c.seat-seat.result in let p = c.args.cells.now in let n = c.args.pass in let same = c.seat-seat.ensures.same.1 in let at = c.seat-seat.ensures.pass in let x = c.args.decision.now in
    let here : n < length p.passes.items = subst (λ y. n < length y.passes.items) same (subst (λ m. m < length s.cells.now.passes.items) at s.here) in
    let v = shown_at p n in
    let decided : IsDecidedBy rule.step rule.legal rule.follows rule.buries rule.names c.args.chains v (replay rule.step v (beside_of p).journal) x =
    subst (λ (k : Chains). IsDecidedBy rule.step rule.legal rule.follows rule.buries rule.names c.args.chains v k x) (chains_at rule.step (beside_of p) v (seat_tells p n here) c.requires.idle c.tell.ensures.chains) c.requires.decided in
    subst (λ y. IsDecidedBeside rule.step rule.legal rule.follows rule.buries rule.names c.args.chains (shown_at y s.pass) (std.Some (beside_of y)) x) (sym same)
    (subst (λ m. IsDecidedBeside rule.step rule.legal rule.follows rule.buries rule.names c.args.chains (shown_at p m) (std.Some (beside_of p)) x) (sym at)
    (record { b = beside_of p; told = refl; by = decided }))

pub returns-clause-idle : goal.returns-clause-idle
returns-clause-idle g c = let step = g.R.Replay.step in let s = c.seat-seat.result in let t = c.enter-done.new.cells in let same = c.seat-seat.ensures.same.1 in
    let idle = subst (λ p. IsIdle (beside_of p)) (sym same) c.requires.idle in let told = subst (λ p. ChainsTold step (beside_of p)) (sym same) c.tell.ensures.chains in
    let v = shown_at s.cells.now s.pass in let w = shown_at t.cells.now t.pass in let here = seat_tells s.cells.now s.pass s.here in let there = seat_tells t.cells.now t.pass t.here in
    either c.enter-done.result c.enter-done.ensures.entered c.enter-done.ensures.undone
    (λ h. still_idle step v w (beside_of s.cells.now) (beside_of t.cells.now) _ _ (search rules) here there c.enter-done.ensures.goes.beside h idle told c.tell-2.ensures.chains)
    (λ h. still_idle step v w (beside_of s.cells.now) (beside_of t.cells.now) _ _ (search rules) here there c.enter-done.ensures.goes.beside h idle told c.tell-2.ensures.chains)

pub returns-clause-carried_out : goal.returns-clause-carried_out
returns-clause-carried_out g c = let step = g.R.Replay.step in let s = c.seat-seat.result in let t = c.enter-done.new.cells in let same = c.seat-seat.ensures.same.1 in let at = c.seat-seat.ensures.pass in let p = c.args.cells.now in let n = c.args.pass in
    let v = shown_at p n in let w = shown_at t.cells.now t.pass in let x = c.args.decision.now in let many = c.args.chains in
    let here = seat_tells p n (subst (λ y. n < length y.passes.items) same (subst (λ m. m < length s.cells.now.passes.items) at s.here)) in let there = seat_tells t.cells.now t.pass t.here in
    let leaves : Leaves v w (beside_of p) (beside_of t.cells.now) = subst (λ m. Leaves (shown_at p m) w (beside_of p) (beside_of t.cells.now)) at
    (subst (λ y. Leaves (shown_at y s.pass) w (beside_of y) (beside_of t.cells.now)) same c.enter-done.ensures.goes.beside) in
    let made = chains_at step (beside_of p) v here c.requires.idle c.tell.ensures.chains in
    on_ok c.enter-done.result (λ h. is_carried_out step v w (beside_of p) (beside_of t.cells.now) _ (next_entry v (chosen many (beside_of p).chains x).event ∷ []) (search rules) here there leaves
    (subst (λ (k : Chains). HasLeft v w (next_entry v (chosen many k x).event ∷ [])) (sym made)
    (subst (λ m. HasLeft (shown_at p m) w (next_entry (shown_at p m) (chosen many (replay step (shown_at p m) (beside_of p).journal) x).event ∷ [])) at
    (subst (λ y. HasLeft (shown_at y s.pass) w (next_entry (shown_at y s.pass) (chosen many (replay step (shown_at y s.pass) (beside_of y).journal) x).event ∷ [])) same h)))
    c.requires.idle c.tell.ensures.chains c.tell-2.ensures.chains _ (search rules) (next_entry v (chosen many (beside_of p).chains x).event) refl) c.enter-done.ensures.entered

pub returns-clause-undone : goal.returns-clause-undone
returns-clause-undone g c = let step = g.R.Replay.step in let s = c.seat-seat.result in let t = c.enter-done.new.cells in let same = c.seat-seat.ensures.same.1 in let at = c.seat-seat.ensures.pass in let p = c.args.cells.now in let n = c.args.pass in
    let v = shown_at p n in let w = shown_at t.cells.now t.pass in
    let here = seat_tells p n (subst (λ x. n < length x.passes.items) same (subst (λ m. m < length s.cells.now.passes.items) at s.here)) in let there = seat_tells t.cells.now t.pass t.here in
    let leaves : Leaves v w (beside_of p) (beside_of t.cells.now) = subst (λ m. Leaves (shown_at p m) w (beside_of p) (beside_of t.cells.now)) at
    (subst (λ x. Leaves (shown_at x s.pass) w (beside_of x) (beside_of t.cells.now)) same c.enter-done.ensures.goes.beside) in
    on_err c.enter-done.result (λ h. is_undone step v w (beside_of p) (beside_of t.cells.now) _ [] (search rules) here there leaves
    (subst (λ m. HasLeft (shown_at p m) w []) at (subst (λ x. HasLeft (shown_at x s.pass) w []) same h))
    c.requires.idle c.tell.ensures.chains c.tell-2.ensures.chains _ (search rules) refl) c.enter-done.ensures.undone
