-- What a decision owes so that its whole outcome fits: its own changes, its waiter, and that those to whom it posts live.
use Rattle.std.proofs.Common.{◌≡◌, ℕ, Bool, true, List, [], ◌∷◌, ◌++◌, filter, map, Option, Some, None, refl, sym, ap, ◌∙◌, subst, inl, inr, ◌⊎◌}
use Rattle.std.specs.List.{list_all}
use Rattle.std.proofs.lemmas.Bool.{and_parts}
use Rattle.sid_core.specs.declared.ids.Sid.{Sid}
use Rattle.sid_core.specs.declared.ids.Spot.{Spot}
use Rattle.sid_core.specs.declared.entry.Post.{Post}
use Rattle.serial_table.specs.declared.rows.WaiterRow.{WaiterRow}
use Rattle.serial_table.specs.declared.rows.Watch.{Watch}
use Rattle.serial_table.specs.declared.table.Table.{Table}
use Rattle.serial_table.specs.declared.change.Change.{Change}
use Rattle.serial_table.specs.declared.change.Change.TheVariants as c
use Rattle.serial_table.specs.declared.decision.Decision.{Decision}
use Rattle.serial_table.specs.View.{view, lives, waits_on, watch_on}
use Rattle.serial_table.specs.Wake.{wake, waiting_on}
use Rattle.serial_table.specs.Change.{perform, perform_all, perform_all_by_key, is_other_wait}
use Rattle.serial_table.specs.Decision.{waits_no_more, waits_now, settling, finishing, freed_spots, woken_by, conclude}
use Rattle.serial_table.specs.Sound.{IsConsistent, IsNewWaiter, Fits, AllAlong, AllFit, cannot_both_wait, waits_among_living}
use Rattle.serial_table.proofs.Views.{view-perform_all}
use Rattle.serial_table.proofs.Members.{IsIn, each, any_none, none_of, in_filter, in_append, in_map, in_flat_map}
use Rattle.serial_table.proofs.Living.{lives_among}
use Rattle.serial_table.proofs.Consistent.{consistent-perform_all}

-- ---- changes one after another

pub along_append : (Q : Change → Table → Type 0) (cs ds : List Change) (t : Table) → AllAlong Q cs t → AllAlong Q ds (perform_all cs t) → AllAlong Q (cs ++ ds) t
along_append Q [] ds t first later = later
along_append Q (change ∷ cs) ds t first later = (first.0, along_append Q cs ds (perform change t) first.1 later)

pub along_mapped : {X : Type 0} (Q : Change → Table → Type 0) (f : X → Change) (xs : List X) (t : Table) → ((x : X) → IsIn x xs → (u : Table) → Q (f x) u) → AllAlong Q (map f xs) t
along_mapped Q f [] t h = tt
along_mapped Q f (x ∷ xs) t h = (h x (inl refl) t, along_mapped Q f xs (perform (f x) t) (λ y i. h y (inr i)))

-- What each change keeps that fits and has Q, all keep that fit and have Q.
pub kept_along : (P : Table → Type 0) (Q : Change → Table → Type 0) → ((change : Change) (t : Table) → P t → Fits change t → Q change t → P (perform change t))
    → (cs : List Change) (t : Table) → P t → AllFit cs t → AllAlong Q cs t → P (perform_all cs t)
kept_along P Q h [] t p fit q = p
kept_along P Q h (change ∷ cs) t p fit q = kept_along P Q h cs (perform change t) (h change t p fit.0 q.0) fit.1 q.1

pub fit_append : (cs ds : List Change) (t : Table) → AllFit cs t → AllFit ds (perform_all cs t) → AllFit (cs ++ ds) t
fit_append cs ds t first later = along_append Fits cs ds t first later

-- ---- waiters go

pub drops_fit : (watches : List Watch) (t : Table) → AllFit (map waits_no_more watches) t
drops_fit watches t = along_mapped Fits waits_no_more watches t (λ watch i u. tt)

-- nothing but waiters goes, and each that stays is another wait than these
pub record IsAfterDrops (watches : List Watch) (t : Table) : Type 0 where
  pub waiters : List WaiterRow
  pub same : perform_all (map waits_no_more watches) t ≡ record t { waiters = waiters }
  pub before : (w : WaiterRow) → IsIn w waiters → IsIn w t.waiters
  pub others : (w : WaiterRow) → IsIn w waiters → (watch : Watch) → IsIn watch watches → is_other_wait watch.sid watch.call w.sid w.call ≡ true

other_wait : (watch : Watch) (watches : List Watch) (w : WaiterRow) → is_other_wait watch.sid watch.call w.sid w.call ≡ true
    → ((x : Watch) → IsIn x watches → is_other_wait x.sid x.call w.sid w.call ≡ true) → (x : Watch) → IsIn x (watch ∷ watches) → is_other_wait x.sid x.call w.sid w.call ≡ true
other_wait watch watches w here later x (inl e) = ap (λ (y : Watch). is_other_wait y.sid y.call w.sid w.call) (sym e) ∙ here
other_wait watch watches w here later x (inr j) = later x j

pub after_drops : (watches : List Watch) (t : Table) → IsAfterDrops watches t
after_drops [] t = record { waiters = t.waiters; same = refl; before = λ w i. i; others = λ w i watch j. absurd j }
after_drops (watch ∷ watches) t =
    let stays : WaiterRow → Bool = λ w. is_other_wait watch.sid watch.call w.sid w.call in
    let rest : IsAfterDrops watches (record t { waiters = filter stays t.waiters }) = after_drops watches (record t { waiters = filter stays t.waiters }) in
    record {
      waiters = rest.waiters;
      same = rest.same;
      before = λ w i. (in_filter stays t.waiters w (rest.before w i)).0;
      others = λ w i. other_wait watch watches w (in_filter stays t.waiters w (rest.before w i)).1 (rest.others w i);
    }

-- ---- what a decision owes

pub record DecisionFits (t : Table) (decision : Decision) : Type 0 where
  pub changes : AllFit decision.changes t
  -- once the table has settled: its waiter is new, and those to whom it posts live
  pub waits : AllFit (waits_now decision.waits) (perform_all (settling decision) t)
  pub posts : list_all (λ post. lives (view (perform_all (settling decision) t)) post.to) decision.posts ≡ true

pub settling_fits : (t : Table) (decision : Decision) → AllFit decision.changes t → AllFit (settling decision) t
settling_fits t decision fit = fit_append decision.changes (c.Settle ∷ []) t fit (tt, tt)

-- a waiter that is new stays new where others go
still_new : (watches : List Watch) (t : Table) (waits : Option WaiterRow) → AllFit (waits_now waits) t → AllFit (waits_now waits) (perform_all (map waits_no_more watches) t)
still_new watches t None fit = tt
still_new watches t (Some waiter) fit =
    let after = after_drops watches t in
    let new : IsNewWaiter waiter (record t { waiters = after.waiters }) = record {
      living = fit.0.living;
      others = any_none (λ other. cannot_both_wait other waiter) after.waiters (λ w i. none_of (λ other. cannot_both_wait other waiter) t.waiters fit.0.others w (after.before w i));
    } in
    (subst (IsNewWaiter waiter) (sym after.same) new, tt)

workers-drops : (watches : List Watch) (t : Table) → (perform_all (map waits_no_more watches) t).workers ≡ t.workers
workers-drops watches t = ap (λ (u : Table). u.workers) (after_drops watches t).same

workers-waits : (waits : Option WaiterRow) (t : Table) → (perform_all (waits_now waits) t).workers ≡ t.workers
workers-waits None t = refl
workers-waits (Some waiter) t = refl

-- letters to those who live
sends_fit : (posts : List Post) (t : Table) → ((post : Post) → IsIn post posts → lives (view t) post.to ≡ true) → AllFit (map (λ post. c.Send post) posts) t
sends_fit [] t h = tt
sends_fit (post ∷ posts) t h = (h post (inl refl), sends_fit posts (perform (c.Send post) t) (λ p i. h p (inr i)))

-- who waits on a spot lives
pub watcher_lives : (t : Table) → IsConsistent t → (spots : List Spot) (watch : Watch) → IsIn watch (waiting_on (view t) spots) → lives (view t) watch.sid ≡ true
watcher_lives t k spots watch i =
    let spot = in_flat_map (λ spot. (view t).watches_on spot) spots watch i in
    let w = in_map (watch_on spot.0) (filter (waits_on spot.0) t.waiters) watch spot.2 in
    let waiter = in_filter (waits_on spot.0) t.waiters w.0 w.1 in
    ap (λ (x : Watch). lives (view t) x.sid) (sym w.2) ∙ (and_parts (lives (view t) w.0.sid) _ (each (waits_among_living (view t)) t.waiters k.waiters_live w.0 waiter.0)).0

pub conclude_fits : (t : Table) (decision : Decision) → IsConsistent t → DecisionFits t decision → AllFit (conclude (view t) decision).changes t
unfolding conclude
conclude_fits t decision k h =
    let first = settling_fits t decision h.changes in
    let u = perform_all (settling decision) t in
    let agrees : IsConsistent u = consistent-perform_all (settling decision) t k first in
    let woken = woken_by (view t) decision in
    let u1 = perform_all (map waits_no_more woken) u in
    let u2 = perform_all (waits_now decision.waits) u1 in
    let workers : u2.workers ≡ u.workers = workers-waits decision.waits u1 ∙ workers-drops woken u in
    let posts : (post : Post) → IsIn post (decision.posts ++ map wake woken) → lives (view u) post.to ≡ true = λ post i. receives post (in_append decision.posts (map wake woken) post i) in
    fit_append (settling decision) (finishing woken decision.waits (decision.posts ++ map wake woken)) t first
    (fit_append (map waits_no_more woken) (waits_now decision.waits ++ map (λ post. c.Send post) (decision.posts ++ map wake woken)) u (drops_fit woken u)
    (fit_append (waits_now decision.waits) (map (λ post. c.Send post) (decision.posts ++ map wake woken)) u1 (still_new woken u decision.waits h.waits)
    (sends_fit (decision.posts ++ map wake woken) u2 (λ post i. ap (λ ws. lives_among ws post.to) workers ∙ posts post i))))
  where
    receives : (post : Post) → IsIn post decision.posts ⊎ IsIn post (map wake (woken_by (view t) decision)) → lives (view (perform_all (settling decision) t)) post.to ≡ true
    receives post (inl i) = each (λ post. lives (view (perform_all (settling decision) t)) post.to) decision.posts h.posts post i
    receives post (inr i) =
        let u = perform_all (settling decision) t in
        let w = in_map wake (woken_by (view t) decision) post i in
        let shown : waiting_on (perform_all_by_key (settling decision) (view t)) (freed_spots (view t) decision) ≡ waiting_on (view u) (freed_spots (view t) decision) =
        ap (λ v. waiting_on v (freed_spots (view t) decision)) (sym (view-perform_all (settling decision) t)) in
        ap (λ (p : Post). lives (view u) p.to) (sym w.2)
        ∙ watcher_lives u (consistent-perform_all (settling decision) t k (settling_fits t decision h.changes)) (freed_spots (view t) decision) w.0 (subst (IsIn w.0) shown w.1)

-- ---- what else holds along what a decision comes to

pub conclude_along : (Q : Change → Table → Type 0) → ((sid : Sid) (call : ℕ) (t : Table) → Q (c.DropWaiter sid call) t) → ((t : Table) → Q c.Settle t)
    → (t : Table) (decision : Decision) → AllAlong Q decision.changes t → ((u : Table) → AllAlong Q (waits_now decision.waits) u)
    → ((post : Post) → IsIn post (conclude (view t) decision).posts → (u : Table) → Q (c.Send post) u) → AllAlong Q (conclude (view t) decision).changes t
unfolding conclude
conclude_along Q drops settles t decision own waits sends =
    let woken = woken_by (view t) decision in
    let posts = decision.posts ++ map wake woken in
    let u = perform_all (settling decision) t in
    along_append Q (settling decision) (finishing woken decision.waits posts) t (along_append Q decision.changes (c.Settle ∷ []) t own (settles (perform_all decision.changes t), tt))
    (along_append Q (map waits_no_more woken) (waits_now decision.waits ++ map (λ post. c.Send post) posts) u (along_mapped Q waits_no_more woken u (λ watch i t. drops watch.sid watch.call t))
    (along_append Q (waits_now decision.waits) (map (λ post. c.Send post) posts) (perform_all (map waits_no_more woken) u) (waits (perform_all (map waits_no_more woken) u))
    (along_mapped Q (λ post. c.Send post) posts (perform_all (waits_now decision.waits) (perform_all (map waits_no_more woken) u)) sends)))

-- Whom a decision wakes waits at the table that has settled.
pub woken_waits : (t : Table) (decision : Decision) (watch : Watch) → IsIn watch (woken_by (view t) decision)
    → (w : WaiterRow) × IsIn w (perform_all (settling decision) t).waiters × (w.call ≡ watch.call)
woken_waits t decision watch i =
    let u = perform_all (settling decision) t in
    let spots = freed_spots (view t) decision in
    let spot = in_flat_map (λ spot. (view u).watches_on spot) spots watch (subst (λ v. IsIn watch (waiting_on v spots)) (sym (view-perform_all (settling decision) t)) i) in
    let w = in_map (watch_on spot.0) (filter (waits_on spot.0) u.waiters) watch spot.2 in
    (w.0, (in_filter (waits_on spot.0) u.waiters w.0 w.1).0, ap (λ (x : Watch). x.call) w.2)
