-- The end of a session fits, and so does a death. Those who are woken live.
use Rattle.std.proofs.Common.{◌≡◌, ◌==◌, ◌&&◌, not, ℕ, true, List, [], ◌∷◌, ◌++◌, filter, map, refl, sym, ap, ◌∙◌, subst, eq-eqb}
use Rattle.std.specs.List.{list_any}
use Rattle.std.proofs.lemmas.Bool.{and_parts, and_from, false_from_ne_true, not-true, both_ways}
use Rattle.sid_core.specs.declared.ids.Sid.{Sid}
use Rattle.sid_core.specs.declared.ids.Moment.{Moment}
use Rattle.sid_core.specs.declared.entry.Post.{Post}
use Rattle.sid_core.specs.declared.setup.Setup.{Setup}
use Rattle.sid_core.specs.Ids.{same_sid}
use Rattle.serial_table.specs.declared.rows.Watch.{Watch}
use Rattle.serial_table.specs.declared.table.Table.{Table}
use Rattle.serial_table.specs.declared.change.Change.{Change}
use Rattle.serial_table.specs.declared.change.Change.TheVariants as c
use Rattle.serial_table.specs.View.{has_pid, view, lives, waits_behind, watch_behind}
use Rattle.serial_table.specs.Settle.{settle_where}
use Rattle.serial_table.specs.Wake.{wake}
use Rattle.serial_table.specs.Change.{perform, perform_all, is_other_wait, end_session}
use Rattle.serial_table.specs.Decision.{waits_no_more, settling}
use Rattle.serial_table.specs.Session.{wakes_behind, end_of_session}
use Rattle.serial_table.specs.InSets.{IsLetter, IsWaiterRow, IsInSets}
use Rattle.serial_table.specs.Sound.{IsConsistent, IsEnding, AllFit, waits_among_living}
use Rattle.serial_table.proofs.SameIds.{same_sid-refl}
use Rattle.sid_core.specs.Values.{IsU32}
use Rattle.serial_table.proofs.Members.{all_of, IsIn, each, all_each, any_none, in_filter, in_map, mapped_in, passes_in}
use Rattle.serial_table.proofs.Living.{lives_among, lives-end_session, none_lives}
use Rattle.serial_table.proofs.Concluding.{perform_all-append}
use Rattle.serial_table.proofs.Fitting.{DecisionFits, after_drops, drops_fit, fit_append}

-- ---- a session ends

-- Once those who waited behind it don't any more, it may end.
pub end_fits : (t : Table) (sid : Sid) → lives (view t) sid ≡ true → IsEnding sid (perform_all (map waits_no_more ((view t).watches_behind sid)) t)
end_fits t sid live =
    let watches = (view t).watches_behind sid in
    let after = after_drops watches t in
    let ending : IsEnding sid (record t { waiters = after.waiters }) = record {
      lives = live;
      behind = any_none (waits_behind sid) after.waiters (λ w i. false_from_ne_true (waits_behind sid w)
          (λ e. let watch = mapped_in watch_behind (filter (waits_behind sid) t.waiters) w (passes_in (waits_behind sid) t.waiters w (after.before w i) e) in
          itself w.sid w.call (after.others w i (watch_behind w) watch)));
    } in
    subst (IsEnding sid) (sym after.same) ending
  where
    itself : (waiting : Sid) (call : ℕ) → is_other_wait waiting call waiting call ≡ true → ⊥
    itself waiting call e =
        both_ways (same_sid waiting waiting && (call == call)) (not-true (same_sid waiting waiting && (call == call)) e) (and_from (same_sid waiting waiting) (call == call) (same_sid-refl waiting) (eq-eqb call call refl))

-- what follows has to fit the table after the end
pub ending_fits : (t : Table) (sid : Sid) (moment : Moment) (others : List Change) → lives (view t) sid ≡ true
    → AllFit others (perform (c.EndSession sid moment) (perform_all (map waits_no_more ((view t).watches_behind sid)) t)) → AllFit (end_of_session (view t) sid moment others).changes t
unfolding end_of_session
ending_fits t sid moment others live later =
    let watches = (view t).watches_behind sid in fit_append (map waits_no_more watches) (c.EndSession sid moment ∷ others) t (drops_fit watches t) (end_fits t sid live, later)

-- The next session of its worker may begin then, also once the table has settled.
pub next_fits : (t : Table) (sid : Sid) (moment : Moment) → IsConsistent t → lives (view t) sid ≡ true
    → AllFit (c.Settle ∷ c.NextSession sid moment ∷ []) (perform (c.EndSession sid moment) (perform_all (map waits_no_more ((view t).watches_behind sid)) t))
unfolding settle_where
next_fits t sid moment k live =
    let watches = (view t).watches_behind sid in
    (tt, (ap (λ (u : Table). list_any (λ worker. has_pid sid.pid worker && worker.alive) (map (end_session sid) u.workers)) (after_drops watches t).same ∙ none_lives t.workers sid k.pids_differ live, tt))

-- the workers after it
pub ended_workers : (t : Table) (sid : Sid) (moment : Moment) → (perform_all (settling (end_of_session (view t) sid moment [])) t).workers ≡ map (end_session sid) t.workers
unfolding end_of_session settle_where
ended_workers t sid moment =
    let watches = (view t).watches_behind sid in
    ap (λ (u : Table). u.workers)
    (perform_all-append (map waits_no_more watches ++ c.EndSession sid moment ∷ []) (c.Settle ∷ []) t
    ∙ ap (perform c.Settle) (perform_all-append (map waits_no_more watches) (c.EndSession sid moment ∷ []) t))
    ∙ ap (λ (u : Table). map (end_session sid) u.workers) (after_drops watches t).same

-- Those who waited behind a session, and aren't of it, live on.
pub behind_live : (t : Table) (sid : Sid) (moment : Moment) → IsConsistent t → (post : Post) → IsIn post (wakes_behind (view t) sid) → lives_among (map (end_session sid) t.workers) post.to ≡ true
behind_live t sid moment k post i =
    let watch = in_map wake (filter (λ watch. not (same_sid watch.sid sid)) ((view t).watches_behind sid)) post i in
    let other = in_filter (λ watch. not (same_sid watch.sid sid)) ((view t).watches_behind sid) watch.0 watch.1 in
    let w = in_map watch_behind (filter (waits_behind sid) t.waiters) watch.0 other.0 in
    let waiter = in_filter (waits_behind sid) t.waiters w.0 w.1 in
    let alive : lives (view t) w.0.sid ≡ true = (and_parts (lives (view t) w.0.sid) _ (each (waits_among_living (view t)) t.waiters k.waiters_live w.0 waiter.0)).0 in
    ap (λ (p : Post). lives_among (map (end_session sid) t.workers) p.to) (sym watch.2)
    ∙ lives-end_session t.workers sid watch.0.sid (not-true (same_sid watch.0.sid sid) other.1) (ap (λ (x : Watch). lives (view t) x.sid) (sym w.2) ∙ alive)

pub death_fits : (t : Table) (sid : Sid) (moment : Moment) → IsConsistent t → lives (view t) sid ≡ true → DecisionFits t (end_of_session (view t) sid moment [])
unfolding end_of_session
death_fits t sid moment k live = record {
  changes = ending_fits t sid moment [] live tt;
  waits = tt;
  posts = all_each (λ post. lives (view (perform_all (settling (end_of_session (view t) sid moment [])) t)) post.to) (wakes_behind (view t) sid)
      (λ post i. ap (λ ws. lives_among ws post.to) (ended_workers t sid moment) ∙ behind_live t sid moment k post i);
}

-- The letters to those who waited behind it lie in their sets.
pub behind_letters : (setup : Setup) (t : Table) (sid : Sid) → IsInSets setup t → (post : Post) → IsIn post (wakes_behind (view t) sid) → IsLetter setup post.letter
behind_letters setup t sid k post i =
    let watch = in_map wake (filter (λ (watch : Watch). not (same_sid watch.sid sid)) ((view t).watches_behind sid)) post i in
    let w = in_map watch_behind (filter (waits_behind sid) t.waiters) watch.0 (in_filter (λ (watch : Watch). not (same_sid watch.sid sid)) ((view t).watches_behind sid) watch.0 watch.1).0 in
    let call : IsU32 w.0.call = (all_of (IsWaiterRow setup) t.waiters k.waiters w.0 (in_filter (waits_behind sid) t.waiters w.0 w.1).0).call in
    subst (λ (p : Post). IsLetter setup p.letter) watch.2 (subst (λ (x : Watch). IsU32 x.call) w.2 call)
