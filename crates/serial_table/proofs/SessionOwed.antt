-- `disconnect` ends the caller's session, and begins the next one.
use Rattle.std.proofs.Common.{◌≡◌, ◌==◌, ◌≤◌, ◌<◌, ◌+◌, ◌^◌, ◌&&◌, ℕ, Bool, true, false, List, [], ◌∷◌, find, map, Option, Some, None, refl, sym, ap, ◌∙◌, subst, arith}
use Rattle.std.specs.Option.{option_map, option_map_or}
use Rattle.std.specs.List.{AllByRecursion, list_all, IsDistinct, sum_by}
use Rattle.std.proofs.lemmas.Bool.{eqb-true, and_parts, and_from, lt-ltb, cond-true, cond-false, cond_both}
use Rattle.std.proofs.lemmas.List.Folds.{list_all-append}
use Rattle.std.proofs.lemmas.List.Sums.{sum_by-append, sum_by-cons}
use Rattle.sid_core.specs.declared.ids.Sid.{Sid}
use Rattle.sid_core.specs.declared.ids.Moment.{Moment}
use Rattle.sid_core.specs.declared.setup.Setup.{Setup}
use Rattle.serial_table.specs.declared.rows.WorkerRow.{WorkerRow}
use Rattle.serial_table.specs.declared.table.Table.{Table}
use Rattle.serial_table.specs.declared.change.Change.{Change}
use Rattle.serial_table.specs.declared.change.Change.TheVariants as c
use Rattle.serial_table.specs.declared.decision.Caller.{Caller}
use Rattle.serial_table.specs.View.{View, view, lives, has_pid}
use Rattle.serial_table.specs.Settle.{settle_where}
use Rattle.serial_table.specs.Change.{perform_all, end_session, begin_session}
use Rattle.serial_table.specs.Decision.{waits_no_more, settling}
use Rattle.serial_table.specs.Session.{wakes_behind, end_of_session}
use Rattle.serial_table.specs.Disconnect.{disconnect}
use Rattle.serial_table.specs.Alive.{SessionsUpTo}
use Rattle.serial_table.specs.Sound.{AllFit}
use Rattle.serial_table.specs.InSets.{Brings}
use Rattle.serial_table.specs.InPlace.{is_made}
use Rattle.serial_table.proofs.Members.{all_each, found_in}
use Rattle.serial_table.proofs.Living.{lives_among, lives-begin_session, none_lives}
use Rattle.serial_table.proofs.Concluding.{perform_all-append, no_more_all}
use Rattle.serial_table.proofs.Deciding.{made_waits}
use Rattle.serial_table.proofs.Filters.{find-map}
use Rattle.serial_table.proofs.Counting.{sum_mapped}
use Rattle.serial_table.proofs.Waits.{ending_waits}
use Rattle.serial_table.proofs.Losing.{adds_bits}
use Rattle.serial_table.proofs.Numbered.{Numbers}
use Rattle.serial_table.proofs.Fitting.{along_append, along_mapped, after_drops}
use Rattle.serial_table.proofs.EndingSessions.{behind_live, ending_fits, next_fits, behind_letters}
use Rattle.serial_table.proofs.Owing.{IsCalling, IsCallingInSets, DecisionHolds, DecisionBrings, brings, begins, no_more_to_lose}

-- ---- the workers after it

next_workers : (t : Table) (caller : Caller) → (perform_all (disconnect (view t) caller).changes t).workers ≡ map (begin_session caller.sid caller.moment) (map (end_session caller.sid) t.workers)
unfolding disconnect end_of_session settle_where
next_workers t caller =
    let watches = (view t).watches_behind caller.sid in
    ap (λ (u : Table). u.workers) (perform_all-append (map waits_no_more watches) (c.EndSession caller.sid caller.moment ∷ c.Settle ∷ c.NextSession caller.sid caller.moment ∷ []) t)
    ∙ ap (λ (u : Table). map (begin_session caller.sid caller.moment) (map (end_session caller.sid) u.workers)) (after_drops watches t).same

settled_workers : (t : Table) (caller : Caller) → (perform_all (settling (disconnect (view t) caller)) t).workers ≡ map (begin_session caller.sid caller.moment) (map (end_session caller.sid) t.workers)
unfolding settle_where
settled_workers t caller =
    ap (λ (u : Table). u.workers) (perform_all-append (disconnect (view t) caller).changes (c.Settle ∷ []) t) ∙ next_workers t caller

-- ---- what it owes

-- what each of its changes adds, where a wait that ends adds nothing
sum_disconnected : (adds : Change → ℕ) → ((sid : Sid) (call : ℕ) → adds (c.DropWaiter sid call) ≡ 0) → (v : View) (caller : Caller)
    → sum_by adds (disconnect v caller).changes ≡ adds (c.EndSession caller.sid caller.moment) + (adds c.Settle + adds (c.NextSession caller.sid caller.moment))
unfolding disconnect end_of_session
sum_disconnected adds goes v caller =
    let others : List Change = c.Settle ∷ c.NextSession caller.sid caller.moment ∷ [] in
    omega (
      arith,
      sum_by-append adds (map waits_no_more (v.watches_behind caller.sid)) (c.EndSession caller.sid caller.moment ∷ others),
      sum_mapped adds waits_no_more (λ watch. goes watch.sid watch.call) (v.watches_behind caller.sid),
      sum_by-cons adds (c.EndSession caller.sid caller.moment) others,
      sum_by-cons adds c.Settle (c.NextSession caller.sid caller.moment ∷ []),
      sum_by-cons adds (c.NextSession caller.sid caller.moment) [],
    )

disconnect_fits : (low : ℕ → ℕ) (t : Table) (caller : Caller) → IsCalling low t caller → AllFit (disconnect (view t) caller).changes t
unfolding disconnect
disconnect_fits low t caller k =
    ending_fits t caller.sid caller.moment (c.Settle ∷ c.NextSession caller.sid caller.moment ∷ []) k.alive (next_fits t caller.sid caller.moment k.consistent k.alive)

pub disconnect_holds : (low : ℕ → ℕ) (t : Table) (caller : Caller) → IsCalling low t caller → DecisionHolds low t (disconnect (view t) caller)
unfolding disconnect end_of_session IsDistinct
disconnect_holds low t caller k =
    let d = disconnect (view t) caller in
    let fit = disconnect_fits low t caller k in
    let no_bits : sum_by adds_bits d.changes ≤ 0 = omega (arith, sum_disconnected adds_bits (λ sid call. refl) (view t) caller) in
    record {
      fits = record {
        changes = fit;
        waits = tt;
        posts = all_each (λ post. lives (view (perform_all (settling d) t)) post.to) (wakes_behind (view t) caller.sid) (λ post i.
            ap (λ ws. lives_among ws post.to) (settled_workers t caller)
            ∙ lives-begin_session (map (end_session caller.sid) t.workers) caller.sid caller.moment post.to (none_lives t.workers caller.sid k.consistent.pids_differ k.alive) (behind_live t caller.sid caller.moment k.consistent post i));
      };
      numbers = record {
        changes = along_append (Numbers low) (map waits_no_more ((view t).watches_behind caller.sid)) (c.EndSession caller.sid caller.moment ∷ c.Settle ∷ c.NextSession caller.sid caller.moment ∷ []) t
            (along_mapped (Numbers low) waits_no_more ((view t).watches_behind caller.sid) t (λ watch i u. tt)) (tt, (tt, (k.session, tt)));
        waits = λ u. tt;
      };
      adds = record {
        rows = omega (arith, sum_disconnected brings (λ sid call. refl) (view t) caller);
        sessions = omega (arith, sum_disconnected begins (λ sid call. refl) (view t) caller);
        waits = omega (arith, ending_waits t caller.sid caller.moment (c.Settle ∷ c.NextSession caller.sid caller.moment ∷ []) (omega arith), no_more_to_lose t d k.consistent fit no_bits);
        spots = tt;
      };
    }

pub disconnect_brings : (setup : Setup) (t : Table) (caller : Caller) → IsCallingInSets setup t caller → DecisionBrings setup t (disconnect (view t) caller)
unfolding disconnect end_of_session
disconnect_brings setup t caller k = record {
  changes = along_append (Brings setup) (map waits_no_more ((view t).watches_behind caller.sid)) (c.EndSession caller.sid caller.moment ∷ c.Settle ∷ c.NextSession caller.sid caller.moment ∷ []) t
      (along_mapped (Brings setup) waits_no_more ((view t).watches_behind caller.sid) t (λ watch i u. tt)) (k.moment, (tt, ((k.moment, k.next), tt)));
  waits = λ u. tt;
  letters = behind_letters setup t caller.sid k.in_sets;
}

-- ---- in place

-- The next session's number has 32 bits.
pub disconnect_made : (v : View) (caller : Caller) → caller.sid.session + 1 < 2 ^ 32 → list_all is_made (disconnect v caller).changes ≡ true
unfolding disconnect end_of_session
disconnect_made v caller next =
    list_all-append is_made (map waits_no_more (v.watches_behind caller.sid)) (c.EndSession caller.sid caller.moment ∷ c.Settle ∷ c.NextSession caller.sid caller.moment ∷ [])
    ∙ and_from (list_all is_made (map waits_no_more (v.watches_behind caller.sid))) (is_made (c.NextSession caller.sid caller.moment) && true) (no_more_all is_made made_waits (v.watches_behind caller.sid))
    (and_from (is_made (c.NextSession caller.sid caller.moment)) true (lt-ltb (caller.sid.session + 1) (2 ^ 32) next) refl)

-- ---- the next session lives where this one did

module _ (sid : Sid) (moment : Moment) where
  row_lives : (w : WorkerRow) (b : Bool) → ((w.pid == sid.pid) && (w.session == sid.session)) ≡ b → (b ≡ true → w.alive ≡ true) → (begin_session sid moment (end_session sid w)).alive ≡ w.alive
  unfolding begin_session end_session
  row_lives w true e lived =
      ap (λ (x : WorkerRow). (begin_session sid moment x).alive) (cond-true ((w.pid == sid.pid) && (w.session == sid.session)) (record w { alive = false }) w e)
      ∙ ap (λ (x : WorkerRow). x.alive) (cond-true ((w.pid == sid.pid) && (w.session == sid.session)) (record w { alive = true; session = sid.session + 1; connected = moment }) (record w { alive = false }) e)
      ∙ sym (lived refl)
  row_lives w false e lived =
      ap (λ (x : WorkerRow). (begin_session sid moment x).alive) (cond-false ((w.pid == sid.pid) && (w.session == sid.session)) (record w { alive = false }) w e)
      ∙ ap (λ (x : WorkerRow). x.alive) (cond-false ((w.pid == sid.pid) && (w.session == sid.session)) (record w { alive = true; session = sid.session + 1; connected = moment }) w e)

  found_lives : (workers : List WorkerRow) → lives_among workers sid ≡ true → (pid : ℕ) (o : Option WorkerRow) → find (has_pid pid) workers ≡ o
      → option_map_or (λ (w : WorkerRow). w.alive) (option_map (begin_session sid moment) (option_map (end_session sid) o)) false ≡ option_map_or (λ (w : WorkerRow). w.alive) o false
  found_lives workers live pid None f = refl
  found_lives workers live pid (Some w) f = row_lives w ((w.pid == sid.pid) && (w.session == sid.session)) refl (λ e.
      let own : w.pid ≡ pid = eqb-true w.pid pid (found_in (has_pid pid) workers w f).1 in
      let same : pid ≡ sid.pid = sym own ∙ eqb-true w.pid sid.pid (and_parts (w.pid == sid.pid) (w.session == sid.session) e).0 in
      (and_parts w.alive (w.session == sid.session) (sym (ap (λ o. option_map_or (λ (x : WorkerRow). x.alive && (x.session == sid.session)) o false) (ap (λ p. find (has_pid p) workers) (sym same) ∙ f)) ∙ live)).0)

end_pid : (sid : Sid) (w : WorkerRow) → (end_session sid w).pid ≡ w.pid
unfolding end_session
end_pid sid w = cond_both ((w.pid == sid.pid) && (w.session == sid.session)) (record w { alive = false }) w (λ (x : WorkerRow). x.pid ≡ w.pid) (λ _. refl) (λ _. refl)

begin_pid : (sid : Sid) (moment : Moment) (w : WorkerRow) → (begin_session sid moment w).pid ≡ w.pid
unfolding begin_session
begin_pid sid moment w = cond_both ((w.pid == sid.pid) && (w.session == sid.session)) (record w { alive = true; session = sid.session + 1; connected = moment }) w (λ (x : WorkerRow). x.pid ≡ w.pid) (λ _. refl) (λ _. refl)

pub disconnected_lives : (t : Table) (caller : Caller) → lives (view t) caller.sid ≡ true → (pid : ℕ)
    → option_map_or (λ (w : WorkerRow). w.alive) (find (has_pid pid) (perform_all (settling (disconnect (view t) caller)) t).workers) false ≡ option_map_or (λ (w : WorkerRow). w.alive) (find (has_pid pid) t.workers) false
disconnected_lives t caller live pid =
    ap (λ ws. option_map_or (λ (w : WorkerRow). w.alive) (find (has_pid pid) ws) false) (settled_workers t caller)
    ∙ ap (λ o. option_map_or (λ (w : WorkerRow). w.alive) o false)
    (find-map (has_pid pid) (begin_session caller.sid caller.moment) (λ w. ap (λ p. p == pid) (begin_pid caller.sid caller.moment w)) (map (end_session caller.sid) t.workers)
    ∙ ap (option_map (begin_session caller.sid caller.moment)) (find-map (has_pid pid) (end_session caller.sid) (λ w. ap (λ p. p == pid) (end_pid caller.sid w)) t.workers))
    ∙ found_lives caller.sid caller.moment t.workers live pid (find (has_pid pid) t.workers) refl

-- ---- sessions' numbers

module _ (sid : Sid) (moment : Moment) (n : ℕ) where
  pub ended_session : (w : WorkerRow) → w.session ≤ n → (end_session sid w).session ≤ n
  unfolding end_session
  ended_session w h = cond_both ((w.pid == sid.pid) && (w.session == sid.session)) (record w { alive = false }) w (λ (x : WorkerRow). x.session ≤ n) (λ _. h) (λ _. h)

  begun_session : (w : WorkerRow) → w.session ≤ n → (begin_session sid moment w).session ≤ n + 1
  unfolding begin_session
  begun_session w h = cond_both ((w.pid == sid.pid) && (w.session == sid.session)) (record w { alive = true; session = sid.session + 1; connected = moment }) w (λ (x : WorkerRow). x.session ≤ n + 1)
      (λ e. let same : w.session ≡ sid.session = eqb-true w.session sid.session (and_parts (w.pid == sid.pid) (w.session == sid.session) e).1 in omega arith) (λ _. omega arith)

  pub ended_sessions : (workers : List WorkerRow) → AllByRecursion (λ (w : WorkerRow). w.session ≤ n) workers → AllByRecursion (λ (w : WorkerRow). w.session ≤ n) (map (end_session sid) workers)
  ended_sessions [] all = tt
  ended_sessions (w ∷ workers) all = (ended_session w all.0, ended_sessions workers all.1)

  next_sessions : (workers : List WorkerRow) → AllByRecursion (λ (w : WorkerRow). w.session ≤ n) workers → AllByRecursion (λ (w : WorkerRow). w.session ≤ n + 1) (map (begin_session sid moment) (map (end_session sid) workers))
  next_sessions [] all = tt
  next_sessions (w ∷ workers) all = (begun_session (end_session sid w) (ended_session w all.0), next_sessions workers all.1)

pub disconnected_sessions : (t : Table) (caller : Caller) (n : ℕ) → SessionsUpTo n t → AllByRecursion (λ (w : WorkerRow). w.session ≤ n + 1) (perform_all (settling (disconnect (view t) caller)) t).workers
disconnected_sessions t caller n all = subst (AllByRecursion (λ (w : WorkerRow). w.session ≤ n + 1)) (sym (settled_workers t caller)) (next_sessions caller.sid caller.moment n t.workers all)
