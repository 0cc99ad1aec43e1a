-- Who is alive: at the start, after a call and after a death.
use Rattle.std.proofs.Common.{◌≡◌, ◌==◌, ◌≤◌, ◌+◌, ◌&&◌, ℕ, suc, arith, subst, Bool, true, false, not, cond, List, [], ◌∷◌, find, map, Option, Some, None, refl, sym, ap, ◌∙◌, eq-eqb}
use Rattle.std.specs.Prelude.{option_and_then, nat_eq}
use Rattle.std.specs.List.{AllByRecursion, IsDistinct, list_all}
use Rattle.std.specs.Option.{option_map, option_map_or}
use Rattle.std.proofs.lemmas.Bool.{and_parts, and_from, eqb-true, both_ways}
use Rattle.std.proofs.lemmas.List.Folds.{list_all-append}
use Rattle.sid_core.specs.declared.call.Call.{Call}
use Rattle.sid_core.specs.declared.call.Call.TheVariants as call
use Rattle.sid_core.specs.declared.entry.Event.{Event}
use Rattle.sid_core.specs.declared.entry.Event.TheVariants.{Called, Died, Tidied}
use Rattle.sid_core.specs.declared.ids.Moment.{Moment}
use Rattle.sid_core.specs.declared.ids.Sid.{Sid}
use Rattle.sid_core.specs.declared.reply.Reply.{Reply}
use Rattle.sid_core.specs.declared.setup.Setup.{Setup}
use Rattle.sid_core.specs.declared.setup.WorkerInfo.{WorkerInfo}
use Rattle.sid_core.specs.Setup.{IsDeclared}
use Rattle.serial_table.specs.declared.rows.WorkerRow.{WorkerRow}
use Rattle.serial_table.specs.declared.table.Table.{Table}
use Rattle.serial_table.specs.declared.change.Change.{Change}
use Rattle.serial_table.specs.declared.change.Change.TheVariants as c
use Rattle.serial_table.specs.declared.decision.Caller.{Caller}
use Rattle.serial_table.specs.View.{View, view, lives, has_pid}
use Rattle.serial_table.specs.Disconnect.{disconnect}
use Rattle.serial_table.specs.Decide.{decide, outcome}
use Rattle.serial_table.specs.Change.{perform, perform_all, end_session}
use Rattle.serial_table.specs.Session.{end_of_session}
use Rattle.serial_table.specs.Decision.{Outcome, conclude, waits_no_more}
use Rattle.serial_table.specs.Step.{caller_of, caller_if_alive, declared_at}
use Rattle.serial_table.specs.Alive.{is_alive, SessionsUpTo}
use Rattle.serial_table.proofs.Members.{all_of}
use Rattle.serial_table.proofs.Living.{row_of}
use Rattle.serial_table.proofs.EndingSessions.{ended_workers}
use Rattle.serial_table.specs.History.{start, start_workers, after_event}
use Rattle.serial_table.proofs.Callers.{is_caller_of, one_worker}
use Rattle.serial_table.proofs.Concluding.{PassesFinishing, conclude_all, no_more_all}
use Rattle.serial_table.proofs.SameWorkers.{workers-perform}
use Rattle.serial_table.proofs.Expiring.{behind, outcome_table, expired_workers, lives_behind}
use Rattle.serial_table.proofs.SessionOwed.{disconnected_lives, ended_sessions, disconnected_sessions}
use Rattle.serial_table.proofs.Scoped.{decided_keeps}
use Rattle.serial_table.proofs.Workers.{worker_lives, declared_is, concluded_workers, kept_workers}

abbrev row_alive : Option WorkerRow → Bool
row_alive o = option_map_or (λ (row : WorkerRow). row.alive) o false

-- ---- who is alive can call

row_calls : (info : WorkerInfo) (number : ℕ) (moment : Moment) (o : Option WorkerRow) → row_alive o ≡ true → (caller : Caller) × (option_and_then (caller_if_alive info number moment) o ≡ Some caller)
row_calls info number moment None e = absurd cc
row_calls info number moment (Some row) e =
    let made : Caller = record { sid = record { pid = row.pid; session = row.session }; guid = info.guid; number = number; moment = moment } in
    (made, ap (λ b. cond b (Some made) None) e)

info_calls : (v : View) (number : ℕ) (moment : Moment) (o : Option WorkerInfo) → option_map_or (λ (info : WorkerInfo). row_alive (v.worker_of info.pid)) o false ≡ true
    → (caller : Caller) × (option_and_then (λ (info : WorkerInfo). option_and_then (caller_if_alive info number moment) (v.worker_of info.pid)) o ≡ Some caller)
info_calls v number moment None e = absurd cc
info_calls v number moment (Some info) e = row_calls info number moment (v.worker_of info.pid) e

pub alive_calls : (setup : Setup) (v : View) (worker number : ℕ) (moment : Moment) → is_alive setup v worker ≡ true → (caller : Caller) × (caller_of setup v worker number moment ≡ Some caller)
unfolding caller_of
alive_calls setup v worker number moment e = info_calls v number moment (declared_at setup.workers worker) e

-- ---- at the start

pub alive_at_start : (setup : Setup) (worker : ℕ) → IsDeclared setup.workers worker → is_alive setup (view (start setup)) worker ≡ true
alive_at_start setup worker h =
    let info = declared_is setup.workers worker h in
    ap (λ o. option_map_or (λ (i : WorkerInfo). row_alive (find (has_pid i.pid) (start_workers 1 setup.workers))) o false) info.1
    ∙ worker_lives setup.workers worker info.0 info.1

-- ---- where the same rows are found, the same workers are alive

alike : (setup : Setup) (t u : Table) (worker : ℕ) → ((info : WorkerInfo) → declared_at setup.workers worker ≡ Some info → row_alive (find (has_pid info.pid) t.workers) ≡ row_alive (find (has_pid info.pid) u.workers))
    → is_alive setup (view t) worker ≡ is_alive setup (view u) worker
alike setup t u worker same = go (declared_at setup.workers worker) refl
  where
    go : (o : Option WorkerInfo) → declared_at setup.workers worker ≡ o
        → option_map_or (λ (info : WorkerInfo). row_alive (find (has_pid info.pid) t.workers)) o false ≡ option_map_or (λ (info : WorkerInfo). row_alive (find (has_pid info.pid) u.workers)) o false
    go None e = refl
    go (Some info) e = same info e

-- ---- after a call

row_behind : (setup : Setup) (t : Table) (caller : Caller) (call : Call) → lives (view t) caller.sid ≡ true → (pid : ℕ)
    → row_alive (find (has_pid pid) (perform_all (conclude (view t) (decide setup (view t) caller call)).changes t).workers) ≡ row_alive (find (has_pid pid) t.workers)
row_behind setup t caller call.Disconnect live pid =
    ap (λ ws. row_alive (find (has_pid pid) ws)) (concluded_workers (disconnect (view t) caller) t) ∙ disconnected_lives t caller live pid
row_behind setup t caller call live pid =
    ap (λ ws. row_alive (find (has_pid pid) ws)) (kept_workers (decide setup (view t) caller call) t (decided_keeps setup (view t) caller call refl))

row_after_call : (setup : Setup) (t : Table) (caller : Caller) (call : Call) → lives (view t) caller.sid ≡ true → (pid : ℕ)
    → row_alive (find (has_pid pid) (perform_all (outcome setup (view t) caller call).changes t).workers) ≡ row_alive (find (has_pid pid) t.workers)
row_after_call setup t caller call live pid =
    ap (λ (u : Table). row_alive (find (has_pid pid) u.workers)) (outcome_table setup t caller call)
    ∙ row_behind setup (behind setup t caller call) caller call (lives_behind setup t caller call live) pid
    ∙ ap (λ ws. row_alive (find (has_pid pid) ws)) (expired_workers setup t caller call)

pub alive_after_call : (setup : Setup) (t : Table) (by number : ℕ) (moment : Moment) (call : Call) (reply : Reply) (worker : ℕ)
    → is_alive setup (view (after_event setup t by (Called number moment call reply))) worker ≡ is_alive setup (view t) worker
alive_after_call setup t by number moment call reply worker =
    alike setup (after_event setup t by (Called number moment call reply)) t worker (λ info _. go info.pid (caller_of setup (view t) by number moment) refl)
  where
    go : (pid : ℕ) (o : Option Caller) → caller_of setup (view t) by number moment ≡ o
        → row_alive (find (has_pid pid) (perform_all (option_map_or (λ (done : Outcome). done.changes) (option_map (λ caller. outcome setup (view t) caller call) o) []) t).workers) ≡ row_alive (find (has_pid pid) t.workers)
    go pid None e = refl
    go pid (Some caller) e = row_after_call setup t caller call (is_caller_of setup t by number moment caller e).alive pid

-- ---- after a death

-- a change that touches no worker with this pid
abbrev spares : ℕ → Change → Bool
spares pid (c.EndSession sid moment) = not (sid.pid == pid)
spares pid (c.NextSession other moment) = false
spares pid _ = true

kept_row : (pid : ℕ) (b : Bool) (row : WorkerRow) (o p : Option WorkerRow) → (b ≡ true → (row.pid == pid) ≡ false) → o ≡ p
    → cond (has_pid pid (cond b (record row { alive = false }) row)) (Some (cond b (record row { alive = false }) row)) o ≡ cond (has_pid pid row) (Some row) p
kept_row pid true row o p other e =
    ap (λ x. cond x (Some (record row { alive = false })) o) (other refl) ∙ e ∙ sym (ap (λ x. cond x (Some row) p) (other refl))
kept_row pid false row o p other e = ap (λ q. cond (row.pid == pid) (Some row) q) e

other_pid : (pid : ℕ) (sid : Sid) (row : WorkerRow) → not (sid.pid == pid) ≡ true → ((row.pid == sid.pid) ≡ true) → (row.pid == pid) ≡ false
other_pid pid sid row apart same = rw (eqb-true row.pid sid.pid same) (go (sid.pid == pid) apart)
  where
    go : (b : Bool) → not b ≡ true → b ≡ false
    go true e = absurd cc
    go false e = refl

found_beside : (pid : ℕ) (sid : Sid) (rows : List WorkerRow) → not (sid.pid == pid) ≡ true → find (has_pid pid) (map (end_session sid) rows) ≡ find (has_pid pid) rows
unfolding end_session
found_beside pid sid [] e = refl
found_beside pid sid (row ∷ rows) e =
    kept_row pid _ row _ _ (λ both. other_pid pid sid row e (and_parts (row.pid == sid.pid) (row.session == sid.session) both).0) (found_beside pid sid rows e)

found_perform : (pid : ℕ) (change : Change) (t : Table) → spares pid change ≡ true → find (has_pid pid) (perform change t).workers ≡ find (has_pid pid) t.workers
found_perform pid (c.EndSession sid moment) t e = found_beside pid sid t.workers e
found_perform pid (c.NextSession other moment) t e = absurd cc
found_perform pid (c.TakeOver file id owner handle) t e = ap (find (has_pid pid)) (workers-perform (c.TakeOver file id owner handle) t refl)
found_perform pid (c.AddOpen row) t e = refl
found_perform pid (c.DropOpen file id) t e = refl
found_perform pid (c.AddLease lease) t e = refl
found_perform pid (c.SetLease file name held breaking) t e = refl
found_perform pid (c.Acknowledge file name state) t e = refl
found_perform pid (c.AddRange range) t e = refl
found_perform pid (c.DropRange range) t e = refl
found_perform pid (c.AddPending file) t e = refl
found_perform pid (c.DropPending file) t e = refl
found_perform pid (c.AddHold hold) t e = refl
found_perform pid (c.SetHold key owner mode) t e = refl
found_perform pid (c.DropHold key owner) t e = refl
found_perform pid (c.AddWaiter waiter) t e = refl
found_perform pid (c.DropWaiter sid call) t e = refl
found_perform pid (c.Send post) t e = refl
found_perform pid (c.TakeLetter to) t e = refl
found_perform pid c.Settle t e = ap (find (has_pid pid)) (workers-perform c.Settle t refl)

found_after : (pid : ℕ) (cs : List Change) (t : Table) → list_all (spares pid) cs ≡ true → find (has_pid pid) (perform_all cs t).workers ≡ find (has_pid pid) t.workers
found_after pid [] t e = refl
found_after pid (change ∷ cs) t e =
    let both = and_parts (spares pid change) (list_all (spares pid) cs) e in
    found_after pid cs (perform change t) both.1 ∙ found_perform pid change t both.0

finishing_spares : (pid : ℕ) → PassesFinishing (spares pid)
finishing_spares pid = record { comes = λ _. refl; goes = λ _ _. refl; sent = λ _. refl }

-- the end of another's session
ended_spares : (v : View) (sid : Sid) (moment : Moment) (pid : ℕ) → not (sid.pid == pid) ≡ true → list_all (spares pid) (conclude v (end_of_session v sid moment [])).changes ≡ true
unfolding end_of_session
ended_spares v sid moment pid e =
    conclude_all (spares pid) (finishing_spares pid) refl v (end_of_session v sid moment [])
    (list_all-append (spares pid) (map waits_no_more (v.watches_behind sid)) (c.EndSession sid moment ∷ [])
    ∙ and_from (list_all (spares pid) (map waits_no_more (v.watches_behind sid))) (not (sid.pid == pid) && true) (no_more_all (spares pid) (finishing_spares pid) (v.watches_behind sid)) (and_from (not (sid.pid == pid)) true e refl))

not_same : (b : Bool) → (b ≡ true → ⊥) → not b ≡ true
not_same true e = absurd (e refl)
not_same false e = refl

pub alive_after_death : (setup : Setup) (t : Table) (by dead : ℕ) (moment : Moment) (worker : ℕ) → IsDistinct nat_eq (map (λ w. w.pid) setup.workers) → (dead == worker) ≡ false
    → is_alive setup (view (after_event setup t by (Died dead moment))) worker ≡ is_alive setup (view t) worker
alive_after_death setup t by dead moment worker distinct apart = alike setup (after_event setup t by (Died dead moment)) t worker (λ info e. go info e (caller_of setup (view t) dead 0 moment) refl)
  where
    apart_pids : (info : WorkerInfo) (caller : Caller) → declared_at setup.workers worker ≡ Some info → caller_of setup (view t) dead 0 moment ≡ Some caller → (caller.sid.pid == info.pid) ≡ true → ⊥
    apart_pids info caller e f same =
        let is = is_caller_of setup t dead 0 moment caller f in
        let one : dead ≡ worker = one_worker setup.workers dead worker is.info info distinct is.declared e (sym is.pid ∙ eqb-true caller.sid.pid info.pid same) in
        both_ways (dead == worker) apart (eq-eqb dead worker one)

    go : (info : WorkerInfo) → declared_at setup.workers worker ≡ Some info → (o : Option Caller) → caller_of setup (view t) dead 0 moment ≡ o
        → row_alive (find (has_pid info.pid) (perform_all (option_map_or (λ (done : Outcome). done.changes) (option_map (λ (caller : Caller). conclude (view t) (end_of_session (view t) caller.sid moment [])) o) []) t).workers) ≡ row_alive (find (has_pid info.pid) t.workers)
    go info e None f = refl
    go info e (Some caller) f =
        ap row_alive (found_after info.pid (conclude (view t) (end_of_session (view t) caller.sid moment [])).changes t
        (ended_spares (view t) caller.sid moment info.pid (not_same (caller.sid.pid == info.pid) (apart_pids info caller e f))))

-- ---- how far sessions' numbers have come

more_sessions : (n : ℕ) (workers : List WorkerRow) → AllByRecursion (λ (w : WorkerRow). w.session ≤ n) workers → AllByRecursion (λ (w : WorkerRow). w.session ≤ n + 1) workers
more_sessions n [] all = tt
more_sessions n (w ∷ workers) all = (let h : w.session ≤ n = all.0 in omega arith, more_sessions n workers all.1)

sessions_behind : (setup : Setup) (t : Table) (caller : Caller) (call : Call) (n : ℕ) → SessionsUpTo n t → SessionsUpTo (n + 1) (perform_all (conclude (view t) (decide setup (view t) caller call)).changes t)
sessions_behind setup t caller call.Disconnect n all =
    subst (AllByRecursion (λ (w : WorkerRow). w.session ≤ n + 1)) (sym (concluded_workers (disconnect (view t) caller) t)) (disconnected_sessions t caller n all)
sessions_behind setup t caller call n all =
    subst (AllByRecursion (λ (w : WorkerRow). w.session ≤ n + 1)) (sym (kept_workers (decide setup (view t) caller call) t (decided_keeps setup (view t) caller call refl))) (more_sessions n t.workers all)

sessions_called : (setup : Setup) (t : Table) (caller : Caller) (call : Call) (n : ℕ) → SessionsUpTo n t → SessionsUpTo (n + 1) (perform_all (outcome setup (view t) caller call).changes t)
sessions_called setup t caller call n all =
    subst (SessionsUpTo (n + 1)) (sym (outcome_table setup t caller call))
    (sessions_behind setup (behind setup t caller call) caller call n (subst (AllByRecursion (λ (w : WorkerRow). w.session ≤ n)) (sym (expired_workers setup t caller call)) all))

sessions_dying : (t : Table) (caller : Caller) (moment : Moment) (n : ℕ) → SessionsUpTo n t → SessionsUpTo (n + 1) (perform_all (conclude (view t) (end_of_session (view t) caller.sid moment [])).changes t)
sessions_dying t caller moment n all =
    subst (AllByRecursion (λ (w : WorkerRow). w.session ≤ n + 1)) (sym (concluded_workers (end_of_session (view t) caller.sid moment []) t ∙ ended_workers t caller.sid moment))
    (more_sessions n (map (end_session caller.sid) t.workers) (ended_sessions caller.sid moment n t.workers all))

-- An event raises them by one at most.
pub sessions_after : (setup : Setup) (t : Table) (by : ℕ) (event : Event) (n : ℕ) → SessionsUpTo n t → SessionsUpTo (n + 1) (after_event setup t by event)
sessions_after setup t by (Called number moment call reply) n all = go (caller_of setup (view t) by number moment)
  where
    go : (o : Option Caller) → SessionsUpTo (n + 1) (perform_all (option_map_or (λ (done : Outcome). done.changes) (option_map (λ caller. outcome setup (view t) caller call) o) []) t)
    go None = more_sessions n t.workers all
    go (Some caller) = sessions_called setup t caller call n all
sessions_after setup t by (Died worker moment) n all = go (caller_of setup (view t) worker 0 moment)
  where
    go : (o : Option Caller) → SessionsUpTo (n + 1) (perform_all (option_map_or (λ (done : Outcome). done.changes) (option_map (λ (caller : Caller). conclude (view t) (end_of_session (view t) caller.sid moment [])) o) []) t)
    go None = more_sessions n t.workers all
    go (Some caller) = sessions_dying t caller moment n all
sessions_after setup t by (Tidied chain) n all = more_sessions n t.workers all

start_sessions : (n : ℕ) (infos : List WorkerInfo) → AllByRecursion (λ (w : WorkerRow). w.session ≤ 1) (start_workers n infos)
start_sessions n [] = tt
start_sessions n (info ∷ infos) = (omega arith, start_sessions (suc n) infos)

pub sessions_at_start : (setup : Setup) → SessionsUpTo 1 (start setup)
sessions_at_start setup = start_sessions 1 setup.workers

-- and no caller's session is above them
pub caller_session : (setup : Setup) (t : Table) (worker number : ℕ) (moment : Moment) (caller : Caller) (n : ℕ) → SessionsUpTo n t → caller_of setup (view t) worker number moment ≡ Some caller → caller.sid.session ≤ n
caller_session setup t worker number moment caller n all e =
    let row = row_of t.workers caller.sid (is_caller_of setup t worker number moment caller e).alive in
    let up : row.0.session ≤ n = all_of (λ (w : WorkerRow). w.session ≤ n) t.workers all row.0 row.1.within in
    let same : row.0.session ≡ caller.sid.session = row.1.session in
    omega arith
