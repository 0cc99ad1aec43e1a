-- Legal histories keep the numbers of the table in their sets.
use Rattle.std.proofs.Common.{◌≡◌, ◌==◌, ◌≤◌, ◌+◌, ℕ, suc, List, [], ◌∷◌, length, map, find, Option, Some, None, refl, sym, ap, ◌∙◌, subst, inl, inr, ◌⊎◌, arith, eq-eqb}
use Rattle.std.specs.Prelude.{IfSome, slice_get}
use Rattle.std.specs.List.{AllByRecursion}
use Rattle.std.specs.Option.{option_map}
use Rattle.sid_core.specs.declared.ids.Moment.{Moment}
use Rattle.sid_core.specs.declared.entry.Entry.{Entry}
use Rattle.sid_core.specs.declared.entry.Post.{Post}
use Rattle.sid_core.specs.declared.setup.Setup.{Setup}
use Rattle.sid_core.specs.declared.setup.WorkerInfo.{WorkerInfo}
use Rattle.sid_core.specs.Setup.{IsSetup, IsWorker}
use Rattle.sid_core.specs.Values.{IsU32, IsU64, IsMoment}
use Rattle.serial_table.specs.declared.rows.WorkerRow.{WorkerRow}
use Rattle.serial_table.specs.declared.table.Table.{Table}
use Rattle.serial_table.specs.declared.change.Change.TheVariants as c
use Rattle.serial_table.specs.declared.decision.Decision.{Decision}
use Rattle.serial_table.specs.View.{view, has_pid}
use Rattle.serial_table.specs.Wake.{wake}
use Rattle.serial_table.specs.Change.{perform_all}
use Rattle.serial_table.specs.Decision.{waits_no_more, waits_now, settling, woken_by, conclude}
use Rattle.serial_table.specs.Session.{end_of_session}
use Rattle.serial_table.specs.Decide.{decide}
use Rattle.serial_table.specs.Expire.{expired_by}
use Rattle.serial_table.proofs.ExpiringFits.{expired_fits, expired_brings}
use Rattle.serial_table.specs.Step.{declared_at}
use Rattle.serial_table.specs.History.{start, start_workers, after, IsLegal}
use Rattle.serial_table.specs.Sound.{IsConsistent}
use Rattle.serial_table.specs.InSets.{IsPid, IsLetter, IsWaiterRow, IsWorkerRow, ended_sessions, ended_count, IsInSets, Brings, AllBring}
use Rattle.serial_table.proofs.Members.{IsIn, all_of, any_of, in_append, in_map, found_in}
use Rattle.serial_table.proofs.Fitting.{DecisionFits, settling_fits, conclude_fits, along_append, along_mapped, conclude_along, woken_waits}
use Rattle.serial_table.proofs.EndingSessions.{death_fits, behind_letters}
use Rattle.serial_table.proofs.Owing.{IsCallingInSets}
use Rattle.serial_table.proofs.CallsOwed.{decided_brings}
use Rattle.serial_table.proofs.Along.{KeptByExpiry, KeptByCalls, KeptByDeaths, along_history}
use Rattle.serial_table.proofs.Soundness.{IsReached, session_by, call_holds, expiries_reach, calls_reach, deaths_reach, start_reached}
use Rattle.serial_table.proofs.Bounds.{declared_within}
use Rattle.serial_table.proofs.InSets.{in_sets-perform_all}

-- ---- what a decision brings

-- Where its changes, its waiter and its letters lie in their sets, so does all that it comes to: a wake has the number of a call that waits.
conclude_in_sets : (setup : Setup) (t : Table) (decision : Decision) → IsConsistent t → DecisionFits t decision → IsInSets setup t → AllBring setup decision.changes t
    → ((u : Table) → AllBring setup (waits_now decision.waits) u) → ((post : Post) → IsIn post decision.posts → IsLetter setup post.letter) → IsInSets setup (perform_all (conclude (view t) decision).changes t)
unfolding conclude
conclude_in_sets setup t decision consistent fits k own waits letters =
    let settled : IsInSets setup (perform_all (settling decision) t) =
    in_sets-perform_all setup (settling decision) t k (settling_fits t decision fits.changes) (along_append (Brings setup) decision.changes (c.Settle ∷ []) t own (tt, tt)) in
    in_sets-perform_all setup (conclude (view t) decision).changes t k (conclude_fits t decision consistent fits)
    (conclude_along (Brings setup) (λ sid call u. tt) (λ u. tt) t decision own waits (λ post i u. is_letter settled post (in_append decision.posts (map wake (woken_by (view t) decision)) post i)))
  where
    is_letter : IsInSets setup (perform_all (settling decision) t) → (post : Post) → IsIn post decision.posts ⊎ IsIn post (map wake (woken_by (view t) decision)) → IsLetter setup post.letter
    is_letter settled post (inl i) = letters post i
    is_letter settled post (inr i) =
        let watch = in_map wake (woken_by (view t) decision) post i in
        let w = woken_waits t decision watch.0 watch.1 in
        let call : IsU32 w.0.call = (all_of (IsWaiterRow setup) (perform_all (settling decision) t).waiters settled.waiters w.0 w.1).call in
        subst (λ (p : Post). IsLetter setup p.letter) watch.2 (subst IsU32 w.2 call)

-- ---- what each event keeps

record IsKept (setup : Setup) (low : ℕ → ℕ) (t : Table) : Type 0 where
  reached : IsReached low t
  in_sets : IsInSets setup t

expiries_keep : (setup : Setup) → KeptByExpiry setup (IsKept setup)
expiries_keep setup low t caller call k = record {
  reached = expiries_reach setup low t caller call k.reached;
  in_sets = in_sets-perform_all setup (expired_by setup (view t) caller call) t k.in_sets (expired_fits setup t caller call k.reached.consistent) (expired_brings setup t caller call k.reached.consistent);
}

calls_keep : (setup : Setup) → IsSetup setup → KeptByCalls setup (IsKept setup)
calls_keep setup s low t by number moment call caller k legal of above =
    let d = decide setup (view t) caller call in
    let few : IsU32 caller.number = (let n : caller.number ≡ number = of.number_is in let most : number ≤ 20000 = legal.numbered.1 in omega arith) in
    let session : IsU32 (caller.sid.session + 1) = (let up : caller.sid.session ≤ low caller.sid.pid + 1 = session_by low t caller k.reached.numbered of.alive in let most : low caller.sid.pid ≤ 20000 = k.reached.few caller.sid.pid in omega arith) in
    let guid : IsU64 caller.guid = subst IsU64 (sym of.guid_is) (all_of IsWorker setup.workers s.workers of.info (declared_within setup.workers by of.info of.declared)).guid in
    let calling : IsCallingInSets setup t caller = record {
      declared = s;
      in_sets = k.in_sets;
      consistent = k.reached.consistent;
      alive = of.alive;
      number = few;
      guid = guid;
      moment = subst (λ (m : Moment). IsMoment m.0) (sym of.moment_is) legal.timed;
      next = session;
    } in
    let brings = decided_brings setup t caller call calling legal.in_sets in
    record {
      reached = calls_reach setup low t by number moment call caller k.reached legal of above;
      in_sets = conclude_in_sets setup t d k.reached.consistent (call_holds setup low t by number moment call caller k.reached legal of above).fits k.in_sets brings.changes brings.waits brings.letters;
    }

deaths_keep : (setup : Setup) → KeptByDeaths setup (IsKept setup)
unfolding end_of_session
deaths_keep setup low t worker moment caller k timed of =
    let d = end_of_session (view t) caller.sid moment [] in
    record {
      reached = deaths_reach setup low t worker moment caller k.reached timed of;
      in_sets = conclude_in_sets setup t d k.reached.consistent (death_fits t caller.sid moment k.reached.consistent of.alive) k.in_sets
          (along_append (Brings setup) (map waits_no_more ((view t).watches_behind caller.sid)) (c.EndSession caller.sid moment ∷ []) t
          (along_mapped (Brings setup) waits_no_more ((view t).watches_behind caller.sid) t (λ watch i u. tt)) (timed, tt))
          (λ u. tt)
          (behind_letters setup t caller.sid k.in_sets);
    }

-- ---- the start

pid_in_sets : (setup : Setup) → IsSetup setup → (info : WorkerInfo) → IsIn info setup.workers → IsPid setup info.pid
pid_in_sets setup s info i = record {
  number = (all_of IsWorker setup.workers s.workers info i).pid.1;
  declared = any_of (λ other. other.pid == info.pid) setup.workers info i (eq-eqb info.pid info.pid refl);
}

start_rows : (setup : Setup) → IsSetup setup → (n : ℕ) (infos : List WorkerInfo) → ((place : ℕ) → declared_at setup.workers (n + place) ≡ slice_get infos place) → AllByRecursion (IsWorkerRow setup) (start_workers n infos)
start_rows setup s n [] h = tt
start_rows setup s n (info ∷ infos) h =
    let here : declared_at setup.workers n ≡ Some info = (let e : n ≡ n + 0 = omega arith in ap (declared_at setup.workers) e) ∙ h 0 in (
      record {
        declared = ap (option_map (λ (i : WorkerInfo). i.pid)) here;
        pid = pid_in_sets setup s info (declared_within setup.workers n info here);
        session = (omega arith, omega arith);
        connected = omega arith;
      },
      start_rows setup s (suc n) infos (λ place. (let e : suc n + place ≡ n + suc place = omega arith in ap (declared_at setup.workers) e) ∙ h (suc place)),
    )

start_ended : (n : ℕ) (infos : List WorkerInfo) (w : WorkerRow) → IsIn w (start_workers n infos) → 0 ≡ ended_count w
start_ended n [] w i = absurd i
start_ended n (info ∷ infos) w (inl e) = ap ended_count e
start_ended n (info ∷ infos) w (inr i) = start_ended (suc n) infos w i

start_counted : (setup : Setup) (pid : ℕ) (o : Option WorkerRow) → find (has_pid pid) (start setup).workers ≡ o → IfSome o (λ w. length (ended_sessions (start setup) pid) ≡ ended_count w)
start_counted setup pid None e = tt
start_counted setup pid (Some w) e = start_ended 1 setup.workers w (found_in (has_pid pid) (start setup).workers w e).0

start_kept : (setup : Setup) → IsSetup setup → IsKept setup (λ pid. 0) (start setup)
start_kept setup s = record {
  reached = start_reached setup s;
  in_sets = record {
    opens = tt;
    leases = tt;
    ranges = tt;
    holds = tt;
    waiters = tt;
    letters = tt;
    workers = start_rows setup s 1 setup.workers (λ place. let e : 1 + place ≡ suc place = omega arith in ap (declared_at setup.workers) e);
    all_workers = refl;
    ended = tt;
    ended_in_order = λ pid. tt;
    ended_all = λ pid. start_counted setup pid (find (has_pid pid) (start setup).workers) refl;
    pending = tt;
  };
}

pub legal_is_in_sets : (setup : Setup) (history : List Entry) → IsSetup setup → IsLegal setup history → IsInSets setup (after setup history)
legal_is_in_sets setup history s legal =
    (along_history setup s (IsKept setup) (expiries_keep setup) (calls_keep setup s) (deaths_keep setup) (λ pid. 0) (start setup) history (start_kept setup s) legal.entries (λ worker info d. legal.rising worker)).1.in_sets
