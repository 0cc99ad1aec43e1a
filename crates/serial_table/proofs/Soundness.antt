-- The tables of legal histories are sound.
use Rattle.std.proofs.Common.{map, ◌≡◌, ◌==◌, ◌≤◌, ◌<◌, ◌+◌, ℕ, suc, true, false, List, [], ◌∷◌, refl, sym, ap, subst, arith, inl, inr}
use Rattle.std.specs.Prelude.{nat_eq}
use Rattle.std.specs.List.{AllByRecursion, IsDistinct}
use Rattle.std.proofs.lemmas.Bool.{cond_both}
use Rattle.sid_core.specs.declared.ids.Moment.{Moment}
use Rattle.sid_core.specs.declared.call.Call.{Call}
use Rattle.sid_core.specs.declared.entry.Entry.{Entry}
use Rattle.sid_core.specs.declared.setup.Setup.{Setup}
use Rattle.sid_core.specs.declared.setup.WorkerInfo.{WorkerInfo}
use Rattle.sid_core.specs.Setup.{IsSetup}
use Rattle.serial_table.specs.declared.rows.WorkerRow.{WorkerRow}
use Rattle.serial_table.specs.declared.table.Table.{Table}
use Rattle.serial_table.specs.declared.change.Change.{Change}
use Rattle.serial_table.specs.declared.change.Change.TheVariants as c
use Rattle.serial_table.specs.declared.decision.Caller.{Caller}
use Rattle.serial_table.specs.View.{view, lives}
use Rattle.serial_table.specs.Change.{perform_all}
use Rattle.serial_table.specs.Decision.{waits_no_more, conclude}
use Rattle.serial_table.specs.Session.{end_of_session}
use Rattle.serial_table.specs.Decide.{decide}
use Rattle.serial_table.specs.Expire.{expired_by}
use Rattle.serial_table.specs.History.{start, start_workers, after, IsLegal}
use Rattle.serial_table.specs.Sound.{have_same_pid, IsConsistent, IsSound, AllAlong, AllFit}
use Rattle.serial_table.proofs.Members.{IsIn}
use Rattle.serial_table.proofs.Consistent.{consistent-perform_all}
use Rattle.serial_table.proofs.SettledSound.{settled-sound}
use Rattle.serial_table.proofs.Concluding.{start-settled}
use Rattle.serial_table.proofs.Expiring.{after_all-settled}
use Rattle.serial_table.proofs.Fitting.{conclude_fits, along_append, along_mapped, kept_along, conclude_along}
use Rattle.serial_table.proofs.Callers.{IsCallerOf}
use Rattle.serial_table.proofs.Numbered.{IsNumbered, Numbers, numbered_more, numbered-perform}
use Rattle.serial_table.proofs.EndingSessions.{death_fits}
use Rattle.serial_table.proofs.Owing.{IsCalling, DecisionHolds, fresh_above}
use Rattle.serial_table.proofs.CallsOwed.{decided_holds}
use Rattle.serial_table.proofs.Living.{row_of}
use Rattle.serial_table.proofs.Along.{raise, raised_more, raised_own, IsRightCall, KeptByExpiry, KeptByCalls, KeptByDeaths, along_history}
use Rattle.serial_table.proofs.ExpiringFits.{expired_fits, expired_numbers}

-- ---- the numbers that decisions bring

ending_numbers : (low : ℕ → ℕ) (t : Table) (caller : Caller) (moment : Moment) → AllAlong (Numbers low) (end_of_session (view t) caller.sid moment []).changes t
unfolding end_of_session
ending_numbers low t caller moment =
    along_append (Numbers low) _ (c.EndSession caller.sid moment ∷ []) t (along_mapped (Numbers low) waits_no_more ((view t).watches_behind caller.sid) t (λ watch i u. tt)) (tt, tt)

-- ---- what each event keeps

-- consistent, with numbers of calls that were made
pub record IsReached (low : ℕ → ℕ) (t : Table) : Type 0 where
  pub consistent : IsConsistent t
  pub numbered : IsNumbered low t
  pub few : (pid : ℕ) → low pid ≤ 20000

reached_by : (low : ℕ → ℕ) (cs : List Change) (t : Table) → IsReached low t → AllFit cs t → AllAlong (Numbers low) cs t → IsReached low (perform_all cs t)
reached_by low cs t r fit own = record {
  consistent = consistent-perform_all cs t r.consistent fit;
  numbered = kept_along (IsNumbered low) (Numbers low) (λ change u. numbered-perform low change u) cs t r.numbered fit own;
  few = r.few;
}

pub reached_more : (low : ℕ → ℕ) (pid number : ℕ) (t : Table) → IsReached low t → low pid < number → number ≤ 20000 → IsReached (raise low pid number) t
reached_more low pid number t r above most = record {
  consistent = r.consistent;
  numbered = numbered_more low (raise low pid number) (raised_more low pid number above) t r.numbered;
  few = λ other. cond_both (other == pid) number (low other) (λ n. n ≤ 20000) (λ _. most) (λ _. r.few other);
}

-- a living session is at most one above the number of its worker's calls
pub session_by : (low : ℕ → ℕ) (t : Table) (caller : Caller) → IsNumbered low t → lives (view t) caller.sid ≡ true → caller.sid.session ≤ low caller.sid.pid + 1
session_by low t caller n alive =
    let row = row_of t.workers caller.sid alive in
    let up : row.0.session ≤ low row.0.pid + 1 = n.workers row.0 row.1.within in
    let same : low row.0.pid ≡ low caller.sid.pid = ap low row.1.pid in
    let session : row.0.session ≡ caller.sid.session = row.1.session in
    omega arith

-- who makes a legal call
legal_calling : (setup : Setup) (low : ℕ → ℕ) (t : Table) (by number : ℕ) (moment : Moment) (caller : Caller) → IsReached low t → IsCallerOf setup t by number moment caller
    → low caller.sid.pid < number → IsCalling (raise low caller.sid.pid number) t caller
legal_calling setup low t by number moment caller r of above =
    let high = raise low caller.sid.pid number in
    let own : high caller.sid.pid ≡ number = raised_own low caller.sid.pid number in
    let same : caller.number ≡ number = of.number_is in
    let session : caller.sid.session ≤ low caller.sid.pid + 1 = session_by low t caller r.numbered of.alive in
    record {
      consistent = r.consistent;
      alive = of.alive;
      fresh = fresh_above low t caller r.numbered (subst (λ n. low caller.sid.pid < n) (sym of.number_is) above);
      number = omega arith;
      session = omega arith;
    }

-- what a legal call decides owes what it should
pub call_holds : (setup : Setup) (low : ℕ → ℕ) (t : Table) (by number : ℕ) (moment : Moment) (call : Call) (caller : Caller) → IsReached low t → IsRightCall setup number moment call
    → IsCallerOf setup t by number moment caller → low caller.sid.pid < number → DecisionHolds (raise low caller.sid.pid number) t (decide setup (view t) caller call)
call_holds setup low t by number moment call caller r legal of above =
    decided_holds (raise low caller.sid.pid number) setup t caller call (legal_calling setup low t by number moment caller r of above) legal.in_sets

-- its changes fit
pub call_fits : (setup : Setup) (low : ℕ → ℕ) (t : Table) (by number : ℕ) (moment : Moment) (call : Call) (caller : Caller) → IsReached low t → IsRightCall setup number moment call
    → IsCallerOf setup t by number moment caller → low caller.sid.pid < number → AllFit (conclude (view t) (decide setup (view t) caller call)).changes t
call_fits setup low t by number moment call caller r legal of above =
    conclude_fits t (decide setup (view t) caller call) r.consistent (call_holds setup low t by number moment call caller r legal of above).fits

-- those of a death fit
pub dying_fits : (low : ℕ → ℕ) (t : Table) (caller : Caller) (moment : Moment) → IsReached low t → lives (view t) caller.sid ≡ true
    → AllFit (conclude (view t) (end_of_session (view t) caller.sid moment [])).changes t
dying_fits low t caller moment r alive = conclude_fits t (end_of_session (view t) caller.sid moment []) r.consistent (death_fits t caller.sid moment r.consistent alive)

pub expiries_reach : (setup : Setup) → KeptByExpiry setup IsReached
expiries_reach setup low t caller call r =
    reached_by low (expired_by setup (view t) caller call) t r (expired_fits setup t caller call r.consistent) (expired_numbers low setup t caller call)

pub calls_reach : (setup : Setup) → KeptByCalls setup IsReached
calls_reach setup low t by number moment call caller r legal of above =
    let high = raise low caller.sid.pid number in
    let holds = call_holds setup low t by number moment call caller r legal of above in
    reached_by high (conclude (view t) (decide setup (view t) caller call)).changes t (reached_more low caller.sid.pid number t r above legal.numbered.1) (call_fits setup low t by number moment call caller r legal of above)
    (conclude_along (Numbers high) (λ sid call t. tt) (λ t. tt) t (decide setup (view t) caller call) holds.numbers.changes holds.numbers.waits (λ post i u. tt))

pub deaths_reach : (setup : Setup) → KeptByDeaths setup IsReached
unfolding end_of_session
deaths_reach setup low t worker moment caller r timed of =
    let d = end_of_session (view t) caller.sid moment [] in
    reached_by low (conclude (view t) d).changes t r (dying_fits low t caller moment r of.alive)
    (conclude_along (Numbers low) (λ sid call t. tt) (λ t. tt) t d (ending_numbers low t caller moment) (λ u. tt) (λ post i u. tt))

-- ---- the start

first_sessions : (n : ℕ) (infos : List WorkerInfo) (worker : WorkerRow) → IsIn worker (start_workers n infos) → worker.session ≤ 0 + 1
first_sessions n [] worker i = absurd i
first_sessions n (info ∷ infos) worker (inl e) = let first : worker.session ≡ 1 = ap (λ (w : WorkerRow). w.session) (sym e) in omega arith
first_sessions n (info ∷ infos) worker (inr i) = first_sessions (suc n) infos worker i

-- the workers at the start have the declared pids
other_pids : (n pid : ℕ) (infos : List WorkerInfo) → AllByRecursion (λ other. nat_eq pid other ≡ false) (map (λ info. info.pid) infos) → AllByRecursion (λ (w : WorkerRow). (pid == w.pid) ≡ false) (start_workers n infos)
other_pids n pid [] all = tt
other_pids n pid (info ∷ infos) all = (all.0, other_pids (suc n) pid infos all.1)

start_pids : (n : ℕ) (infos : List WorkerInfo) → IsDistinct nat_eq (map (λ info. info.pid) infos) → IsDistinct have_same_pid (start_workers n infos)
unfolding IsDistinct
start_pids n [] d = tt
start_pids n (info ∷ infos) d = (other_pids (suc n) info.pid infos d.0, start_pids (suc n) infos d.1)

start_consistent : (setup : Setup) → IsSetup setup → IsConsistent (start setup)
unfolding IsDistinct
start_consistent setup s = record {
  ids_differ = tt;
  handles_differ = tt;
  opens_have_leases = refl;
  durable_are_leased = refl;
  marked_may_delete = refl;
  opens_last = refl;
  owners_had = refl;
  leases_differ = tt;
  leases_agree = refl;
  ranges_have_opens = refl;
  holders_live = refl;
  holds_agree = tt;
  waiters_live = refl;
  waits_differ = tt;
  receivers_live = refl;
  pids_differ = start_pids 1 setup.workers s.pids_differ;
  pending_differ = tt;
}

pub start_reached : (setup : Setup) → IsSetup setup → IsReached (λ pid. 0) (start setup)
start_reached setup s = record {
  consistent = start_consistent setup s;
  numbered = record {
    opens = λ o i. absurd i;
    holds = λ hold i. absurd i;
    waiters = λ w i. absurd i;
    letters = λ post i. absurd i;
    workers = first_sessions 1 setup.workers;
    ended = λ row i. absurd i;
  };
  few = λ pid. omega arith;
}

-- ---- legal histories

pub legal_is_reached : (setup : Setup) (history : List Entry) → IsSetup setup → IsLegal setup history → (low : ℕ → ℕ) × IsReached low (after setup history)
legal_is_reached setup history s legal =
    along_history setup s IsReached (expiries_reach setup) (calls_reach setup) (deaths_reach setup) (λ pid. 0) (start setup) history (start_reached setup s) legal.entries (λ worker info d. legal.rising worker)

pub legal_is_sound : (setup : Setup) (history : List Entry) → IsSetup setup → IsLegal setup history → IsSound (after setup history)
legal_is_sound setup history s legal =
    let reached = legal_is_reached setup history s legal in
    settled-sound (after setup history) reached.1.consistent (after_all-settled setup (start setup) history (start-settled setup))
