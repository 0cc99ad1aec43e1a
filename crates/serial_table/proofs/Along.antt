-- What is kept along a legal history: what each legal call and each legal death keeps, where the numbers of a worker's calls rise.
use Rattle.std.proofs.Common.{◌≡◌, ◌==◌, ◌<◌, ◌≤◌, ℕ, Bool, true, false, cond, List, [], ◌∷◌, ◌++◌, Option, Some, None, refl, sym, ap, ◌∙◌, subst, arith, append-nil, eq-eqb}
use Rattle.std.specs.Prelude.{IsSome}
use Rattle.std.specs.Option.{option_map, option_map_or}
use Rattle.std.proofs.lemmas.Bool.{eqb-true, cond_both, cond-true, cond-false, false_from_ne_true, both_ways}
use Rattle.sid_core.specs.declared.ids.Moment.{Moment}
use Rattle.sid_core.specs.declared.call.Call.{Call}
use Rattle.sid_core.specs.declared.reply.Reply.{Reply}
use Rattle.sid_core.specs.declared.entry.Entry.{Entry}
use Rattle.sid_core.specs.declared.entry.Event.{Event}
use Rattle.sid_core.specs.declared.entry.Event.TheVariants.{Called, Died, Tidied}
use Rattle.sid_core.specs.declared.setup.Setup.{Setup}
use Rattle.sid_core.specs.declared.setup.WorkerInfo.{WorkerInfo}
use Rattle.sid_core.specs.Setup.{IsSetup}
use Rattle.sid_core.specs.Values.{IsMoment}
use Rattle.serial_table.specs.declared.table.Table.{Table}
use Rattle.serial_table.specs.declared.decision.Caller.{Caller}
use Rattle.serial_table.specs.View.{view}
use Rattle.serial_table.specs.Change.{perform_all}
use Rattle.serial_table.specs.Decision.{Outcome, conclude}
use Rattle.serial_table.specs.Session.{end_of_session}
use Rattle.serial_table.specs.Decide.{decide, outcome}
use Rattle.serial_table.specs.Step.{caller_of, declared_at}
use Rattle.sid_core.specs.Counting.{RisesAbove}
use Rattle.serial_table.specs.History.{after_event, after_entry, after_all, IsLegalCall, IsLegalEvent, IsLegalEntry, AreLegal, call_number, numbers_of}
use Rattle.serial_table.proofs.Members.{some_same}
use Rattle.sid_core.specs.Call.{IsCall, IsCallNumber}
use Rattle.serial_table.proofs.Expiring.{behind, outcome_table, caller_behind}
use Rattle.serial_table.proofs.Callers.{IsCallerOf, is_caller_of, one_worker}

-- the last numbers after a call of the worker with this pid
abbrev pub raise : (ℕ → ℕ) → ℕ → ℕ → ℕ → ℕ
raise low pid number other = cond (other == pid) number (low other)

pub raised_more : (low : ℕ → ℕ) (pid number : ℕ) → low pid < number → (other : ℕ) → low other ≤ raise low pid number other
raised_more low pid number above other =
    cond_both (other == pid) number (low other) (λ n. low other ≤ n) (λ e. let same : low other ≡ low pid = ap low (eqb-true other pid e) in omega arith) (λ e. omega arith)

pub raised_own : (low : ℕ → ℕ) (pid number : ℕ) → raise low pid number pid ≡ number
raised_own low pid number = cond-true (pid == pid) number (low pid) (eq-eqb pid pid refl)

-- The numbers of each worker's calls still rise, above the last one that it has used.
abbrev pub Rises : Setup → (ℕ → ℕ) → List Entry → Type 0
Rises setup low history = (worker : ℕ) (info : WorkerInfo) → declared_at setup.workers worker ≡ Some info → RisesAbove (low info.pid) (numbers_of worker history)

-- a call that a script can make, whatever it is answered
pub record IsRightCall (setup : Setup) (number : ℕ) (moment : Moment) (call : Call) : Type 0 where
  pub numbered : IsCallNumber number
  pub timed : IsMoment moment.0
  pub in_sets : IsCall setup call

pub right_call : (setup : Setup) (t : Table) (by number : ℕ) (moment : Moment) (call : Call) (reply : Reply) → IsLegalCall setup t by number moment call reply → IsRightCall setup number moment call
right_call setup t by number moment call reply legal = record { numbered = legal.numbered; timed = legal.timed; in_sets = legal.in_sets }

-- what is kept by what expires before calls, by calls behind it, and by deaths
abbrev pub KeptByExpiry : Setup → ((ℕ → ℕ) → Table → Type 0) → Type 0
KeptByExpiry setup P = (low : ℕ → ℕ) (t : Table) (caller : Caller) (call : Call) → P low t → P low (behind setup t caller call)

abbrev pub KeptByCalls : Setup → ((ℕ → ℕ) → Table → Type 0) → Type 0
KeptByCalls setup P =
    (low : ℕ → ℕ) (t : Table) (by number : ℕ) (moment : Moment) (call : Call) (caller : Caller) → P low t → IsRightCall setup number moment call
    → IsCallerOf setup t by number moment caller → low caller.sid.pid < number → P (raise low caller.sid.pid number) (perform_all (conclude (view t) (decide setup (view t) caller call)).changes t)

abbrev pub KeptByDeaths : Setup → ((ℕ → ℕ) → Table → Type 0) → Type 0
KeptByDeaths setup P =
    (low : ℕ → ℕ) (t : Table) (worker : ℕ) (moment : Moment) (caller : Caller) → P low t → IsMoment moment.0 → IsCallerOf setup t worker 0 moment caller
    → P low (perform_all (conclude (view t) (end_of_session (view t) caller.sid moment [])).changes t)

-- ---- how the numbers rise

rises_on : (setup : Setup) → IsSetup setup → (low : ℕ → ℕ) (t : Table) (by number : ℕ) (moment : Moment) (caller : Caller) → IsCallerOf setup t by number moment caller
    → (x : ℕ) (info : WorkerInfo) → declared_at setup.workers x ≡ Some info → (b : Bool) → (by == x) ≡ b → (rest : List ℕ)
    → RisesAbove (low info.pid) (cond b (number ∷ []) [] ++ rest) → RisesAbove (raise low caller.sid.pid number info.pid) rest
rises_on setup s low t by number moment caller of x info d true e rest r =
    let same : of.info ≡ info = some_same of.info info (sym of.declared ∙ ap (declared_at setup.workers) (eqb-true by x e) ∙ d) in
    let own : raise low caller.sid.pid number info.pid ≡ number =
    cond-true (info.pid == caller.sid.pid) number (low info.pid) (eq-eqb info.pid caller.sid.pid (sym (of.pid ∙ ap (λ (i : WorkerInfo). i.pid) same))) in
    subst (λ n. RisesAbove n rest) (sym own) r.1
rises_on setup s low t by number moment caller of x info d false e rest r =
    let other : (info.pid == caller.sid.pid) ≡ false = false_from_ne_true (info.pid == caller.sid.pid)
    (λ h. both_ways (by == x) e (eq-eqb by x (one_worker setup.workers by x of.info info s.pids_differ of.declared d (sym of.pid ∙ sym (eqb-true info.pid caller.sid.pid h))))) in
    subst (λ n. RisesAbove n rest) (sym (cond-false (info.pid == caller.sid.pid) number (low info.pid) other)) r

-- a call's number is above the last one that its worker has used
pub rises_at : (low by number : ℕ) (rest : List ℕ) (b : Bool) → (by == by) ≡ b → RisesAbove low (cond b (number ∷ []) [] ++ rest) → low < number
rises_at low by number rest true e r = r.0
rises_at low by number rest false e r = absurd (both_ways (by == by) e (eq-eqb by by refl))

no_number : (low : ℕ) (b : Bool) (rest : List ℕ) → RisesAbove low (cond b [] [] ++ rest) → RisesAbove low rest
no_number low true rest r = r
no_number low false rest r = r

-- ---- one entry

module _ (setup : Setup) (s : IsSetup setup) (P : (ℕ → ℕ) → Table → Type 0) (expiries : KeptByExpiry setup P) (calls : KeptByCalls setup P) (deaths : KeptByDeaths setup P) where
  -- what holds after an event, and the numbers that rise from there on
  abbrev Goes_on : Table → List Entry → Type 0
  Goes_on t rest = (high : ℕ → ℕ) × P high t × Rises setup high rest

  by_caller : (low : ℕ → ℕ) (t : Table) (by number : ℕ) (moment : Moment) (call : Call) (reply : Reply) (rest : List Entry) (o : Option Caller) → P low t
      → IsLegalCall setup t by number moment call reply → caller_of setup (view t) by number moment ≡ o → option_map (λ (done : Outcome). done.reply) (option_map (λ caller. outcome setup (view t) caller call) o) ≡ Some reply
      → ((x : ℕ) (info : WorkerInfo) → declared_at setup.workers x ≡ Some info → RisesAbove (low info.pid) (cond (by == x) (number ∷ []) [] ++ numbers_of x rest))
      → Goes_on (perform_all (option_map_or (λ (done : Outcome). done.changes) (option_map (λ caller. outcome setup (view t) caller call) o) []) t) rest
  by_caller low t by number moment call reply rest None p legal is e rises = absurd cc
  by_caller low t by number moment call reply rest (Some caller) p legal is e rises =
      let of = is_caller_of setup t by number moment caller is in
      let above : low of.info.pid < number = rises_at (low of.info.pid) by number (numbers_of by rest) (by == by) refl (rises by of.info of.declared) in (
        raise low caller.sid.pid number,
        subst (P (raise low caller.sid.pid number)) (sym (outcome_table setup t caller call))
            (calls low (behind setup t caller call) by number moment call caller (expiries low t caller call p) (right_call setup t by number moment call reply legal)
            (is_caller_of setup (behind setup t caller call) by number moment caller (caller_behind setup t caller call by number moment ∙ is)) (subst (λ pid. low pid < number) (sym of.pid) above)),
        λ x info d. rises_on setup s low t by number moment caller of x info d (by == x) refl (numbers_of x rest) (rises x info d),
      )

  by_dying : (low : ℕ → ℕ) (t : Table) (worker : ℕ) (moment : Moment) (o : Option Caller) → P low t → IsMoment moment.0 → caller_of setup (view t) worker 0 moment ≡ o
      → IsSome (option_map (λ (caller : Caller). conclude (view t) (end_of_session (view t) caller.sid moment [])) o)
      → P low (perform_all (option_map_or (λ (done : Outcome). done.changes) (option_map (λ (caller : Caller). conclude (view t) (end_of_session (view t) caller.sid moment [])) o) []) t)
  by_dying low t worker moment None p timed is e = absurd cc
  by_dying low t worker moment (Some caller) p timed is e = deaths low t worker moment caller p timed (is_caller_of setup t worker 0 moment caller is)

  one_entry : (low : ℕ → ℕ) (t : Table) (by : ℕ) (event : Event) (rest : List Entry) → P low t → IsLegalEvent setup t by event
      → ((x : ℕ) (info : WorkerInfo) → declared_at setup.workers x ≡ Some info → RisesAbove (low info.pid) (cond (by == x) (call_number event) [] ++ numbers_of x rest)) → Goes_on (after_event setup t by event) rest
  one_entry low t by (Called number moment call reply) rest p legal rises =
      by_caller low t by number moment call reply rest (caller_of setup (view t) by number moment) p legal refl legal.answered rises
  one_entry low t by (Died worker moment) rest p legal rises =
      (low, by_dying low t worker moment (caller_of setup (view t) worker 0 moment) p legal.timed refl legal.dies, λ x info d. no_number (low info.pid) (by == x) (numbers_of x rest) (rises x info d))
  one_entry low t by (Tidied chain) rest p legal rises = (low, p, λ x info d. no_number (low info.pid) (by == x) (numbers_of x rest) (rises x info d))

  -- ---- all entries before others

  pub along_before : (low : ℕ → ℕ) (t : Table) (before later : List Entry) → P low t → AreLegal setup t before → Rises setup low (before ++ later) → Goes_on (after_all setup t before) later
  along_before low t [] later p legal rises = (low, p, rises)
  along_before low t (entry ∷ before) later p legal rises =
      let next = one_entry low t entry.by entry.what (before ++ later) p legal.0 rises in
      along_before next.0 (after_entry setup t entry) before later next.1 legal.1 next.2

  pub along_history : (low : ℕ → ℕ) (t : Table) (history : List Entry) → P low t → AreLegal setup t history → Rises setup low history → (high : ℕ → ℕ) × P high (after_all setup t history)
  along_history low t history p legal rises =
      let end = along_before low t history [] p legal (subst (Rises setup low) (sym (append-nil history)) rises) in (end.0, end.1)

-- what comes before a legal entry is legal, and the entry is legal after it
pub legal_before : (setup : Setup) (t : Table) (before later : List Entry) (entry : Entry) → AreLegal setup t (before ++ entry ∷ later) → AreLegal setup t before × IsLegalEntry setup (after_all setup t before) entry
legal_before setup t [] later entry legal = (tt, legal.0)
legal_before setup t (first ∷ before) later entry legal =
    let rest = legal_before setup (after_entry setup t first) before later entry legal.1 in ((legal.0, rest.0), rest.1)
