-- What a script plans can be entered: whoever calls or dies is alive there.
use Rattle.std.proofs.Common.{◌≡◌, ◌==◌, ◌≤◌, ◌<◌, ◌+◌, ◌*◌, ◌^◌, ℕ, suc, Bool, true, false, cond, IsTrue, List, [], ◌∷◌, ◌++◌, length, length-append, Option, Some, None, is_some, map, refl, sym, ap, ◌∙◌, subst, eq-eqb, arith}
use Rattle.std.specs.Prelude.{nat_eq, IfSome}
use Rattle.std.specs.List.{AllByRecursion, IsDistinct}
use Rattle.std.specs.Option.{option_map, unwrap_or, IsSome}
use Rattle.std.proofs.lemmas.Bool.{and_from}
use Rattle.std.proofs.lemmas.Bool.Decides.{nat_tests}
use Rattle.sid_core.specs.declared.ids.Moment.{Moment}
use Rattle.sid_core.specs.declared.call.Call.{Call}
use Rattle.sid_core.specs.declared.reply.Reply.{Reply}
use Rattle.sid_core.specs.declared.reply.Reply.TheVariants.{Unsuccessful}
use Rattle.sid_core.specs.declared.entry.Event.{Event}
use Rattle.sid_core.specs.declared.entry.Event.TheVariants.{Called, Died}
use Rattle.serial_table.specs.declared.rows.WorkerRow.{WorkerRow}
use Rattle.sid_core.specs.declared.setup.Setup.{Setup}
use Rattle.sid_core.specs.Setup.{IsDeclared}
use Rattle.sid_core.specs.Values.{IsMoment}
use Rattle.serial_table.specs.declared.table.Table.{Table}
use Rattle.serial_table.specs.declared.decision.Caller.{Caller}
use Rattle.serial_table.specs.View.{View, view}
use Rattle.serial_table.specs.Alive.{is_alive, SessionsUpTo}
use Rattle.serial_table.specs.Decide.{outcome}
use Rattle.serial_table.specs.Decision.{Outcome, conclude}
use Rattle.serial_table.specs.Session.{end_of_session}
use Rattle.serial_table.specs.Step.{caller_of, answer_of}
use Rattle.serial_table.specs.History.{start, after_event}
use Rattle.worker_script.specs.declared.script.Planned.{Planned}
use Rattle.worker_script.specs.declared.script.Phase.{Phase}
use Rattle.worker_script.specs.declared.script.Script.{Script}
use Rattle.worker_script.specs.Script.{all_calls, numbers_of, DiesLast, IsPlanned, IsPhase, IsScript}
use Rattle.worker_script.specs.Fits.{is_entered}
use Rattle.opendb_run.specs.Order.{in_order}
use Rattle.opendb_run.specs.Play.{call_event, death_event, after_call, after_death, after_planned, after_calls, after_phase}
use Rattle.opendb_run.specs.Playing.{Takes, TakesCalls, TakesPhases}
use Rattle.opendb_run.proofs.Ordering.{all-append, all-in_order, dies_in_order, no_more_in_order}

-- an answer that is there is the one that is taken
answers_with : (o : Option Reply) (reply : Reply) → o ≡ Some reply → o ≡ Some (unwrap_or o Unsuccessful)
answers_with None reply e = absurd cc
answers_with (Some given) reply e = refl

-- ---- whose calls are over

over_step : (w : ℕ) (q : Planned) (others : List ℕ) (b : Bool) → (q.worker == w) ≡ b → cond b (q.number ∷ []) [] ++ others ≡ [] → ((w == q.worker) ≡ false) × (others ≡ [])
over_step w q others true e none = absurd cc
over_step w q others false e none = (grind (arith, nat_tests), none)

-- who has no call among these
others_call : (w : ℕ) (b : Bool) (calls : List Planned) → (IsTrue b → numbers_of w calls ≡ []) → AllByRecursion (λ q. IsTrue b → (w == q.worker) ≡ false) calls
others_call w b [] none = tt
others_call w b (q ∷ calls) none =
    ((λ h. (over_step w q (numbers_of w calls) (q.worker == w) refl (none h)).0), others_call w b calls (λ h. (over_step w q (numbers_of w calls) (q.worker == w) refl (none h)).1))

dies_rest : (w : ℕ) (xs ys : List Planned) → DiesLast w (xs ++ ys) → DiesLast w ys
dies_rest w [] ys last = last
dies_rest w (p ∷ xs) ys last = dies_rest w xs ys last.1

all-first : {X : Type 0} (P : X → Type 0) (xs ys : List X) → AllByRecursion P (xs ++ ys) → AllByRecursion P xs
all-first P [] ys all = tt
all-first P (x ∷ xs) ys all = (all.0, all-first P xs ys all.1)

all-rest : {X : Type 0} (P : X → Type 0) (xs ys : List X) → AllByRecursion P (xs ++ ys) → AllByRecursion P ys
all-rest P [] ys all = all
all-rest P (x ∷ xs) ys all = all-rest P xs ys all.1

-- the workers of these calls are alive
abbrev pub AreAlive : Setup → Table → List Planned → Type 0
AreAlive setup t calls = AllByRecursion (λ p. is_alive setup (view t) p.worker ≡ true) calls

-- ---- how far sessions' numbers have come

more_sessions : (n : ℕ) (workers : List WorkerRow) → AllByRecursion (λ (w : WorkerRow). w.session ≤ n) workers → AllByRecursion (λ (w : WorkerRow). w.session ≤ n + 1) workers
more_sessions n [] all = tt
more_sessions n (w ∷ workers) all = (let h : w.session ≤ n = all.0 in omega arith, more_sessions n workers all.1)

-- that an event raises them by one at most
abbrev RiseByOne : Setup → Type 0
RiseByOne setup = (t : Table) (by : ℕ) (event : Event) (n : ℕ) → SessionsUpTo n t → SessionsUpTo (n + 1) (after_event setup t by event)

either_rises : (t u : Table) (n : ℕ) (b : Bool) → SessionsUpTo (n + 1) u → SessionsUpTo n t → SessionsUpTo (n + 1) (cond b u t)
either_rises t u n true next now = next
either_rises t u n false next now = more_sessions n t.workers now

planned_rises : (setup : Setup) → RiseByOne setup → (t : Table) (moment : Moment) (p : Planned) (n : ℕ) → SessionsUpTo n t → SessionsUpTo (n + 1 + 1) (after_planned setup t moment p)
unfolding after_call after_death
planned_rises setup rises t moment p n now =
    let u = after_call setup t moment p in
    let once = either_rises t (after_event setup t p.worker (call_event setup t moment p)) n (is_entered p.stop) (rises t p.worker (call_event setup t moment p) n now) now in
    either_rises u (after_event setup u 0 (death_event moment p)) (n + 1) (is_some p.stop) (rises u 0 (death_event moment p) (n + 1) once) once

-- how many calls the phases have, in their order
abbrev calls_in : Setup → List Phase → ℕ
calls_in setup [] = 0
calls_in setup (phase ∷ phases) = length (in_order setup phase.calls) + calls_in setup phases

calls_within : (setup : Setup) (phases : List Phase) → calls_in setup phases ≤ length (all_calls phases)
calls_within setup [] = omega arith
calls_within setup (phase ∷ phases) =
    omega (arith, calls_within setup phases, no_more_in_order setup phase.calls, length-append phase.calls (all_calls phases))

-- ---- who is alive on the way

module _ (setup : Setup)
    (can_call : (v : View) (worker number : ℕ) (moment : Moment) → is_alive setup v worker ≡ true → (caller : Caller) × (caller_of setup v worker number moment ≡ Some caller))
    (called : (t : Table) (by number : ℕ) (moment : Moment) (call : Call) (reply : Reply) (worker : ℕ) → is_alive setup (view (after_event setup t by (Called number moment call reply))) worker ≡ is_alive setup (view t) worker)
    (died : (t : Table) (by dead : ℕ) (moment : Moment) (worker : ℕ) → (dead == worker) ≡ false → is_alive setup (view (after_event setup t by (Died dead moment))) worker ≡ is_alive setup (view t) worker)
    (rises : RiseByOne setup)
    (caller_session : (t : Table) (worker number : ℕ) (moment : Moment) (caller : Caller) (n : ℕ) → SessionsUpTo n t → caller_of setup (view t) worker number moment ≡ Some caller → caller.sid.session ≤ n) where
  either_alive : (t u : Table) (w : ℕ) (b : Bool) → is_alive setup (view u) w ≡ is_alive setup (view t) w → is_alive setup (view (cond b u t)) w ≡ is_alive setup (view t) w
  either_alive t u w true e = e
  either_alive t u w false e = refl

  call_alive : (t : Table) (moment : Moment) (p : Planned) (w : ℕ) → is_alive setup (view (after_call setup t moment p)) w ≡ is_alive setup (view t) w
  unfolding after_call
  call_alive t moment p w =
      either_alive t (after_event setup t p.worker (call_event setup t moment p)) w (is_entered p.stop)
      (called t p.worker p.number moment p.call (unwrap_or (answer_of setup (view t) p.worker p.number moment p.call) Unsuccessful) w)

  other_alive : (t : Table) (moment : Moment) (p : Planned) (w : ℕ) (b : Bool) → (IsTrue b → (p.worker == w) ≡ false)
      → is_alive setup (view (cond b (after_event setup t 0 (death_event moment p)) t)) w ≡ is_alive setup (view t) w
  other_alive t moment p w true apart = died t 0 p.worker moment w (apart refl)
  other_alive t moment p w false apart = refl

  death_alive : (t : Table) (moment : Moment) (p : Planned) (w : ℕ) → (IsTrue (is_some p.stop) → (p.worker == w) ≡ false) → is_alive setup (view (after_death setup t moment p)) w ≡ is_alive setup (view t) w
  unfolding after_death
  death_alive t moment p w apart = other_alive t moment p w (is_some p.stop) apart

  stay_alive : (t : Table) (moment : Moment) (p : Planned) (calls : List Planned) → AllByRecursion (λ q. IsTrue (is_some p.stop) → (p.worker == q.worker) ≡ false) calls
      → AreAlive setup t calls → AreAlive setup (after_planned setup t moment p) calls
  stay_alive t moment p [] apart alive = tt
  stay_alive t moment p (q ∷ calls) apart alive =
      (death_alive (after_call setup t moment p) moment p q.worker apart.0 ∙ call_alive t moment p q.worker ∙ alive.0, stay_alive t moment p calls apart.1 alive.1)

  -- ---- what can be entered

  next_fits : (t : Table) (moment : Moment) (p : Planned) (n : ℕ) → SessionsUpTo n t → n + 1 < 2 ^ 32 → (o : Option Caller) → caller_of setup (view t) p.worker p.number moment ≡ o
      → IfSome o (λ (caller : Caller). caller.sid.session + 1 < 2 ^ 32)
  next_fits t moment p n now few None e = tt
  next_fits t moment p n now few (Some caller) e = let up : caller.sid.session ≤ n = caller_session t p.worker p.number moment caller n now e in omega arith

  takes : (t : Table) (moment : Moment) (p : Planned) (n : ℕ) → SessionsUpTo n t → n + 1 < 2 ^ 32 → is_alive setup (view t) p.worker ≡ true → IsMoment moment.0 → IsPlanned setup p → Takes setup t moment p
  takes t moment p n now few alive m h = record {
    next = next_fits t moment p n now few (caller_of setup (view t) p.worker p.number moment) refl;
    call = λ _.
        let there = can_call (view t) p.worker p.number moment alive in
        record {
          numbered = h.number;
          timed = m;
          in_sets = h.call;
          answered = answers_with (answer_of setup (view t) p.worker p.number moment p.call) (outcome setup (view t) there.0 p.call).reply
              (ap (λ o. option_map (λ (done : Outcome). done.reply) (option_map (λ caller. outcome setup (view t) caller p.call) o)) there.1);
        };
    death = λ _.
        let u = view (after_call setup t moment p) in
        let there = can_call u p.worker 0 moment (call_alive t moment p p.worker ∙ alive) in
        record { timed = m; dies = subst (λ o. IsSome (option_map (λ (caller : Caller). conclude u (end_of_session u caller.sid moment [])) o)) (sym there.1) refl };
  }

  takes_calls : (t : Table) (moment : Moment) (calls later : List Planned) (n : ℕ) → SessionsUpTo n t → n + 2 * length calls + 1 < 2 ^ 32 → IsMoment moment.0 → AllByRecursion (IsPlanned setup) calls
      → ((w : ℕ) → DiesLast w (calls ++ later)) → AreAlive setup t (calls ++ later)
      → TakesCalls setup t moment calls × AreAlive setup (after_calls setup t moment calls) later × SessionsUpTo (n + 2 * length calls) (after_calls setup t moment calls)
  takes_calls t moment [] later n now few m all last alive = let same : n ≡ n + 2 * 0 = omega arith in (tt, alive, subst (λ k. SessionsUpTo k t) same now)
  takes_calls t moment (p ∷ calls) later n now few m all last alive =
      let none = λ (h : IsTrue (is_some p.stop)). (last p.worker).0 (and_from (p.worker == p.worker) (is_some p.stop) (eq-eqb p.worker p.worker refl) h) in
      let next = stay_alive t moment p (calls ++ later) (others_call p.worker (is_some p.stop) (calls ++ later) none) alive.1 in
      let u = after_planned setup t moment p in
      let rest = takes_calls u moment calls later (n + 1 + 1) (planned_rises setup rises t moment p n now) (omega (arith, few)) m all.1 (λ w. (last w).1) next in
      let same : n + 1 + 1 + 2 * length calls ≡ n + 2 * suc (length calls) = omega arith in
      ((takes t moment p n now (omega (arith, few)) alive.0 m all.0, rest.0), rest.1, subst (λ k. SessionsUpTo k (after_calls setup u moment calls)) same rest.2)

  pub takes_phases : (t : Table) (phases : List Phase) (n : ℕ) → SessionsUpTo n t → n + 2 * calls_in setup phases + 1 < 2 ^ 32 → AllByRecursion (IsPhase setup) phases → ((w : ℕ) → DiesLast w (all_calls phases))
      → AreAlive setup t (all_calls phases) → TakesPhases setup t phases
  takes_phases t [] n now few all last alive = tt
  takes_phases t (phase ∷ phases) n now few all last alive =
      let later = all_calls phases in
      let P = λ (p : Planned). is_alive setup (view t) p.worker ≡ true in
      let here = takes_calls t phase.moment (in_order setup phase.calls) later n now (omega (arith, few)) all.0.moment (all-in_order (IsPlanned setup) setup phase.calls all.0.calls)
      (λ w. dies_in_order setup w phase.calls later all.0.calls (last w))
      (all-append P (in_order setup phase.calls) later (all-in_order P setup phase.calls (all-first P phase.calls later alive)) (all-rest P phase.calls later alive)) in
      (here.0, takes_phases (after_phase setup t phase) phases (n + 2 * length (in_order setup phase.calls)) here.2 (omega (arith, few)) all.1 (λ w. dies_rest w phase.calls later (last w)) here.1)

-- ---- at the start

module _ (setup : Setup) (at_start : (worker : ℕ) → IsDeclared setup.workers worker → is_alive setup (view (start setup)) worker ≡ true) where
  calls_alive : (calls : List Planned) → AllByRecursion (IsPlanned setup) calls → AreAlive setup (start setup) calls
  calls_alive [] all = tt
  calls_alive (p ∷ calls) all = (at_start p.worker all.0.worker, calls_alive calls all.1)

  pub phases_alive : (phases : List Phase) → AllByRecursion (IsPhase setup) phases → AreAlive setup (start setup) (all_calls phases)
  phases_alive [] all = tt
  phases_alive (phase ∷ phases) all =
      all-append (λ (p : Planned). is_alive setup (view (start setup)) p.worker ≡ true) phase.calls (all_calls phases) (calls_alive phase.calls all.0.calls) (phases_alive phases all.1)

-- So the start takes all that a script plans.
pub script_taken : (script : Script) → IsScript script
    → ((setup : Setup) (v : View) (worker number : ℕ) (moment : Moment) → is_alive setup v worker ≡ true → (caller : Caller) × (caller_of setup v worker number moment ≡ Some caller))
    → ((setup : Setup) (worker : ℕ) → IsDeclared setup.workers worker → is_alive setup (view (start setup)) worker ≡ true)
    → ((setup : Setup) (t : Table) (by number : ℕ) (moment : Moment) (call : Call) (reply : Reply) (worker : ℕ) → is_alive setup (view (after_event setup t by (Called number moment call reply))) worker ≡ is_alive setup (view t) worker)
    → ((setup : Setup) (t : Table) (by dead : ℕ) (moment : Moment) (worker : ℕ) → IsDistinct nat_eq (map (λ w. w.pid) setup.workers) → (dead == worker) ≡ false
    → is_alive setup (view (after_event setup t by (Died dead moment))) worker ≡ is_alive setup (view t) worker)
    → ((setup : Setup) → SessionsUpTo 1 (start setup)) → ((setup : Setup) → RiseByOne setup)
    → ((setup : Setup) (t : Table) (worker number : ℕ) (moment : Moment) (caller : Caller) (n : ℕ) → SessionsUpTo n t → caller_of setup (view t) worker number moment ≡ Some caller → caller.sid.session ≤ n)
    → TakesPhases script.setup (start script.setup) script.phases
script_taken script h can_call at_start called died first rises caller_session =
    let setup = script.setup in
    let few : length (all_calls script.phases) ≤ 20000 = h.few_calls in
    takes_phases setup (can_call setup) (called setup) (λ t by dead moment worker. died setup t by dead moment worker h.setup.pids_differ) (rises setup) (caller_session setup)
    (start setup) script.phases 1 (first setup) (omega (arith, calls_within setup script.phases, few)) h.phases h.stopped (phases_alive setup (at_start setup) script.phases h.phases)
