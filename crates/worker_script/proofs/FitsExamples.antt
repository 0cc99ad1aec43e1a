-- Worked examples: which entries fit what a script plans. Numbers, calls and moments are those of small scripts of two workers.
use Rattle.std.proofs.Common.{◌≡◌, ℕ, ◌+◌, ◌⊎◌, inl, inr, Bool, false, true, ◌==◌, cond, ◌&&◌, List, [], ◌∷◌, ◌++◌, Option, None, Some, refl, ap, subst, arith}
use Rattle.std.proofs.lemmas.Bool.{eqb-true}
use Rattle.sid_core.specs.declared.call.Call.{Call}
use Rattle.sid_core.specs.declared.call.Call.TheVariants.{Close, Recv, Tidy}
use Rattle.sid_core.specs.declared.entry.Entry.{Entry}
use Rattle.sid_core.specs.declared.entry.Event.TheVariants.{Called, Died, Tidied}
use Rattle.sid_core.specs.declared.ids.Moment.{Moment}
use Rattle.sid_core.specs.declared.outside.Point.{Point}
use Rattle.sid_core.specs.declared.outside.Point.TheVariants as point
use Rattle.sid_core.specs.declared.reply.Reply.TheVariants.{Done, FileClosed, NoMessage}
use Rattle.sid_core.specs.declared.setup.Setup.{Setup}
use Rattle.worker_script.specs.declared.script.Phase.{Phase}
use Rattle.worker_script.specs.declared.script.Planned.{Planned}
use Rattle.worker_script.specs.declared.script.Script.{Script}
use Rattle.worker_script.specs.Fits.{calls_of, is_entered, FitsPhase, FitsPhases, Fits, IsOtherAlive, AreEnteredByLiving}

-- ---- lines of scripts, and entries

abbrev at : ℕ → Moment
at seconds = record { 0 = seconds }

abbrev planned : ℕ → ℕ → Call → Option Point → Planned
planned worker number call stop = record { worker = worker; number = number; call = call; stop = stop }

abbrev phase_at : ℕ → List Planned → Phase
phase_at moment calls = record { moment = at moment; calls = calls }

-- a worker's `close 1`, `recv` and `tidy`, with what they answer where nothing is open and nothing was sent
abbrev closes_at : ℕ → ℕ → ℕ → Entry
closes_at moment worker number = record { by = worker; seq = number; what = Called number (at moment) (Close 1) FileClosed }

abbrev recvs_at : ℕ → ℕ → ℕ → Entry
recvs_at moment worker number = record { by = worker; seq = number; what = Called number (at moment) Recv NoMessage }

abbrev tidies_at : ℕ → ℕ → ℕ → Entry
tidies_at moment worker number = record { by = worker; seq = number; what = Called number (at moment) Tidy Done }

-- a chain that a worker tidies
abbrev tidied_by : ℕ → Entry
tidied_by worker = record { by = worker; seq = 1; what = Tidied 20 }

-- a worker's death at moment 5, entered by this one
abbrev death_by : ℕ → ℕ → Entry
death_by by worker = record { by = by; seq = 1; what = Died worker (at 5) }

-- `1 close 1`, in which the worker dies at this point
abbrev closes : Point → Phase
closes stop = phase_at 5 (planned 1 1 (Close 1) (Some stop) ∷ [])

abbrev called : Entry
called = closes_at 5 1 1

-- its death, entered by the runner
abbrev died : Entry
died = death_by 0 1

-- nobody has two numbers
apart : (m n worker : ℕ) → (m ≡ n → ⊥) → (m == worker) ≡ true → (n == worker) ≡ true → ⊥
apart m n worker differ is_m is_n = let m_is : m ≡ worker = eqb-true m worker is_m in let n_is : n ≡ worker = eqb-true n worker is_n in differ (omega (arith, m_is, n_is))

-- the numbers of calls, and the calls themselves
abbrev numbers : List (ℕ × Call) → List ℕ
numbers [] = []
numbers (call ∷ calls) = call.0 ∷ numbers calls

abbrev made : List (ℕ × Call) → List Call
made [] = []
made (call ∷ calls) = call.1 ∷ made calls

-- ---- a call with a stop

one_call : {X : Type 0} (own entered runner : Bool) (xs : List X) → entered ≡ true → cond own xs [] ++ (cond runner [] [] ++ []) ≡ cond (own && entered) xs [] ++ []
one_call own false runner xs e = absurd cc
one_call true true true xs e = refl
one_call true true false xs e = refl
one_call false true true xs e = refl
one_call false true false xs e = refl

no_call : {X : Type 0} (own entered runner : Bool) (xs : List X) → entered ≡ false → cond runner [] [] ++ [] ≡ cond (own && entered) xs [] ++ []
no_call own true runner xs e = absurd cc
no_call true false true xs e = refl
no_call true false false xs e = refl
no_call false false true xs e = refl
no_call false false false xs e = refl

one_death : (own : Bool) → cond own 1 0 + 0 ≡ cond (own && true) 1 0 + 0
one_death true = refl
one_death false = refl

-- where the call is entered, it is there and the death behind it
dies_after_its_call : (stop : Point) → is_entered (Some stop) ≡ true → FitsPhase (closes stop) (called ∷ died ∷ [])
dies_after_its_call stop entered = record {
  moment = (refl, (refl, tt));
  calls = λ worker. one_call (1 == worker) (is_entered (Some stop)) (0 == worker) ((1, Close 1) ∷ []) entered;
  deaths = λ worker. omega (arith, one_death (1 == worker));
  last = λ worker. ((λ e. absurd (let never : false ≡ true = e in cc)), ((λ e. refl), tt));
  tidied = (tt, (tt, tt));
}

-- where it isn't, the death is there alone
dies_in_its_call : (stop : Point) → is_entered (Some stop) ≡ false → FitsPhase (closes stop) (died ∷ [])
dies_in_its_call stop entered = record {
  moment = (refl, tt);
  calls = λ worker. no_call (1 == worker) (is_entered (Some stop)) (0 == worker) ((1, Close 1) ∷ []) entered;
  deaths = λ worker. one_death (1 == worker);
  last = λ worker. ((λ e. refl), tt);
  tidied = (tt, tt);
}

-- After the first chain is taken the call isn't there ..
dies_with_a_chain : FitsPhase (closes point.Take) (died ∷ [])
dies_with_a_chain = dies_in_its_call point.Take refl

no_call_with_a_chain : FitsPhase (closes point.Take) (called ∷ died ∷ []) → ⊥
no_call_with_a_chain fits = let no : ◌≡◌ {A = List (ℕ × Call)} ((1, Close 1) ∷ []) [] = fits.calls 1 in cc

-- .. nor after the intent is written ..
dies_with_an_intent : FitsPhase (closes point.Intent) (died ∷ [])
dies_with_an_intent = dies_in_its_call point.Intent refl

no_call_with_an_intent : FitsPhase (closes point.Intent) (called ∷ died ∷ []) → ⊥
no_call_with_an_intent fits = let no : ◌≡◌ {A = List (ℕ × Call)} ((1, Close 1) ∷ []) [] = fits.calls 1 in cc

-- .. nor where it dies in a recovery of another worker.
dies_in_a_recovery : FitsPhase (closes point.Mourn) (died ∷ [])
dies_in_a_recovery = dies_in_its_call point.Mourn refl

no_call_in_a_recovery : FitsPhase (closes point.Mourn) (called ∷ died ∷ []) → ⊥
no_call_in_a_recovery fits = let no : ◌≡◌ {A = List (ℕ × Call)} ((1, Close 1) ∷ []) [] = fits.calls 1 in cc

-- After the commit the call is there ..
dies_after_its_commit : FitsPhase (closes point.Commit) (called ∷ died ∷ [])
dies_after_its_commit = dies_after_its_call point.Commit refl

call_before_its_commit : FitsPhase (closes point.Commit) (died ∷ []) → ⊥
call_before_its_commit fits = let no : ◌≡◌ {A = List (ℕ × Call)} [] ((1, Close 1) ∷ []) = fits.calls 1 in cc

-- .. and after the first chain is stored ..
dies_after_a_store : FitsPhase (closes point.Store) (called ∷ died ∷ [])
dies_after_a_store = dies_after_its_call point.Store refl

call_before_a_store : FitsPhase (closes point.Store) (died ∷ []) → ⊥
call_before_a_store fits = let no : ◌≡◌ {A = List (ℕ × Call)} [] ((1, Close 1) ∷ []) = fits.calls 1 in cc

-- .. and after the first chain is given back.
dies_after_a_release : FitsPhase (closes point.Release) (called ∷ died ∷ [])
dies_after_a_release = dies_after_its_call point.Release refl

call_before_a_release : FitsPhase (closes point.Release) (died ∷ []) → ⊥
call_before_a_release fits = let no : ◌≡◌ {A = List (ℕ × Call)} [] ((1, Close 1) ∷ []) = fits.calls 1 in cc

-- ---- each death is there once, behind the worker's calls

no_death_is_left_out : FitsPhase (closes point.Commit) (called ∷ []) → ⊥
no_death_is_left_out fits = let none : ◌≡◌ {A = ℕ} 0 1 = fits.deaths 1 in cc

no_death_comes_before : FitsPhase (closes point.Commit) (died ∷ called ∷ []) → ⊥
no_death_comes_before fits = let none : calls_of 1 (called ∷ []) ≡ [] = (fits.last 1).0 refl in cc

no_death_comes_twice : FitsPhase (closes point.Commit) (called ∷ died ∷ died ∷ []) → ⊥
no_death_comes_twice fits = let two : ◌≡◌ {A = ℕ} 2 1 = fits.deaths 1 in cc

-- ---- two workers: `1 close 1`, `1 recv`, `2 recv`, `2 close 1`

abbrev both : Phase
both = phase_at 5 (planned 1 1 (Close 1) None ∷ planned 1 2 Recv None ∷ planned 2 1 Recv None ∷ planned 2 2 (Close 1) None ∷ [])

mixed_calls : {X : Type 0} (one two : Bool) (a b c d : X) → (one ≡ true → two ≡ true → ⊥)
    → cond two (c ∷ []) [] ++ (cond one (a ∷ []) [] ++ (cond one (b ∷ []) [] ++ (cond two (d ∷ []) [] ++ [])))
    ≡ cond (one && true) (a ∷ []) [] ++ (cond (one && true) (b ∷ []) [] ++ (cond (two && true) (c ∷ []) [] ++ (cond (two && true) (d ∷ []) [] ++ [])))
mixed_calls true true a b c d differ = absurd (differ refl refl)
mixed_calls true false a b c d differ = refl
mixed_calls false true a b c d differ = refl
mixed_calls false false a b c d differ = refl

no_stops : (one two : Bool) → ◌≡◌ {A = ℕ} 0 (cond (one && false) 1 0 + (cond (one && false) 1 0 + (cond (two && false) 1 0 + (cond (two && false) 1 0 + 0))))
no_stops true true = refl
no_stops true false = refl
no_stops false true = refl
no_stops false false = refl

never : {X : Type 0} → false ≡ true → X
never e = absurd (let no : false ≡ true = e in cc)

-- Calls of two workers mix in any way that keeps the order of each.
calls_mix : FitsPhase both (recvs_at 5 2 1 ∷ closes_at 5 1 1 ∷ recvs_at 5 1 2 ∷ closes_at 5 2 2 ∷ [])
calls_mix = record {
  moment = (refl, (refl, (refl, (refl, tt))));
  calls = λ worker. mixed_calls (1 == worker) (2 == worker) (1, Close 1) (2, Recv) (1, Recv) (2, Close 1) (apart 1 2 worker (λ e. omega (arith, e)));
  deaths = λ worker. no_stops (1 == worker) (2 == worker);
  last = λ worker. (never, (never, (never, (never, tt))));
  tidied = (tt, (tt, (tt, (tt, tt))));
}

-- The calls of one worker keep their order.
order_is_kept : FitsPhase both (recvs_at 5 1 2 ∷ closes_at 5 1 1 ∷ recvs_at 5 2 1 ∷ closes_at 5 2 2 ∷ []) → ⊥
order_is_kept fits = let no : ◌≡◌ {A = List ℕ} (2 ∷ 1 ∷ []) (1 ∷ 2 ∷ []) = ap numbers (fits.calls 1) in cc

-- A call that is left out, is made twice, has another number, or is another call.
call_is_left_out : FitsPhase both (closes_at 5 1 1 ∷ recvs_at 5 2 1 ∷ closes_at 5 2 2 ∷ []) → ⊥
call_is_left_out fits = let no : ◌≡◌ {A = List (ℕ × Call)} ((1, Close 1) ∷ []) ((1, Close 1) ∷ (2, Recv) ∷ []) = fits.calls 1 in cc

call_is_made_twice : FitsPhase both (closes_at 5 1 1 ∷ recvs_at 5 1 2 ∷ recvs_at 5 2 1 ∷ closes_at 5 2 2 ∷ closes_at 5 2 2 ∷ []) → ⊥
call_is_made_twice fits = let no : ◌≡◌ {A = List (ℕ × Call)} ((1, Recv) ∷ (2, Close 1) ∷ (2, Close 1) ∷ []) ((1, Recv) ∷ (2, Close 1) ∷ []) = fits.calls 2 in cc

call_has_another_number : FitsPhase both (closes_at 5 1 1 ∷ recvs_at 5 1 3 ∷ recvs_at 5 2 1 ∷ closes_at 5 2 2 ∷ []) → ⊥
call_has_another_number fits = let no : ◌≡◌ {A = List ℕ} (1 ∷ 3 ∷ []) (1 ∷ 2 ∷ []) = ap numbers (fits.calls 1) in cc

another_call : FitsPhase both (closes_at 5 1 1 ∷ closes_at 5 1 2 ∷ recvs_at 5 2 1 ∷ closes_at 5 2 2 ∷ []) → ⊥
another_call fits = let no : Close 1 ∷ Close 1 ∷ [] ≡ Close 1 ∷ Recv ∷ [] = ap made (fits.calls 1) in cc

-- A call of a worker that plans none, and a death that no stop plans.
call_of_nobody : FitsPhase both (recvs_at 5 2 1 ∷ closes_at 5 1 1 ∷ recvs_at 5 1 2 ∷ closes_at 5 2 2 ∷ closes_at 5 3 1 ∷ []) → ⊥
call_of_nobody fits = let no : ◌≡◌ {A = List (ℕ × Call)} ((1, Close 1) ∷ []) [] = fits.calls 3 in cc

death_of_nobody : FitsPhase both (recvs_at 5 2 1 ∷ closes_at 5 1 1 ∷ recvs_at 5 1 2 ∷ closes_at 5 2 2 ∷ death_by 0 2 ∷ []) → ⊥
death_of_nobody fits = let one : ◌≡◌ {A = ℕ} 1 0 = fits.deaths 2 in cc

-- ---- moments

-- A call at another moment than its phase's, and a death.
call_at_another_moment : FitsPhase (closes point.Commit) (closes_at 6 1 1 ∷ died ∷ []) → ⊥
call_at_another_moment fits = let no : ◌≡◌ {A = ℕ} 6 5 = ap (λ (m : Moment). m.0) fits.moment.0 in cc

death_at_another_moment : FitsPhase (phase_at 6 (planned 1 1 (Close 1) (Some point.Take) ∷ [])) (died ∷ []) → ⊥
death_at_another_moment fits = let no : ◌≡◌ {A = ℕ} 5 6 = ap (λ (m : Moment). m.0) fits.moment.0 in cc

-- ---- chains are tidied by workers that have a `tidy` call in the phase: here `1 tidy` and `2 recv`

abbrev tidying : Phase
tidying = phase_at 5 (planned 1 1 Tidy None ∷ planned 2 1 Recv None ∷ [])

tidying_calls : {X : Type 0} (one two : Bool) (a b : X)
    → cond one [] [] ++ (cond one [] [] ++ (cond one (a ∷ []) [] ++ (cond two (b ∷ []) [] ++ []))) ≡ cond (one && true) (a ∷ []) [] ++ (cond (two && true) (b ∷ []) [] ++ [])
tidying_calls true true a b = refl
tidying_calls true false a b = refl
tidying_calls false true a b = refl
tidying_calls false false a b = refl

tidying_stops : (one two : Bool) → ◌≡◌ {A = ℕ} 0 (cond (one && false) 1 0 + (cond (two && false) 1 0 + 0))
tidying_stops true true = refl
tidying_stops true false = refl
tidying_stops false true = refl
tidying_stops false false = refl

-- Worker 1 tidies two chains before its call.
tidier_tidies : FitsPhase tidying (tidied_by 1 ∷ tidied_by 1 ∷ tidies_at 5 1 1 ∷ recvs_at 5 2 1 ∷ [])
tidier_tidies = record {
  moment = (tt, (tt, (refl, (refl, tt))));
  calls = λ worker. tidying_calls (1 == worker) (2 == worker) (1, Tidy) (1, Recv);
  deaths = λ worker. tidying_stops (1 == worker) (2 == worker);
  last = λ worker. (never, (never, (never, (never, tt))));
  tidied = (refl, (refl, (tt, (tt, tt))));
}

-- Worker 2 has another call in the phase, and the runner has none: neither tidies a chain.
other_tidies_nothing : FitsPhase tidying (tidied_by 2 ∷ tidies_at 5 1 1 ∷ recvs_at 5 2 1 ∷ []) → ⊥
other_tidies_nothing fits = let no : false ≡ true = fits.tidied.0 in cc

runner_tidies_nothing : FitsPhase tidying (tidies_at 5 1 1 ∷ recvs_at 5 2 1 ∷ tidied_by 0 ∷ []) → ⊥
runner_tidies_nothing fits = let no : false ≡ true = fits.tidied.1.1.0 in cc

-- In a phase without a `tidy` call nobody does.
tidied_in_another_phase : FitsPhase both (tidied_by 1 ∷ recvs_at 5 2 1 ∷ closes_at 5 1 1 ∷ recvs_at 5 1 2 ∷ closes_at 5 2 2 ∷ []) → ⊥
tidied_in_another_phase fits = let no : false ≡ true = fits.tidied.0 in cc

-- ---- two phases: `1 close 1`, and then at the same moment `1 recv`

abbrev closing : Phase
closing = phase_at 5 (planned 1 1 (Close 1) None ∷ [])

abbrev receiving : Phase
receiving = phase_at 5 (planned 1 2 Recv None ∷ [])

entered_call : {X : Type 0} (own : Bool) (xs : List X) → cond own xs [] ++ [] ≡ cond (own && true) xs [] ++ []
entered_call true xs = refl
entered_call false xs = refl

no_stop : (own : Bool) → ◌≡◌ {A = ℕ} 0 (cond (own && false) 1 0 + 0)
no_stop true = refl
no_stop false = refl

fits_closing : FitsPhase closing (closes_at 5 1 1 ∷ [])
fits_closing = record {
  moment = (refl, tt);
  calls = λ worker. entered_call (1 == worker) ((1, Close 1) ∷ []);
  deaths = λ worker. no_stop (1 == worker);
  last = λ worker. (never, tt);
  tidied = (tt, tt);
}

fits_receiving : FitsPhase receiving (recvs_at 5 1 2 ∷ [])
fits_receiving = record {
  moment = (refl, tt);
  calls = λ worker. entered_call (1 == worker) ((2, Recv) ∷ []);
  deaths = λ worker. no_stop (1 == worker);
  last = λ worker. (never, tt);
  tidied = (tt, tt);
}

-- The entries of the first phase stand before those of the second.
one_phase_after_another : FitsPhases (closing ∷ receiving ∷ []) (closes_at 5 1 1 ∷ recvs_at 5 1 2 ∷ [])
one_phase_after_another = (closes_at 5 1 1 ∷ [], recvs_at 5 1 2 ∷ [], refl, fits_closing, (recvs_at 5 1 2 ∷ [], [], refl, fits_receiving, refl))

-- Wherever the first phase is to end: it doesn't begin with a call of the second.
no_first_phase : (here rest : List Entry) → recvs_at 5 1 2 ∷ closes_at 5 1 1 ∷ [] ≡ here ++ rest → FitsPhase closing here → ⊥
no_first_phase [] rest e fits = let no : ◌≡◌ {A = List (ℕ × Call)} [] ((1, Close 1) ∷ []) = fits.calls 1 in cc
no_first_phase (entry ∷ here) rest e fits =
    let entries : recvs_at 5 1 2 ∷ closes_at 5 1 1 ∷ [] ≡ entry ∷ (here ++ rest) = e in
    let first : entry ≡ recvs_at 5 1 2 = cc in
    let calls : ◌≡◌ {A = List ℕ} (2 ∷ numbers (calls_of 1 here)) (1 ∷ []) =
    subst (λ (one : Entry). numbers (calls_of 1 (one ∷ here)) ≡ 1 ∷ []) first (ap numbers (fits.calls 1)) in
    cc

call_in_the_wrong_phase : FitsPhases (closing ∷ receiving ∷ []) (recvs_at 5 1 2 ∷ closes_at 5 1 1 ∷ []) → ⊥
call_in_the_wrong_phase fits = no_first_phase fits.0 fits.1 fits.2 fits.3

-- No entry stands behind the last phase.
nothing_behind_the_last : FitsPhases [] (closes_at 5 1 1 ∷ []) → ⊥
nothing_behind_the_last none = let no : ◌≡◌ {A = List Entry} (closes_at 5 1 1 ∷ []) [] = none in cc

-- ---- by whom a death is entered

abbrev two_workers : Setup
two_workers = record {
  workers =
      record { pid = 101; uid = 0; guid = 1; machine = []; share = []; old = false }
      ∷ record { pid = 102; uid = 0; guid = 2; machine = []; share = []; old = false } ∷ [];
  files = [];
}

other_enters_a_death : AreEnteredByLiving two_workers [] (death_by 2 1 ∷ death_by 0 2 ∷ [])
other_enters_a_death = (inr (record { declared = (omega arith, omega arith); other = refl; alive = refl }), (inl refl, tt))

only_others : (worker : ℕ) → (worker ≡ 0) ⊎ IsOtherAlive two_workers [] 1 1 → worker ≡ 1 → ⊥
only_others worker (inl none) one = omega (arith, none, one)
only_others worker (inr by) one = let same : true ≡ false = by.other in cc

nobody_enters_its_own : AreEnteredByLiving two_workers [] (death_by 1 1 ∷ []) → ⊥
nobody_enters_its_own entered = only_others 1 entered.0 refl

only_living : (worker : ℕ) → (worker ≡ 0) ⊎ IsOtherAlive two_workers (2 ∷ []) 1 2 → worker ≡ 2 → ⊥
only_living worker (inl none) two = omega (arith, none, two)
only_living worker (inr by) two = let dead : true ≡ false = by.alive in cc

no_dead_enters_a_death : AreEnteredByLiving two_workers [] (death_by 0 2 ∷ death_by 2 1 ∷ []) → ⊥
no_dead_enters_a_death entered = only_living 2 entered.1.0 refl

only_declared : (worker : ℕ) → (worker ≡ 0) ⊎ IsOtherAlive two_workers [] 1 3 → worker ≡ 3 → ⊥
only_declared worker (inl none) three = omega (arith, none, three)
only_declared worker (inr by) three = omega (arith, by.declared.1)

nobody_undeclared_enters_a_death : AreEnteredByLiving two_workers [] (death_by 3 1 ∷ []) → ⊥
nobody_undeclared_enters_a_death entered = only_declared 3 entered.0 refl

-- ---- a whole script: worker 1 dies after its commit, and worker 2 enters that and then its own call

abbrev whole : Script
whole = record { setup = two_workers; phases = phase_at 5 (planned 1 1 (Close 1) (Some point.Commit) ∷ planned 2 1 Recv None ∷ []) ∷ phase_at 6 (planned 2 2 Tidy None ∷ []) ∷ [] }

whole_calls : {X : Type 0} (one two : Bool) (a b : X)
    → cond one (a ∷ []) [] ++ (cond two [] [] ++ (cond two (b ∷ []) [] ++ [])) ≡ cond (one && true) (a ∷ []) [] ++ (cond (two && true) (b ∷ []) [] ++ [])
whole_calls true true a b = refl
whole_calls true false a b = refl
whole_calls false true a b = refl
whole_calls false false a b = refl

whole_stops : (one two : Bool) → ◌≡◌ {A = ℕ} (0 + (cond one 1 0 + (0 + 0))) (cond (one && true) 1 0 + (cond (two && false) 1 0 + 0))
whole_stops true true = refl
whole_stops true false = refl
whole_stops false true = refl
whole_stops false false = refl

after_death : {X : Type 0} (one two : Bool) (b : X) → (one ≡ true → two ≡ true → ⊥) → one ≡ true → cond two (b ∷ []) [] ++ [] ≡ []
after_death one true b differ e = absurd (differ e refl)
after_death one false b differ e = refl

second_tidies : {X : Type 0} (two : Bool) (a : X) → cond two [] [] ++ (cond two (a ∷ []) [] ++ []) ≡ cond (two && true) (a ∷ []) [] ++ []
second_tidies true a = refl
second_tidies false a = refl

whole_fits : Fits whole (closes_at 5 1 1 ∷ death_by 2 1 ∷ recvs_at 5 2 1 ∷ tidied_by 2 ∷ tidies_at 6 2 2 ∷ [])
whole_fits = record {
  phases = (
    closes_at 5 1 1 ∷ death_by 2 1 ∷ recvs_at 5 2 1 ∷ [],
    tidied_by 2 ∷ tidies_at 6 2 2 ∷ [],
    refl,
    record {
      moment = (refl, (refl, (refl, tt)));
      calls = λ worker. whole_calls (1 == worker) (2 == worker) (1, Close 1) (1, Recv);
      deaths = λ worker. whole_stops (1 == worker) (2 == worker);
      last = λ worker. (never, (after_death (1 == worker) (2 == worker) (1, Recv) (apart 1 2 worker (λ e. omega (arith, e))), (never, tt)));
      tidied = (tt, (tt, (tt, tt)));
    },
    (
      tidied_by 2 ∷ tidies_at 6 2 2 ∷ [],
      [],
      refl,
      record {
        moment = (tt, (refl, tt));
        calls = λ worker. second_tidies (2 == worker) (2, Tidy);
        deaths = λ worker. no_stop (2 == worker);
        last = λ worker. (never, (never, tt));
        tidied = (refl, (tt, tt));
      },
      refl,
    ),
  );
  entered = (tt, (inr (record { declared = (omega arith, omega arith); other = refl; alive = refl }), (tt, (tt, (tt, tt)))));
}
