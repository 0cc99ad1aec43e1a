-- What is read is a script.
use Rattle.std.proofs.Common.{◌≡◌, ℕ, ◌-◌, ◌^◌, ◌<◌, ◌≤◌, true, false, List, [], ◌∷◌, ◌++◌, length, map, Option, Some, None, ◌==◌, is_some, Ok, nat_eq, refl, subst, ◌∙◌, ◌||◌, ◌⊎◌, inl, inr, length-append, arith}
use Rattle.std.proofs.lemmas.Bool.{and_parts, or_cases, eqb-true, leb-false, not-false}
use Rattle.std.specs.List.{AllByRecursion}
use Rattle.std.specs.Option.{option_to_list}
use Rattle.std.proofs.lemmas.Bool.Decides.{nat_tests}
use Rattle.sid_core.specs.declared.setup.WorkerInfo.{WorkerInfo}
use Rattle.sid_core.specs.declared.setup.FileInfo.{FileInfo}
use Rattle.sid_core.specs.Values.{IsMoment, IsText}
use Rattle.sid_core.specs.Setup.{IsWorker, IsFile, IsSetup, same_file}
use Rattle.worker_script.specs.declared.script.Phase.{Phase}
use Rattle.worker_script.specs.declared.reason.Reason.{Reason}
use Rattle.worker_script.specs.Text.{token}
use Rattle.worker_script.specs.Values.{value, is_short}
use Rattle.sid_core.specs.Counting.{NeverFallsFrom}
use Rattle.sid_core.specs.declared.limits.TheConstants.{MAX_WORKERS, MAX_FILES, MAX_PHASES, MAX_MOMENT}
use Rattle.worker_script.specs.Script.{IsPhase, IsScript}
use Rattle.worker_script.specs.Lines.{Draft, phases_of, script_of, checked, are_worker_numbers, worker_faults, worker_fault, worker_info, worker_line, are_file_numbers, file_faults, file_fault, file_info, file_line, moment_of, new_phase, phase_faults, phase_fault, phase_line}
use Rattle.worker_script.proofs.Faults.{HasNone, none-there}
use Rattle.worker_script.proofs.Lists.{all-push, distinct-push, map-push, any-map, falls-push, at-token}
use Rattle.worker_script.proofs.Counts.{all_calls-new}
use Rattle.worker_script.proofs.Facts.{IsToken, number-range, text-short}

-- Of what the lines so far say: it is a script, and without a phase there is none.
pub record IsDraft (draft : Draft) : Type 0 where
  pub script : IsScript (script_of draft)
  pub begun : is_some draft.current ≡ false → draft.phases ≡ []

pub checked-ok : (fault : Option Reason) (draft after : Draft) → checked fault draft ≡ Ok after → (fault ≡ None) × (draft ≡ after)
checked-ok None draft after e = (refl, cc)
checked-ok (Some reason) draft after e = cc

none-from : {X : Type 0} (o : Option X) → is_some o ≡ false → o ≡ None
none-from None e = refl
none-from (Some x) e = cc

no-phases : (draft : Draft) → IsDraft draft → is_some draft.current ≡ false → phases_of draft ≡ []
no-phases draft d none = rw (d.begun none, none-from draft.current none) refl

-- What is declared may grow while there is no phase.
declared-sound : (draft : Draft) (workers : List WorkerInfo) (files : List FileInfo) → IsDraft draft → is_some draft.current ≡ false
    → IsSetup (record { workers = workers; files = files }) → IsDraft (record draft { workers = workers; files = files })
declared-sound draft workers files d none setup =
    record {
      script = record {
        setup = setup;
        few_phases = d.script.few_phases;
        few_calls = d.script.few_calls;
        few_statuses = d.script.few_statuses;
        phases = rw (no-phases draft d none) tt;
        moments = d.script.moments;
        numbered = d.script.numbered;
        stopped = d.script.stopped;
      };
      begun = d.begun;
    }

-- a short token of such a line, with this index
is-text : (ts : List (List ℕ)) (index : ℕ) → AllByRecursion IsToken ts → index < length ts → is_short (token index ts) ≡ true → IsText (token index ts)
is-text ts index all within short = text-short (token index ts) (at-token IsToken ts index within all) short

seven-or-eight : (n : ℕ) → ((n == 7) || (n == 8)) ≡ true → 7 ≤ n
seven-or-eight n e = either (or_cases (n == 7) (n == 8) e)
  where
    either : ((n == 7) ≡ true) ⊎ ((n == 8) ≡ true) → 7 ≤ n
    either (inl h) = let same = eqb-true n 7 h in omega (arith, same)
    either (inr h) = let same = eqb-true n 8 h in omega (arith, same)

is-worker : (draft : Draft) (ts : List (List ℕ)) → AllByRecursion IsToken ts → HasNone (worker_faults draft ts) → IsWorker (worker_info ts)
is-worker draft ts all f =
    let count = seven-or-eight (length ts) (not-false _ f.0) in
    let a = and_parts _ _ (not-false (are_worker_numbers ts) f.1.0) in
    let b = and_parts _ _ a.0 in
    let c = and_parts _ _ b.0 in
    let pid = number-range 1 (2 ^ 32 - 1) (token 2 ts) c.1 in
    let uid = number-range 0 (2 ^ 32 - 1) (token 3 ts) b.1 in
    let guid = number-range 0 (2 ^ 64 - 1) (token 4 ts) a.1 in
    let texts = and_parts (is_short (token 5 ts)) (is_short (token 6 ts)) (not-false _ f.1.1.1.1.1.1.0) in
    record {
      pid = (pid.0, omega (arith, pid.1));
      uid = omega (arith, uid.1);
      guid = omega (arith, guid.1);
      machine = is-text ts 5 all (omega (arith, count)) texts.0;
      share = is-text ts 6 all (omega (arith, count)) texts.1;
    }

worker-setup : (draft : Draft) (ts : List (List ℕ)) → AllByRecursion IsToken ts → IsDraft draft → HasNone (worker_faults draft ts)
    → IsSetup (record { workers = draft.workers ++ worker_info ts ∷ []; files = draft.files })
worker-setup draft ts all d f =
    let setup = d.script.setup in
    let room = leb-false MAX_WORKERS (length draft.workers) f.1.1.1.1.0 in
    record {
      few_workers = simp length-append (omega (arith, room));
      few_files = setup.few_files;
      workers = all-push IsWorker draft.workers (worker_info ts) setup.workers (is-worker draft ts all f);
      files = setup.files;
      pids_differ = rw (map-push (λ (w : WorkerInfo). w.pid) draft.workers (worker_info ts))
          (distinct-push nat_eq (map (λ (w : WorkerInfo). w.pid) draft.workers) (value (token 2 ts))
          (any-map (λ pid. pid == value (token 2 ts)) (λ (w : WorkerInfo). w.pid) draft.workers ∙ f.1.1.1.1.1.0) setup.pids_differ);
      files_differ = setup.files_differ;
    }

-- A worker line goes on with a script.
pub worker-sound : (draft after : Draft) (ts : List (List ℕ)) → AllByRecursion IsToken ts → IsDraft draft → worker_line draft ts ≡ Ok after → IsDraft after
unfolding worker_line worker_fault
worker-sound draft after ts all d e =
    let workers = draft.workers ++ worker_info ts ∷ [] in
    let ok = checked-ok (worker_fault draft ts) (record draft { workers = workers }) after e in
    let f = none-there (worker_faults draft ts) ok.0 in
    subst IsDraft ok.1 (declared-sound draft workers draft.files d f.1.1.0 (worker-setup draft ts all d f))

is-file : (draft : Draft) (ts : List (List ℕ)) → AllByRecursion IsToken ts → HasNone (file_faults draft ts) → IsFile (file_info ts)
is-file draft ts all f =
    let count = eqb-true (length ts) 6 (not-false _ f.0) in
    let a = and_parts _ _ (not-false (are_file_numbers ts) f.1.0) in
    let b = and_parts _ _ a.0 in
    let dev = number-range 0 (2 ^ 64 - 1) (token 2 ts) b.1 in
    let inode = number-range 0 (2 ^ 64 - 1) (token 3 ts) a.1 in
    let texts = and_parts (is_short (token 4 ts)) (is_short (token 5 ts)) (not-false _ f.1.1.1.1.1.1.0) in
    record {
      dev = omega (arith, dev.1);
      inode = omega (arith, inode.1);
      path = is-text ts 4 all (omega (arith, count)) texts.0;
      name = is-text ts 5 all (omega (arith, count)) texts.1;
    }

file-setup : (draft : Draft) (ts : List (List ℕ)) → AllByRecursion IsToken ts → IsDraft draft → HasNone (file_faults draft ts)
    → IsSetup (record { workers = draft.workers; files = draft.files ++ file_info ts ∷ [] })
file-setup draft ts all d f =
    let setup = d.script.setup in
    let room = leb-false MAX_FILES (length draft.files) f.1.1.1.1.0 in
    record {
      few_workers = setup.few_workers;
      few_files = simp length-append (omega (arith, room));
      workers = setup.workers;
      files = all-push IsFile draft.files (file_info ts) setup.files (is-file draft ts all f);
      pids_differ = setup.pids_differ;
      files_differ = distinct-push same_file draft.files (file_info ts) f.1.1.1.1.1.0 setup.files_differ;
    }

-- So does a file line.
pub file-sound : (draft after : Draft) (ts : List (List ℕ)) → AllByRecursion IsToken ts → IsDraft draft → file_line draft ts ≡ Ok after → IsDraft after
unfolding file_line file_fault
file-sound draft after ts all d e =
    let files = draft.files ++ file_info ts ∷ [] in
    let ok = checked-ok (file_fault draft ts) (record draft { files = files }) after e in
    let f = none-there (file_faults draft ts) ok.0 in
    subst IsDraft ok.1 (declared-sound draft draft.workers files d f.1.1.0 (file-setup draft ts all d f))

moments-push : (phases : List Phase) (current : Option Phase) (n : ℕ) → (is_some current ≡ false → phases ≡ [])
    → NeverFallsFrom 0 (map (λ (p : Phase). p.moment.0) (phases ++ option_to_list current)) → moment_of current ≤ n
    → NeverFallsFrom 0 (map (λ (p : Phase). p.moment.0) (phases ++ option_to_list current) ++ n ∷ [])
moments-push phases None n begun falls le = rw (begun refl) (le, tt)
moments-push phases (Some phase) n begun falls le =
    rw (map-push (λ (p : Phase). p.moment.0) phases phase)
    (falls-push 0 (map (λ (p : Phase). p.moment.0) phases) phase.moment.0 n
    (rw (map-push (λ (p : Phase). p.moment.0) phases phase) at falls) le)

pub record IsPhaseLine (draft : Draft) (ts : List (List ℕ)) : Type 0 where
  pub moment : IsMoment (value (token 1 ts))
  pub room : length (phases_of draft) < MAX_PHASES
  pub later : moment_of draft.current ≤ value (token 1 ts)

phase-line : (draft : Draft) (ts : List (List ℕ)) → phase_fault draft ts ≡ None → IsPhaseLine draft ts
unfolding phase_fault
phase-line draft ts e =
    let f = none-there (phase_faults draft ts) e in
    let moment = number-range 0 MAX_MOMENT (token 1 ts) (not-false _ f.1.0) in
    let later = f.1.1.1.0 in
    record { moment = moment.1; room = leb-false MAX_PHASES (length (phases_of draft)) f.1.1.0; later = grind (arith, nat_tests) }

-- So does a phase line.
pub phase-sound : (draft after : Draft) (ts : List (List ℕ)) → IsDraft draft → phase_line draft ts ≡ Ok after → IsDraft after
unfolding phase_line
phase-sound draft after ts d e =
    let next = new_phase (value (token 1 ts)) in
    let ok = checked-ok (phase_fault draft ts) (record draft { phases = phases_of draft; current = Some next }) after e in
    let line = phase-line draft ts ok.0 in
    let same = all_calls-new (phases_of draft) next refl in
    subst IsDraft ok.1 (record {
      script = record {
        setup = d.script.setup;
        few_phases = rw (length-append (phases_of draft) (next ∷ [])) (omega (arith, line.room));
        few_calls = rw same d.script.few_calls;
        few_statuses = rw same d.script.few_statuses;
        phases = all-push (IsPhase (script_of draft).setup) (phases_of draft) next d.script.phases (record { moment = line.moment; calls = tt });
        moments = rw (map-push (λ (p : Phase). p.moment.0) (phases_of draft) next)
            (moments-push draft.phases draft.current (value (token 1 ts)) d.begun d.script.moments line.later);
        numbered = λ worker. rw same (d.script.numbered worker);
        stopped = λ worker. rw same (d.script.stopped worker);
      };
      begun = λ none. cc;
    })
