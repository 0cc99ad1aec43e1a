-- A script that is written is read back.
use Rattle.std.proofs.Common.{◌≡◌, ℕ, ◌+◌, ◌<◌, ◌≤◌, Bool, true, false, cond, eqb, List, [], ◌∷◌, ◌++◌, length, map, Option, Some, None, Ok, refl, sym, subst, ap, ◌∙◌, append_assoc, append-nil, length-append, arith}
use Rattle.std.specs.Prelude.{nat_eq}
use Rattle.std.specs.List.{AllByRecursion, list_any, IsDistinct, flat_map}
use Rattle.std.specs.Option.{option_to_list}
use Rattle.std.proofs.lemmas.List.{map-append}
use Rattle.std.proofs.lemmas.List.Sums.{sum_by-append}
use Rattle.sid_core.specs.declared.limits.TheConstants.{MAX_CALLS, MAX_STATUS_CALLS, MAX_PHASES, MAX_WORKERS, MAX_FILES}
use Rattle.sid_core.specs.declared.setup.FileInfo.{FileInfo}
use Rattle.sid_core.specs.declared.setup.Setup.{Setup}
use Rattle.sid_core.specs.declared.setup.WorkerInfo.{WorkerInfo}
use Rattle.sid_core.specs.Counting.{CountsFrom, NeverFallsFrom}
use Rattle.sid_core.specs.Setup.{IsSetup, IsWorker, IsFile, same_file}
use Rattle.worker_script.specs.declared.script.Phase.{Phase}
use Rattle.worker_script.specs.declared.script.Planned.{Planned}
use Rattle.worker_script.specs.declared.script.Script.{Script}
use Rattle.worker_script.specs.Script.{all_calls, numbers_of, is_status_call, statuses_in, DiesLast, IsPlanned, IsPhase, IsScript}
use Rattle.worker_script.specs.Lines.{Draft, nothing, script_of, moment_of, new_phase}
use Rattle.worker_script.specs.Reading.{read_line, script}
use Rattle.worker_script.specs.Calls.{planned_call}
use Rattle.worker_script.specs.Spelling.{call_tokens, line_text, worker_lines, file_lines, call_lines, phase_lines, script_lines, script_text}
use Rattle.worker_script.proofs.Lists.{any-map, all-both}
use Rattle.worker_script.proofs.Counts.{all_calls-push, all_calls-new, numbers_of-append, own_number-own, dies-alive}
use Rattle.worker_script.proofs.BackLines.{AreNext, call-read, phase-read, declaring, worker-read, file-read}
use Rattle.worker_script.proofs.BackText.{Takes, takes-append, text-back}

-- ---- the calls of a script

counts-at : (n : ℕ) (ns : List ℕ) (m : ℕ) (others : List ℕ) → CountsFrom n (ns ++ m ∷ others) → m ≡ n + length ns
counts-at n [] m others counts = let here = counts.0 in omega (arith, here)
counts-at n (k ∷ ns) m others counts = let more = counts-at (n + 1) ns m others counts.1 in omega (arith, more)

number-next : (whole before calls : List Planned) (planned : Planned) → whole ≡ before ++ planned ∷ calls → CountsFrom 1 (numbers_of planned.worker whole)
    → planned.number ≡ length (numbers_of planned.worker before) + 1
number-next whole before calls planned e counts =
    let same : numbers_of planned.worker whole ≡ numbers_of planned.worker before ++ planned.number ∷ numbers_of planned.worker calls =
    rw (e, numbers_of-append planned.worker before (planned ∷ calls), own_number-own planned.worker planned refl) refl in
    let here = counts-at 1 (numbers_of planned.worker before) planned.number (numbers_of planned.worker calls) (subst (CountsFrom 1) same counts) in
    omega (arith, here)

statuses-before : (whole before calls : List Planned) (planned : Planned) → whole ≡ before ++ planned ∷ calls → statuses_in whole ≤ MAX_STATUS_CALLS
    → is_status_call planned.call ≡ true → statuses_in before < MAX_STATUS_CALLS
statuses-before whole before calls planned e few is =
    let weight : Planned → ℕ = λ p. cond (is_status_call p.call) 1 0 in
    let all : statuses_in whole ≡ statuses_in before + statuses_in (planned ∷ calls) = rw e (sum_by-append weight before (planned ∷ calls)) in
    let here : statuses_in (planned ∷ calls) ≡ statuses_in (planned ∷ []) + statuses_in calls = sum_by-append weight (planned ∷ []) calls in
    let one : statuses_in (planned ∷ []) ≡ 1 = rw is refl in
    omega (arith, all, here, one, few)

-- The rules of a whole plan are those of each call where it stands.
are-next : (setup : Setup) (whole before calls : List Planned) → whole ≡ before ++ calls → length whole ≤ MAX_CALLS → statuses_in whole ≤ MAX_STATUS_CALLS
    → ((worker : ℕ) → CountsFrom 1 (numbers_of worker whole)) → AllByRecursion (IsPlanned setup) calls → ((worker : ℕ) → DiesLast worker whole) → AreNext setup before calls
are-next setup whole before [] e few_calls few_statuses counts all stops = tt
are-next setup whole before (planned ∷ calls) e few_calls few_statuses counts all stops =
    let more : length whole ≡ length before + length (planned ∷ calls) = rw e (length-append before (planned ∷ calls)) in (
      record {
        is_planned = all.0;
        number = number-next whole before calls planned e (counts planned.worker);
        room = omega (arith, more, few_calls);
        statuses = statuses-before whole before calls planned e few_statuses;
        alive = dies-alive planned.worker before calls planned refl (subst (DiesLast planned.worker) e (stops planned.worker));
      },
      are-next setup whole (before ++ planned ∷ []) calls (e ∙ sym (append_assoc before (planned ∷ []) calls)) few_calls few_statuses counts all.1 stops,
    )

-- a fact of each call of a phase, of all calls
all-calls : (setup : Setup) (phases : List Phase) → AllByRecursion (IsPhase setup) phases → AllByRecursion (IsPlanned setup) (all_calls phases)
all-calls setup [] all = tt
all-calls setup (phase ∷ phases) all = all-both (IsPlanned setup) phase.calls (all_calls phases) all.0.calls (all-calls setup phases all.1)

-- what is read, from the first phase on
abbrev going : Setup → List Phase → Option Phase → Draft
going setup done current = record { workers = setup.workers; files = setup.files; phases = done; current = current }

calls-read : (setup : Setup) (done : List Phase) (phase : Phase) (calls others : List Planned) → IsSetup setup
    → AreNext setup (all_calls (done ++ phase ∷ [])) (calls ++ others)
    → Takes (going setup done (Some phase)) (call_lines calls) (going setup done (Some (record phase { calls = phase.calls ++ calls })))
    × AreNext setup (all_calls (done ++ record phase { calls = phase.calls ++ calls } ∷ [])) others
calls-read setup done phase [] others is next = rw (append-nil phase.calls) (refl, next)
calls-read setup done phase (planned ∷ calls) others is next =
    let draft = going setup done (Some phase) in
    let after = record phase { calls = phase.calls ++ planned ∷ [] } in
    let same : planned_call draft planned.worker planned.call planned.stop ≡ planned = λ i. record planned { number = sym next.0.number i } in
    let read : read_line draft (line_text (call_tokens planned)) ≡ Ok (going setup done (Some after)) =
    call-read draft planned is refl next.0 ∙ ap (λ p. Ok (going setup done (Some (record phase { calls = phase.calls ++ p ∷ [] })))) same in
    let more = calls-read setup done after calls others is (subst (λ b. AreNext setup b (calls ++ others)) (sym (all_calls-push done (Some phase) planned refl)) next.1) in
    rw (sym (append_assoc phase.calls (planned ∷ []) calls)) ((going setup done (Some after), read, more.0), more.1)

-- ---- the phases of a script

phases-read : (setup : Setup) (done : List Phase) (current : Option Phase) (phases : List Phase) → IsSetup setup
    → length (done ++ option_to_list current) + length phases ≤ MAX_PHASES → AllByRecursion (IsPhase setup) phases
    → NeverFallsFrom (moment_of current) (map (λ phase. phase.moment.0) phases) → AreNext setup (all_calls (done ++ option_to_list current)) (all_calls phases)
    → (after : Draft) × Takes (going setup done current) (flat_map phase_lines phases) after
    × (script_of after ≡ record { setup = setup; phases = (done ++ option_to_list current) ++ phases })
phases-read setup done current [] is few all falls next = (going setup done current, refl, rw (append-nil (done ++ option_to_list current)) refl)
phases-read setup done current (phase ∷ phases) is few all falls next =
    let before = done ++ option_to_list current in
    let begun = new_phase phase.moment.0 in
    let first = phase-read (going setup done current) phase all.0.moment (omega (arith, few)) falls.0 in
    let inside = calls-read setup before begun phase.calls (all_calls phases) is
    (subst (λ b. AreNext setup b (phase.calls ++ all_calls phases)) (sym (all_calls-new before begun refl)) next) in
    let more = length-append before (phase ∷ []) in
    let others = phases-read setup before (Some phase) phases is (omega (arith, few, more)) all.1 falls.1 inside.1 in (
      others.0,
      (going setup before (Some begun), first, takes-append _ _ _ (call_lines phase.calls) (flat_map phase_lines phases) inside.0 others.1),
      others.2 ∙ ap (λ ps. record { setup = setup; phases = ps }) (append_assoc before (phase ∷ []) phases),
    )

-- ---- what a script declares

all-mid : {X : Type 0} (P : X → Type 0) (xs : List X) (x : X) (ys : List X) → AllByRecursion P (xs ++ x ∷ ys) → P x
all-mid P [] x ys all = all.0
all-mid P (y ∷ xs) x ys all = all-mid P xs x ys all.1

-- Things that differ from each other: none before this one is the same.
differs : {X : Type 0} (same : X → X → Bool) (xs : List X) (x : X) (ys : List X) → IsDistinct same (xs ++ x ∷ ys) → list_any (λ y. same y x) xs ≡ false
unfolding IsDistinct
differs same [] x ys d = refl
differs same (y ∷ xs) x ys d = rw (all-mid (λ z. same y z ≡ false) xs x ys d.0, differs same xs x ys d.1) refl

workers-read : (whole done workers : List WorkerInfo) (number : ℕ) → whole ≡ done ++ workers → number ≡ length done + 1 → length whole ≤ MAX_WORKERS
    → IsDistinct nat_eq (map (λ w. w.pid) whole) → AllByRecursion IsWorker workers
    → Takes (declaring done []) (worker_lines number workers) (declaring whole [])
workers-read whole done [] number e next few differ all = ap (λ ws. declaring ws []) (sym (e ∙ append-nil done))
workers-read whole done (worker ∷ workers) number e next few differ all =
    let pid : WorkerInfo → ℕ = λ w. w.pid in
    let count : length whole ≡ length done + length (worker ∷ workers) = rw e (length-append done (worker ∷ workers)) in
    let more = length-append done (worker ∷ []) in
    let others = sym (any-map (λ n. eqb n worker.pid) pid done)
    ∙ differs nat_eq (map pid done) worker.pid (map pid workers) (subst (IsDistinct nat_eq) (ap (map pid) e ∙ map-append pid done (worker ∷ workers)) differ) in (
      declaring (done ++ worker ∷ []) [],
      worker-read done [] worker number all.0 next (omega (arith, count, few)) others,
      workers-read whole (done ++ worker ∷ []) workers (number + 1) (e ∙ sym (append_assoc done (worker ∷ []) workers)) (omega (arith, next, more)) few differ all.1,
    )

files-read : (workers : List WorkerInfo) (whole done files : List FileInfo) (number : ℕ) → whole ≡ done ++ files → number ≡ length done + 1 → length whole ≤ MAX_FILES
    → IsDistinct same_file whole → AllByRecursion IsFile files → Takes (declaring workers done) (file_lines number files) (declaring workers whole)
files-read workers whole done [] number e next few differ all = ap (λ fs. declaring workers fs) (sym (e ∙ append-nil done))
files-read workers whole done (file ∷ files) number e next few differ all =
    let count : length whole ≡ length done + length (file ∷ files) = rw e (length-append done (file ∷ files)) in
    let more = length-append done (file ∷ []) in (
      declaring workers (done ++ file ∷ []),
      file-read workers done file number all.0 next (omega (arith, count, few)) (differs same_file done file files (subst (IsDistinct same_file) e differ)),
      files-read workers whole (done ++ file ∷ []) files (number + 1) (e ∙ sym (append_assoc done (file ∷ []) files)) (omega (arith, next, more)) few differ all.1,
    )

-- ---- the script

-- Its lines lead from nothing to the script.
script-takes : (s : Script) → IsScript s → (after : Draft) × Takes nothing (script_lines s) after × (script_of after ≡ s)
script-takes s has =
    let workers = workers-read s.setup.workers [] s.setup.workers 1 refl refl has.setup.few_workers has.setup.pids_differ has.setup.workers in
    let files = files-read s.setup.workers s.setup.files [] s.setup.files 1 refl refl has.setup.few_files has.setup.files_differ has.setup.files in
    let next = are-next s.setup (all_calls s.phases) [] (all_calls s.phases) refl has.few_calls has.few_statuses has.numbered (all-calls s.setup s.phases has.phases) has.stopped in
    let phases = phases-read s.setup [] None s.phases has.setup (omega (arith, has.few_phases)) has.phases has.moments next in (
      phases.0,
      takes-append nothing (declaring s.setup.workers []) phases.0 (worker_lines 1 s.setup.workers) _ workers
          (takes-append (declaring s.setup.workers []) (declaring s.setup.workers s.setup.files) phases.0 (file_lines 1 s.setup.files) (flat_map phase_lines s.phases) files phases.1),
      phases.2,
    )

pub script-back : (s : Script) → IsScript s → script (script_text s) ≡ Ok s
script-back s has = let takes = script-takes s has in text-back takes.0 (script_lines s) takes.1 ∙ ap Ok takes.2
