-- What a reader keeps stays right when it takes a call.
use Rattle.std.proofs.Common.{◌≡◌, ◌+◌, ◌-◌, ◌<◌, ◌≤◌, Bool, true, false, cond, ◌||◌, [], ◌∷◌, ◌++◌, length, set, Option, Some, None, is_some, is_none, ◌∙◌, length-append, length-set, arith}
use Rattle.std.specs.Option.{IsSome}
use Rattle.sid_core.specs.declared.limits.TheConstants.{MAX_CALLS}
use Rattle.worker_script.specs.declared.script.Planned.{Planned}
use Rattle.worker_script.specs.declared.script.Phase.{Phase}
use Rattle.worker_script.specs.declared.reader.Reader.{Reader}
use Rattle.worker_script.specs.Script.{numbers_of, is_status_call, statuses_in}
use Rattle.worker_script.specs.Lines.{planned_in, with_planned}
use Rattle.worker_script.specs.Calls.{has_stopped}
use Rattle.worker_script.specs.Reader.{draft_of, IsReader}
use Rattle.worker_script.proofs.Counts.{all_calls-push}
use Rattle.worker_script.proofs.Tallies.{AreTallies, tallies-plan, statuses-push}

one-at-most : (b : Bool) → cond b 1 0 ≤ 1
one-at-most true = omega arith
one-at-most false = omega arith

never-none : (current : Option Phase) (planned : Planned) → IsSome current → is_none (with_planned current planned) ≡ true → ⊥
never-none None planned some e = cc
never-none (Some phase) planned some e = cc

pub plan-reader : (before after : Reader) (planned : Planned) → IsReader before → IsSome before.current → before.calls < MAX_CALLS
    → 1 ≤ planned.worker → planned.worker ≤ length before.workers
    → after.workers ≡ before.workers → after.files ≡ before.files → after.places ≡ before.places → after.phases ≡ before.phases
    → after.current ≡ with_planned before.current planned → after.calls ≡ before.calls + 1
    → after.statuses ≡ before.statuses + cond (is_status_call planned.call) 1 0
    → after.tallies.items ≡ set before.tallies.items (planned.worker - 1) (record {
      made = length (numbers_of planned.worker (planned_in (draft_of before))) + 1;
      stopped = has_stopped planned.worker (planned_in (draft_of before)) || is_some planned.stop;
    })
    → IsReader after
plan-reader before after planned is some room low high workers files places phases current calls statuses tallies =
    let all : planned_in (draft_of after) ≡ planned_in (draft_of before) ++ planned ∷ [] =
    rw (phases, current) (all_calls-push before.phases before.current planned some) in
    let counted : length (planned_in (draft_of after)) ≡ length (planned_in (draft_of before)) + 1 =
    rw all (length-append (planned_in (draft_of before)) (planned ∷ [])) in
    let stated : statuses_in (planned_in (draft_of after)) ≡ statuses_in (planned_in (draft_of before)) + cond (is_status_call planned.call) 1 0 =
    rw all (statuses-push (planned_in (draft_of before)) planned) in
    let kept : length after.tallies.items ≡ length before.tallies.items = rw tallies (length-set before.tallies.items (planned.worker - 1) _) in
    let small = one-at-most (is_status_call planned.call) in
    let were : AreTallies before.tallies.items (planned_in (draft_of before)) = record { each = is.each_tally } in
    record {
      few_workers = rw workers is.few_workers;
      few_files = rw files is.few_files;
      few_phases = rw phases is.few_phases;
      begun = λ none. absurd (never-none before.current planned some (rw current at none));
      places = λ place. rw (places, files) (is.places place);
      calls = omega (arith, calls, counted, is.calls);
      few_calls = omega (arith, calls, room);
      statuses = omega (arith, statuses, stated, is.statuses);
      few_statuses = omega (arith, statuses, calls, small, is.few_statuses);
      tallies = kept ∙ (rw workers is.tallies);
      each_tally = λ i here. rw (tallies, all)
          (tallies-plan before.tallies.items (planned_in (draft_of before)) planned low (omega (arith, high, is.tallies)) were i (omega (arith, here, kept)));
    }
