-- A call line goes on with a script.
use Rattle.std.proofs.Common.{◌≡◌, ℕ, ◌+◌, ◌<◌, ◌≤◌, Bool, true, false, not, cond, eqb, leb, ◌&&◌, List, [], ◌∷◌, ◌++◌, length, map, Option, Some, None, is_some, is_none, Result, Ok, Err, refl, sym, subst, ◌∙◌, length-append, arith}
use Rattle.std.proofs.lemmas.Bool.{or_parts, and_parts, leb-false, not-false}
use Rattle.std.specs.List.{AllByRecursion}
use Rattle.std.specs.Option.{IfSome, IsSome, option_to_list, option_map}
use Rattle.std.proofs.lemmas.Bool.Decides.{nat_tests}
use Rattle.sid_core.specs.declared.call.Call.{Call}
use Rattle.sid_core.specs.declared.call.Call.TheVariants.{Reconnect}
use Rattle.sid_core.specs.declared.outside.Point.{Point}
use Rattle.sid_core.specs.declared.words.CallWord.{CallWord}
use Rattle.sid_core.specs.declared.words.CallWord.TheVariants as word
use Rattle.sid_core.specs.declared.limits.TheConstants.{MAX_CALLS, MAX_STATUS_CALLS}
use Rattle.sid_core.specs.Call.{IsCall}
use Rattle.sid_core.specs.Counting.{CountsFrom}
use Rattle.sid_core.specs.Setup.{IsDeclared}
use Rattle.sid_core.specs.Values.{IsU32, IsU64, IsState}
use Rattle.sid_core.specs.Words.{read_word, read_state, read_lock_mode, read_glock_mode}
use Rattle.worker_script.specs.declared.script.Planned.{Planned}
use Rattle.worker_script.specs.declared.script.Phase.{Phase}
use Rattle.worker_script.specs.declared.reason.Reason.{Reason}
use Rattle.worker_script.specs.Text.{token}
use Rattle.worker_script.specs.Values.{value, is_u32, is_u64}
use Rattle.worker_script.specs.Words.{wait_of, on_of}
use Rattle.worker_script.specs.Options.{asked_in, flags_in}
use Rattle.worker_script.specs.Script.{numbers_of, is_status_call, statuses_in, DiesLast, IsInScripts, IsStopInScripts, IsPlanned, IsPhase}
use Rattle.worker_script.specs.Lines.{Draft, script_of, planned_in, judged, is_declared, with_planned, next_number}
use Rattle.worker_script.specs.Calls.{has_stopped, call_length, planned_stop, is_status, wrong_number, names_no_worker, call_of, head_faults, head_fault, open_faults, open_fault, stop_faults, stop_fault, known, head, spelled, tail, call_behind, call_in, after_call, open_with, both, planned_call, with_call, call_line}
use Rattle.worker_script.proofs.Faults.{none-there}
use Rattle.worker_script.proofs.Lists.{all-push, all-last, map-push, counts-push}
use Rattle.worker_script.proofs.Facts.{access-known, share-known}
use Rattle.worker_script.proofs.Counts.{all_calls-push, planned-more, numbers-push, numbers-others, numbers-few, dies-push, dies-others}
use Rattle.worker_script.proofs.Tallies.{statuses-push}
use Rattle.worker_script.proofs.SoundOperands.{u32-known, u64-known, span-known, state-known, IsAsked, asked-known, AreFlags, flags-known, tables-known, planned_stop-known}
use Rattle.worker_script.proofs.Sound.{IsDraft}

pub record IsCallLine (draft : Draft) (worker : ℕ) (call : Call) (stop : Option Point) : Type 0 where
  pub room : length (planned_in draft) < MAX_CALLS
  pub phase : is_none draft.current ≡ false
  pub declared : IsDeclared draft.workers worker
  pub alive : has_stopped worker (planned_in draft) ≡ false
  pub is_call : IsCall (script_of draft).setup call
  pub in_scripts : IsInScripts call
  pub statuses : statuses_in (planned_in draft) + cond (is_status_call call) 1 0 ≤ MAX_STATUS_CALLS
  pub is_stop : IsStopInScripts stop

last-phase : (draft : Draft) (worker : ℕ) (call : Call) (stop : Option Point) (phase : Phase) → IsDraft draft → IsCallLine draft worker call stop
    → IsPhase (script_of draft).setup phase → IsPhase (script_of draft).setup (record phase { calls = phase.calls ++ planned_call draft worker call stop ∷ [] })
last-phase draft worker call stop phase d line is =
    let few = numbers-few worker (planned_in draft) in
    record {
      moment = is.moment;
      calls = all-push (IsPlanned (script_of draft).setup) phase.calls (planned_call draft worker call stop) is.calls
          (record {
            worker = line.declared;
            number = (omega arith, omega (arith, line.room));
            call = line.is_call;
            in_scripts = line.in_scripts;
            stop = line.is_stop;
          });
    }

phases-step : (draft : Draft) (worker : ℕ) (call : Call) (stop : Option Point) (current : Option Phase) → IsDraft draft → IsCallLine draft worker call stop → is_none current ≡ false
    → AllByRecursion (IsPhase (script_of draft).setup) (draft.phases ++ option_to_list current)
    → AllByRecursion (IsPhase (script_of draft).setup) (draft.phases ++ option_to_list (with_planned current (planned_call draft worker call stop)))
phases-step draft worker call stop None d line some all = cc
phases-step draft worker call stop (Some phase) d line some all =
    let parts = all-last (IsPhase (script_of draft).setup) draft.phases phase all in
    all-push (IsPhase (script_of draft).setup) draft.phases (record phase { calls = phase.calls ++ planned_call draft worker call stop ∷ [] }) parts.0
    (last-phase draft worker call stop phase d line parts.1)

moments-step : (phases : List Phase) (current : Option Phase) (planned : Planned)
    → map (λ (p : Phase). p.moment.0) (phases ++ option_to_list (with_planned current planned)) ≡ map (λ (p : Phase). p.moment.0) (phases ++ option_to_list current)
moments-step phases None planned = refl
moments-step phases (Some phase) planned =
    map-push (λ (p : Phase). p.moment.0) phases (record phase { calls = phase.calls ++ planned ∷ [] })
    ∙ sym (map-push (λ (p : Phase). p.moment.0) phases phase)

length-step : (phases : List Phase) (current : Option Phase) (planned : Planned)
    → length (phases ++ option_to_list (with_planned current planned)) ≡ length (phases ++ option_to_list current)
length-step phases None planned = refl
length-step phases (Some phase) planned = simp length-append

is-some : (current : Option Phase) → is_none current ≡ false → IsSome current
is-some None e = cc
is-some (Some phase) e = refl

still-some : (current : Option Phase) (planned : Planned) → is_none current ≡ false → is_some (with_planned current planned) ≡ false → ⊥
still-some None planned e h = cc
still-some (Some phase) planned e h = cc

numbered-step : (draft : Draft) (worker : ℕ) (call : Call) (stop : Option Point) (w : ℕ) (own : Bool) → eqb worker w ≡ own → IsSome draft.current
    → CountsFrom 1 (numbers_of w (planned_in draft)) → CountsFrom 1 (numbers_of w (planned_in (with_call draft worker call stop)))
numbered-step draft worker call stop w true e some counts =
    let same : worker ≡ w = grind (arith, nat_tests) in
    rw (numbers-push w draft.phases draft.current (planned_call draft worker call stop) some same)
    (counts-push 1 (numbers_of w (planned_in draft)) (next_number draft worker) counts (rw same (omega arith)))
numbered-step draft worker call stop w false e some counts =
    rw (numbers-others w draft.phases draft.current (planned_call draft worker call stop) some e) counts

stopped-step : (draft : Draft) (worker : ℕ) (call : Call) (stop : Option Point) (w : ℕ) (own : Bool) → eqb worker w ≡ own → IsSome draft.current
    → has_stopped worker (planned_in draft) ≡ false → DiesLast w (planned_in draft) → DiesLast w (planned_in (with_call draft worker call stop))
stopped-step draft worker call stop w true e some alive last =
    let same : worker ≡ w = grind (arith, nat_tests) in
    rw (all_calls-push draft.phases draft.current (planned_call draft worker call stop) some)
    (dies-push w (planned_in draft) (planned_call draft worker call stop) (subst (λ v. has_stopped v (planned_in draft) ≡ false) same alive))
stopped-step draft worker call stop w false e some alive last =
    rw (all_calls-push draft.phases draft.current (planned_call draft worker call stop) some)
    (dies-others w (planned_in draft) (planned_call draft worker call stop) e last)

call-sound : (draft : Draft) (worker : ℕ) (call : Call) (stop : Option Point) → IsDraft draft → IsCallLine draft worker call stop → IsDraft (with_call draft worker call stop)
call-sound draft worker call stop d line =
    let planned = planned_call draft worker call stop in
    let some = is-some draft.current line.phase in
    record {
      script = record {
        setup = d.script.setup;
        few_phases = rw (length-step draft.phases draft.current planned) d.script.few_phases;
        few_calls = rw (planned-more draft.phases draft.current planned some) (omega (arith, line.room));
        few_statuses = rw (all_calls-push draft.phases draft.current planned some, statuses-push (planned_in draft) planned) line.statuses;
        phases = phases-step draft worker call stop draft.current d line line.phase d.script.phases;
        moments = rw (moments-step draft.phases draft.current planned) d.script.moments;
        numbered = λ w. numbered-step draft worker call stop w (eqb worker w) refl some (d.script.numbered w);
        stopped = λ w. stopped-step draft worker call stop w (eqb worker w) refl some line.alive (d.script.stopped w);
      };
      begun = λ none. absurd (still-some draft.current planned line.phase none);
    }

is-declared : {X : Type 0} (xs : List X) (number : ℕ) → not (is_declared xs number) ≡ false → IsDeclared xs number
is-declared xs number e =
    let both = and_parts (leb 1 number) (leb number (length xs)) (not-false (is_declared xs number) e) in
    let low = both.0 in let high = both.1 in
    (grind (arith, nat_tests), grind (arith, nat_tests))

-- Where there is an answer, there is no fault.
judged-ok : {X : Type 0} (fault : Option Reason) (answer : Result X Reason) (x : X) → judged fault answer ≡ Ok x → (fault ≡ None) × (answer ≡ Ok x)
judged-ok None answer x e = (refl, e)
judged-ok (Some reason) answer x e = cc

known-ok : (w : Option CallWord) (x : CallWord) → known w ≡ Ok x → w ≡ Some x
known-ok None x e = cc
known-ok (Some w) x e = cc

spelled-ok : (draft : Draft) (ts : List (List ℕ)) (o : Option Call) (call : Call) → spelled draft ts o ≡ Ok call → (o ≡ Some call) × (stop_fault draft ts ≡ None)
spelled-ok draft ts None call e = cc
spelled-ok draft ts (Some other) call e = let is = judged-ok (stop_fault draft ts) (Ok other) call e in let same = is.1 in (cc, is.0)

-- Where no stop makes the line bad, its worker hasn't had its stop.
alive-line : (draft : Draft) (ts : List (List ℕ)) → stop_fault draft ts ≡ None → has_stopped (value (token 0 ts)) (planned_in draft) ≡ false
unfolding stop_fault
alive-line draft ts e = (none-there (stop_faults draft ts) e).0

word-ok : (draft : Draft) (count : ℕ) (ts : List (List ℕ)) (w : Result CallWord Reason) (call : Call) → call_behind draft count ts w ≡ Ok call → (x : CallWord) × (w ≡ Ok x) × (tail draft count ts x ≡ Ok call)
word-ok draft count ts (Ok w) call e = (w, refl, e)
word-ok draft count ts (Err reason) call e = cc

call-ok : (draft after : Draft) (ts : List (List ℕ)) (c : Result Call Reason) → after_call draft ts c ≡ Ok after
    → (call : Call) × (c ≡ Ok call) × (with_call draft (value (token 0 ts)) call (planned_stop ts) ≡ after)
call-ok draft after ts (Ok call) e = (call, refl, cc)
call-ok draft after ts (Err reason) e = cc

pub record IsHead (draft : Draft) (w : Option CallWord) (ts : List (List ℕ)) : Type 0 where
  pub numbers : wrong_number w ts ≡ false
  pub room : length (planned_in draft) < MAX_CALLS
  pub statuses : (is_status w && leb MAX_STATUS_CALLS (statuses_in (planned_in draft))) ≡ false
  pub phase : is_none draft.current ≡ false
  pub declared : IsDeclared draft.workers (value (token 0 ts))
  pub named : names_no_worker w draft ts ≡ false

head-line : (draft : Draft) (w : Option CallWord) (count : ℕ) (ts : List (List ℕ)) → head_fault draft w count ts ≡ None → IsHead draft w ts
unfolding head_fault
head-line draft w count ts e =
    let f = none-there (head_faults draft w count ts) e in
    let numbers = or_parts (not (is_u32 (token 0 ts))) (wrong_number w ts) f.1.0 in
    let workers = or_parts (not (is_declared draft.workers (value (token 0 ts)))) (names_no_worker w draft ts) f.1.1.1.1.1.0 in
    record {
      numbers = numbers.1;
      room = leb-false MAX_CALLS (length (planned_in draft)) f.1.1.0;
      statuses = f.1.1.1.0;
      phase = f.1.1.1.1.0;
      declared = is-declared draft.workers (value (token 0 ts)) workers.0;
      named = workers.1;
    }

-- There is room for one `status` call more, where it is one.
room-left : (status : Bool) (made : ℕ) → made ≤ MAX_STATUS_CALLS → (status && leb MAX_STATUS_CALLS made) ≡ false → made + cond status 1 0 ≤ MAX_STATUS_CALLS
room-left true made few e = omega (arith, leb-false MAX_STATUS_CALLS made e)
room-left false made few e = omega (arith, few)

-- ---- the call of a line with each word

-- what a call that a line with this word spells owes
record IsSpelled (draft : Draft) (w : CallWord) (call : Call) : Type 0 where
  is_call : IsCall (script_of draft).setup call
  in_scripts : IsInScripts call
  status : is_status_call call ≡ is_status (Some w)

mapped : {A : Type 0} (P : Call → Type 0) (Q : A → Type 0) (f : A → Call) (o : Option A) → IfSome o Q → ((a : A) → Q a → P (f a)) → IfSome (option_map f o) P
mapped P Q f None all each = tt
mapped P Q f (Some a) all each = each a all

always : {A : Type 0} (P : Call → Type 0) (f : A → Call) (o : Option A) → ((a : A) → P (f a)) → IfSome (option_map f o) P
always P f None each = tt
always P f (Some a) each = each a

both-mapped : {A B : Type 0} (P : Call → Type 0) (f : A → B → Call) (a : Option A) (b : Option B) → ((x : A) (y : B) → P (f x y)) → IfSome (both f a b) P
both-mapped P f None b each = tt
both-mapped P f (Some x) None each = tt
both-mapped P f (Some x) (Some y) each = each x y

number32 : (t : List ℕ) → not (is_u32 t) ≡ false → IsU32 (value t)
number32 t e = u32-known t (not-false (is_u32 t) e)

number64 : (t : List ℕ) → not (is_u64 t) ≡ false → IsU64 (value t)
number64 t e = u64-known t (not-false (is_u64 t) e)

open-spelled : (draft : Draft) (count : ℕ) (ts : List (List ℕ)) → open_fault draft word.Open ts ≡ None
    → IfSome (option_map (open_with (value (token 2 ts)) ts) (asked_in count ts)) (IsSpelled draft word.Open)
unfolding open_fault
open-spelled draft count ts e =
    let f = none-there (open_faults draft (value (token 2 ts)) ts) e in
    mapped (IsSpelled draft word.Open) IsAsked (open_with (value (token 2 ts)) ts) (asked_in count ts) (asked-known count ts) (λ asked is. record {
      is_call = (is-declared draft.files (value (token 2 ts)) f.0, access-known (token 3 ts) f.1.0, share-known (token 4 ts) f.1.1.0, is.0, is.1);
      in_scripts = tt;
      status = refl;
    })

reconnect-spelled : (draft : Draft) (ts : List (List ℕ)) → wrong_number (Some word.Reconnect) ts ≡ false → names_no_worker (Some word.Reconnect) draft ts ≡ false
    → IsSpelled draft word.Reconnect (Reconnect (value (token 2 ts)) (value (token 3 ts)) (value (token 4 ts)))
reconnect-spelled draft ts numbers named =
    let all = and_parts (is_u32 (token 2 ts) && is_u32 (token 3 ts)) (is_u64 (token 4 ts)) (not-false _ numbers) in
    let front = and_parts (is_u32 (token 2 ts)) (is_u32 (token 3 ts)) all.0 in
    record {
      is_call = (is-declared draft.workers (value (token 2 ts)) named, u32-known (token 3 ts) front.1, u64-known (token 4 ts) all.1);
      in_scripts = tt;
      status = refl;
    }

call-spelled : (draft : Draft) (w : CallWord) (count : ℕ) (ts : List (List ℕ)) → wrong_number (Some w) ts ≡ false → names_no_worker (Some w) draft ts ≡ false
    → open_fault draft w ts ≡ None → IfSome (call_of w count ts) (IsSpelled draft w)
unfolding call_of
call-spelled draft word.Open count ts numbers named e = open-spelled draft count ts e
call-spelled draft word.Close count ts numbers named e = record { is_call = number32 (token 2 ts) numbers; in_scripts = tt; status = refl }
call-spelled draft word.Delete count ts numbers named e =
    always (IsSpelled draft word.Delete) _ (on_of (token 3 ts)) (λ on. record { is_call = number32 (token 2 ts) numbers; in_scripts = tt; status = refl })
call-spelled draft word.Ack count ts numbers named e =
    mapped (IsSpelled draft word.Ack) (λ state. IsState state.0) _ (read_state (token 3 ts)) (state-known (token 3 ts)) (λ state is.
    record { is_call = (number64 (token 2 ts) numbers, is); in_scripts = tt; status = refl })
call-spelled draft word.Lock count ts numbers named e =
    both-mapped (IsSpelled draft word.Lock) _ (read_lock_mode (token 5 ts)) (wait_of (token 6 ts)) (λ mode wait.
    record { is_call = span-known ts (not-false _ numbers); in_scripts = tt; status = refl })
call-spelled draft word.Unlock count ts numbers named e = record { is_call = span-known ts (not-false _ numbers); in_scripts = tt; status = refl }
call-spelled draft word.Read count ts numbers named e = record { is_call = span-known ts (not-false _ numbers); in_scripts = tt; status = refl }
call-spelled draft word.Write count ts numbers named e = record { is_call = span-known ts (not-false _ numbers); in_scripts = tt; status = refl }
call-spelled draft word.GLock count ts numbers named e =
    both-mapped (IsSpelled draft word.GLock) _ (read_glock_mode (token 3 ts)) (wait_of (token 4 ts)) (λ mode wait.
    record { is_call = number64 (token 2 ts) numbers; in_scripts = tt; status = refl })
call-spelled draft word.GUnlock count ts numbers named e = record { is_call = number64 (token 2 ts) numbers; in_scripts = tt; status = refl }
call-spelled draft word.Recv count ts numbers named e = record { is_call = tt; in_scripts = tt; status = refl }
call-spelled draft word.Disconnect count ts numbers named e = record { is_call = tt; in_scripts = tt; status = refl }
call-spelled draft word.Reconnect count ts numbers named e = reconnect-spelled draft ts numbers named
call-spelled draft word.Scavenge count ts numbers named e = record { is_call = tt; in_scripts = tt; status = refl }
call-spelled draft word.Tidy count ts numbers named e = record { is_call = tt; in_scripts = tt; status = refl }
call-spelled draft word.Status count ts numbers named e =
    mapped (IsSpelled draft word.Status) AreFlags _ (flags_in count ts) (flags-known count ts) (λ flags are.
    record { is_call = tt; in_scripts = tables-known flags are; status = refl })

-- A call line goes on with a script.
pub call-line-sound : (draft after : Draft) (ts : List (List ℕ)) → IsDraft draft → call_line draft ts ≡ Ok after → IsDraft after
unfolding call_line call_in
call-line-sound draft after ts d e =
    let count = call_length ts in
    let found = call-ok draft after ts (call_behind draft count ts (head draft (read_word (token 1 ts)) count ts)) e in
    let behind = word-ok draft count ts (head draft (read_word (token 1 ts)) count ts) found.0 found.1 in
    let headed = judged-ok (head_fault draft (read_word (token 1 ts)) count ts) (known (read_word (token 1 ts))) behind.0 behind.1 in
    let is_word = known-ok (read_word (token 1 ts)) behind.0 headed.1 in
    let tailed = judged-ok (open_fault draft behind.0 ts) (spelled draft ts (call_of behind.0 count ts)) found.0 behind.2 in
    let is = spelled-ok draft ts (call_of behind.0 count ts) found.0 tailed.1 in
    let above : IsHead draft (Some behind.0) ts = subst (λ w. IsHead draft w ts) is_word (head-line draft (read_word (token 1 ts)) count ts headed.0) in
    let call : IsSpelled draft behind.0 found.0 =
    subst (λ o. IfSome o (IsSpelled draft behind.0)) is.0 (call-spelled draft behind.0 count ts above.numbers above.named tailed.0) in
    let good : IsDraft (with_call draft (value (token 0 ts)) found.0 (planned_stop ts)) =
    call-sound draft (value (token 0 ts)) found.0 (planned_stop ts) d (record {
      room = above.room;
      phase = above.phase;
      declared = above.declared;
      alive = alive-line draft ts is.1;
      is_call = call.is_call;
      in_scripts = call.in_scripts;
      statuses = rw call.status (room-left (is_status (Some behind.0)) (statuses_in (planned_in draft)) d.script.few_statuses above.statuses);
      is_stop = planned_stop-known ts;
    }) in
    subst IsDraft found.2 good
