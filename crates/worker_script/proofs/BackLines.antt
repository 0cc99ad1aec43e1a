-- A line that is written, where it may stand, is read back.
use Rattle.std.proofs.Common.{◌≡◌, ℕ, ◌+◌, ◌-◌, ◌<◌, ◌≤◌, ◌^◌, Bool, true, false, not, eqb, leb, ◌&&◌, ◌||◌, List, [], ◌∷◌, ◌++◌, length, Some, None, is_none, Ok, refl, ap, ◌∙◌, arith}
use Rattle.std.specs.Prelude.{codes}
use Rattle.std.specs.Fmt.{decimal}
use Rattle.std.specs.List.{AllByRecursion, list_all, list_any}
use Rattle.std.specs.Str.{bytes_eq}
use Rattle.std.proofs.lemmas.Bool.{and_parts, and_from, le-leb, eq-eqb, lt-leb, le-ltb, not_from_true}
use Rattle.std.proofs.lemmas.Bool.Decides.{nat_tests}
use Rattle.std.proofs.lemmas.Fmt.{decimal_nonempty}
use Rattle.sid_core.specs.declared.call.Call.{Call}
use Rattle.sid_core.specs.declared.call.Call.TheVariants.{OpenFile, Close, Delete, Ack, Lock, Unlock, Read, Write, GLock, GUnlock, Recv, Disconnect, Reconnect, Scavenge, Tidy, Status}
use Rattle.sid_core.specs.declared.limits.TheConstants.{MAX_CALLS, MAX_STATUS_CALLS, MAX_PHASES, MAX_WORKERS, MAX_FILES, MAX_MOMENT, MAX_TEXT}
use Rattle.sid_core.specs.declared.setup.FileInfo.{FileInfo}
use Rattle.sid_core.specs.declared.setup.Setup.{Setup}
use Rattle.sid_core.specs.declared.setup.WorkerInfo.{WorkerInfo}
use Rattle.sid_core.specs.Setup.{IsSetup, IsWorker, IsFile, same_file}
use Rattle.sid_core.specs.Values.{IsU32, IsU64, IsMoment, IsText, IsPrintable}
use Rattle.sid_core.specs.Words.{word_of, word_text}
use Rattle.worker_script.specs.declared.script.Phase.{Phase}
use Rattle.worker_script.specs.declared.script.Planned.{Planned}
use Rattle.worker_script.specs.Text.{token, is_empty}
use Rattle.worker_script.specs.Values.{is_digit, is_short}
use Rattle.worker_script.specs.Script.{numbers_of, is_status_call, statuses_in, IsPlanned}
use Rattle.worker_script.specs.Lines.{Draft, script_of, phases_of, moment_of, planned_in, new_phase, worker_faults, worker_fault, worker_line, worker_info, file_faults, file_fault, file_line, file_info, phase_faults, phase_fault, phase_line}
use Rattle.worker_script.specs.Reading.{word_line, read_line}
use Rattle.worker_script.specs.Calls.{is_status, has_stopped, head_faults, head_fault, stop_faults, stop_fault, with_call, call_in, call_line}
use Rattle.worker_script.specs.Spelling.{if_chosen, operands, stop_tokens, call_front, call_tokens, worker_tokens, file_tokens, phase_tokens, line_text}
use Rattle.worker_script.proofs.Faults.{none-told}
use Rattle.worker_script.proofs.BackText.{is_printable, is_token, line-back}
use Rattle.worker_script.proofs.BackNumbers.{digits-back, value-back, value32-back, u32-back, u64-back, number-back}
use Rattle.worker_script.proofs.BackCalls.{IsBack, call-back, declared-back, declared32}
use Rattle.worker_script.proofs.BackTokens.{number-token, number32-token, front-operands, IsStopped, stopped-back}

-- ---- a call line

-- A line that begins with digits alone is a call line.
digits-line : (draft : Draft) (t : List ℕ) (ts : List (List ℕ)) → 0 < length t → list_all is_digit t ≡ true → word_line draft (t ∷ ts) ≡ call_line draft (t ∷ ts)
unfolding word_line
digits-line draft [] ts some e = absurd (omega arith)
digits-line draft (b ∷ t) ts some e =
    let both = and_parts (is_digit b) (list_all is_digit t) e in
    let range = and_parts (leb 48 b) (leb b 57) both.0 in
    let low = range.0 in
    let high = range.1 in
    let hash : eqb b 35 ≡ false = grind (arith, nat_tests) in
    let w : eqb b 119 ≡ false = grind (arith, nat_tests) in
    let f : eqb b 102 ≡ false = grind (arith, nat_tests) in
    let p : eqb b 112 ≡ false = grind (arith, nat_tests) in
    rw (hash, w, f, p, both.0, both.1) refl

-- what a planned call owes where it stands
pub record IsNext (setup : Setup) (before : List Planned) (planned : Planned) : Type 0 where
  pub is_planned : IsPlanned setup planned
  pub number : planned.number ≡ length (numbers_of planned.worker before) + 1
  pub room : length before < MAX_CALLS
  pub statuses : is_status_call planned.call ≡ true → statuses_in before < MAX_STATUS_CALLS
  pub alive : has_stopped planned.worker before ≡ false

abbrev pub AreNext : Setup → List Planned → List Planned → Type 0
AreNext setup before [] = Unit {0}
AreNext setup before (planned ∷ calls) = IsNext setup before planned × AreNext setup (before ++ planned ∷ []) calls

status-word : (call : Call) → is_status (Some (word_of call)) ≡ is_status_call call
status-word (OpenFile file access share lease durable overwrite delete) = refl
status-word (Close handle) = refl
status-word (Delete handle on) = refl
status-word (Ack key state) = refl
status-word (Lock handle span mode wait) = refl
status-word (Unlock handle span) = refl
status-word (Read handle span) = refl
status-word (Write handle span) = refl
status-word (GLock key mode wait) = refl
status-word (GUnlock key) = refl
status-word Recv = refl
status-word Disconnect = refl
status-word (Reconnect worker call key) = refl
status-word Scavenge = refl
status-word Tidy = refl
status-word (Status tables) = refl

few-statuses : (is : Bool) (n : ℕ) → (is ≡ true → n < MAX_STATUS_CALLS) → (is && leb MAX_STATUS_CALLS n) ≡ false
few-statuses true n few = lt-leb MAX_STATUS_CALLS n (few refl)
few-statuses false n few = refl

head-none : (draft : Draft) (planned : Planned) (rest : List (List ℕ)) → IsU32 planned.worker → is_none draft.current ≡ false → IsNext (script_of draft).setup (planned_in draft) planned
    → IsBack draft planned.worker planned.call rest
    → head_fault draft (Some (word_of planned.call)) (length (call_front planned.worker planned.call)) (call_front planned.worker planned.call ++ rest) ≡ None
unfolding head_fault
head-none draft planned rest fits phase next back =
    none-told (head_faults draft (Some (word_of planned.call)) (length (call_front planned.worker planned.call)) (call_front planned.worker planned.call ++ rest)) (
      not_from_true _ back.counted,
      (
        rw (u32-back planned.worker fits, back.numbers) refl,
        (
          lt-leb MAX_CALLS (length (planned_in draft)) next.room,
          (
            rw (status-word planned.call) (few-statuses (is_status_call planned.call) (statuses_in (planned_in draft)) next.statuses),
            (phase, (rw (value32-back planned.worker fits, declared-back draft.workers planned.worker next.is_planned.worker, back.named) refl, tt)),
          ),
        ),
      ),
    )

stop-none : (draft : Draft) (planned : Planned) → IsU32 planned.worker → IsNext (script_of draft).setup (planned_in draft) planned
    → IsStopped (call_front planned.worker planned.call) planned.stop → stop_fault draft (call_tokens planned) ≡ None
unfolding stop_fault
stop-none draft planned fits next stopped =
    none-told (stop_faults draft (call_tokens planned)) (rw (value32-back planned.worker fits) next.alive, (stopped.known, tt))

call-line : (draft : Draft) (planned : Planned) → IsU32 planned.worker → is_none draft.current ≡ false → IsNext (script_of draft).setup (planned_in draft) planned
    → IsBack draft planned.worker planned.call (stop_tokens planned.stop) → IsStopped (call_front planned.worker planned.call) planned.stop
    → call_line draft (call_tokens planned) ≡ Ok (with_call draft planned.worker planned.call planned.stop)
unfolding call_line call_in
call-line draft planned fits phase next back stopped =
    rw (
      stopped.counted,
      back.word,
      head-none draft planned (stop_tokens planned.stop) fits phase next back,
      back.opens,
      back.spelled,
      stop-none draft planned fits next stopped,
      stopped.planned,
      value32-back planned.worker fits,
    ) refl

-- A line of a call that may stand there is read back.
pub call-read : (draft : Draft) (planned : Planned) → IsSetup (script_of draft).setup → is_none draft.current ≡ false
    → IsNext (script_of draft).setup (planned_in draft) planned
    → read_line draft (line_text (call_tokens planned)) ≡ Ok (with_call draft planned.worker planned.call planned.stop)
call-read draft planned setup phase next =
    let fits = declared32 draft.workers planned.worker next.is_planned.worker (omega (arith, setup.few_workers)) in
    let wide : IsU64 planned.worker = omega (arith, fits) in
    let back = call-back draft planned.worker planned.call (stop_tokens planned.stop) setup next.is_planned.call next.is_planned.in_scripts in
    let operands' = front-operands draft planned.worker planned.call fits setup next.is_planned.call next.is_planned.in_scripts in
    let stopped = stopped-back (call_front planned.worker planned.call) planned.stop (omega arith) operands' next.is_planned.stop in
    let others = word_text (word_of planned.call) ∷ (operands planned.call ++ stop_tokens planned.stop) in
    line-back draft (with_call draft planned.worker planned.call planned.stop) (decimal planned.worker) others stopped.are_tokens
    (digits-line draft (decimal planned.worker) others (decimal_nonempty planned.worker wide) (digits-back planned.worker wide)
    ∙ call-line draft planned fits phase next back stopped)

-- ---- a phase line

phase-none : (draft : Draft) (phase : Phase) → IsMoment phase.moment.0 → length (phases_of draft) < MAX_PHASES → moment_of draft.current ≤ phase.moment.0
    → phase_fault draft (phase_tokens phase) ≡ None
unfolding phase_fault
phase-none draft phase is room later =
    let m = phase.moment.0 in
    let wide : IsU64 m = omega (arith, is) in
    none-told (phase_faults draft (phase_tokens phase)) (
      refl,
      (
        rw (number-back 0 MAX_MOMENT m (omega arith) is wide) refl,
        (
          lt-leb MAX_PHASES (length (phases_of draft)) room,
          (rw (value-back m wide) (le-ltb m (moment_of draft.current) later), tt),
        ),
      ),
    )

phase-is-tokens : (phase : Phase) → IsMoment phase.moment.0 → list_all is_token (phase_tokens phase) ≡ true
phase-is-tokens phase is = rw (number-token phase.moment.0 (omega (arith, is))) refl

pub phase-read : (draft : Draft) (phase : Phase) → IsMoment phase.moment.0 → length (phases_of draft) < MAX_PHASES → moment_of draft.current ≤ phase.moment.0
    → read_line draft (line_text (phase_tokens phase)) ≡ Ok (record draft { phases = phases_of draft; current = Some (new_phase phase.moment.0) })
unfolding word_line phase_line
phase-read draft phase is room later =
    let wide : IsU64 phase.moment.0 = omega (arith, is) in
    line-back draft (record draft { phases = phases_of draft; current = Some (new_phase phase.moment.0) }) (codes "phase") (decimal phase.moment.0 ∷ [])
    (phase-is-tokens phase is)
    (rw (phase-none draft phase is room later, value-back phase.moment.0 wide) refl)

-- ---- a worker and a file line

abbrev pub declaring : List WorkerInfo → List FileInfo → Draft
declaring workers files = record { workers = workers; files = files; phases = []; current = None }

text-token : (t : List ℕ) → IsText t → is_token t ≡ true
text-token t is = and_from (not (is_empty t)) (list_all is_printable t) (some t is.some) (printable t is.printable)
  where
    some : (t : List ℕ) → 1 ≤ length t → not (is_empty t) ≡ true
    some [] few = absurd (omega arith)
    some (b ∷ t) few = refl

    printable : (t : List ℕ) → AllByRecursion IsPrintable t → list_all is_printable t ≡ true
    printable [] all = refl
    printable (b ∷ t) all =
        let low = le-leb 0x21 b all.0.0 in
        let high = le-leb b 0x7E all.0.1 in
        and_from (is_printable b) (list_all is_printable t) (and_from (leb 0x21 b) (leb b 0x7E) low high) (printable t all.1)

text-short : (t : List ℕ) → IsText t → is_short t ≡ true
text-short t is = le-leb (length t) MAX_TEXT is.short

-- the last word of a worker line, behind seven others
module _ (a b c d e f g : List ℕ) where
  old-length : (old : Bool) → let ts = a ∷ b ∷ c ∷ d ∷ e ∷ f ∷ g ∷ if_chosen old (codes "old") in (eqb (length ts) 7 || eqb (length ts) 8) ≡ true
  old-length false = refl
  old-length true = refl

  old-known : (old : Bool) → let ts = a ∷ b ∷ c ∷ d ∷ e ∷ f ∷ g ∷ if_chosen old (codes "old") in (eqb (length ts) 8 && not (bytes_eq (token 7 ts) (codes "old"))) ≡ false
  old-known false = refl
  old-known true = refl

  old-back : (old : Bool) → eqb (length (a ∷ b ∷ c ∷ d ∷ e ∷ f ∷ g ∷ if_chosen old (codes "old"))) 8 ≡ old
  old-back false = refl
  old-back true = refl

old-token : (old : Bool) → list_all is_token (if_chosen old (codes "old")) ≡ true
old-token false = refl
old-token true = refl

worker-none : (done : List WorkerInfo) (files : List FileInfo) (worker : WorkerInfo) (number : ℕ) → IsWorker worker → IsU32 number → number ≡ length done + 1
    → length done < MAX_WORKERS → list_any (λ other. eqb other.pid worker.pid) done ≡ false → worker_fault (declaring done files) (worker_tokens number worker) ≡ None
unfolding worker_fault
worker-none done files worker number is fits next room other =
    let pid = number-back 1 (2 ^ 32 - 1) worker.pid is.pid.0 (omega (arith, is.pid.1)) (omega (arith, is.pid.1)) in
    none-told (worker_faults (declaring done files) (worker_tokens number worker)) (
      not_from_true _ (old-length (codes "worker") (decimal number) (decimal worker.pid) (decimal worker.uid) (decimal worker.guid) worker.machine worker.share worker.old),
      (
        rw (u32-back number fits, pid, u32-back worker.uid is.uid, u64-back worker.guid is.guid) refl,
        (
          refl,
          (
            rw (value32-back number fits, eq-eqb number (length done + 1) next) refl,
            (
              lt-leb MAX_WORKERS (length done) room,
              (rw (value32-back worker.pid is.pid.1) other, (rw (text-short worker.machine is.machine, text-short worker.share is.share) refl, (old-known (codes "worker") (decimal number) (decimal worker.pid) (decimal worker.uid) (decimal worker.guid) worker.machine worker.share worker.old, tt))),
            ),
          ),
        ),
      ),
    )

worker-same : (worker : WorkerInfo) (number : ℕ) → IsWorker worker → worker_info (worker_tokens number worker) ≡ worker
worker-same worker number is = λ i. record worker {
  pid = value32-back worker.pid is.pid.1 i;
  uid = value32-back worker.uid is.uid i;
  guid = value-back worker.guid is.guid i;
  old = old-back (codes "worker") (decimal number) (decimal worker.pid) (decimal worker.uid) (decimal worker.guid) worker.machine worker.share worker.old i;
}

worker-is-tokens : (worker : WorkerInfo) (number : ℕ) → IsWorker worker → IsU32 number → list_all is_token (worker_tokens number worker) ≡ true
worker-is-tokens worker number is fits = rw (
  number32-token number fits,
  number32-token worker.pid is.pid.1,
  number32-token worker.uid is.uid,
  number-token worker.guid is.guid,
  text-token worker.machine is.machine,
  text-token worker.share is.share,
) (old-token worker.old)

pub worker-read : (done : List WorkerInfo) (files : List FileInfo) (worker : WorkerInfo) (number : ℕ) → IsWorker worker → number ≡ length done + 1
    → length done < MAX_WORKERS → list_any (λ other. eqb other.pid worker.pid) done ≡ false
    → read_line (declaring done files) (line_text (worker_tokens number worker)) ≡ Ok (declaring (done ++ worker ∷ []) files)
unfolding word_line worker_line
worker-read done files worker number is next room other =
    let fits : IsU32 number = omega (arith, next, room) in
    let numbers = decimal number ∷ decimal worker.pid ∷ decimal worker.uid ∷ decimal worker.guid ∷ worker.machine ∷ worker.share ∷ if_chosen worker.old (codes "old") in
    line-back (declaring done files) (declaring (done ++ worker ∷ []) files) (codes "worker") numbers
    (worker-is-tokens worker number is fits)
    (rw (worker-none done files worker number is fits next room other) (ap (λ w. Ok (declaring (done ++ w ∷ []) files)) (worker-same worker number is)))

file-none : (workers : List WorkerInfo) (done : List FileInfo) (file : FileInfo) (number : ℕ) → IsFile file → IsU32 number → number ≡ length done + 1
    → length done < MAX_FILES → list_any (λ other. same_file other file) done ≡ false → file_fault (declaring workers done) (file_tokens number file) ≡ None
unfolding file_fault
file-none workers done file number is fits next room other =
    none-told (file_faults (declaring workers done) (file_tokens number file)) (
      refl,
      (
        rw (u32-back number fits, u64-back file.dev is.dev, u64-back file.inode is.inode) refl,
        (
          refl,
          (
            rw (value32-back number fits, eq-eqb number (length done + 1) next) refl,
            (
              lt-leb MAX_FILES (length done) room,
              (rw (value-back file.dev is.dev, value-back file.inode is.inode) other, (rw (text-short file.path is.path, text-short file.name is.name) refl, tt)),
            ),
          ),
        ),
      ),
    )

file-same : (file : FileInfo) (number : ℕ) → IsFile file → file_info (file_tokens number file) ≡ file
file-same file number is = λ i. record file { dev = value-back file.dev is.dev i; inode = value-back file.inode is.inode i }

file-is-tokens : (file : FileInfo) (number : ℕ) → IsFile file → IsU32 number → list_all is_token (file_tokens number file) ≡ true
file-is-tokens file number is fits = rw (
  number32-token number fits,
  number-token file.dev is.dev,
  number-token file.inode is.inode,
  text-token file.path is.path,
  text-token file.name is.name,
) refl

pub file-read : (workers : List WorkerInfo) (done : List FileInfo) (file : FileInfo) (number : ℕ) → IsFile file → number ≡ length done + 1
    → length done < MAX_FILES → list_any (λ other. same_file other file) done ≡ false
    → read_line (declaring workers done) (line_text (file_tokens number file)) ≡ Ok (declaring workers (done ++ file ∷ []))
unfolding word_line file_line
file-read workers done file number is next room other =
    let fits : IsU32 number = omega (arith, next, room) in
    let numbers = decimal number ∷ decimal file.dev ∷ decimal file.inode ∷ file.path ∷ file.name ∷ [] in
    line-back (declaring workers done) (declaring workers (done ++ file ∷ [])) (codes "file") numbers
    (file-is-tokens file number is fits)
    (rw (file-none workers done file number is fits next room other) (ap (λ f. Ok (declaring workers (done ++ f ∷ []))) (file-same file number is)))
