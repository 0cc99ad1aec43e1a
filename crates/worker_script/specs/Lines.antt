-- What each line of a script does, and what makes it bad.
use Rattle.std.specs.Prelude.{ℕ, ◌+◌, ◌-◌, ◌^◌, Bool, not, cond, ◌==◌, ◌&&◌, ◌||◌, nat_le, nat_lt, List, [], ◌∷◌, ◌++◌, length, Option, Some, None, is_some, Result, Ok, Err, codes}
use Rattle.std.specs.List.{list_any}
use Rattle.std.specs.Option.{option_to_list}
use Rattle.std.specs.Str.{bytes_eq}
use Rattle.sid_core.specs.declared.setup.WorkerInfo.{WorkerInfo}
use Rattle.sid_core.specs.declared.setup.FileInfo.{FileInfo}
use Rattle.sid_core.specs.declared.limits.TheConstants.{MAX_WORKERS, MAX_FILES, MAX_PHASES, MAX_MOMENT}
use Rattle.worker_script.specs.declared.reason.Reason.{Reason}
use Rattle.worker_script.specs.declared.reason.Reason.TheVariants as reason
use Rattle.worker_script.specs.declared.script.Planned.{Planned}
use Rattle.worker_script.specs.declared.script.Phase.{Phase}
use Rattle.worker_script.specs.declared.script.Script.{Script}
use Rattle.worker_script.specs.Script.{all_calls, numbers_of}
use Rattle.worker_script.specs.Text.{token}
use Rattle.worker_script.specs.Values.{value, is_number, is_u32, is_u64, is_short}

-- What the lines so far say: what they declare, the phases that are over, and the one that calls go to.
pub record Draft : Type 0 where
  pub workers : List WorkerInfo
  pub files : List FileInfo
  pub phases : List Phase
  pub current : Option Phase

abbrev pub nothing : Draft
nothing = record { workers = []; files = []; phases = []; current = None }

abbrev pub phases_of : Draft → List Phase
phases_of draft = draft.phases ++ option_to_list draft.current

abbrev pub script_of : Draft → Script
script_of draft = record { setup = record { workers = draft.workers; files = draft.files }; phases = phases_of draft }

abbrev pub planned_in : Draft → List Planned
planned_in draft = all_calls (phases_of draft)

-- A fault that a line may have is its reason, and whether the line has it. The first one that the line has
-- is told. The reasons of each list below rise, so that is the one with the least reason.
abbrev pub first_fault : List (Reason × Bool) → Option Reason
first_fault [] = None
first_fault (fault ∷ faults) = cond fault.1 (Some fault.0) (first_fault faults)

-- the fault, or else the answer
abbrev pub judged : {X : Type 0} → Option Reason → Result X Reason → Result X Reason
judged None answer = answer
judged (Some fault) answer = Err fault

abbrev pub checked : Option Reason → Draft → Result Draft Reason
checked fault draft = judged fault (Ok draft)

-- `worker W PID UID GUID MACHINE SHARE`, and `old` behind it where the worker is of an old release
abbrev pub are_worker_numbers : List (List ℕ) → Bool
are_worker_numbers ts = is_u32 (token 1 ts) && is_number 1 (2 ^ 32 - 1) (token 2 ts) && is_u32 (token 3 ts) && is_u64 (token 4 ts)

abbrev pub worker_faults : Draft → List (List ℕ) → List (Reason × Bool)
worker_faults draft ts =
    (reason.WrongLength, not ((length ts == 7) || (length ts == 8)))
    ∷ (reason.WrongNumber, not (are_worker_numbers ts))
    ∷ (reason.LateDeclaration, is_some draft.current)
    ∷ (reason.NotNext, not (value (token 1 ts) == length draft.workers + 1))
    ∷ (reason.TooManyWorkers, nat_le MAX_WORKERS (length draft.workers))
    ∷ (reason.KnownPid, list_any (λ worker. worker.pid == value (token 2 ts)) draft.workers)
    ∷ (reason.LongText, not (is_short (token 5 ts) && is_short (token 6 ts)))
    ∷ (reason.UnknownEnding, (length ts == 8) && not (bytes_eq (token 7 ts) (codes "old")))
    ∷ []

unfoldable pub worker_fault : Draft → List (List ℕ) → Option Reason
worker_fault draft ts = first_fault (worker_faults draft ts)

abbrev pub worker_info : List (List ℕ) → WorkerInfo
worker_info ts = record {
  pid = value (token 2 ts);
  uid = value (token 3 ts);
  guid = value (token 4 ts);
  machine = token 5 ts;
  share = token 6 ts;
  old = length ts == 8;
}

unfoldable pub worker_line : Draft → List (List ℕ) → Result Draft Reason
worker_line draft ts =
    checked (worker_fault draft ts) (record draft { workers = draft.workers ++ worker_info ts ∷ [] })

-- `file F DEV INODE PATH NAME`
abbrev pub are_file_numbers : List (List ℕ) → Bool
are_file_numbers ts = is_u32 (token 1 ts) && is_u64 (token 2 ts) && is_u64 (token 3 ts)

abbrev pub is_place : ℕ → ℕ → FileInfo → Bool
is_place dev inode file = (file.dev == dev) && (file.inode == inode)

abbrev pub file_faults : Draft → List (List ℕ) → List (Reason × Bool)
file_faults draft ts =
    (reason.WrongLength, not (length ts == 6))
    ∷ (reason.WrongNumber, not (are_file_numbers ts))
    ∷ (reason.LateDeclaration, is_some draft.current)
    ∷ (reason.NotNext, not (value (token 1 ts) == length draft.files + 1))
    ∷ (reason.TooManyFiles, nat_le MAX_FILES (length draft.files))
    ∷ (reason.KnownPlace, list_any (is_place (value (token 2 ts)) (value (token 3 ts))) draft.files)
    ∷ (reason.LongText, not (is_short (token 4 ts) && is_short (token 5 ts)))
    ∷ []

unfoldable pub file_fault : Draft → List (List ℕ) → Option Reason
file_fault draft ts = first_fault (file_faults draft ts)

abbrev pub file_info : List (List ℕ) → FileInfo
file_info ts = record { dev = value (token 2 ts); inode = value (token 3 ts); path = token 4 ts; name = token 5 ts }

unfoldable pub file_line : Draft → List (List ℕ) → Result Draft Reason
file_line draft ts = checked (file_fault draft ts) (record draft { files = draft.files ++ file_info ts ∷ [] })

-- `phase MOMENT`
abbrev pub moment_of : Option Phase → ℕ
moment_of None = 0
moment_of (Some phase) = phase.moment.0

abbrev pub phase_faults : Draft → List (List ℕ) → List (Reason × Bool)
phase_faults draft ts =
    (reason.WrongLength, not (length ts == 2))
    ∷ (reason.WrongNumber, not (is_number 0 MAX_MOMENT (token 1 ts)))
    ∷ (reason.TooManyPhases, nat_le MAX_PHASES (length (phases_of draft)))
    ∷ (reason.EarlierMoment, nat_lt (value (token 1 ts)) (moment_of draft.current))
    ∷ []

unfoldable pub phase_fault : Draft → List (List ℕ) → Option Reason
phase_fault draft ts = first_fault (phase_faults draft ts)

abbrev pub new_phase : ℕ → Phase
new_phase moment = record { moment = record { 0 = moment }; calls = [] }

unfoldable pub phase_line : Draft → List (List ℕ) → Result Draft Reason
phase_line draft ts =
    checked (phase_fault draft ts) (record draft { phases = phases_of draft; current = Some (new_phase (value (token 1 ts))) })

-- a number of one of the things that are declared, counted from 1
abbrev pub is_declared : {X : Type 0} → List X → ℕ → Bool
is_declared declared number = nat_le 1 number && nat_le number (length declared)

-- a call as the last of its phase, and the next of its worker
abbrev pub with_planned : Option Phase → Planned → Option Phase
with_planned None planned = None
with_planned (Some phase) planned = Some (record phase { calls = phase.calls ++ planned ∷ [] })

abbrev pub next_number : Draft → ℕ → ℕ
next_number draft worker = length (numbers_of worker (planned_in draft)) + 1
