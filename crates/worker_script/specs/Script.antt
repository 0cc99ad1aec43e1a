-- Which scripts there are: what holds of each script that is read, and all that a script needs to have a text that is read.
use Rattle.std.specs.Prelude.{◌≡◌, ℕ, ◌≤◌, Bool, true, false, not, ◌==◌, ◌&&◌, ◌||◌, cond, IsTrue, List, [], ◌∷◌, ◌++◌, length, map, Option, Some, None, is_some}
use Rattle.std.specs.List.{AllByRecursion, flat_map, count_by}
use Rattle.sid_core.specs.declared.call.Call.{Call}
use Rattle.sid_core.specs.declared.call.Call.TheVariants.{Status}
use Rattle.sid_core.specs.declared.call.Tables.{Tables}
use Rattle.sid_core.specs.declared.outside.Point.{Point}
use Rattle.sid_core.specs.declared.outside.Point.TheVariants as point
use Rattle.sid_core.specs.declared.setup.Setup.{Setup}
use Rattle.sid_core.specs.Values.{IsMoment}
use Rattle.sid_core.specs.Setup.{IsSetup, IsDeclared}
use Rattle.sid_core.specs.Call.{IsCallNumber, IsCall}
use Rattle.sid_core.specs.declared.limits.TheConstants.{MAX_PHASES, MAX_CALLS, MAX_STATUS_CALLS}
use Rattle.sid_core.specs.Counting.{CountsFrom, NeverFallsFrom}
use Rattle.worker_script.specs.declared.script.Planned.{Planned}
use Rattle.worker_script.specs.declared.script.Phase.{Phase}
use Rattle.worker_script.specs.declared.script.Script.{Script}

-- the calls of the phases, one phase after another
abbrev pub all_calls : List Phase → List Planned
all_calls phases = flat_map (λ phase. phase.calls) phases

abbrev pub own_number : ℕ → Planned → List ℕ
own_number worker planned = cond (planned.worker == worker) (planned.number ∷ []) []

-- the numbers of a worker's calls, in order
abbrev pub numbers_of : ℕ → List Planned → List ℕ
numbers_of worker [] = []
numbers_of worker (planned ∷ calls) = own_number worker planned ++ numbers_of worker calls

-- A worker has no call after one in which it is to die.
abbrev pub DiesLast : ℕ → List Planned → Type 0
DiesLast worker [] = Unit {0}
DiesLast worker (planned ∷ calls) = (IsTrue ((planned.worker == worker) && is_some planned.stop) → numbers_of worker calls ≡ []) × DiesLast worker calls

abbrev pub is_status_call : Call → Bool
is_status_call (Status tables) = true
is_status_call _ = false

-- how many of the calls are `status`
abbrev pub statuses_in : List Planned → ℕ
statuses_in calls = count_by (λ planned. is_status_call planned.call) calls

-- what the flags of a `status` call can choose: shares or files, and ranges only beside files
abbrev pub can_choose : Tables → Bool
can_choose tables = (tables.shares || tables.files) && (tables.files || not tables.ranges)

-- A `status` call chooses what its flags can. Scripts have all other calls.
abbrev pub IsInScripts : Call → Type 0
IsInScripts (Status tables) = IsTrue (can_choose tables)
IsInScripts _ = Unit {0}

-- Scripts have no `!mourn` yet.
abbrev pub IsStopInScripts : Option Point → Type 0
IsStopInScripts None = Unit {0}
IsStopInScripts (Some point.Take) = Unit {0}
IsStopInScripts (Some point.Intent) = Unit {0}
IsStopInScripts (Some point.Commit) = Unit {0}
IsStopInScripts (Some point.Store) = Unit {0}
IsStopInScripts (Some point.Release) = Unit {0}
IsStopInScripts (Some point.Mourn) = ⊥

pub record IsPlanned (setup : Setup) (planned : Planned) : Type 0 where
  pub worker : IsDeclared setup.workers planned.worker
  pub number : IsCallNumber planned.number
  pub call : IsCall setup planned.call
  pub in_scripts : IsInScripts planned.call
  pub stop : IsStopInScripts planned.stop

pub record IsPhase (setup : Setup) (phase : Phase) : Type 0 where
  pub moment : IsMoment phase.moment.0
  pub calls : AllByRecursion (IsPlanned setup) phase.calls

-- At most 10,000 phases with moments that don't fall, and at most 20,000 calls, 100 of them
-- `status`. Each worker's are numbered 1, 2, 3 and so on over the whole script, and none comes after the one in which it is to
-- die.
pub record IsScript (script : Script) : Type 0 where
  pub setup : IsSetup script.setup
  pub few_phases : length script.phases ≤ MAX_PHASES
  pub few_calls : length (all_calls script.phases) ≤ MAX_CALLS
  pub few_statuses : statuses_in (all_calls script.phases) ≤ MAX_STATUS_CALLS
  pub phases : AllByRecursion (IsPhase script.setup) script.phases
  pub moments : NeverFallsFrom 0 (map (λ phase. phase.moment.0) script.phases)
  pub numbered : (worker : ℕ) → CountsFrom 1 (numbers_of worker (all_calls script.phases))
  pub stopped : (worker : ℕ) → DiesLast worker (all_calls script.phases)
