-- Which histories fit a script.
use Rattle.std.specs.Prelude.{◌≡◌, ℕ, ◌+◌, ◌⊎◌, Bool, true, false, ◌==◌, ◌&&◌, cond, IsTrue, List, [], ◌∷◌, ◌++◌, length, take, Option, Some, None, is_some}
use Rattle.std.specs.List.{AllByRecursion, list_any}
use Rattle.sid_core.specs.declared.call.Call.{Call}
use Rattle.sid_core.specs.declared.call.Call.TheVariants.{Tidy}
use Rattle.sid_core.specs.declared.entry.Entry.{Entry}
use Rattle.sid_core.specs.declared.entry.Event.{Event}
use Rattle.sid_core.specs.declared.entry.Event.TheVariants.{Called, Died, Tidied}
use Rattle.sid_core.specs.declared.ids.Moment.{Moment}
use Rattle.sid_core.specs.declared.outside.Point.{Point}
use Rattle.sid_core.specs.declared.outside.Point.TheVariants as point
use Rattle.sid_core.specs.declared.setup.Setup.{Setup}
use Rattle.sid_core.specs.Setup.{IsDeclared}
use Rattle.worker_script.specs.declared.script.Planned.{Planned}
use Rattle.worker_script.specs.declared.script.Phase.{Phase}
use Rattle.worker_script.specs.declared.script.Script.{Script}

-- the number and the call of an entry in which a call was made
abbrev pub called : Event → List (ℕ × Call)
called (Called number moment call reply) = (number, call) ∷ []
called (Died worker moment) = []
called (Tidied chain) = []

abbrev pub own_call : ℕ → Entry → List (ℕ × Call)
own_call worker entry = cond (entry.by == worker) (called entry.what) []

-- the calls that a worker made
abbrev pub calls_of : ℕ → List Entry → List (ℕ × Call)
calls_of worker [] = []
calls_of worker (entry ∷ entries) = own_call worker entry ++ calls_of worker entries

-- A worker that dies before its call commits leaves no entry of it.
abbrev pub is_entered : Option Point → Bool
is_entered None = true
is_entered (Some point.Take) = false
is_entered (Some point.Intent) = false
is_entered (Some point.Commit) = true
is_entered (Some point.Store) = true
is_entered (Some point.Release) = true
is_entered (Some point.Mourn) = false

abbrev pub own_plan : ℕ → Planned → List (ℕ × Call)
own_plan worker planned = cond ((planned.worker == worker) && is_entered planned.stop) ((planned.number, planned.call) ∷ []) []

-- the calls of a worker that are planned and are to be entered
abbrev pub planned_of : ℕ → List Planned → List (ℕ × Call)
planned_of worker [] = []
planned_of worker (planned ∷ calls) = own_plan worker planned ++ planned_of worker calls

-- A call or a death comes at this moment.
abbrev pub IsAt : Moment → Event → Type 0
IsAt now (Called number moment call reply) = moment ≡ now
IsAt now (Died worker moment) = moment ≡ now
IsAt now (Tidied chain) = Unit {0}

-- whether this worker dies in this event
abbrev pub is_death_of : ℕ → Event → Bool
is_death_of worker (Called number moment call reply) = false
is_death_of worker (Died dead moment) = dead == worker
is_death_of worker (Tidied chain) = false

-- how many of these entries are deaths of a worker
abbrev pub deaths_of : ℕ → List Entry → ℕ
deaths_of worker [] = 0
deaths_of worker (entry ∷ entries) = cond (is_death_of worker entry.what) 1 0 + deaths_of worker entries

-- in how many of these calls a worker is to die
abbrev pub stops_of : ℕ → List Planned → ℕ
stops_of worker [] = 0
stops_of worker (planned ∷ calls) = cond ((planned.worker == worker) && is_some planned.stop) 1 0 + stops_of worker calls

-- A worker makes no call after its death.
abbrev pub CallsBeforeDeath : ℕ → List Entry → Type 0
CallsBeforeDeath worker [] = Unit {0}
CallsBeforeDeath worker (entry ∷ entries) = (IsTrue (is_death_of worker entry.what) → calls_of worker entries ≡ []) × CallsBeforeDeath worker entries

abbrev pub is_tidy : Call → Bool
is_tidy Tidy = true
is_tidy _ = false

-- The worker has a `tidy` call among these.
abbrev pub tidies : ℕ → List Planned → Bool
tidies worker calls = list_any (λ planned. (planned.worker == worker) && is_tidy planned.call) calls

-- Chains are tidied only by workers that have a `tidy` call among these.
abbrev pub IsTidiedBy : List Planned → Entry → Type 0
IsTidiedBy calls entry = by_event entry.what
  where
    by_event : Event → Type 0
    by_event (Called number moment call reply) = Unit {0}
    by_event (Died worker moment) = Unit {0}
    by_event (Tidied chain) = IsTrue (tidies entry.by calls)

-- These entries are what a phase plans, at its moment: each worker's planned calls in their order, each
-- once, and its death after them where one of them has a stop. Nothing else is there but tidied chains.
pub record FitsPhase (phase : Phase) (here : List Entry) : Type 0 where
  pub moment : AllByRecursion (λ entry. IsAt phase.moment entry.what) here
  pub calls : (worker : ℕ) → calls_of worker here ≡ planned_of worker phase.calls
  pub deaths : (worker : ℕ) → deaths_of worker here ≡ stops_of worker phase.calls
  pub last : (worker : ℕ) → CallsBeforeDeath worker here
  pub tidied : AllByRecursion (IsTidiedBy phase.calls) here

-- The entries are those of the phases, one phase after another.
abbrev pub FitsPhases : List Phase → List Entry → Type 0
FitsPhases [] entries = entries ≡ []
FitsPhases (phase ∷ phases) entries =
    (here : List Entry) × (rest : List Entry) × (entries ≡ here ++ rest) × FitsPhase phase here × FitsPhases phases rest

-- a declared worker other than this one that isn't among the dead
pub record IsOtherAlive (setup : Setup) (dead : List ℕ) (worker by : ℕ) : Type 0 where
  pub declared : IsDeclared setup.workers by
  pub other : (by == worker) ≡ false
  pub alive : list_any (λ one. one == by) dead ≡ false

-- A death is entered by 0, which is the runner, or by another worker that is alive.
abbrev pub IsEnteredBy : Setup → List ℕ → ℕ → Event → Type 0
IsEnteredBy setup dead by (Called number moment call reply) = Unit {0}
IsEnteredBy setup dead by (Died worker moment) = (by ≡ 0) ⊎ IsOtherAlive setup dead worker by
IsEnteredBy setup dead by (Tidied chain) = Unit {0}

-- the dead after an event
abbrev pub dead_after : List ℕ → Event → List ℕ
dead_after dead (Called number moment call reply) = dead
dead_after dead (Died worker moment) = worker ∷ dead
dead_after dead (Tidied chain) = dead

-- the same of each death, behind entries in which these workers died
abbrev pub AreEnteredByLiving : Setup → List ℕ → List Entry → Type 0
AreEnteredByLiving setup dead [] = Unit {0}
AreEnteredByLiving setup dead (entry ∷ entries) =
    IsEnteredBy setup dead entry.by entry.what × AreEnteredByLiving setup (dead_after dead entry.what) entries

-- The history has what the first so many phases plan, and each death in it is entered by the runner or by a living worker.
pub record FitsFirst (count : ℕ) (script : Script) (entries : List Entry) : Type 0 where
  pub phases : FitsPhases (take count script.phases) entries
  pub entered : AreEnteredByLiving script.setup [] entries

-- The same of all phases.
abbrev pub Fits : Script → List Entry → Type 0
Fits script entries = FitsFirst (length script.phases) script entries
