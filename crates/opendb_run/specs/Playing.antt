-- The code's own: what a run prints call by call, and what may be asked of a table on the way. No rule is stated here.
use Rattle.std.specs.Prelude.{◌≡◌, ℕ, ◌+◌, ◌<◌, ◌^◌, cond, IsTrue, IfSome, Option, List, [], ◌∷◌, ◌++◌, take, is_some}
use Rattle.std.specs.Io.KnownBytes.{Appends}
use Rattle.sid_core.specs.declared.ids.Moment.{Moment}
use Rattle.sid_core.specs.declared.setup.Setup.{Setup}
use Rattle.serial_table.specs.declared.table.Table.{Table}
use Rattle.serial_table.specs.History.{start, IsLegalEvent}
use Rattle.serial_table.specs.View.{view}
use Rattle.serial_table.specs.Step.{caller_of}
use Rattle.serial_table.specs.Text.{block}
use Rattle.worker_script.specs.declared.script.Planned.{Planned}
use Rattle.worker_script.specs.declared.script.Phase.{Phase}
use Rattle.worker_script.specs.declared.script.Script.{Script}
use Rattle.worker_script.specs.Fits.{is_entered}
use Rattle.opendb_run.specs.declared.play.Cut.{Cut}
use Rattle.opendb_run.specs.declared.play.Cut.TheVariants.{WriteFault, OutOfMemory}
use Rattle.opendb_run.specs.Output.{AppendsPrefix}
use Rattle.opendb_run.specs.Order.{in_order}
use Rattle.opendb_run.specs.Play.{call_event, death_event, after_call, after_planned, after_phase, call_entry, death_entry}

-- ---- the text

unfoldable pub text_of_call : Setup → Table → Moment → Planned → List ℕ
text_of_call setup t moment planned = cond (is_entered planned.stop) (block setup t (call_entry setup t moment planned)) []

unfoldable pub text_of_death : Setup → Table → Moment → Planned → List ℕ
text_of_death setup t moment planned = cond (is_some planned.stop) (block setup t (death_entry 0 moment planned)) []

abbrev pub text_of_planned : Setup → Table → Moment → Planned → List ℕ
text_of_planned setup t moment planned = text_of_call setup t moment planned ++ text_of_death setup (after_call setup t moment planned) moment planned

abbrev pub text_of_calls : Setup → Table → Moment → List Planned → List ℕ
text_of_calls setup t moment [] = []
text_of_calls setup t moment (planned ∷ calls) = text_of_planned setup t moment planned ++ text_of_calls setup (after_planned setup t moment planned) moment calls

abbrev pub text_of_phase : Setup → Table → Phase → List ℕ
text_of_phase setup t phase = text_of_calls setup t phase.moment (in_order setup phase.calls)

abbrev pub text_of_phases : Setup → Table → List Phase → List ℕ
text_of_phases setup t [] = []
text_of_phases setup t (phase ∷ phases) = text_of_phase setup t phase ++ text_of_phases setup (after_phase setup t phase) phases

abbrev pub after_phases : Setup → Table → List Phase → Table
after_phases setup t [] = t
after_phases setup t (phase ∷ phases) = after_phases setup (after_phase setup t phase) phases

-- ---- what the table takes

-- the call and the death, where they are to be entered; the caller's session and the next one have numbers of 32 bits
pub record Takes (setup : Setup) (t : Table) (moment : Moment) (planned : Planned) : Type 0 where
  pub call : IsTrue (is_entered planned.stop) → IsLegalEvent setup t planned.worker (call_event setup t moment planned)
  pub next : IfSome (caller_of setup (view t) planned.worker planned.number moment) (λ caller. caller.sid.session + 1 < 2 ^ 32)
  pub death : IsTrue (is_some planned.stop) → IsLegalEvent setup (after_call setup t moment planned) 0 (death_event moment planned)

-- one of these calls after another
abbrev pub TakesCalls : Setup → Table → Moment → List Planned → Type 0
TakesCalls setup t moment [] = Unit {0}
TakesCalls setup t moment (planned ∷ calls) = Takes setup t moment planned × TakesCalls setup (after_planned setup t moment planned) moment calls

abbrev pub TakesPhase : Setup → Table → Phase → Type 0
TakesPhase setup t phase = TakesCalls setup t phase.moment (in_order setup phase.calls)

-- one of these phases after another
abbrev pub TakesPhases : Setup → Table → List Phase → Type 0
TakesPhases setup t [] = Unit {0}
TakesPhases setup t (phase ∷ phases) = TakesPhase setup t phase × TakesPhases setup (after_phase setup t phase) phases

-- ---- how a run is cut short

-- what was written of the lines of a phase
abbrev pub PhaseIsCut : Option (List ℕ) → Option (List ℕ) → Type 0 → List ℕ → Cut → Type 0
PhaseIsCut written written' rose printed WriteFault = rose × AppendsPrefix written written' printed
PhaseIsCut written written' rose printed OutOfMemory = written' ≡ written

-- what was written of the lines of a script: a part, or those of its first phases
abbrev pub IsCut : Script → Option (List ℕ) → Option (List ℕ) → Type 0 → Cut → Type 0
IsCut script written written' rose WriteFault = rose × AppendsPrefix written written' (text_of_phases script.setup (start script.setup) script.phases)
IsCut script written written' rose OutOfMemory = (count : ℕ) × Appends written written' (text_of_phases script.setup (start script.setup) (take count script.phases))
