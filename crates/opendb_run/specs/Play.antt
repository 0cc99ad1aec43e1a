-- The history that one thread makes of a script: phase by phase, and in each phase one worker after another. A worker whose call has a
-- stop dies there: the runner enters its death behind the call, or in its place where the call doesn't commit.
use Rattle.std.specs.Prelude.{◌≡◌, ℕ, ◌+◌, cond, List, [], ◌∷◌, ◌++◌, length, is_some}
use Rattle.std.specs.Option.{unwrap_or}
use Rattle.sid_core.specs.declared.ids.Moment.{Moment}
use Rattle.sid_core.specs.declared.entry.Entry.{Entry}
use Rattle.sid_core.specs.declared.entry.Event.{Event}
use Rattle.sid_core.specs.declared.entry.Event.TheVariants.{Called, Died}
use Rattle.sid_core.specs.declared.reply.Reply.TheVariants.{Unsuccessful}
use Rattle.sid_core.specs.declared.setup.Setup.{Setup}
use Rattle.sid_core.specs.declared.call.Tables.{Tables}
use Rattle.serial_table.specs.declared.table.Table.{Table}
use Rattle.serial_table.specs.View.{view}
use Rattle.serial_table.specs.Step.{answer_of}
use Rattle.serial_table.specs.History.{start, after, after_event, IsLegal}
use Rattle.serial_table.specs.Text.{text}
use Rattle.serial_table.specs.Tables.{tables}
use Rattle.worker_script.specs.declared.script.Planned.{Planned}
use Rattle.worker_script.specs.declared.script.Phase.{Phase}
use Rattle.worker_script.specs.declared.script.Script.{Script}
use Rattle.worker_script.specs.Fits.{is_entered, FitsFirst, Fits}
use Rattle.opendb_run.specs.Order.{in_order}

-- ---- one planned call

-- the call with the table's reply
abbrev pub call_event : Setup → Table → Moment → Planned → Event
call_event setup t moment planned =
    Called planned.number moment planned.call (unwrap_or (answer_of setup (view t) planned.worker planned.number moment planned.call) Unsuccessful)

-- the worker's death, which the runner enters
abbrev pub death_event : Moment → Planned → Event
death_event moment planned = Died planned.worker moment

-- the table after the call, unless its worker dies before it commits
unfoldable pub after_call : Setup → Table → Moment → Planned → Table
after_call setup t moment planned = cond (is_entered planned.stop) (after_event setup t planned.worker (call_event setup t moment planned)) t

-- and after its worker's death, where it dies
unfoldable pub after_death : Setup → Table → Moment → Planned → Table
after_death setup t moment planned = cond (is_some planned.stop) (after_event setup t 0 (death_event moment planned)) t

abbrev pub after_planned : Setup → Table → Moment → Planned → Table
after_planned setup t moment planned = after_death setup (after_call setup t moment planned) moment planned

-- While one thread runs, a worker's commits are its calls, so they have one number.
abbrev pub call_entry : Setup → Table → Moment → Planned → Entry
call_entry setup t moment planned = record { by = planned.worker; seq = planned.number; what = call_event setup t moment planned }

-- a death behind so many others
abbrev pub death_entry : ℕ → Moment → Planned → Entry
death_entry deaths moment planned = record { by = 0; seq = deaths + 1; what = death_event moment planned }

-- ---- the history

-- how many of these calls are to be their workers' last
abbrev pub dying_in : List Planned → ℕ
dying_in [] = 0
dying_in (planned ∷ calls) = cond (is_some planned.stop) 1 0 + dying_in calls

-- the entries of these calls at this moment, where so many deaths were entered before
abbrev pub entries_of : Setup → Table → ℕ → Moment → List Planned → List Entry
entries_of setup t deaths moment [] = []
entries_of setup t deaths moment (planned ∷ calls) =
    cond (is_entered planned.stop) (call_entry setup t moment planned ∷ []) []
    ++ (cond (is_some planned.stop) (death_entry deaths moment planned ∷ []) []
    ++ entries_of setup (after_planned setup t moment planned) (deaths + cond (is_some planned.stop) 1 0) moment calls)

abbrev pub after_calls : Setup → Table → Moment → List Planned → Table
after_calls setup t moment [] = t
after_calls setup t moment (planned ∷ calls) = after_calls setup (after_planned setup t moment planned) moment calls

abbrev pub after_phase : Setup → Table → Phase → Table
after_phase setup t phase = after_calls setup t phase.moment (in_order setup phase.calls)

abbrev pub history_from : Setup → Table → ℕ → List Phase → List Entry
history_from setup t deaths [] = []
history_from setup t deaths (phase ∷ phases) =
    entries_of setup t deaths phase.moment (in_order setup phase.calls)
    ++ history_from setup (after_phase setup t phase) (deaths + dying_in (in_order setup phase.calls)) phases

-- the history of these phases from the start on
abbrev pub history_of : Setup → List Phase → List Entry
history_of setup phases = history_from setup (start setup) 0 phases

-- ---- what is printed

-- The printed bytes are the text of a legal history that fits the first so many phases of the script.
pub record PrintsFirst (count : ℕ) (script : Script) (printed : List ℕ) : Type 0 where
  pub history : List Entry
  pub legal : IsLegal script.setup history
  pub fits : FitsFirst count script history
  pub printed_is : printed ≡ text script.setup history

-- of all its phases
abbrev pub Prints : Script → List ℕ → Type 0
Prints script printed = PrintsFirst (length script.phases) script printed

-- The printed bytes are the chosen tables of what a legal history that fits the script makes.
pub record ShowsTables (chosen : Tables) (script : Script) (printed : List ℕ) : Type 0 where
  pub history : List Entry
  pub legal : IsLegal script.setup history
  pub fits : Fits script history
  pub printed_is : printed ≡ tables script.setup (view (after script.setup history)) chosen
