-- How a script that is run ends.
use Rattle.std.proofs.Common.{ℕ, Option, List, inl, inr}
use Rattle.sid_core.specs.declared.call.Tables.{Tables}
use Rattle.serial_table.specs.View.{view}
use Rattle.serial_table.specs.History.{start}
use Rattle.serial_table.specs.Tables.{tables}
use Rattle.worker_script.specs.declared.script.Script.{Script}
use Rattle.worker_script.specs.Script.{IsScript}
use Rattle.opendb_run.specs.declared.play.Cut.{Cut}
use Rattle.opendb_run.specs.declared.play.Cut.TheVariants.{WriteFault, OutOfMemory}
use Rattle.opendb_run.specs.declared.words.Command.TheVariants.{Run, SmbStatus}
use Rattle.opendb_run.specs.Playing.{after_phases, TakesPhases, PhaseIsCut, IsCut}
use Rattle.opendb_run.specs.Run.{status_of_cut, ScriptEnded}
use Rattle.opendb_run.proofs.Playing.{first_prints, whole_prints, end_shows}

pub history_cut : (script : Script) → IsScript script → TakesPhases script.setup (start script.setup) script.phases → (chains : ℕ) (written written' : Option (List ℕ)) (rose : Type 0) (cut : Cut)
    → IsCut script written written' rose cut → ScriptEnded (Run chains) script written written' rose (status_of_cut cut)
history_cut script h taken chains written written' rose WriteFault is = (is.0, _, whole_prints script h taken, is.1)
history_cut script h taken chains written written' rose OutOfMemory is = inr (_, (is.0, first_prints script h taken is.0), is.1)

pub tables_cut : (script : Script) (chosen : Tables) → IsScript script → TakesPhases script.setup (start script.setup) script.phases → (chains : ℕ) (written written' : Option (List ℕ)) (rose : Type 0) (cut : Cut)
    → PhaseIsCut written written' rose (tables script.setup (view (after_phases script.setup (start script.setup) script.phases)) chosen) cut → ScriptEnded (SmbStatus chosen chains) script written written' rose (status_of_cut cut)
tables_cut script chosen h taken chains written written' rose WriteFault is = (is.0, _, end_shows script chosen h taken, is.1)
tables_cut script chosen h taken chains written written' rose OutOfMemory is = inl is
