-- What a call of `run` has done by its end.
use Rattle.std.specs.Prelude.{◌≡◌, ℕ, ◌≤◌, ◌⊎◌, Bool, true, false, nat_lt, if◌then◌else◌, List, length, Option, Result, Ok, Err}
use Rattle.std.specs.Io.KnownBytes.{Appends}
use Rattle.worker_script.specs.declared.script.Script.{Script}
use Rattle.worker_script.specs.declared.reason.Reason.{Reason}
use Rattle.worker_script.specs.Reason.{number_of}
use Rattle.worker_script.specs.Reading.{BadLine, script}
use Rattle.sid_core.specs.declared.limits.TheConstants.{MAX_SCRIPT}
use Rattle.opendb_run.specs.declared.status.Status.{Status}
use Rattle.opendb_run.specs.declared.status.Status.TheVariants.{Done, Usage, BadScript, TooLarge, ReadFault, WriteFault, OutOfMemory}
use Rattle.opendb_run.specs.declared.input.InputError.TheVariants as input
use Rattle.opendb_run.specs.Input.{TakesAll, TakesBefore}
use Rattle.opendb_run.specs.Output.{AppendsPrefix}
use Rattle.opendb_run.specs.declared.play.Cut.{Cut}
use Rattle.opendb_run.specs.declared.play.Cut.TheVariants as cuts
use Rattle.opendb_run.specs.declared.words.Command.{Command}
use Rattle.opendb_run.specs.declared.words.Command.TheVariants.{Run, SmbStatus}
use Rattle.opendb_run.specs.Play.{PrintsFirst, Prints, ShowsTables}

-- The source was read to its end, and gave these bytes: all that it told, where it tells them.
pub record HasRead (left left' : Option (List ℕ)) (bytes : List ℕ) : Type 0 where
  pub whole : TakesAll left left' bytes
  pub short : length bytes ≤ MAX_SCRIPT

-- what is printed of a script, by what is asked
abbrev pub IsOutput : Command → Script → List ℕ → Type 0
IsOutput (Run chains) script printed = Prints script printed
IsOutput (SmbStatus chosen chains) script printed = ShowsTables chosen script printed

-- what may have been printed where memory is refused: the text of some first phases, and no tables
abbrev pub IsFirstOutput : Command → Script → List ℕ → Type 0
IsFirstOutput (Run chains) script printed = (count : ℕ) × PrintsFirst count script printed
IsFirstOutput (SmbStatus chosen chains) script printed = ⊥

-- The bytes spell a script, and this is printed of it.
pub record PrintsBytes (output : Script → List ℕ → Type 0) (bytes printed : List ℕ) : Type 0 where
  pub read_script : Script
  pub spelled : script bytes ≡ Ok read_script
  pub prints : output read_script printed

-- What was read spells a script, and this is printed of it.
pub record HasRun (output : Script → List ℕ → Type 0) (left left' : Option (List ℕ)) (printed : List ℕ) : Type 0 where
  pub bytes : List ℕ
  pub read : HasRead left left' bytes
  pub ran : PrintsBytes output bytes printed

-- The bytes spell no script: this is their first bad line, and the number of the least reason.
pub record IsBroken (bytes : List ℕ) (line number : ℕ) : Type 0 where
  pub reason : Reason
  pub broken : script bytes ≡ Err (record { line = line; reason = reason })
  pub numbered : number ≡ number_of reason

-- What was read is broken so.
pub record BreaksAt (left left' : Option (List ℕ)) (line number : ℕ) : Type 0 where
  pub bytes : List ℕ
  pub read : HasRead left left' bytes
  pub broken : IsBroken bytes line number

-- the statuses with which nothing was printed
abbrev pub is_silent : Status → Bool
is_silent Done = false
is_silent WriteFault = false
is_silent Usage = true
is_silent BadScript = true
is_silent TooLarge = true
is_silent ReadFault = true
is_silent OutOfMemory = false

abbrev pub status_of_script : Result Script BadLine → Status
status_of_script (Ok read_script) = Done
status_of_script (Err bad) = BadScript

-- how a run of these bytes ends where nothing fails
abbrev pub expected : List ℕ → Status
expected bytes = if nat_lt MAX_SCRIPT (length bytes) then TooLarge else status_of_script (script bytes)

-- Want of memory can always come.
abbrev pub IsExpected : Status → List ℕ → Type 0
IsExpected status bytes = (status ≡ OutOfMemory) ⊎ (status ≡ expected bytes)

abbrev pub status_of_cut : Cut → Status
status_of_cut cuts.WriteFault = WriteFault
status_of_cut cuts.OutOfMemory = OutOfMemory

-- ---- by the status

-- how a call ends that ran a script; rose says that a write failed
abbrev pub ScriptEnded : Command → Script → Option (List ℕ) → Option (List ℕ) → Type 0 → Status → Type 0
ScriptEnded asked run written written' rose Done = (printed : List ℕ) × IsOutput asked run printed × Appends written written' printed
ScriptEnded asked run written written' rose WriteFault = rose × (printed : List ℕ) × IsOutput asked run printed × AppendsPrefix written written' printed
ScriptEnded asked run written written' rose OutOfMemory = (written' ≡ written) ⊎ ((printed : List ℕ) × IsFirstOutput asked run printed × Appends written written' printed)
ScriptEnded asked run written written' rose Usage = ⊥
ScriptEnded asked run written written' rose BadScript = ⊥
ScriptEnded asked run written written' rose TooLarge = ⊥
ScriptEnded asked run written written' rose ReadFault = ⊥

-- how a call ends that had these bytes, and the line and the reason that it names
abbrev pub BytesEnded : Command → List ℕ → Option (List ℕ) → Option (List ℕ) → Type 0 → Status → ℕ → ℕ → Type 0
BytesEnded asked bytes written written' rose Done line reason = (printed : List ℕ) × PrintsBytes (IsOutput asked) bytes printed × Appends written written' printed
BytesEnded asked bytes written written' rose WriteFault line reason = rose × (printed : List ℕ) × PrintsBytes (IsOutput asked) bytes printed × AppendsPrefix written written' printed
BytesEnded asked bytes written written' rose OutOfMemory line reason = (written' ≡ written) ⊎ ((printed : List ℕ) × PrintsBytes (IsFirstOutput asked) bytes printed × Appends written written' printed)
BytesEnded asked bytes written written' rose BadScript line reason = IsBroken bytes line reason × (written' ≡ written)
BytesEnded asked bytes written written' rose Usage line reason = ⊥
BytesEnded asked bytes written written' rose TooLarge line reason = ⊥
BytesEnded asked bytes written written' rose ReadFault line reason = ⊥

-- how a call ends that read its input; unread and rose say that a read and a write failed
abbrev pub InputEnded : Command → Option (List ℕ) → Option (List ℕ) → Option (List ℕ) → Option (List ℕ) → Type 0 → Type 0 → Status → ℕ → ℕ → Type 0
InputEnded asked left left' written written' unread rose Done line reason = (printed : List ℕ) × HasRun (IsOutput asked) left left' printed × Appends written written' printed
InputEnded asked left left' written written' unread rose BadScript line reason = BreaksAt left left' line reason × (written' ≡ written)
InputEnded asked left left' written written' unread rose TooLarge line reason = TakesBefore left left' input.TooLarge × (written' ≡ written)
InputEnded asked left left' written written' unread rose ReadFault line reason = unread × TakesBefore left left' input.ReadFault × (written' ≡ written)
InputEnded asked left left' written written' unread rose WriteFault line reason = rose × (printed : List ℕ) × HasRun (IsOutput asked) left left' printed × AppendsPrefix written written' printed
InputEnded asked left left' written written' unread rose OutOfMemory line reason = (written' ≡ written) ⊎ ((printed : List ℕ) × HasRun (IsFirstOutput asked) left left' printed × Appends written written' printed)
InputEnded asked left left' written written' unread rose Usage line reason = ⊥
