-- What register records tell of workers and their sessions, as a table has it.
use Rattle.std.specs.Prelude.{ℕ, ◌+◌, Bool, if◌then◌else◌, List, [], ◌∷◌, None}
use Rattle.std.specs.Option.{option_map_or}
use Rattle.std.specs.Ordering.{nat_cmp}
use Rattle.std.specs.FinMap as map
use Rattle.std.specs.FinMap.{FinMap}
use Rattle.sid_core.specs.declared.ids.Sid.{Sid}
use Rattle.sid_core.specs.declared.ids.Moment.{Moment}
use Rattle.serial_table.specs.declared.rows.WorkerRow.{WorkerRow}
use Rattle.serial_table.specs.declared.rows.EndedRow.{EndedRow}
use Rattle.serial_table.specs.Change.{begin_session, end_at}
use Rattle.serial_table.specs.Change as change
use Rattle.record_codec.specs.declared.register_rec.RegisterRec.{RegisterRec}
use Rattle.record_codec.specs.Counts.{Records}

-- the register records alone, as what decides what counts
abbrev pub registered : FinMap nat_cmp RegisterRec → Records
registered register = record { register = map.get register; mail = λ _. None; lease = λ _. None; share = λ _. None }

-- the last session of the worker with this pid
abbrev pub worker_row : ℕ → RegisterRec → WorkerRow
worker_row pid rec = record { worker = rec.worker; pid = pid; alive = rec.alive; session = rec.session; connected = record { 0 = rec.connected } }

abbrev pub session_of : ℕ → ℕ → Sid
session_of pid session = record { pid = pid; session = session }

-- these are the ends of sessions that count from this one
abbrev pub ended_from : ℕ → ℕ → List ℕ → List EndedRow
ended_from pid session [] = []
ended_from pid session (moment ∷ moments) = end_at (session_of pid session) (record { 0 = moment }) ∷ ended_from pid (session + 1) moments

-- the sessions of the pid that have ended
abbrev pub ended_rows : ℕ → RegisterRec → List EndedRow
ended_rows pid rec = ended_from pid 1 rec.ended

abbrev pub ended_of : FinMap nat_cmp RegisterRec → ℕ → List EndedRow
ended_of register pid = option_map_or (ended_rows pid) (map.get register pid) []

-- The worker once its session has ended: the next one begins at the same moment, or the worker is dead.
abbrev pub once_ended : Bool → Sid → Moment → WorkerRow → WorkerRow
once_ended next sid moment worker =
    if next then begin_session sid moment (change.end_session sid worker) else change.end_session sid worker
