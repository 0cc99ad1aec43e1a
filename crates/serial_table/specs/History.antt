-- Histories of the open table, and which of them are legal.
use Rattle.std.specs.Prelude.{◌≡◌, ℕ, suc, ◌==◌, if◌then◌else◌, true, IsSome, List, [], ◌∷◌, take, Some}
use Rattle.std.specs.List.{flat_map}
use Rattle.sid_core.specs.declared.ids.Moment.{Moment}
use Rattle.sid_core.specs.declared.entry.Entry.{Entry}
use Rattle.sid_core.specs.declared.entry.Event.{Event}
use Rattle.sid_core.specs.declared.entry.Event.TheVariants.{Called, Died, Tidied}
use Rattle.sid_core.specs.declared.call.Call.{Call}
use Rattle.sid_core.specs.declared.reply.Reply.{Reply}
use Rattle.sid_core.specs.declared.setup.Setup.{Setup}
use Rattle.sid_core.specs.declared.setup.WorkerInfo.{WorkerInfo}
use Rattle.sid_core.specs.Values.{IsMoment}
use Rattle.sid_core.specs.Counting.{CountsFrom, RisesAbove}
use Rattle.sid_core.specs.Call.{IsCall, IsCallNumber}
use Rattle.serial_table.specs.declared.rows.WorkerRow.{WorkerRow}
use Rattle.serial_table.specs.declared.table.Table.{Table}
use Rattle.serial_table.specs.View.{view}
use Rattle.serial_table.specs.Change.{perform_all}
use Rattle.serial_table.specs.Step.{answer_of, death_of, changes_of}

-- ---- where a history starts

abbrev pub start_worker : ℕ → WorkerInfo → WorkerRow
start_worker number info = record { worker = number; pid = info.pid; alive = true; session = 1; connected = record { 0 = 0 } }

-- the workers, numbered from this one on
abbrev pub start_workers : ℕ → List WorkerInfo → List WorkerRow
start_workers number [] = []
start_workers number (info ∷ infos) = start_worker number info ∷ start_workers (suc number) infos

-- Nothing is open, and each worker is alive in session 1, connected at moment 0.
abbrev pub start : Setup → Table
start setup = record {
  opens = [];
  leases = [];
  ranges = [];
  holds = [];
  waiters = [];
  letters = [];
  workers = start_workers 1 setup.workers;
  ended = [];
  pending = [];
}

-- ---- what an entry does

abbrev pub after_event : Setup → Table → ℕ → Event → Table
after_event setup t by event = perform_all (changes_of setup (view t) by event) t

abbrev pub after_entry : Setup → Table → Entry → Table
after_entry setup t entry = after_event setup t entry.by entry.what

-- the table after a list of entries
abbrev pub after_all : Setup → Table → List Entry → Table
after_all setup t [] = t
after_all setup t (entry ∷ entries) = after_all setup (after_entry setup t entry) entries

-- the table that a history makes
abbrev pub after : Setup → List Entry → Table
after setup history = after_all setup (start setup) history

-- the table at a place of a history: after so many entries
abbrev pub table_at : Setup → List Entry → ℕ → Table
table_at setup history place = after setup (take place history)

-- ---- which entries are legal

-- A call has one answer, where its worker is declared and alive: that is the reply.
pub record IsLegalCall (setup : Setup) (t : Table) (worker number : ℕ) (moment : Moment) (call : Call) (reply : Reply) : Type 0 where
  pub numbered : IsCallNumber number
  pub timed : IsMoment moment.0
  pub in_sets : IsCall setup call
  pub answered : answer_of setup (view t) worker number moment call ≡ Some reply

-- A death is legal where its worker is declared and alive.
pub record IsLegalDeath (setup : Setup) (t : Table) (worker : ℕ) (moment : Moment) : Type 0 where
  pub timed : IsMoment moment.0
  pub dies : IsSome (death_of setup (view t) worker moment)

-- To tidy a chain of the records is always legal, and changes nothing here.
abbrev pub IsLegalEvent : Setup → Table → ℕ → Event → Type 0
IsLegalEvent setup t by (Called number moment call reply) = IsLegalCall setup t by number moment call reply
IsLegalEvent setup t by (Died worker moment) = IsLegalDeath setup t worker moment
IsLegalEvent setup t by (Tidied chain) = Unit {0}

abbrev pub IsLegalEntry : Setup → Table → Entry → Type 0
IsLegalEntry setup t entry = IsLegalEvent setup t entry.by entry.what

-- each entry is legal at the table after those before it
abbrev pub AreLegal : Setup → Table → List Entry → Type 0
AreLegal setup t [] = Unit {0}
AreLegal setup t (entry ∷ entries) = IsLegalEntry setup t entry × AreLegal setup (after_entry setup t entry) entries

-- ---- which histories are legal

-- the seq of an entry that this one committed
abbrev pub own_seq : ℕ → Entry → List ℕ
own_seq by entry = if entry.by == by then entry.seq ∷ [] else []

abbrev pub seqs_of : ℕ → List Entry → List ℕ
seqs_of by history = flat_map (own_seq by) history

abbrev pub call_number : Event → List ℕ
call_number (Called number moment call reply) = number ∷ []
call_number (Died worker moment) = []
call_number (Tidied chain) = []

-- the number of a call that this worker made
abbrev pub own_number : ℕ → Entry → List ℕ
own_number by entry = if entry.by == by then call_number entry.what else []

abbrev pub numbers_of : ℕ → List Entry → List ℕ
numbers_of by history = flat_map (own_number by) history

-- Each entry is legal at its place. The entries of each worker and of the runner have seq 1, 2, 3 and so on, and the numbers of a
-- worker's calls rise.
pub record IsLegal (setup : Setup) (history : List Entry) : Type 0 where
  pub entries : AreLegal setup (start setup) history
  pub counted : (by : ℕ) → CountsFrom 1 (seqs_of by history)
  pub rising : (by : ℕ) → RisesAbove 0 (numbers_of by history)
