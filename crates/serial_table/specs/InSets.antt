-- In which sets the numbers of a table's rows lie: those of the records that will hold them. And what a change brings to it.
use Rattle.std.specs.Prelude.{◌≡◌, ℕ, not, ◌==◌, ◌&&◌, ◌+◌, ◌-◌, ◌≤◌, ◌^◌, if◌then◌else◌, IsTrue, IfSome, List, Some, length, map}
use Rattle.std.specs.List.{AllByRecursion, list_any}
use Rattle.std.specs.Option.{option_map}
use Rattle.sid_core.specs.declared.ids.Sid.{Sid}
use Rattle.sid_core.specs.declared.ids.OpenId.{OpenId}
use Rattle.sid_core.specs.declared.ids.LeaseName.{LeaseName}
use Rattle.sid_core.specs.declared.ids.Spot.{Spot}
use Rattle.sid_core.specs.declared.ids.Spot.TheVariants.{OpenOf, RangesOf, LockOf}
use Rattle.sid_core.specs.declared.entry.Letter.{Letter}
use Rattle.sid_core.specs.declared.entry.Letter.TheVariants.{Wake, Break}
use Rattle.sid_core.specs.declared.entry.Post.{Post}
use Rattle.sid_core.specs.declared.setup.Setup.{Setup}
use Rattle.sid_core.specs.declared.limits.TheConstants.{MAX_MOMENT}
use Rattle.sid_core.specs.Values.{IsU32, IsU64, IsAccess, IsShare, IsState, IsMoment, IsSpan, is_part_of}
use Rattle.sid_core.specs.Setup.{IsDeclared}
use Rattle.serial_table.specs.declared.rows.OpenRow.{OpenRow}
use Rattle.serial_table.specs.declared.rows.LeaseRow.{LeaseRow}
use Rattle.serial_table.specs.declared.rows.Breaking.{Breaking}
use Rattle.serial_table.specs.declared.rows.RangeRow.{RangeRow}
use Rattle.serial_table.specs.declared.rows.HoldRow.{HoldRow}
use Rattle.serial_table.specs.declared.rows.WaiterRow.{WaiterRow}
use Rattle.serial_table.specs.declared.rows.WorkerRow.{WorkerRow}
use Rattle.serial_table.specs.declared.rows.EndedRow.{EndedRow}
use Rattle.serial_table.specs.declared.table.Table.{Table}
use Rattle.serial_table.specs.declared.change.Change.{Change}
use Rattle.serial_table.specs.declared.change.Change.TheVariants as c
use Rattle.serial_table.specs.View.{view}
use Rattle.serial_table.specs.Step.{declared_at}
use Rattle.sid_core.specs.Counting.{CountsFrom}
use Rattle.serial_table.specs.History.{start}
use Rattle.serial_table.specs.Sound.{AllAlong}

-- ---- names

-- the pid of a declared worker
pub record IsPid (setup : Setup) (pid : ℕ) : Type 0 where
  pub number : IsU32 pid
  pub declared : IsTrue (list_any (λ info. info.pid == pid) setup.workers)

-- a session of a declared worker; sessions count from 1
pub record IsSid (setup : Setup) (sid : Sid) : Type 0 where
  pub pid : IsPid setup sid.pid
  pub session : (1 ≤ sid.session) × IsU32 sid.session

-- the number of a declared file
pub record IsFileNumber (setup : Setup) (file : ℕ) : Type 0 where
  pub number : IsU32 file
  pub declared : IsDeclared setup.files file

-- an id that an open of a declared worker can have
pub record IsOpenId (setup : Setup) (id : OpenId) : Type 0 where
  pub pid : IsPid setup id.pid
  pub call : IsU32 id.call

pub record IsLeaseName (name : LeaseName) : Type 0 where
  pub guid : IsU64 name.guid
  pub key : IsU64 name.key

-- Files are declared ones, and the key of a lock has 64 bits.
abbrev pub IsSpot : Setup → Spot → Type 0
IsSpot setup (OpenOf file) = IsFileNumber setup file
IsSpot setup (RangesOf file) = IsFileNumber setup file
IsSpot setup (LockOf key) = IsU64 key

-- ---- letters

-- A break is to less than what was held.
pub record IsBreakLetter (setup : Setup) (number name held lowered : ℕ) : Type 0 where
  pub file : IsFileNumber setup number
  pub key : IsU64 name
  pub from : IsState held
  pub to : IsState lowered
  pub less : IsTrue (is_part_of lowered held && not (lowered == held))

abbrev pub IsLetter : Setup → Letter → Type 0
IsLetter setup (Wake call) = IsU32 call
IsLetter setup (Break file key from to ack) = IsBreakLetter setup file key from.0 to.0

-- ---- rows

pub record IsOpenRow (setup : Setup) (open_row : OpenRow) : Type 0 where
  -- A declared worker made it by a call with a number of 32 bits.
  pub id : IsOpenId setup open_row.id
  -- Its owner is a session of a declared worker.
  pub owner : IsSid setup open_row.owner
  -- Its handle has 32 bits.
  pub handle : IsU32 open_row.handle
  -- Its file is declared.
  pub file : IsFileNumber setup open_row.file
  -- It has one access right at least, and none that has no name.
  pub access : IsAccess open_row.access.0
  -- Its share mode is made of the three share bits.
  pub share : IsShare open_row.share.0
  -- The guid and the key of its lease have 64 bits.
  pub lease : IfSome open_row.lease IsLeaseName
  -- Its durable seconds have 32 bits.
  pub durable : IsU32 open_row.durable
  -- It was opened at a moment of the script's clock.
  pub opened : IsMoment open_row.opened.0

pub record IsBreaking (breaking : Breaking) : Type 0 where
  -- What was asked for is a state.
  pub asked : IsState breaking.asked.0
  -- What is needed by now is a state.
  pub needed : IsState breaking.needed.0
  -- It counts as acknowledged 35 seconds after a moment of the script's clock.
  pub until : (35 ≤ breaking.until.0) × (breaking.until.0 ≤ MAX_MOMENT + 35)

pub record IsLeaseRow (setup : Setup) (lease : LeaseRow) : Type 0 where
  -- Its guid and its key have 64 bits.
  pub name : IsLeaseName lease.name
  -- Its file is declared.
  pub file : IsFileNumber setup lease.file
  -- What it holds is a state.
  pub held : IsState lease.held.0
  -- So are the states of its break, whose end is 35 seconds after a moment of the script's clock.
  pub breaking : IfSome lease.breaking IsBreaking

pub record IsRangeRow (setup : Setup) (range : RangeRow) : Type 0 where
  -- It is of an open that a declared worker made.
  pub id : IsOpenId setup range.id
  -- Its file is declared.
  pub file : IsFileNumber setup range.file
  -- Its start and its length have 64 bits.
  pub span : IsSpan range.span
  -- It ends at 2^64 at most.
  pub end : range.span.start + range.span.length ≤ 2 ^ 64

pub record IsHoldRow (setup : Setup) (hold : HoldRow) : Type 0 where
  -- Its owner is a session of a declared worker.
  pub owner : IsSid setup hold.owner
  -- The lock's key has 64 bits.
  pub key : IsU64 hold.key

pub record IsWaiterRow (setup : Setup) (waiter : WaiterRow) : Type 0 where
  -- It is of a session of a declared worker.
  pub sid : IsSid setup waiter.sid
  -- Its call has a number of 32 bits.
  pub call : IsU32 waiter.call
  -- It waits on a declared file, or for a lock with a key of 64 bits.
  pub spot : IsSpot setup waiter.spot
  -- Who stands in its way is a session of a declared worker.
  pub blocker : IfSome waiter.blocker (IsSid setup)

pub record IsPost (setup : Setup) (post : Post) : Type 0 where
  -- It is to a session of a declared worker.
  pub to : IsSid setup post.to
  -- Its call, or its file, key and states, lie in their sets.
  pub letter : IsLetter setup post.letter

pub record IsWorkerRow (setup : Setup) (worker : WorkerRow) : Type 0 where
  -- Its number is that of a declared worker, and its pid the declared one.
  pub declared : option_map (λ info. info.pid) (declared_at setup.workers worker.worker) ≡ Some worker.pid
  -- The pid has 32 bits.
  pub pid : IsPid setup worker.pid
  -- Its sessions count from 1, and have 32 bits.
  pub session : (1 ≤ worker.session) × IsU32 worker.session
  -- It was connected at a moment of the script's clock.
  pub connected : IsMoment worker.connected.0

pub record IsEndedRow (setup : Setup) (ended : EndedRow) : Type 0 where
  -- It was a session of a declared worker.
  pub sid : IsSid setup ended.sid
  -- It ended at a moment of the script's clock.
  pub moment : IsMoment ended.moment.0

-- ---- the table

-- a worker's number and pid
abbrev pub names_worker : WorkerRow → ℕ × ℕ
names_worker worker = (worker.worker, worker.pid)

-- the sessions of a pid that have ended
abbrev pub ended_sessions : Table → ℕ → List ℕ
ended_sessions t pid = map (λ row. row.sid.session) ((view t).ended_of pid)

-- all before the current one, and that one too where the worker is dead
abbrev pub ended_count : WorkerRow → ℕ
ended_count worker = if worker.alive then worker.session - 1 else worker.session

pub record IsInSets (setup : Setup) (t : Table) : Type 0 where
  -- Each open lies in its sets.
  pub opens : AllByRecursion (IsOpenRow setup) t.opens
  -- Each lease lies in its sets.
  pub leases : AllByRecursion (IsLeaseRow setup) t.leases
  -- Each byte range lies in its sets.
  pub ranges : AllByRecursion (IsRangeRow setup) t.ranges
  -- Each hold lies in its sets.
  pub holds : AllByRecursion (IsHoldRow setup) t.holds
  -- Each waiter lies in its sets.
  pub waiters : AllByRecursion (IsWaiterRow setup) t.waiters
  -- Each letter lies in its sets.
  pub letters : AllByRecursion (IsPost setup) t.letters
  -- Each worker lies in its sets.
  pub workers : AllByRecursion (IsWorkerRow setup) t.workers
  -- The workers are the declared ones, in the order of their numbers.
  pub all_workers : map names_worker t.workers ≡ map names_worker (start setup).workers
  -- Each ended session lies in its sets.
  pub ended : AllByRecursion (IsEndedRow setup) t.ended
  -- The ended sessions of a pid are 1, 2, 3 and so on, in this order.
  pub ended_in_order : (pid : ℕ) → CountsFrom 1 (ended_sessions t pid)
  -- They are as many as the session of the pid's worker says.
  pub ended_all : (pid : ℕ) → IfSome ((view t).worker_of pid) (λ worker. length (ended_sessions t pid) ≡ ended_count worker)
  -- Each file that is to go is declared.
  pub pending : AllByRecursion (IsFileNumber setup) t.pending

-- ---- what a change brings

-- What a change adds lies in its sets. Of sessions that live it is known already.
abbrev pub Brings : Setup → Change → Table → Type 0
Brings setup (c.AddOpen open_row) t = IsOpenRow setup open_row
Brings setup (c.TakeOver file id owner handle) t = IsU32 handle
Brings setup (c.AddLease lease) t = IsLeaseRow setup lease
Brings setup (c.SetLease file name held breaking) t = IsState held.0 × IfSome breaking IsBreaking
Brings setup (c.AddRange range) t = IsRangeRow setup range
Brings setup (c.AddPending file) t = IsFileNumber setup file
Brings setup (c.AddHold hold) t = IsU64 hold.key
Brings setup (c.AddWaiter waiter) t = IsU32 waiter.call × IsSpot setup waiter.spot
Brings setup (c.Send post) t = IsLetter setup post.letter
Brings setup (c.EndSession sid moment) t = IsMoment moment.0
Brings setup (c.NextSession sid moment) t = IsMoment moment.0 × IsU32 (sid.session + 1)
Brings setup _ t = Unit {0}

abbrev pub AllBring : Setup → List Change → Table → Type 0
AllBring setup cs t = AllAlong (Brings setup) cs t
