-- Rows that are made by hand, for the worked examples.
use Rattle.std.specs.Prelude.{ℕ, true, false, List, [], ◌∷◌, None, Some, codes}
use Rattle.sid_core.specs.declared.bits.LeaseState.{LeaseState}
use Rattle.sid_core.specs.declared.call.Call.{Call}
use Rattle.sid_core.specs.declared.call.Call.TheVariants.{OpenFile}
use Rattle.sid_core.specs.declared.call.Mode.TheVariants.{Shared, Exclusive}
use Rattle.sid_core.specs.declared.entry.Entry.{Entry}
use Rattle.sid_core.specs.declared.entry.Event.TheVariants.{Called, Died}
use Rattle.sid_core.specs.declared.entry.Letter.TheVariants.{Wake, Break}
use Rattle.sid_core.specs.declared.entry.Post.{Post}
use Rattle.sid_core.specs.declared.ids.LeaseName.{LeaseName}
use Rattle.sid_core.specs.declared.ids.Moment.{Moment}
use Rattle.sid_core.specs.declared.ids.OpenId.{OpenId}
use Rattle.sid_core.specs.declared.ids.Sid.{Sid}
use Rattle.sid_core.specs.declared.ids.Spot.{Spot}
use Rattle.sid_core.specs.declared.reply.Reply.{Reply}
use Rattle.sid_core.specs.declared.reply.Reply.TheVariants.{Granted}
use Rattle.sid_core.specs.declared.setup.Setup.{Setup}
use Rattle.sid_core.specs.declared.setup.WorkerInfo.{WorkerInfo}
use Rattle.serial_table.specs.declared.rows.OpenRow.{OpenRow}
use Rattle.serial_table.specs.declared.rows.Breaking.{Breaking}
use Rattle.serial_table.specs.declared.rows.LeaseRow.{LeaseRow}
use Rattle.serial_table.specs.declared.rows.RangeRow.{RangeRow}
use Rattle.serial_table.specs.declared.rows.HoldRow.{HoldRow}
use Rattle.serial_table.specs.declared.rows.WaiterRow.{WaiterRow}
use Rattle.serial_table.specs.declared.rows.WorkerRow.{WorkerRow}
use Rattle.serial_table.specs.declared.rows.EndedRow.{EndedRow}
use Rattle.serial_table.specs.declared.table.Table.{Table}
use Rattle.serial_table.specs.History.{start}

-- ---- names

abbrev pub sid : ℕ → ℕ → Sid
sid pid session = record { pid = pid; session = session }

abbrev pub id : ℕ → ℕ → OpenId
id pid call = record { pid = pid; call = call }

abbrev pub name : ℕ → ℕ → LeaseName
name guid key = record { guid = guid; key = key }

abbrev pub at : ℕ → Moment
at seconds = record { 0 = seconds }

-- 0 is none, 1 is R, 3 is RH, 5 is RW and 7 is RWH
abbrev pub state : ℕ → LeaseState
state bits = record { 0 = bits }

-- ---- what a script declares

abbrev pub worker_info : ℕ → ℕ → List ℕ → WorkerInfo
worker_info pid guid machine = record { pid = pid; uid = 1000; guid = guid; machine = machine; share = codes "data"; old = false }

-- three workers on three hosts, and two files
abbrev pub setup : Setup
setup = record {
  workers = worker_info 101 1 (codes "hostA") ∷ worker_info 102 2 (codes "hostB") ∷ worker_info 103 3 (codes "hostC") ∷ [];
  files =
      record { dev = 1; inode = 11; path = codes "/srv/data"; name = codes "a.txt" }
      ∷ record { dev = 1; inode = 12; path = codes "/srv/data"; name = codes "b.txt" } ∷ [];
}

-- ---- entries

abbrev pub calls : ℕ → ℕ → ℕ → ℕ → Call → Reply → Entry
calls worker seq number moment call reply = record { by = worker; seq = seq; what = Called number (at moment) call reply }

-- entered by the runner
abbrev pub dies : ℕ → ℕ → ℕ → Entry
dies worker seq moment = record { by = 0; seq = seq; what = Died worker (at moment) }

-- an open without lease, durable seconds, overwrite and delete
abbrev pub opens : ℕ → ℕ → ℕ → Call
opens file access share = OpenFile file (record { 0 = access }) (record { 0 = share }) None 0 false false

abbrev pub granted : Reply
granted = Granted None false

-- ---- workers: 101 lives in session 1, 102 in session 3, and 103 died in session 2

abbrev pub worker_101 : WorkerRow
worker_101 = record { worker = 1; pid = 101; alive = true; session = 1; connected = at 0 }

abbrev pub worker_102 : WorkerRow
worker_102 = record { worker = 2; pid = 102; alive = true; session = 3; connected = at 40 }

abbrev pub worker_103 : WorkerRow
worker_103 = record { worker = 3; pid = 103; alive = false; session = 2; connected = at 20 }

abbrev pub ended : ℕ → ℕ → ℕ → EndedRow
ended pid session moment = record { sid = sid pid session; moment = at moment }

abbrev pub ends : List EndedRow
ends = ended 102 1 10 ∷ ended 103 1 20 ∷ ended 102 2 40 ∷ ended 103 2 50 ∷ []

-- these workers, and nothing open
abbrev pub nothing_open : Table
nothing_open = record (start setup) { workers = worker_101 ∷ worker_102 ∷ worker_103 ∷ []; ended = ends }

-- ---- opens: the one of a pid and call, of a file, that its first owner still has

abbrev pub plain : ℕ → ℕ → ℕ → ℕ → OpenRow
plain pid session call file = record {
  id = id pid call;
  owner = sid pid session;
  handle = call;
  file = file;
  access = record { 0 = 0x3 };
  share = record { 0 = 7 };
  lease = None;
  durable = 0;
  opened = at 5;
  marked = false;
}

abbrev pub leased : LeaseName → OpenRow → OpenRow
leased lease open_row = record open_row { lease = Some lease }

-- for 60 seconds
abbrev pub durable : OpenRow → OpenRow
durable open_row = record open_row { durable = 60 }

-- ---- leases

abbrev pub lease : LeaseName → ℕ → ℕ → LeaseRow
lease lease_name file held = record { name = lease_name; file = file; held = state held; breaking = None }

-- a break that was made at moment 70
abbrev pub breaking : ℕ → ℕ → Breaking
breaking asked needed = record { asked = state asked; needed = state needed; until = at 105 }

abbrev pub breaks : ℕ → ℕ → LeaseRow → LeaseRow
breaks asked needed row = record row { breaking = Some (breaking asked needed) }

-- ---- ranges, holds, waiters and letters

-- exclusive, of 10 bytes
abbrev pub range : OpenId → ℕ → ℕ → RangeRow
range open_id file start = record { id = open_id; file = file; span = record { start = start; length = 10 }; mode = Exclusive }

abbrev pub shared_range : OpenId → ℕ → ℕ → RangeRow
shared_range open_id file start = record (range open_id file start) { mode = Shared }

abbrev pub shares_lock : Sid → ℕ → HoldRow
shares_lock owner key = record { owner = owner; key = key; mode = Shared }

abbrev pub holds_alone : Sid → ℕ → HoldRow
holds_alone owner key = record { owner = owner; key = key; mode = Exclusive }

-- behind another session
abbrev pub waits : Sid → ℕ → Spot → Sid → WaiterRow
waits waiting call spot blocker = record { sid = waiting; call = call; spot = spot; blocker = Some blocker; upgrade = false }

-- behind nobody
abbrev pub just_waits : Sid → ℕ → Spot → WaiterRow
just_waits waiting call spot = record { sid = waiting; call = call; spot = spot; blocker = None; upgrade = false }

abbrev pub wakes : Sid → ℕ → Post
wakes to call = record { to = to; letter = Wake call }

-- a break from RWH to RH, which has to be acknowledged
abbrev pub break_letter : Sid → Post
break_letter to = record { to = to; letter = Break 1 7 (state 7) (state 3) true }
