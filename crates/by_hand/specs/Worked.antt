-- Two entries over what the worked rows declare, with 8 chains a database: the first worker opens the first file and closes it again.
use Rattle.std.specs.Prelude.{◌≡◌, ℕ, ◌<◌, false, List, [], ◌∷◌, length, fold, map, replicate, Some, None, codes}
use Rattle.sid_core.specs.declared.call.Call.TheVariants as call
use Rattle.sid_core.specs.declared.entry.Entry.{Entry}
use Rattle.sid_core.specs.declared.entry.Event.{Event}
use Rattle.sid_core.specs.declared.entry.Event.TheVariants.{Called}
use Rattle.sid_core.specs.declared.ids.Moment.{Moment}
use Rattle.sid_core.specs.declared.reply.Reply.{Reply}
use Rattle.sid_core.specs.declared.reply.Reply.TheVariants as reply
use Rattle.sid_core.specs.declared.setup.Setup.{Setup}
use Rattle.sid_core.specs.declared.setup.FileInfo.{FileInfo}
use Rattle.sid_core.specs.declared.setup.WorkerInfo.{WorkerInfo}
use Rattle.chain_map.specs.declared.db.Db.TheVariants.{Opens, Locking}
use Rattle.stored_table.specs.Move.{first_chains}
use Rattle.turn_types.specs.Journal.{Chains}
use Rattle.turn_types.specs.Shown.{Shown}
use Rattle.turn_types.specs.Beside.{Beside}
use Rattle.records_replay.specs.Rule.{step}
use Rattle.databases.specs.declared.rule.BySetup.{BySetup}
use Rattle.by_hand.specs.Idle.{IsIdle}
use Rattle.by_hand.specs.Steps.{Plain, plain}
use Rattle.by_hand.specs.declared.change.Decision.{Decision}

abbrev pub worker : ℕ → ℕ → ℕ → List ℕ → WorkerInfo
worker pid uid guid machine = record { pid = pid; uid = uid; guid = guid; machine = machine; share = codes "data"; old = false }

abbrev pub file : ℕ → List ℕ → FileInfo
file inode name = record { dev = 1; inode = inode; path = codes "/srv/data"; name = name }

abbrev pub row : Setup
row = record {
  workers = worker 101 1000 1 (codes "hostA") ∷ worker 102 1001 2 (codes "hostB") ∷ worker 103 1002 3 (codes "hostC") ∷ [];
  files = file 11 (codes "a.txt") ∷ file 12 (codes "b.txt") ∷ [];
}

-- ---- the two entries

abbrev pub at_zero : Moment
at_zero = record { 0 = 0 }

abbrev pub opening : Event
opening = Called 1 at_zero (call.OpenFile 1 (record { 0 = 3 }) (record { 0 = 7 }) None 0 false false) (reply.Granted None false)

abbrev pub closing : Reply → Event
closing answer = Called 2 at_zero (call.Close 1) answer

abbrev pub opened : Entry
opened = record { by = 1; seq = 1; what = opening }

abbrev pub closed : Entry
closed = record { by = 1; seq = 2; what = closing reply.Done }

-- ---- cells that are behind such entries

-- what the entries make of the first chains
abbrev pub behind : List Entry → Chains
behind entries = fold (step row) (first_chains row 8) entries

-- All passes are idle, the journal has these entries alone, all of pass 1, and the chains are what they make.
pub record IsBehind (entries : List Entry) (b : Beside BySetup) (v : Shown BySetup) : Type 0 where
  pub rule : v.rule.setup.now ≡ row
  pub number : v.number ≡ 1
  pub own : v.own ≡ entries
  pub journal : b.journal ≡ entries
  pub chains : b.chains ≡ behind entries
  pub passes : 1 < length b.passes
  pub idle : IsIdle b

-- the same call of a worker that has opened nothing
abbrev pub missed : Entry
missed = record { by = 1; seq = 1; what = closing reply.FileClosed }

-- ---- the bytes

abbrev pub named_chains : List ℕ
named_chains = 6 ∷ 20 ∷ 37 ∷ 44 ∷ 53 ∷ []

abbrev pub handle_key : List ℕ
handle_key = 0 ∷ 0 ∷ 0 ∷ 101 ∷ 0 ∷ 0 ∷ 0 ∷ 1 ∷ []

abbrev pub open_record : List ℕ
open_record = 79 ∷ 80 ∷ 69 ∷ 78 ∷ 1 ∷ 0 ∷ 101 ∷ 0 ∷ 0 ∷ 0 ∷ 1 ∷ 0 ∷ 0 ∷ 0 ∷ 1 ∷ 0 ∷ 0 ∷ 0 ∷ []

abbrev pub file_key : List ℕ
file_key = 0 ∷ 0 ∷ 0 ∷ 0 ∷ 0 ∷ 0 ∷ 0 ∷ 1 ∷ 0 ∷ 0 ∷ 0 ∷ 0 ∷ 0 ∷ 0 ∷ 0 ∷ 11 ∷ replicate 8 0

abbrev pub share_record : List ℕ
share_record = 83 ∷ 72 ∷ 65 ∷ 82 ∷ 2 ∷ 0 ∷ 1 ∷ 0 ∷ 0 ∷ 0 ∷ 9 ∷ 0 ∷ 47 ∷ 115 ∷ 114 ∷ 118 ∷ 47 ∷ 100 ∷ 97 ∷ 116 ∷ 97 ∷ 5 ∷ 0 ∷ 97 ∷ 46 ∷ 116 ∷ 120 ∷ 116 ∷ 0 ∷ 1 ∷ 0 ∷ 0 ∷ 0 ∷ 101 ∷ 0 ∷ 0 ∷ 0 ∷ 1 ∷ 0 ∷ 0 ∷ 0 ∷ 101 ∷ 0 ∷ 0 ∷ 0 ∷ 1 ∷ 0 ∷ 0 ∷ 0 ∷ 1 ∷ 0 ∷ 0 ∷ 0 ∷ 3 ∷ 0 ∷ 0 ∷ 0 ∷ 7 ∷ replicate 34 0

-- ---- what is decided

abbrev pub open_writes : List Plain
open_writes = (Opens, handle_key, Some open_record) ∷ (Locking, file_key, Some share_record) ∷ []

abbrev pub close_writes : List Plain
close_writes = (Opens, handle_key, None) ∷ (Locking, file_key, None) ∷ []

-- The file's record is fetched, and whatever it is, the open is granted.
pub record OpensByHand (x : Decision) : Type 0 where
  pub footprint : x.footprint.now ≡ named_chains
  pub asked : (x.db ≡ Locking) × (x.key.now ≡ file_key)
  pub found : (map plain x.found.changes.now ≡ open_writes) × (x.found.event ≡ opening)
  pub missing : (map plain x.missing.changes.now ≡ open_writes) × (x.missing.event ≡ opening)

-- The handle's record is fetched. Where there is one, it goes, and so does the file's. Else nothing changes.
pub record ClosesByHand (x : Decision) : Type 0 where
  pub footprint : x.footprint.now ≡ named_chains
  pub asked : (x.db ≡ Opens) × (x.key.now ≡ handle_key)
  pub found : (map plain x.found.changes.now ≡ close_writes) × (x.found.event ≡ closing reply.Done)
  pub missing : (map plain x.missing.changes.now ≡ []) × (x.missing.event ≡ closing reply.FileClosed)
