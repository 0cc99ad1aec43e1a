-- A worked example: a script with each kind of line, and its text.
use Rattle.std.specs.Prelude.{◌≡◌, ℕ, ◌+◌, true, false, List, [], ◌∷◌, ◌++◌, Option, Some, None, codes, refl}
use Rattle.std.specs.Fmt.{digits}
use Rattle.sid_core.specs.declared.call.Call.{Call}
use Rattle.sid_core.specs.declared.call.Call.TheVariants.{OpenFile, Close, Delete, Ack, Lock, Unlock, Read, Write, GLock, GUnlock, Recv, Disconnect, Reconnect, Scavenge, Tidy, Status}
use Rattle.sid_core.specs.declared.call.Mode.TheVariants.{Shared, Exclusive}
use Rattle.sid_core.specs.declared.call.Span.{Span}
use Rattle.sid_core.specs.declared.outside.Point.{Point}
use Rattle.sid_core.specs.declared.outside.Point.TheVariants as point
use Rattle.sid_core.specs.declared.setup.FileInfo.{FileInfo}
use Rattle.sid_core.specs.declared.setup.WorkerInfo.{WorkerInfo}
use Rattle.worker_script.specs.declared.script.Phase.{Phase}
use Rattle.worker_script.specs.declared.script.Planned.{Planned}
use Rattle.worker_script.specs.declared.script.Script.{Script}
use Rattle.worker_script.specs.Spelling.{script_text}

abbrev worker : ℕ → WorkerInfo
worker number = record { pid = 100 + number; uid = 1000; guid = number; machine = codes "hostA"; share = codes "data"; old = false }

abbrev file : FileInfo
file = record { dev = 1; inode = 11; path = codes "/srv/data"; name = codes "a.txt" }

abbrev plan : ℕ → ℕ → Call → Option Point → Planned
plan worker number call stop = record { worker = worker; number = number; call = call; stop = stop }

abbrev phase_at : ℕ → List Planned → Phase
phase_at moment calls = record { moment = record { 0 = moment }; calls = calls }

abbrev span : Span
span = record { start = 0; length = 100 }

abbrev opens : List Planned
opens =
    plan 1 1 (OpenFile 1 (record { 0 = 0x1F01FF }) (record { 0 = 7 }) (Some (record { key = 9; state = record { 0 = 3 } })) 60 true true) None
    ∷ plan 1 2 (OpenFile 1 (record { 0 = 3 }) (record { 0 = 0 }) None 0 false false) None
    ∷ plan 1 3 (Ack 9 (record { 0 = 0 })) None ∷ plan 1 4 (Delete 1 true) None ∷ plan 1 5 (Delete 1 false) None ∷ plan 1 6 (Close 1) None ∷ []

abbrev locks : List Planned
locks =
    plan 1 7 (Lock 1 span Exclusive true) None ∷ plan 1 8 (Unlock 1 span) None ∷ plan 1 9 (Read 1 span) None ∷ plan 1 10 (Write 1 span) None
    ∷ plan 2 1 (GLock 18446744073709551615 Shared false) None ∷ plan 2 2 (GUnlock 5) None ∷ []

abbrev others : List Planned
others =
    plan 2 3 Recv None ∷ plan 2 4 Disconnect None ∷ plan 2 5 (Reconnect 1 2 9) None ∷ plan 2 6 Scavenge None ∷ plan 2 7 Tidy None
    ∷ plan 2 8 (Status (record { shares = true; files = true; ranges = false })) None
    ∷ plan 2 9 (Status (record { shares = false; files = true; ranges = true })) None
    ∷ plan 2 10 (Status (record { shares = true; files = false; ranges = false })) (Some point.Commit) ∷ []

abbrev example : Script
example = record {
  setup = record { workers = worker 1 ∷ record (worker 2) { old = true } ∷ []; files = file ∷ [] };
  phases = phase_at 0 opens ∷ phase_at 60 locks ∷ phase_at 60 others ∷ [];
}

abbrev example_text : List ℕ
example_text =
    codes "worker 1 101 1000 1 hostA data\n" ++ (codes "worker 2 102 1000 2 hostA data old\n" ++ (codes "file 1 1 11 /srv/data a.txt\n"
    ++ (codes "phase 0\n" ++ (codes "1 open 1 0x1f01ff rwd lease=9:RH durable=60 overwrite delete\n" ++ (codes "1 open 1 0x3 -\n" ++ (codes "1 ack 9 -\n" ++ (codes "1 delete 1 on\n" ++ (codes "1 delete 1 off\n" ++ (codes "1 close 1\n"
    ++ (codes "phase 60\n" ++ (codes "1 lock 1 0 100 x wait\n" ++ (codes "1 unlock 1 0 100\n" ++ (codes "1 read 1 0 100\n" ++ (codes "1 write 1 0 100\n"
    ++ (codes "2 glock 18446744073709551615 r now\n" ++ (codes "2 gunlock 5\n"
    ++ (codes "phase 60\n" ++ (codes "2 recv\n" ++ (codes "2 disconnect\n" ++ (codes "2 reconnect 1 2 9\n" ++ (codes "2 scavenge\n" ++ (codes "2 tidy\n"
    ++ (codes "2 status\n" ++ (codes "2 status -L -B\n" ++ codes "2 status -S !commit\n"))))))))))))))))))))))))

example_is_written : script_text example ≡ example_text
unfolding digits
example_is_written = refl
