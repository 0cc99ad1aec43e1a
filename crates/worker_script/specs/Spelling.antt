-- How a script is written. It has other spellings too: with more spaces, with leading zeros, with options and flags in another
-- order, with lines that are skipped.
use Rattle.std.specs.Prelude.{ℕ, zero, suc, ◌+◌, Bool, false, not, cond, List, [], ◌∷◌, ◌++◌, map, Option, Some, None, codes}
use Rattle.std.specs.List.{flat_map}
use Rattle.std.specs.Fmt.{decimal, digits}
use Rattle.sid_core.specs.declared.call.Call.{Call}
use Rattle.sid_core.specs.declared.call.Call.TheVariants.{OpenFile, Close, Delete, Ack, Lock, Unlock, Read, Write, GLock, GUnlock, Recv, Disconnect, Reconnect, Scavenge, Tidy, Status}
use Rattle.sid_core.specs.declared.call.LeaseAsk.{LeaseAsk}
use Rattle.sid_core.specs.declared.call.Span.{Span}
use Rattle.sid_core.specs.declared.call.Tables.{Tables}
use Rattle.sid_core.specs.declared.outside.Point.{Point}
use Rattle.sid_core.specs.declared.setup.FileInfo.{FileInfo}
use Rattle.sid_core.specs.declared.setup.WorkerInfo.{WorkerInfo}
use Rattle.sid_core.specs.Words.{word_of, word_text, state_text, share_text, lock_text, glock_text}
use Rattle.worker_script.specs.declared.script.Phase.{Phase}
use Rattle.worker_script.specs.declared.script.Planned.{Planned}
use Rattle.worker_script.specs.declared.script.Script.{Script}
use Rattle.worker_script.specs.Words.{wait_text, on_text, stop_text}

-- ---- the tokens of a line

abbrev pub if_chosen : Bool → List ℕ → List (List ℕ)
if_chosen chosen token = cond chosen (token ∷ []) []

abbrev pub access_text : ℕ → List ℕ
access_text bits = codes "0x" ++ digits 16 false bits

abbrev pub lease_text : LeaseAsk → List ℕ
lease_text ask = codes "lease=" ++ (decimal ask.key ++ (58 ∷ state_text ask.state.0))

abbrev pub lease_tokens : Option LeaseAsk → List (List ℕ)
lease_tokens None = []
lease_tokens (Some ask) = lease_text ask ∷ []

abbrev pub durable_tokens : ℕ → List (List ℕ)
durable_tokens zero = []
durable_tokens (suc seconds) = (codes "durable=" ++ decimal (suc seconds)) ∷ []

abbrev pub flag_tokens : Tables → List (List ℕ)
flag_tokens tables =
    if_chosen (not tables.files) (codes "-S") ++ (if_chosen (not tables.shares) (codes "-L") ++ if_chosen tables.ranges (codes "-B"))

abbrev pub span_tokens : ℕ → Span → List (List ℕ)
span_tokens handle span = decimal handle ∷ decimal span.start ∷ decimal span.length ∷ []

-- what stands behind the call's word
abbrev pub operands : Call → List (List ℕ)
operands (OpenFile file access share lease durable overwrite delete) =
    decimal file ∷ access_text access.0 ∷ share_text share.0 ∷ (lease_tokens lease ++ (durable_tokens durable ++ (if_chosen overwrite (codes "overwrite") ++ if_chosen delete (codes "delete"))))
operands (Close handle) = decimal handle ∷ []
operands (Delete handle on) = decimal handle ∷ on_text on ∷ []
operands (Ack key state) = decimal key ∷ state_text state.0 ∷ []
operands (Lock handle span mode wait) = span_tokens handle span ++ (lock_text mode ∷ wait_text wait ∷ [])
operands (Unlock handle span) = span_tokens handle span
operands (Read handle span) = span_tokens handle span
operands (Write handle span) = span_tokens handle span
operands (GLock key mode wait) = decimal key ∷ glock_text mode ∷ wait_text wait ∷ []
operands (GUnlock key) = decimal key ∷ []
operands Recv = []
operands Disconnect = []
operands (Reconnect worker call key) = decimal worker ∷ decimal call ∷ decimal key ∷ []
operands Scavenge = []
operands Tidy = []
operands (Status tables) = flag_tokens tables

abbrev pub stop_tokens : Option Point → List (List ℕ)
stop_tokens None = []
stop_tokens (Some point) = stop_text point ∷ []

-- the tokens before the stop
abbrev pub call_front : ℕ → Call → List (List ℕ)
call_front worker call = decimal worker ∷ word_text (word_of call) ∷ operands call

abbrev pub call_tokens : Planned → List (List ℕ)
call_tokens planned = call_front planned.worker planned.call ++ stop_tokens planned.stop

abbrev pub worker_tokens : ℕ → WorkerInfo → List (List ℕ)
worker_tokens number worker =
    codes "worker" ∷ decimal number ∷ decimal worker.pid ∷ decimal worker.uid ∷ decimal worker.guid ∷ worker.machine ∷ worker.share ∷ if_chosen worker.old (codes "old")

abbrev pub file_tokens : ℕ → FileInfo → List (List ℕ)
file_tokens number file = codes "file" ∷ decimal number ∷ decimal file.dev ∷ decimal file.inode ∷ file.path ∷ file.name ∷ []

abbrev pub phase_tokens : Phase → List (List ℕ)
phase_tokens phase = codes "phase" ∷ decimal phase.moment.0 ∷ []

-- ---- the lines of a script

-- tokens with a space before each
abbrev pub spaced : List (List ℕ) → List ℕ
spaced [] = []
spaced (token ∷ tokens) = 32 ∷ (token ++ spaced tokens)

-- and with none before the first
abbrev pub line_text : List (List ℕ) → List ℕ
line_text [] = []
line_text (token ∷ tokens) = token ++ spaced tokens

abbrev pub worker_lines : ℕ → List WorkerInfo → List (List ℕ)
worker_lines number [] = []
worker_lines number (worker ∷ workers) = line_text (worker_tokens number worker) ∷ worker_lines (number + 1) workers

abbrev pub file_lines : ℕ → List FileInfo → List (List ℕ)
file_lines number [] = []
file_lines number (file ∷ files) = line_text (file_tokens number file) ∷ file_lines (number + 1) files

abbrev pub call_lines : List Planned → List (List ℕ)
call_lines calls = map (λ planned. line_text (call_tokens planned)) calls

abbrev pub phase_lines : Phase → List (List ℕ)
phase_lines phase = line_text (phase_tokens phase) ∷ call_lines phase.calls

abbrev pub script_lines : Script → List (List ℕ)
script_lines script =
    worker_lines 1 script.setup.workers ++ (file_lines 1 script.setup.files ++ flat_map phase_lines script.phases)

-- lines, each with its end
abbrev pub ended : List (List ℕ) → List ℕ
ended [] = []
ended (line ∷ lines) = line ++ (10 ∷ ended lines)

abbrev pub script_text : Script → List ℕ
script_text script = ended (script_lines script)
