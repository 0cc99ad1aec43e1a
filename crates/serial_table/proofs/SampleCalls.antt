-- Calls and entries of the worked examples whose replies the rules give.
use Rattle.std.specs.Prelude.{ℕ, Bool, true, false, List, None, Some}
use Rattle.std.specs.List.{flat_map}
use Rattle.sid_core.specs.declared.call.Call.{Call}
use Rattle.sid_core.specs.declared.call.Call.TheVariants.{OpenFile, Status}
use Rattle.sid_core.specs.declared.call.Span.{Span}
use Rattle.sid_core.specs.declared.entry.Entry.{Entry}
use Rattle.sid_core.specs.declared.reply.Reply.TheVariants.{Pending}
use Rattle.sid_core.specs.declared.ids.Sid.{Sid}
use Rattle.serial_table.specs.declared.decision.Caller.{Caller}
use Rattle.serial_table.specs.Tables.{line}
use Rattle.serial_table.proofs.Samples.{sid, at, state, calls, dies}

-- ---- who calls: call 9 of a worker at moment 70

abbrev pub us : Sid
us = sid 101 1

abbrev pub them : Sid
them = sid 102 3

abbrev pub our_call : Caller
our_call = record { sid = us; guid = 1; number = 9; moment = at 70 }

abbrev pub their_call : Caller
their_call = record { sid = them; guid = 2; number = 9; moment = at 70 }

-- ---- calls and entries

-- a call of a worker, by its number and moment; its reply is left to the rules
abbrev pub does : ℕ → ℕ → ℕ → Call → Entry
does worker number moment call = calls worker number number moment call Pending

-- a worker dies at a moment
abbrev pub ends : ℕ → ℕ → Entry
ends worker moment = dies worker 1 moment

-- of a file, with access and share, under the lease with this key, asking for this state
abbrev pub opens_leased : ℕ → ℕ → ℕ → ℕ → ℕ → Call
opens_leased file access share key asked = OpenFile file (record { 0 = access }) (record { 0 = share }) (Some (record { key = key; state = state asked })) 0 false false

-- the same, to last for so many seconds
abbrev pub opens_durable : ℕ → ℕ → ℕ → ℕ → ℕ → ℕ → Call
opens_durable file access share key asked seconds =
    OpenFile file (record { 0 = access }) (record { 0 = share }) (Some (record { key = key; state = state asked })) seconds false false

-- without a lease, to overwrite the file
abbrev pub overwrites : ℕ → ℕ → ℕ → Call
overwrites file access share = OpenFile file (record { 0 = access }) (record { 0 = share }) None 0 true false

abbrev pub span : ℕ → ℕ → Span
span start length = record { start = start; length = length }

-- a status call, by whether it shows shares, files and ranges
abbrev pub shows : Bool → Bool → Bool → Call
shows shares files ranges = Status (record { shares = shares; files = files; ranges = ranges })

abbrev pub printed : List (List ℕ) → List ℕ
printed lines = flat_map line lines
