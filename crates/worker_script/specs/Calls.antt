-- Call lines: which calls they spell, and what makes them bad.
use Rattle.std.specs.Prelude.{ℕ, ◌-◌, Bool, true, false, not, ◌==◌, ◌&&◌, ◌||◌, nat_le, if◌then◌else◌, List, [], ◌∷◌, length, Option, Some, None, is_some, is_none, unwrap_or, Result, Ok, Err}
use Rattle.std.specs.List.{list_any}
use Rattle.std.specs.Option.{option_map}
use Rattle.sid_core.specs.declared.call.Call.{Call}
use Rattle.sid_core.specs.declared.call.Call.TheVariants.{OpenFile, Close, Delete, Ack, Lock, Unlock, Read, Write, GLock, GUnlock, Recv, Disconnect, Reconnect, Scavenge, Tidy, Status}
use Rattle.sid_core.specs.declared.call.Span.{Span}
use Rattle.sid_core.specs.declared.outside.Point.{Point}
use Rattle.sid_core.specs.declared.words.CallWord.{CallWord}
use Rattle.sid_core.specs.declared.words.CallWord.TheVariants as word
use Rattle.sid_core.specs.declared.limits.TheConstants.{MAX_CALLS, MAX_STATUS_CALLS}
use Rattle.sid_core.specs.Words.{read_word, read_state, read_share, share_bits, read_lock_mode, read_glock_mode}
use Rattle.worker_script.specs.declared.asked.Asked.{Asked}
use Rattle.worker_script.specs.declared.reason.Reason.{Reason}
use Rattle.worker_script.specs.declared.reason.Reason.TheVariants as reason
use Rattle.worker_script.specs.declared.script.Planned.{Planned}
use Rattle.worker_script.specs.Text.{token}
use Rattle.worker_script.specs.Values.{value, is_u32, is_u64, access}
use Rattle.worker_script.specs.Words.{wait_of, on_of, stop_of}
use Rattle.worker_script.specs.Options.{asked_in, flags_in, tables_of}
use Rattle.worker_script.specs.Script.{statuses_in}
use Rattle.worker_script.specs.Lines.{Draft, planned_in, first_fault, judged, is_declared, with_planned, next_number}

-- The last token is the stop where it begins with `!` and isn't the first.
abbrev pub begins_stop : List ℕ → Bool
begins_stop [] = false
begins_stop (b ∷ bytes) = b == 33

abbrev pub last_token : List (List ℕ) → List ℕ
last_token ts = token (length ts - 1) ts

unfoldable pub has_stop : List (List ℕ) → Bool
has_stop ts = nat_le 2 (length ts) && begins_stop (last_token ts)

-- how many tokens a call line has without its stop
unfoldable pub call_length : List (List ℕ) → ℕ
call_length ts = if has_stop ts then length ts - 1 else length ts

abbrev pub planned_stop : List (List ℕ) → Option Point
planned_stop ts = if has_stop ts then stop_of (last_token ts) else None

-- a line with this word has so many tokens
abbrev pub is_length : CallWord → ℕ → Bool
is_length word.Open count = nat_le 5 count && nat_le count 9
is_length word.Close count = count == 3
is_length word.Delete count = count == 4
is_length word.Ack count = count == 4
is_length word.Lock count = count == 7
is_length word.Unlock count = count == 5
is_length word.Read count = count == 5
is_length word.Write count = count == 5
is_length word.GLock count = count == 5
is_length word.GUnlock count = count == 3
is_length word.Recv count = count == 2
is_length word.Disconnect count = count == 2
is_length word.Reconnect count = count == 5
is_length word.Scavenge count = count == 2
is_length word.Tidy count = count == 2
is_length word.Status count = nat_le 2 count && nat_le count 5

-- The number tokens behind the word are numbers in their ranges.
abbrev pub are_span_numbers : List (List ℕ) → Bool
are_span_numbers ts = is_u32 (token 2 ts) && is_u64 (token 3 ts) && is_u64 (token 4 ts)

abbrev pub are_numbers : CallWord → List (List ℕ) → Bool
are_numbers word.Open ts = is_u32 (token 2 ts)
are_numbers word.Close ts = is_u32 (token 2 ts)
are_numbers word.Delete ts = is_u32 (token 2 ts)
are_numbers word.Ack ts = is_u64 (token 2 ts)
are_numbers word.Lock ts = are_span_numbers ts
are_numbers word.Unlock ts = are_span_numbers ts
are_numbers word.Read ts = are_span_numbers ts
are_numbers word.Write ts = are_span_numbers ts
are_numbers word.GLock ts = is_u64 (token 2 ts)
are_numbers word.GUnlock ts = is_u64 (token 2 ts)
are_numbers word.Recv ts = true
are_numbers word.Disconnect ts = true
are_numbers word.Reconnect ts = is_u32 (token 2 ts) && is_u32 (token 3 ts) && is_u64 (token 4 ts)
are_numbers word.Scavenge ts = true
are_numbers word.Tidy ts = true
are_numbers word.Status ts = true

abbrev pub wrong_length : Option CallWord → ℕ → Bool
wrong_length None count = false
wrong_length (Some w) count = not (is_length w count)

abbrev pub wrong_number : Option CallWord → List (List ℕ) → Bool
wrong_number None ts = false
wrong_number (Some w) ts = not (are_numbers w ts)

abbrev pub is_status : Option CallWord → Bool
is_status (Some word.Status) = true
is_status _ = false

-- `reconnect` names a worker that isn't declared.
abbrev pub names_no_worker : Option CallWord → Draft → List (List ℕ) → Bool
names_no_worker (Some word.Reconnect) draft ts = not (is_declared draft.workers (value (token 2 ts)))
names_no_worker _ draft ts = false

-- whether a worker dies in one of these calls
abbrev pub has_stopped : ℕ → List Planned → Bool
has_stopped worker calls = list_any (λ planned. (planned.worker == worker) && is_some planned.stop) calls

abbrev pub span_of : List (List ℕ) → Span
span_of ts = record { start = value (token 3 ts); length = value (token 4 ts) }

abbrev pub open_with : ℕ → List (List ℕ) → Asked → Call
open_with file ts asked = OpenFile file (record { 0 = unwrap_or (access (token 3 ts)) 0 })
    (unwrap_or (read_share (token 4 ts)) (share_bits 0)) asked.lease asked.durable asked.overwrite asked.delete

abbrev pub both : {A B C : Type 0} → (A → B → C) → Option A → Option B → Option C
both f None b = None
both f (Some a) None = None
both f (Some a) (Some b) = Some (f a b)

-- The call that a line with this word and so many tokens spells, unless an option, a state, a mode, `now`
-- or `wait`, `on` or `off`, or a flag is wrong.
unfoldable pub call_of : CallWord → ℕ → List (List ℕ) → Option Call
call_of word.Open count ts = option_map (open_with (value (token 2 ts)) ts) (asked_in count ts)
call_of word.Close count ts = Some (Close (value (token 2 ts)))
call_of word.Delete count ts = option_map (λ on. Delete (value (token 2 ts)) on) (on_of (token 3 ts))
call_of word.Ack count ts = option_map (λ state. Ack (value (token 2 ts)) state) (read_state (token 3 ts))
call_of word.Lock count ts = both (λ mode wait. Lock (value (token 2 ts)) (span_of ts) mode wait) (read_lock_mode (token 5 ts)) (wait_of (token 6 ts))
call_of word.Unlock count ts = Some (Unlock (value (token 2 ts)) (span_of ts))
call_of word.Read count ts = Some (Read (value (token 2 ts)) (span_of ts))
call_of word.Write count ts = Some (Write (value (token 2 ts)) (span_of ts))
call_of word.GLock count ts = both (λ mode wait. GLock (value (token 2 ts)) mode wait) (read_glock_mode (token 3 ts)) (wait_of (token 4 ts))
call_of word.GUnlock count ts = Some (GUnlock (value (token 2 ts)))
call_of word.Recv count ts = Some Recv
call_of word.Disconnect count ts = Some Disconnect
call_of word.Reconnect count ts = Some (Reconnect (value (token 2 ts)) (value (token 3 ts)) (value (token 4 ts)))
call_of word.Scavenge count ts = Some Scavenge
call_of word.Tidy count ts = Some Tidy
call_of word.Status count ts = option_map (λ flags. Status (tables_of flags)) (flags_in count ts)

-- what makes a call line bad, whether its word is known or not
abbrev pub head_faults : Draft → Option CallWord → ℕ → List (List ℕ) → List (Reason × Bool)
head_faults draft w count ts =
    (reason.WrongLength, wrong_length w count)
    ∷ (reason.WrongNumber, not (is_u32 (token 0 ts)) || wrong_number w ts)
    ∷ (reason.TooManyCalls, nat_le MAX_CALLS (length (planned_in draft)))
    ∷ (reason.TooManyStatuses, is_status w && nat_le MAX_STATUS_CALLS (statuses_in (planned_in draft)))
    ∷ (reason.NoPhase, is_none draft.current)
    ∷ (reason.UnknownWorker, not (is_declared draft.workers (value (token 0 ts))) || names_no_worker w draft ts)
    ∷ []

unfoldable pub head_fault : Draft → Option CallWord → ℕ → List (List ℕ) → Option Reason
head_fault draft w count ts = first_fault (head_faults draft w count ts)

-- the word, or the reason where it is unknown or missing
abbrev pub known : Option CallWord → Result CallWord Reason
known None = Err reason.UnknownCall
known (Some w) = Ok w

-- the word of a call line, or the least reason up to 18 for which the line is bad
abbrev pub head : Draft → Option CallWord → ℕ → List (List ℕ) → Result CallWord Reason
head draft w count ts = judged (head_fault draft w count ts) (known w)

-- what makes an open line bad
abbrev pub open_faults : Draft → ℕ → List (List ℕ) → List (Reason × Bool)
open_faults draft file ts =
    (reason.UnknownFile, not (is_declared draft.files file))
    ∷ (reason.WrongAccess, is_none (access (token 3 ts)))
    ∷ (reason.WrongShare, is_none (read_share (token 4 ts)))
    ∷ []

unfoldable pub open_fault : Draft → CallWord → List (List ℕ) → Option Reason
open_fault draft word.Open ts = first_fault (open_faults draft (value (token 2 ts)) ts)
open_fault draft _ ts = None

-- what makes a call line bad where its worker had its stop, or by its own stop
abbrev pub stop_faults : Draft → List (List ℕ) → List (Reason × Bool)
stop_faults draft ts =
    (reason.AfterStop, has_stopped (value (token 0 ts)) (planned_in draft))
    ∷ (reason.UnknownStop, has_stop ts && is_none (stop_of (last_token ts)))
    ∷ []

unfoldable pub stop_fault : Draft → List (List ℕ) → Option Reason
stop_fault draft ts = first_fault (stop_faults draft ts)

-- the call that is spelled, or the least reason from 22 on
abbrev pub spelled : Draft → List (List ℕ) → Option Call → Result Call Reason
spelled draft ts None = Err reason.WrongOption
spelled draft ts (Some call) = judged (stop_fault draft ts) (Ok call)

-- the call of a line with this word, or the least reason from 19 on for which the line is bad
abbrev pub tail : Draft → ℕ → List (List ℕ) → CallWord → Result Call Reason
tail draft count ts w = judged (open_fault draft w ts) (spelled draft ts (call_of w count ts))

abbrev pub call_behind : Draft → ℕ → List (List ℕ) → Result CallWord Reason → Result Call Reason
call_behind draft count ts (Ok w) = tail draft count ts w
call_behind draft count ts (Err fault) = Err fault

-- the call that a call line spells, or the least reason for which the line is bad
unfoldable pub call_in : Draft → List (List ℕ) → Result Call Reason
call_in draft ts = call_behind draft (call_length ts) ts (head draft (read_word (token 1 ts)) (call_length ts) ts)

abbrev pub planned_call : Draft → ℕ → Call → Option Point → Planned
planned_call draft worker call stop = record { worker = worker; number = next_number draft worker; call = call; stop = stop }

abbrev pub with_call : Draft → ℕ → Call → Option Point → Draft
with_call draft worker call stop = record draft { current = with_planned draft.current (planned_call draft worker call stop) }

-- the call that is spelled is planned
abbrev pub after_call : Draft → List (List ℕ) → Result Call Reason → Result Draft Reason
after_call draft ts (Ok call) = Ok (with_call draft (value (token 0 ts)) call (planned_stop ts))
after_call draft ts (Err fault) = Err fault

unfoldable pub call_line : Draft → List (List ℕ) → Result Draft Reason
call_line draft ts = after_call draft ts (call_in draft ts)
