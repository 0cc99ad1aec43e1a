-- The code's own: what is kept of a call line's tokens once they are read. No rule is stated here.
use Rattle.std.specs.Prelude.{ℕ, Bool, true, false, cond, not, List, Option, Some, None, Result, Ok, Err}
use Rattle.std.specs.Option.{option_map}
use Rattle.sid_core.specs.declared.call.Call.{Call}
use Rattle.sid_core.specs.declared.call.Call.TheVariants as call
use Rattle.sid_core.specs.declared.outside.Point.{Point}
use Rattle.sid_core.specs.declared.words.CallWord.{CallWord}
use Rattle.sid_core.specs.declared.words.CallWord.TheVariants as word
use Rattle.sid_core.specs.Words.{read_state, read_lock_mode, read_glock_mode}
use Rattle.worker_script.specs.declared.numbered.Numbered.{Numbered}
use Rattle.worker_script.specs.declared.numbered.Numbered.TheVariants.{Open, Close, Delete, Ack, Lock, Unlock, Read, Write, GLock, GUnlock, Recv, Disconnect, Reconnect, Scavenge, Tidy, Status}
use Rattle.worker_script.specs.declared.reason.Reason.{Reason}
use Rattle.worker_script.specs.declared.reason.Reason.TheVariants as reason
use Rattle.worker_script.specs.declared.stop.Stop.{Stop}
use Rattle.worker_script.specs.declared.stop.Stop.TheVariants.{Absent, At, Unknown}
use Rattle.worker_script.specs.Text.{token}
use Rattle.worker_script.specs.Values.{value}
use Rattle.worker_script.specs.Words.{wait_of, on_of, stop_of}
use Rattle.worker_script.specs.Options.{asked_in, flags_in, tables_of}
use Rattle.worker_script.specs.Lines.{Draft, first_fault, judged, is_declared}
use Rattle.worker_script.specs.Calls.{has_stop, last_token, are_numbers, span_of, both, open_with, open_faults, stop_fault}

-- ---- the stop

abbrev pub known_stop : Option Point → Stop
known_stop None = Unknown
known_stop (Some point) = At point

abbrev pub stop_in : List (List ℕ) → Stop
stop_in ts = cond (has_stop ts) (known_stop (stop_of (last_token ts))) Absent

abbrev pub point_of : Stop → Option Point
point_of Absent = None
point_of (At point) = Some point
point_of Unknown = None

-- ---- the numbers behind the word

abbrev pub plain : CallWord → List (List ℕ) → Option Numbered
plain word.Open ts = Some (Open (value (token 2 ts)))
plain word.Close ts = Some (Close (value (token 2 ts)))
plain word.Delete ts = Some (Delete (value (token 2 ts)))
plain word.Ack ts = Some (Ack (value (token 2 ts)))
plain word.Lock ts = Some (Lock (value (token 2 ts)) (span_of ts))
plain word.Unlock ts = Some (Unlock (value (token 2 ts)) (span_of ts))
plain word.Read ts = Some (Read (value (token 2 ts)) (span_of ts))
plain word.Write ts = Some (Write (value (token 2 ts)) (span_of ts))
plain word.GLock ts = Some (GLock (value (token 2 ts)))
plain word.GUnlock ts = Some (GUnlock (value (token 2 ts)))
plain word.Recv ts = Some Recv
plain word.Disconnect ts = Some Disconnect
plain word.Reconnect ts = Some (Reconnect (value (token 2 ts)) (value (token 3 ts)) (value (token 4 ts)))
plain word.Scavenge ts = Some Scavenge
plain word.Tidy ts = Some Tidy
plain word.Status ts = Some Status

-- none where one of them isn't a number in its range
abbrev pub numbers_behind : CallWord → List (List ℕ) → Option Numbered
numbers_behind w ts = cond (are_numbers w ts) (plain w ts) None

abbrev pub numbers_in : Option CallWord → List (List ℕ) → Option Numbered
numbers_in None ts = None
numbers_in (Some w) ts = numbers_behind w ts

-- a `reconnect` of a worker that isn't declared
abbrev pub names_nobody : Draft → Option Numbered → Bool
names_nobody draft (Some (Reconnect worker call key)) = not (is_declared draft.workers worker)
names_nobody draft _ = false

-- ---- the call

-- what the other tokens make of it
abbrev pub finished : Numbered → ℕ → List (List ℕ) → Option Call
finished (Open file) count ts = option_map (open_with file ts) (asked_in count ts)
finished (Close handle) count ts = Some (call.Close handle)
finished (Delete handle) count ts = option_map (λ on. call.Delete handle on) (on_of (token 3 ts))
finished (Ack key) count ts = option_map (λ state. call.Ack key state) (read_state (token 3 ts))
finished (Lock handle span) count ts = both (λ mode wait. call.Lock handle span mode wait) (read_lock_mode (token 5 ts)) (wait_of (token 6 ts))
finished (Unlock handle span) count ts = Some (call.Unlock handle span)
finished (Read handle span) count ts = Some (call.Read handle span)
finished (Write handle span) count ts = Some (call.Write handle span)
finished (GLock key) count ts = both (λ mode wait. call.GLock key mode wait) (read_glock_mode (token 3 ts)) (wait_of (token 4 ts))
finished (GUnlock key) count ts = Some (call.GUnlock key)
finished Recv count ts = Some call.Recv
finished Disconnect count ts = Some call.Disconnect
finished (Reconnect worker number key) count ts = Some (call.Reconnect worker number key)
finished Scavenge count ts = Some call.Scavenge
finished Tidy count ts = Some call.Tidy
finished Status count ts = option_map (λ flags. call.Status (tables_of flags)) (flags_in count ts)

abbrev pub or_wrong_option : Option Call → Result Call Reason
or_wrong_option None = Err reason.WrongOption
or_wrong_option (Some call) = Ok call

-- an open line is judged by its file, access and share first
abbrev pub fault_before : Draft → Numbered → List (List ℕ) → Option Reason
fault_before draft (Open file) ts = first_fault (open_faults draft file ts)
fault_before draft _ ts = None

abbrev pub judged_call : Draft → Numbered → ℕ → List (List ℕ) → Result Call Reason
judged_call draft n count ts = judged (fault_before draft n ts) (or_wrong_option (finished n count ts))

abbrev pub unless_stopped : Draft → List (List ℕ) → Result Call Reason → Result Call Reason
unless_stopped draft ts (Ok call) = judged (stop_fault draft ts) (Ok call)
unless_stopped draft ts (Err fault) = Err fault

abbrev pub is_unknown : Stop → Bool
is_unknown Absent = false
is_unknown (At point) = false
is_unknown Unknown = true

-- the same, where there is a word
abbrev pub tail_in : Draft → Option Numbered → ℕ → List (List ℕ) → Result Call Reason
tail_in draft None count ts = Err reason.UnknownCall
tail_in draft (Some kept) count ts = unless_stopped draft ts (judged_call draft kept count ts)
