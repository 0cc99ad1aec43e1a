-- What is kept of a call line serves as its tokens do.
use Rattle.std.proofs.Common.{◌≡◌, ℕ, Bool, true, false, not, cond, ◌&&◌, List, Option, Some, None, is_some, is_none, Result, refl}
use Rattle.sid_core.specs.declared.call.Call.{Call}
use Rattle.sid_core.specs.declared.outside.Point.{Point}
use Rattle.sid_core.specs.declared.words.CallWord.{CallWord}
use Rattle.sid_core.specs.declared.words.CallWord.TheVariants as word
use Rattle.worker_script.specs.declared.numbered.Numbered.{Numbered}
use Rattle.worker_script.specs.declared.stop.Stop.TheVariants.{Absent}
use Rattle.worker_script.specs.declared.reason.Reason.{Reason}
use Rattle.worker_script.specs.Words.{stop_of}
use Rattle.worker_script.specs.Lines.{Draft, judged}
use Rattle.worker_script.specs.Calls.{has_stop, last_token, planned_stop, are_numbers, wrong_number, names_no_worker, call_of, open_fault, known, spelled, call_behind}
use Rattle.worker_script.specs.Operands.{known_stop, stop_in, point_of, is_unknown, numbers_in, names_nobody, or_wrong_option, judged_call, unless_stopped, tail_in}

-- ---- the stop

known-point : (stop : Option Point) → point_of (known_stop stop) ≡ stop
known-point None = refl
known-point (Some point) = refl

either-point : (here : Bool) (stop : Option Point) → point_of (cond here (known_stop stop) Absent) ≡ cond here stop None
either-point true stop = known-point stop
either-point false stop = refl

-- The point at which the worker dies.
pub planned_stop_is : (ts : List (List ℕ)) → point_of (stop_in ts) ≡ planned_stop ts
planned_stop_is ts = either-point (has_stop ts) (stop_of (last_token ts))

known-unknown : (stop : Option Point) → is_unknown (known_stop stop) ≡ is_none stop
known-unknown None = refl
known-unknown (Some point) = refl

either-unknown : (here : Bool) (stop : Option Point) → is_unknown (cond here (known_stop stop) Absent) ≡ (here && is_none stop)
either-unknown true stop = known-unknown stop
either-unknown false stop = refl

pub unknown_is : (ts : List (List ℕ)) → is_unknown (stop_in ts) ≡ (has_stop ts && is_none (stop_of (last_token ts)))
unknown_is ts = either-unknown (has_stop ts) (stop_of (last_token ts))

-- ---- the numbers

some-numbers : (right : Bool) (m : Numbered) → not right ≡ is_none (cond right (Some m) None)
some-numbers true m = refl
some-numbers false m = refl

-- A number is wrong where there is a word and nothing is kept.
pub wrong_numbers : (w : Option CallWord) (ts : List (List ℕ)) → wrong_number w ts ≡ (is_some w && is_none (numbers_in w ts))
wrong_numbers None ts = refl
wrong_numbers (Some word.Delete) ts = some-numbers (are_numbers word.Delete ts) _
wrong_numbers (Some word.Open) ts = some-numbers (are_numbers word.Open ts) _
wrong_numbers (Some word.Close) ts = some-numbers (are_numbers word.Close ts) _
wrong_numbers (Some word.Ack) ts = some-numbers (are_numbers word.Ack ts) _
wrong_numbers (Some word.Lock) ts = some-numbers (are_numbers word.Lock ts) _
wrong_numbers (Some word.Unlock) ts = some-numbers (are_numbers word.Unlock ts) _
wrong_numbers (Some word.Read) ts = some-numbers (are_numbers word.Read ts) _
wrong_numbers (Some word.Write) ts = some-numbers (are_numbers word.Write ts) _
wrong_numbers (Some word.GLock) ts = some-numbers (are_numbers word.GLock ts) _
wrong_numbers (Some word.GUnlock) ts = some-numbers (are_numbers word.GUnlock ts) _
wrong_numbers (Some word.Recv) ts = refl
wrong_numbers (Some word.Disconnect) ts = refl
wrong_numbers (Some word.Reconnect) ts = some-numbers (are_numbers word.Reconnect ts) _
wrong_numbers (Some word.Scavenge) ts = refl
wrong_numbers (Some word.Tidy) ts = refl
wrong_numbers (Some word.Status) ts = refl

quiet : (draft : Draft) (right : Bool) (m : Numbered) → false ≡ names_nobody draft (Some m) → false ≡ names_nobody draft (cond right (Some m) None)
quiet draft true m e = e
quiet draft false m e = refl

said : (draft : Draft) (right : Bool) (m : Numbered) (x : Bool) → not right ≡ false → x ≡ names_nobody draft (Some m) → x ≡ names_nobody draft (cond right (Some m) None)
said draft true m x right e = e
said draft false m x right e = cc

-- The worker that a line names is the one that is kept.
pub names_no_worker_is : (draft : Draft) (w : Option CallWord) (ts : List (List ℕ)) → wrong_number w ts ≡ false → names_no_worker w draft ts ≡ names_nobody draft (numbers_in w ts)
names_no_worker_is draft None ts e = refl
names_no_worker_is draft (Some word.Delete) ts e = quiet draft (are_numbers word.Delete ts) _ refl
names_no_worker_is draft (Some word.Reconnect) ts e = said draft (are_numbers word.Reconnect ts) _ _ e refl
names_no_worker_is draft (Some word.Open) ts e = quiet draft (are_numbers word.Open ts) _ refl
names_no_worker_is draft (Some word.Close) ts e = quiet draft (are_numbers word.Close ts) _ refl
names_no_worker_is draft (Some word.Ack) ts e = quiet draft (are_numbers word.Ack ts) _ refl
names_no_worker_is draft (Some word.Lock) ts e = quiet draft (are_numbers word.Lock ts) _ refl
names_no_worker_is draft (Some word.Unlock) ts e = quiet draft (are_numbers word.Unlock ts) _ refl
names_no_worker_is draft (Some word.Read) ts e = quiet draft (are_numbers word.Read ts) _ refl
names_no_worker_is draft (Some word.Write) ts e = quiet draft (are_numbers word.Write ts) _ refl
names_no_worker_is draft (Some word.GLock) ts e = quiet draft (are_numbers word.GLock ts) _ refl
names_no_worker_is draft (Some word.GUnlock) ts e = quiet draft (are_numbers word.GUnlock ts) _ refl
names_no_worker_is draft (Some word.Recv) ts e = refl
names_no_worker_is draft (Some word.Disconnect) ts e = refl
names_no_worker_is draft (Some word.Scavenge) ts e = refl
names_no_worker_is draft (Some word.Tidy) ts e = refl
names_no_worker_is draft (Some word.Status) ts e = refl

-- ---- the call

-- A call that isn't spelled is told before a stop is judged.
pass : (draft : Draft) (ts : List (List ℕ)) (fault : Option Reason) (call : Option Call) → judged fault (spelled draft ts call) ≡ unless_stopped draft ts (judged fault (or_wrong_option call))
pass draft ts None None = refl
pass draft ts None (Some call) = refl
pass draft ts (Some reason) call = refl

with-numbers : (draft : Draft) (count : ℕ) (ts : List (List ℕ)) (m : Numbered) (r : Result Call Reason) (right : Bool) → not right ≡ false
    → r ≡ unless_stopped draft ts (judged_call draft m count ts) → r ≡ tail_in draft (cond right (Some m) None) count ts
with-numbers draft count ts m r true right e = e
with-numbers draft count ts m r false right e = cc

-- What is kept makes the call that the tokens make, or the same fault.
pub call_in_is : (draft : Draft) (w : Option CallWord) (count : ℕ) (ts : List (List ℕ)) → wrong_number w ts ≡ false → call_behind draft count ts (known w) ≡ tail_in draft (numbers_in w ts) count ts
unfolding call_of open_fault
call_in_is draft None count ts e = refl
call_in_is draft (Some word.Delete) count ts e = with-numbers draft count ts _ _ (are_numbers word.Delete ts) e (pass draft ts (open_fault draft word.Delete ts) (call_of word.Delete count ts))
call_in_is draft (Some word.Open) count ts e = with-numbers draft count ts _ _ (are_numbers word.Open ts) e (pass draft ts (open_fault draft word.Open ts) (call_of word.Open count ts))
call_in_is draft (Some word.Close) count ts e = with-numbers draft count ts _ _ (are_numbers word.Close ts) e (pass draft ts (open_fault draft word.Close ts) (call_of word.Close count ts))
call_in_is draft (Some word.Ack) count ts e = with-numbers draft count ts _ _ (are_numbers word.Ack ts) e (pass draft ts (open_fault draft word.Ack ts) (call_of word.Ack count ts))
call_in_is draft (Some word.Lock) count ts e = with-numbers draft count ts _ _ (are_numbers word.Lock ts) e (pass draft ts (open_fault draft word.Lock ts) (call_of word.Lock count ts))
call_in_is draft (Some word.Unlock) count ts e = with-numbers draft count ts _ _ (are_numbers word.Unlock ts) e (pass draft ts (open_fault draft word.Unlock ts) (call_of word.Unlock count ts))
call_in_is draft (Some word.Read) count ts e = with-numbers draft count ts _ _ (are_numbers word.Read ts) e (pass draft ts (open_fault draft word.Read ts) (call_of word.Read count ts))
call_in_is draft (Some word.Write) count ts e = with-numbers draft count ts _ _ (are_numbers word.Write ts) e (pass draft ts (open_fault draft word.Write ts) (call_of word.Write count ts))
call_in_is draft (Some word.GLock) count ts e = with-numbers draft count ts _ _ (are_numbers word.GLock ts) e (pass draft ts (open_fault draft word.GLock ts) (call_of word.GLock count ts))
call_in_is draft (Some word.GUnlock) count ts e = with-numbers draft count ts _ _ (are_numbers word.GUnlock ts) e (pass draft ts (open_fault draft word.GUnlock ts) (call_of word.GUnlock count ts))
call_in_is draft (Some word.Recv) count ts e = (pass draft ts (open_fault draft word.Recv ts) (call_of word.Recv count ts))
call_in_is draft (Some word.Disconnect) count ts e = (pass draft ts (open_fault draft word.Disconnect ts) (call_of word.Disconnect count ts))
call_in_is draft (Some word.Reconnect) count ts e = with-numbers draft count ts _ _ (are_numbers word.Reconnect ts) e (pass draft ts (open_fault draft word.Reconnect ts) (call_of word.Reconnect count ts))
call_in_is draft (Some word.Scavenge) count ts e = (pass draft ts (open_fault draft word.Scavenge ts) (call_of word.Scavenge count ts))
call_in_is draft (Some word.Tidy) count ts e = (pass draft ts (open_fault draft word.Tidy ts) (call_of word.Tidy count ts))
call_in_is draft (Some word.Status) count ts e = (pass draft ts (open_fault draft word.Status ts) (call_of word.Status count ts))
