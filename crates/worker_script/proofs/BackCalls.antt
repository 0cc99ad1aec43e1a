-- A call that is written is read back from its tokens.
use Rattle.std.proofs.Common.{◌≡◌, ℕ, ◌-◌, ◌≤◌, ◌^◌, Bool, true, false, ◌&&◌, List, ◌++◌, length, Some, None, refl, ap, arith}
use Rattle.std.proofs.lemmas.Bool.{le-leb}
use Rattle.std.specs.Fmt.{decimal}
use Rattle.sid_core.specs.declared.call.Call.{Call}
use Rattle.sid_core.specs.declared.call.Call.TheVariants.{OpenFile, Close, Delete, Ack, Lock, Unlock, Read, Write, GLock, GUnlock, Recv, Disconnect, Reconnect, Scavenge, Tidy, Status}
use Rattle.sid_core.specs.declared.call.Span.{Span}
use Rattle.sid_core.specs.Call.{IsCall}
use Rattle.sid_core.specs.Setup.{IsSetup, IsDeclared}
use Rattle.sid_core.specs.Values.{IsU32, IsSpan}
use Rattle.sid_core.specs.Words.{word_of, word_text, read_word}
use Rattle.sid_core.proofs.Spelling.{state-back, share-back, lock-back, glock-back}
use Rattle.worker_script.specs.Values.{value, is_number}
use Rattle.worker_script.specs.Words.{wait_text, wait_of, on_text, on_of}
use Rattle.worker_script.specs.Lines.{Draft, script_of, is_declared}
use Rattle.worker_script.specs.Calls.{is_length, are_numbers, names_no_worker, open_fault, call_of}
use Rattle.worker_script.specs.Spelling.{call_front}
use Rattle.worker_script.specs.Script.{IsInScripts}
use Rattle.worker_script.proofs.BackNumbers.{value-back, value32-back, u32-back, u64-back, access-back}
use Rattle.worker_script.proofs.BackOptions.{asked-back, options-length, flags-back, tables-back, flags-length}

-- ---- the call

on-back : (on : Bool) → on_of (on_text on) ≡ Some on
unfolding on_of
on-back false = refl
on-back true = refl

wait-back : (wait : Bool) → wait_of (wait_text wait) ≡ Some wait
unfolding wait_of
wait-back false = refl
wait-back true = refl

pub declared-back : {X : Type 0} (xs : List X) (number : ℕ) → IsDeclared xs number → is_declared xs number ≡ true
declared-back xs number is = let low = is.0 in let high = is.1 in rw (le-leb 1 number low, le-leb number (length xs) high) refl

pub declared32 : {X : Type 0} (xs : List X) (number : ℕ) → IsDeclared xs number → length xs ≤ 10000 → IsU32 number
declared32 xs number is few = omega (arith, is.1, few)

spans-back : (handle : ℕ) (span : Span) → IsU32 handle → IsSpan span
    → (is_number 0 (2 ^ 32 - 1) (decimal handle) && is_number 0 (2 ^ 64 - 1) (decimal span.start) && is_number 0 (2 ^ 64 - 1) (decimal span.length)) ≡ true
spans-back handle span fits is = rw (u32-back handle fits, u64-back span.start is.0, u64-back span.length is.1) refl

span-back : (make : ℕ → Span → Call) (handle : ℕ) (span : Span) → IsU32 handle → IsSpan span
    → Some (make (value (decimal handle)) (record { start = value (decimal span.start); length = value (decimal span.length) })) ≡ Some (make handle span)
span-back make handle span fits is = rw (value32-back handle fits, value-back span.start is.0, value-back span.length is.1) refl

-- What a written call, with these tokens behind it, is read as by its parts.
pub record IsBack (draft : Draft) (worker : ℕ) (call : Call) (rest : List (List ℕ)) : Type 0 where
  pub word : read_word (word_text (word_of call)) ≡ Some (word_of call)
  pub counted : is_length (word_of call) (length (call_front worker call)) ≡ true
  pub numbers : are_numbers (word_of call) (call_front worker call ++ rest) ≡ true
  pub named : names_no_worker (Some (word_of call)) draft (call_front worker call ++ rest) ≡ false
  pub opens : open_fault draft (word_of call) (call_front worker call ++ rest) ≡ None
  pub spelled : call_of (word_of call) (length (call_front worker call)) (call_front worker call ++ rest) ≡ Some call

pub call-back : (draft : Draft) (worker : ℕ) (call : Call) (rest : List (List ℕ)) → IsSetup (script_of draft).setup → IsCall (script_of draft).setup call → IsInScripts call
    → IsBack draft worker call rest
unfolding read_word open_fault call_of
call-back draft worker (OpenFile file access share lease durable overwrite delete) rest setup is in_scripts =
    let fits = declared32 draft.files file is.0 setup.few_files in
    record {
      word = refl;
      counted = options-length lease durable overwrite delete;
      numbers = u32-back file fits;
      named = refl;
      opens = rw (value32-back file fits, declared-back draft.files file is.0, access-back access.0 is.1, share-back share.0 is.2) refl;
      spelled = rw (value32-back file fits, asked-back _ _ _ _ _ lease durable overwrite delete rest is.3 is.4, access-back access.0 is.1, share-back share.0 is.2) refl;
    }
call-back draft worker (Close handle) rest setup is in_scripts =
    record { word = refl; counted = refl; numbers = u32-back handle is; named = refl; opens = refl; spelled = rw (value32-back handle is) refl }
call-back draft worker (Delete handle on) rest setup is in_scripts =
    record { word = refl; counted = refl; numbers = u32-back handle is; named = refl; opens = refl; spelled = rw (value32-back handle is, on-back on) refl }
call-back draft worker (Ack key state) rest setup is in_scripts =
    record { word = refl; counted = refl; numbers = u64-back key is.0; named = refl; opens = refl; spelled = rw (value-back key is.0, state-back state.0 is.1) refl }
call-back draft worker (Lock handle span mode wait) rest setup is in_scripts =
    record {
      word = refl;
      counted = refl;
      numbers = spans-back handle span is.0 is.1;
      named = refl;
      opens = refl;
      spelled = rw (value32-back handle is.0, value-back span.start is.1.0, value-back span.length is.1.1, lock-back mode, wait-back wait) refl;
    }
call-back draft worker (Unlock handle span) rest setup is in_scripts =
    record { word = refl; counted = refl; numbers = spans-back handle span is.0 is.1; named = refl; opens = refl; spelled = span-back Unlock handle span is.0 is.1 }
call-back draft worker (Read handle span) rest setup is in_scripts =
    record { word = refl; counted = refl; numbers = spans-back handle span is.0 is.1; named = refl; opens = refl; spelled = span-back Read handle span is.0 is.1 }
call-back draft worker (Write handle span) rest setup is in_scripts =
    record { word = refl; counted = refl; numbers = spans-back handle span is.0 is.1; named = refl; opens = refl; spelled = span-back Write handle span is.0 is.1 }
call-back draft worker (GLock key mode wait) rest setup is in_scripts =
    record { word = refl; counted = refl; numbers = u64-back key is; named = refl; opens = refl; spelled = rw (value-back key is, glock-back mode, wait-back wait) refl }
call-back draft worker (GUnlock key) rest setup is in_scripts =
    record { word = refl; counted = refl; numbers = u64-back key is; named = refl; opens = refl; spelled = rw (value-back key is) refl }
call-back draft worker Recv rest setup is in_scripts = record { word = refl; counted = refl; numbers = refl; named = refl; opens = refl; spelled = refl }
call-back draft worker Disconnect rest setup is in_scripts = record { word = refl; counted = refl; numbers = refl; named = refl; opens = refl; spelled = refl }
call-back draft worker (Reconnect other number key) rest setup is in_scripts =
    let fits = declared32 draft.workers other is.0 (omega (arith, setup.few_workers)) in
    record {
      word = refl;
      counted = refl;
      numbers = rw (u32-back other fits, u32-back number is.1, u64-back key is.2) refl;
      named = rw (value32-back other fits, declared-back draft.workers other is.0) refl;
      opens = refl;
      spelled = rw (value32-back other fits, value32-back number is.1, value-back key is.2) refl;
    }
call-back draft worker Scavenge rest setup is in_scripts = record { word = refl; counted = refl; numbers = refl; named = refl; opens = refl; spelled = refl }
call-back draft worker Tidy rest setup is in_scripts = record { word = refl; counted = refl; numbers = refl; named = refl; opens = refl; spelled = refl }
call-back draft worker (Status tables) rest setup is in_scripts =
    record {
      word = refl;
      counted = flags-length tables.shares tables.files tables.ranges in_scripts;
      numbers = refl;
      named = refl;
      opens = refl;
      spelled = rw (flags-back _ _ tables.shares tables.files tables.ranges rest in_scripts) (ap Some (tables-back tables.shares tables.files tables.ranges in_scripts));
    }
