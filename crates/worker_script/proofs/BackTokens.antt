-- The tokens of a call are tokens, and the last one is the stop where there is one.
use Rattle.std.proofs.Common.{◌≡◌, ℕ, zero, suc, ◌-◌, ◌<◌, ◌≤◌, Bool, true, false, not, cond, eqb, leb, ◌&&◌, List, [], ◌∷◌, ◌++◌, length, Option, Some, None, is_some, is_none, refl, ap, ◌∙◌, append-nil, length-append, arith}
use Rattle.std.specs.Prelude.{codes}
use Rattle.std.specs.Fmt.{decimal}
use Rattle.std.specs.List.{AllByRecursion, list_all}
use Rattle.std.specs.Option.{IfSome}
use Rattle.std.proofs.lemmas.Bool.{and_parts, not-true, le-leb, and_right}
use Rattle.std.proofs.lemmas.Bool.Decides.{nat_tests}
use Rattle.std.proofs.lemmas.Fmt.{decimal_nonempty}
use Rattle.sid_core.specs.declared.call.Call.{Call}
use Rattle.sid_core.specs.declared.call.Call.TheVariants.{OpenFile, Close, Delete, Ack, Lock, Unlock, Read, Write, GLock, GUnlock, Recv, Disconnect, Reconnect, Scavenge, Tidy, Status}
use Rattle.sid_core.specs.declared.call.LeaseAsk.{LeaseAsk}
use Rattle.sid_core.specs.declared.call.Mode.{Mode}
use Rattle.sid_core.specs.declared.call.Mode.TheVariants.{Shared, Exclusive}
use Rattle.sid_core.specs.declared.call.Span.{Span}
use Rattle.sid_core.specs.declared.outside.Point.{Point}
use Rattle.sid_core.specs.declared.outside.Point.TheVariants as point
use Rattle.sid_core.specs.Call.{IsCall}
use Rattle.sid_core.specs.Setup.{IsSetup}
use Rattle.sid_core.specs.Values.{IsU32, IsU64, IsSpan, IsState}
use Rattle.sid_core.specs.Words.{word_of, word_text, state_text, share_text, lock_text, glock_text}
use Rattle.worker_script.specs.Text.{token, is_empty}
use Rattle.worker_script.specs.Values.{is_digit}
use Rattle.worker_script.specs.Words.{wait_text, on_text, stop_text, stop_of}
use Rattle.worker_script.specs.Lines.{Draft, script_of}
use Rattle.worker_script.specs.Calls.{begins_stop, last_token, has_stop, call_length, planned_stop}
use Rattle.worker_script.specs.Spelling.{if_chosen, lease_text, lease_tokens, durable_tokens, flag_tokens, span_tokens, access_text, operands, stop_tokens, call_front}
use Rattle.worker_script.specs.Script.{IsInScripts, IsStopInScripts}
use Rattle.worker_script.proofs.BackOptions.{chosen}
use Rattle.worker_script.proofs.BackCalls.{declared32}
use Rattle.worker_script.proofs.Lists.{at-token}
use Rattle.worker_script.proofs.BackText.{is_printable, is_token, all-weaker, all-append}
use Rattle.worker_script.proofs.BackNumbers.{digit-printable, digits-back, access-printable}

-- ---- the tokens of a call

-- a token that is no stop
abbrev pub is_operand : List ℕ → Bool
is_operand t = is_token t && not (begins_stop t)

digits-operand : (t : List ℕ) → 0 < length t → list_all is_digit t ≡ true → is_operand t ≡ true
digits-operand [] some e = absurd (omega arith)
digits-operand (b ∷ t) some e =
    let both = and_parts (is_digit b) (list_all is_digit t) e in
    let range = and_parts (leb 48 b) (leb b 57) both.0 in
    let low = range.0 in
    let apart : eqb b 33 ≡ false = grind (arith, nat_tests) in
    rw (all-weaker is_digit is_printable digit-printable (b ∷ t) e, apart) refl

number-operand : (n : ℕ) → IsU64 n → is_operand (decimal n) ≡ true
number-operand n fits = digits-operand (decimal n) (decimal_nonempty n fits) (digits-back n fits)

number32-operand : (n : ℕ) → IsU32 n → is_operand (decimal n) ≡ true
number32-operand n fits = number-operand n (omega arith)

number-printable : (n : ℕ) → IsU64 n → list_all is_printable (decimal n) ≡ true
number-printable n fits = all-weaker is_digit is_printable digit-printable (decimal n) (digits-back n fits)

record IsOperand (t : List ℕ) : Type 0 where
  is : is_operand t ≡ true

word-operand : (t : List ℕ) → is_operand t ≡ true → IsOperand t
word-operand t e = record { is = e }

either : (b : Bool) (t u : List ℕ) → is_operand t ≡ true → IsOperand u → IsOperand (cond b t u)
either true t u e f = record { is = e }
either false t u e f = f

state-is : (bits : ℕ) → IsOperand (state_text bits)
state-is bits =
    either (eqb bits 0) (codes "-") _ refl (either (eqb bits 1) (codes "R") _ refl
    (either (eqb bits 3) (codes "RH") _ refl (either (eqb bits 5) (codes "RW") _ refl (word-operand (codes "RWH") refl))))

state-operand : (bits : ℕ) → is_operand (state_text bits) ≡ true
state-operand bits = (state-is bits).is

share-is : (bits : ℕ) → IsOperand (share_text bits)
share-is bits =
    either (eqb bits 0) (codes "-") _ refl (either (eqb bits 1) (codes "r") _ refl
    (either (eqb bits 2) (codes "w") _ refl (either (eqb bits 3) (codes "rw") _ refl
    (either (eqb bits 4) (codes "d") _ refl (either (eqb bits 5) (codes "rd") _ refl
    (either (eqb bits 6) (codes "wd") _ refl (word-operand (codes "rwd") refl)))))))

share-operand : (bits : ℕ) → is_operand (share_text bits) ≡ true
share-operand bits = (share-is bits).is

operand-printable : (t : List ℕ) → is_operand t ≡ true → list_all is_printable t ≡ true
operand-printable t e = (and_parts (not (is_empty t)) (list_all is_printable t) (and_parts (is_token t) (not (begins_stop t)) e).0).1

access-operand : (bits : ℕ) → is_operand (access_text bits) ≡ true
access-operand bits = rw (access-printable bits) refl

lease-operand : (ask : LeaseAsk) → IsU64 ask.key → is_operand (lease_text ask) ≡ true
lease-operand ask fits = rw (all-append is_printable (decimal ask.key) (58 ∷ state_text ask.state.0) (number-printable ask.key fits) (operand-printable (state_text ask.state.0) (state-operand ask.state.0))) refl

durable-operand : (n : ℕ) → IsU32 n → is_operand (codes "durable=" ++ decimal n) ≡ true
durable-operand n fits = rw (number-printable n (omega arith)) refl

options-operands : (lease : Option LeaseAsk) (durable : ℕ) (overwrite delete : Bool) → IfSome lease (λ ask. IsU64 ask.key × IsState ask.state.0) → IsU32 durable
    → list_all is_operand (lease_tokens lease ++ (durable_tokens durable ++ (if_chosen overwrite (codes "overwrite") ++ if_chosen delete (codes "delete")))) ≡ true
options-operands None zero false false is fits = refl
options-operands None zero false true is fits = refl
options-operands None zero true false is fits = refl
options-operands None zero true true is fits = refl
options-operands None (suc n) false false is fits = rw (durable-operand (suc n) fits) refl
options-operands None (suc n) false true is fits = rw (durable-operand (suc n) fits) refl
options-operands None (suc n) true false is fits = rw (durable-operand (suc n) fits) refl
options-operands None (suc n) true true is fits = rw (durable-operand (suc n) fits) refl
options-operands (Some ask) zero false false is fits = rw (lease-operand ask is.0) refl
options-operands (Some ask) zero false true is fits = rw (lease-operand ask is.0) refl
options-operands (Some ask) zero true false is fits = rw (lease-operand ask is.0) refl
options-operands (Some ask) zero true true is fits = rw (lease-operand ask is.0) refl
options-operands (Some ask) (suc n) false false is fits = rw (lease-operand ask is.0, durable-operand (suc n) fits) refl
options-operands (Some ask) (suc n) false true is fits = rw (lease-operand ask is.0, durable-operand (suc n) fits) refl
options-operands (Some ask) (suc n) true false is fits = rw (lease-operand ask is.0, durable-operand (suc n) fits) refl
options-operands (Some ask) (suc n) true true is fits = rw (lease-operand ask is.0, durable-operand (suc n) fits) refl

flags-operands : (shares files ranges : Bool) → list_all is_operand (flag_tokens (chosen shares files ranges)) ≡ true
flags-operands true true true = refl
flags-operands true true false = refl
flags-operands true false true = refl
flags-operands true false false = refl
flags-operands false true true = refl
flags-operands false true false = refl
flags-operands false false true = refl
flags-operands false false false = refl

on-operand : (on : Bool) → list_all is_operand (on_text on ∷ []) ≡ true
on-operand false = refl
on-operand true = refl

mode-operand : (mode : Mode) (wait : Bool) → list_all is_operand (lock_text mode ∷ wait_text wait ∷ []) ≡ true
mode-operand Shared false = refl
mode-operand Shared true = refl
mode-operand Exclusive false = refl
mode-operand Exclusive true = refl

glock-operand : (mode : Mode) (wait : Bool) → list_all is_operand (glock_text mode ∷ wait_text wait ∷ []) ≡ true
glock-operand Shared false = refl
glock-operand Shared true = refl
glock-operand Exclusive false = refl
glock-operand Exclusive true = refl

span-operands : (handle : ℕ) (span : Span) → IsU32 handle → IsSpan span → list_all is_operand (span_tokens handle span) ≡ true
span-operands handle span fits is = rw (number32-operand handle fits, number-operand span.start is.0, number-operand span.length is.1) refl

operands-back : (draft : Draft) (call : Call) → IsSetup (script_of draft).setup → IsCall (script_of draft).setup call → IsInScripts call
    → list_all is_operand (word_text (word_of call) ∷ operands call) ≡ true
operands-back draft (OpenFile file access share lease durable overwrite delete) setup is in_scripts =
    rw (number32-operand file (declared32 draft.files file is.0 setup.few_files), access-operand access.0, share-operand share.0, options-operands lease durable overwrite delete is.3 is.4) refl
operands-back draft (Close handle) setup is in_scripts = rw (number32-operand handle is) refl
operands-back draft (Delete handle on) setup is in_scripts = rw (number32-operand handle is) (on-operand on)
operands-back draft (Ack key state) setup is in_scripts = rw (number-operand key is.0, state-operand state.0) refl
operands-back draft (Lock handle span mode wait) setup is in_scripts =
    rw (number32-operand handle is.0, number-operand span.start is.1.0, number-operand span.length is.1.1) (mode-operand mode wait)
operands-back draft (Unlock handle span) setup is in_scripts = span-operands handle span is.0 is.1
operands-back draft (Read handle span) setup is in_scripts = span-operands handle span is.0 is.1
operands-back draft (Write handle span) setup is in_scripts = span-operands handle span is.0 is.1
operands-back draft (GLock key mode wait) setup is in_scripts = rw (number-operand key is) (glock-operand mode wait)
operands-back draft (GUnlock key) setup is in_scripts = rw (number-operand key is) refl
operands-back draft Recv setup is in_scripts = refl
operands-back draft Disconnect setup is in_scripts = refl
operands-back draft (Reconnect other number key) setup is in_scripts =
    rw (number32-operand other (declared32 draft.workers other is.0 (omega (arith, setup.few_workers))), number32-operand number is.1, number-operand key is.2) refl
operands-back draft Scavenge setup is in_scripts = refl
operands-back draft Tidy setup is in_scripts = refl
operands-back draft (Status tables) setup is in_scripts = flags-operands tables.shares tables.files tables.ranges

-- The tokens before the stop are no stops.
pub front-operands : (draft : Draft) (worker : ℕ) (call : Call) → IsU32 worker → IsSetup (script_of draft).setup → IsCall (script_of draft).setup call → IsInScripts call
    → list_all is_operand (call_front worker call) ≡ true
front-operands draft worker call fits setup is in_scripts = rw (number32-operand worker fits) (operands-back draft call setup is in_scripts)

pub number-token : (n : ℕ) → IsU64 n → is_token (decimal n) ≡ true
number-token n fits = (and_parts (is_token (decimal n)) (not (begins_stop (decimal n))) (number-operand n fits)).0

pub number32-token : (n : ℕ) → IsU32 n → is_token (decimal n) ≡ true
number32-token n fits = number-token n (omega arith)

-- ---- the stop

next-token : (n : ℕ) (t : List ℕ) (ts : List (List ℕ)) → token (suc n) (t ∷ ts) ≡ token n ts
next-token n t ts = grind (arith, nat_tests)

token-last : (ts : List (List ℕ)) (t : List ℕ) → token (length ts) (ts ++ t ∷ []) ≡ t
token-last [] t = refl
token-last (u ∷ ts) t = next-token (length ts) u (ts ++ t ∷ []) ∙ token-last ts t

last-push : (ts : List (List ℕ)) (t : List ℕ) → last_token (ts ++ t ∷ []) ≡ t
last-push ts t =
    let more = length-append ts (t ∷ []) in
    ap (λ n. token n (ts ++ t ∷ [])) (omega (arith, more)) ∙ token-last ts t

stop-back : (stop : Point) → IsStopInScripts (Some stop) → stop_of (stop_text stop) ≡ Some stop
unfolding stop_of
stop-back point.Take is = refl
stop-back point.Intent is = refl
stop-back point.Commit is = refl
stop-back point.Store is = refl
stop-back point.Release is = refl
stop-back point.Mourn is = absurd is

stop-begins : (stop : Point) → begins_stop (stop_text stop) ≡ true
stop-begins point.Take = refl
stop-begins point.Intent = refl
stop-begins point.Commit = refl
stop-begins point.Store = refl
stop-begins point.Release = refl
stop-begins point.Mourn = refl

stop-token : (stop : Option Point) → list_all is_token (stop_tokens stop) ≡ true
stop-token None = refl
stop-token (Some point.Take) = refl
stop-token (Some point.Intent) = refl
stop-token (Some point.Commit) = refl
stop-token (Some point.Store) = refl
stop-token (Some point.Release) = refl
stop-token (Some point.Mourn) = refl

-- What the tokens of a call are read as, with its stop behind them.
pub record IsStopped (front : List (List ℕ)) (stop : Option Point) : Type 0 where
  pub counted : call_length (front ++ stop_tokens stop) ≡ length front
  pub has : has_stop (front ++ stop_tokens stop) ≡ is_some stop
  pub planned : planned_stop (front ++ stop_tokens stop) ≡ stop
  pub known : (has_stop (front ++ stop_tokens stop) && is_none (stop_of (last_token (front ++ stop_tokens stop)))) ≡ false
  pub are_tokens : list_all is_token (front ++ stop_tokens stop) ≡ true

has-one : (front : List (List ℕ)) (stop : Point) → 1 ≤ length front → has_stop (front ++ stop_text stop ∷ []) ≡ true
unfolding has_stop
has-one front stop some =
    let more = length-append front (stop_text stop ∷ []) in
    rw (last-push front (stop_text stop), stop-begins stop, le-leb 2 (length (front ++ stop_text stop ∷ [])) (omega (arith, more, some))) refl

never-begins : (ts : List (List ℕ)) → list_all is_operand ts ≡ true → AllByRecursion (λ t. begins_stop t ≡ false) ts
never-begins [] e = tt
never-begins (t ∷ ts) e =
    let both = and_parts (is_operand t) (list_all is_operand ts) e in
    (not-true (begins_stop t) (and_parts (is_token t) (not (begins_stop t)) both.0).1, never-begins ts both.1)

has-none : (front : List (List ℕ)) → 1 ≤ length front → list_all is_operand front ≡ true → has_stop front ≡ false
unfolding has_stop
has-none front some e =
    and_right (leb 2 (length front)) (begins_stop (last_token front)) (at-token (λ t. begins_stop t ≡ false) front (length front - 1) (omega (arith, some)) (never-begins front e))

operand-token : (t : List ℕ) → is_operand t ≡ true → is_token t ≡ true
operand-token t e = (and_parts (is_token t) (not (begins_stop t)) e).0

pub stopped-back : (front : List (List ℕ)) (stop : Option Point) → 1 ≤ length front → list_all is_operand front ≡ true → IsStopInScripts stop → IsStopped front stop
unfolding call_length
stopped-back front None some e is =
    let none = has-none front some e in
    record {
      counted = rw (append-nil front, none) refl;
      has = rw (append-nil front) none;
      planned = rw (append-nil front, none) refl;
      known = rw (append-nil front, none) refl;
      are_tokens = rw (append-nil front) (all-weaker is_operand is_token operand-token front e);
    }
stopped-back front (Some stop) some e is =
    let one = has-one front stop some in
    let more = length-append front (stop_text stop ∷ []) in
    record {
      counted = rw one (omega (arith, more));
      has = one;
      planned = rw (one, last-push front (stop_text stop)) (stop-back stop is);
      known = rw (one, last-push front (stop_text stop), stop-back stop is) refl;
      are_tokens = all-append is_token front (stop_text stop ∷ []) (all-weaker is_operand is_token operand-token front e) (stop-token (Some stop));
    }
