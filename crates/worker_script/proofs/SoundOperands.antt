-- What the tokens behind a call's word are read as lies in its sets.
use Rattle.std.proofs.Common.{◌≡◌, ℕ, ◌-◌, ◌^◌, Bool, true, false, not, cond, eqb, ltb, ◌&&◌, IsTrue, List, take, drop, Option, Some, None, is_some, is_none, unwrap_or, refl, arith}
use Rattle.std.proofs.lemmas.Bool.{and_parts, not-true}
use Rattle.std.specs.Option.{IfSome}
use Rattle.std.specs.Prelude.{codes}
use Rattle.std.specs.Str.{bytes_eq}
use Rattle.sid_core.specs.declared.bits.LeaseState.{LeaseState}
use Rattle.sid_core.specs.declared.outside.Point.{Point}
use Rattle.sid_core.specs.Values.{IsU32, IsU64, IsState, IsSpan}
use Rattle.sid_core.specs.Words.{lease_state, read_state, state_text}
use Rattle.sid_core.proofs.Spelling.{state-spelled}
use Rattle.worker_script.specs.declared.asked.Asked.{Asked}
use Rattle.worker_script.specs.declared.asked.Flags.{Flags}
use Rattle.worker_script.specs.Text.{token}
use Rattle.worker_script.specs.Values.{value, is_number, is_u32, is_u64}
use Rattle.worker_script.specs.Words.{stop_of}
use Rattle.worker_script.specs.Options.{no_options, with_durable, with_lease, with_option, key_of, state_in, lease_ask, add_option, asked_in, no_flags, with_flag, add_flag, flags_in, tables_of}
use Rattle.worker_script.specs.Script.{can_choose, IsStopInScripts}
use Rattle.worker_script.specs.Calls.{last_token, has_stop, planned_stop, are_span_numbers, span_of}
use Rattle.worker_script.proofs.Facts.{number-range}

-- ---- whichever of two it is

either : {X : Type 0} (P : X → Type 0) (b : Bool) (x y : Option X) → IfSome x P → IfSome y P → IfSome (cond b x y) P
either P true x y one other = one
either P false x y one other = other

tested : {X : Type 0} (P : X → Type 0) (b : Bool) (x : X) (other : Option X) → (b ≡ true → P x) → IfSome other P → IfSome (cond b (Some x) other) P
tested P true x other one others = one refl
tested P false x other one others = others

-- ---- numbers

pub u32-known : (t : List ℕ) → is_u32 t ≡ true → IsU32 (value t)
u32-known t e = let range = number-range 0 (2 ^ 32 - 1) t e in omega (arith, range.1)

pub u64-known : (t : List ℕ) → is_u64 t ≡ true → IsU64 (value t)
u64-known t e = let range = number-range 0 (2 ^ 64 - 1) t e in omega (arith, range.1)

pub span-known : (ts : List (List ℕ)) → are_span_numbers ts ≡ true → IsU32 (value (token 2 ts)) × IsSpan (span_of ts)
span-known ts e =
    let all = and_parts (is_u32 (token 2 ts) && is_u64 (token 3 ts)) (is_u64 (token 4 ts)) e in
    let front = and_parts (is_u32 (token 2 ts)) (is_u64 (token 3 ts)) all.0 in
    (u32-known (token 2 ts) front.0, (u64-known (token 3 ts) front.1, u64-known (token 4 ts) all.1))

-- ---- the state of a lease

state-only : (t : List ℕ) (o : Option LeaseState) → IfSome o (λ s. (t ≡ state_text s.0) × IsState s.0) → IfSome o (λ s. IsState s.0)
state-only t None is = tt
state-only t (Some s) is = is.1

pub state-known : (t : List ℕ) → IfSome (read_state t) (λ s. IsState s.0)
state-known t = state-only t (read_state t) (state-spelled t)

state-there : (o : Option LeaseState) → is_some o ≡ true → IfSome o (λ s. IsState s.0) → IsState (unwrap_or o (lease_state 0)).0
state-there None some is = cc
state-there (Some s) some is = is

-- ---- the options of an open

abbrev pub IsAsked : Asked → Type 0
IsAsked asked = IfSome asked.lease (λ ask. IsU64 ask.key × IsState ask.state.0) × IsU32 asked.durable

durable-kept : (asked : Asked) (seconds : List ℕ) → IsAsked asked → IfSome (with_durable asked seconds) IsAsked
unfolding with_durable
durable-kept asked seconds is =
    tested IsAsked (is_number 1 (2 ^ 32 - 1) seconds && eqb asked.durable 0) (record asked { durable = value seconds }) None
    (λ e. let range = number-range 1 (2 ^ 32 - 1) seconds (and_parts _ _ e).0 in (is.0, omega (arith, range.1))) tt

lease-kept : (asked : Asked) (lease : List ℕ) → IsAsked asked → IfSome (with_lease asked lease) IsAsked
unfolding with_lease
lease-kept asked lease is =
    tested IsAsked (is_u64 (key_of lease) && is_some (state_in lease) && is_none asked.lease) (record asked { lease = Some (lease_ask lease) }) None
    (λ e. let front = and_parts _ _ (and_parts (is_u64 (key_of lease) && is_some (state_in lease)) (is_none asked.lease) e).0 in
    ((u64-known (key_of lease) front.0, state-there (state_in lease) front.1 (state-known _)), is.1)) tt

option-kept : (asked : Asked) (token : List ℕ) → IsAsked asked → IfSome (with_option asked token) IsAsked
unfolding with_option
option-kept asked token is =
    either IsAsked (bytes_eq token (codes "overwrite")) _ _ (either IsAsked asked.overwrite None (Some (record asked { overwrite = true })) tt is)
    (either IsAsked (bytes_eq token (codes "delete")) _ _ (either IsAsked asked.delete None (Some (record asked { delete = true })) tt is)
    (either IsAsked (bytes_eq (take 8 token) (codes "durable=")) _ _ (durable-kept asked (drop 8 token) is)
    (either IsAsked (bytes_eq (take 6 token) (codes "lease=")) _ None (lease-kept asked (drop 6 token) is) tt)))

added : (there : Bool) (token : List ℕ) (asked : Option Asked) → IfSome asked IsAsked → IfSome (add_option there token asked) IsAsked
added there token None is = tt
added true token (Some asked) is = option-kept asked token is
added false token (Some asked) is = is

-- An open asks for a lease with a key and a state, if for one, and is durable for a number of seconds.
pub asked-known : (count : ℕ) (ts : List (List ℕ)) → IfSome (asked_in count ts) IsAsked
unfolding asked_in
asked-known count ts =
    added (ltb 8 count) (token 8 ts) _
    (added (ltb 7 count) (token 7 ts) _ (added (ltb 6 count) (token 6 ts) _ (added (ltb 5 count) (token 5 ts) (Some no_options) (tt, omega arith))))

-- ---- the flags of a status call

-- only one of `-S` and `-L`
abbrev pub AreFlags : Flags → Type 0
AreFlags flags = (flags.shares && flags.files) ≡ false

flag-kept : (flags : Flags) (token : List ℕ) → AreFlags flags → IfSome (with_flag flags token) AreFlags
unfolding with_flag
flag-kept flags token are =
    tested AreFlags (bytes_eq token (codes "-S") && not flags.shares && not flags.files) (record flags { shares = true }) _
    (λ e. not-true flags.files (and_parts (bytes_eq token (codes "-S") && not flags.shares) (not flags.files) e).1)
    (tested AreFlags (bytes_eq token (codes "-L") && not flags.shares && not flags.files) (record flags { files = true }) _
    (λ e. let none = not-true flags.shares (and_parts _ _ (and_parts (bytes_eq token (codes "-L") && not flags.shares) (not flags.files) e).0).1 in rw none refl)
    (tested AreFlags (bytes_eq token (codes "-B") && not flags.ranges) (record flags { ranges = true }) None (λ _. are) tt))

flagged : (there : Bool) (token : List ℕ) (flags : Option Flags) → IfSome flags AreFlags → IfSome (add_flag there token flags) AreFlags
flagged there token None are = tt
flagged true token (Some flags) are = flag-kept flags token are
flagged false token (Some flags) are = are

pub flags-known : (count : ℕ) (ts : List (List ℕ)) → IfSome (flags_in count ts) AreFlags
unfolding flags_in
flags-known count ts =
    flagged (ltb 4 count) (token 4 ts) _ (flagged (ltb 3 count) (token 3 ts) _ (flagged (ltb 2 count) (token 2 ts) (Some no_flags) refl))

tables : (shares files ranges : Bool) → (shares && files) ≡ false → IsTrue (can_choose (tables_of (record { shares = shares; files = files; ranges = ranges })))
tables true true ranges one = cc
tables true false true one = refl
tables true false false one = refl
tables false true ranges one = refl
tables false false ranges one = refl

-- Such flags choose shares or files, and ranges only beside files.
pub tables-known : (flags : Flags) → AreFlags flags → IsTrue (can_choose (tables_of flags))
tables-known flags one = tables flags.shares flags.files flags.ranges one

-- ---- the stop

either-stop : (b : Bool) (x y : Option Point) → IsStopInScripts x → IsStopInScripts y → IsStopInScripts (cond b x y)
either-stop true x y one other = one
either-stop false x y one other = other

stop-known : (t : List ℕ) → IsStopInScripts (stop_of t)
unfolding stop_of
stop-known t =
    either-stop (bytes_eq t (codes "!take")) _ _ tt (either-stop (bytes_eq t (codes "!intent")) _ _ tt
    (either-stop (bytes_eq t (codes "!commit")) _ _ tt (either-stop (bytes_eq t (codes "!store")) _ _ tt
    (either-stop (bytes_eq t (codes "!release")) _ _ tt tt))))

pub planned_stop-known : (ts : List (List ℕ)) → IsStopInScripts (planned_stop ts)
planned_stop-known ts = either-stop (has_stop ts) (stop_of (last_token ts)) None (stop-known (last_token ts)) tt
