-- The options of an open, and the flags of a status call.
use Rattle.std.specs.Prelude.{ℕ, ◌+◌, ◌-◌, ◌^◌, Bool, true, false, not, ◌==◌, ◌&&◌, nat_lt, if◌then◌else◌, List, take, drop, Option, Some, None, is_some, is_none, unwrap_or, codes}
use Rattle.std.specs.Str.{bytes_eq}
use Rattle.sid_core.specs.declared.bits.LeaseState.{LeaseState}
use Rattle.sid_core.specs.declared.call.LeaseAsk.{LeaseAsk}
use Rattle.sid_core.specs.declared.call.Tables.{Tables}
use Rattle.worker_script.specs.declared.asked.Asked.{Asked}
use Rattle.worker_script.specs.declared.asked.Flags.{Flags}
use Rattle.worker_script.specs.Text.{before, token}
use Rattle.worker_script.specs.Values.{value, is_number, is_u64}
use Rattle.sid_core.specs.Words.{lease_state, read_state}

abbrev pub no_options : Asked
no_options = record { lease = None; durable = 0; overwrite = false; delete = false }

-- `durable=SECONDS`, once
unfoldable pub with_durable : Asked → List ℕ → Option Asked
with_durable asked seconds =
    if is_number 1 (2 ^ 32 - 1) seconds && (asked.durable == 0) then Some (record asked { durable = value seconds }) else None

-- KEY and STATE have the first colon between them.
abbrev pub key_of : List ℕ → List ℕ
key_of lease = take (before 58 lease) lease

abbrev pub state_in : List ℕ → Option LeaseState
state_in lease = read_state (drop (before 58 lease + 1) lease)

abbrev pub lease_ask : List ℕ → LeaseAsk
lease_ask lease = record { key = value (key_of lease); state = unwrap_or (state_in lease) (lease_state 0) }

-- `lease=KEY:STATE`, once
unfoldable pub with_lease : Asked → List ℕ → Option Asked
with_lease asked lease =
    if is_u64 (key_of lease) && is_some (state_in lease) && is_none asked.lease
    then Some (record asked { lease = Some (lease_ask lease) }) else None

-- one option more, if it is one and none like it was there
unfoldable pub with_option : Asked → List ℕ → Option Asked
with_option asked token =
    if bytes_eq token (codes "overwrite") then (if asked.overwrite then None else Some (record asked { overwrite = true }))
    else if bytes_eq token (codes "delete") then (if asked.delete then None else Some (record asked { delete = true }))
    else if bytes_eq (take 8 token) (codes "durable=") then with_durable asked (drop 8 token)
    else if bytes_eq (take 6 token) (codes "lease=") then with_lease asked (drop 6 token)
    else None

-- the same, where there is a token
abbrev pub add_option : Bool → List ℕ → Option Asked → Option Asked
add_option there token None = None
add_option there token (Some asked) = if there then with_option asked token else Some asked

-- The options stand from the sixth place to the ninth, in a line of so many tokens.
unfoldable pub asked_in : ℕ → List (List ℕ) → Option Asked
asked_in count ts =
    add_option (nat_lt 8 count) (token 8 ts)
    (add_option (nat_lt 7 count) (token 7 ts) (add_option (nat_lt 6 count) (token 6 ts) (add_option (nat_lt 5 count) (token 5 ts) (Some no_options))))

abbrev pub no_flags : Flags
no_flags = record { shares = false; files = false; ranges = false }

-- one flag more: each once, and only one of `-S` and `-L`
unfoldable pub with_flag : Flags → List ℕ → Option Flags
with_flag flags token =
    if bytes_eq token (codes "-S") && not flags.shares && not flags.files then Some (record flags { shares = true })
    else if bytes_eq token (codes "-L") && not flags.shares && not flags.files then Some (record flags { files = true })
    else if bytes_eq token (codes "-B") && not flags.ranges then Some (record flags { ranges = true })
    else None

abbrev pub add_flag : Bool → List ℕ → Option Flags → Option Flags
add_flag there token None = None
add_flag there token (Some flags) = if there then with_flag flags token else Some flags

-- The flags stand from the third place to the fifth.
unfoldable pub flags_in : ℕ → List (List ℕ) → Option Flags
flags_in count ts =
    add_flag (nat_lt 4 count) (token 4 ts) (add_flag (nat_lt 3 count) (token 3 ts) (add_flag (nat_lt 2 count) (token 2 ts) (Some no_flags)))

-- Shares and files unless one of them is chosen alone, and the ranges only beside the files.
abbrev pub tables_of : Flags → Tables
tables_of flags = record { shares = not flags.files; files = not flags.shares; ranges = flags.ranges && not flags.shares }
