-- The options of an open and the flags of a status call that are written are read back.
use Rattle.std.proofs.Common.{◌≡◌, ℕ, zero, suc, ◌+◌, ◌-◌, ◌^◌, Bool, true, false, not, leb, IsTrue, List, [], ◌∷◌, ◌++◌, length, drop, Option, Some, None, refl, sym, ap, ◌∙◌, arith}
use Rattle.std.specs.Prelude.{codes}
use Rattle.std.specs.Fmt.{decimal}
use Rattle.std.specs.Option.{IfSome}
use Rattle.std.proofs.lemmas.Bool.{and_parts}
use Rattle.std.proofs.lemmas.Bool.Decides.{nat_tests}
use Rattle.std.proofs.lemmas.List.{take_at, drop_at, drop-drop}
use Rattle.sid_core.specs.declared.call.Call.TheVariants.{Status}
use Rattle.sid_core.specs.declared.call.LeaseAsk.{LeaseAsk}
use Rattle.sid_core.specs.declared.call.Tables.{Tables}
use Rattle.sid_core.specs.declared.words.CallWord.TheVariants as word
use Rattle.sid_core.specs.Values.{IsU32, IsU64, IsState}
use Rattle.sid_core.specs.Words.{state_text, read_state}
use Rattle.sid_core.proofs.Spelling.{state-back}
use Rattle.worker_script.specs.declared.asked.Asked.{Asked}
use Rattle.worker_script.specs.declared.asked.Flags.{Flags}
use Rattle.worker_script.specs.Text.{before}
use Rattle.worker_script.specs.Values.{is_digit}
use Rattle.worker_script.specs.Options.{with_durable, with_lease, with_option, key_of, state_in, asked_in, with_flag, flags_in, tables_of}
use Rattle.worker_script.specs.Calls.{is_length}
use Rattle.worker_script.specs.Spelling.{if_chosen, lease_text, lease_tokens, durable_tokens, flag_tokens}
use Rattle.worker_script.specs.Script.{can_choose}
use Rattle.worker_script.proofs.BackText.{is_other, all-weaker, before-ended}
use Rattle.worker_script.proofs.BackNumbers.{digits-back, value-back, value32-back, u64-back, number-back}

-- ---- options

no-colon : (b : ℕ) → is_digit b ≡ true → is_other 58 b ≡ true
no-colon b e = let both = and_parts (leb 48 b) (leb b 57) e in let high = both.1 in grind (arith, nat_tests)

key-ends : (key : ℕ) (state : List ℕ) → IsU64 key → before 58 (decimal key ++ (58 ∷ state)) ≡ length (decimal key)
key-ends key state fits = before-ended 58 (decimal key) state (all-weaker is_digit (is_other 58) no-colon (decimal key) (digits-back key fits))

key-back : (key : ℕ) (state : List ℕ) → IsU64 key → key_of (decimal key ++ (58 ∷ state)) ≡ decimal key
key-back key state fits = rw (key-ends key state fits) (take_at (decimal key) (58 ∷ state) (length (decimal key)) refl)

drop-one : (key state : List ℕ) → drop (length key + 1) (key ++ (58 ∷ state)) ≡ state
drop-one key state = sym (drop-drop 1 (length key) (key ++ (58 ∷ state))) ∙ ap (λ l. drop 1 l) (drop_at key (58 ∷ state) (length key) refl)

state-in-back : (key : ℕ) (state : List ℕ) → IsU64 key → state_in (decimal key ++ (58 ∷ state)) ≡ read_state state
state-in-back key state fits = rw (key-ends key state fits, drop-one (decimal key) state) refl

lease-back : (asked : Asked) (ask : LeaseAsk) → asked.lease ≡ None → IsU64 ask.key → IsState ask.state.0
    → with_option asked (lease_text ask) ≡ Some (record asked { lease = Some ask })
unfolding with_option with_lease
lease-back asked ask none key state =
    rw (
      key-back ask.key (state_text ask.state.0) key,
      state-in-back ask.key (state_text ask.state.0) key,
      u64-back ask.key key,
      value-back ask.key key,
      state-back ask.state.0 state,
      none,
    ) refl

durable-back : (asked : Asked) (seconds : ℕ) → asked.durable ≡ 0 → IsU32 (suc seconds)
    → with_option asked (codes "durable=" ++ decimal (suc seconds)) ≡ Some (record asked { durable = suc seconds })
unfolding with_option with_durable
durable-back asked seconds none fits =
    rw (number-back 1 (2 ^ 32 - 1) (suc seconds) (omega arith) (omega (arith, fits)) (omega (arith, fits)), value32-back (suc seconds) fits, none) refl

overwrite-back : (asked : Asked) → asked.overwrite ≡ false → with_option asked (codes "overwrite") ≡ Some (record asked { overwrite = true })
unfolding with_option
overwrite-back asked none = rw none refl

delete-back : (asked : Asked) → asked.delete ≡ false → with_option asked (codes "delete") ≡ Some (record asked { delete = true })
unfolding with_option
delete-back asked none = rw none refl

-- what an open asks for
abbrev pub asks : Option LeaseAsk → ℕ → Bool → Bool → Asked
asks lease durable overwrite delete = record { lease = lease; durable = durable; overwrite = overwrite; delete = delete }

pub asked-back : (a b c d e : List ℕ) (lease : Option LeaseAsk) (durable : ℕ) (overwrite delete : Bool) (rest : List (List ℕ))
    → IfSome lease (λ ask. IsU64 ask.key × IsState ask.state.0) → IsU32 durable
    → asked_in (length (a ∷ b ∷ c ∷ d ∷ e ∷ (lease_tokens lease ++ (durable_tokens durable ++ (if_chosen overwrite (codes "overwrite") ++ if_chosen delete (codes "delete"))))))
    (a ∷ b ∷ c ∷ d ∷ e ∷ (lease_tokens lease ++ (durable_tokens durable ++ (if_chosen overwrite (codes "overwrite") ++ if_chosen delete (codes "delete")))) ++ rest)
    ≡ Some (asks lease durable overwrite delete)
unfolding asked_in
asked-back a b c d e None zero false false rest is fits = refl
asked-back a b c d e None zero false true rest is fits = rw (delete-back (asks None zero false false) refl) refl
asked-back a b c d e None zero true false rest is fits = rw (overwrite-back (asks None zero false false) refl) refl
asked-back a b c d e None zero true true rest is fits =
    rw (overwrite-back (asks None zero false false) refl, delete-back (asks None zero true false) refl) refl
asked-back a b c d e None (suc n) false false rest is fits = rw (durable-back (asks None zero false false) n refl fits) refl
asked-back a b c d e None (suc n) false true rest is fits =
    rw (durable-back (asks None zero false false) n refl fits, delete-back (asks None (suc n) false false) refl) refl
asked-back a b c d e None (suc n) true false rest is fits =
    rw (durable-back (asks None zero false false) n refl fits, overwrite-back (asks None (suc n) false false) refl) refl
asked-back a b c d e None (suc n) true true rest is fits =
    rw (durable-back (asks None zero false false) n refl fits, overwrite-back (asks None (suc n) false false) refl, delete-back (asks None (suc n) true false) refl) refl
asked-back a b c d e (Some ask) zero false false rest is fits = rw (lease-back (asks None zero false false) ask refl is.0 is.1) refl
asked-back a b c d e (Some ask) zero false true rest is fits =
    rw (lease-back (asks None zero false false) ask refl is.0 is.1, delete-back (asks (Some ask) zero false false) refl) refl
asked-back a b c d e (Some ask) zero true false rest is fits =
    rw (lease-back (asks None zero false false) ask refl is.0 is.1, overwrite-back (asks (Some ask) zero false false) refl) refl
asked-back a b c d e (Some ask) zero true true rest is fits =
    rw (lease-back (asks None zero false false) ask refl is.0 is.1, overwrite-back (asks (Some ask) zero false false) refl, delete-back (asks (Some ask) zero true false) refl) refl
asked-back a b c d e (Some ask) (suc n) false false rest is fits =
    rw (lease-back (asks None zero false false) ask refl is.0 is.1, durable-back (asks (Some ask) zero false false) n refl fits) refl
asked-back a b c d e (Some ask) (suc n) false true rest is fits =
    rw (lease-back (asks None zero false false) ask refl is.0 is.1, durable-back (asks (Some ask) zero false false) n refl fits, delete-back (asks (Some ask) (suc n) false false) refl) refl
asked-back a b c d e (Some ask) (suc n) true false rest is fits =
    rw (lease-back (asks None zero false false) ask refl is.0 is.1, durable-back (asks (Some ask) zero false false) n refl fits, overwrite-back (asks (Some ask) (suc n) false false) refl) refl
asked-back a b c d e (Some ask) (suc n) true true rest is fits =
    rw (lease-back (asks None zero false false) ask refl is.0 is.1, durable-back (asks (Some ask) zero false false) n refl fits, overwrite-back (asks (Some ask) (suc n) false false) refl, delete-back (asks (Some ask) (suc n) true false) refl) refl

pub options-length : (lease : Option LeaseAsk) (durable : ℕ) (overwrite delete : Bool)
    → is_length word.Open (length ([] ∷ [] ∷ [] ∷ [] ∷ [] ∷ (lease_tokens lease ++ (durable_tokens durable ++ (if_chosen overwrite (codes "overwrite") ++ if_chosen delete (codes "delete")))))) ≡ true
options-length None zero false false = refl
options-length None zero false true = refl
options-length None zero true false = refl
options-length None zero true true = refl
options-length None (suc n) false false = refl
options-length None (suc n) false true = refl
options-length None (suc n) true false = refl
options-length None (suc n) true true = refl
options-length (Some ask) zero false false = refl
options-length (Some ask) zero false true = refl
options-length (Some ask) zero true false = refl
options-length (Some ask) zero true true = refl
options-length (Some ask) (suc n) false false = refl
options-length (Some ask) (suc n) false true = refl
options-length (Some ask) (suc n) true false = refl
options-length (Some ask) (suc n) true true = refl

-- ---- flags

abbrev pub chosen : Bool → Bool → Bool → Tables
chosen shares files ranges = record { shares = shares; files = files; ranges = ranges }

abbrev pub flags_for : Bool → Bool → Bool → Flags
flags_for shares files ranges = record { shares = not files; files = not shares; ranges = ranges }

pub flags-back : (a b : List ℕ) (shares files ranges : Bool) (rest : List (List ℕ)) → IsTrue (can_choose (chosen shares files ranges))
    → flags_in (length (a ∷ b ∷ flag_tokens (chosen shares files ranges))) (a ∷ b ∷ (flag_tokens (chosen shares files ranges) ++ rest)) ≡ Some (flags_for shares files ranges)
unfolding flags_in with_flag
flags-back a b true true true rest is = refl
flags-back a b true true false rest is = refl
flags-back a b true false true rest is = cc
flags-back a b true false false rest is = refl
flags-back a b false true true rest is = refl
flags-back a b false true false rest is = refl
flags-back a b false false ranges rest is = cc

pub tables-back : (shares files ranges : Bool) → IsTrue (can_choose (chosen shares files ranges))
    → Status (tables_of (flags_for shares files ranges)) ≡ Status (chosen shares files ranges)
tables-back true true true is = refl
tables-back true true false is = refl
tables-back true false true is = cc
tables-back true false false is = refl
tables-back false true true is = refl
tables-back false true false is = refl
tables-back false false ranges is = cc

pub flags-length : (shares files ranges : Bool) → IsTrue (can_choose (chosen shares files ranges))
    → is_length word.Status (length ([] ∷ [] ∷ flag_tokens (chosen shares files ranges))) ≡ true
flags-length true true true is = refl
flags-length true true false is = refl
flags-length true false true is = cc
flags-length true false false is = refl
flags-length false true true is = refl
flags-length false true false is = refl
flags-length false false ranges is = cc
