-- Worked examples: which histories are legal. The three workers start in session 1.
use Rattle.std.proofs.Common.{◌≡◌, ◌<◌, ℕ, Bool, true, false, ◌==◌, List, [], ◌∷◌, ◌++◌, None, Some, if◌then◌else◌, refl, lit<, lit≤, arith}
use Rattle.std.proofs.lemmas.Bool.{eqb-true}
use Rattle.sid_core.specs.declared.call.Call.TheVariants.{Close}
use Rattle.sid_core.specs.declared.entry.Entry.{Entry}
use Rattle.sid_core.specs.declared.entry.Event.TheVariants.{Tidied}
use Rattle.sid_core.specs.declared.reply.Reply.{Reply}
use Rattle.sid_core.specs.declared.reply.Reply.TheVariants.{Done, FileClosed, SharingViolation}
use Rattle.sid_core.specs.Counting.{CountsFrom, RisesAbove}
use Rattle.serial_table.specs.Expire.{expired_by}
use Rattle.serial_table.specs.declared.table.Table.{Table}
use Rattle.serial_table.specs.View.{view}
use Rattle.serial_table.specs.Settle.{settle_where, settle_by_key}
use Rattle.serial_table.specs.Change.{end_session}
use Rattle.serial_table.specs.Decision.{conclude}
use Rattle.serial_table.specs.Session.{end_of_session}
use Rattle.serial_table.specs.Break.{break_lease, break_each}
use Rattle.serial_table.specs.Grant.{grant}
use Rattle.serial_table.specs.Open.{handle_breaks, other_breaks, open_by, open_file}
use Rattle.serial_table.specs.Close.{close}
use Rattle.serial_table.specs.Step.{caller_of, answer_of}
use Rattle.serial_table.specs.History.{start, after, after_entry, table_at, IsLegal, IsLegalCall, IsLegalDeath, AreLegal, IsLegalEntry, numbers_of}
use Rattle.serial_table.proofs.Samples.{setup, at, nothing_open, plain, calls, dies, opens, granted, ended}

-- ---- where a history starts: nothing is open, and the workers, numbered from 1, are alive in session 1 since moment 0

start_of_a_history : start setup ≡ record {
  opens = [];
  leases = [];
  ranges = [];
  holds = [];
  waiters = [];
  letters = [];
  workers =
      record { worker = 1; pid = 101; alive = true; session = 1; connected = at 0 }
      ∷ record { worker = 2; pid = 102; alive = true; session = 1; connected = at 0 }
      ∷ record { worker = 3; pid = 103; alive = true; session = 1; connected = at 0 } ∷ [];
  ended = [];
  pending = [];
}
start_of_a_history = refl

-- ---- a legal history: worker 1 opens file 1 for writing and lets nobody read, and a chain is tidied. Worker 2 may not read the file. Worker 1
-- dies, and worker 2 may.

abbrev tidied : Entry
tidied = record { by = 1; seq = 2; what = Tidied 20 }

abbrev history : List Entry
history =
    calls 1 1 1 0 (opens 1 0x2 2) granted ∷ tidied ∷ calls 2 1 1 5 (opens 1 0x1 7) SharingViolation ∷ dies 1 1 5
    ∷ calls 2 2 2 4 (opens 1 0x1 7) granted ∷ []

-- Each entry is legal at its place. The moment of the last one is below that of the death: moments needn't rise.
entries_are_legal : AreLegal setup (start setup) history
unfolding conclude expired_by open_file open_by handle_breaks other_breaks break_each break_lease grant caller_of end_of_session end_session settle_where settle_by_key
entries_are_legal = (
  record {
    numbered = (lit≤ tt, lit≤ tt);
    timed = lit≤ tt;
    in_sets = ((lit≤ tt, lit≤ tt), record { some = lit< tt; known = refl }, lit< tt, tt, lit< tt);
    answered = refl;
  },
  (
    tt,
    (
      record {
        numbered = (lit≤ tt, lit≤ tt);
        timed = lit≤ tt;
        in_sets = ((lit≤ tt, lit≤ tt), record { some = lit< tt; known = refl }, lit< tt, tt, lit< tt);
        answered = refl;
      },
      (
        record { timed = lit≤ tt; dies = refl },
        (
          record {
            numbered = (lit≤ tt, lit≤ tt);
            timed = lit≤ tt;
            in_sets = ((lit≤ tt, lit≤ tt), record { some = lit< tt; known = refl }, lit< tt, tt, lit< tt);
            answered = refl;
          },
          tt,
        ),
      ),
    ),
  ),
)

-- one entry after another, by whether it is of worker 1, of worker 2 or of the runner
counts : (one two runner : Bool) → (one ≡ true → two ≡ true → ⊥) → (one ≡ true → runner ≡ true → ⊥) → (two ≡ true → runner ≡ true → ⊥)
    → CountsFrom 1 ((if one then 1 ∷ [] else []) ++ ((if one then 2 ∷ [] else []) ++ ((if two then 1 ∷ [] else []) ++ ((if runner then 1 ∷ [] else []) ++ ((if two then 2 ∷ [] else []) ++ [])))))
counts true true runner apart _ _ = absurd (apart refl refl)
counts true false true _ apart _ = absurd (apart refl refl)
counts true false false _ _ _ = (refl, (refl, tt))
counts false true true _ _ apart = absurd (apart refl refl)
counts false true false _ _ _ = (refl, (refl, tt))
counts false false true _ _ _ = (refl, tt)
counts false false false _ _ _ = tt

rises : (one two runner : Bool) → (one ≡ true → two ≡ true → ⊥) → (one ≡ true → runner ≡ true → ⊥) → (two ≡ true → runner ≡ true → ⊥)
    → RisesAbove 0 ((if one then 1 ∷ [] else []) ++ ((if one then [] else []) ++ ((if two then 1 ∷ [] else []) ++ ((if runner then [] else []) ++ ((if two then 2 ∷ [] else []) ++ [])))))
rises true true runner apart _ _ = absurd (apart refl refl)
rises true false true _ apart _ = absurd (apart refl refl)
rises true false false _ _ _ = (lit< tt, tt)
rises false true true _ _ apart = absurd (apart refl refl)
rises false true false _ _ _ = (lit< tt, (lit< tt, tt))
rises false false true _ _ _ = tt
rises false false false _ _ _ = tt

-- nobody has two numbers
apart : (m n by : ℕ) → (m ≡ n → ⊥) → (m == by) ≡ true → (n == by) ≡ true → ⊥
apart m n by differ is_m is_n = let m_is : m ≡ by = eqb-true m by is_m in let n_is : n ≡ by = eqb-true n by is_n in differ (omega (arith, m_is, n_is))

history_is_legal : IsLegal setup history
history_is_legal = record {
  entries = entries_are_legal;
  counted = λ by. counts (1 == by) (2 == by) (0 == by) (apart 1 2 by (λ e. omega (arith, e))) (apart 1 0 by (λ e. omega (arith, e))) (apart 2 0 by (λ e. omega (arith, e)));
  rising = λ by. rises (1 == by) (2 == by) (0 == by) (apart 1 2 by (λ e. omega (arith, e))) (apart 1 0 by (λ e. omega (arith, e))) (apart 2 0 by (λ e. omega (arith, e)));
}

-- ---- the tables that it makes

-- Before the death: the open of worker 1 alone.
table_before_the_death : (table_at setup history 3).opens ≡ record (plain 101 1 1 1) { access = record { 0 = 0x2 }; share = record { 0 = 2 }; opened = at 0 } ∷ []
unfolding conclude expired_by open_file open_by handle_breaks other_breaks break_each break_lease grant caller_of settle_where settle_by_key
table_before_the_death = refl

-- At the end: that of worker 2 alone, with the call's number as its handle and the call's moment.
opens_at_the_end : (after setup history).opens ≡ record (plain 102 1 2 1) { access = record { 0 = 0x1 }; opened = at 4 } ∷ []
unfolding conclude expired_by open_file open_by handle_breaks other_breaks break_each break_lease grant caller_of end_of_session end_session settle_where settle_by_key
opens_at_the_end = refl

session_ended_at_its_moment : (after setup history).ended ≡ ended 101 1 5 ∷ []
unfolding conclude expired_by open_file open_by handle_breaks other_breaks break_each break_lease grant caller_of end_of_session end_session settle_where settle_by_key
session_ended_at_its_moment = refl

-- Whoever tidies a chain, it is legal and changes nothing.
tidying_is_legal : (t : Table) → IsLegalEntry setup t tidied
tidying_is_legal t = tt

tidying_changes_nothing : (t : Table) → after_entry setup t tidied ≡ t
tidying_changes_nothing t = refl

-- ---- seq counts the entries of each from 1

first_seq_is_2 : IsLegal setup (calls 1 2 1 0 (opens 1 0x2 2) granted ∷ []) → ⊥
first_seq_is_2 legal = let no : ◌≡◌ {A = ℕ} 2 1 = (legal.counted 1).0 in cc

one_seq_twice : IsLegal setup (calls 1 1 1 0 (opens 1 0x2 2) granted ∷ calls 1 1 2 0 (Close 1) Done ∷ []) → ⊥
one_seq_twice legal = let no : ◌≡◌ {A = ℕ} 1 2 = (legal.counted 1).1.0 in cc

one_seq_left_out : IsLegal setup (calls 1 1 1 0 (opens 1 0x2 2) granted ∷ calls 1 3 2 0 (Close 1) Done ∷ []) → ⊥
one_seq_left_out legal = let no : ◌≡◌ {A = ℕ} 3 2 = (legal.counted 1).1.0 in cc

-- The runner's entries are counted too, and so is a tidied chain.
runner_counts : IsLegal setup (dies 1 2 5 ∷ []) → ⊥
runner_counts legal = let no : ◌≡◌ {A = ℕ} 2 1 = (legal.counted 0).0 in cc

tidied_chains_count : IsLegal setup (tidied ∷ []) → ⊥
tidied_chains_count legal = let no : ◌≡◌ {A = ℕ} 2 1 = (legal.counted 1).0 in cc

-- ---- the numbers of a worker's calls rise

one_number_twice : IsLegal setup (calls 1 1 1 0 (opens 1 0x2 2) granted ∷ calls 1 2 1 0 (Close 1) Done ∷ []) → ⊥
one_number_twice legal = let no : ◌<◌ 1 1 = (legal.rising 1).1.0 in omega (arith, no)

number_falls : IsLegal setup (calls 1 1 2 0 (opens 1 0x2 2) granted ∷ calls 1 2 1 0 (Close 2) Done ∷ []) → ⊥
number_falls legal = let no : ◌<◌ 2 1 = (legal.rising 1).1.0 in omega (arith, no)

-- A number may be left out, as where a call's worker died in it.
numbers_left_out : RisesAbove 0 (numbers_of 1 (calls 1 1 3 0 (Close 1) FileClosed ∷ calls 2 1 1 0 (Close 1) FileClosed ∷ calls 1 2 7 0 (Close 1) FileClosed ∷ []))
numbers_left_out = (lit< tt, (lit< tt, tt))

-- ---- a call

abbrev now_open : Table
now_open = record nothing_open { opens = plain 101 1 1 1 ∷ [] }

-- A reply that isn't the table's.
another_reply : IsLegalCall setup (start setup) 1 1 (at 0) (opens 1 0x2 2) SharingViolation → ⊥
unfolding conclude expired_by open_file open_by handle_breaks other_breaks break_each break_lease grant caller_of
another_reply call = let no : Some granted ≡ Some SharingViolation = call.answered in cc

closed_already : IsLegalCall setup (start setup) 1 1 (at 0) (Close 1) Done → ⊥
unfolding conclude expired_by close caller_of
closed_already call = let no : Some FileClosed ≡ Some Done = call.answered in cc

-- A caller that is dead, and one that isn't declared.
dead_caller : (reply : Reply) → IsLegalCall setup nothing_open 3 1 (at 60) (opens 1 0x2 2) reply → ⊥
unfolding caller_of
dead_caller reply call = let no : None ≡ Some reply = call.answered in cc

caller_0 : (reply : Reply) → IsLegalCall setup nothing_open 0 1 (at 60) (opens 1 0x2 2) reply → ⊥
unfolding caller_of
caller_0 reply call = let no : None ≡ Some reply = call.answered in cc

caller_4 : (reply : Reply) → IsLegalCall setup nothing_open 4 1 (at 60) (opens 1 0x2 2) reply → ⊥
unfolding caller_of
caller_4 reply call = let no : None ≡ Some reply = call.answered in cc

-- Numbers go from 1 to 20,000.
number_0 : (reply : Reply) → IsLegalCall setup nothing_open 1 0 (at 60) (opens 1 0x2 2) reply → ⊥
number_0 reply call = omega (arith, call.numbered.0)

number_20001 : (reply : Reply) → IsLegalCall setup nothing_open 1 20001 (at 60) (opens 1 0x2 2) reply → ⊥
number_20001 reply call = omega (arith, call.numbered.1)

number_20000 : IsLegalCall setup now_open 1 20000 (at 60) (Close 1) Done
unfolding conclude expired_by close caller_of
number_20000 = record { numbered = (lit≤ tt, lit≤ tt); timed = lit≤ tt; in_sets = lit< tt; answered = refl }

-- Moments go to 9,999,999,999.
moment_too_late : (reply : Reply) → IsLegalCall setup nothing_open 1 1 (at 10000000000) (opens 1 0x2 2) reply → ⊥
moment_too_late reply call = omega (arith, call.timed)

last_moment : IsLegalCall setup now_open 1 2 (at 9999999999) (Close 1) Done
unfolding conclude expired_by close caller_of
last_moment = record { numbered = (lit≤ tt, lit≤ tt); timed = lit≤ tt; in_sets = lit< tt; answered = refl }

-- Two files are declared.
file_0 : (reply : Reply) → IsLegalCall setup nothing_open 1 1 (at 60) (opens 0 0x2 2) reply → ⊥
file_0 reply call = omega (arith, call.in_sets.0.0)

file_3 : (reply : Reply) → IsLegalCall setup nothing_open 1 1 (at 60) (opens 3 0x2 2) reply → ⊥
file_3 reply call = omega (arith, call.in_sets.0.1)

-- No access, and one that has no name.
no_access : (reply : Reply) → IsLegalCall setup nothing_open 1 1 (at 60) (opens 1 0 2) reply → ⊥
no_access reply call = omega (arith, call.in_sets.1.some)

unknown_access : (reply : Reply) → IsLegalCall setup nothing_open 1 1 (at 60) (opens 1 0x201 2) reply → ⊥
unknown_access reply call = let no : ◌≡◌ {A = ℕ} 1 0x201 = call.in_sets.1.known in cc

-- A handle is its owner's: that of worker 1 is none of worker 2's.
handle_of_another : answer_of setup (view now_open) 2 1 (at 60) (Close 1) ≡ Some FileClosed
unfolding conclude expired_by close caller_of
handle_of_another = refl

-- ---- a death

living_dies : IsLegalDeath setup nothing_open 2 (at 60)
unfolding caller_of
living_dies = record { timed = lit≤ tt; dies = refl }

dead_dies : IsLegalDeath setup nothing_open 3 (at 60) → ⊥
unfolding caller_of
dead_dies death = let no : false ≡ true = death.dies in cc

undeclared_dies : IsLegalDeath setup nothing_open 4 (at 60) → ⊥
unfolding caller_of
undeclared_dies death = let no : false ≡ true = death.dies in cc

death_too_late : IsLegalDeath setup nothing_open 2 (at 10000000000) → ⊥
death_too_late death = omega (arith, death.timed)

-- Nobody dies twice in a history, or calls after its death.
dies_twice : AreLegal setup (start setup) (dies 1 1 5 ∷ dies 1 2 5 ∷ []) → ⊥
unfolding conclude expired_by caller_of end_of_session end_session settle_where settle_by_key
dies_twice legal = let no : false ≡ true = legal.1.0.dies in cc

calls_after_its_death : AreLegal setup (start setup) (dies 1 1 5 ∷ calls 1 1 1 5 (Close 1) FileClosed ∷ []) → ⊥
unfolding conclude expired_by close caller_of end_of_session end_session settle_where settle_by_key
calls_after_its_death legal = let no : None ≡ Some FileClosed = legal.1.0.answered in cc
