-- Worked examples: whole histories, with what they print.
use Rattle.std.proofs.Common.{◌≡◌, List, [], ◌∷◌, ◌++◌, codes, refl, lit<, lit≤}
use Rattle.std.specs.Fmt.{digits}
use Rattle.sid_core.specs.declared.call.Call.TheVariants.{Close}
use Rattle.sid_core.specs.declared.entry.Entry.{Entry}
use Rattle.sid_core.specs.declared.entry.Event.TheVariants.{Tidied}
use Rattle.sid_core.specs.declared.reply.Reply.TheVariants.{Done, FileClosed, SharingViolation}
use Rattle.serial_table.specs.Expire.{expired_by}
use Rattle.serial_table.specs.Settle.{settle_where, settle_by_key}
use Rattle.serial_table.specs.Change.{end_session}
use Rattle.serial_table.specs.Decision.{conclude}
use Rattle.serial_table.specs.Session.{end_of_session}
use Rattle.serial_table.specs.Break.{break_lease, break_each}
use Rattle.serial_table.specs.Grant.{grant}
use Rattle.serial_table.specs.Open.{handle_breaks, other_breaks, open_by, open_file}
use Rattle.serial_table.specs.Close.{close}
use Rattle.serial_table.specs.Step.{caller_of}
use Rattle.serial_table.specs.History.{start, AreLegal}
use Rattle.serial_table.specs.Text.{text}
use Rattle.serial_table.proofs.Samples.{setup, calls, dies, opens, granted}

-- An open that is closed twice. Between the calls a chain is tidied.
abbrev closed_twice : List Entry
closed_twice =
    calls 1 1 1 0 (opens 1 0x3 7) granted ∷ calls 1 2 2 0 (Close 1) Done ∷ record { by = 2; seq = 1; what = Tidied 20 }
    ∷ calls 1 3 3 0 (Close 1) FileClosed ∷ []

closed_twice_prints : text setup closed_twice ≡ codes "1.1 open GRANTED" ++ 10 ∷ (codes "1.2 close OK" ++ 10 ∷ (codes "1.3 close FILE_CLOSED" ++ 10 ∷ []))
unfolding conclude expired_by open_file open_by handle_breaks other_breaks break_each break_lease grant close caller_of settle_where settle_by_key digits
closed_twice_prints = refl

closed_twice_is_legal : AreLegal setup (start setup) closed_twice
unfolding conclude expired_by open_file open_by handle_breaks other_breaks break_each break_lease grant close caller_of settle_where settle_by_key
closed_twice_is_legal = (
  record {
    numbered = (lit≤ tt, lit≤ tt);
    timed = lit≤ tt;
    in_sets = ((lit≤ tt, lit≤ tt), record { some = lit< tt; known = refl }, lit< tt, tt, lit< tt);
    answered = refl;
  },
  (
    record { numbered = (lit≤ tt, lit≤ tt); timed = lit≤ tt; in_sets = lit< tt; answered = refl },
    (tt, (record { numbered = (lit≤ tt, lit≤ tt); timed = lit≤ tt; in_sets = lit< tt; answered = refl }, tt)),
  ),
)

-- Two workers, of which the second asks to read what the first writes without sharing writes.
abbrev violated : List Entry
violated =
    calls 1 1 1 0 (opens 1 0x2 1) granted ∷ calls 2 1 1 1 (opens 1 0x1 1) SharingViolation ∷ calls 2 2 2 1 (opens 2 0x1 7) granted
    ∷ calls 1 2 2 2 (opens 2 0x2 7) granted ∷ []

violated_prints : text setup violated
    ≡ codes "1.1 open GRANTED" ++ 10 ∷ (codes "2.1 open SHARING_VIOLATION" ++ 10 ∷ (codes "2.2 open GRANTED" ++ 10 ∷ (codes "1.2 open GRANTED" ++ 10 ∷ [])))
unfolding conclude expired_by open_file open_by handle_breaks other_breaks break_each break_lease grant caller_of settle_where settle_by_key digits
violated_prints = refl

violated_is_legal : AreLegal setup (start setup) violated
unfolding conclude expired_by open_file open_by handle_breaks other_breaks break_each break_lease grant caller_of settle_where settle_by_key
violated_is_legal = (
  record {
    numbered = (lit≤ tt, lit≤ tt);
    timed = lit≤ tt;
    in_sets = ((lit≤ tt, lit≤ tt), record { some = lit< tt; known = refl }, lit< tt, tt, lit< tt);
    answered = refl;
  },
  (
    record {
      numbered = (lit≤ tt, lit≤ tt);
      timed = lit≤ tt;
      in_sets = ((lit≤ tt, lit≤ tt), record { some = lit< tt; known = refl }, lit< tt, tt, lit< tt);
      answered = refl;
    },
    (
      record {
        numbered = (lit≤ tt, lit≤ tt);
        timed = lit≤ tt;
        in_sets = ((lit≤ tt, lit≤ tt), record { some = lit< tt; known = refl }, lit< tt, tt, lit< tt);
        answered = refl;
      },
      (
        record {
          numbered = (lit≤ tt, lit≤ tt);
          timed = lit≤ tt;
          in_sets = ((lit≤ tt, lit≤ tt), record { some = lit< tt; known = refl }, lit< tt, tt, lit< tt);
          answered = refl;
        },
        tt,
      ),
    ),
  ),
)

-- A worker dies, and another one opens what it had for itself.
abbrev succeeded : List Entry
succeeded = calls 1 1 1 0 (opens 1 0x3 0) granted ∷ dies 1 1 0 ∷ calls 2 1 1 10 (opens 1 0x3 0) granted ∷ []

succeeded_prints : text setup succeeded ≡ codes "1.1 open GRANTED" ++ 10 ∷ (codes "1 died" ++ 10 ∷ (codes "2.1 open GRANTED" ++ 10 ∷ []))
unfolding conclude expired_by open_file open_by handle_breaks other_breaks break_each break_lease grant caller_of end_of_session end_session settle_where settle_by_key digits
succeeded_prints = refl
