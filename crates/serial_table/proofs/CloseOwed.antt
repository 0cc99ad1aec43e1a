-- `close` drops an open, and a marked one's file is to go.
use Rattle.std.proofs.Common.{◌≡◌, ℕ, true, List, [], ◌∷◌, refl, inl, arith}
use Rattle.std.specs.List.{list_all}
use Rattle.std.proofs.lemmas.Bool.{cond_both}
use Rattle.std.proofs.lemmas.List.Sums.{sum_by-cons}
use Rattle.sid_core.specs.declared.reply.Reply.TheVariants.{Done}
use Rattle.sid_core.specs.declared.setup.Setup.{Setup}
use Rattle.serial_table.specs.declared.rows.OpenRow.{OpenRow}
use Rattle.serial_table.specs.declared.table.Table.{Table}
use Rattle.serial_table.specs.declared.change.Change.{Change}
use Rattle.serial_table.specs.declared.change.Change.TheVariants as c
use Rattle.serial_table.specs.declared.decision.Decision.{Decision}
use Rattle.serial_table.specs.Decision.{only_reply, spots_of}
use Rattle.serial_table.specs.Close.{close_open, close_first}
use Rattle.serial_table.specs.Sound.{IsConsistent}
use Rattle.serial_table.specs.InSets.{IsOpenRow}
use Rattle.serial_table.proofs.Members.{IsIn}
use Rattle.serial_table.proofs.SameWorkers.{keeps_workers}
use Rattle.serial_table.proofs.Losing.{adds_bits}
use Rattle.serial_table.proofs.Waits.{adds_waits}
use Rattle.serial_table.proofs.Owing.{DecisionHolds, DecisionBrings, brings, begins, adds_rows, one_adds, spots_differ, reply_holds, reply_brings}

-- the open goes, and what follows
abbrev closing : OpenRow → List Change → Decision
closing row passed = record (only_reply Done) { changes = c.DropOpen row.file row.id ∷ passed; spots = spots_of row.file }

-- what holds of the close of a marked open and of any other
pub of_close : (P : Decision → Type 0) (row : OpenRow) → P (closing row (c.AddPending row.file ∷ [])) → P (closing row []) → P (close_open row)
of_close P row marked plain = cond_both row.marked (c.AddPending row.file ∷ []) [] (λ (passed : List Change). P (closing row passed)) (λ _. marked) (λ _. plain)

marked_holds : (low : ℕ → ℕ) (t : Table) (row : OpenRow) → IsConsistent t → DecisionHolds low t (closing row (c.AddPending row.file ∷ []))
marked_holds low t row k = record {
  fits = record { changes = (tt, (tt, tt)); waits = tt; posts = refl };
  numbers = record { changes = (tt, (tt, tt)); waits = λ u. tt };
  adds = adds_rows t (closing row (c.AddPending row.file ∷ [])) k (tt, (tt, tt))
      (omega (arith, sum_by-cons brings (c.DropOpen row.file row.id) (c.AddPending row.file ∷ []), sum_by-cons brings (c.AddPending row.file) []))
      (omega (arith, sum_by-cons begins (c.DropOpen row.file row.id) (c.AddPending row.file ∷ []), sum_by-cons begins (c.AddPending row.file) []))
      (omega (arith, sum_by-cons adds_waits (c.DropOpen row.file row.id) (c.AddPending row.file ∷ []), sum_by-cons adds_waits (c.AddPending row.file) []))
      (omega (arith, sum_by-cons adds_bits (c.DropOpen row.file row.id) (c.AddPending row.file ∷ []), sum_by-cons adds_bits (c.AddPending row.file) []))
      (omega arith) (spots_differ row.file);
}

plain_holds : (low : ℕ → ℕ) (t : Table) (row : OpenRow) → IsConsistent t → DecisionHolds low t (closing row [])
plain_holds low t row k = record {
  fits = record { changes = (tt, tt); waits = tt; posts = refl };
  numbers = record { changes = (tt, tt); waits = λ u. tt };
  adds = one_adds t (closing row []) (c.DropOpen row.file row.id) refl k (tt, tt) (omega arith) refl refl refl (omega arith) (spots_differ row.file);
}

pub closed_holds : (low : ℕ → ℕ) (t : Table) (rows : List OpenRow) → IsConsistent t → DecisionHolds low t (close_first rows)
closed_holds low t [] k = reply_holds low t _ k
closed_holds low t (row ∷ rows) k = of_close (DecisionHolds low t) row (marked_holds low t row k) (plain_holds low t row k)

pub closed_brings : (setup : Setup) (t : Table) (rows : List OpenRow) → ((row : OpenRow) → IsIn row rows → IsOpenRow setup row) → DecisionBrings setup t (close_first rows)
closed_brings setup t [] sets = reply_brings setup t _
closed_brings setup t (row ∷ rows) sets =
    of_close (DecisionBrings setup t) row (record { changes = (tt, ((sets row (inl refl)).file, tt)); waits = λ u. tt; letters = λ post i. absurd i })
    (record { changes = (tt, tt); waits = λ u. tt; letters = λ post i. absurd i })

pub closed_keeps : (rows : List OpenRow) → list_all keeps_workers (close_first rows).changes ≡ true
closed_keeps [] = refl
closed_keeps (row ∷ rows) = of_close (λ d. list_all keeps_workers d.changes ≡ true) row refl refl
