-- `delete` sets whether a file is to go.
use Rattle.std.proofs.Common.{ℕ, Bool, not, List, [], ◌∷◌, refl, inl, arith}
use Rattle.std.specs.List.{IsDistinct}
use Rattle.std.proofs.lemmas.Bool.{cond_both}
use Rattle.sid_core.specs.declared.reply.Reply.TheVariants.{Done, AccessDenied}
use Rattle.sid_core.specs.declared.setup.Setup.{Setup}
use Rattle.serial_table.specs.declared.rows.OpenRow.{OpenRow}
use Rattle.serial_table.specs.declared.table.Table.{Table}
use Rattle.serial_table.specs.declared.change.Change.{Change}
use Rattle.serial_table.specs.declared.change.Change.TheVariants as c
use Rattle.serial_table.specs.declared.decision.Decision.{Decision}
use Rattle.serial_table.specs.Decision.{only_reply}
use Rattle.serial_table.specs.Delete.{may_delete, delete_file, delete_first}
use Rattle.serial_table.specs.Sound.{IsConsistent}
use Rattle.serial_table.specs.InSets.{IsOpenRow}
use Rattle.serial_table.proofs.Members.{IsIn}
use Rattle.serial_table.proofs.Owing.{DecisionHolds, DecisionBrings, one_adds, reply_holds, reply_brings}

-- this one change
abbrev setting : Change → Decision
setting change = record (only_reply Done) { changes = change ∷ [] }

-- what holds of a refusal, and of both changes that it can make
pub of_delete : (P : Decision → Type 0) (on : Bool) (row : OpenRow) → P (only_reply AccessDenied) → P (setting (c.AddPending row.file)) → P (setting (c.DropPending row.file)) → P (delete_file on row)
of_delete P on row denied goes stays =
    cond_both (not (may_delete row.access)) (only_reply AccessDenied) _ P (λ _. denied)
    (λ _. cond_both on (c.AddPending row.file) (c.DropPending row.file) (λ (change : Change). P (setting change)) (λ _. goes) (λ _. stays))

pub deleted_holds : (low : ℕ → ℕ) (t : Table) (on : Bool) (rows : List OpenRow) → IsConsistent t → DecisionHolds low t (delete_first on rows)
unfolding IsDistinct
deleted_holds low t on [] k = reply_holds low t _ k
deleted_holds low t on (row ∷ rows) k =
    of_delete (DecisionHolds low t) on row (reply_holds low t _ k)
    (record {
      fits = record { changes = (tt, tt); waits = tt; posts = refl };
      numbers = record { changes = (tt, tt); waits = λ u. tt };
      adds = one_adds t (setting (c.AddPending row.file)) (c.AddPending row.file) refl k (tt, tt) (omega arith) refl refl refl (omega arith) tt;
    })
    (record {
      fits = record { changes = (tt, tt); waits = tt; posts = refl };
      numbers = record { changes = (tt, tt); waits = λ u. tt };
      adds = one_adds t (setting (c.DropPending row.file)) (c.DropPending row.file) refl k (tt, tt) (omega arith) refl refl refl (omega arith) tt;
    })

pub deleted_brings : (setup : Setup) (t : Table) (on : Bool) (rows : List OpenRow) → ((row : OpenRow) → IsIn row rows → IsOpenRow setup row) → DecisionBrings setup t (delete_first on rows)
deleted_brings setup t on [] sets = reply_brings setup t _
deleted_brings setup t on (row ∷ rows) sets =
    of_delete (DecisionBrings setup t) on row (reply_brings setup t _) (record { changes = ((sets row (inl refl)).file, tt); waits = λ u. tt; letters = λ post i. absurd i })
    (record { changes = (tt, tt); waits = λ u. tt; letters = λ post i. absurd i })
