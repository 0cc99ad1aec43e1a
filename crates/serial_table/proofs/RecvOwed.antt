-- `recv` takes a letter.
use Rattle.std.proofs.Common.{◌≡◌, ℕ, true, List, [], ◌∷◌, refl, arith}
use Rattle.std.specs.List.{list_all, IsDistinct}
use Rattle.sid_core.specs.declared.entry.Post.{Post}
use Rattle.sid_core.specs.declared.setup.Setup.{Setup}
use Rattle.serial_table.specs.declared.table.Table.{Table}
use Rattle.serial_table.specs.declared.change.Change.TheVariants as c
use Rattle.serial_table.specs.declared.decision.Caller.{Caller}
use Rattle.serial_table.specs.Recv.{recv_first}
use Rattle.serial_table.specs.Sound.{IsConsistent}
use Rattle.serial_table.proofs.SameWorkers.{keeps_workers}
use Rattle.serial_table.proofs.Owing.{DecisionHolds, DecisionBrings, one_adds, reply_holds, reply_brings}

pub received_holds : (low : ℕ → ℕ) (t : Table) (caller : Caller) (letters : List Post) → IsConsistent t → DecisionHolds low t (recv_first caller letters)
unfolding IsDistinct
received_holds low t caller [] k = reply_holds low t _ k
received_holds low t caller (first ∷ others) k = record {
  fits = record { changes = (tt, tt); waits = tt; posts = refl };
  numbers = record { changes = (tt, tt); waits = λ u. tt };
  adds = one_adds t (recv_first caller (first ∷ others)) (c.TakeLetter caller.sid) refl k (tt, tt) (omega arith) refl refl refl (omega arith) tt;
}

pub received_brings : (setup : Setup) (t : Table) (caller : Caller) (letters : List Post) → DecisionBrings setup t (recv_first caller letters)
received_brings setup t caller [] = reply_brings setup t _
received_brings setup t caller (first ∷ others) = record { changes = (tt, tt); waits = λ u. tt; letters = λ post i. absurd i }

pub received_keeps : (caller : Caller) (letters : List Post) → list_all keeps_workers (recv_first caller letters).changes ≡ true
received_keeps caller [] = refl
received_keeps caller (first ∷ others) = refl
