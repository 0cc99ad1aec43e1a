-- `unlock` drops a range.
use Rattle.std.proofs.Common.{◌≡◌, ℕ, true, List, [], ◌∷◌, refl, arith}
use Rattle.std.specs.List.{list_all, list_any}
use Rattle.std.proofs.lemmas.Bool.{cond_both}
use Rattle.sid_core.specs.declared.call.Span.{Span}
use Rattle.sid_core.specs.declared.call.Mode.{Mode}
use Rattle.sid_core.specs.declared.call.Mode.TheVariants.{Shared, Exclusive}
use Rattle.sid_core.specs.declared.reply.Reply.TheVariants.{RangeNotLocked}
use Rattle.sid_core.specs.declared.setup.Setup.{Setup}
use Rattle.serial_table.specs.declared.rows.OpenRow.{OpenRow}
use Rattle.serial_table.specs.declared.table.Table.{Table}
use Rattle.serial_table.specs.declared.change.Change.TheVariants as c
use Rattle.serial_table.specs.declared.decision.Decision.{Decision}
use Rattle.serial_table.specs.View.{View}
use Rattle.serial_table.specs.File.{FileView, file_view}
use Rattle.serial_table.specs.Change.{same_range}
use Rattle.serial_table.specs.Decision.{only_reply}
use Rattle.serial_table.specs.Range.{range_of}
use Rattle.serial_table.specs.Unlock.{drop_range, unlock_range, unlock_first}
use Rattle.serial_table.specs.Sound.{IsConsistent}
use Rattle.serial_table.proofs.SameWorkers.{keeps_workers}
use Rattle.serial_table.proofs.Owing.{DecisionHolds, DecisionBrings, one_adds, spots_differ, reply_holds, reply_brings}

-- what holds of a dropped range and of a reply holds of what `unlock` decides
pub by_ranges : (P : Decision → Type 0) (f : FileView) (span : Span) (row : OpenRow) → ((mode : Mode) → P (drop_range row span mode)) → P (only_reply RangeNotLocked) → P (unlock_range f span row)
by_ranges P f span row drops none =
    let shared = list_any (same_range (range_of row span Shared)) f.ranges in
    cond_both (list_any (same_range (range_of row span Exclusive)) f.ranges) (drop_range row span Exclusive) _ P (λ _. drops Exclusive)
    (λ _. cond_both shared (drop_range row span Shared) (only_reply RangeNotLocked) P (λ _. drops Shared) (λ _. none))

dropped_holds : (low : ℕ → ℕ) (t : Table) (row : OpenRow) (span : Span) (mode : Mode) → IsConsistent t → DecisionHolds low t (drop_range row span mode)
dropped_holds low t row span mode k = record {
  fits = record { changes = (tt, tt); waits = tt; posts = refl };
  numbers = record { changes = (tt, tt); waits = λ u. tt };
  adds = one_adds t (drop_range row span mode) (c.DropRange (range_of row span mode)) refl k (tt, tt) (omega arith) refl refl refl (omega arith) (spots_differ row.file);
}

pub unlocked_holds : (low : ℕ → ℕ) (t : Table) (v : View) (span : Span) (rows : List OpenRow) → IsConsistent t → DecisionHolds low t (unlock_first v span rows)
unlocked_holds low t v span [] k = reply_holds low t _ k
unlocked_holds low t v span (row ∷ rows) k = by_ranges (DecisionHolds low t) (file_view row.file v) span row (λ mode. dropped_holds low t row span mode k) (reply_holds low t _ k)

pub unlocked_brings : (setup : Setup) (t : Table) (v : View) (span : Span) (rows : List OpenRow) → DecisionBrings setup t (unlock_first v span rows)
unlocked_brings setup t v span [] = reply_brings setup t _
unlocked_brings setup t v span (row ∷ rows) =
    by_ranges (DecisionBrings setup t) (file_view row.file v) span row (λ mode. record { changes = (tt, tt); waits = λ u. tt; letters = λ post i. absurd i }) (reply_brings setup t _)

pub unlocked_keeps : (v : View) (span : Span) (rows : List OpenRow) → list_all keeps_workers (unlock_first v span rows).changes ≡ true
unlocked_keeps v span [] = refl
unlocked_keeps v span (row ∷ rows) = by_ranges (λ d. list_all keeps_workers d.changes ≡ true) (file_view row.file v) span row (λ mode. refl) refl
