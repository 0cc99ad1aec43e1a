-- `read` and `write`.
use Rattle.std.proofs.Common.{◌≡◌, ◌==◌, ℕ, Bool, true, not, List, [], ◌∷◌, refl, sym, arith, append-nil}
use Rattle.std.specs.List.{list_all, list_any}
use Rattle.std.proofs.lemmas.Bool.{cond_both}
use Rattle.sid_core.specs.declared.call.Span.{Span}
use Rattle.sid_core.specs.declared.reply.Reply.{Reply}
use Rattle.sid_core.specs.declared.reply.Reply.TheVariants.{Done, AccessDenied, InvalidParameter, FileLockConflict}
use Rattle.sid_core.specs.declared.setup.Setup.{Setup}
use Rattle.sid_core.specs.Values.{IsMoment, has}
use Rattle.sid_core.specs.declared.ids.Moment.{Moment}
use Rattle.serial_table.specs.declared.rows.OpenRow.{OpenRow}
use Rattle.serial_table.specs.declared.rows.RangeRow.{RangeRow}
use Rattle.serial_table.specs.declared.table.Table.{Table}
use Rattle.serial_table.specs.declared.change.Change.{Change}
use Rattle.serial_table.specs.declared.decision.Caller.{Caller}
use Rattle.serial_table.specs.declared.decision.Decision.{Decision}
use Rattle.serial_table.specs.View.{View, view}
use Rattle.serial_table.specs.File.{FileView, file_view}
use Rattle.serial_table.specs.Decision.{only_reply}
use Rattle.serial_table.specs.Break.{Breaks, break_others, none_of_them}
use Rattle.serial_table.specs.Range.{passes_end}
use Rattle.serial_table.specs.ReadWrite.{if_allowed, forbids_read, read_first, read, forbids_write, written, write_first, write}
use Rattle.serial_table.specs.Sound.{IsConsistent}
use Rattle.serial_table.specs.InSets.{IsInSets}
use Rattle.serial_table.specs.InPlace.{is_made}
use Rattle.serial_table.proofs.SameWorkers.{keeps_workers}
use Rattle.serial_table.proofs.Shown.{shows_itself}
use Rattle.serial_table.proofs.BreaksBring.{each_brings}
use Rattle.serial_table.proofs.Owing.{IsCalling, IsCallingInSets, DecisionHolds, DecisionBrings, spots_differ, reply_holds, reply_brings}
use Rattle.serial_table.proofs.BreaksOwed.{PassesRows, rows_keep, rows_made, each_passes, each_hold, IsRound, round_holds, round_brings}

-- ---- what they can decide

-- a reply, or what is done where it is allowed
of_allowed : (P : Decision → Type 0) (f : FileView) (row : OpenRow) (wanted : ℕ) (span : Span) (forbids : RangeRow → Bool) (done : Decision) → ((reply : Reply) → P (only_reply reply)) → P done → P (if_allowed f row wanted span forbids done)
of_allowed P f row wanted span forbids done replies h =
    cond_both (not (has row.access.0 wanted)) (only_reply AccessDenied) _ P (λ _. replies _)
    (λ _. cond_both (span.length == 0) (only_reply Done) _ P (λ _. replies _)
    (λ _. cond_both (passes_end span) (only_reply InvalidParameter) _ P (λ _. replies _) (λ _. cond_both (list_any forbids f.ranges) (only_reply FileLockConflict) done P (λ _. replies _) (λ _. h))))

of_read : (P : Decision → Type 0) → ((reply : Reply) → P (only_reply reply)) → (v : View) (span : Span) (rows : List OpenRow) → P (read_first v span rows)
of_read P replies v span [] = replies _
of_read P replies v span (row ∷ rows) = of_allowed P (file_view row.file v) row 0x21 span (forbids_read row span) (only_reply Done) replies (replies Done)

-- what holds of each decision of `write`
record HoldsOfEach (P : Decision → Type 0) (now : Moment) (v : View) : Type 0 where
  replies : (reply : Reply) → P (only_reply reply)
  writes : (row : OpenRow) → P (written row (break_others now row.file (file_view row.file v) none_of_them row.lease))

of_write : (P : Decision → Type 0) (now : Moment) (v : View) → HoldsOfEach P now v → (span : Span) (rows : List OpenRow) → P (write_first now v span rows)
of_write P now v h span [] = h.replies _
of_write P now v h span (row ∷ rows) =
    of_allowed P (file_view row.file v) row 0x6 span (forbids_write row span) (written row (break_others now row.file (file_view row.file v) none_of_them row.lease)) h.replies (h.writes row)

-- ---- `read`

pub read_holds : (low : ℕ → ℕ) (t : Table) (caller : Caller) (handle : ℕ) (span : Span) → IsCalling low t caller → DecisionHolds low t (read (view t) caller handle span)
unfolding read
read_holds low t caller handle span k = of_read (DecisionHolds low t) (λ reply. reply_holds low t reply k.consistent) (view t) span ((view t).opens_of_handle caller.sid handle)

pub read_brings : (setup : Setup) (t : Table) (caller : Caller) (handle : ℕ) (span : Span) → DecisionBrings setup t (read (view t) caller handle span)
unfolding read
read_brings setup t caller handle span = of_read (DecisionBrings setup t) (λ reply. reply_brings setup t reply) (view t) span ((view t).opens_of_handle caller.sid handle)

pub read_keeps : (v : View) (caller : Caller) (handle : ℕ) (span : Span) → list_all keeps_workers (read v caller handle span).changes ≡ true
unfolding read
read_keeps v caller handle span = of_read (λ d. list_all keeps_workers d.changes ≡ true) (λ reply. refl) v span (v.opens_of_handle caller.sid handle)

pub read_made : (v : View) (caller : Caller) (handle : ℕ) (span : Span) → list_all is_made (read v caller handle span).changes ≡ true
unfolding read
read_made v caller handle span = of_read (λ d. list_all is_made d.changes ≡ true) (λ reply. refl) v span (v.opens_of_handle caller.sid handle)

-- ---- `write`

write_round : (row : OpenRow) (b : Breaks) → IsRound (written row b) [] b []
write_round row b = record { changes = sym (append-nil b.changes); posts = refl; first = refl; later = refl }

written_holds : (now : Moment) (low : ℕ → ℕ) (t : Table) (row : OpenRow) → IsConsistent t → DecisionHolds low t (written row (break_others now row.file (file_view row.file (view t)) none_of_them row.lease))
written_holds now low t row k =
    let f = file_view row.file (view t) in
    let b = break_others now row.file f none_of_them row.lease in
    round_holds low row.file t k (written row b) [] b [] (write_round row b) tt (each_hold now row.file none_of_them refl _ f t (shows_itself row.file t) k) tt tt tt
    (record { rows = omega arith; bits = omega arith; spots = spots_differ row.file }) (λ u same. tt) (λ u. tt)

written_brings : (now : Moment) (setup : Setup) (t : Table) (row : OpenRow) → IsMoment now.0 → IsConsistent t → IsInSets setup t → DecisionBrings setup t (written row (break_others now row.file (file_view row.file (view t)) none_of_them row.lease))
written_brings now setup t row timed k n =
    let f = file_view row.file (view t) in
    let b = break_others now row.file f none_of_them row.lease in
    round_brings setup t (written row b) [] b [] (write_round row b) tt (each_brings setup now timed row.file none_of_them refl _ f t (shows_itself row.file t) k n) tt (λ u. tt)

pub write_holds : (low : ℕ → ℕ) (t : Table) (caller : Caller) (handle : ℕ) (span : Span) → IsCalling low t caller → DecisionHolds low t (write (view t) caller handle span)
unfolding write
write_holds low t caller handle span k =
    of_write (DecisionHolds low t) caller.moment (view t) (record { replies = λ reply. reply_holds low t reply k.consistent; writes = λ row. written_holds caller.moment low t row k.consistent }) span ((view t).opens_of_handle caller.sid handle)

pub write_brings : (setup : Setup) (t : Table) (caller : Caller) (handle : ℕ) (span : Span) → IsCallingInSets setup t caller → DecisionBrings setup t (write (view t) caller handle span)
unfolding write
write_brings setup t caller handle span k =
    of_write (DecisionBrings setup t) caller.moment (view t) (record { replies = λ reply. reply_brings setup t reply; writes = λ row. written_brings caller.moment setup t row k.moment k.consistent k.in_sets }) span ((view t).opens_of_handle caller.sid handle)

write_passes : (p : Change → Bool) → PassesRows p → (now : Moment) (v : View) (span : Span) (rows : List OpenRow) → list_all p (write_first now v span rows).changes ≡ true
write_passes p h now v span rows =
    of_write (λ d. list_all p d.changes ≡ true) now v (record { replies = λ reply. refl; writes = λ row. each_passes p h now row.file (file_view row.file v) none_of_them _ }) span rows

pub write_keeps : (v : View) (caller : Caller) (handle : ℕ) (span : Span) → list_all keeps_workers (write v caller handle span).changes ≡ true
unfolding write
write_keeps v caller handle span = write_passes keeps_workers rows_keep caller.moment v span (v.opens_of_handle caller.sid handle)

pub write_made : (v : View) (caller : Caller) (handle : ℕ) (span : Span) → list_all is_made (write v caller handle span).changes ≡ true
unfolding write
write_made v caller handle span = write_passes is_made rows_made caller.moment v span (v.opens_of_handle caller.sid handle)
