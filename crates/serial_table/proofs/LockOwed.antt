-- `lock`.
use Rattle.std.proofs.Common.{◌≡◌, ◌==◌, ◌&&◌, ℕ, Bool, true, false, cond, not, List, [], ◌∷◌, filter, find, Option, Some, None, refl, sym, ap, ◌∙◌, inl, arith, append-nil, eq-eqb}
use Rattle.std.specs.Prelude.{◌+◌, ◌^◌}
use Rattle.std.specs.List.{list_all, IsDistinct}
use Rattle.std.specs.Option.{option_map_or}
use Rattle.std.proofs.lemmas.Bool.{and_from, cond_both, ltb-false}
use Rattle.sid_core.specs.declared.ids.Spot.TheVariants.{RangesOf}
use Rattle.sid_core.specs.declared.call.Span.{Span}
use Rattle.sid_core.specs.declared.call.Mode.{Mode}
use Rattle.sid_core.specs.declared.reply.Reply.{Reply}
use Rattle.sid_core.specs.declared.reply.Reply.TheVariants.{AccessDenied, InvalidLockRange}
use Rattle.sid_core.specs.declared.setup.Setup.{Setup}
use Rattle.sid_core.specs.Ids.{same_id}
use Rattle.sid_core.specs.Values.{has, IsSpan}
use Rattle.serial_table.specs.declared.rows.OpenRow.{OpenRow}
use Rattle.serial_table.specs.declared.rows.RangeRow.{RangeRow}
use Rattle.serial_table.specs.declared.rows.WaiterRow.{WaiterRow}
use Rattle.serial_table.specs.declared.table.Table.{Table}
use Rattle.serial_table.specs.declared.change.Change.{Change}
use Rattle.serial_table.specs.declared.change.Change.TheVariants as c
use Rattle.serial_table.specs.declared.decision.Caller.{Caller}
use Rattle.serial_table.specs.declared.decision.Decision.{Decision}
use Rattle.serial_table.specs.View.{View, view, lives, is_of_file, is_of_handle, has_id}
use Rattle.serial_table.specs.Settle.{settle_where}
use Rattle.serial_table.specs.File.{FileView, FileOpen, file_view, file_open}
use Rattle.serial_table.specs.Change.{perform}
use Rattle.serial_table.specs.Decision.{only_reply}
use Rattle.serial_table.specs.Break.{Breaks, break_others, none_of_them}
use Rattle.serial_table.specs.Range.{range_conflict, passes_end, range_of}
use Rattle.serial_table.specs.Lock.{grant_range, range_blocker, wait_for_range, lock_by, lock_range, lock_first, lock}
use Rattle.serial_table.specs.Sound.{has_its_open}
use Rattle.serial_table.specs.InSets.{IsOpenRow, IsRangeRow}
use Rattle.serial_table.specs.InPlace.{is_made}
use Rattle.serial_table.proofs.SameIds.{same_id-refl}
use Rattle.serial_table.proofs.Members.{IsIn, any_of, all_of, in_filter, in_map, found_in}
use Rattle.serial_table.proofs.SameWorkers.{keeps_workers}
use Rattle.serial_table.proofs.Consistent.{consistent-perform}
use Rattle.serial_table.proofs.Shown.{Shows, shows_itself, shows-range}
use Rattle.serial_table.proofs.BreaksBring.{BreaksBring, each_brings}
use Rattle.serial_table.proofs.Owing.{IsCalling, IsCallingInSets, DecisionHolds, DecisionBrings, adds_rows, spots_differ, reply_holds, reply_brings}
use Rattle.serial_table.proofs.OwnWaits as own
use Rattle.serial_table.proofs.BreaksOwed.{PassesRows, rows_keep, rows_made, one_passes, own_pass, each_passes, each_hold, IsRound, round_holds, round_brings}

-- ---- what it can decide

-- what holds of each decision of an open's `lock`
record HoldsOfEach (P : Decision → Type 0) (f : FileView) (caller : Caller) (span : Span) (mode : Mode) (row : OpenRow) : Type 0 where
  replies : (reply : Reply) → P (only_reply reply)
  grants : passes_end span ≡ false → P (grant_range row span mode (break_others caller.moment row.file f none_of_them row.lease))
  waits : (range : RangeRow) → P (wait_for_range caller row.file true (range_blocker f range))

module _ (P : Decision → Type 0) (f : FileView) (caller : Caller) (span : Span) (mode : Mode) (row : OpenRow) (h : HoldsOfEach P f caller span mode row) where
  of_wait : (wait : Bool) (range : RangeRow) → P (wait_for_range caller row.file wait (range_blocker f range))
  of_wait false range = h.replies _
  of_wait true range = h.waits range

  of_ranges : (wait : Bool) → passes_end span ≡ false → (ranges : List RangeRow) → P (lock_by f caller span mode wait row ranges)
  of_ranges wait e [] = h.grants e
  of_ranges wait e (first ∷ others) = of_wait wait first

  of_lock : (wait : Bool) → P (lock_range f caller span mode wait row)
  of_lock wait =
      let by_ranges = lock_by f caller span mode wait row (filter (λ held. range_conflict held row.id span mode) f.ranges) in
      cond_both (not (has row.access.0 0x3)) (only_reply AccessDenied) _ P (λ _. h.replies _)
      (λ _. cond_both (passes_end span) (only_reply InvalidLockRange) by_ranges P (λ _. h.replies _) (λ e. of_ranges wait e (filter (λ held. range_conflict held row.id span mode) f.ranges)))

-- ---- what it owes

-- who is waited for lives
blocker_lives : (t : Table) (file : ℕ) (range : RangeRow) → option_map_or (lives (view t)) (range_blocker (file_view file (view t)) range) true ≡ true
blocker_lives t file range = of_found (find (λ o. has_id range.id o.row) f.opens) refl
  where
    f : FileView
    f = file_view file (view t)

    of_found : (o : Option FileOpen) → find (λ o. has_id range.id o.row) (file_view file (view t)).opens ≡ o
        → option_map_or (lives (view t)) (option_map_or (λ (o : FileOpen). cond o.connected (Some o.row.owner) None) o None) true ≡ true
    of_found None e = refl
    of_found (Some o) e =
        let here = found_in (λ (o : FileOpen). has_id range.id o.row) (file_view file (view t)).opens o e in
        let x = in_map (file_open (lives (view t))) (filter (is_of_file file) t.opens) o here.0 in
        cond_both o.connected (Some o.row.owner) None (λ b. option_map_or (lives (view t)) b true ≡ true)
        (λ connected. ap (λ (y : FileOpen). lives (view t) y.row.owner) (sym x.2) ∙ ap (λ (y : FileOpen). y.connected) x.2 ∙ connected) (λ _. refl)

module _ (caller : Caller) (t : Table) (row : OpenRow) (here : IsIn row t.opens) (span : Span) (mode : Mode) (waiters : List WaiterRow) where
  abbrev f : FileView
  f = file_view row.file (view t)

  abbrev u : Table
  u = record t { waiters = waiters }

  abbrev locked : Table
  locked = perform (c.AddRange (range_of row span mode)) u

  abbrev breaks : Breaks
  breaks = break_others caller.moment row.file f none_of_them row.lease

  range_fits : has_its_open t.opens (range_of row span mode) ≡ true
  range_fits = any_of (λ o. (o.file == row.file) && same_id o.id row.id) t.opens row here (and_from (row.file == row.file) (same_id row.id row.id) (eq-eqb row.file row.file refl) (same_id-refl row.id))

  shown : Shows row.file f locked
  shown = shows-range row.file (range_of row span mode) f u (record { opens = refl; leases = refl })

  is_round : IsRound (grant_range row span mode breaks) (c.AddRange (range_of row span mode) ∷ []) breaks []
  is_round = record { changes = ap (λ cs. c.AddRange (range_of row span mode) ∷ cs) (sym (append-nil breaks.changes)); posts = refl; first = refl; later = refl }

  module _ (low : ℕ → ℕ) (k : IsCalling low t caller) (left : own.IsLeft t caller ((view t).watches_on (RangesOf row.file)) waiters) where
    granted : DecisionHolds low u (grant_range row span mode breaks)
    granted =
        round_holds low row.file u left.consistent (grant_range row span mode breaks) (c.AddRange (range_of row span mode) ∷ []) breaks [] is_round (range_fits, tt)
        (each_hold caller.moment row.file none_of_them refl _ f locked shown (consistent-perform (c.AddRange (range_of row span mode)) u left.consistent range_fits)) tt (tt, tt) tt
        (record { rows = omega arith; bits = omega arith; spots = spots_differ row.file }) (λ x same. tt) (λ x. tt)

    waiting : (range : RangeRow) → DecisionHolds low u (wait_for_range caller row.file true (range_blocker f range))
    unfolding IsDistinct settle_where
    waiting range = record {
      fits = record { changes = tt; waits = (own.new_waiter t caller (RangesOf row.file) waiters left k.fresh (perform c.Settle u) refl k.alive (range_blocker f range) (blocker_lives t row.file range) false, tt); posts = refl };
      numbers = record { changes = tt; waits = λ x. (k.number, tt) };
      adds = adds_rows u (wait_for_range caller row.file true (range_blocker f range)) left.consistent tt (omega arith) (omega arith) (omega arith) (omega arith) (omega arith) tt;
    }

  module _ (setup : Setup) (k : IsCallingInSets setup t caller) (is : IsSpan span) where
    in_sets : IsOpenRow setup row
    in_sets = all_of (IsOpenRow setup) t.opens k.in_sets.opens row here

    range_in_sets : passes_end span ≡ false → IsRangeRow setup (range_of row span mode)
    range_in_sets e = record { id = in_sets.id; file = in_sets.file; span = is; end = ltb-false (2 ^ 64) (span.start + span.length) e }

    broken : BreaksBring setup breaks
    broken = each_brings setup caller.moment k.moment row.file none_of_them refl _ f t (shows_itself row.file t) k.consistent k.in_sets

    brought : HoldsOfEach (DecisionBrings setup u) f caller span mode row
    brought = record {
      replies = λ reply. reply_brings setup u reply;
      grants = λ e. round_brings setup u (grant_range row span mode breaks) (c.AddRange (range_of row span mode) ∷ []) breaks [] is_round (range_in_sets e, tt) broken tt (λ x. tt);
      waits = λ range. record { changes = tt; waits = λ x. ((k.number, in_sets.file), tt); letters = λ post i. absurd i };
    }

-- ---- the open that the handle names

of_handle : (t : Table) (caller : Caller) (handle : ℕ) (row : OpenRow) → IsIn row ((view t).opens_of_handle caller.sid handle) → IsIn row t.opens
of_handle t caller handle row i = (in_filter (is_of_handle caller.sid handle) t.opens row i).0

first_holds : (low : ℕ → ℕ) (t : Table) (caller : Caller) (span : Span) (mode : Mode) (wait : Bool) (rows : List OpenRow) → IsCalling low t caller → ((row : OpenRow) → IsIn row rows → IsIn row t.opens)
    → DecisionHolds low t (lock_first (view t) caller span mode wait rows)
first_holds low t caller span mode wait [] k there = reply_holds low t _ k.consistent
first_holds low t caller span mode wait (row ∷ rows) k there =
    let f = file_view row.file (view t) in
    let here = there row (inl refl) in
    own.own_holds t caller f.range_watches (lock_range f caller span mode wait row) low k.consistent
    (λ waiters left. of_lock (DecisionHolds low (record t { waiters = waiters })) f caller span mode row (record {
      replies = λ reply. reply_holds low (record t { waiters = waiters }) reply left.consistent;
      grants = λ _. granted caller t row here span mode waiters low k left;
      waits = λ range. waiting caller t row here span mode waiters low k left range;
    }) wait)

pub lock_holds : (low : ℕ → ℕ) (t : Table) (caller : Caller) (handle : ℕ) (span : Span) (mode : Mode) (wait : Bool) → IsCalling low t caller → DecisionHolds low t (lock (view t) caller handle span mode wait)
unfolding lock
lock_holds low t caller handle span mode wait k = first_holds low t caller span mode wait ((view t).opens_of_handle caller.sid handle) k (of_handle t caller handle)

first_brings : (setup : Setup) (t : Table) (caller : Caller) (span : Span) (mode : Mode) (wait : Bool) (rows : List OpenRow) → IsCallingInSets setup t caller → IsSpan span → ((row : OpenRow) → IsIn row rows → IsIn row t.opens)
    → DecisionBrings setup t (lock_first (view t) caller span mode wait rows)
first_brings setup t caller span mode wait [] k is there = reply_brings setup t _
first_brings setup t caller span mode wait (row ∷ rows) k is there =
    let f = file_view row.file (view t) in
    own.own_brings t caller f.range_watches (lock_range f caller span mode wait row) setup
    (λ waiters. of_lock (DecisionBrings setup (record t { waiters = waiters })) f caller span mode row (brought caller t row (there row (inl refl)) span mode waiters setup k is) wait)

pub lock_brings : (setup : Setup) (t : Table) (caller : Caller) (handle : ℕ) (span : Span) (mode : Mode) (wait : Bool) → IsCallingInSets setup t caller → IsSpan span
    → DecisionBrings setup t (lock (view t) caller handle span mode wait)
unfolding lock
lock_brings setup t caller handle span mode wait k is = first_brings setup t caller span mode wait ((view t).opens_of_handle caller.sid handle) k is (of_handle t caller handle)

-- ---- the changes that it makes

first_passes : (p : Change → Bool) → PassesRows p → (v : View) (caller : Caller) (span : Span) (mode : Mode) (wait : Bool) (rows : List OpenRow) → list_all p (lock_first v caller span mode wait rows).changes ≡ true
first_passes p h v caller span mode wait [] = refl
first_passes p h v caller span mode wait (row ∷ rows) =
    let f = file_view row.file v in
    own_pass p h caller f.range_watches (lock_range f caller span mode wait row)
    (of_lock (λ d. list_all p d.changes ≡ true) f caller span mode row (record {
      replies = λ reply. refl;
      grants = λ _. one_passes p h _ _ (h.rows _ refl) (each_passes p h caller.moment row.file f none_of_them _);
      waits = λ range. refl;
    }) wait)

pub lock_keeps : (v : View) (caller : Caller) (handle : ℕ) (span : Span) (mode : Mode) (wait : Bool) → list_all keeps_workers (lock v caller handle span mode wait).changes ≡ true
unfolding lock
lock_keeps v caller handle span mode wait = first_passes keeps_workers rows_keep v caller span mode wait (v.opens_of_handle caller.sid handle)

pub lock_made : (v : View) (caller : Caller) (handle : ℕ) (span : Span) (mode : Mode) (wait : Bool) → list_all is_made (lock v caller handle span mode wait).changes ≡ true
unfolding lock
lock_made v caller handle span mode wait = first_passes is_made rows_made v caller span mode wait (v.opens_of_handle caller.sid handle)
