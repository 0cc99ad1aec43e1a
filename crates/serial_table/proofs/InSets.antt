-- Each change keeps the numbers of the table in their sets, where what it brings lies there.
use Rattle.std.proofs.Common.{◌≡◌, ◌==◌, ◌≤◌, ◌+◌, ◌-◌, ◌&&◌, not, ℕ, suc, Bool, true, false, cond, List, [], ◌∷◌, ◌++◌, length, filter, map, find, Option, Some, None, refl, sym, ap, ◌∙◌, subst, arith, eq-eqb, length-append}
use Rattle.std.specs.Prelude.{IfSome}
use Rattle.std.specs.List.{AllByRecursion, list_any}
use Rattle.std.specs.Option.{option_map, option_map_or}
use Rattle.std.proofs.lemmas.Bool.{eqb-true, cond_both, cond-true, cond-false, both_ways, and_from, and_parts}
use Rattle.std.proofs.lemmas.List.Elements.{filter-append}
use Rattle.std.proofs.lemmas.List.{map-append}
use Rattle.sid_core.specs.declared.ids.Sid.{Sid}
use Rattle.sid_core.specs.declared.ids.OpenId.{OpenId}
use Rattle.sid_core.specs.declared.ids.LeaseName.{LeaseName}
use Rattle.sid_core.specs.declared.ids.Moment.{Moment}
use Rattle.sid_core.specs.declared.bits.LeaseState.{LeaseState}
use Rattle.sid_core.specs.declared.call.Mode.{Mode}
use Rattle.sid_core.specs.declared.setup.Setup.{Setup}
use Rattle.sid_core.specs.Ids.{same_sid}
use Rattle.sid_core.specs.Values.{IsU32, IsState, IsMoment}
use Rattle.serial_table.specs.declared.rows.OpenRow.{OpenRow}
use Rattle.serial_table.specs.declared.rows.LeaseRow.{LeaseRow}
use Rattle.serial_table.specs.declared.rows.Breaking.{Breaking}
use Rattle.serial_table.specs.declared.rows.HoldRow.{HoldRow}
use Rattle.serial_table.specs.declared.rows.WorkerRow.{WorkerRow}
use Rattle.serial_table.specs.declared.rows.EndedRow.{EndedRow}
use Rattle.serial_table.specs.declared.table.Table.{Table}
use Rattle.serial_table.specs.declared.change.Change.{Change}
use Rattle.serial_table.specs.declared.change.Change.TheVariants as c
use Rattle.serial_table.specs.History.{start}
use Rattle.serial_table.specs.View.{view, lives, has_pid, is_of_handle, is_to, is_end_of, names_file}
use Rattle.serial_table.specs.File.{FileView, file_view, is_under}
use Rattle.serial_table.specs.Settle.{settle_where, broken_to_needed, settled_lease, row_stays, range_stays, lease_settles, lease_stays, pending_stays}
use Rattle.serial_table.specs.Change.{perform, perform_all, is_open, is_other_open, is_other_range, is_other_wait, new_owner, is_lease, set_lease, same_range, is_hold, set_hold, with_pending, outlives, range_outlives, end_session, begin_session, end_at}
use Rattle.sid_core.specs.Counting.{CountsFrom}
use Rattle.serial_table.specs.Sound.{Fits, AllFit}
use Rattle.serial_table.specs.InSets.{IsPid, IsSid, IsFileNumber, IsOpenRow, IsLeaseRow, IsBreaking, IsRangeRow, IsHoldRow, IsWaiterRow, IsPost, IsWorkerRow, IsEndedRow, names_worker, ended_sessions, ended_count, IsInSets, Brings, AllBring}
use Rattle.serial_table.proofs.Filters.{find-map, filter_one_out}
use Rattle.serial_table.proofs.Views.{pid-end_session, pid-begin_session}
use Rattle.serial_table.proofs.Listed.{Listed, more, kept, left, changed}
use Rattle.serial_table.proofs.Members.{all_of, all_by, none_of, some_same, found_in}
use Rattle.serial_table.proofs.SameIds.{eqb-flip}
use Rattle.serial_table.proofs.Living.{row_of}
use Rattle.serial_table.proofs.Fitting.{kept_along}

-- ---- a table by its lists, each with what says that it lies in its sets; a change gives the lists that it alters

-- the sessions of a pid among those that have ended
abbrev sessions_in : List EndedRow → ℕ → List ℕ
sessions_in ended pid = map (λ (row : EndedRow). row.sid.session) (filter (is_end_of pid) ended)

record Parts (setup : Setup) : Type 0 where
  opens : Listed (IsOpenRow setup)
  leases : Listed (IsLeaseRow setup)
  ranges : Listed (IsRangeRow setup)
  holds : Listed (IsHoldRow setup)
  waiters : Listed (IsWaiterRow setup)
  letters : Listed (IsPost setup)
  workers : Listed (IsWorkerRow setup)
  all_workers : map names_worker workers.rows ≡ map names_worker (start setup).workers
  ended : Listed (IsEndedRow setup)
  ended_in_order : (pid : ℕ) → CountsFrom 1 (sessions_in ended.rows pid)
  ended_all : (pid : ℕ) → IfSome (find (has_pid pid) workers.rows) (λ worker. length (sessions_in ended.rows pid) ≡ ended_count worker)
  pending : Listed (IsFileNumber setup)

module _ {setup : Setup} where
  abbrev parts : (t : Table) → IsInSets setup t → Parts setup
  parts t k = record {
    opens = record { rows = t.opens; each = all_of (IsOpenRow setup) t.opens k.opens };
    leases = record { rows = t.leases; each = all_of (IsLeaseRow setup) t.leases k.leases };
    ranges = record { rows = t.ranges; each = all_of (IsRangeRow setup) t.ranges k.ranges };
    holds = record { rows = t.holds; each = all_of (IsHoldRow setup) t.holds k.holds };
    waiters = record { rows = t.waiters; each = all_of (IsWaiterRow setup) t.waiters k.waiters };
    letters = record { rows = t.letters; each = all_of (IsPost setup) t.letters k.letters };
    workers = record { rows = t.workers; each = all_of (IsWorkerRow setup) t.workers k.workers };
    all_workers = k.all_workers;
    ended = record { rows = t.ended; each = all_of (IsEndedRow setup) t.ended k.ended };
    ended_in_order = k.ended_in_order;
    ended_all = k.ended_all;
    pending = record { rows = t.pending; each = all_of (IsFileNumber setup) t.pending k.pending };
  }

  abbrev table_of : Parts setup → Table
  table_of p = record {
    opens = p.opens.rows;
    leases = p.leases.rows;
    ranges = p.ranges.rows;
    holds = p.holds.rows;
    waiters = p.waiters.rows;
    letters = p.letters.rows;
    workers = p.workers.rows;
    ended = p.ended.rows;
    pending = p.pending.rows;
  }

  in_sets : (p : Parts setup) → IsInSets setup (table_of p)
  in_sets p = record {
    opens = all_by (IsOpenRow setup) p.opens.rows p.opens.each;
    leases = all_by (IsLeaseRow setup) p.leases.rows p.leases.each;
    ranges = all_by (IsRangeRow setup) p.ranges.rows p.ranges.each;
    holds = all_by (IsHoldRow setup) p.holds.rows p.holds.each;
    waiters = all_by (IsWaiterRow setup) p.waiters.rows p.waiters.each;
    letters = all_by (IsPost setup) p.letters.rows p.letters.each;
    workers = all_by (IsWorkerRow setup) p.workers.rows p.workers.each;
    all_workers = p.all_workers;
    ended = all_by (IsEndedRow setup) p.ended.rows p.ended.each;
    ended_in_order = p.ended_in_order;
    ended_all = p.ended_all;
    pending = all_by (IsFileNumber setup) p.pending.rows p.pending.each;
  }

-- ---- who lives is a session of a declared worker

pub sid_of : (setup : Setup) (t : Table) (sid : Sid) → AllByRecursion (IsWorkerRow setup) t.workers → lives (view t) sid ≡ true → IsSid setup sid
sid_of setup t sid workers e =
    let row = row_of t.workers sid e in
    let w = all_of (IsWorkerRow setup) t.workers workers row.0 row.1.within in
    record { pid = subst (IsPid setup) row.1.pid w.pid; session = subst (λ n. (1 ≤ n) × IsU32 n) row.1.session w.session }

blocker_of : (setup : Setup) (t : Table) (blocker : Option Sid) → AllByRecursion (IsWorkerRow setup) t.workers → option_map_or (lives (view t)) blocker true ≡ true → IfSome blocker (IsSid setup)
blocker_of setup t None workers e = tt
blocker_of setup t (Some sid) workers e = sid_of setup t sid workers e

-- ---- rows that a change alters

open_taken : (setup : Setup) (file : ℕ) (id : OpenId) (owner : Sid) (handle : ℕ) → IsSid setup owner → IsU32 handle → (o : OpenRow) → IsOpenRow setup o → IsOpenRow setup (new_owner file id owner handle o)
unfolding new_owner
open_taken setup file id owner handle sid own o h =
    cond_both (is_open file id o) (record o { owner = owner; handle = handle }) o (IsOpenRow setup)
    (λ _. record { id = h.id; owner = sid; handle = own; file = h.file; access = h.access; share = h.share; lease = h.lease; durable = h.durable; opened = h.opened }) (λ _. h)

lease_set : (setup : Setup) (file : ℕ) (name : LeaseName) (held : LeaseState) (breaking : Option Breaking) → IsState held.0 → IfSome breaking IsBreaking → (l : LeaseRow) → IsLeaseRow setup l
    → IsLeaseRow setup (set_lease file name held breaking l)
unfolding set_lease
lease_set setup file name held breaking state break l h =
    cond_both (is_lease file name l) (record l { held = held; breaking = breaking }) l (IsLeaseRow setup) (λ _. record { name = h.name; file = h.file; held = state; breaking = break }) (λ _. h)

lease_broken : (setup : Setup) (l : LeaseRow) (breaking : Option Breaking) → IsLeaseRow setup l → IfSome breaking IsBreaking → IsLeaseRow setup (broken_to_needed l breaking)
lease_broken setup l None h break = h
lease_broken setup l (Some b) h break = record { name = h.name; file = h.file; held = break.needed; breaking = tt }

lease_settled : (setup : Setup) (f : FileView) (l : LeaseRow) → IsLeaseRow setup l → IsLeaseRow setup (settled_lease f l)
lease_settled setup f l h =
    cond_both (list_any (λ o. is_under l.name o && o.connected) f.opens) l (broken_to_needed l l.breaking) (IsLeaseRow setup) (λ _. h) (λ _. lease_broken setup l l.breaking h h.breaking)

hold_set : (setup : Setup) (key : ℕ) (owner : Sid) (mode : Mode) (hold : HoldRow) → IsHoldRow setup hold → IsHoldRow setup (set_hold key owner mode hold)
unfolding set_hold
hold_set setup key owner mode hold h = cond_both (is_hold key owner hold) (record hold { mode = mode }) hold (IsHoldRow setup) (λ _. record { owner = h.owner; key = h.key }) (λ _. h)

worker_ends : (setup : Setup) (sid : Sid) (w : WorkerRow) → IsWorkerRow setup w → IsWorkerRow setup (end_session sid w)
unfolding end_session
worker_ends setup sid w h =
    cond_both ((w.pid == sid.pid) && (w.session == sid.session)) (record w { alive = false }) w (IsWorkerRow setup) (λ _. record { declared = h.declared; pid = h.pid; session = h.session; connected = h.connected }) (λ _. h)

worker_begins : (setup : Setup) (sid : Sid) (moment : Moment) → IsMoment moment.0 → IsU32 (sid.session + 1) → (w : WorkerRow) → IsWorkerRow setup w → IsWorkerRow setup (begin_session sid moment w)
unfolding begin_session
worker_begins setup sid moment timed next w h =
    cond_both ((w.pid == sid.pid) && (w.session == sid.session)) (record w { alive = true; session = sid.session + 1; connected = moment }) w (IsWorkerRow setup)
    (λ _. record { declared = h.declared; pid = h.pid; session = (omega arith, next); connected = timed }) (λ _. h)

-- ---- the workers' numbers and pids stay

names_end : (sid : Sid) (w : WorkerRow) → names_worker (end_session sid w) ≡ names_worker w
unfolding end_session
names_end sid w = cond_both ((w.pid == sid.pid) && (w.session == sid.session)) (record w { alive = false }) w (λ (x : WorkerRow). names_worker x ≡ names_worker w) (λ _. refl) (λ _. refl)

names_begin : (sid : Sid) (moment : Moment) (w : WorkerRow) → names_worker (begin_session sid moment w) ≡ names_worker w
unfolding begin_session
names_begin sid moment w =
    cond_both ((w.pid == sid.pid) && (w.session == sid.session)) (record w { alive = true; session = sid.session + 1; connected = moment }) w (λ (x : WorkerRow). names_worker x ≡ names_worker w) (λ _. refl) (λ _. refl)

names_kept : (f : WorkerRow → WorkerRow) → ((w : WorkerRow) → names_worker (f w) ≡ names_worker w) → (ws : List WorkerRow) → map names_worker (map f ws) ≡ map names_worker ws
names_kept f h [] = refl
names_kept f h (w ∷ ws) = λ i. h w i ∷ names_kept f h ws i

-- ---- the ended sessions of a pid

counts_more : (low : ℕ) (ns : List ℕ) (n : ℕ) → CountsFrom low ns → n ≡ low + length ns → CountsFrom low (ns ++ n ∷ [])
counts_more low [] n counts e = (let f : n ≡ low + 0 = e in omega arith, tt)
counts_more low (m ∷ ms) n counts e = (counts.0, counts_more (low + 1) ms n counts.1 (let f : n ≡ low + suc (length ms) = e in omega arith))

-- one more row of another pid changes nothing, and one of this pid stands at the end
ended_other : (t : Table) (row : EndedRow) (pid : ℕ) → is_end_of pid row ≡ false → sessions_in (t.ended ++ row ∷ []) pid ≡ ended_sessions t pid
ended_other t row pid e = ap (map (λ (r : EndedRow). r.sid.session)) (filter_one_out (is_end_of pid) row t.ended e)

ended_own : (t : Table) (row : EndedRow) (pid : ℕ) → is_end_of pid row ≡ true → sessions_in (t.ended ++ row ∷ []) pid ≡ ended_sessions t pid ++ row.sid.session ∷ []
ended_own t row pid e =
    ap (map (λ (r : EndedRow). r.sid.session)) (filter-append (is_end_of pid) t.ended (row ∷ []) ∙ ap (λ b. filter (is_end_of pid) t.ended ++ cond b (row ∷ []) []) e)
    ∙ map-append (λ (r : EndedRow). r.sid.session) (filter (is_end_of pid) t.ended) (row ∷ [])

-- a session that ends has the number after those of its pid that have ended
ending_number : (setup : Setup) (t : Table) (sid : Sid) → IsInSets setup t → lives (view t) sid ≡ true → sid.session ≡ 1 + length (ended_sessions t sid.pid)
ending_number setup t sid k e =
    let row = row_of t.workers sid e in
    let w = row.0 in
    let count : length (ended_sessions t sid.pid) ≡ ended_count w = subst (λ o. IfSome o (λ worker. length (ended_sessions t sid.pid) ≡ ended_count worker)) row.1.found (k.ended_all sid.pid) in
    let current : ended_count w ≡ w.session - 1 = cond-true w.alive (w.session - 1) w.session row.1.alive in
    let low : 1 ≤ w.session = (all_of (IsWorkerRow setup) t.workers k.workers w row.1.within).session.0 in
    let same : w.session ≡ sid.session = row.1.session in
    omega arith

order_ends : (setup : Setup) (t : Table) (sid : Sid) (moment : Moment) → IsInSets setup t → lives (view t) sid ≡ true → (pid : ℕ) (b : Bool) → is_end_of pid (end_at sid moment) ≡ b
    → CountsFrom 1 (sessions_in (t.ended ++ end_at sid moment ∷ []) pid)
order_ends setup t sid moment k live pid true e =
    subst (CountsFrom 1) (sym (ended_own t (end_at sid moment) pid e))
    (counts_more 1 (ended_sessions t pid) sid.session (k.ended_in_order pid) (ending_number setup t sid k live ∙ ap (λ p. 1 + length (ended_sessions t p)) (eqb-true sid.pid pid e)))
order_ends setup t sid moment k live pid false e = subst (CountsFrom 1) (sym (ended_other t (end_at sid moment) pid e)) (k.ended_in_order pid)

dead_count : (sid : Sid) (w : WorkerRow) (n : ℕ) → ((w.pid == sid.pid) && (w.session == sid.session)) ≡ true → n ≡ w.session → n ≡ ended_count (end_session sid w)
unfolding end_session
dead_count sid w n e same =
    cond_both ((w.pid == sid.pid) && (w.session == sid.session)) (record w { alive = false }) w (λ (x : WorkerRow). n ≡ ended_count x) (λ _. same) (λ f. absurd (both_ways ((w.pid == sid.pid) && (w.session == sid.session)) f e))

other_count : (sid : Sid) (w : WorkerRow) (n : ℕ) → (w.pid == sid.pid) ≡ false → n ≡ ended_count w → n ≡ ended_count (end_session sid w)
unfolding end_session
other_count sid w n e same =
    cond_both ((w.pid == sid.pid) && (w.session == sid.session)) (record w { alive = false }) w (λ (x : WorkerRow). n ≡ ended_count x)
    (λ f. absurd (both_ways (w.pid == sid.pid) e (and_parts (w.pid == sid.pid) (w.session == sid.session) f).0)) (λ _. same)

counted_ends : (setup : Setup) (t : Table) (sid : Sid) (moment : Moment) → IsInSets setup t → lives (view t) sid ≡ true → (pid : ℕ) (b : Bool) → is_end_of pid (end_at sid moment) ≡ b
    → (o : Option WorkerRow) → find (has_pid pid) t.workers ≡ o
    → IfSome (option_map (end_session sid) o) (λ w. length (sessions_in (t.ended ++ end_at sid moment ∷ []) pid) ≡ ended_count w)
counted_ends setup t sid moment k live pid b e None f = tt
counted_ends setup t sid moment k live pid true e (Some w) f =
    let row = row_of t.workers sid live in
    let same : row.0 ≡ w = some_same row.0 w (sym row.1.found ∙ ap (λ p. find (has_pid p) t.workers) (eqb-true sid.pid pid e) ∙ f) in
    let own : ((w.pid == sid.pid) && (w.session == sid.session)) ≡ true =
    ap (λ (x : WorkerRow). (x.pid == sid.pid) && (x.session == sid.session)) (sym same)
    ∙ and_from (row.0.pid == sid.pid) (row.0.session == sid.session) (eq-eqb row.0.pid sid.pid row.1.pid) (eq-eqb row.0.session sid.session row.1.session) in
    let number : sid.session ≡ 1 + length (ended_sessions t sid.pid) = ending_number setup t sid k live in
    let at : length (ended_sessions t sid.pid) ≡ length (ended_sessions t pid) = ap (λ p. length (ended_sessions t p)) (eqb-true sid.pid pid e) in
    let session : w.session ≡ sid.session = ap (λ (x : WorkerRow). x.session) (sym same) ∙ row.1.session in
    let more : length (sessions_in (t.ended ++ end_at sid moment ∷ []) pid) ≡ length (ended_sessions t pid) + 1 =
    ap length (ended_own t (end_at sid moment) pid e) ∙ length-append (ended_sessions t pid) (sid.session ∷ []) in
    dead_count sid w (length (sessions_in (t.ended ++ end_at sid moment ∷ []) pid)) own (omega arith)
counted_ends setup t sid moment k live pid false e (Some w) f =
    let here = (found_in (has_pid pid) t.workers w f).1 in
    let other : (w.pid == sid.pid) ≡ false = ap (λ p. p == sid.pid) (eqb-true w.pid pid here) ∙ eqb-flip pid sid.pid ∙ e in
    let count : length (ended_sessions t pid) ≡ ended_count w = subst (λ o. IfSome o (λ worker. length (ended_sessions t pid) ≡ ended_count worker)) f (k.ended_all pid) in
    other_count sid w (length (sessions_in (t.ended ++ end_at sid moment ∷ []) pid)) other (ap length (ended_other t (end_at sid moment) pid e) ∙ count)

begun_count : (sid : Sid) (moment : Moment) (w : WorkerRow) (n : ℕ) → ((w.pid == sid.pid) ≡ true → w.alive ≡ false) → n ≡ ended_count w → n ≡ ended_count (begin_session sid moment w)
unfolding begin_session
begun_count sid moment w n dead count =
    cond_both ((w.pid == sid.pid) && (w.session == sid.session)) (record w { alive = true; session = sid.session + 1; connected = moment }) w (λ (x : WorkerRow). n ≡ ended_count x)
    (λ e. let both = and_parts (w.pid == sid.pid) (w.session == sid.session) e in
    let own : ended_count w ≡ w.session = cond-false w.alive (w.session - 1) w.session (dead both.0) in
    let same = eqb-true w.session sid.session both.1 in
    omega (arith, own, same, count)) (λ _. count)

counted_begins : (setup : Setup) (t : Table) (own : Sid) (moment : Moment) → IsInSets setup t → Fits (c.NextSession own moment) t → (pid : ℕ) (o : Option WorkerRow) → find (has_pid pid) t.workers ≡ o
    → IfSome (option_map (begin_session own moment) o) (λ w. length (ended_sessions t pid) ≡ ended_count w)
counted_begins setup t own moment k fit pid None f = tt
counted_begins setup t own moment k fit pid (Some w) f =
    let count : length (ended_sessions t pid) ≡ ended_count w = subst (λ o. IfSome o (λ worker. length (ended_sessions t pid) ≡ ended_count worker)) f (k.ended_all pid) in
    let none = none_of (λ worker. has_pid own.pid worker && worker.alive) t.workers fit w (found_in (has_pid pid) t.workers w f).0 in
    begun_count own moment w (length (ended_sessions t pid)) (λ e. ap (λ b. b && w.alive) (sym e) ∙ none) count

-- ---- each change

module _ (setup : Setup) where
  pub in_sets-perform : (change : Change) (t : Table) → IsInSets setup t → Fits change t → Brings setup change t → IsInSets setup (perform change t)
  unfolding settle_where with_pending
  in_sets-perform (c.AddOpen o) t k fit own = let p = parts t k in in_sets (record p { opens = more p.opens o own })
  in_sets-perform (c.DropOpen file id) t k fit own =
      let p = parts t k in in_sets (record p { opens = kept (is_other_open file id) p.opens; ranges = kept (is_other_range file id) p.ranges })
  in_sets-perform (c.TakeOver file id owner handle) t k fit own =
      let p = parts t k in
      cond_both (list_any (is_of_handle owner handle) t.opens) t (record t { opens = map (new_owner file id owner handle) t.opens }) (IsInSets setup) (λ _. k)
      (λ _. in_sets (record p { opens = changed (new_owner file id owner handle) (open_taken setup file id owner handle (sid_of setup t owner k.workers fit) own) p.opens }))
  in_sets-perform (c.AddLease lease) t k fit own = let p = parts t k in in_sets (record p { leases = more p.leases lease own })
  in_sets-perform (c.SetLease file name held breaking) t k fit own =
      let p = parts t k in in_sets (record p { leases = changed (set_lease file name held breaking) (lease_set setup file name held breaking own.0 own.1) p.leases })
  in_sets-perform (c.Acknowledge file name state) t k fit own =
      let p = parts t k in in_sets (record p { leases = changed (set_lease file name state None) (lease_set setup file name state None fit tt) p.leases })
  in_sets-perform (c.AddRange range) t k fit own = let p = parts t k in in_sets (record p { ranges = more p.ranges range own })
  in_sets-perform (c.DropRange range) t k fit own = let p = parts t k in in_sets (record p { ranges = left (same_range range) p.ranges })
  in_sets-perform (c.AddPending file) t k fit own =
      let p = parts t k in
      cond_both (list_any (names_file file) t.pending) t.pending (t.pending ++ file ∷ []) (λ files. IsInSets setup (record t { pending = files })) (λ _. k)
      (λ _. in_sets (record p { pending = more p.pending file own }))
  in_sets-perform (c.DropPending file) t k fit own = let p = parts t k in in_sets (record p { pending = kept (λ pending. not (names_file file pending)) p.pending })
  in_sets-perform (c.AddHold hold) t k fit own =
      let p = parts t k in in_sets (record p { holds = more p.holds hold (record { owner = sid_of setup t hold.owner k.workers fit.owner; key = own }) })
  in_sets-perform (c.SetHold key owner mode) t k fit own = let p = parts t k in in_sets (record p { holds = changed (set_hold key owner mode) (hold_set setup key owner mode) p.holds })
  in_sets-perform (c.DropHold key owner) t k fit own = let p = parts t k in in_sets (record p { holds = kept (λ hold. not (is_hold key owner hold)) p.holds })
  in_sets-perform (c.AddWaiter w) t k fit own =
      let p = parts t k in
      let both = and_parts (lives (view t) w.sid) (option_map_or (lives (view t)) w.blocker true) fit.living in
      in_sets (record p { waiters = more p.waiters w (record { sid = sid_of setup t w.sid k.workers both.0; call = own.0; spot = own.1; blocker = blocker_of setup t w.blocker k.workers both.1 }) })
  in_sets-perform (c.DropWaiter sid call) t k fit own = let p = parts t k in in_sets (record p { waiters = kept (λ w. is_other_wait sid call w.sid w.call) p.waiters })
  in_sets-perform (c.Send post) t k fit own = let p = parts t k in in_sets (record p { letters = more p.letters post (record { to = sid_of setup t post.to k.workers fit; letter = own }) })
  in_sets-perform (c.TakeLetter to) t k fit own = let p = parts t k in in_sets (record p { letters = left (is_to to) p.letters })
  in_sets-perform (c.EndSession sid moment) t k fit own =
      let p = parts t k in
      in_sets (record p {
        opens = kept (outlives sid) p.opens;
        ranges = kept (range_outlives (view t) sid) p.ranges;
        holds = kept (λ hold. not (same_sid hold.owner sid)) p.holds;
        waiters = kept (λ w. not (same_sid w.sid sid)) p.waiters;
        letters = kept (λ post. not (is_to sid post)) p.letters;
        workers = changed (end_session sid) (worker_ends setup sid) p.workers;
        all_workers = names_kept (end_session sid) (names_end sid) t.workers ∙ k.all_workers;
        ended = more p.ended (end_at sid moment) (record { sid = sid_of setup t sid k.workers fit.lives; moment = own });
        ended_in_order = λ pid. order_ends setup t sid moment k fit.lives pid (sid.pid == pid) refl;
        ended_all = λ pid. subst (λ o. IfSome o (λ w. length (sessions_in (t.ended ++ end_at sid moment ∷ []) pid) ≡ ended_count w))
            (sym (find-map (has_pid pid) (end_session sid) (λ w. ap (λ p. p == pid) (pid-end_session sid w)) t.workers))
            (counted_ends setup t sid moment k fit.lives pid (sid.pid == pid) refl (find (has_pid pid) t.workers) refl);
      })
  in_sets-perform (c.NextSession sid moment) t k fit own =
      let p = parts t k in
      in_sets (record p {
        workers = changed (begin_session sid moment) (worker_begins setup sid moment own.0 own.1) p.workers;
        all_workers = names_kept (begin_session sid moment) (names_begin sid moment) t.workers ∙ k.all_workers;
        ended_all = λ pid. subst (λ o. IfSome o (λ w. length (ended_sessions t pid) ≡ ended_count w))
            (sym (find-map (has_pid pid) (begin_session sid moment) (λ w. ap (λ p. p == pid) (pid-begin_session sid moment w)) t.workers))
            (counted_begins setup t sid moment k fit pid (find (has_pid pid) t.workers) refl);
      })
  in_sets-perform c.Settle t k fit own =
      let p = parts t k in
      in_sets (record p {
        opens = kept (row_stays (λ file. true) (view t)) p.opens;
        ranges = kept (range_stays (λ file. true) (view t)) p.ranges;
        leases = kept (lease_stays (λ file. true) (view t)) (changed (lease_settles (λ file. true) (view t)) (λ l h. lease_settled setup (file_view l.file (view t)) l h) p.leases);
        pending = kept (pending_stays (λ file. true) (view t)) p.pending;
      })

  pub in_sets-perform_all : (cs : List Change) (t : Table) → IsInSets setup t → AllFit cs t → AllBring setup cs t → IsInSets setup (perform_all cs t)
  in_sets-perform_all cs t k fit own = kept_along (IsInSets setup) (Brings setup) in_sets-perform cs t k fit own
