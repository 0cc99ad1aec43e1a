-- What records name along a history: sessions that their workers have had, and in register records calls that were made.
use Rattle.std.proofs.Common.{◌≡◌, ℕ, ◌≤◌, Bool, true, false, cond, List, [], ◌∷◌, map, filter, Option, Some, None, refl, sym, ap, ◌∙◌, subst, arith}
use Rattle.std.specs.List.{AllByRecursion}
use Rattle.std.specs.Option.{option_map, option_and_then}
use Rattle.std.proofs.lemmas.Bool.{both_ways, false_from_ne_true}
use Rattle.sid_core.specs.declared.ids.LeaseName.{LeaseName}
use Rattle.sid_core.specs.declared.ids.Sid.{Sid}
use Rattle.sid_core.specs.declared.ids.Spot.TheVariants.{OpenOf, LockOf}
use Rattle.sid_core.specs.declared.setup.FileInfo.{FileInfo}
use Rattle.sid_core.specs.declared.setup.Setup.{Setup}
use Rattle.sid_core.specs.Ids.{same_sid}
use Rattle.serial_table.specs.declared.rows.OpenRow.{OpenRow}
use Rattle.serial_table.specs.declared.rows.LeaseRow.{LeaseRow}
use Rattle.serial_table.specs.declared.rows.HoldRow.{HoldRow}
use Rattle.serial_table.specs.declared.rows.WorkerRow.{WorkerRow}
use Rattle.serial_table.specs.declared.table.Table.{Table}
use Rattle.serial_table.specs.declared.change.Change.{Change}
use Rattle.serial_table.specs.declared.change.Change.TheVariants as c
use Rattle.serial_table.specs.ByNumber.{declared_at}
use Rattle.serial_table.specs.View as table
use Rattle.serial_table.specs.View.{View, view, is_of_file, is_hold_of, carries, waits_behind, watch_behind}
use Rattle.serial_table.specs.Change.{perform, perform_all}
use Rattle.serial_table.specs.Sound.{IsConsistent, has_had}
use Rattle.serial_table.proofs.Names.{same_sid-eq}
use Rattle.serial_table.proofs.Living.{had_among, lives_had, had-end_session, had-begin_session}
use Rattle.serial_table.proofs.Members.{IsIn, each, all_by, in_filter, in_map}
use Rattle.serial_table.proofs.Numbered.{IsNumbered}
use Rattle.serial_table.proofs.SameWorkers.{workers-perform}
use Rattle.record_codec.specs.declared.watch.WatchRec.{WatchRec}
use Rattle.record_codec.specs.declared.glock_rec.Hold.{Hold}
use Rattle.record_codec.specs.declared.glock_rec.GLockRec.{GLockRec}
use Rattle.record_codec.specs.declared.share_rec.ShareEntry.{ShareEntry}
use Rattle.record_codec.specs.declared.share_rec.ShareRec.{ShareRec}
use Rattle.record_codec.specs.declared.lease_rec.LeaseRef.{LeaseRef}
use Rattle.record_codec.specs.declared.lease_rec.LeaseRec.{LeaseRec}
use Rattle.record_codec.specs.declared.register_rec.RegisterRec.{RegisterRec}
use Rattle.stored_table.specs.Places.{Place, among}
use Rattle.stored_table.specs.Decoded.{AllRecords}
use Rattle.record_rows.specs.Rows.{entry_of, ref_of, hold_of, watch_of}
use Rattle.stored_table.specs.Exact.{share_of, exact_share, exact_lock, lease_record, opens_under, lease_of, exact_lease, register_record, exact_register}
use Rattle.stored_table.specs.Move.{AddedOpen}
use Rattle.stored_table.specs.Moved.{moved}
use Rattle.stored_table.specs.Shown.{part_of}
use Rattle.table_laws.specs.Standing.{IsUnnamed}
use Rattle.table_laws.proofs.Contained.{share_place, lock_place, lease_place, register_place}
use Rattle.table_laws.proofs.Exactly.{refs_back}
use Rattle.table_laws.proofs.Meets.{part_first}

-- By pid, low gives the last number of a call.
pub record IsRecorded (low : ℕ → ℕ) (t : Table) (s : AllRecords) : Type 0 where
  -- Each watch in a register record is of a call that was made.
  pub watched : (pid : ℕ) (w : WatchRec) → IsIn w (part_of (λ r. r.watchers) (s.register pid)) → w.call ≤ low w.sid.pid
  -- A session that its worker hasn't had has no part in a record.
  pub named : (sid : Sid) → has_had (view t) sid ≡ false → IsUnnamed s sid

-- ---- sessions that were had

module _ (sid : Sid) where
  had_kept : (change : Change) (t : Table) → (perform change t).workers ≡ t.workers → has_had (view t) sid ≡ true → has_had (view (perform change t)) sid ≡ true
  had_kept change t same e = ap (λ ws. had_among ws sid) same ∙ e

  had_perform : (change : Change) (t : Table) → has_had (view t) sid ≡ true → has_had (view (perform change t)) sid ≡ true
  had_perform (c.EndSession ending moment) t e = had-end_session t.workers ending sid e
  had_perform (c.NextSession last moment) t e = had-begin_session t.workers last moment sid e
  had_perform (c.AddOpen row) t e = had_kept (c.AddOpen row) t (workers-perform (c.AddOpen row) t refl) e
  had_perform (c.DropOpen f id) t e = had_kept (c.DropOpen f id) t (workers-perform (c.DropOpen f id) t refl) e
  had_perform (c.TakeOver f id owner handle) t e = had_kept (c.TakeOver f id owner handle) t (workers-perform (c.TakeOver f id owner handle) t refl) e
  had_perform (c.AddLease lease) t e = had_kept (c.AddLease lease) t (workers-perform (c.AddLease lease) t refl) e
  had_perform (c.SetLease f name held breaking) t e = had_kept (c.SetLease f name held breaking) t (workers-perform (c.SetLease f name held breaking) t refl) e
  had_perform (c.Acknowledge f name state) t e = had_kept (c.Acknowledge f name state) t (workers-perform (c.Acknowledge f name state) t refl) e
  had_perform (c.AddRange range) t e = had_kept (c.AddRange range) t (workers-perform (c.AddRange range) t refl) e
  had_perform (c.DropRange range) t e = had_kept (c.DropRange range) t (workers-perform (c.DropRange range) t refl) e
  had_perform (c.AddPending f) t e = had_kept (c.AddPending f) t (workers-perform (c.AddPending f) t refl) e
  had_perform (c.DropPending f) t e = had_kept (c.DropPending f) t (workers-perform (c.DropPending f) t refl) e
  had_perform (c.AddHold hold) t e = had_kept (c.AddHold hold) t (workers-perform (c.AddHold hold) t refl) e
  had_perform (c.SetHold key owner mode) t e = had_kept (c.SetHold key owner mode) t (workers-perform (c.SetHold key owner mode) t refl) e
  had_perform (c.DropHold key owner) t e = had_kept (c.DropHold key owner) t (workers-perform (c.DropHold key owner) t refl) e
  had_perform (c.AddWaiter x) t e = had_kept (c.AddWaiter x) t (workers-perform (c.AddWaiter x) t refl) e
  had_perform (c.DropWaiter own call) t e = had_kept (c.DropWaiter own call) t (workers-perform (c.DropWaiter own call) t refl) e
  had_perform (c.Send post) t e = had_kept (c.Send post) t (workers-perform (c.Send post) t refl) e
  had_perform (c.TakeLetter to) t e = had_kept (c.TakeLetter to) t (workers-perform (c.TakeLetter to) t refl) e
  had_perform c.Settle t e = had_kept c.Settle t (workers-perform c.Settle t refl) e

  pub had_perform_all : (cs : List Change) (t : Table) → has_had (view t) sid ≡ true → has_had (view (perform_all cs t)) sid ≡ true
  had_perform_all [] t e = e
  had_perform_all (change ∷ cs) t e = had_perform_all cs (perform change t) (had_perform change t e)

-- ---- after an entry

module _ (setup : Setup) (ps : List Place) (added : Option AddedOpen) (s : AllRecords) (t u : Table) (consistent : IsConsistent u) (low high : ℕ → ℕ) (more : (pid : ℕ) → low pid ≤ high pid) (numbered : IsNumbered high u)
    (still : (sid : Sid) → has_had (view t) sid ≡ true → has_had (view u) sid ≡ true) (h : IsRecorded low t s) where
  abbrev w : View
  w = view u

  -- ---- watches in register records

  in_exact : (o : Option WorkerRow) (x : WatchRec) → IsIn x (part_of (λ (r : RegisterRec). r.watchers) (option_map (register_record w) o)) → x.call ≤ high x.sid.pid
  in_exact None x i = absurd i
  in_exact (Some row) x i =
      let sid : Sid = record { pid = row.pid; session = row.session } in
      let y = in_map watch_of (w.watches_behind sid) x i in
      let z = in_map watch_behind (filter (waits_behind sid) u.waiters) y.0 y.1 in
      subst (λ (q : WatchRec). q.call ≤ high q.sid.pid) (ap watch_of z.2 ∙ y.2) (numbered.waiters z.0 (in_filter (waits_behind sid) u.waiters z.0 z.1).0).call

  watched_by : (pid : ℕ) (b : Bool) (x : WatchRec) → IsIn x (part_of (λ (r : RegisterRec). r.watchers) (cond b (exact_register w pid) (s.register pid))) → x.call ≤ high x.sid.pid
  watched_by pid true x i = in_exact (w.worker_of pid) x i
  watched_by pid false x i = let old : x.call ≤ low x.sid.pid = h.watched pid x i in let up : low x.sid.pid ≤ high x.sid.pid = more x.sid.pid in omega arith

  -- ---- sessions

  module _ (sid : Sid) (none : has_had w sid ≡ false) where
    before : IsUnnamed s sid
    before = h.named sid (false_from_ne_true (has_had (view t) sid) (λ e. both_ways (has_had w sid) none (still sid e)))

    other : (q : Sid) → has_had w q ≡ true → same_sid sid q ≡ false
    other q had = false_from_ne_true (same_sid sid q) (λ e. both_ways (has_had w sid) none (ap (has_had w) (same_sid-eq sid q e) ∙ had))

    owner_had : (o : OpenRow) → IsIn o u.opens → has_had w o.owner ≡ true
    owner_had o i = each (λ (x : OpenRow). has_had w x.owner) u.opens consistent.owners_had o i

    holds_by : (key : ℕ) (b : Bool) → AllByRecursion (λ (x : Hold). same_sid sid x.sid ≡ false) (part_of (λ (r : GLockRec). r.holds) (cond b (exact_lock w key) (s.locks key)))
    holds_by key true =
        subst (AllByRecursion (λ (x : Hold). same_sid sid x.sid ≡ false))
        (sym (part_first (λ (r : GLockRec). r.holds) (map hold_of (w.holds_of key)) (map watch_of (w.watches_on (LockOf key)))
        (record { holds = map hold_of (w.holds_of key); watchers = map watch_of (w.watches_on (LockOf key)) }) refl))
        (all_by (λ (x : Hold). same_sid sid x.sid ≡ false) (map hold_of (w.holds_of key)) (λ x i.
        let y = in_map hold_of (w.holds_of key) x i in
        let live = each (λ (z : HoldRow). table.lives w z.owner) u.holds consistent.holders_live y.0 (in_filter (is_hold_of key) u.holds y.0 y.1).0 in
        subst (λ (z : Hold). same_sid sid z.sid ≡ false) y.2 (other y.0.owner (lives_had u.workers y.0.owner live))))
    holds_by key false = before.holds key

    in_share : (file : ℕ) (o : Option FileInfo) → AllByRecursion (λ (x : ShareEntry). same_sid sid x.owner ≡ false) (part_of (λ (r : ShareRec). r.entries) (option_and_then (share_of w file) o))
    in_share file None = tt
    in_share file (Some info) =
        let es = map entry_of (w.opens_of file) in
        let ws = map watch_of (w.watches_on (OpenOf file)) in
        subst (AllByRecursion (λ (x : ShareEntry). same_sid sid x.owner ≡ false))
        (sym (part_first (λ (r : ShareRec). r.entries) es ws (record { file = file; path = info.path; name = info.name; pending = w.is_pending file; entries = es; watchers = ws }) refl))
        (all_by (λ (x : ShareEntry). same_sid sid x.owner ≡ false) es (λ x i.
        let y = in_map entry_of (w.opens_of file) x i in subst (λ (z : ShareEntry). same_sid sid z.owner ≡ false) y.2 (other y.0.owner (owner_had y.0 (in_filter (is_of_file file) u.opens y.0 y.1).0))))

    entries_by : (file : ℕ) (b : Bool) → AllByRecursion (λ (x : ShareEntry). same_sid sid x.owner ≡ false) (part_of (λ (r : ShareRec). r.entries) (cond b (exact_share setup w file) (s.shares file)))
    entries_by file true = in_share file (declared_at setup.files file)
    entries_by file false = before.entries file

    in_record : (l : LeaseRow) (refs : List LeaseRef) → AllByRecursion (λ (x : LeaseRef). same_sid sid x.owner ≡ false) refs → AllByRecursion (λ (x : LeaseRef). same_sid sid x.owner ≡ false) (part_of (λ (r : LeaseRec). r.refs) (lease_record l refs))
    in_record l [] all = tt
    in_record l (ref ∷ refs) all = subst (AllByRecursion (λ (x : LeaseRef). same_sid sid x.owner ≡ false)) (sym (refs_back l l.breaking (ref ∷ refs))) all

    in_lease : (name : LeaseName) (ls : List LeaseRow) → AllByRecursion (λ (x : LeaseRef). same_sid sid x.owner ≡ false) (part_of (λ (r : LeaseRec). r.refs) (lease_of w name ls))
    in_lease name [] = tt
    in_lease name (l ∷ ls) = in_record l (map ref_of (opens_under w name l.file)) (all_by (λ (x : LeaseRef). same_sid sid x.owner ≡ false) (map ref_of (opens_under w name l.file)) (λ x i.
        let y = in_map ref_of (opens_under w name l.file) x i in
        let o = in_filter (λ o. carries name o.lease) (w.opens_of l.file) y.0 y.1 in
        subst (λ (z : LeaseRef). same_sid sid z.owner ≡ false) y.2 (other y.0.owner (owner_had y.0 (in_filter (is_of_file l.file) u.opens y.0 o.0).0))))

    refs_by : (name : LeaseName) (b : Bool) → AllByRecursion (λ (x : LeaseRef). same_sid sid x.owner ≡ false) (part_of (λ (r : LeaseRec). r.refs) (cond b (exact_lease w name) (s.leases name)))
    refs_by name true = in_lease name (w.leases_of name)
    refs_by name false = before.refs name

    unnamed : IsUnnamed (moved setup ps added (view u) s) sid
    unnamed = record {
      holds = λ key. holds_by key (among (lock_place key) ps);
      entries = λ file. entries_by file (among (share_place setup file) ps);
      refs = λ name. refs_by name (among (lease_place name) ps);
    }

  pub recorded_after : IsRecorded high u (moved setup ps added (view u) s)
  recorded_after = record { watched = λ pid x i. watched_by pid (among (register_place pid) ps) x i; named = unnamed }
