-- Records that agree with a sound table show what the table shows, under every key.
use Rattle.std.proofs.Common.{◌≡◌, ℕ, suc, Bool, true, false, cond, ◌&&◌, ◌||◌, eqb, List, [], ◌∷◌, map, filter, Option, Some, None, refl, sym, ap, ap₂, ◌∙◌, subst, inl}
use Rattle.std.specs.List.{list_any}
use Rattle.std.specs.Option.{option_map, option_map_or, option_and_then}
use Rattle.std.proofs.lemmas.Bool.{eqb-true, eq-eqb, and_parts, both_ways, false_from_ne_true}
use Rattle.sid_core.specs.declared.entry.Post.{Post}
use Rattle.sid_core.specs.declared.ids.LeaseName.{LeaseName}
use Rattle.sid_core.specs.declared.ids.OpenId.{OpenId}
use Rattle.sid_core.specs.declared.ids.Sid.{Sid}
use Rattle.sid_core.specs.declared.ids.Spot.{Spot}
use Rattle.sid_core.specs.declared.ids.Spot.TheVariants.{OpenOf, RangesOf, LockOf}
use Rattle.sid_core.specs.declared.setup.Setup.{Setup}
use Rattle.sid_core.specs.declared.setup.WorkerInfo.{WorkerInfo}
use Rattle.sid_core.specs.Ids.{same_sid}
use Rattle.serial_table.specs.declared.rows.OpenRow.{OpenRow}
use Rattle.serial_table.specs.declared.rows.LeaseRow.{LeaseRow}
use Rattle.serial_table.specs.declared.rows.WaiterRow.{WaiterRow}
use Rattle.serial_table.specs.declared.rows.WorkerRow.{WorkerRow}
use Rattle.serial_table.specs.declared.rows.EndedRow.{EndedRow}
use Rattle.serial_table.specs.declared.table.Table.{Table}
use Rattle.serial_table.specs.File.{FileView, file_view}
use Rattle.serial_table.specs.History.{start_workers}
use Rattle.serial_table.specs.InSets.{IsInSets, IsEndedRow, names_worker}
use Rattle.serial_table.specs.Sound.{IsSound, has_open, is_open_under, waits_among_living}
use Rattle.serial_table.specs.View as table
use Rattle.serial_table.specs.View.{View, view, is_of_file, is_of_handle, has_id, has_name, is_hold_of, has_pid, is_end_of, is_to, waits_on, waits_for, waits_behind, watch_behind, carries}
use Rattle.serial_table.specs.View.{token_of as token_shown}
use Rattle.serial_table.proofs.Members.{IsIn, each, all_of, one_of, in_filter, found_in, passes_in}
use Rattle.serial_table.proofs.Names.{same_sid-eq}
use Rattle.serial_table.proofs.SameIds.{same_name-eq}
use Rattle.record_codec.specs.declared.open_rec.OpenRec.{OpenRec}
use Rattle.record_codec.specs.declared.lease_rec.LeaseRec.{LeaseRec}
use Rattle.record_codec.specs.declared.glock_rec.GLockRec.{GLockRec}
use Rattle.record_codec.specs.declared.mail_rec.MailRec.{MailRec}
use Rattle.record_codec.specs.declared.register_rec.RegisterRec.{RegisterRec}
use Rattle.record_rows.specs.Rows.{entry_of, open_row, ref_of, lease_row, hold_of, hold_row, watch_of, watch_row, token_of}
use Rattle.stored_table.specs.Decoded.{AllRecords, deciding}
use Rattle.stored_table.specs.Exact.{opens_under, lease_of, register_record, mail_of_session, mail_if_alive}
use Rattle.stored_table.specs.Shown.{part_of, shown}
use Rattle.stored_table.specs.Stands.{AgreeWith, HasOpenRecords}
use Rattle.stored_table.proofs.Telling.{none_in, entries_are, lives_alike, file_tells}
use Rattle.table_laws.proofs.Exactly.{single, in_opens, exact_is}
use Rattle.table_laws.proofs.Lists.{filter_each, filter_twice, filter_none, any_mapped, same_test}
use Rattle.table_laws.proofs.Meets.{part_first, part_second}
use Rattle.stored_reading.specs.Reading.{opens_read, opens_named, leases_read, holds_read, lock_watches, watches_at, watches_behind, if_of_session, mailbox_of, token_row, post_to, worker_row, ended_rows, view_of_records}
use Rattle.stored_reading.proofs.Rows.{map_back, none_found, open_back, hold_back, post_back, lease_back, worker_back, ended_back, holds_clean, lock_watches_clean, behind_clean, worker_clean, ended_clean, of_session}

module _ (setup : Setup) (s : AllRecords) (t : Table) (a : AgreeWith setup s (view t)) (sets : IsInSets setup t) (sound : IsSound t) where
  abbrev v : View
  v = view t

  -- ---- files

  opens_tell : (file : ℕ) → opens_read s file ≡ v.opens_of file
  opens_tell file =
      ap (map (open_row file)) (entries_are setup s t a sets sound file)
      ∙ map_back entry_of (open_row file) (v.opens_of file) (λ o i. open_back file o (eqb-true o.file file (in_filter (is_of_file file) t.opens o i).1))

  file_is : (file : ℕ) → shown file s ≡ file_view file v
  file_is file = file_tells setup s t a sets sound file

  -- ---- opens by handle and by id

  module _ (passes : OpenRow → Bool) where
    in_file : (r : OpenRec) → ((o : OpenRow) → IsIn o t.opens → passes o ≡ true → r.file ≡ o.file) → filter passes (filter (is_of_file r.file) t.opens) ≡ filter passes t.opens
    in_file r h =
        filter_twice (is_of_file r.file) passes t.opens
        ∙ filter_each (λ o. is_of_file r.file o && passes o) passes t.opens (λ o i.
        same_test (is_of_file r.file o && passes o) (passes o) (λ e. (and_parts (is_of_file r.file o) (passes o) e).1)
        (λ e. ap₂ (λ (x y : Bool). x && y) (eq-eqb o.file r.file (sym (h o i e))) e))

    named_tell : (x : Option OpenRec) → ((o : OpenRow) → IsIn o t.opens → passes o ≡ true → x ≡ Some (record { id = o.id; file = o.file })) → opens_named s passes x ≡ filter passes t.opens
    named_tell None h = sym (filter_none passes t.opens (λ o i. false_from_ne_true (passes o) (λ e. absurd_none (h o i e))))
      where
        absurd_none : {x : OpenRec} → ◌≡◌ {A = Option OpenRec} None (Some x) → ⊥
        absurd_none e = cc
    named_tell (Some r) h = ap (filter passes) (opens_tell r.file) ∙ in_file r (λ o i e. of_file r (record { id = o.id; file = o.file }) (h o i e))
      where
        of_file : (r q : OpenRec) → ◌≡◌ {A = Option OpenRec} (Some r) (Some q) → r.file ≡ q.file
        of_file r q e = cc

  has_records : (o : OpenRow) → IsIn o t.opens → HasOpenRecords s o
  has_records o i = all_of (HasOpenRecords s) (v.opens_of o.file) (a.opens o.file) o (in_opens t sound o i)

  handles_tell : (owner : Sid) (handle : ℕ) → opens_named s (is_of_handle owner handle) (s.opens owner.pid handle) ≡ v.opens_of_handle owner handle
  handles_tell owner handle = named_tell (is_of_handle owner handle) (s.opens owner.pid handle) (λ o i e.
      let p = and_parts (same_sid o.owner owner) (eqb o.handle handle) e in
      ap₂ (λ (x : Sid) (h : ℕ). s.opens x.pid h) (sym (same_sid-eq o.owner owner p.0)) (sym (eqb-true o.handle handle p.1)) ∙ (has_records o i).by_handle)

  ids_tell : (id : OpenId) → opens_named s (has_id id) (s.opens id.pid id.call) ≡ v.opens_of_id id
  ids_tell id = named_tell (has_id id) (s.opens id.pid id.call) (λ o i e.
      let p = and_parts (eqb o.id.pid id.pid) (eqb o.id.call id.call) e in
      ap₂ s.opens (sym (eqb-true o.id.pid id.pid p.0)) (sym (eqb-true o.id.call id.call p.1)) ∙ (has_records o i).by_id)

  -- ---- leases

  leases_by : (name : LeaseName) (ls : List LeaseRow) → v.leases_of name ≡ ls → leases_read s name ≡ ls
  leases_by name [] e = ap (λ (o : Option LeaseRec). option_map_or (λ (r : LeaseRec). lease_row name r ∷ []) o []) (a.leases name ∙ ap (lease_of v name) e)
  leases_by name (l ∷ ls) e =
      let i : IsIn l (v.leases_of name) = subst (IsIn l) (sym e) (inl refl) in
      let k = in_filter (has_name name) t.leases l i in
      let is : l.name ≡ name = same_name-eq l.name name k.1 in
      let o = one_of (is_open_under l) t.opens (each (has_open t.opens) t.leases sound.leases_have_opens l k.0) in
      let p = and_parts (eqb o.0.file l.file) (carries l.name o.0.lease) o.2 in
      ap (λ (o : Option LeaseRec). option_map_or (λ (r : LeaseRec). lease_row name r ∷ []) o [])
      (a.leases name ∙ exact_is t sound name l o.0 (record { lease = i; row = passes_in (is_of_file l.file) t.opens o.0 o.1 p.0; carried = ap (λ n. carries n o.0.lease) (sym is) ∙ p.1 }))
      ∙ ap (λ (x : LeaseRow). x ∷ []) (lease_back name l (map ref_of (opens_under v name l.file)) is)
      ∙ sym (single t sound name l i) ∙ e

  -- ---- global locks

  holds_tell : (key : ℕ) → holds_read s key ≡ v.holds_of key
  holds_tell key =
      ap (map (hold_row key))
      (sym (holds_clean (deciding s) key (s.locks key))
      ∙ ap (part_of (λ (x : GLockRec). x.holds)) (a.locks key)
      ∙ part_first (λ (x : GLockRec). x.holds) (map hold_of (v.holds_of key)) (map watch_of (v.watches_on (LockOf key))) (record { holds = map hold_of (v.holds_of key); watchers = map watch_of (v.watches_on (LockOf key)) }) refl)
      ∙ map_back hold_of (hold_row key) (v.holds_of key) (λ h i. hold_back key h (eqb-true h.key key (in_filter (is_hold_of key) t.holds h i).1))

  lock_watches_tell : (key : ℕ) → map watch_row (lock_watches s key) ≡ v.watches_on (LockOf key)
  lock_watches_tell key =
      ap (map watch_row)
      (sym (lock_watches_clean (deciding s) key (s.locks key))
      ∙ ap (part_of (λ (x : GLockRec). x.watchers)) (a.locks key)
      ∙ part_second (λ (x : GLockRec). x.watchers) (map hold_of (v.holds_of key)) (map watch_of (v.watches_on (LockOf key))) (record { holds = map hold_of (v.holds_of key); watchers = map watch_of (v.watches_on (LockOf key)) }) refl)
      ∙ map_back watch_of watch_row (v.watches_on (LockOf key)) (λ w i. refl)

  watches_tell : (spot : Spot) → map watch_row (watches_at s spot) ≡ v.watches_on spot
  watches_tell (OpenOf file) = ap (λ (f : FileView). f.open_watches) (file_is file)
  watches_tell (RangesOf file) = ap (λ (f : FileView). f.range_watches) (file_is file)
  watches_tell (LockOf key) = lock_watches_tell key

  -- ---- workers

  pid_of : (pid : ℕ) (row : WorkerRow) → v.worker_of pid ≡ Some row → row.pid ≡ pid
  pid_of pid row e = eqb-true row.pid pid (found_in (has_pid pid) t.workers row e).1

  workers_tell : (pid : ℕ) → option_map (worker_row pid) (s.register pid) ≡ v.worker_of pid
  workers_tell pid =
      sym (worker_clean (deciding s) pid (s.register pid))
      ∙ ap (option_map (worker_row pid)) (a.register pid)
      ∙ worker_back v pid (v.worker_of pid) (pid_of pid)

  any_start : (pid number : ℕ) (infos : List WorkerInfo) → list_any (λ (p : ℕ × ℕ). eqb p.1 pid) (map names_worker (start_workers number infos)) ≡ list_any (λ (info : WorkerInfo). eqb info.pid pid) infos
  any_start pid number [] = refl
  any_start pid number (info ∷ infos) = ap (λ b. eqb info.pid pid || b) (any_start pid (suc number) infos)

  has_worker : (pid : ℕ) → list_any (λ (info : WorkerInfo). eqb info.pid pid) setup.workers ≡ true → list_any (has_pid pid) t.workers ≡ true
  has_worker pid e =
      sym (any_mapped (λ (p : ℕ × ℕ). eqb p.1 pid) names_worker t.workers)
      ∙ ap (list_any (λ (p : ℕ × ℕ). eqb p.1 pid)) sets.all_workers ∙ any_start pid 1 setup.workers ∙ e

  none_ended : (pid : ℕ) → v.worker_of pid ≡ None → v.ended_of pid ≡ []
  none_ended pid e = none_in (v.ended_of pid) (λ row i.
      let k = in_filter (is_end_of pid) t.ended row i in
      let d = (all_of (IsEndedRow setup) t.ended sets.ended row k.0).sid.pid.declared in
      both_ways (list_any (has_pid pid) t.workers) (none_found (has_pid pid) t.workers e) (has_worker pid (ap (λ (x : ℕ). list_any (λ (info : WorkerInfo). eqb info.pid x) setup.workers) (sym (eqb-true row.sid.pid pid k.1)) ∙ d)))

  ended_by : (pid : ℕ) (o : Option WorkerRow) → v.worker_of pid ≡ o → ended_rows pid 1 (part_of (λ (r : RegisterRec). r.ended) (option_map (register_record v) o)) ≡ v.ended_of pid
  ended_by pid None e = sym (none_ended pid e)
  ended_by pid (Some row) e =
      ap (λ (x : ℕ). ended_rows pid 1 (map (λ (q : EndedRow). q.moment.0) (v.ended_of x))) (pid_of pid row e)
      ∙ ended_back pid 1 (v.ended_of pid) (sets.ended_in_order pid) (λ q i. eqb-true q.sid.pid pid (in_filter (is_end_of pid) t.ended q i).1)

  ended_tell : (pid : ℕ) → ended_rows pid 1 (part_of (λ (r : RegisterRec). r.ended) (s.register pid)) ≡ v.ended_of pid
  ended_tell pid =
      ap (ended_rows pid 1) (sym (ended_clean (deciding s) (s.register pid)) ∙ ap (part_of (λ (r : RegisterRec). r.ended)) (a.register pid))
      ∙ ended_by pid (v.worker_of pid) refl

  -- ---- who lives

  alive_by : (sid : Sid) (o : Option WorkerRow) → option_map_or (λ (w : WorkerRow). w.alive && eqb w.session sid.session) o false ≡ true → (row : WorkerRow) × (o ≡ Some row) × (row.alive ≡ true) × (row.session ≡ sid.session)
  alive_by sid None e = absurd cc
  alive_by sid (Some row) e = let p = and_parts row.alive (eqb row.session sid.session) e in (row, refl, p.0, eqb-true row.session sid.session p.1)

  sid_of : (sid : Sid) (row : WorkerRow) → v.worker_of sid.pid ≡ Some row → row.session ≡ sid.session → ◌≡◌ {A = Sid} (record { pid = row.pid; session = row.session }) sid
  sid_of sid row e f = λ i. record { pid = pid_of sid.pid row e i; session = f i }

  waiting_lives : (w : WaiterRow) → IsIn w t.waiters → (table.lives v w.sid ≡ true) × (option_map_or (table.lives v) w.blocker true ≡ true)
  waiting_lives w i = and_parts (table.lives v w.sid) (option_map_or (table.lives v) w.blocker true) (each (waits_among_living v) t.waiters sound.rows.waiters_live w i)

  -- ---- who waits behind a session

  blocker_lives : (sid : Sid) (blocker : Option Sid) → option_map_or (λ b. same_sid b sid) blocker false ≡ true → option_map_or (table.lives v) blocker true ≡ true → table.lives v sid ≡ true
  blocker_lives sid None e f = absurd cc
  blocker_lives sid (Some b) e f = ap (table.lives v) (sym (same_sid-eq b sid e)) ∙ f

  none_behind : (sid : Sid) → table.lives v sid ≡ false → v.watches_behind sid ≡ []
  none_behind sid e = ap (map watch_behind) (none_in (filter (waits_behind sid) t.waiters) (λ w i.
      let k = in_filter (waits_behind sid) t.waiters w i in
      both_ways (table.lives v sid) e (blocker_lives sid w.blocker k.1 (waiting_lives w k.0).1)))

  behind_by : (sid : Sid) (b : Bool) → table.lives v sid ≡ b → map watch_row (cond b (part_of (λ (r : RegisterRec). r.watchers) (option_map (register_record v) (v.worker_of sid.pid))) []) ≡ v.watches_behind sid
  behind_by sid false e = sym (none_behind sid e)
  behind_by sid true e =
      let row = alive_by sid (v.worker_of sid.pid) e in
      ap (λ (o : Option WorkerRow). map watch_row (part_of (λ (r : RegisterRec). r.watchers) (option_map (register_record v) o))) row.1
      ∙ map_back watch_of watch_row (v.watches_behind (record { pid = row.0.pid; session = row.0.session })) (λ w i. refl)
      ∙ ap v.watches_behind (sid_of sid row.0 row.1 row.3)

  behind_tell : (sid : Sid) → map watch_row (watches_behind s sid) ≡ v.watches_behind sid
  behind_tell sid =
      ap₂ (λ (b : Bool) (ws : List _). map watch_row (cond b ws [])) (lives_alike setup s t a sets sound sid)
      (sym (behind_clean (deciding s) (s.register sid.pid)) ∙ ap (part_of (λ (r : RegisterRec). r.watchers)) (a.register sid.pid))
      ∙ behind_by sid (table.lives v sid) refl

  -- ---- mailboxes

  box_by : (sid : Sid) (row : WorkerRow) (b c : Bool) → eqb row.session sid.session ≡ c → v.worker_of sid.pid ≡ Some row
      → option_and_then (if_of_session sid.session) (cond b (mail_of_session v (record { pid = row.pid; session = row.session })) None) ≡ cond (b && c) (mail_of_session v sid) None
  box_by sid row false c e f = refl
  box_by sid row true c e f =
      of_session sid.session row.session (map token_of (v.tokens_of (record { pid = row.pid; session = row.session }))) (map (λ (post : Post). post.letter) (v.letters_of (record { pid = row.pid; session = row.session })))
      ∙ ap (λ x. cond x (mail_of_session v (record { pid = row.pid; session = row.session })) None) e ∙ by c e
    where
      by : (d : Bool) → eqb row.session sid.session ≡ d → cond d (mail_of_session v (record { pid = row.pid; session = row.session })) None ≡ cond d (mail_of_session v sid) None
      by false g = refl
      by true g = ap (mail_of_session v) (sid_of sid row f (eqb-true row.session sid.session g))

  box_of : (sid : Sid) (o : Option WorkerRow) → v.worker_of sid.pid ≡ o
      → option_and_then (if_of_session sid.session) (option_and_then (mail_if_alive v) o) ≡ cond (option_map_or (λ (w : WorkerRow). w.alive && eqb w.session sid.session) o false) (mail_of_session v sid) None
  box_of sid None e = refl
  box_of sid (Some row) e = box_by sid row row.alive (eqb row.session sid.session) refl e

  box_tells : (sid : Sid) → mailbox_of s sid ≡ cond (table.lives v sid) (mail_of_session v sid) None
  box_tells sid = ap (option_and_then (if_of_session sid.session)) (a.mail sid.pid) ∙ box_of sid (v.worker_of sid.pid) refl

  tokens_by : (sid : Sid) (b : Bool) → table.lives v sid ≡ b → map token_row (part_of (λ (r : MailRec). r.tokens) (cond b (mail_of_session v sid) None)) ≡ v.tokens_of sid
  tokens_by sid false e = sym (ap (map token_shown) (none_in (filter (waits_for sid) t.waiters) (λ w i.
      let k = in_filter (waits_for sid) t.waiters w i in
      both_ways (table.lives v sid) e (ap (table.lives v) (sym (same_sid-eq w.sid sid k.1)) ∙ (waiting_lives w k.0).0))))
  tokens_by sid true e =
      let ts = map token_of (v.tokens_of sid) in
      let ls = map (λ (post : Post). post.letter) (v.letters_of sid) in
      ap (map token_row) (part_first (λ (r : MailRec). r.tokens) ts ls (record { session = sid.session; tokens = ts; letters = ls }) refl)
      ∙ map_back token_of token_row (v.tokens_of sid) (λ x i. refl)

  letters_by : (sid : Sid) (b : Bool) → table.lives v sid ≡ b → map (post_to sid) (part_of (λ (r : MailRec). r.letters) (cond b (mail_of_session v sid) None)) ≡ v.letters_of sid
  letters_by sid false e = sym (none_in (v.letters_of sid) (λ post i.
      let k = in_filter (is_to sid) t.letters post i in
      both_ways (table.lives v sid) e (ap (table.lives v) (sym (same_sid-eq post.to sid k.1)) ∙ each (λ (q : Post). table.lives v q.to) t.letters sound.rows.receivers_live post k.0)))
  letters_by sid true e =
      let ts = map token_of (v.tokens_of sid) in
      let ls = map (λ (post : Post). post.letter) (v.letters_of sid) in
      ap (map (post_to sid)) (part_second (λ (r : MailRec). r.letters) ts ls (record { session = sid.session; tokens = ts; letters = ls }) refl)
      ∙ map_back (λ (post : Post). post.letter) (post_to sid) (v.letters_of sid) (λ post i. post_back sid post (same_sid-eq post.to sid (in_filter (is_to sid) t.letters post i).1))

  -- ---- all of it

  pub view_is : view_of_records s ≡ view t
  view_is = λ i. record {
    opens_of = λ file. opens_tell file i;
    opens_of_handle = λ owner handle. handles_tell owner handle i;
    opens_of_id = λ id. ids_tell id i;
    leases_of = λ name. leases_by name (v.leases_of name) refl i;
    ranges_of = λ file. ap (λ (f : FileView). f.ranges) (file_is file) i;
    holds_of = λ key. holds_tell key i;
    watches_on = λ spot. watches_tell spot i;
    watches_behind = λ sid. behind_tell sid i;
    tokens_of = λ sid. (ap (λ (o : Option MailRec). map token_row (part_of (λ (r : MailRec). r.tokens) o)) (box_tells sid) ∙ tokens_by sid (table.lives v sid) refl) i;
    letters_of = λ sid. (ap (λ (o : Option MailRec). map (post_to sid) (part_of (λ (r : MailRec). r.letters) o)) (box_tells sid) ∙ letters_by sid (table.lives v sid) refl) i;
    worker_of = λ pid. workers_tell pid i;
    ended_of = λ pid. ended_tell pid i;
    is_pending = λ file. ap (λ (f : FileView). f.pending) (file_is file) i;
  }
