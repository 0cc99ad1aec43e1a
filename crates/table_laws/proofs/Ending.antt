-- What the end of a session does beside the places of its worker and of those who wait behind it.
use Rattle.std.proofs.Common.{◌≡◌, ℕ, Bool, true, false, cond, not, ◌==◌, ◌&&◌, ◌||◌, List, [], ◌∷◌, ◌++◌, map, filter, find, Option, Some, None, refl, sym, ap, ◌∙◌, subst, inl, inr, ◌⊎◌}
use Rattle.std.specs.List.{list_all}
use Rattle.std.specs.Option.{option_map, option_map_or}
use Rattle.std.proofs.lemmas.Bool.{and_parts, and_cases, and_left, and_right, both_ways, cond-false, eqb-true, not-false, not_from_true, not_from_false, false_from_ne_true}
use Rattle.std.proofs.Math.Bool.{and-false, and-true}
use Rattle.sid_core.specs.declared.ids.Sid.{Sid}
use Rattle.sid_core.specs.declared.ids.Moment.{Moment}
use Rattle.sid_core.specs.declared.entry.Post.{Post}
use Rattle.sid_core.specs.declared.setup.Setup.{Setup}
use Rattle.sid_core.specs.declared.setup.WorkerInfo.{WorkerInfo}
use Rattle.sid_core.specs.Ids.{same_sid}
use Rattle.serial_table.specs.declared.rows.OpenRow.{OpenRow}
use Rattle.serial_table.specs.declared.rows.HoldRow.{HoldRow}
use Rattle.serial_table.specs.declared.rows.WaiterRow.{WaiterRow}
use Rattle.serial_table.specs.declared.rows.WorkerRow.{WorkerRow}
use Rattle.serial_table.specs.declared.rows.Watch.{Watch}
use Rattle.serial_table.specs.declared.table.Table.{Table}
use Rattle.serial_table.specs.declared.change.Change.TheVariants as c
use Rattle.serial_table.specs.View as table
use Rattle.serial_table.specs.View.{View, view, has_pid, is_to, is_hold_of, is_end_of, is_of_file}
use Rattle.serial_table.specs.File.{file_view, file_open}
use Rattle.serial_table.specs.Settle.{settle_where, settle_by_key, keeps_open, row_stays}
use Rattle.serial_table.specs.Change.{perform, perform_all, is_other_wait, outlives, end_session, end_at}
use Rattle.serial_table.specs.Decision.{waits_no_more}
use Rattle.serial_table.specs.Session.{wakes_behind}
use Rattle.serial_table.specs.Wake.{wake}
use Rattle.serial_table.specs.Sound.{IsSound, is_durable, lasts, has_had}
use Rattle.serial_table.proofs.Names.{same_sid-eq}
use Rattle.serial_table.proofs.SameIds.{same_sid-refl}
use Rattle.serial_table.proofs.Views.{pid-end_session, view-perform}
use Rattle.serial_table.proofs.Filters.{filter-filter, filter_one_out, find-map}
use Rattle.serial_table.proofs.Living.{lives_among, row_of, lives_had}
use Rattle.serial_table.proofs.Members.{IsIn, each, in_filter, in_map, mapped_in, found_in, old_in}
use Rattle.chain_map.specs.declared.db.Db.TheVariants as db
use Rattle.record_codec.specs.declared.watch.WatchRec.{WatchRec}
use Rattle.record_codec.specs.declared.register_rec.RegisterRec.{RegisterRec}
use Rattle.record_codec.specs.RegisterRec.{register_rec}
use Rattle.record_codec.specs.Counts.{register_watch_counts}
use Rattle.stored_table.specs.Keys.{pid_key}
use Rattle.stored_table.specs.Places.{Chains, Place, among}
use Rattle.stored_table.specs.Decoded.{AllRecords, deciding, records_of}
use Rattle.record_rows.specs.Rows.{watch_of}
use Rattle.stored_table.specs.Exact.{register_record}
use Rattle.stored_table.specs.Met.{Met, met_by_worker, named_at, record_at, watchers, all_met}
use Rattle.stored_table.specs.Shown.{part_of}
use Rattle.stored_table.specs.Stands.{AgreeWith, clean_register}
use Rattle.table_laws.specs.Standing.{IsUnnamed}
use Rattle.table_laws.proofs.Lists.{filter_each, filter_every, filter_none, filter_twice, filter_joined, append_nothing}
use Rattle.table_laws.proofs.Contained.{mail_place, register_place, WaitsStep}
use Rattle.table_laws.proofs.Lessened.{Lessened}
use Rattle.table_laws.proofs.Meets.{later_in, flat_mapped_in, mail_met, register_met}
use Rattle.table_laws.proofs.SettledLeases.{settled_exact}
use Rattle.table_laws.proofs.Thinning.{IsThinned, less_file, less_handles}

-- ---- who waits behind a session is met with its worker

module _ (setup : Setup) (n : ℕ) (k : Chains) (t : Table) (agree : AgreeWith setup (records_of setup n k) (view t)) (info : WorkerInfo) (sid : Sid) (pid : sid.pid ≡ info.pid) (alive : table.lives (view t) sid ≡ true) where
  abbrev own_met : Met
  own_met = met_by_worker n k info

  own_key : IsIn (pid_key sid.pid) own_met.register
  own_key = inl (ap pid_key (sym pid))

  pub own_register : among (register_place sid.pid) (all_met own_met) ≡ true
  own_register = register_met own_met (pid_key sid.pid) own_key

  pub own_mail : among (mail_place sid.pid) (all_met own_met) ≡ true
  own_mail = mail_met own_met (pid_key sid.pid) (inl (ap pid_key (sym pid)))

  -- a watch behind the session stands in the record
  in_record : (o : Option RegisterRec) (row : WorkerRow) → row.session ≡ sid.session → row.pid ≡ sid.pid → option_map (clean_register (deciding (records_of setup n k))) o ≡ Some (register_record (view t) row)
      → (y : Watch) → IsIn y ((view t).watches_behind sid) → (r : RegisterRec) × (o ≡ Some r) × IsIn (watch_of y) r.watchers
  in_record None row session own e y i = absurd cc
  in_record (Some r) row session own e y i =
      let s = records_of setup n k in
      let same : filter (register_watch_counts (deciding s)) r.watchers ≡ map watch_of ((view t).watches_behind (record { pid = row.pid; session = row.session })) =
      ap (λ o. part_of (λ (x : RegisterRec). x.watchers) o) e in
      let at : IsIn (watch_of y) (map watch_of ((view t).watches_behind (record { pid = row.pid; session = row.session }))) =
      subst (λ (q : Sid). IsIn (watch_of y) (map watch_of ((view t).watches_behind q))) (λ j. record { pid = sym own j; session = sym session j }) (mapped_in watch_of ((view t).watches_behind sid) y i) in
      (r, refl, (in_filter (register_watch_counts (deciding s)) r.watchers (watch_of y) (subst (IsIn (watch_of y)) (sym same) at)).0)

  pub behind_met : (y : Watch) → IsIn y ((view t).watches_behind sid) → among (mail_place y.sid.pid) (all_met own_met) ≡ true
  behind_met y i =
      let row = row_of t.workers sid alive in
      let s = records_of setup n k in
      let r = in_record (s.register sid.pid) row.0 row.1.session row.1.pid (agree.register sid.pid ∙ ap (option_map (register_record (view t))) row.1.found) y i in
      let key = pid_key y.sid.pid in
      mail_met own_met key (later_in own_met.register _ key
      (old_in (named_at register_rec (λ r. watchers r.watchers) n k db.Register own_met.register) _ key
      (flat_mapped_in (λ key. option_map_or (λ (r : RegisterRec). watchers r.watchers) (record_at register_rec n k db.Register key) []) own_met.register (pid_key sid.pid) key own_key
      (subst (λ o. IsIn key (option_map_or (λ (r : RegisterRec). watchers r.watchers) o [])) (sym r.1) (mapped_in (λ (x : WatchRec). pid_key x.sid.pid) r.0.watchers (watch_of y) r.2)))))

-- ---- waiters that go

-- the call of the session is none of these
abbrev pub is_no_wait_of : List Watch → Sid → ℕ → Bool
is_no_wait_of ys sid call = list_all (λ y. is_other_wait y.sid y.call sid call) ys

pub drops_leave : (ys : List Watch) (t : Table) → perform_all (map waits_no_more ys) t ≡ record t { waiters = filter (λ x. is_no_wait_of ys x.sid x.call) t.waiters }
drops_leave [] t = λ i. record t { waiters = sym (filter_every (λ x. true) t.waiters (λ x j. refl)) i }
drops_leave (y ∷ ys) t =
    let stays : WaiterRow → Bool = λ x. is_other_wait y.sid y.call x.sid x.call in
    drops_leave ys (record t { waiters = filter stays t.waiters })
    ∙ (λ i. record t { waiters = filter_twice stays (λ x. is_no_wait_of ys x.sid x.call) t.waiters i })

-- ---- letters that are sent

joined : {X : Type 0} (a b d : List X) → (a ++ b) ++ d ≡ a ++ (b ++ d)
joined [] b d = refl
joined (x ∷ a) b d = ap (λ ys. x ∷ ys) (joined a b d)

pub sends_add : (posts : List Post) (t : Table) → perform_all (map (λ post. c.Send post) posts) t ≡ record t { letters = t.letters ++ posts }
sends_add [] t = λ i. record t { letters = sym (append_nothing t.letters) i }
sends_add (post ∷ posts) t = sends_add posts (record t { letters = t.letters ++ post ∷ [] }) ∙ (λ i. record t { letters = joined t.letters (post ∷ []) posts i })

-- ---- who lives after the end of a session

ended_test : (b a s q : Bool) → (q ≡ true → s ≡ b) → (cond b false a && q) ≡ ((a && q) && not s)
ended_test true a s true h = sym (ap (λ x. (a && true) && not x) (h refl) ∙ and-false (a && true))
ended_test false a s true h = sym (ap (λ x. (a && true) && not x) (h refl) ∙ and-true (a && true))
ended_test b a s false h = and-false (cond b false a) ∙ sym (ap (λ x. x && not s) (and-false a))

module _ (sid q : Sid) where
  row_ended : (o : Option WorkerRow) → ((w : WorkerRow) → o ≡ Some w → w.pid ≡ q.pid) → option_map_or (λ worker. worker.alive && (worker.session == q.session)) (option_map (end_session sid) o) false
      ≡ (option_map_or (λ worker. worker.alive && (worker.session == q.session)) o false && not (same_sid q sid))
  unfolding end_session
  row_ended None own = refl
  row_ended (Some w) own =
      let b = (w.pid == sid.pid) && (w.session == sid.session) in
      parts b
      ∙ ended_test b w.alive (same_sid q sid) (w.session == q.session) (λ e. λ i. (sym (own w refl) i == sid.pid) && (sym (eqb-true w.session q.session e) i == sid.session))
    where
      parts : (b : Bool) → ((cond b (record w { alive = false }) w).alive && ((cond b (record w { alive = false }) w).session == q.session)) ≡ (cond b false w.alive && (w.session == q.session))
      parts true = refl
      parts false = refl

  pub lives_ended : (workers : List WorkerRow) → lives_among (map (end_session sid) workers) q ≡ (lives_among workers q && not (same_sid q sid))
  lives_ended workers =
      ap (λ o. option_map_or (λ (worker : WorkerRow). worker.alive && (worker.session == q.session)) o false) (find-map (has_pid q.pid) (end_session sid) (λ worker. ap (λ pid. pid == q.pid) (pid-end_session sid worker)) workers)
      ∙ row_ended (find (has_pid q.pid) workers) (λ w e. eqb-true w.pid q.pid (found_in (has_pid q.pid) workers w e).1)

-- ---- workers of other pids

row_left : (sid : Sid) (pid : ℕ) → (sid.pid ≡ pid → ⊥) → (o : Option WorkerRow) → ((w : WorkerRow) → o ≡ Some w → w.pid ≡ pid) → option_map (end_session sid) o ≡ o
unfolding end_session
row_left sid pid other None own = refl
row_left sid pid other (Some w) own =
    ap Some (cond-false ((w.pid == sid.pid) && (w.session == sid.session)) (record w { alive = false }) w
    (and_left (w.pid == sid.pid) (w.session == sid.session) (false_from_ne_true (w.pid == sid.pid) (λ e. other (sym (eqb-true w.pid sid.pid e) ∙ own w refl)))))

pub others_ended : (sid : Sid) (workers : List WorkerRow) (pid : ℕ) → (sid.pid ≡ pid → ⊥) → find (has_pid pid) (map (end_session sid) workers) ≡ find (has_pid pid) workers
others_ended sid workers pid other =
    find-map (has_pid pid) (end_session sid) (λ worker. ap (λ p. p == pid) (pid-end_session sid worker)) workers
    ∙ row_left sid pid other (find (has_pid pid) workers) (λ w e. eqb-true w.pid pid (found_in (has_pid pid) workers w e).1)

-- ---- letters to those who waited behind it

pub wakes_met : (ps : List Place) (t : Table) (sid : Sid) → ((y : Watch) → IsIn y ((view t).watches_behind sid) → among (mail_place y.sid.pid) ps ≡ true)
    → (post : Post) → IsIn post (wakes_behind (view t) sid ++ []) → among (mail_place post.to.pid) ps ≡ true
wakes_met ps t sid behind post i =
    let y = in_map wake (filter (λ watch. not (same_sid watch.sid sid)) ((view t).watches_behind sid)) post (subst (IsIn post) (append_nothing (wakes_behind (view t) sid)) i) in
    ap (λ (p : Post). among (mail_place p.to.pid) ps) (sym y.2) ∙ behind y.0 (in_filter (λ watch. not (same_sid watch.sid sid)) ((view t).watches_behind sid) y.0 y.1).0

-- ---- the table after it

module _ (t : Table) (sid : Sid) (moment : Moment) where
  -- the table when the session has ended, before it settles
  abbrev pub ended : Table
  ended = perform (c.EndSession sid moment) (record t { waiters = filter (λ x. is_no_wait_of ((view t).watches_behind sid) x.sid x.call) t.waiters })

  -- once it has settled, with these workers, and these letters sent
  abbrev pub settled_with : List WorkerRow → List Post → Table
  settled_with workers posts = record (perform c.Settle ended) { workers = workers; letters = filter (λ post. not (is_to sid post)) t.letters ++ posts }

  -- what these workers owe: the others are as before, and of the sessions that were there before, those live that lived when this one had ended
  pub record AreWorkers (s : AllRecords) (workers : List WorkerRow) : Type 0 where
    pub others : (pid : ℕ) → (sid.pid ≡ pid → ⊥) → find (has_pid pid) workers ≡ find (has_pid pid) t.workers
    pub had : (q : Sid) → has_had (view t) q ≡ true → lives_among workers q ≡ lives_among (map (end_session sid) t.workers) q
    pub living : (q : Sid) → lives_among workers q ≡ true → (table.lives (view t) q ≡ true) ⊎ IsUnnamed s q

module _ (setup : Setup) (ps : List Place) (s : AllRecords) (t : Table) (sound : IsSound t) (sid : Sid) (moment : Moment) (alive : table.lives (view t) sid ≡ true)
    (mail : among (mail_place sid.pid) ps ≡ true) (register : among (register_place sid.pid) ps ≡ true) (behind : (y : Watch) → IsIn y ((view t).watches_behind sid) → among (mail_place y.sid.pid) ps ≡ true)
    (workers : List WorkerRow) (posts : List Post) (fine : AreWorkers t sid moment s workers) (to : (post : Post) → IsIn post posts → among (mail_place post.to.pid) ps ≡ true) where
  abbrev m : Table
  m = ended t sid moment

  abbrev u : Table
  u = settled_with t sid moment workers posts

  abbrev v : View
  v = view t

  owner_had : (o : OpenRow) → IsIn o t.opens → has_had v o.owner ≡ true
  owner_had o i = each (λ (x : OpenRow). has_had v x.owner) t.opens sound.rows.owners_had o i

  owner_lives : (o : OpenRow) → IsIn o t.opens → table.lives (view u) o.owner ≡ table.lives (view m) o.owner
  owner_lives o i = fine.had o.owner (owner_had o i)

  -- ---- what the changes owe

  pub dead : table.lives (view u) sid ≡ false
  dead = fine.had sid (lives_had t.workers sid alive) ∙ lives_ended sid sid t.workers ∙ and_right (table.lives v sid) (not (same_sid sid sid)) (not_from_true (same_sid sid sid) (same_sid-refl sid))

  pub dead_before : (o : OpenRow) → IsIn o t.opens → table.lives v o.owner ≡ false → table.lives (view u) o.owner ≡ false
  dead_before o i e = owner_lives o i ∙ lives_ended sid o.owner t.workers ∙ and_left (table.lives v o.owner) (not (same_sid o.owner sid)) e

  -- ---- opens that stay, before the table settles

  outlives_is : (o : OpenRow) → IsIn o t.opens → outlives sid o ≡ (table.lives (view m) o.owner || is_durable o)
  outlives_is o i = by (same_sid o.owner sid) refl ∙ ap (λ b. b || is_durable o) (sym (lives_ended sid o.owner t.workers))
    where
      by : (b : Bool) → same_sid o.owner sid ≡ b → (not (same_sid o.owner sid) || not (o.durable == 0)) ≡ ((table.lives v o.owner && not (same_sid o.owner sid)) || is_durable o)
      by true e = ap (λ b. not b || not (o.durable == 0)) e ∙ sym (ap (λ b. (table.lives v o.owner && not b) || is_durable o) e ∙ ap (λ b. b || is_durable o) (and-false (table.lives v o.owner)))
      by false e =
          ap (λ b. not b || not (o.durable == 0)) e
          ∙ sym (ap (λ b. (table.lives v o.owner && not b) || is_durable o) e ∙ ap (λ b. b || is_durable o) (and-true (table.lives v o.owner)) ∙ each (lasts v) t.opens sound.rows.opens_last o i)

  opens_ended : (file : ℕ) → (view m).opens_of file ≡ filter (λ o. table.lives (view m) o.owner || is_durable o) (v.opens_of file)
  opens_ended file =
      filter-filter (is_of_file file) (outlives sid) t.opens
      ∙ filter_each (outlives sid) (λ o. table.lives (view m) o.owner || is_durable o) (v.opens_of file) (λ o i. outlives_is o (in_filter (is_of_file file) t.opens o i).0)

  opens_settled : (file : ℕ) → (view u).opens_of file ≡ filter (λ o. keeps_open (file_view file (view m)) (file_open (table.lives (view m)) o)) ((view m).opens_of file)
  unfolding settle_where
  opens_settled file =
      filter-filter (is_of_file file) (row_stays (λ g. true) (view m)) m.opens
      ∙ filter_each (row_stays (λ g. true) (view m)) (λ o. keeps_open (file_view file (view m)) (file_open (table.lives (view m)) o)) ((view m).opens_of file)
      (λ o i. ap (λ g. keeps_open (file_view g (view m)) (file_open (table.lives (view m)) o)) (eqb-true o.file file (in_filter (is_of_file file) m.opens o i).1))

  -- ---- the waits

  abbrev stays : Sid → ℕ → Bool
  stays q call = is_no_wait_of (v.watches_behind sid) q call && not (same_sid q sid)

  gone_met : (q : Sid) (call : ℕ) → stays q call ≡ false → among (mail_place q.pid) ps ≡ true
  gone_met q call e = by (and_cases (is_no_wait_of (v.watches_behind sid) q call) (not (same_sid q sid)) e)
    where
      some_not : (ys : List Watch) → list_all (λ y. is_other_wait y.sid y.call q call) ys ≡ false → (y : Watch) × IsIn y ys × (is_other_wait y.sid y.call q call ≡ false)
      some_not [] e = absurd cc
      some_not (y ∷ ys) e = one (and_cases (is_other_wait y.sid y.call q call) (list_all (λ y. is_other_wait y.sid y.call q call) ys) e) (some_not ys)
        where
          one : (is_other_wait y.sid y.call q call ≡ false) ⊎ (list_all (λ y. is_other_wait y.sid y.call q call) ys ≡ false) → (list_all (λ y. is_other_wait y.sid y.call q call) ys ≡ false → (y : Watch) × IsIn y ys × (is_other_wait y.sid y.call q call ≡ false))
              → (x : Watch) × IsIn x (y ∷ ys) × (is_other_wait x.sid x.call q call ≡ false)
          one (inl h) later = (y, inl refl, h)
          one (inr h) later = let r = later h in (r.0, inr r.1, r.2)

      by : (is_no_wait_of (v.watches_behind sid) q call ≡ false) ⊎ (not (same_sid q sid) ≡ false) → among (mail_place q.pid) ps ≡ true
      by (inl h) =
          let y = some_not (v.watches_behind sid) h in
          ap (λ (k : Sid). among (mail_place k.pid) ps) (same_sid-eq q y.0.sid (and_parts (same_sid q y.0.sid) (call == y.0.call) (not-false (same_sid q y.0.sid && (call == y.0.call)) y.2)).0) ∙ behind y.0 y.1
      by (inr h) = ap (λ (k : Sid). among (mail_place k.pid) ps) (same_sid-eq q sid (not-false (same_sid q sid) h)) ∙ mail

  waits : WaitsStep setup ps s t u
  unfolding settle_where
  waits = record {
    stays = stays;
    new = [];
    rows = filter_twice (λ x. is_no_wait_of (v.watches_behind sid) x.sid x.call) (λ x. not (same_sid x.sid sid)) t.waiters ∙ sym (append_nothing (filter (λ x. stays x.sid x.call) t.waiters));
    dropped = λ x i e. gone_met x.sid x.call e;
    added = λ x i. absurd i;
  }

  -- ---- letters

  letters : (q : Sid) → among (mail_place q.pid) ps ≡ false → (view u).letters_of q ≡ v.letters_of q
  letters q unmet =
      filter_joined (is_to q) (filter (λ post. not (is_to sid post)) t.letters) posts
      ∙ ap (λ xs. filter (is_to q) (filter (λ post. not (is_to sid post)) t.letters) ++ xs)
      (filter_none (is_to q) posts (λ post i. false_from_ne_true (is_to q post) (λ e. both_ways (among (mail_place q.pid) ps) unmet (ap (λ (k : Sid). among (mail_place k.pid) ps) (sym (same_sid-eq post.to q e)) ∙ to post i))))
      ∙ append_nothing (filter (is_to q) (filter (λ post. not (is_to sid post)) t.letters))
      ∙ filter-filter (is_to q) (λ post. not (is_to sid post)) t.letters
      ∙ filter_every (λ post. not (is_to sid post)) (v.letters_of q) (λ post i. not_from_false (is_to sid post) (false_from_ne_true (is_to sid post) (λ e.
      both_ways (among (mail_place q.pid) ps) unmet (ap (λ (k : Sid). among (mail_place k.pid) ps) (sym (same_sid-eq post.to q (in_filter (is_to q) t.letters post i).1) ∙ same_sid-eq post.to sid e) ∙ mail))))

  -- ---- holds

  holds : (key : ℕ) → (view u).holds_of key ≡ filter (λ h. table.lives (view u) h.owner) (v.holds_of key)
  unfolding settle_where
  holds key =
      filter-filter (is_hold_of key) (λ hold. not (same_sid hold.owner sid)) t.holds
      ∙ filter_each (λ hold. not (same_sid hold.owner sid)) (λ h. table.lives (view u) h.owner) (v.holds_of key) (λ h i.
      let live : table.lives v h.owner ≡ true = each (λ (x : HoldRow). table.lives v x.owner) t.holds sound.rows.holders_live h (in_filter (is_hold_of key) t.holds h i).0 in
      sym (fine.had h.owner (lives_had t.workers h.owner live) ∙ lives_ended sid h.owner t.workers ∙ ap (λ b. b && not (same_sid h.owner sid)) live))

  -- ---- workers

  mail_other : (pid : ℕ) → among (mail_place pid) ps ≡ false → sid.pid ≡ pid → ⊥
  mail_other pid unmet e = both_ways (among (mail_place pid) ps) unmet (ap (λ p. among (mail_place p) ps) (sym e) ∙ mail)

  register_other : (pid : ℕ) → among (register_place pid) ps ≡ false → sid.pid ≡ pid → ⊥
  register_other pid unmet e = both_ways (among (register_place pid) ps) unmet (ap (λ p. among (register_place p) ps) (sym e) ∙ register)

  ended_others : (pid : ℕ) → (sid.pid ≡ pid → ⊥) → (view u).ended_of pid ≡ v.ended_of pid
  unfolding settle_where
  ended_others pid other = filter_one_out (is_end_of pid) (end_at sid moment) t.ended (false_from_ne_true (sid.pid == pid) (λ e. other (eqb-true sid.pid pid e)))

  -- ---- all of it

  pub ending : IsSound u → IsThinned (table.lives (view u)) t u → Lessened setup ps s t u
  unfolding settle_where settle_by_key
  ending sound_after h = record {
    here = λ file. false;
    written = λ file e. absurd cc;
    living = fine.living;
    worker_mail = λ pid unmet. fine.others pid (mail_other pid unmet);
    worker_register = λ pid unmet. let other = register_other pid unmet in (fine.others pid other, ended_others pid other);
    others = λ file out. less_file t u sound_after h file;
    leases = λ name unmet r living.
        settled_exact t m u sound refl opens_ended opens_settled (λ name. ap (λ (x : View). x.leases_of name) (view-perform c.Settle m)) owner_lives r living name;
    handles = λ file out name l i e. less_handles t u sound_after h file name l i e;
    holds = λ key unmet. holds key;
    letters = letters;
    waits = waits;
  }
