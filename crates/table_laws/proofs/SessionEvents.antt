-- `disconnect` keeps what the databases stand for, where no record names the session that begins.
--
-- It writes what a death writes. The session that begins has no part in any record, so nothing stale comes to count.
use Rattle.std.proofs.Common.{◌≡◌, ℕ, ◌+◌, ◌≤◌, Bool, true, false, cond, not, ◌==◌, ◌&&◌, List, [], ◌∷◌, ◌++◌, map, find, Option, Some, None, refl, sym, ap, ◌∙◌, subst, inl, inr, ◌⊎◌, arith}
use Rattle.std.specs.Prelude.{nat_le}
use Rattle.std.specs.Option.{option_map, option_map_or}
use Rattle.std.proofs.lemmas.Bool.{and_parts, and_left, cond-false, eqb-true, leb-true, false_from_ne_true}
use Rattle.sid_core.specs.declared.call.Call.TheVariants.{Disconnect}
use Rattle.sid_core.specs.declared.entry.Entry.{Entry}
use Rattle.sid_core.specs.declared.entry.Event.TheVariants.{Called}
use Rattle.sid_core.specs.declared.ids.Moment.{Moment}
use Rattle.sid_core.specs.declared.ids.Sid.{Sid}
use Rattle.sid_core.specs.declared.reply.Reply.{Reply}
use Rattle.sid_core.specs.declared.setup.Setup.{Setup}
use Rattle.sid_core.specs.Setup.{IsSetup}
use Rattle.sid_core.specs.Ids.{same_sid}
use Rattle.serial_table.specs.declared.rows.OpenRow.{OpenRow}
use Rattle.serial_table.specs.declared.rows.WorkerRow.{WorkerRow}
use Rattle.serial_table.specs.declared.table.Table.{Table}
use Rattle.serial_table.specs.declared.change.Change.{Change}
use Rattle.serial_table.specs.declared.change.Change.TheVariants as c
use Rattle.serial_table.specs.declared.decision.Caller.{Caller}
use Rattle.serial_table.specs.View.{view, lives, has_pid}
use Rattle.serial_table.specs.File.{file_view, file_open}
use Rattle.serial_table.specs.Settle.{settle, settle_where, row_stays, settle_file}
use Rattle.serial_table.specs.Change.{perform, perform_all, outlives, end_session, begin_session}
use Rattle.serial_table.specs.Decision.{Outcome, conclude}
use Rattle.serial_table.specs.Session.{end_of_session}
use Rattle.serial_table.specs.Disconnect.{disconnect}
use Rattle.serial_table.specs.Decide.{outcome}
use Rattle.serial_table.specs.Expire.{expired_by}
use Rattle.serial_table.specs.Step.{caller_of, changes_of}
use Rattle.serial_table.specs.History.{start, after, IsLegal, IsLegalCall}
use Rattle.serial_table.specs.Sound.{IsConsistent, has_had}
use Rattle.serial_table.proofs.Along.{legal_before}
use Rattle.serial_table.proofs.Callers.{is_caller_of}
use Rattle.serial_table.proofs.Filters.{find-map}
use Rattle.serial_table.proofs.Living.{lives_among, row_of, none_lives, lives-begin_session}
use Rattle.serial_table.proofs.Members.{IsIn, found_in, in_filter, each}
use Rattle.serial_table.proofs.Settled.{files_settled, settled_by_files, settle-settle}
use Rattle.serial_table.proofs.Views.{pid-begin_session}
use Rattle.stored_table.specs.Places.{Chains}
use Rattle.stored_table.specs.Decoded.{AllRecords, records_of}
use Rattle.stored_table.specs.Met.{met_by_call, all_met, nothing_met}
use Rattle.stored_table.specs.Move.{move}
use Rattle.stored_table.specs.Stands.{StandsFor}
use Rattle.table_laws.specs.Standing.{IsUnnamed, next_sid, KeepsStandingIfUnnamed}
use Rattle.table_laws.proofs.Lists.{same_test}
use Rattle.table_laws.proofs.Ending.{lives_ended, ended, AreWorkers, others_ended}
use Rattle.table_laws.proofs.LessEvents.{fine_before, ended_stands}
use Rattle.table_laws.proofs.Chains.{IsFine}

-- ---- who lives once the next session has begun

module _ (sid : Sid) (moment : Moment) where
  row_begun : (q : Sid) (o : Option WorkerRow) → ((w : WorkerRow) → o ≡ Some w → w.pid ≡ q.pid) → option_map_or (λ worker. worker.alive && (worker.session == q.session)) (option_map (begin_session sid moment) o) false ≡ true
      → (next_sid sid ≡ q) ⊎ (option_map_or (λ worker. worker.alive && (worker.session == q.session)) o false ≡ true)
  unfolding begin_session
  row_begun q None own e = absurd cc
  row_begun q (Some w) own e = by ((w.pid == sid.pid) && (w.session == sid.session)) refl e
    where
      by : (b : Bool) → ((w.pid == sid.pid) && (w.session == sid.session)) ≡ b
          → (let x : WorkerRow = cond b (record w { alive = true; session = sid.session + 1; connected = moment }) w in x.alive && (x.session == q.session)) ≡ true → (next_sid sid ≡ q) ⊎ ((w.alive && (w.session == q.session)) ≡ true)
      by true h e = inl (λ i. record { pid = (sym (eqb-true w.pid sid.pid (and_parts (w.pid == sid.pid) (w.session == sid.session) h).0) ∙ own w refl) i; session = eqb-true (sid.session + 1) q.session e i })
      by false h e = inr e

  pub lives_begun : (workers : List WorkerRow) (q : Sid) → lives_among (map (begin_session sid moment) workers) q ≡ true → (next_sid sid ≡ q) ⊎ (lives_among workers q ≡ true)
  lives_begun workers q e =
      row_begun q (find (has_pid q.pid) workers) (λ w f. eqb-true w.pid q.pid (found_in (has_pid q.pid) workers w f).1)
      (ap (λ o. option_map_or (λ (worker : WorkerRow). worker.alive && (worker.session == q.session)) o false)
      (sym (find-map (has_pid q.pid) (begin_session sid moment) (λ worker. ap (λ pid. pid == q.pid) (pid-begin_session sid moment worker)) workers)) ∙ e)

  row_left : (pid : ℕ) → (sid.pid ≡ pid → ⊥) → (o : Option WorkerRow) → ((w : WorkerRow) → o ≡ Some w → w.pid ≡ pid) → option_map (begin_session sid moment) o ≡ o
  unfolding begin_session
  row_left pid other None own = refl
  row_left pid other (Some w) own =
      ap Some (cond-false ((w.pid == sid.pid) && (w.session == sid.session)) (record w { alive = true; session = sid.session + 1; connected = moment }) w
      (and_left (w.pid == sid.pid) (w.session == sid.session) (false_from_ne_true (w.pid == sid.pid) (λ e. other (sym (eqb-true w.pid sid.pid e) ∙ own w refl)))))

  others_begun : (workers : List WorkerRow) (pid : ℕ) → (sid.pid ≡ pid → ⊥) → find (has_pid pid) (map (begin_session sid moment) workers) ≡ find (has_pid pid) workers
  others_begun workers pid other =
      find-map (has_pid pid) (begin_session sid moment) (λ worker. ap (λ p. p == pid) (pid-begin_session sid moment worker)) workers
      ∙ row_left pid other (find (has_pid pid) workers) (λ w e. eqb-true w.pid pid (found_in (has_pid pid) workers w e).1)

  module _ (t : Table) (k : IsConsistent t) (alive : lives (view t) sid ≡ true) where
    abbrev next_workers : List WorkerRow
    next_workers = map (begin_session sid moment) (map (end_session sid) t.workers)

    -- the session that begins is none that its worker has had
    pub not_had : has_had (view t) (next_sid sid) ≡ true → ⊥
    not_had e =
        let row = row_of t.workers sid alive in
        let low : sid.session + 1 ≤ row.0.session = leb-true (sid.session + 1) row.0.session (sym (ap (λ o. option_map_or (λ (worker : WorkerRow). nat_le (sid.session + 1) worker.session) o false) row.1.found) ∙ e) in
        let same : row.0.session ≡ sid.session = row.1.session in
        omega arith

    begun_had : (q : Sid) → has_had (view t) q ≡ true → lives_among next_workers q ≡ lives_among (map (end_session sid) t.workers) q
    begun_had q had =
        same_test (lives_among next_workers q) (lives_among (map (end_session sid) t.workers) q)
        (λ e. by (lives_begun (map (end_session sid) t.workers) q e))
        (λ e. lives-begin_session (map (end_session sid) t.workers) sid moment q (none_lives t.workers sid k.pids_differ alive) e)
      where
        by : (next_sid sid ≡ q) ⊎ (lives_among (map (end_session sid) t.workers) q ≡ true) → lives_among (map (end_session sid) t.workers) q ≡ true
        by (inl e) = absurd (not_had (ap (has_had (view t)) e ∙ had))
        by (inr e) = e

    workers_begun : (s : AllRecords) → IsUnnamed s (next_sid sid) → AreWorkers t sid moment s next_workers
    workers_begun s unnamed = record {
      others = λ pid other. others_begun (map (end_session sid) t.workers) pid other ∙ others_ended sid t.workers pid other;
      had = begun_had;
      living = λ q e. by q (lives_begun (map (end_session sid) t.workers) q e);
    }
      where
        by : (q : Sid) → (next_sid sid ≡ q) ⊎ (lives_among (map (end_session sid) t.workers) q ≡ true) → (lives (view t) q ≡ true) ⊎ IsUnnamed s q
        by q (inl e) = inr (subst (IsUnnamed s) e unnamed)
        by q (inr e) = inl (and_parts (lives_among t.workers q) (not (same_sid q sid)) (sym (lives_ended sid q t.workers) ∙ e)).0

    -- ---- once it has begun, the table is settled still

    abbrev settled : Table
    settled = perform c.Settle (ended t sid moment)

    abbrev begun : Table
    begun = perform (c.NextSession sid moment) settled

    opens_before : (o : OpenRow) → IsIn o settled.opens → IsIn o t.opens
    unfolding settle_where
    opens_before o i = (in_filter (outlives sid) t.opens o (in_filter (row_stays (λ g. true) (view (ended t sid moment))) (ended t sid moment).opens o i).0).0

    same_file : (file : ℕ) → file_view file (view begun) ≡ file_view file (view settled)
    unfolding settle_where
    same_file file = λ i. record (file_view file (view settled)) { opens = each_open ((view settled).opens_of file) (λ o j. opens_before o (in_filter (λ (x : OpenRow). x.file == file) settled.opens o j).0) i }
      where
        each_open : (os : List OpenRow) → ((o : OpenRow) → IsIn o os → IsIn o t.opens) → map (file_open (lives (view begun))) os ≡ map (file_open (lives (view settled))) os
        each_open [] h = refl
        each_open (o ∷ os) h = λ i. record { row = o; connected = begun_had o.owner (each (λ (x : OpenRow). has_had (view t) x.owner) t.opens k.owners_had o (h o (inl refl))) i } ∷ each_open os (λ x j. h x (inr j)) i

    begun_settled : settle begun ≡ begun
    begun_settled =
        settled_by_files begun (λ file.
        ap settle_file (same_file file) ∙ files_settled settled (settle-settle (ended t sid moment)) file ∙ sym (same_file file))

-- ---- the law

module _ (setup : Setup) (n : ℕ) (is : IsSetup setup) (before : List Entry) (by seq number : ℕ) (moment : Moment) (reply : Reply) where
  abbrev entry : Entry
  entry = record { by = by; seq = seq; what = Called number moment Disconnect reply }

  abbrev t : Table
  t = after setup before

  module _ (legal : IsLegal setup (before ++ entry ∷ [])) (caller : Caller) (from : caller_of setup (view t) by number moment ≡ Some caller) where
    abbrev sid : Sid
    sid = caller.sid

    abbrev at : Moment
    at = caller.moment

    abbrev others : List Change
    others = c.Settle ∷ (c.NextSession sid at ∷ [])

    alive : lives (view t) sid ≡ true
    alive = (is_caller_of setup t by number moment caller from).alive

    fine : IsFine setup t
    fine = fine_before setup n is before entry legal

    changes_are : changes_of setup (view t) by (Called number moment Disconnect reply) ≡ (conclude (view t) (end_of_session (view t) sid at (c.Settle ∷ (c.NextSession sid at ∷ [])))).changes
    unfolding disconnect expired_by
    changes_are = ap (λ o. option_map_or (λ (done : Outcome). done.changes) (option_map (λ (caller : Caller). outcome setup (view t) caller Disconnect) o) []) from

    leaves : perform c.Settle (perform_all (c.Settle ∷ (c.NextSession sid at ∷ [])) (ended t sid at)) ≡ record (perform c.Settle (ended t sid at)) { workers = map (begin_session sid at) (map (end_session sid) t.workers) }
    unfolding settle_where
    leaves = begun_settled sid at t fine.sound.rows alive

    stands_after : (k : Chains) → StandsFor setup n k (view t) → IsUnnamed (records_of setup n k) (next_sid sid)
        → StandsFor setup n (move setup n k entry (view (after setup (before ++ entry ∷ [])))) (view (after setup (before ++ entry ∷ [])))
    stands_after k stands unnamed =
        let of = is_caller_of setup t by number moment caller from in
        ended_stands setup n is before entry legal sid of.info of.pid alive at others (map (begin_session sid at) (map (end_session sid) t.workers)) changes_are leaves k stands
        (workers_begun sid at t fine.sound.rows alive (records_of setup n k) unnamed) (λ living. (tt, (tt, tt)))
        (ap (λ o. all_met (option_map_or (λ info. met_by_call setup n k info number Disconnect) o nothing_met)) of.declared) (λ w. refl)

  by_caller : (legal : IsLegal setup (before ++ entry ∷ [])) (o : Option Caller) → caller_of setup (view t) by number moment ≡ o
      → option_map (λ done. done.reply) (option_map (λ caller. outcome setup (view t) caller Disconnect) o) ≡ Some reply → KeepsStandingIfUnnamed setup n before by number moment entry
  by_caller legal None from answered = absurd cc
  by_caller legal (Some caller) from answered = λ k stands unnamed. stands_after legal caller from k stands (unnamed caller from)

  pub disconnect_stands : IsLegal setup (before ++ entry ∷ []) → KeepsStandingIfUnnamed setup n before by number moment entry
  disconnect_stands legal =
      let at : IsLegalCall setup t by number moment Disconnect reply = (legal_before setup (start setup) before [] entry legal.entries).1 in
      by_caller legal (caller_of setup (view t) by number moment) refl at.answered
