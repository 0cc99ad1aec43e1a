-- `scavenge` keeps what the databases stand for.
--
-- It writes every record of files, leases and workers, and the mailboxes of all who are watched there. A file may have a share mode record
-- and no record of ranges, or the other way round: opens go only whose owner lives no longer, with their ranges, so each record that isn't there
-- stands for what is left.
use Rattle.std.proofs.Common.{◌≡◌, ℕ, ◌≤◌, Bool, true, false, not, ◌==◌, ◌&&◌, List, [], ◌∷◌, ◌++◌, map, filter, find, Option, Some, None, refl, sym, ap, ◌∙◌, subst, inl, inr}
use Rattle.std.specs.List.{list_all, AllByRecursion, flat_map}
use Rattle.std.specs.Option.{option_map, option_map_or, option_and_then}
use Rattle.std.proofs.lemmas.Bool.{and_parts, and_from, not-true, both_ways}
use Rattle.std.proofs.lemmas.List.Folds.{list_all-append, list_all-map}
use Rattle.sid_core.specs.declared.call.Call.TheVariants.{Scavenge}
use Rattle.sid_core.specs.declared.entry.Entry.{Entry}
use Rattle.sid_core.specs.declared.entry.Event.TheVariants.{Called}
use Rattle.sid_core.specs.declared.ids.LeaseName.{LeaseName}
use Rattle.sid_core.specs.declared.ids.Moment.{Moment}
use Rattle.sid_core.specs.declared.ids.OpenId.{OpenId}
use Rattle.sid_core.specs.declared.ids.Sid.{Sid}
use Rattle.sid_core.specs.declared.ids.Spot.{Spot}
use Rattle.sid_core.specs.declared.ids.Spot.TheVariants.{OpenOf, RangesOf}
use Rattle.sid_core.specs.declared.reply.Reply.{Reply}
use Rattle.sid_core.specs.declared.setup.Setup.{Setup}
use Rattle.sid_core.specs.Setup.{IsSetup}
use Rattle.sid_core.specs.Ids.{same_id, same_name}
use Rattle.serial_table.specs.declared.rows.OpenRow.{OpenRow}
use Rattle.serial_table.specs.declared.rows.LeaseRow.{LeaseRow}
use Rattle.serial_table.specs.declared.rows.HoldRow.{HoldRow}
use Rattle.serial_table.specs.declared.rows.Watch.{Watch}
use Rattle.serial_table.specs.declared.table.Table.{Table}
use Rattle.serial_table.specs.declared.change.Change.{Change}
use Rattle.serial_table.specs.declared.change.Change.TheVariants as c
use Rattle.serial_table.specs.declared.decision.Caller.{Caller}
use Rattle.serial_table.specs.declared.decision.Decision.{Decision}
use Rattle.serial_table.specs.View.{View, view, lives, carries, has_pid, has_name, is_of_file, is_hold_of, is_end_of}
use Rattle.serial_table.specs.File.{FileView}
use Rattle.serial_table.specs.Settle.{settle}
use Rattle.serial_table.specs.Change.{perform_all}
use Rattle.serial_table.specs.Decide.{decide, outcome}
use Rattle.serial_table.specs.Decision.{Outcome, conclude, waits_no_more, spots_of, woken_by}
use Rattle.serial_table.specs.Wake.{wake}
use Rattle.serial_table.specs.Durable.{is_expired}
use Rattle.serial_table.specs.Expire.{look, due, expired_by}
use Rattle.serial_table.specs.Scavenge.{files_of, has_expired, all_expired, goes, scavenge}
use Rattle.serial_table.specs.Step.{caller_of, changes_of}
use Rattle.serial_table.specs.History.{start, after, IsLegal, IsLegalCall}
use Rattle.serial_table.specs.Sound.{AllFit, have_same_id, has_open, is_open_under}
use Rattle.serial_table.proofs.SameIds.{same_name-eq, eqb-flip}
use Rattle.serial_table.proofs.Alike.{after_all-append}
use Rattle.serial_table.proofs.Along.{legal_before}
use Rattle.serial_table.proofs.Callers.{is_caller_of}
use Rattle.serial_table.proofs.Concluding.{start-settled}
use Rattle.serial_table.proofs.Entries.{entry_fits}
use Rattle.serial_table.proofs.Expiring.{behind, expired_all, expired_workers, due_there, after_all-settled}
use Rattle.serial_table.proofs.ExpiringFits.{expired_fits}
use Rattle.serial_table.proofs.Living.{lives_among}
use Rattle.serial_table.proofs.Members.{IsIn, each, all_each, one_of, one_in, old_in, in_filter, in_map, in_flat_map, passes_in, mapped_in}
use Rattle.serial_table.proofs.Views.{view-perform_all}
use Rattle.chain_map.specs.declared.db.Db.TheVariants as db
use Rattle.record_codec.specs.declared.watch.WatchRec.{WatchRec}
use Rattle.record_codec.specs.declared.share_rec.ShareRec.{ShareRec}
use Rattle.record_codec.specs.declared.lease_rec.LeaseRec.{LeaseRec}
use Rattle.record_codec.specs.declared.range_rec.RangeRec.{RangeRec}
use Rattle.record_codec.specs.declared.register_rec.RegisterRec.{RegisterRec}
use Rattle.record_codec.specs.ShareRec.{share_rec}
use Rattle.record_codec.specs.LeaseRec.{lease_rec}
use Rattle.record_codec.specs.RangeRec.{range_rec}
use Rattle.record_codec.specs.RegisterRec.{register_rec}
use Rattle.record_codec.specs.Counts.{watch_counts, settled_lease}
use Rattle.stored_table.specs.Keys.{name_key, file_key, pid_key}
use Rattle.stored_table.specs.Places.{Chains, Place, among}
use Rattle.stored_table.specs.Decoded.{AllRecords, deciding, records_of}
use Rattle.record_rows.specs.Rows.{ref_of, watch_row}
use Rattle.stored_table.specs.Exact.{lease_of, lease_with, opens_under}
use Rattle.stored_table.specs.Met.{KeyList, Met, all_keys, all_met, met_by_call, met_everywhere, named_at, nothing_met, record_at, watchers, watchers_everywhere}
use Rattle.stored_table.specs.Shown.{part_of, open_watches, range_watches}
use Rattle.stored_table.specs.Stands.{StandsFor}
use Rattle.stored_table.proofs.Telling.{none_in, file_tells}
use Rattle.table_laws.specs.Standing.{KeepsStanding}
use Rattle.table_laws.proofs.Lists.{all_joined, filter_every}
use Rattle.table_laws.proofs.Contained.{mail_place, lease_place, IsMetName}
use Rattle.table_laws.proofs.Chains.{IsFine}
use Rattle.table_laws.proofs.Deciding.{adds_no_waiter, watch_before, none_new, IsContained, AreContained, concluded}
use Rattle.table_laws.proofs.Exactly.{IsUnder, exact_is, lease_row_of}
use Rattle.table_laws.proofs.KeysThere.{recorded_key}
use Rattle.table_laws.proofs.Lessened.{Lessened}
use Rattle.table_laws.proofs.LessEvents.{fine_before, fine_after, less_stands, drops_thin, sends_thin}
use Rattle.table_laws.proofs.Meets.{later_in, flat_mapped_in, lease_met, mail_met}
use Rattle.table_laws.proofs.Thinning.{Thins, IsThinned, thinned, expiry_thin, less_file, less_handles}
use Rattle.table_laws.proofs.Touching.{touches, reaches, IsNewIn, Along, along, waits_refl}

-- what a record has is in its list
part_in : {R X : Type 0} (f : R → List X) (o : Option R) (x : X) → IsIn x (part_of f o) → (r : R) × (o ≡ Some r) × IsIn x (f r)
part_in f None x i = absurd i
part_in f (Some r) x i = (r, refl, i)

none_some : {A : Type 0} (x : A) → ◌≡◌ {A = Option A} None (Some x) → ⊥
none_some x e = absurd cc

module _ (setup : Setup) (n : ℕ) (k : Chains) (t : Table) (stands : StandsFor setup n k (view t)) (fine : IsFine setup t) (settled : settle t ≡ t) (caller : Caller) where
  abbrev s : AllRecords
  s = records_of setup n k

  abbrev v : View
  v = view t

  abbrev mail : KeyList
  mail = all_keys n k db.Register ++ watchers_everywhere n k

  abbrev pub everywhere : Met
  everywhere = met_everywhere n k (all_keys n k db.Register ++ watchers_everywhere n k)

  abbrev ps : List Place
  ps = all_met (met_everywhere n k (all_keys n k db.Register ++ watchers_everywhere n k))

  some : 1 ≤ n
  some = stands.well_formed.chains.some

  -- ---- leases

  under : (name : LeaseName) (l : LeaseRow) → IsIn l (v.leases_of name) → (o : OpenRow) × IsUnder t fine.sound name l o
  under name l i =
      let at = in_filter (has_name name) t.leases l i in
      let o = one_of (is_open_under l) t.opens (each (has_open t.opens) t.leases fine.sound.leases_have_opens l at.0) in
      let p = and_parts (o.0.file == l.file) (carries l.name o.0.lease) o.2 in
      (o.0, record { lease = i; row = passes_in (is_of_file l.file) t.opens o.0 o.1 p.0; carried = ap (λ m. carries m o.0.lease) (sym (same_name-eq l.name name at.1)) ∙ p.1 })

  -- the record of each lease is there
  lease_there : (name : LeaseName) (l : LeaseRow) → IsIn l (v.leases_of name) → (o : Option LeaseRec) → s.leases name ≡ o → among (lease_place name) ps ≡ true
  lease_there name l i None e =
      let u = under name l i in
      absurd (none_some (lease_with l l.breaking (map ref_of (opens_under v name l.file))) (sym (ap (option_and_then (settled_lease (deciding s))) e) ∙ stands.agree.leases name ∙ exact_is t fine.sound name l u.0 u.1))
  lease_there name l i (Some r) e = lease_met everywhere (name_key name) (recorded_key n k db.Leases (name_key name) lease_rec r some e)

  named : (o : OpenRow) → IsIn o t.opens → IsMetName ps o.lease
  named o i = by o.lease refl
    where
      by : (lease : Option LeaseName) → o.lease ≡ lease → IsMetName ps lease
      by None e = tt
      by (Some name) e = let l = lease_row_of t fine.sound o name i e in lease_there name l.0 l.1 (s.leases name) refl

  -- ---- who waits on a spot of a file

  watched_mail : (key : List ℕ) → IsIn key (watchers_everywhere n k) → IsIn key mail
  watched_mail key i = later_in (all_keys n k db.Register) (watchers_everywhere n k) key i

  open_watcher : (file : ℕ) (y : Watch) → IsIn y (v.watches_on (OpenOf file)) → among (mail_place y.sid.pid) ps ≡ true
  open_watcher file y i =
      let w = in_map watch_row (open_watches s file) y (subst (IsIn y) (sym (ap (λ (f : FileView). f.open_watches) (file_tells setup s t stands.agree fine.sets fine.sound file))) i) in
      let p = part_in (λ (r : ShareRec). filter (watch_counts (deciding s) (OpenOf file)) r.watchers) (s.shares file) w.0 w.1 in
      let raw = in_filter (watch_counts (deciding s) (OpenOf file)) p.0.watchers w.0 p.2 in
      let key = pid_key w.0.sid.pid in
      ap (λ (z : Watch). among (mail_place z.sid.pid) ps) (sym w.2)
      ∙ mail_met everywhere key (watched_mail key
      (old_in (named_at share_rec (λ r. watchers r.watchers) n k db.Locking (all_keys n k db.Locking)) _ key
      (flat_mapped_in (λ key. option_map_or (λ (r : ShareRec). watchers r.watchers) (record_at share_rec n k db.Locking key) []) (all_keys n k db.Locking) (file_key setup file) key
      (recorded_key n k db.Locking (file_key setup file) share_rec p.0 some p.1)
      (subst (λ o. IsIn key (option_map_or (λ (r : ShareRec). watchers r.watchers) o [])) (sym p.1) (mapped_in (λ (x : WatchRec). pid_key x.sid.pid) p.0.watchers w.0 raw.0)))))

  range_watcher : (file : ℕ) (y : Watch) → IsIn y (v.watches_on (RangesOf file)) → among (mail_place y.sid.pid) ps ≡ true
  range_watcher file y i =
      let w = in_map watch_row (range_watches s file) y (subst (IsIn y) (sym (ap (λ (f : FileView). f.range_watches) (file_tells setup s t stands.agree fine.sets fine.sound file))) i) in
      let p = part_in (λ (r : RangeRec). filter (watch_counts (deciding s) (RangesOf file)) r.watchers) (s.ranges file) w.0 w.1 in
      let raw = in_filter (watch_counts (deciding s) (RangesOf file)) p.0.watchers w.0 p.2 in
      let key = pid_key w.0.sid.pid in
      ap (λ (z : Watch). among (mail_place z.sid.pid) ps) (sym w.2)
      ∙ mail_met everywhere key (watched_mail key
      (later_in (named_at share_rec (λ r. watchers r.watchers) n k db.Locking (all_keys n k db.Locking)) _ key
      (later_in (named_at register_rec (λ (r : RegisterRec). watchers r.watchers) n k db.Register (all_keys n k db.Register)) _ key
      (flat_mapped_in (λ key. option_map_or (λ (r : RangeRec). watchers r.watchers) (record_at range_rec n k db.Brlock key) []) (all_keys n k db.Brlock) (file_key setup file) key
      (recorded_key n k db.Brlock (file_key setup file) range_rec p.0 some p.1)
      (subst (λ o. IsIn key (option_map_or (λ (r : RangeRec). watchers r.watchers) o [])) (sym p.1) (mapped_in (λ (x : WatchRec). pid_key x.sid.pid) p.0.watchers w.0 raw.0))))))

  of_files : (files : List ℕ) (spot : Spot) → IsIn spot (flat_map spots_of files) → (y : Watch) → IsIn y (v.watches_on spot) → among (mail_place y.sid.pid) ps ≡ true
  of_files files spot i = let f = in_flat_map spots_of files spot i in one f.0 f.2
    where
      one : (file : ℕ) → IsIn spot (spots_of file) → (y : Watch) → IsIn y (v.watches_on spot) → among (mail_place y.sid.pid) ps ≡ true
      one file (inl h) y j = open_watcher file y (subst (λ z. IsIn y (v.watches_on z)) (sym h) j)
      one file (inr (inl h)) y j = range_watcher file y (subst (λ z. IsIn y (v.watches_on z)) (sym h) j)
      one file (inr (inr h)) y j = absurd h

  -- ---- what it decides behind what expires

  abbrev all : ℕ → Bool
  all file = true

  abbrev first : List Change
  first = expired_by setup v caller Scavenge

  abbrev b : Table
  b = behind setup t caller Scavenge

  abbrev decision : Decision
  decision = scavenge setup (view b) caller

  abbrev changes : List Change
  changes = expired_by setup v caller Scavenge ++ (conclude (view b) (scavenge setup (view b) caller)).changes

  inside : IsContained setup ps s all t (scavenge setup (view b) caller)
  unfolding scavenge
  inside =
      let gone = all_expired setup (view b) caller.moment in
      record {
        touched = list_all-map (touches all) goes gone ∙ all_each (λ row. true) gone (λ row i. refl);
        reached = list_all-map (reaches setup ps) goes gone ∙ all_each (λ row. true) gone (λ row i. refl);
        none_waits = list_all-map adds_no_waiter goes gone ∙ all_each (λ row. true) gone (λ row i. refl);
        posts = λ post i. absurd i;
        spots = λ spot i. of_files (filter (has_expired (view b) caller.moment) (files_of setup)) spot i;
        waits = tt;
      }

  first_no_waiter : list_all adds_no_waiter (expired_by setup v caller Scavenge) ≡ true
  first_no_waiter = expired_all adds_no_waiter (λ l. refl) refl setup v caller Scavenge

  later : AreContained setup ps s all (conclude (view b) (scavenge setup (view b) caller)).changes
  later = concluded setup ps s all t b (λ spot y i. watch_before (expired_by setup v caller Scavenge) t spot y first_no_waiter i) (scavenge setup (view b) caller) inside

  abbrev u : Table
  u = perform_all changes t

  beside : Along setup ps s all t u
  beside =
      along setup ps s all t t changes
      (list_all-append (touches all) (expired_by setup v caller Scavenge) _ ∙ and_from (list_all (touches all) (expired_by setup v caller Scavenge)) _ (expired_all (touches all) (λ l. refl) refl setup v caller Scavenge) later.touched)
      (list_all-append (reaches setup ps) (expired_by setup v caller Scavenge) _ ∙ and_from (list_all (reaches setup ps) (expired_by setup v caller Scavenge)) _ (expired_all (reaches setup ps) (λ l. refl) refl setup v caller Scavenge) later.reached)
      (all_joined (IsNewIn s) (expired_by setup v caller Scavenge) _ (none_new s (expired_by setup v caller Scavenge) first_no_waiter) later.new)
      (record {
        others = λ file out. absurd cc;
        settled = λ file out. absurd cc;
        names = λ o i e. named o i;
        workers = refl;
        ended = refl;
        holds = λ key unmet. refl;
        letters = λ sid unmet. refl;
        waits = waits_refl setup ps s t;
      })

  lives_same : (sid : Sid) → lives v sid ≡ lives (view u) sid
  lives_same sid = ap (λ ws. lives_among ws sid) (sym beside.workers)

  -- ---- what it leaves

  first_thin : AllByRecursion (Thins (lives v) t) (expired_by setup v caller Scavenge)
  unfolding expired_by
  first_thin =
      expiry_thin (lives v) t fine.sound.rows (due v caller.moment (look setup v caller Scavenge)) (λ l i. (due_there t caller.moment (look setup v caller Scavenge) l i).0)

  left_first : IsThinned (lives v) t b
  left_first = thinned (lives v) t (expired_by setup v caller Scavenge) fine.sound.rows (expired_fits setup t caller Scavenge fine.sound.rows) first_thin (λ o i e. e)

  goes_thin : (row : OpenRow) → IsIn row (all_expired setup (view b) caller.moment) → Thins (lives v) t (goes row)
  goes_thin row i x j e =
      let f = in_flat_map (λ file. filter (is_expired (view b) caller.moment) ((view b).opens_of file)) (files_of setup) row i in
      let at = in_filter (is_expired (view b) caller.moment) ((view b).opens_of f.0) row f.2 in
      let there : IsIn row t.opens = left_first.before row (in_filter (is_of_file f.0) b.opens row at.0).0 in
      let same : x ≡ row = one_in have_same_id (λ p q. id_flip p.id q.id) t.opens fine.sound.rows.ids_differ x row j there (and_parts (x.file == row.file) (same_id x.id row.id) e).1 in
      ap (λ (y : OpenRow). lives v y.owner) same
      ∙ ap (λ ws. lives_among ws row.owner) (sym (expired_workers setup t caller Scavenge))
      ∙ not-true (lives (view b) row.owner) (and_parts (not (lives (view b) row.owner)) _ at.1).0
    where
      id_flip : (p q : OpenId) → same_id p q ≡ same_id q p
      id_flip p q = λ m. eqb-flip p.pid q.pid m && eqb-flip p.call q.call m

  all_go : (rows : List OpenRow) → ((row : OpenRow) → IsIn row rows → Thins (lives v) t (goes row)) → AllByRecursion (Thins (lives v) t) (map goes rows)
  all_go [] h = tt
  all_go (row ∷ rows) h = (h row (inl refl), all_go rows (λ x i. h x (inr i)))

  later_thin : AllByRecursion (Thins (lives v) t) (conclude (view b) (scavenge setup (view b) caller)).changes
  unfolding conclude scavenge
  later_thin =
      let gone = all_expired setup (view b) caller.moment in
      let woken = woken_by (view b) (scavenge setup (view b) caller) in
      all_joined (Thins (lives v) t) (map goes gone ++ c.Settle ∷ []) (map waits_no_more woken ++ map (λ post. c.Send post) (map wake woken))
      (all_joined (Thins (lives v) t) (map goes gone) (c.Settle ∷ []) (all_go gone goes_thin) (tt, tt))
      (all_joined (Thins (lives v) t) (map waits_no_more woken) (map (λ post. c.Send post) (map wake woken)) (drops_thin (lives v) t woken) (sends_thin (lives v) t (map wake woken)))

  pub left : AllFit changes t → IsThinned (lives (view u)) t u
  left fit =
      subst (λ alive. IsThinned alive t u) (λ i sid. lives_same sid i)
      (thinned (lives v) t changes fine.sound.rows fit (all_joined (Thins (lives v) t) (expired_by setup v caller Scavenge) _ first_thin later_thin) (λ o i e. e))

  -- a lease whose record isn't there isn't there
  no_lease : (name : LeaseName) → among (lease_place name) ps ≡ false → v.leases_of name ≡ []
  no_lease name unmet = none_in (v.leases_of name) (λ l i. both_ways (among (lease_place name) ps) unmet (lease_there name l i (s.leases name) refl))

  pub scavenged : IsFine setup u → AllFit changes t → Lessened setup ps s t u
  scavenged fine_after fit =
      let h = left fit in record {
        here = λ file. false;
        written = λ file e. absurd cc;
        living = λ sid e. inl (lives_same sid ∙ e);
        worker_mail = λ pid unmet. ap (find (has_pid pid)) beside.workers;
        worker_register = λ pid unmet. (ap (find (has_pid pid)) beside.workers, ap (filter (is_end_of pid)) beside.ended);
        others = λ file out. less_file t u fine_after.sound h file;
        leases = λ name unmet r living.
            let none = no_lease name unmet in
            ap (λ ls. option_and_then (settled_lease r) (lease_of v name ls)) none
            ∙ sym (ap (lease_of (view u) name) (none_in ((view u).leases_of name) (λ l i.
            let at = in_filter (has_name name) u.leases l i in
            let g = h.leases l at.0 in
            subst (IsIn g.row) none (passes_in (has_name name) t.leases g.row g.there (ap (λ m. same_name m name) g.name ∙ at.1)))));
        handles = λ file out name l i e. less_handles t u fine_after.sound h file name l i e;
        holds = λ key unmet. beside.holds key unmet ∙ sym (filter_every (λ h. lives (view u) h.owner) (v.holds_of key) (λ x i.
            sym (lives_same x.owner) ∙ each (λ (y : HoldRow). lives v y.owner) t.holds fine.sound.rows.holders_live x (in_filter (is_hold_of key) t.holds x i).0));
        letters = beside.letters;
        waits = beside.waits;
      }

-- ---- the law

module _ (setup : Setup) (n : ℕ) (is : IsSetup setup) (before : List Entry) (by seq number : ℕ) (moment : Moment) (reply : Reply) where
  abbrev entry : Entry
  entry = record { by = by; seq = seq; what = Called number moment Scavenge reply }

  abbrev at : Table
  at = after setup before

  at_settled : settle at ≡ at
  at_settled = after_all-settled setup (start setup) before (start-settled setup)

  with_caller : (legal : IsLegal setup (before ++ entry ∷ [])) (caller : Caller) → caller_of setup (view at) by number moment ≡ Some caller → KeepsStanding setup n before entry
  with_caller legal caller from k stands =
      let fine = fine_before setup n is before entry legal in
      let of = is_caller_of setup at by number moment caller from in
      let cs = changes setup n k at stands fine at_settled caller in
      let changes_are : changes_of setup (view at) by (Called number moment Scavenge reply) ≡ cs =
      ap (λ o. option_map_or (λ (done : Outcome). done.changes) (option_map (λ (caller : Caller). outcome setup (view at) caller Scavenge) o) []) from
      ∙ ap (λ x. expired_by setup (view at) caller Scavenge ++ (conclude x (decide setup x caller Scavenge)).changes) (sym (view-perform_all (expired_by setup (view at) caller Scavenge) at)) in
      let after_is : after setup (before ++ entry ∷ []) ≡ perform_all cs at = after_all-append setup (start setup) before entry ∙ ap (λ cs. perform_all cs at) changes_are in
      let fit : AllFit cs at = subst (λ cs. AllFit cs at) changes_are (entry_fits setup before [] entry is legal) in
      let fine_u = fine_after setup n is before entry legal (perform_all cs at) after_is in
      less_stands setup n is before entry legal (perform_all cs at) after_is k stands (all_met (everywhere setup n k at stands fine at_settled caller))
      (ap (λ o. all_met (option_map_or (λ info. met_by_call setup n k info number Scavenge) o nothing_met)) of.declared)
      (λ w. refl)
      (scavenged setup n k at stands fine at_settled caller fine_u fit)
      (left setup n k at stands fine at_settled caller fit).before

  by_caller : (legal : IsLegal setup (before ++ entry ∷ [])) (o : Option Caller) → caller_of setup (view at) by number moment ≡ o
      → option_map (λ done. done.reply) (option_map (λ caller. outcome setup (view at) caller Scavenge) o) ≡ Some reply → KeepsStanding setup n before entry
  by_caller legal None from answered = absurd cc
  by_caller legal (Some caller) from answered = with_caller legal caller from

  pub scavenge_stands : IsLegal setup (before ++ entry ∷ []) → KeepsStanding setup n before entry
  scavenge_stands legal =
      let here : IsLegalCall setup at by number moment Scavenge reply = (legal_before setup (start setup) before [] entry legal.entries).1 in
      by_caller legal (caller_of setup (view at) by number moment) refl here.answered
