-- What `scavenge` writes goes by the chains of its footprint alone: all files show the same, before and after.
use Rattle.std.proofs.Common.{◌≡◌, ℕ, Bool, true, List, [], ◌∷◌, ◌++◌, filter, refl, sym, ap, ◌∙◌, subst, inl, inr}
use Rattle.std.specs.List.{list_all}
use Rattle.std.proofs.lemmas.Bool.{and_from}
use Rattle.std.proofs.lemmas.List.Folds.{list_all-append, list_all-map}
use Rattle.sid_core.specs.declared.call.Call.TheVariants as call
use Rattle.sid_core.specs.declared.ids.Moment.{Moment}
use Rattle.sid_core.specs.declared.ids.Spot.{Spot}
use Rattle.sid_core.specs.declared.ids.Spot.TheVariants.{OpenOf, RangesOf}
use Rattle.sid_core.specs.declared.reply.Reply.{Reply}
use Rattle.sid_core.specs.declared.setup.Setup.{Setup}
use Rattle.serial_table.specs.declared.rows.OpenRow.{OpenRow}
use Rattle.serial_table.specs.declared.rows.LeaseRow.{LeaseRow}
use Rattle.serial_table.specs.declared.table.Table.{Table}
use Rattle.serial_table.specs.declared.change.Change.{Change}
use Rattle.serial_table.specs.declared.change.Change.TheVariants as c
use Rattle.serial_table.specs.declared.decision.Caller.{Caller}
use Rattle.serial_table.specs.declared.decision.Decision.{Decision}
use Rattle.serial_table.specs.View.{View, view, lives}
use Rattle.serial_table.specs.File.{FileView, file_view}
use Rattle.serial_table.specs.Change.{perform_all}
use Rattle.serial_table.specs.Decide.{outcome}
use Rattle.serial_table.specs.Decision.{settling, spots_of, conclude}
use Rattle.serial_table.specs.Expire.{expires, expired_by}
use Rattle.serial_table.specs.Scavenge.{files_of, has_expired, all_expired, goes, scavenge}
use Rattle.serial_table.specs.Wake.{frees_opens, frees_ranges, some_frees}
use Rattle.serial_table.proofs.Concluding.{PassesFinishing, conclude_all}
use Rattle.serial_table.proofs.Expiring.{expired_all}
use Rattle.serial_table.proofs.Members.{IsIn, all_each, in_flat_map}
use Rattle.stored_table.specs.Decoded.{records_of}
use Rattle.stored_table.specs.Places.{place, value_at}
use Rattle.chain_map.specs.declared.db.Db.{Db}
use Rattle.chain_map.specs.declared.db.Db.TheVariants as db
use Rattle.table_laws.specs.ByFootprint.{IsWrittenByFootprint}
use Rattle.table_laws.specs.Standing.{call_entry}
use Rattle.table_laws.proofs.Alike.{register_behind, mail_behind}
use Rattle.table_laws.proofs.Calls.{changes_are}
use Rattle.table_laws.proofs.CallWrites.{call_written}
use Rattle.table_laws.proofs.Chains.{adds_no_open}
use Rattle.table_laws.proofs.ExpiredLeases.{all, expired_alike}
use Rattle.table_laws.proofs.FileWrites.{share_alike, ranges_alike, lease_alike}
use Rattle.table_laws.proofs.FilesAlike.{none_comes, file_alike, frees_alike}
use Rattle.table_laws.proofs.Footprints.{whole_value}
use Rattle.table_laws.proofs.PlainAnswers.{register_there}
use Rattle.table_laws.proofs.Keywise.{woken_alike, concluded_alike}
use Rattle.table_laws.proofs.ScavengeAnswers.{rows_same, all_show, show_behind, scavenged_same, everywhere}
use Rattle.table_laws.proofs.TidiedWrites.{deciding_dbs, exact_lease_same, exact_register_same, exact_mail_same}
use Rattle.table_laws.proofs.Touching.{touches}

-- ---- what a decision comes to, where all files show the same

-- each spot is one of a file
abbrev AreOfFiles : List Spot → Type 0
AreOfFiles spots = (spot : Spot) → IsIn spot spots → (file : ℕ) × IsIn spot (spots_of file)

module _ (d : Decision) (t u : Table) (shows : (file : ℕ) → file_view file (view t) ≡ file_view file (view u)) (touched : list_all (touches all) (settling d) ≡ true) (none : list_all adds_no_open (settling d) ≡ true) where
  freed : (spot : Spot) (file : ℕ) → IsIn spot (spots_of file) → some_frees (settling d) (view t) spot ≡ some_frees (settling d) (view u) spot
  freed spot file (inl is) =
      subst (λ x. some_frees (settling d) (view t) x ≡ some_frees (settling d) (view u) x) is
      (frees_alike all file (lives (view t)) (lives (view u)) (OpenOf file) (λ change f. frees_opens change file f) (λ change v. refl) (settling d) t u refl refl touched (none_comes (lives (view t)) (lives (view u)) (settling d) none) (shows file))
  freed spot file (inr (inl is)) =
      subst (λ x. some_frees (settling d) (view t) x ≡ some_frees (settling d) (view u) x) is
      (frees_alike all file (lives (view t)) (lives (view u)) (RangesOf file) (λ change f. frees_ranges change file f) (λ change v. refl) (settling d) t u refl refl touched (none_comes (lives (view t)) (lives (view u)) (settling d) none) (shows file))
  freed spot file (inr (inr is)) = absurd is

  watched : (spot : Spot) (file : ℕ) → IsIn spot (spots_of file) → (view t).watches_on spot ≡ (view u).watches_on spot
  watched spot file (inl is) = subst (λ x. (view t).watches_on x ≡ (view u).watches_on x) is (ap (λ (f : FileView). f.open_watches) (shows file))
  watched spot file (inr (inl is)) = subst (λ x. (view t).watches_on x ≡ (view u).watches_on x) is (ap (λ (f : FileView). f.range_watches) (shows file))
  watched spot file (inr (inr is)) = absurd is

  all_concluded : AreOfFiles d.spots → (conclude (view t) d).changes ≡ (conclude (view u) d).changes
  all_concluded own = concluded_alike (view t) (view u) d (woken_alike (view t) (view u) d (λ spot i. let f = own spot i in freed spot f.0 f.1) (λ spot i. let f = own spot i in watched spot f.0 f.1))

-- ---- `scavenge`

-- its changes pass a test that the dropping of opens passes, and settling
module _ (p : Change → Bool) (drops : (row : OpenRow) → p (goes row) ≡ true) (settles : p c.Settle ≡ true) (setup : Setup) (v : View) (caller : Caller) where
  all_go : list_all p (scavenge setup v caller).changes ≡ true
  unfolding scavenge
  all_go = let rows = all_expired setup v caller.moment in list_all-map p goes rows ∙ all_each (λ (row : OpenRow). p (goes row)) rows (λ row i. drops row)

  all_settle : list_all p (settling (scavenge setup v caller)) ≡ true
  all_settle = list_all-append p (scavenge setup v caller).changes (c.Settle ∷ []) ∙ and_from (list_all p (scavenge setup v caller).changes) _ all_go (and_from (p c.Settle) true settles refl)

scavenged_spots : (setup : Setup) (v : View) (caller : Caller) → AreOfFiles (scavenge setup v caller).spots
unfolding scavenge
scavenged_spots setup v caller spot i = let f = in_flat_map spots_of (filter (has_expired v caller.moment) (files_of setup)) spot i in (f.0, f.2)

abbrev changes_at : Setup → Caller → Table → List Change
changes_at setup caller x = (outcome setup (view x) caller call.Scavenge).changes

changes_pass : (p : Change → Bool) → ((row : OpenRow) → p (goes row) ≡ true) → ((l : LeaseRow) → p (expires l) ≡ true) → p c.Settle ≡ true → PassesFinishing p → (setup : Setup) (caller : Caller) (x : Table) → list_all p (outcome setup (view x) caller call.Scavenge).changes ≡ true
changes_pass p drops expire settles finishes setup caller x =
    let first = expired_by setup (view x) caller call.Scavenge in
    let b = perform_all first x in
    ap (list_all p) (changes_are setup x caller call.Scavenge)
    ∙ list_all-append p first (conclude (view b) (scavenge setup (view b) caller)).changes
    ∙ and_from (list_all p first) _ (expired_all p expire settles setup (view x) caller call.Scavenge)
    (conclude_all p finishes settles (view b) (scavenge setup (view b) caller) (all_go p drops settles setup (view b) caller))

-- the records that decide what counts are in the footprint
of_footprint : (d : Db) → IsIn d deciding_dbs → IsIn d (db.Locking ∷ db.Leases ∷ db.Register ∷ db.Brlock ∷ db.Mailbox ∷ [])
of_footprint d (inl e) = inl e
of_footprint d (inr (inl e)) = inr (inl e)
of_footprint d (inr (inr (inl e))) = inr (inr (inl e))
of_footprint d (inr (inr (inr (inl e)))) = inr (inr (inr (inr (inl e))))
of_footprint d (inr (inr (inr (inr e)))) = absurd e

module _ (setup : Setup) (n by seq number : ℕ) (moment : Moment) (reply : Reply) where
  pub scavenge_written : IsWrittenByFootprint setup n (call_entry by seq number moment call.Scavenge reply)
  scavenge_written =
      call_written setup n by seq number moment call.Scavenge reply (λ x t info session stands alive. register_there setup n by seq number moment reply x t info.pid session stands alive) (λ x. refl) (λ k j t u caller info b.
      let s = records_of setup n k in
      let z = records_of setup n j in
      let chains = b.stands.well_formed.chains in
      let same = everywhere setup n by seq number moment reply k j chains b.agree in
      let shows = all_show setup s z same t u b.stands.agree b.stands_other.agree b.fine b.fine_other b.settled b.settled_other caller in
      let first = expired_alike setup caller call.Scavenge t u (rows_same setup s z same t u b.stands.agree b.stands_other.agree b.fine b.fine_other b.settled b.settled_other caller) in
      let x = perform_all (expired_by setup (view t) caller call.Scavenge) t in
      let y = perform_all (expired_by setup (view u) caller call.Scavenge) u in
      let decision = scavenge setup (view x) caller in
      let later : (conclude (view x) (scavenge setup (view x) caller)).changes ≡ (conclude (view y) (scavenge setup (view y) caller)).changes =
      all_concluded decision x y (show_behind setup s z same t u b.stands.agree b.stands_other.agree b.fine b.fine_other b.settled b.settled_other caller)
      (all_settle (touches all) (λ row. refl) refl setup (view x) caller) (all_settle adds_no_open (λ row. refl) refl setup (view x) caller) (scavenged_spots setup (view x) caller)
      ∙ ap (λ q. (conclude (view y) q).changes) (scavenged_same setup s z same t u b.stands.agree b.stands_other.agree b.fine b.fine_other b.settled b.settled_other caller) in
      let cs = changes_at setup caller t in
      let shows_after : (file : ℕ) → file_view file (view (perform_all cs t)) ≡ file_view file (view (perform_all cs u)) =
      λ file. file_alike all file (lives (view t)) (lives (view u)) cs t u refl refl
      (changes_pass (touches all) (λ row. refl) (λ l. refl) refl (record { comes = λ w. refl; goes = λ sid call. refl; sent = λ post. refl }) setup caller t)
      (none_comes (lives (view t)) (lives (view u)) cs (changes_pass adds_no_open (λ row. refl) (λ l. refl) refl (record { comes = λ w. refl; goes = λ sid call. refl; sent = λ post. refl }) setup caller t)) (shows file) in
      let values = whole_value setup n k j (call_entry by seq number moment call.Scavenge reply) chains b.agree in
      let deciding : (d : Db) → IsIn d deciding_dbs → (key : List ℕ) → value_at n k (place d key) ≡ value_at n j (place d key) = λ d i. values d (of_footprint d i) in
      record {
        changes = changes_are setup t caller call.Scavenge ∙ (λ i. first i ++ later i) ∙ sym (changes_are setup u caller call.Scavenge);
        exact = λ sound sound_other. record {
          locks = λ key i. absurd i;
          shares = λ file i. share_alike setup (view (perform_all cs t)) (view (perform_all cs u)) file (shows_after file);
          leases = λ name i.
              lease_alike t u (perform_all cs t) (perform_all cs u) b.fine.sound b.fine_other.sound sound sound_other (λ file. inl (shows_after file)) name
              (exact_lease_same setup n k j t u b.stands b.stands_other b.fine b.fine_other deciding name);
          register = λ pid i. register_behind setup cs t u b.fine b.fine_other sound sound_other pid (exact_register_same setup n k j t u b.stands b.stands_other b.fine b.fine_other deciding pid);
          ranges = λ file i. ranges_alike setup (view (perform_all cs t)) (view (perform_all cs u)) file (shows_after file);
          mail = λ pid i. mail_behind setup cs t u b.fine b.fine_other sound sound_other pid (exact_mail_same setup n k j t u b.stands b.stands_other b.fine b.fine_other deciding pid);
        };
        opens = λ key i. absurd i;
      })
