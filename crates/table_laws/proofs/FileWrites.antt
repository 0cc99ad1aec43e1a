-- What is met of files, of leases, of locks and of workers is the same in two databases that agree on a footprint; and what is then written of
-- it is the same, where the same changes are made.
use Rattle.std.proofs.Common.{◌≡◌, ℕ, Bool, true, false, cond, ◌==◌, ◌&&◌, List, [], ◌∷◌, map, filter, Option, Some, None, refl, sym, ap, ◌∙◌, subst, inl, inr, ◌⊎◌}
use Rattle.std.specs.Prelude.{IfSome}
use Rattle.std.specs.List.{AllByRecursion, list_all}
use Rattle.std.specs.Option.{option_and_then}
use Rattle.std.proofs.lemmas.Bool.{and_parts, eqb-true, eq-eqb}
use Rattle.sid_core.specs.declared.ids.LeaseName.{LeaseName}
use Rattle.sid_core.specs.declared.setup.FileInfo.{FileInfo}
use Rattle.sid_core.specs.declared.setup.Setup.{Setup}
use Rattle.serial_table.specs.ByNumber.{declared_at}
use Rattle.serial_table.specs.declared.rows.LeaseRow.{LeaseRow}
use Rattle.serial_table.specs.declared.rows.OpenRow.{OpenRow}
use Rattle.serial_table.specs.declared.table.Table.{Table}
use Rattle.serial_table.specs.declared.change.Change.{Change}
use Rattle.serial_table.specs.View.{View, view, lives, carries, has_id, leases_at}
use Rattle.serial_table.specs.File.{file_view}
use Rattle.serial_table.specs.Change.{perform, perform_all}
use Rattle.serial_table.specs.Settle.{settle}
use Rattle.serial_table.specs.Sound.{IsSound}
use Rattle.serial_table.proofs.Members.{IsIn, all_of, in_filter, mapped_in, old_in, passes_in, some_same}
use Rattle.serial_table.proofs.Settled.{IsSettled, files_settled}
use Rattle.chain_map.specs.declared.db.Db.TheVariants as db
use Rattle.record_codec.specs.declared.lease_rec.LeaseRec.{LeaseRec}
use Rattle.record_codec.specs.declared.lease_rec.LeaseRef.{LeaseRef}
use Rattle.record_codec.specs.declared.open_rec.OpenRec.{OpenRec}
use Rattle.record_codec.specs.Counts.{settled_lease}
use Rattle.record_codec.specs.OpenRec.{open_rec}
use Rattle.record_rows.specs.Rows.{entry_of, item_of, ref_of, watch_of}
use Rattle.stored_table.specs.Keys.{is_key, file_key, lock_key, name_key, pid_key}
use Rattle.stored_table.specs.Places.{Chains, Place, place, same_place, among, value_at}
use Rattle.stored_table.specs.Decoded.{AllRecords, deciding, decoded, records_of}
use Rattle.stored_table.specs.Exact.{is_empty, share_record, exact_share, range_record, exact_ranges, exact_lock, lease_with, lease_record, opens_under, lease_of, exact_lease, exact_register, exact_mail}
use Rattle.stored_table.specs.Met.{KeyList, Met, met_by_files, all_met, exact_places, places_in, record_at}
use Rattle.stored_table.specs.Move.{AddedOpen, if_open, still_open, new_open_record}
use Rattle.stored_table.specs.Stands.{StandsFor}
use Rattle.stored_table.proofs.Telling.{file_tells}
use Rattle.table_laws.specs.Standing.{NameTheirFiles}
use Rattle.table_laws.proofs.Alike.{lock_behind, mail_behind, option_ext, register_behind}
use Rattle.table_laws.proofs.Chains.{IsFine}
use Rattle.table_laws.proofs.Contained.{SameFile}
use Rattle.table_laws.proofs.Exactly.{file_back, single}
use Rattle.table_laws.proofs.FilesAlike.{ComesAlike, file_alike}
use Rattle.table_laws.proofs.Footprints.{file_same, lease_same, lock_same, mail_same, worker_same}
use Rattle.table_laws.proofs.Meets.{is_among}
use Rattle.table_laws.proofs.PlainAnswers.{exact_same}
use Rattle.table_laws.proofs.SameFiles.{AreOfFile, file_opens_same, rows_same}
use Rattle.table_laws.proofs.Showing.{clean_register_same, settled_same, shown_same}
use Rattle.table_laws.proofs.Touching.{touches, file_stays, same_refl, same_then, stays_settled}
use Rattle.table_laws.proofs.Written.{AlikeAt}

-- ---- the exact records of a file that shows the same

module _ (setup : Setup) (v w : View) (file : ℕ) (same : file_view file v ≡ file_view file w) where
  pub share_alike : exact_share setup v file ≡ exact_share setup w file
  share_alike = λ i. option_and_then (λ (info : FileInfo). share_record file info (same i).pending (map entry_of (file_opens_same file v w same i)) (map watch_of (same i).open_watches)) (declared_at setup.files file)

  pub ranges_alike : exact_ranges setup v file ≡ exact_ranges setup w file
  ranges_alike = λ i. option_and_then (λ (info : FileInfo). range_record file (map item_of (same i).ranges) (map watch_of (same i).range_watches)) (declared_at setup.files file)

-- ---- the exact record of a lease, by its file

-- the record of the first of these leases, with those of these opens that carry the name
abbrev lease_by : LeaseName → List OpenRow → List LeaseRow → Option LeaseRec
lease_by name os [] = None
lease_by name os (l ∷ ls) = lease_record l (map ref_of (filter (λ (o : OpenRow). carries name o.lease) os))

-- of the leases of this file
abbrev lease_in : View → LeaseName → ℕ → Option LeaseRec
lease_in v name file = lease_by name (v.opens_of file) (leases_at v name file)

record_file : (l : LeaseRow) (refs : List LeaseRef) (r : LeaseRec) → lease_record l refs ≡ Some r → r.file ≡ l.file
record_file l [] r e = absurd cc
record_file l (ref ∷ refs) r e = ap (λ (x : LeaseRec). x.file) (sym (some_same (lease_with l l.breaking (ref ∷ refs)) r e)) ∙ file_back l l.breaking (ref ∷ refs)

module _ (t : Table) (sound : IsSound t) (name : LeaseName) (r : LeaseRec) where
  to_file : exact_lease (view t) name ≡ Some r → lease_in (view t) name r.file ≡ Some r
  to_file = by ((view t).leases_of name) refl
    where
      by : (ls : List LeaseRow) → (view t).leases_of name ≡ ls → lease_of (view t) name ls ≡ Some r → lease_in (view t) name r.file ≡ Some r
      by [] e is = absurd cc
      by (l ∷ ls) e is =
          let one : (view t).leases_of name ≡ l ∷ [] = single t sound name l (subst (IsIn l) (sym e) (inl refl)) in
          let at : leases_at (view t) name l.file ≡ l ∷ [] = ap (filter (λ (x : LeaseRow). x.file == l.file)) one ∙ ap (λ b. cond b (l ∷ []) []) (eq-eqb l.file l.file refl) in
          subst (λ f. lease_in (view t) name f ≡ Some r) (sym (record_file l (map ref_of (opens_under (view t) name l.file)) r is)) (ap (lease_by name ((view t).opens_of l.file)) at ∙ is)

  from_file : (file : ℕ) → lease_in (view t) name file ≡ Some r → exact_lease (view t) name ≡ Some r
  from_file file = by (leases_at (view t) name file) refl
    where
      by : (ls : List LeaseRow) → leases_at (view t) name file ≡ ls → lease_by name ((view t).opens_of file) ls ≡ Some r → exact_lease (view t) name ≡ Some r
      by [] e is = absurd cc
      by (l ∷ ls) e is =
          let at = in_filter (λ (x : LeaseRow). x.file == file) ((view t).leases_of name) l (subst (IsIn l) (sym e) (inl refl)) in
          ap (lease_of (view t) name) (single t sound name l at.0)
          ∙ ap (λ f. lease_record l (map ref_of (opens_under (view t) name f))) (eqb-true l.file file at.1) ∙ is

-- Two tables, and those after them: each file is left alone after both, or shows the same after both.
abbrev pub LeftOrAlike : Table → Table → Table → Table → ℕ → Type 0
LeftOrAlike t u after_t after_u file = (file_view file (view after_t) ≡ file_view file (view after_u)) ⊎ (SameFile file (view t) (view after_t) × SameFile file (view u) (view after_u))

half : (t u after_t after_u : Table) → IsSound t → IsSound u → IsSound after_t → IsSound after_u → ((file : ℕ) → LeftOrAlike t u after_t after_u file) → (name : LeaseName) → exact_lease (view t) name ≡ exact_lease (view u) name
    → (r : LeaseRec) → exact_lease (view after_t) name ≡ Some r → exact_lease (view after_u) name ≡ Some r
half t u after_t after_u sound sound_other sound_t sound_u files name before r is = by (files r.file)
  where
    by : LeftOrAlike t u after_t after_u r.file → exact_lease (view after_u) name ≡ Some r
    by (inl same) =
        from_file after_u sound_u name r r.file
        (sym (λ i. lease_by name (file_opens_same r.file (view after_t) (view after_u) same i) ((same i).leases name)) ∙ to_file after_t sound_t name r is)
    by (inr (a, b)) =
        let was : lease_in (view t) name r.file ≡ Some r = sym (λ i. lease_by name (a.opens i) (a.leases name i)) ∙ to_file after_t sound_t name r is in
        let other : lease_in (view u) name r.file ≡ Some r = to_file u sound_other name r (sym before ∙ from_file t sound name r r.file was) in
        from_file after_u sound_u name r r.file ((λ i. lease_by name (b.opens i) (b.leases name i)) ∙ other)

-- so the exact record of a lease is the same after both where it was the same before
pub lease_alike : (t u after_t after_u : Table) → IsSound t → IsSound u → IsSound after_t → IsSound after_u → ((file : ℕ) → LeftOrAlike t u after_t after_u file) → (name : LeaseName)
    → exact_lease (view t) name ≡ exact_lease (view u) name → exact_lease (view after_t) name ≡ exact_lease (view after_u) name
lease_alike t u after_t after_u sound sound_other sound_t sound_u files name before =
    option_ext (exact_lease (view after_t) name) (exact_lease (view after_u) name)
    (half t u after_t after_u sound sound_other sound_t sound_u files name before)
    (half u t after_u after_t sound_other sound sound_u sound_t (λ file. turned file (files file)) name (sym before))
  where
    turned : (file : ℕ) → LeftOrAlike t u after_t after_u file → LeftOrAlike u t after_u after_t file
    turned file (inl same) = inl (sym same)
    turned file (inr (a, b)) = inr (b, a)

-- a file that such changes don't touch is left alone
pub file_left : (here : ℕ → Bool) (file : ℕ) → here file ≡ false → (cs : List Change) (t : Table) → list_all (touches here) cs ≡ true → IsSettled t file → SameFile file (view t) (view (perform_all cs t))
file_left here file out [] t e s = same_refl file t
file_left here file out (change ∷ cs) t e s =
    let both = and_parts (touches here change) (list_all (touches here) cs) e in
    same_then file t (perform change t) (perform_all cs (perform change t)) (file_stays here file out change t both.0 s)
    (file_left here file out cs (perform change t) both.1 (stays_settled here file out change t both.0 s))

-- ---- open records that stay or go

pub still_alike : (v w : View) (value : Option (List ℕ)) → ((r : OpenRec) → decoded open_rec value ≡ Some r → v.opens_of_id r.id ≡ w.opens_of_id r.id) → still_open v value ≡ still_open w value
still_alike v w None h = refl
still_alike v w (Some bytes) h = by (decoded open_rec (Some bytes)) h
  where
    by : (o : Option OpenRec) → ((r : OpenRec) → o ≡ Some r → v.opens_of_id r.id ≡ w.opens_of_id r.id) → option_and_then (if_open v bytes) o ≡ option_and_then (if_open w bytes) o
    by None h = refl
    by (Some r) h = ap (λ os. cond (is_empty os) None (Some bytes)) (h r refl)

-- where the entry adds the same record
pub new_alike : (v w : View) (a : Option AddedOpen) (p : Place) (x y : Option (List ℕ)) → still_open v x ≡ still_open w y → new_open_record v a p x ≡ new_open_record w a p y
new_alike v w None p x y e = e
new_alike v w (Some a) p x y e = ap (cond (is_key db.Opens a.key && same_place (place db.Opens a.key) p) (Some (open_rec.spell (1, a.value)))) e

-- an open with the id of a record is of the file that the record names
pub of_named_file : (n : ℕ) (k : Chains) (t : Table) → NameTheirFiles n k (view t) → (key : List ℕ) (r : OpenRec) → record_at open_rec n k db.Opens key ≡ Some r → AreOfFile (has_id r.id) r.file t
of_named_file n k t names key r is o i e =
    all_of (λ (x : OpenRow). x.file ≡ r.file) ((view t).opens_of_id r.id)
    (subst (λ q. IfSome q (λ (y : OpenRec). AllByRecursion (λ (x : OpenRow). x.file ≡ y.file) ((view t).opens_of_id y.id))) is (names key)) o (passes_in (has_id r.id) t.opens o i e)

-- ---- what is met, before and after

module _ (setup : Setup) (n : ℕ) (k j : Chains) (t u : Table) (stands : StandsFor setup n k (view t)) (stands_other : StandsFor setup n j (view u)) (fine : IsFine setup t) (fine_other : IsFine setup u)
    (opens locks files names own : KeyList) (same : (p : Place) → among p (all_met (met_by_files n k opens locks files names own)) ≡ true → value_at n k p ≡ value_at n j p) where
  abbrev m : Met
  m = met_by_files n k opens locks files names own

  abbrev s : AllRecords
  s = records_of setup n k

  abbrev z : AllRecords
  z = records_of setup n j

  pub register_before : (pid : ℕ) → IsIn (pid_key pid) m.register → exact_register (view t) pid ≡ exact_register (view u) pid
  register_before pid i = sym (stands.agree.register pid) ∙ clean_register_same s z pid (worker_same setup n k j opens locks files names own same pid i) ∙ stands_other.agree.register pid

  pub mail_before : (pid : ℕ) → IsIn (pid_key pid) m.mail → exact_mail (view t) pid ≡ exact_mail (view u) pid
  mail_before pid i = sym (stands.agree.mail pid) ∙ mail_same setup n k j opens locks files names own same pid i ∙ stands_other.agree.mail pid

  lock_before : (key : ℕ) → IsIn (lock_key key) locks → exact_lock (view t) key ≡ exact_lock (view u) key
  lock_before key i = exact_same setup n k j key (lock_same setup n k j opens locks files names own same key i) t u stands stands_other

  pub file_before : (file : ℕ) → IsIn (file_key setup file) files → file_view file (view t) ≡ file_view file (view u)
  file_before file i =
      sym (file_tells setup s t stands.agree fine.sets fine.sound file)
      ∙ shown_same s z file (file_same setup n k j opens locks files names own same file i)
      ∙ file_tells setup z u stands_other.agree fine_other.sets fine_other.sound file

  pub lease_before : (name : LeaseName) → IsIn (name_key name) m.leases → exact_lease (view t) name ≡ exact_lease (view u) name
  lease_before name i =
      let both = lease_same setup n k j opens locks files names own same name i in
      sym (stands.agree.leases name)
      ∙ settled_same s z (s.leases name) both.1
      ∙ ap (option_and_then (settled_lease (deciding z))) both.0
      ∙ stands_other.agree.leases name

  -- The tables after it, where met files show the same.
  module _ (after_t after_u : Table) (shown : (file : ℕ) → IsIn (file_key setup file) files → file_view file (view after_t) ≡ file_view file (view after_u)) where
    -- What a met open record becomes, where opens of its id are of the file that it names, and that file is met.
    pub open_alike : (key : List ℕ) → IsIn key opens
        → ((r : OpenRec) → record_at open_rec n k db.Opens key ≡ Some r → IsIn (file_key setup r.file) files × AreOfFile (has_id r.id) r.file after_t × AreOfFile (has_id r.id) r.file after_u)
        → still_open (view after_t) (value_at n k (place db.Opens key)) ≡ still_open (view after_u) (value_at n j (place db.Opens key))
    open_alike key i h =
        let p = place db.Opens key in
        still_alike (view after_t) (view after_u) (value_at n k p) (λ r is. let own = h r is in rows_same (has_id r.id) r.file after_t after_u own.1 own.2 (shown r.file own.0))
        ∙ ap (still_open (view after_u)) (same p (is_among p (all_met m) (old_in (places_in db.Opens m.opens) (exact_places m) p (mapped_in (place db.Opens) m.opens key i))))

  -- behind the same changes
  module _ (cs : List Change) (sound : IsSound (perform_all cs t)) (sound_other : IsSound (perform_all cs u))
      (shown : (file : ℕ) → IsIn (file_key setup file) files → file_view file (view (perform_all cs t)) ≡ file_view file (view (perform_all cs u)))
      (leases : (name : LeaseName) → IsIn (name_key name) m.leases → exact_lease (view (perform_all cs t)) name ≡ exact_lease (view (perform_all cs u)) name) where
    pub records_alike : AlikeAt setup (met_by_files n k opens locks files names own) (view (perform_all cs t)) (view (perform_all cs u))
    records_alike = record {
      locks = λ key i. lock_behind setup cs t u fine fine_other sound sound_other key (lock_before key i);
      shares = λ file i. share_alike setup (view (perform_all cs t)) (view (perform_all cs u)) file (shown file i);
      leases = leases;
      register = λ pid i. register_behind setup cs t u fine fine_other sound sound_other pid (register_before pid i);
      ranges = λ file i. ranges_alike setup (view (perform_all cs t)) (view (perform_all cs u)) file (shown file i);
      mail = λ pid i. mail_behind setup cs t u fine fine_other sound sound_other pid (mail_before pid i);
    }

  -- Behind the same changes, of files whose keys are met: at both tables, which are settled.
  module _ (cs : List Change) (here here_other : ℕ → Bool) (met_here : (file : ℕ) → here file ≡ true → IsIn (file_key setup file) files) (met_other : (file : ℕ) → here_other file ≡ true → IsIn (file_key setup file) files)
      (settled : settle t ≡ t) (settled_other : settle u ≡ u) (touched : list_all (touches here) cs ≡ true) (touched_other : list_all (touches here_other) cs ≡ true)
      (comes : AllByRecursion (ComesAlike (lives (view t)) (lives (view u))) cs) where
    pub files_shown : (file : ℕ) → IsIn (file_key setup file) files → file_view file (view (perform_all cs t)) ≡ file_view file (view (perform_all cs u))
    files_shown file i = file_alike here file (lives (view t)) (lives (view u)) cs t u refl refl touched comes (file_before file i)

    left_or_alike : (file : ℕ) → LeftOrAlike t u (perform_all cs t) (perform_all cs u) file
    left_or_alike file = by (here file) (here_other file) refl refl
      where
        by : (b d : Bool) → here file ≡ b → here_other file ≡ d → LeftOrAlike t u (perform_all cs t) (perform_all cs u) file
        by true d e f = inl (files_shown file (met_here file e))
        by false true e f = inl (files_shown file (met_other file f))
        by false false e f = inr (
          file_left here file e cs t touched (files_settled t settled file),
          file_left here_other file f cs u touched_other (files_settled u settled_other file),
        )

    pub files_alike : IsSound (perform_all cs t) → IsSound (perform_all cs u) → AlikeAt setup (met_by_files n k opens locks files names own) (view (perform_all cs t)) (view (perform_all cs u))
    files_alike sound sound_other =
        records_alike cs sound sound_other files_shown (λ name i.
        lease_alike t u (perform_all cs t) (perform_all cs u) fine.sound fine_other.sound sound sound_other left_or_alike name (lease_before name i))
