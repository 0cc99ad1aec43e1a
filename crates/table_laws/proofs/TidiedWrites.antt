-- What a tidied chain writes goes by the chains of its footprint alone: all records that decide what counts are in it.
use Rattle.std.proofs.Common.{◌≡◌, ℕ, Bool, true, false, cond, not, ◌||◌, ◌/◌, List, [], ◌∷◌, ◌++◌, map, filter, Option, Some, None, refl, sym, ap, ◌∙◌, subst, inl, inr}
use Rattle.std.specs.List.{AllByRecursion, list_any, flat_map}
use Rattle.std.specs.Option.{option_map, option_and_then}
use Rattle.std.proofs.lemmas.Bool.{eq-eqb}
use Rattle.sid_core.specs.declared.entry.Entry.{Entry}
use Rattle.sid_core.specs.declared.entry.Event.TheVariants.{Tidied}
use Rattle.sid_core.specs.declared.ids.LeaseName.{LeaseName}
use Rattle.sid_core.specs.declared.ids.OpenId.{OpenId}
use Rattle.sid_core.specs.declared.setup.Setup.{Setup}
use Rattle.sid_core.specs.Ids.{same_id}
use Rattle.serial_table.specs.declared.table.Table.{Table}
use Rattle.serial_table.specs.ByNumber.{declared_at}
use Rattle.serial_table.specs.View.{view, has_id, is_of_file}
use Rattle.serial_table.specs.History.{start, after}
use Rattle.serial_table.proofs.Alike.{after_all-append}
use Rattle.serial_table.proofs.Members.{IsIn, all_of, any_of, in_filter, in_map, mapped_in, one_of, passes_in}
use Rattle.chain_map.specs.declared.db.Db.{Db}
use Rattle.chain_map.specs.declared.db.Db.TheVariants as db
use Rattle.chain_map.specs.Pairs.{find}
use Rattle.record_codec.specs.declared.open_rec.OpenRec.{OpenRec}
use Rattle.record_codec.specs.declared.share_rec.ShareRec.{ShareRec}
use Rattle.record_codec.specs.declared.share_rec.ShareEntry.{ShareEntry}
use Rattle.record_codec.specs.Counts.{settled_lease}
use Rattle.record_codec.specs.OpenRec.{open_rec}
use Rattle.record_codec.specs.GLockRec.{glock_rec}
use Rattle.record_codec.specs.ShareRec.{share_rec}
use Rattle.record_codec.specs.LeaseRec.{lease_rec}
use Rattle.record_codec.specs.RegisterRec.{register_rec}
use Rattle.record_codec.specs.RangeRec.{range_rec}
use Rattle.record_codec.specs.MailRec.{mail_rec}
use Rattle.record_rows.specs.Rows.{entry_of}
use Rattle.stored_table.specs.Keys.{file_key, lock_key, name_key, pid_key}
use Rattle.stored_table.specs.Places.{Chains, place, chain_of, chain_at, value_at}
use Rattle.stored_table.specs.Decoded.{AllRecords, deciding, decoded, records_of}
use Rattle.stored_table.specs.Exact.{is_empty, exact_lease, exact_share, exact_register, exact_mail}
use Rattle.stored_table.specs.Footprint.{whole_of, footprint}
use Rattle.stored_table.specs.Histories.{moved_by}
use Rattle.stored_table.specs.Met.{KeyList, keys_at, places_in, chains_in}
use Rattle.stored_table.specs.Move.{if_open, still_open, db_of_number, move, places_at}
use Rattle.stored_table.specs.Shown.{part_of}
use Rattle.stored_table.specs.Stands.{IsPlaced, LookAlike, StandsFor, clean_lock, clean_register, clean_ranges, clean_share}
use Rattle.stored_table.proofs.Locality.{all_placed, moves_alike}
use Rattle.stored_table.proofs.Telling.{entries_exact, no_opens}
use Rattle.table_laws.specs.ByFootprint.{IsWrittenByFootprint}
use Rattle.table_laws.proofs.Lists.{all_mapped, same_test}
use Rattle.table_laws.proofs.Chains.{IsFine}
use Rattle.table_laws.proofs.Footprints.{at_chain, whole_value}
use Rattle.table_laws.proofs.Landing.{before_entry}
use Rattle.table_laws.proofs.Meets.{later_in}
use Rattle.table_laws.proofs.Written.{AlikeAt, places_all, at_lock, at_share, at_lease, at_register, at_ranges, at_mail}

-- ---- open records

none_passes : {X : Type 0} (p : X → Bool) (xs : List X) → is_empty (filter p xs) ≡ not (list_any p xs)
none_passes p [] = refl
none_passes p (x ∷ xs) = by (p x) (none_passes p xs)
  where
    by : (b : Bool) → is_empty (filter p xs) ≡ not (list_any p xs) → is_empty (cond b (x ∷ filter p xs) (filter p xs)) ≡ not (b || list_any p xs)
    by true e = refl
    by false e = e

-- an open of one table, by its id in the other, where the entries of each file are the same
open_there : (t u : Table) → ((file : ℕ) → map entry_of ((view t).opens_of file) ≡ map entry_of ((view u).opens_of file)) → (id : OpenId) → list_any (has_id id) t.opens ≡ true → list_any (has_id id) u.opens ≡ true
open_there t u same id e =
    let o = one_of (has_id id) t.opens e in
    let file = o.0.file in
    let here : IsIn o.0 ((view t).opens_of file) = passes_in (is_of_file file) t.opens o.0 o.1 (eq-eqb file file refl) in
    let x = in_map entry_of ((view u).opens_of file) (entry_of o.0) (subst (IsIn (entry_of o.0)) (same file) (mapped_in entry_of ((view t).opens_of file) o.0 here)) in
    any_of (has_id id) u.opens x.0 (in_filter (is_of_file file) u.opens x.0 x.1).0 (ap (λ (r : ShareEntry). same_id r.id id) x.2 ∙ o.2)

still_same : (t u : Table) → ((file : ℕ) → map entry_of ((view t).opens_of file) ≡ map entry_of ((view u).opens_of file)) → (value : Option (List ℕ)) → still_open (view t) value ≡ still_open (view u) value
still_same t u same None = refl
still_same t u same (Some bytes) = by (decoded open_rec (Some bytes))
  where
    by : (o : Option OpenRec) → option_and_then (if_open (view t) bytes) o ≡ option_and_then (if_open (view u) bytes) o
    by None = refl
    by (Some r) =
        ap (λ b. cond b None (Some bytes))
        (none_passes (has_id r.id) t.opens
        ∙ ap not (same_test (list_any (has_id r.id) t.opens) (list_any (has_id r.id) u.opens) (open_there t u same r.id) (open_there u t (λ file. sym (same file)) r.id))
        ∙ sym (none_passes (has_id r.id) u.opens))

-- ---- two tables

abbrev pub deciding_dbs : List Db
deciding_dbs = db.Locking ∷ db.Leases ∷ db.Register ∷ db.Mailbox ∷ []

module _ (setup : Setup) (n : ℕ) (k j : Chains) (t u : Table) (stands : StandsFor setup n k (view t)) (stands_other : StandsFor setup n j (view u)) (fine : IsFine setup t) (fine_other : IsFine setup u)
    (same : (d : Db) → IsIn d deciding_dbs → (key : List ℕ) → value_at n k (place d key) ≡ value_at n j (place d key)) where
  abbrev s : AllRecords
  s = records_of setup n k

  abbrev z : AllRecords
  z = records_of setup n j

  leases_same : (name : LeaseName) → s.leases name ≡ z.leases name
  leases_same name = ap (decoded lease_rec) (same db.Leases (inr (inl refl)) (name_key name))

  shares_same : (file : ℕ) → s.shares file ≡ z.shares file
  shares_same file = ap (decoded share_rec) (same db.Locking (inl refl) (file_key setup file))

  register_same : (pid : ℕ) → s.register pid ≡ z.register pid
  register_same pid = ap (decoded register_rec) (same db.Register (inr (inr (inl refl))) (pid_key pid))

  mail_same : (pid : ℕ) → s.mail pid ≡ z.mail pid
  mail_same pid = ap (decoded mail_rec) (same db.Mailbox (inr (inr (inr (inl refl)))) (pid_key pid))

  counts_same : deciding s ≡ deciding z
  counts_same = λ i. record { register = λ pid. register_same pid i; mail = λ pid. mail_same pid i; lease = λ name. leases_same name i; share = λ file. shares_same file i }

  pub exact_register_same : (pid : ℕ) → exact_register (view t) pid ≡ exact_register (view u) pid
  exact_register_same pid = sym (stands.agree.register pid) ∙ (λ i. option_map (clean_register (counts_same i)) (register_same pid i)) ∙ stands_other.agree.register pid

  pub exact_mail_same : (pid : ℕ) → exact_mail (view t) pid ≡ exact_mail (view u) pid
  exact_mail_same pid = sym (stands.agree.mail pid) ∙ mail_same pid ∙ stands_other.agree.mail pid

  pub exact_lease_same : (name : LeaseName) → exact_lease (view t) name ≡ exact_lease (view u) name
  exact_lease_same name = sym (stands.agree.leases name) ∙ (λ i. option_and_then (settled_lease (counts_same i)) (leases_same name i)) ∙ stands_other.agree.leases name

  exact_share_same : (file : ℕ) → exact_share setup (view t) file ≡ exact_share setup (view u) file
  exact_share_same file = sym (stands.agree.shares file) ∙ (λ i. option_and_then (clean_share (counts_same i) file) (shares_same file i)) ∙ stands_other.agree.shares file

  alike : (locks ranges : KeyList) → ((key : ℕ) → IsIn (lock_key key) locks → s.locks key ≡ z.locks key) → ((file : ℕ) → IsIn (file_key setup file) ranges → s.ranges file ≡ z.ranges file)
      → (keys : KeyList) → AlikeAt setup (record { opens = []; locks = locks; shares = keys; leases = keys; register = keys; ranges = ranges; mail = keys }) (view t) (view u)
  alike locks ranges lock range keys = record {
    locks = λ key h. sym (stands.agree.locks key) ∙ (λ i. option_and_then (clean_lock (counts_same i) key) (lock key h i)) ∙ stands_other.agree.locks key;
    shares = λ file h. exact_share_same file;
    leases = λ name h. exact_lease_same name;
    register = λ pid h. exact_register_same pid;
    ranges = λ file h. sym (stands.agree.ranges file) ∙ (λ i. option_and_then (clean_ranges (counts_same i) file) (range file h i)) ∙ stands_other.agree.ranges file;
    mail = λ pid h. exact_mail_same pid;
  }

  entries_same : (file : ℕ) → map entry_of ((view t).opens_of file) ≡ map entry_of ((view u).opens_of file)
  entries_same file =
      sym (entries_exact (view t) file (declared_at setup.files file) (no_opens setup s t stands.agree fine.sets fine.sound file))
      ∙ ap (part_of (λ (x : ShareRec). x.entries)) (exact_share_same file)
      ∙ entries_exact (view u) file (declared_at setup.files file) (no_opens setup z u stands_other.agree fine_other.sets fine_other.sound file)

  -- at some keys of a database, where the records are the same
  look_alike : (d : Db) (keys : KeyList) → ((key : List ℕ) → IsIn key keys → value_at n k (place d key) ≡ value_at n j (place d key)) → AllByRecursion (LookAlike setup false (view t) (view u)) (places_in d keys)
  look_alike db.Opens keys h = places_all (LookAlike setup false (view t) (view u)) db.Opens keys (λ key i. still_same t u entries_same)
  look_alike db.GLock keys h =
      places_all (LookAlike setup false (view t) (view u)) db.GLock keys (at_lock setup false _ (view t) (view u) (alike keys [] (λ key i. ap (decoded glock_rec) (h (lock_key key) i)) (λ file i. absurd i) keys))
  look_alike db.Locking keys h = places_all (LookAlike setup false (view t) (view u)) db.Locking keys (at_share setup false _ (view t) (view u) (alike [] [] (λ key i. absurd i) (λ file i. absurd i) keys))
  look_alike db.Leases keys h = places_all (LookAlike setup false (view t) (view u)) db.Leases keys (at_lease setup false _ (view t) (view u) (alike [] [] (λ key i. absurd i) (λ file i. absurd i) keys))
  look_alike db.Register keys h = places_all (LookAlike setup false (view t) (view u)) db.Register keys (at_register setup false _ (view t) (view u) (alike [] [] (λ key i. absurd i) (λ file i. absurd i) keys))
  look_alike db.Brlock keys h =
      places_all (LookAlike setup false (view t) (view u)) db.Brlock keys (at_ranges setup false _ (view t) (view u) (alike [] keys (λ key i. absurd i) (λ file i. ap (decoded range_rec) (h (file_key setup file) i)) keys))
  look_alike db.Mailbox keys h = places_all (LookAlike setup false (view t) (view u)) db.Mailbox keys (at_mail setup false _ (view t) (view u) (alike [] [] (λ key i. absurd i) (λ file i. absurd i) keys))

-- ---- the law

module _ (setup : Setup) (n by seq chain : ℕ) where
  abbrev tidied : Entry
  tidied = record { by = by; seq = seq; what = Tidied chain }

  pub tidied_written : IsWrittenByFootprint setup n (record { by = by; seq = seq; what = Tidied chain })
  tidied_written before other is some legal legal_other agree =
      let k = moved_by setup n before in
      let j = moved_by setup n other in
      let b = before_entry setup n is some before tidied legal in
      let d = before_entry setup n is some other tidied legal_other in
      let chains = b.stands.well_formed.chains in
      let own : (key : List ℕ) → IsIn key (keys_at k chain) → value_at n k (place (db_of_number (chain / n)) key) ≡ value_at n j (place (db_of_number (chain / n)) key) =
      λ key i.
      let p = in_map (λ (pair : List ℕ × List ℕ). pair.0) (chain_at k chain) key i in
      let home : chain_of n (place (db_of_number (chain / n)) key) ≡ chain =
      subst (λ x. chain_of n (place (db_of_number (chain / n)) x) ≡ chain) p.2 (all_of (IsPlaced n chain) (chain_at k chain) (all_placed n k chain b.stands.well_formed) p.0 p.1).at_home in
      ap (find key) (at_chain setup n k j tidied chains agree (place (db_of_number (chain / n)) key)
      (later_in (flat_map (chains_in n) (whole_of tidied.what)) (chain ∷ []) (chain_of n (place (db_of_number (chain / n)) key)) (inl (sym home)))) in
      let looks = look_alike setup n k j (after setup before) (after setup other) b.stands d.stands b.fine d.fine (whole_value setup n k j tidied chains agree) (db_of_number (chain / n)) (keys_at k chain) own in
      let looks_after : AllByRecursion (LookAlike setup false (view (after setup (before ++ tidied ∷ []))) (view (after setup (other ++ tidied ∷ [])))) (places_at n k chain) =
      subst (λ (x : Table). AllByRecursion (LookAlike setup false (view x) (view (after setup (other ++ tidied ∷ [])))) (places_at n k chain)) (sym (after_all-append setup (start setup) before tidied))
      (subst (λ (x : Table). AllByRecursion (LookAlike setup false (view (after setup before)) (view x)) (places_at n k chain)) (sym (after_all-append setup (start setup) other tidied)) looks) in
      all_mapped (λ c. chain_at k c ≡ chain_at j c) (λ c. chain_at (move setup n k tidied (view (after setup (before ++ tidied ∷ [])))) c ≡ chain_at (move setup n j tidied (view (after setup (other ++ tidied ∷ [])))) c)
      (λ c same. moves_alike setup n k j tidied (view (after setup (before ++ tidied ∷ []))) (view (after setup (other ++ tidied ∷ []))) c b.stands.well_formed d.stands.well_formed.chains agree refl looks_after same)
      (footprint setup n k tidied) agree
