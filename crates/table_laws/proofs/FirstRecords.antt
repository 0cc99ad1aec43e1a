-- The first records name no session that a worker hasn't had, and no call.
use Rattle.std.proofs.Common.{List, ◌≡◌, ℕ, ◌*◌, ◌≤◌, Bool, true, false, cond, [], replicate, Option, Some, None, refl, sym, ap, ◌∙◌, subst}
use Rattle.std.specs.Option.{option_map, option_and_then}
use Rattle.std.specs.List.{AllByRecursion}
use Rattle.std.proofs.lemmas.List.{get_or-replicate, length-replicate}
use Rattle.sid_core.specs.declared.ids.Sid.{Sid}
use Rattle.sid_core.specs.declared.ids.LeaseName.{LeaseName}
use Rattle.sid_core.specs.declared.setup.FileInfo.{FileInfo}
use Rattle.sid_core.specs.declared.setup.Setup.{Setup}
use Rattle.sid_core.specs.Setup.{IsSetup}
use Rattle.sid_core.specs.Ids.{same_sid}
use Rattle.serial_table.specs.declared.rows.WorkerRow.{WorkerRow}
use Rattle.serial_table.specs.ByNumber.{declared_at}
use Rattle.serial_table.specs.View.{View, view}
use Rattle.serial_table.specs.History.{start}
use Rattle.serial_table.proofs.Members.{IsIn}
use Rattle.chain_map.specs.declared.db.Db.TheVariants as db
use Rattle.chain_map.specs.Pairs as pairs
use Rattle.record_codec.specs.declared.watch.WatchRec.{WatchRec}
use Rattle.record_codec.specs.declared.register_rec.RegisterRec.{RegisterRec}
use Rattle.record_codec.specs.declared.share_rec.ShareEntry.{ShareEntry}
use Rattle.record_codec.specs.declared.share_rec.ShareRec.{ShareRec}
use Rattle.record_codec.specs.declared.glock_rec.GLockRec.{GLockRec}
use Rattle.record_codec.specs.declared.glock_rec.Hold.{Hold}
use Rattle.record_codec.specs.declared.lease_rec.LeaseRec.{LeaseRec}
use Rattle.record_codec.specs.declared.lease_rec.LeaseRef.{LeaseRef}
use Rattle.record_codec.specs.Codec.{Codec}
use Rattle.record_codec.specs.OpenRec.{open_rec}
use Rattle.record_codec.specs.GLockRec.{glock_rec}
use Rattle.record_codec.specs.ShareRec.{share_rec}
use Rattle.record_codec.specs.LeaseRec.{lease_rec}
use Rattle.record_codec.specs.RegisterRec.{register_rec}
use Rattle.record_codec.proofs.RegisterExact.{register_exact}
use Rattle.stored_table.specs.Keys.{lock_key, name_key, file_key, pid_key, pid_in, file_in, is_key}
use Rattle.stored_table.specs.Places.{Chains, Place, place, among, value_at, chain_of}
use Rattle.stored_table.specs.Decoded.{decoded, records_of}
use Rattle.stored_table.specs.Exact.{spelled, always, share_version, share_of, register_record, exact_register, exact_at}
use Rattle.stored_table.specs.Move.{first_chains, worker_places}
use Rattle.stored_table.specs.Shown.{part_of}
use Rattle.stored_table.proofs.Bridging.{decoded_spelled}
use Rattle.stored_table.proofs.Keeping.{first_part}
use Rattle.stored_table.proofs.Spelling.{have_spellings}
use Rattle.stored_table.proofs.Writing.{value_at-write_all, chain_below}
use Rattle.table_laws.specs.Standing.{IsUnnamed}
use Rattle.table_laws.proofs.Chains.{IsFine, legal_is_fine}
use Rattle.table_laws.proofs.Recorded.{IsRecorded}

-- nothing is decoded, whatever is written of nothing
none_decoded : {A : Type 0} (c : Codec (ℕ × A)) (b k : Bool) → decoded c (cond b (cond k None None) None) ≡ None
none_decoded c true true = refl
none_decoded c true false = refl
none_decoded c false k = refl

module _ (setup : Setup) (n : ℕ) (is : IsSetup setup) (some : 1 ≤ n) where
  abbrev v : View
  v = view (start setup)

  abbrev first : Chains
  first = first_chains setup n

  abbrev written : Place → Bool
  written p = among p (worker_places setup.workers)

  fine : IsFine setup (start setup)
  fine = legal_is_fine setup [] is (record { entries = tt; counted = λ by. tt; rising = λ by. tt })

  -- what is written, or nothing
  first_value : (p : Place) → value_at n (first_chains setup n) p ≡ cond (among p (worker_places setup.workers)) (exact_at setup false (view (start setup)) p) None
  first_value p =
      value_at-write_all n (exact_at setup false v) (worker_places setup.workers) (replicate (7 * n) []) p (record { some = some; count = length-replicate (7 * n) [] })
      ∙ ap (cond (written p) (exact_at setup false v p)) (ap (pairs.find p.key) (get_or-replicate (7 * n) (chain_of n p) [] [] (chain_below n p some)))

  no_share : (o : Option FileInfo) → option_and_then (share_of v (file_in setup [])) o ≡ None
  no_share None = refl
  no_share (Some info) = refl

  -- ---- no record of files, leases and locks

  no_lock : (key : ℕ) → (records_of setup n (first_chains setup n)).locks key ≡ None
  no_lock key = let p = place db.GLock (lock_key key) in ap (decoded glock_rec) (first_value p) ∙ none_decoded glock_rec (written p) (is_key db.GLock (lock_key key))

  pub no_open : (key : List ℕ) → decoded open_rec (value_at n (first_chains setup n) (place db.Opens key)) ≡ None
  no_open key = let p = place db.Opens key in ap (decoded open_rec) (first_value p) ∙ none_decoded open_rec (written p) (is_key db.Opens key)

  no_lease : (name : LeaseName) → (records_of setup n (first_chains setup n)).leases name ≡ None
  no_lease name = let p = place db.Leases (name_key name) in ap (decoded lease_rec) (first_value p) ∙ none_decoded lease_rec (written p) (is_key db.Leases (name_key name))

  no_share_of : (file : ℕ) (o : Option FileInfo) → option_and_then (share_of v file) o ≡ None
  no_share_of file None = refl
  no_share_of file (Some info) = refl

  no_file : (file : ℕ) → (records_of setup n (first_chains setup n)).shares file ≡ None
  no_file file =
      let key = file_key setup file in
      let p = place db.Locking key in
      ap (decoded share_rec) (first_value p)
      ∙ ap (λ o. decoded share_rec (cond (written p) (cond (is_key db.Locking key) (spelled share_rec (share_version false) o) None) None)) (no_share_of (file_in setup key) (declared_at setup.files (file_in setup key)))
      ∙ none_decoded share_rec (written p) (is_key db.Locking key)

  -- ---- nobody waits behind a worker

  nobody : (o : Option WorkerRow) (x : WatchRec) → IsIn x (part_of (λ (r : RegisterRec). r.watchers) (option_map (register_record v) o)) → ⊥
  nobody None x i = i
  nobody (Some row) x i = i

  nobody_in : (pid : ℕ) (b k : Bool) (x : WatchRec) → IsIn x (part_of (λ (r : RegisterRec). r.watchers) (decoded register_rec (cond b (cond k (spelled register_rec (always 1) (exact_register v pid)) None) None))) → ⊥
  nobody_in pid true true x i =
      nobody (v.worker_of pid) x (subst (λ o. IsIn x (part_of (λ (r : RegisterRec). r.watchers) o))
      (decoded_spelled register_rec register_exact (always 1) (exact_register v pid) (first_part register_rec 1 _ (exact_register v pid) ((have_spellings setup (start setup) is fine.sets fine.sound.rows fine.bounded).register pid))) i)
  nobody_in pid true false x i = i
  nobody_in pid false k x i = i

  first_watched : (pid : ℕ) (x : WatchRec) → IsIn x (part_of (λ (r : RegisterRec). r.watchers) ((records_of setup n (first_chains setup n)).register pid)) → ⊥
  first_watched pid x i =
      let key = pid_key pid in
      let p = place db.Register key in
      nobody_in (pid_in key) (written p) (is_key db.Register key) x (subst (λ o. IsIn x (part_of (λ (r : RegisterRec). r.watchers) (decoded register_rec o))) (first_value p) i)

  first_unnamed : (sid : Sid) → IsUnnamed (records_of setup n (first_chains setup n)) sid
  first_unnamed sid = record {
    holds = λ key. subst (λ o. AllByRecursion (λ (h : Hold). same_sid sid h.sid ≡ false) (part_of (λ (r : GLockRec). r.holds) o)) (sym (no_lock key)) tt;
    entries = λ file. subst (λ o. AllByRecursion (λ (e : ShareEntry). same_sid sid e.owner ≡ false) (part_of (λ (r : ShareRec). r.entries) o)) (sym (no_file file)) tt;
    refs = λ name. subst (λ o. AllByRecursion (λ (ref : LeaseRef). same_sid sid ref.owner ≡ false) (part_of (λ (r : LeaseRec). r.refs) o)) (sym (no_lease name)) tt;
  }

  pub first_recorded : (low : ℕ → ℕ) → IsRecorded low (start setup) (records_of setup n (first_chains setup n))
  first_recorded low = record { watched = λ pid x i. absurd (first_watched pid x i); named = λ sid none. first_unnamed sid }
