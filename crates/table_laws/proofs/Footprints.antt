-- In two databases that agree on the footprint of an entry, each met record is the same, and the records of each met file show the same.
use Rattle.std.proofs.Common.{◌≡◌, ℕ, ◌*◌, true, ◌==◌, List, [], map, Option, Some, None, refl, sym, ap, subst, inl, arith}
use Rattle.std.specs.Prelude.{IfSome}
use Rattle.std.specs.List.{AllByRecursion, flat_map}
use Rattle.std.specs.Option.{option_map_or}
use Rattle.std.proofs.lemmas.Bool.{eq-eqb}
use Rattle.sid_core.specs.declared.entry.Entry.{Entry}
use Rattle.sid_core.specs.declared.ids.LeaseName.{LeaseName}
use Rattle.sid_core.specs.declared.setup.Setup.{Setup}
use Rattle.serial_table.proofs.Members.{IsIn, all_by, all_of, any_of, mapped_in, old_in, one_of, passes_in}
use Rattle.chain_map.specs.declared.db.Db.{Db}
use Rattle.chain_map.specs.declared.db.Db.TheVariants as db
use Rattle.chain_map.specs.Pairs.{find}
use Rattle.record_codec.specs.declared.watch.WatchRec.{WatchRec}
use Rattle.record_codec.specs.declared.share_rec.ShareRec.{ShareRec}
use Rattle.record_codec.specs.declared.share_rec.ShareEntry.{ShareEntry}
use Rattle.record_codec.specs.declared.lease_rec.LeaseRec.{LeaseRec}
use Rattle.record_codec.specs.declared.lease_rec.LeaseRef.{LeaseRef}
use Rattle.record_codec.specs.declared.range_rec.RangeRec.{RangeRec}
use Rattle.record_codec.specs.declared.register_rec.RegisterRec.{RegisterRec}
use Rattle.record_codec.specs.declared.glock_rec.GLockRec.{GLockRec}
use Rattle.record_codec.specs.declared.glock_rec.Hold.{Hold}
use Rattle.record_codec.specs.OpenRec.{open_rec}
use Rattle.record_codec.specs.GLockRec.{glock_rec}
use Rattle.record_codec.specs.ShareRec.{share_rec}
use Rattle.record_codec.specs.LeaseRec.{lease_rec}
use Rattle.record_codec.specs.RegisterRec.{register_rec}
use Rattle.record_codec.specs.RangeRec.{range_rec}
use Rattle.record_codec.specs.MailRec.{mail_rec}
use Rattle.stored_table.specs.Keys.{open_key, lock_key, pid_key, name_key, file_key}
use Rattle.stored_table.specs.Places.{Chains, Place, place, same_place, among, chain_of, chain_at, value_at, HasChains}
use Rattle.stored_table.specs.Decoded.{AllRecords, decoded, records_of}
use Rattle.stored_table.specs.Footprint.{whole_of, footprint_list, has_number, footprint}
use Rattle.stored_table.specs.Met.{KeyList, Met, met, places_in, exact_places, all_met, count_from, chains_in, record_at, named_at, holders, name_of_entry, names_in, entry_owners, ref_owners, watchers, met_by_files}
use Rattle.stored_table.proofs.Meeting.{at_count}
use Rattle.stored_table.proofs.Writing.{chain_below, place_is}
use Rattle.table_laws.specs.ByFootprint.{AgreeOnFootprint}
use Rattle.table_laws.proofs.Contained.{share_place, ranges_place, lock_place, lease_place, register_place, mail_place}
use Rattle.table_laws.proofs.Meets.{later_in, flat_mapped_in, is_among, share_met, lock_met, lease_met, register_met, ranges_met, mail_met}
use Rattle.table_laws.proofs.KeysThere.{own_chain_in}
use Rattle.table_laws.proofs.Showing.{SameOwner, SameRefs, SameLease, SameEntry, SameWatch, SameFileRecords, SameLockRecord, SameRegisterRecord}

-- ---- met places

module _ (setup : Setup) (n : ℕ) (k j : Chains) (e : Entry) (a : HasChains n k) (same : AgreeOnFootprint setup n k j e) where
  abbrev list : List ℕ
  list = footprint_list setup n k e

  pub at_chain : (p : Place) → IsIn (chain_of n p) (footprint_list setup n k e) → chain_at k (chain_of n p) ≡ chain_at j (chain_of n p)
  at_chain p i =
      let low = chain_below n p a.some in
      let counted : IsIn (chain_of n p) (count_from 0 (7 * n)) =
      at_count (λ x. IsIn x (count_from 0 (7 * n))) 0 (7 * n) (chain_of n p) (omega arith) (omega (arith, low)) (all_by (λ x. IsIn x (count_from 0 (7 * n))) (count_from 0 (7 * n)) (λ x h. h)) in
      let listed : has_number list (chain_of n p) ≡ true = any_of (λ d. d == chain_of n p) list (chain_of n p) i (eq-eqb (chain_of n p) (chain_of n p) refl) in
      all_of (λ c. chain_at k c ≡ chain_at j c) (footprint setup n k e) same (chain_of n p) (passes_in (has_number list) (count_from 0 (7 * n)) (chain_of n p) counted listed)

  pub met_value : (p : Place) → among p (all_met (met setup n k e)) ≡ true → value_at n k p ≡ value_at n j p
  met_value p m =
      let q = one_of (same_place p) (all_met (met setup n k e)) m in
      let i : IsIn p (all_met (met setup n k e)) = subst (λ x. IsIn x (all_met (met setup n k e))) (sym (place_is p q.0 q.2)) q.1 in
      ap (find p.key) (at_chain p (old_in (map (chain_of n) (all_met (met setup n k e))) _ (chain_of n p) (mapped_in (chain_of n) (all_met (met setup n k e)) p i)))

  -- each record of a database that belongs to the footprint whole
  pub whole_value : (d : Db) → IsIn d (whole_of e.what) → (key : List ℕ) → value_at n k (place d key) ≡ value_at n j (place d key)
  whole_value d i key =
      let c = chain_of n (place d key) in
      ap (find key) (at_chain (place d key) (later_in (map (chain_of n) (all_met (met setup n k e))) _ c
      (old_in (flat_map (chains_in n) (whole_of e.what)) _ c (flat_mapped_in (chains_in n) (whole_of e.what) d c i (own_chain_in n d key a.some)))))

-- ---- what an entry meets

module _ (setup : Setup) (n : ℕ) (k j : Chains) (opens locks files names own : KeyList)
    (same : (p : Place) → among p (all_met (met_by_files n k opens locks files names own)) ≡ true → value_at n k p ≡ value_at n j p) where
  abbrev s : AllRecords
  s = records_of setup n k

  abbrev z : AllRecords
  z = records_of setup n j

  abbrev m : Met
  m = met_by_files n k opens locks files names own

  -- what a record has is named
  named : {R X : Type 0} (f : R → List X) (o : Option R) (r : R) (x : X) → o ≡ Some r → IsIn x (f r) → IsIn x (option_map_or f o [])
  named f o r x e i = subst (λ y. IsIn x (option_map_or f y [])) (sym e) i

  pub own_open_same : (pid number : ℕ) → IsIn (open_key pid number) opens → s.opens pid number ≡ z.opens pid number
  own_open_same pid number i =
      let p = place db.Opens (open_key pid number) in
      ap (decoded open_rec) (same p (is_among p (all_met m) (old_in (places_in db.Opens m.opens) (exact_places m) p (mapped_in (place db.Opens) m.opens (open_key pid number) i))))

  pub register_same : (pid : ℕ) → IsIn (pid_key pid) m.register → s.register pid ≡ z.register pid
  register_same pid i = ap (decoded register_rec) (same (register_place pid) (register_met m (pid_key pid) i))

  pub own_register_same : (pid : ℕ) → IsIn (pid_key pid) own → s.register pid ≡ z.register pid
  own_register_same pid i = register_same pid (old_in own _ (pid_key pid) i)

  pub mail_same : (pid : ℕ) → IsIn (pid_key pid) m.mail → s.mail pid ≡ z.mail pid
  mail_same pid i = ap (decoded mail_rec) (same (mail_place pid) (mail_met m (pid_key pid) i))

  -- a met worker, with the mailboxes of its watchers
  pub worker_same : (pid : ℕ) → IsIn (pid_key pid) m.register → SameRegisterRecord s z pid
  worker_same pid i = record { register = register_same pid i; watchers = watched (s.register pid) refl }
    where
      watched : (o : Option RegisterRec) → s.register pid ≡ o → IfSome o (λ (r : RegisterRec). AllByRecursion (SameWatch s z) r.watchers)
      watched None is = tt
      watched (Some r) is =
          all_by (SameWatch s z) r.watchers (λ w at.
          let key = pid_key w.sid.pid in
          mail_same w.sid.pid (later_in m.register _ key (later_in (named_at glock_rec (λ (x : GLockRec). watchers x.watchers) n k db.GLock locks) _ key
          (later_in (named_at share_rec (λ (x : ShareRec). watchers x.watchers) n k db.Locking files) _ key
          (old_in (named_at register_rec (λ (x : RegisterRec). watchers x.watchers) n k db.Register m.register) _ key
          (flat_mapped_in (λ key. option_map_or (λ (x : RegisterRec). watchers x.watchers) (record_at register_rec n k db.Register key) []) m.register (pid_key pid) key i
          (named (λ (x : RegisterRec). watchers x.watchers) (s.register pid) r key is (mapped_in (λ (x : WatchRec). pid_key x.sid.pid) r.watchers w at))))))))

  -- a met lease, with its owners
  pub lease_same : (name : LeaseName) → IsIn (name_key name) m.leases → SameLease s z name
  lease_same name i = (ap (decoded lease_rec) (same (lease_place name) (lease_met m (name_key name) i)), owners (s.leases name) refl)
    where
      owners : (o : Option LeaseRec) → s.leases name ≡ o → IfSome o (SameRefs s z)
      owners None e = tt
      owners (Some x) e =
          all_by (λ (ref : LeaseRef). SameOwner s z ref.owner) x.refs (λ ref h.
          let key = pid_key ref.owner.pid in
          register_same ref.owner.pid (later_in own _ key (later_in (named_at glock_rec holders n k db.GLock locks) _ key (later_in (named_at share_rec entry_owners n k db.Locking files) _ key
          (flat_mapped_in (λ key. option_map_or ref_owners (record_at lease_rec n k db.Leases key) []) m.leases (name_key name) key i
          (named ref_owners (s.leases name) x key e (mapped_in (λ (r : LeaseRef). pid_key r.owner.pid) x.refs ref h)))))))

  pub asked_lease_same : (name : LeaseName) → IsIn (name_key name) names → SameLease s z name
  asked_lease_same name i = lease_same name (old_in names _ (name_key name) i)

  pub own_mail_same : (pid : ℕ) → IsIn (pid_key pid) own → s.mail pid ≡ z.mail pid
  own_mail_same pid i = mail_same pid (old_in m.register _ (pid_key pid) (old_in own _ (pid_key pid) i))

  module _ (lock : ℕ) (here : IsIn (lock_key lock) locks) where
    holders_are_same : (o : Option GLockRec) → s.locks lock ≡ o → IfSome o (λ (r : GLockRec). AllByRecursion (λ hold. SameOwner s z hold.sid) r.holds)
    holders_are_same None is = tt
    holders_are_same (Some r) is =
        all_by (λ (hold : Hold). SameOwner s z hold.sid) r.holds (λ hold i.
        let key = pid_key hold.sid.pid in
        register_same hold.sid.pid (later_in own _ key (old_in (named_at glock_rec holders n k db.GLock locks) _ key
        (flat_mapped_in (λ key. option_map_or holders (record_at glock_rec n k db.GLock key) []) locks (lock_key lock) key here
        (named holders (s.locks lock) r key is (mapped_in (λ (x : Hold). pid_key x.sid.pid) r.holds hold i))))))

    lock_watchers_are_same : (o : Option GLockRec) → s.locks lock ≡ o → IfSome o (λ (r : GLockRec). AllByRecursion (SameWatch s z) r.watchers)
    lock_watchers_are_same None is = tt
    lock_watchers_are_same (Some r) is =
        all_by (SameWatch s z) r.watchers (λ w i.
        let key = pid_key w.sid.pid in
        mail_same w.sid.pid (later_in m.register _ key (old_in (named_at glock_rec (λ (x : GLockRec). watchers x.watchers) n k db.GLock locks) _ key
        (flat_mapped_in (λ key. option_map_or (λ (x : GLockRec). watchers x.watchers) (record_at glock_rec n k db.GLock key) []) locks (lock_key lock) key here
        (named (λ (x : GLockRec). watchers x.watchers) (s.locks lock) r key is (mapped_in (λ (x : WatchRec). pid_key x.sid.pid) r.watchers w i))))))

    pub lock_same : SameLockRecord s z lock
    lock_same = record {
      lock = ap (decoded glock_rec) (same (lock_place lock) (lock_met m (lock_key lock) here));
      holders = holders_are_same (s.locks lock) refl;
      watchers = lock_watchers_are_same (s.locks lock) refl;
    }

  module _ (file : ℕ) (here : IsIn (file_key setup file) files) where
    -- an entry of the file's record
    module _ (r : ShareRec) (is : s.shares file ≡ Some r) (e : ShareEntry) (i : IsIn e r.entries) where
      pub owner_same : SameOwner s z e.owner
      owner_same =
          let key = pid_key e.owner.pid in
          register_same e.owner.pid (later_in own _ key (later_in (named_at glock_rec holders n k db.GLock locks) _ key (old_in (named_at share_rec entry_owners n k db.Locking files) _ key
          (flat_mapped_in (λ key. option_map_or entry_owners (record_at share_rec n k db.Locking key) []) files (file_key setup file) key here
          (named entry_owners (s.shares file) r key is (mapped_in (λ (x : ShareEntry). pid_key x.owner.pid) r.entries e i))))))

      lease_of_entry : (lease : Option LeaseName) → e.lease ≡ lease → IfSome lease (SameLease s z)
      lease_of_entry None l = tt
      lease_of_entry (Some name) l =
          lease_same name (later_in names _ (name_key name)
          (flat_mapped_in (λ key. option_map_or names_in (record_at share_rec n k db.Locking key) []) files (file_key setup file) (name_key name) here
          (named names_in (s.shares file) r (name_key name) is
          (flat_mapped_in (λ (x : ShareEntry). name_of_entry x.lease) r.entries e (name_key name) i (subst (λ o. IsIn (name_key name) (name_of_entry o)) (sym l) (inl refl))))))

    entries_are_same : (o : Option ShareRec) → s.shares file ≡ o → IfSome o (λ (r : ShareRec). AllByRecursion (SameEntry s z) r.entries)
    entries_are_same None is = tt
    entries_are_same (Some r) is = all_by (SameEntry s z) r.entries (λ e i. record { owner = owner_same r is e i; lease = lease_of_entry r is e i e.lease refl })

    watchers_are_same : (o : Option ShareRec) → s.shares file ≡ o → IfSome o (λ (r : ShareRec). AllByRecursion (SameWatch s z) r.watchers)
    watchers_are_same None is = tt
    watchers_are_same (Some r) is =
        all_by (SameWatch s z) r.watchers (λ w i.
        let key = pid_key w.sid.pid in
        mail_same w.sid.pid (later_in m.register _ key (later_in (named_at glock_rec (λ (x : GLockRec). watchers x.watchers) n k db.GLock locks) _ key
        (old_in (named_at share_rec (λ (x : ShareRec). watchers x.watchers) n k db.Locking files) _ key
        (flat_mapped_in (λ key. option_map_or (λ (x : ShareRec). watchers x.watchers) (record_at share_rec n k db.Locking key) []) files (file_key setup file) key here
        (named (λ (x : ShareRec). watchers x.watchers) (s.shares file) r key is (mapped_in (λ (x : WatchRec). pid_key x.sid.pid) r.watchers w i)))))))

    range_watchers_are_same : (o : Option RangeRec) → s.ranges file ≡ o → IfSome o (λ (r : RangeRec). AllByRecursion (SameWatch s z) r.watchers)
    range_watchers_are_same None is = tt
    range_watchers_are_same (Some r) is =
        all_by (SameWatch s z) r.watchers (λ w i.
        let key = pid_key w.sid.pid in
        mail_same w.sid.pid (later_in m.register _ key (later_in (named_at glock_rec (λ (x : GLockRec). watchers x.watchers) n k db.GLock locks) _ key
        (later_in (named_at share_rec (λ (x : ShareRec). watchers x.watchers) n k db.Locking files) _ key
        (later_in (named_at register_rec (λ r. watchers r.watchers) n k db.Register m.register) _ key
        (flat_mapped_in (λ key. option_map_or (λ (x : RangeRec). watchers x.watchers) (record_at range_rec n k db.Brlock key) []) files (file_key setup file) key here
        (named (λ (x : RangeRec). watchers x.watchers) (s.ranges file) r key is (mapped_in (λ (x : WatchRec). pid_key x.sid.pid) r.watchers w i))))))))

    pub file_same : SameFileRecords s z file
    file_same = record {
      share = ap (decoded share_rec) (same (share_place setup file) (share_met m (file_key setup file) here));
      range = ap (decoded range_rec) (same (ranges_place setup file) (ranges_met m (file_key setup file) here));
      entries = entries_are_same (s.shares file) refl;
      watchers = watchers_are_same (s.shares file) refl;
      range_watchers = range_watchers_are_same (s.ranges file) refl;
    }
