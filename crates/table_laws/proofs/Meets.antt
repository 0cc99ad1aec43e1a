-- What is written by an entry that meets certain files, locks, names and workers: the records of all owners, leases and watchers there.
use Rattle.std.proofs.Common.{◌≡◌, ℕ, true, List, [], ◌∷◌, ◌++◌, map, filter, Option, Some, None, refl, sym, ap, ◌∙◌, subst, inl, inr}
use Rattle.std.specs.List.{flat_map}
use Rattle.std.specs.Option.{option_map_or, option_and_then}
use Rattle.sid_core.specs.declared.ids.LeaseName.{LeaseName}
use Rattle.sid_core.specs.declared.ids.Spot.TheVariants.{OpenOf, RangesOf, LockOf}
use Rattle.sid_core.specs.declared.setup.Setup.{Setup}
use Rattle.serial_table.specs.declared.rows.OpenRow.{OpenRow}
use Rattle.serial_table.specs.declared.rows.HoldRow.{HoldRow}
use Rattle.serial_table.specs.declared.rows.Watch.{Watch}
use Rattle.serial_table.specs.declared.table.Table.{Table}
use Rattle.serial_table.specs.View.{View, view}
use Rattle.serial_table.specs.File.{FileView}
use Rattle.serial_table.specs.Sound.{IsSound}
use Rattle.serial_table.specs.InSets.{IsInSets}
use Rattle.serial_table.proofs.Members.{IsIn, any_of, old_in, in_filter, in_map, mapped_in}
use Rattle.chain_map.specs.declared.db.Db.TheVariants as db
use Rattle.record_codec.specs.declared.watch.WatchRec.{WatchRec}
use Rattle.record_codec.specs.declared.glock_rec.GLockRec.{GLockRec}
use Rattle.record_codec.specs.declared.glock_rec.Hold.{Hold}
use Rattle.record_codec.specs.declared.share_rec.ShareRec.{ShareRec}
use Rattle.record_codec.specs.declared.share_rec.ShareEntry.{ShareEntry}
use Rattle.record_codec.specs.declared.range_rec.RangeRec.{RangeRec}
use Rattle.record_codec.specs.Counts.{hold_counts, entry_counts, watch_counts}
use Rattle.record_codec.specs.GLockRec.{glock_rec}
use Rattle.record_codec.specs.ShareRec.{share_rec}
use Rattle.record_codec.specs.RangeRec.{range_rec}
use Rattle.stored_table.specs.Keys.{pid_key, name_key, file_key}
use Rattle.stored_table.specs.Places.{Chains, Place, place, same_place, among}
use Rattle.stored_table.specs.Decoded.{AllRecords, deciding, records_of}
use Rattle.record_rows.specs.Rows.{entry_of, hold_of, watch_of, watch_row}
use Rattle.stored_table.specs.Exact.{unless_both_empty, exact_lock}
use Rattle.stored_table.specs.Met.{KeyList, Met, places_in, exact_places, all_met, record_at, name_of_entry, names_in, entry_owners, watchers, met_by_files}
use Rattle.stored_table.specs.Shown.{part_of, open_watches, range_watches}
use Rattle.stored_table.specs.Stands.{AgreeWith, clean_lock}
use Rattle.stored_table.proofs.Writing.{same_itself}
use Rattle.stored_table.proofs.Telling.{entries_are, file_tells}
use Rattle.table_laws.proofs.Contained.{share_place, ranges_place, lock_place, lease_place, register_place, mail_place, IsMetName}

pub part_first : {R A W : Type 0} (f : R → List A) (xs : List A) (ys : List W) (r : R) → f r ≡ xs → part_of f (unless_both_empty xs ys r) ≡ xs
part_first f [] [] r e = refl
part_first f [] (y ∷ ys) r e = e
part_first f (x ∷ xs) ys r e = e

pub part_second : {R A W : Type 0} (f : R → List W) (xs : List A) (ys : List W) (r : R) → f r ≡ ys → part_of f (unless_both_empty xs ys r) ≡ ys
part_second f [] [] r e = refl
part_second f [] (y ∷ ys) r e = e
part_second f (x ∷ xs) ys r e = e

module _ {X : Type 0} where
  pub later_in : (xs ys : List X) (x : X) → IsIn x ys → IsIn x (xs ++ ys)
  later_in [] ys x i = i
  later_in (y ∷ xs) ys x i = inr (later_in xs ys x i)

pub flat_mapped_in : {X Y : Type 0} (f : X → List Y) (xs : List X) (x : X) (y : Y) → IsIn x xs → IsIn y (f x) → IsIn y (flat_map f xs)
flat_mapped_in f [] x y i j = absurd i
flat_mapped_in f (z ∷ xs) x y (inl e) j = old_in (f z) (flat_map f xs) y (subst (λ w. IsIn y (f w)) (sym e) j)
flat_mapped_in f (z ∷ xs) x y (inr i) j = later_in (f z) (flat_map f xs) y (flat_mapped_in f xs x y i j)

pub is_among : (p : Place) (ps : List Place) → IsIn p ps → among p ps ≡ true
is_among p ps i = any_of (same_place p) ps p i (same_itself p)

-- what a record has is in what the records of met keys have
part_in : {R X : Type 0} (f : R → List X) (o : Option R) (x : X) → IsIn x (part_of f o) → (r : R) × (o ≡ Some r) × IsIn x (f r)
part_in f None x i = absurd i
part_in f (Some r) x i = (r, refl, i)

in_part : {R X : Type 0} (f : R → List X) (o : Option R) (r : R) (x : X) → o ≡ Some r → IsIn x (f r) → IsIn x (option_map_or f o [])
in_part f o r x e i = subst (λ z. IsIn x (option_map_or f z [])) (sym e) i

-- ---- places by their keys

module _ (m : Met) where
  share_in : (key : List ℕ) → IsIn key m.shares → IsIn (place db.Locking key) (all_met m)
  share_in key i =
      later_in (places_in db.Opens m.opens) (exact_places m) (place db.Locking key)
      (later_in (places_in db.GLock m.locks) _ (place db.Locking key)
      (old_in (places_in db.Locking m.shares) _ (place db.Locking key) (mapped_in (place db.Locking) m.shares key i)))

  pub share_met : (key : List ℕ) → IsIn key m.shares → among (place db.Locking key) (all_met m) ≡ true
  share_met key i = is_among (place db.Locking key) (all_met m) (share_in key i)

  pub lock_met : (key : List ℕ) → IsIn key m.locks → among (place db.GLock key) (all_met m) ≡ true
  lock_met key i = is_among (place db.GLock key) (all_met m)
      (later_in (places_in db.Opens m.opens) (exact_places m) (place db.GLock key)
      (old_in (places_in db.GLock m.locks) _ (place db.GLock key) (mapped_in (place db.GLock) m.locks key i)))

  pub lease_met : (key : List ℕ) → IsIn key m.leases → among (place db.Leases key) (all_met m) ≡ true
  lease_met key i = is_among (place db.Leases key) (all_met m)
      (later_in (places_in db.Opens m.opens) (exact_places m) (place db.Leases key)
      (later_in (places_in db.GLock m.locks) _ (place db.Leases key)
      (later_in (places_in db.Locking m.shares) _ (place db.Leases key)
      (old_in (places_in db.Leases m.leases) _ (place db.Leases key) (mapped_in (place db.Leases) m.leases key i)))))

  pub register_met : (key : List ℕ) → IsIn key m.register → among (place db.Register key) (all_met m) ≡ true
  register_met key i = is_among (place db.Register key) (all_met m)
      (later_in (places_in db.Opens m.opens) (exact_places m) (place db.Register key)
      (later_in (places_in db.GLock m.locks) _ (place db.Register key)
      (later_in (places_in db.Locking m.shares) _ (place db.Register key)
      (later_in (places_in db.Leases m.leases) _ (place db.Register key)
      (old_in (places_in db.Register m.register) _ (place db.Register key) (mapped_in (place db.Register) m.register key i))))))

  pub ranges_met : (key : List ℕ) → IsIn key m.ranges → among (place db.Brlock key) (all_met m) ≡ true
  ranges_met key i = is_among (place db.Brlock key) (all_met m)
      (later_in (places_in db.Opens m.opens) (exact_places m) (place db.Brlock key)
      (later_in (places_in db.GLock m.locks) _ (place db.Brlock key)
      (later_in (places_in db.Locking m.shares) _ (place db.Brlock key)
      (later_in (places_in db.Leases m.leases) _ (place db.Brlock key)
      (later_in (places_in db.Register m.register) _ (place db.Brlock key)
      (old_in (places_in db.Brlock m.ranges) _ (place db.Brlock key) (mapped_in (place db.Brlock) m.ranges key i)))))))

  pub mail_met : (key : List ℕ) → IsIn key m.mail → among (place db.Mailbox key) (all_met m) ≡ true
  mail_met key i = is_among (place db.Mailbox key) (all_met m)
      (later_in (places_in db.Opens m.opens) (exact_places m) (place db.Mailbox key)
      (later_in (places_in db.GLock m.locks) _ (place db.Mailbox key)
      (later_in (places_in db.Locking m.shares) _ (place db.Mailbox key)
      (later_in (places_in db.Leases m.leases) _ (place db.Mailbox key)
      (later_in (places_in db.Register m.register) _ (place db.Mailbox key)
      (later_in (places_in db.Brlock m.ranges) _ (place db.Mailbox key) (mapped_in (place db.Mailbox) m.mail key i)))))))

-- an open of a file has its entry in the file's record
pub entry_recorded : (setup : Setup) (n : ℕ) (k : Chains) (t : Table) → AgreeWith setup (records_of setup n k) (view t) → IsSound t → IsInSets setup t → (file : ℕ) (o : OpenRow) → IsIn o ((view t).opens_of file)
    → (r : ShareRec) × ((records_of setup n k).shares file ≡ Some r) × IsIn (entry_of o) r.entries
entry_recorded setup n k t agree sound sets file o i =
    let s = records_of setup n k in
    let p = part_in (λ (r : ShareRec). filter (entry_counts (deciding s) file) r.entries) (s.shares file) (entry_of o) (subst (IsIn (entry_of o)) (sym (entries_are setup s t agree sets sound file)) (mapped_in entry_of ((view t).opens_of file) o i)) in
    (p.0, p.1, (in_filter (entry_counts (deciding s) file) p.0.entries (entry_of o) p.2).0)

-- ---- an entry that meets these open records, locks, files, names and workers

module _ (setup : Setup) (n : ℕ) (k : Chains) (t : Table) (agree : AgreeWith setup (records_of setup n k) (view t)) (sound : IsSound t) (sets : IsInSets setup t)
    (opens locks files names own : KeyList) where
  abbrev s : AllRecords
  s = records_of setup n k

  abbrev v : View
  v = view t

  abbrev m : Met
  m = met_by_files n k opens locks files names own

  abbrev ps : List Place
  ps = all_met m

  pub own_register : (pid : ℕ) → IsIn (pid_key pid) own → among (register_place pid) ps ≡ true
  own_register pid i = register_met m (pid_key pid) (old_in own _ (pid_key pid) i)

  -- who is met in the register is met among the mailboxes
  register_mail : (key : List ℕ) → IsIn key m.register → among (place db.Mailbox key) ps ≡ true
  register_mail key i = mail_met m key (old_in m.register _ key i)

  pub own_mail : (pid : ℕ) → IsIn (pid_key pid) own → among (mail_place pid) ps ≡ true
  own_mail pid i = register_mail (pid_key pid) (old_in own _ (pid_key pid) i)

  pub name_met : (name : LeaseName) → IsIn (name_key name) names → among (lease_place name) ps ≡ true
  name_met name i = lease_met m (name_key name) (old_in names _ (name_key name) i)

  pub lock_here : (key : ℕ) → IsIn (Rattle.stored_table.specs.Keys.lock_key key) locks → among (lock_place key) ps ≡ true
  lock_here key i = lock_met m (Rattle.stored_table.specs.Keys.lock_key key) i

  module _ (file : ℕ) (here : IsIn (file_key setup file) files) where
    pub files_written : (among (share_place setup file) ps ≡ true) × (among (ranges_place setup file) ps ≡ true)
    files_written = (share_met m (file_key setup file) here, ranges_met m (file_key setup file) here)

    entry_in : (o : OpenRow) → IsIn o (v.opens_of file) → (r : ShareRec) × (s.shares file ≡ Some r) × IsIn (entry_of o) r.entries
    entry_in o i = entry_recorded setup n k t agree sound sets file o i

    lease_in : (o : OpenRow) (r : ShareRec) → s.shares file ≡ Some r → IsIn (entry_of o) r.entries → (lease : Option LeaseName) → o.lease ≡ lease → IsMetName ps lease
    lease_in o r e i None is = tt
    lease_in o r e i (Some name) is =
        lease_met m (name_key name) (later_in names _ (name_key name)
        (flat_mapped_in (λ key. option_map_or names_in (record_at share_rec n k db.Locking key) []) files (file_key setup file) (name_key name) here
        (in_part names_in (s.shares file) r (name_key name) e
        (flat_mapped_in (λ entry. name_of_entry entry.lease) r.entries (entry_of o) (name_key name) i (subst (λ l. IsIn (name_key name) (name_of_entry l)) (sym is) (inl refl))))))

    pub leases_met : (o : OpenRow) → IsIn o (v.opens_of file) → IsMetName ps o.lease
    leases_met o i = let p = entry_in o i in lease_in o p.0 p.1 p.2 o.lease refl

    owner_in : (o : OpenRow) → IsIn o (v.opens_of file) → IsIn (pid_key o.owner.pid) m.register
    owner_in o i =
        let p = entry_in o i in
        later_in own _ (pid_key o.owner.pid)
        (later_in (Rattle.stored_table.specs.Met.named_at Rattle.record_codec.specs.GLockRec.glock_rec Rattle.stored_table.specs.Met.holders n k db.GLock locks) _ (pid_key o.owner.pid)
        (old_in (Rattle.stored_table.specs.Met.named_at share_rec entry_owners n k db.Locking files) _ (pid_key o.owner.pid)
        (flat_mapped_in (λ key. option_map_or entry_owners (record_at share_rec n k db.Locking key) []) files (file_key setup file) (pid_key o.owner.pid) here
        (in_part entry_owners (s.shares file) p.0 (pid_key o.owner.pid) p.1 (mapped_in (λ (entry : ShareEntry). pid_key entry.owner.pid) p.0.entries (entry_of o) p.2)))))

    pub owner_register : (o : OpenRow) → IsIn o (v.opens_of file) → among (register_place o.owner.pid) ps ≡ true
    owner_register o i = register_met m (pid_key o.owner.pid) (owner_in o i)

    pub owner_mail : (o : OpenRow) → IsIn o (v.opens_of file) → among (mail_place o.owner.pid) ps ≡ true
    owner_mail o i = register_mail (pid_key o.owner.pid) (owner_in o i)

    -- a waiter has its watch in the file's record
    pub open_watcher_met : (y : Watch) → IsIn y (v.watches_on (OpenOf file)) → among (mail_place y.sid.pid) ps ≡ true
    open_watcher_met y i =
        let w = in_map watch_row (open_watches s file) y (subst (IsIn y) (sym (ap (λ (f : FileView). f.open_watches) (file_tells setup s t agree sets sound file))) i) in
        let p = part_in (λ r. filter (watch_counts (deciding s) (OpenOf file)) r.watchers) (s.shares file) w.0 w.1 in
        let raw = in_filter (watch_counts (deciding s) (OpenOf file)) p.0.watchers w.0 p.2 in
        let key = pid_key w.0.sid.pid in
        ap (λ (z : Watch). among (mail_place z.sid.pid) ps) (sym w.2)
        ∙ mail_met m key (later_in m.register _ key
        (later_in (Rattle.stored_table.specs.Met.named_at Rattle.record_codec.specs.GLockRec.glock_rec (λ r. watchers r.watchers) n k db.GLock locks) _ key
        (old_in (Rattle.stored_table.specs.Met.named_at share_rec (λ r. watchers r.watchers) n k db.Locking files) _ key
        (flat_mapped_in (λ key. option_map_or (λ (r : ShareRec). watchers r.watchers) (record_at share_rec n k db.Locking key) []) files (file_key setup file) key here
        (in_part (λ (r : ShareRec). watchers r.watchers) (s.shares file) p.0 key p.1 (mapped_in (λ (x : WatchRec). pid_key x.sid.pid) p.0.watchers w.0 raw.0))))))

    pub range_watcher_met : (y : Watch) → IsIn y (v.watches_on (RangesOf file)) → among (mail_place y.sid.pid) ps ≡ true
    range_watcher_met y i =
        let w = in_map watch_row (range_watches s file) y (subst (IsIn y) (sym (ap (λ (f : FileView). f.range_watches) (file_tells setup s t agree sets sound file))) i) in
        let p = part_in (λ r. filter (watch_counts (deciding s) (RangesOf file)) r.watchers) (s.ranges file) w.0 w.1 in
        let raw = in_filter (watch_counts (deciding s) (RangesOf file)) p.0.watchers w.0 p.2 in
        let key = pid_key w.0.sid.pid in
        ap (λ (z : Watch). among (mail_place z.sid.pid) ps) (sym w.2)
        ∙ mail_met m key (later_in m.register _ key
        (later_in (Rattle.stored_table.specs.Met.named_at Rattle.record_codec.specs.GLockRec.glock_rec (λ r. watchers r.watchers) n k db.GLock locks) _ key
        (later_in (Rattle.stored_table.specs.Met.named_at share_rec (λ r. watchers r.watchers) n k db.Locking files) _ key
        (later_in (Rattle.stored_table.specs.Met.named_at Rattle.record_codec.specs.RegisterRec.register_rec (λ r. watchers r.watchers) n k db.Register m.register) _ key
        (flat_mapped_in (λ key. option_map_or (λ (r : RangeRec). watchers r.watchers) (record_at range_rec n k db.Brlock key) []) files (file_key setup file) key here
        (in_part (λ (r : RangeRec). watchers r.watchers) (s.ranges file) p.0 key p.1 (mapped_in (λ (x : WatchRec). pid_key x.sid.pid) p.0.watchers w.0 raw.0)))))))

  -- those who wait for a lock, and its holders
  module _ (key : ℕ) (here : IsIn (Rattle.stored_table.specs.Keys.lock_key key) locks) where
    lock_parts : (o : Option GLockRec) → part_of (λ (r : GLockRec). r.watchers) (option_and_then (clean_lock (deciding s) key) o) ≡ part_of (λ (r : GLockRec). filter (watch_counts (deciding s) (LockOf key)) r.watchers) o
    lock_parts None = refl
    lock_parts (Some r) = part_second (λ (x : GLockRec). x.watchers) (filter (hold_counts (deciding s)) r.holds) (filter (watch_counts (deciding s) (LockOf key)) r.watchers)
        (record { holds = filter (hold_counts (deciding s)) r.holds; watchers = filter (watch_counts (deciding s) (LockOf key)) r.watchers }) refl

    pub lock_watcher_met : (y : Watch) → IsIn y (v.watches_on (LockOf key)) → among (mail_place y.sid.pid) ps ≡ true
    lock_watcher_met y i =
        let exact : IsIn (watch_of y) (part_of (λ (r : GLockRec). r.watchers) (exact_lock v key)) =
        subst (IsIn (watch_of y)) (sym (part_second (λ (x : GLockRec). x.watchers) (map hold_of (v.holds_of key)) (map watch_of (v.watches_on (LockOf key)))
        (record { holds = map hold_of (v.holds_of key); watchers = map watch_of (v.watches_on (LockOf key)) }) refl)) (mapped_in watch_of (v.watches_on (LockOf key)) y i) in
        let raw : IsIn (watch_of y) (part_of (λ (r : GLockRec). filter (watch_counts (deciding s) (LockOf key)) r.watchers) (s.locks key)) =
        subst (IsIn (watch_of y)) (sym (ap (part_of (λ (r : GLockRec). r.watchers)) (agree.locks key)) ∙ lock_parts (s.locks key)) exact in
        let p = part_in (λ (r : GLockRec). filter (watch_counts (deciding s) (LockOf key)) r.watchers) (s.locks key) (watch_of y) raw in
        let at = in_filter (watch_counts (deciding s) (LockOf key)) p.0.watchers (watch_of y) p.2 in
        mail_met m (pid_key y.sid.pid) (later_in m.register _ (pid_key y.sid.pid)
        (old_in (Rattle.stored_table.specs.Met.named_at glock_rec (λ r. watchers r.watchers) n k db.GLock locks) _ (pid_key y.sid.pid)
        (flat_mapped_in (λ key. option_map_or (λ (r : GLockRec). watchers r.watchers) (record_at glock_rec n k db.GLock key) []) locks (Rattle.stored_table.specs.Keys.lock_key key) (pid_key y.sid.pid) here
        (in_part (λ (r : GLockRec). watchers r.watchers) (s.locks key) p.0 (pid_key y.sid.pid) p.1 (mapped_in (λ (x : WatchRec). pid_key x.sid.pid) p.0.watchers (watch_of y) at.0)))))

    hold_parts : (o : Option GLockRec) → part_of (λ (r : GLockRec). r.holds) (option_and_then (clean_lock (deciding s) key) o) ≡ part_of (λ (r : GLockRec). filter (hold_counts (deciding s)) r.holds) o
    hold_parts None = refl
    hold_parts (Some r) = part_first (λ (x : GLockRec). x.holds) (filter (hold_counts (deciding s)) r.holds) (filter (watch_counts (deciding s) (LockOf key)) r.watchers)
        (record { holds = filter (hold_counts (deciding s)) r.holds; watchers = filter (watch_counts (deciding s) (LockOf key)) r.watchers }) refl

    pub holder_met : (hold : HoldRow) → IsIn hold (v.holds_of key) → among (register_place hold.owner.pid) ps ≡ true
    holder_met hold i =
        let exact : IsIn (hold_of hold) (part_of (λ (r : GLockRec). r.holds) (exact_lock v key)) =
        subst (IsIn (hold_of hold)) (sym (part_first (λ (x : GLockRec). x.holds) (map hold_of (v.holds_of key)) (map watch_of (v.watches_on (LockOf key)))
        (record { holds = map hold_of (v.holds_of key); watchers = map watch_of (v.watches_on (LockOf key)) }) refl)) (mapped_in hold_of (v.holds_of key) hold i) in
        let raw : IsIn (hold_of hold) (part_of (λ (r : GLockRec). filter (hold_counts (deciding s)) r.holds) (s.locks key)) =
        subst (IsIn (hold_of hold)) (sym (ap (part_of (λ (r : GLockRec). r.holds)) (agree.locks key)) ∙ hold_parts (s.locks key)) exact in
        let p = part_in (λ (r : GLockRec). filter (hold_counts (deciding s)) r.holds) (s.locks key) (hold_of hold) raw in
        let at = in_filter (hold_counts (deciding s)) p.0.holds (hold_of hold) p.2 in
        register_met m (pid_key hold.owner.pid) (later_in own _ (pid_key hold.owner.pid)
        (old_in (Rattle.stored_table.specs.Met.named_at glock_rec Rattle.stored_table.specs.Met.holders n k db.GLock locks) _ (pid_key hold.owner.pid)
        (flat_mapped_in (λ key. option_map_or Rattle.stored_table.specs.Met.holders (record_at glock_rec n k db.GLock key) []) locks (Rattle.stored_table.specs.Keys.lock_key key) (pid_key hold.owner.pid) here
        (in_part Rattle.stored_table.specs.Met.holders (s.locks key) p.0 (pid_key hold.owner.pid) p.1 (mapped_in (λ (x : Hold). pid_key x.sid.pid) p.0.holds (hold_of hold) at.0)))))
