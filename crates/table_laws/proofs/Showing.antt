-- What records show of a file goes by the file's records, those of its leases, and those of the owners and watchers of all these.
use Rattle.std.proofs.Common.{◌≡◌, ℕ, Bool, true, false, cond, not, ◌==◌, ◌&&◌, ◌||◌, List, [], ◌∷◌, map, filter, Option, Some, None, refl, sym, ap, ◌∙◌, subst, inl, inr}
use Rattle.std.specs.Prelude.{IfSome}
use Rattle.std.specs.List.{list_any, AllByRecursion}
use Rattle.std.specs.Option.{option_map, option_map_or, option_and_then}
use Rattle.sid_core.specs.declared.ids.LeaseName.{LeaseName}
use Rattle.sid_core.specs.declared.ids.OpenId.{OpenId}
use Rattle.sid_core.specs.declared.ids.Sid.{Sid}
use Rattle.sid_core.specs.declared.ids.Spot.{Spot}
use Rattle.sid_core.specs.declared.ids.Spot.TheVariants.{OpenOf, RangesOf, LockOf}
use Rattle.sid_core.specs.Ids.{same_id}
use Rattle.sid_core.specs.Values.{has}
use Rattle.serial_table.specs.View.{carries}
use Rattle.serial_table.specs.File.{FileOpen, file_open}
use Rattle.serial_table.proofs.SameIds.{same_name-eq}
use Rattle.serial_table.proofs.Members.{IsIn, all_by, all_of, in_filter, one_of}
use Rattle.record_codec.specs.declared.watch.WatchRec.{WatchRec}
use Rattle.record_codec.specs.declared.glock_rec.GLockRec.{GLockRec}
use Rattle.record_codec.specs.declared.glock_rec.Hold.{Hold}
use Rattle.record_codec.specs.declared.share_rec.ShareRec.{ShareRec}
use Rattle.record_codec.specs.declared.share_rec.ShareEntry.{ShareEntry}
use Rattle.record_codec.specs.declared.lease_rec.LeaseRec.{LeaseRec}
use Rattle.record_codec.specs.declared.lease_rec.LeaseRef.{LeaseRef}
use Rattle.record_codec.specs.declared.range_rec.RangeItem.{RangeItem}
use Rattle.record_codec.specs.declared.range_rec.RangeRec.{RangeRec}
use Rattle.record_codec.specs.declared.register_rec.RegisterRec.{RegisterRec}
use Rattle.record_codec.specs.Counts.{lives, is_current, hold_counts, has_token_at, has_token, watch_counts, register_watch_counts, is_connected, is_unanswered, settled_state, ref_counts, settled_refs, unless_empty, settled_lease, keeps, is_kept, entry_counts, pending_counts, entry_of_id_counts, range_counts}
use Rattle.stored_table.specs.Decoded.{AllRecords, deciding}
use Rattle.record_rows.specs.Rows.{open_row, range_row, watch_row}
use Rattle.stored_table.specs.Shown.{part_of, pending_shown, is_named, if_of_file, lease_shown, shown}
use Rattle.stored_table.specs.Exact.{unless_both_empty}
use Rattle.stored_table.specs.Stands.{clean_lock, clean_register}
use Rattle.table_laws.proofs.Lists.{all_mapped, any_alike}

pub filter_alike : {X : Type 0} (p q : X → Bool) (xs : List X) → AllByRecursion (λ x. p x ≡ q x) xs → filter p xs ≡ filter q xs
filter_alike p q [] h = refl
filter_alike p q (x ∷ xs) h = λ i. cond (h.0 i) (x ∷ filter_alike p q xs h.1 i) (filter_alike p q xs h.1 i)

map_each : {X Y : Type 0} (f g : X → Y) (xs : List X) → ((x : X) → IsIn x xs → f x ≡ g x) → map f xs ≡ map g xs
map_each f g [] h = refl
map_each f g (x ∷ xs) h = λ i. h x (inl refl) i ∷ map_each f g xs (λ y j. h y (inr j)) i

-- what is made of a record where it is there
mapped_same : {R A : Type 0} (P : R → Type 0) (f g : R → A) (d : A) (o : Option R) → IfSome o P → ((r : R) → P r → f r ≡ g r) → option_map_or f o d ≡ option_map_or g o d
mapped_same P f g d None h e = refl
mapped_same P f g d (Some r) h e = e r h

map_part : {R X Y : Type 0} (m : X → Y) (f : R → List X) (o : Option R) → map m (option_map_or f o []) ≡ option_map_or (λ r. map m (f r)) o []
map_part m f None = refl
map_part m f (Some r) = refl

module _ (s z : AllRecords) where
  -- the register record of a session's worker is the same in both
  abbrev pub SameOwner : Sid → Type 0
  SameOwner sid = s.register sid.pid ≡ z.register sid.pid

  -- those of the owners of a lease's opens are
  abbrev pub SameRefs : LeaseRec → Type 0
  SameRefs x = AllByRecursion (λ ref. SameOwner ref.owner) x.refs

  -- a lease record is the same in both, with the register records of its owners
  abbrev pub SameLease : LeaseName → Type 0
  SameLease name = (s.leases name ≡ z.leases name) × IfSome (s.leases name) SameRefs

  pub record SameEntry (e : ShareEntry) : Type 0 where
    pub owner : SameOwner e.owner
    pub lease : IfSome e.lease SameLease

  abbrev pub SameWatch : WatchRec → Type 0
  SameWatch w = s.mail w.sid.pid ≡ z.mail w.sid.pid

  pub lives_same : (sid : Sid) → SameOwner sid → lives (deciding s) sid ≡ lives (deciding z) sid
  lives_same sid h = ap (λ r. is_current r sid.session) h

  watch_same : (spot : Spot) (w : WatchRec) → SameWatch w → watch_counts (deciding s) spot w ≡ watch_counts (deciding z) spot w
  watch_same spot w h = ap (λ m. has_token_at m w.sid.session spot w.call) h

  -- ---- leases

  module _ (x : LeaseRec) (h : SameRefs x) where
    connected_same : AllByRecursion (λ ref. is_connected (deciding s) ref ≡ is_connected (deciding z) ref) x.refs
    connected_same = all_mapped (λ (ref : LeaseRef). SameOwner ref.owner) (λ ref. is_connected (deciding s) ref ≡ is_connected (deciding z) ref) (λ ref. lives_same ref.owner) x.refs h

    unanswered_same : is_unanswered (deciding s) x ≡ is_unanswered (deciding z) x
    unanswered_same = λ i. x.breaking && not (any_alike (is_connected (deciding s)) (is_connected (deciding z)) x.refs connected_same i)

    state_same : settled_state (deciding s) x ≡ settled_state (deciding z) x
    state_same = λ i. cond (unanswered_same i) x.needed x.held

    refs_same : settled_refs (deciding s) x ≡ settled_refs (deciding z) x
    refs_same =
        filter_alike (ref_counts (deciding s) x) (ref_counts (deciding z) x) x.refs
        (all_mapped (λ ref. is_connected (deciding s) ref ≡ is_connected (deciding z) ref) (λ ref. ref_counts (deciding s) x ref ≡ ref_counts (deciding z) x ref)
        (λ ref e i. e i || (not (ref.durable == 0) && has (state_same i).0 2)) x.refs connected_same)

    some_refs : (refs : List LeaseRef) → unless_empty (deciding s) x refs ≡ unless_empty (deciding z) x refs
    some_refs [] = refl
    some_refs (ref ∷ refs) =
        ap (λ b. Some (cond b
        (let broken : LeaseRec = record { file = x.file; held = x.needed; breaking = false; asked = record { 0 = 0 }; needed = record { 0 = 0 }; until = 0; refs = ref ∷ refs } in broken)
        (let whole : LeaseRec = record x { refs = ref ∷ refs } in whole))) unanswered_same

    lease_same : settled_lease (deciding s) x ≡ settled_lease (deciding z) x
    lease_same = some_refs (settled_refs (deciding s) x) ∙ ap (unless_empty (deciding z) x) refs_same

  pub settled_same : (o : Option LeaseRec) → IfSome o SameRefs → option_and_then (settled_lease (deciding s)) o ≡ option_and_then (settled_lease (deciding z)) o
  settled_same None h = refl
  settled_same (Some x) h = lease_same x h

  keeps_same : (file : ℕ) (id : OpenId) (o : Option LeaseRec) → IfSome o SameRefs → keeps (deciding s) file id o ≡ keeps (deciding z) file id o
  keeps_same file id None h = refl
  keeps_same file id (Some x) h = λ i. (x.file == file) && list_any (λ ref. same_id ref.id id) x.refs && has (state_same x h i).0 2

  -- ---- entries

  kept_same : (file : ℕ) (id : OpenId) (o : Option LeaseName) → IfSome o SameLease → is_kept (deciding s) file id o ≡ is_kept (deciding z) file id o
  kept_same file id None h = refl
  kept_same file id (Some name) h = keeps_same file id (s.leases name) h.1 ∙ ap (keeps (deciding z) file id) h.0

  entry_same : (file : ℕ) (e : ShareEntry) → SameEntry e → entry_counts (deciding s) file e ≡ entry_counts (deciding z) file e
  entry_same file e h = λ i. lives_same e.owner h.owner i || (not (e.durable == 0) && kept_same file e.id e.lease h.lease i)

  -- ---- a lock

  pub record SameLockRecord (key : ℕ) : Type 0 where
    pub lock : s.locks key ≡ z.locks key
    pub holders : IfSome (s.locks key) (λ (r : GLockRec). AllByRecursion (λ hold. SameOwner hold.sid) r.holds)
    pub watchers : IfSome (s.locks key) (λ (r : GLockRec). AllByRecursion SameWatch r.watchers)

  -- the parts that count
  pub clean_lock_same : (key : ℕ) → SameLockRecord key → option_and_then (clean_lock (deciding s) key) (s.locks key) ≡ option_and_then (clean_lock (deciding z) key) (z.locks key)
  clean_lock_same key h = by (s.locks key) h.holders h.watchers ∙ ap (option_and_then (clean_lock (deciding z) key)) h.lock
    where
      by : (o : Option GLockRec) → IfSome o (λ (r : GLockRec). AllByRecursion (λ hold. SameOwner hold.sid) r.holds) → IfSome o (λ (r : GLockRec). AllByRecursion SameWatch r.watchers)
          → option_and_then (clean_lock (deciding s) key) o ≡ option_and_then (clean_lock (deciding z) key) o
      by None a b = refl
      by (Some r) a b =
          let holds = filter_alike (hold_counts (deciding s)) (hold_counts (deciding z)) r.holds (all_mapped (λ (hold : Hold). SameOwner hold.sid) (λ hold. hold_counts (deciding s) hold ≡ hold_counts (deciding z) hold) (λ hold. lives_same hold.sid) r.holds a) in
          let watches = filter_alike (watch_counts (deciding s) (LockOf key)) (watch_counts (deciding z) (LockOf key)) r.watchers (all_mapped SameWatch (λ w. watch_counts (deciding s) (LockOf key) w ≡ watch_counts (deciding z) (LockOf key) w) (watch_same (LockOf key)) r.watchers b) in
          λ i. unless_both_empty (holds i) (watches i) (let x : GLockRec = record { holds = holds i; watchers = watches i } in x)

  -- ---- a worker

  pub record SameRegisterRecord (pid : ℕ) : Type 0 where
    pub register : s.register pid ≡ z.register pid
    pub watchers : IfSome (s.register pid) (λ (r : RegisterRec). AllByRecursion SameWatch r.watchers)

  pub clean_register_same : (pid : ℕ) → SameRegisterRecord pid → option_map (clean_register (deciding s)) (s.register pid) ≡ option_map (clean_register (deciding z)) (z.register pid)
  clean_register_same pid h = by (s.register pid) h.watchers ∙ ap (option_map (clean_register (deciding z))) h.register
    where
      by : (o : Option RegisterRec) → IfSome o (λ (r : RegisterRec). AllByRecursion SameWatch r.watchers) → option_map (clean_register (deciding s)) o ≡ option_map (clean_register (deciding z)) o
      by None a = refl
      by (Some r) a =
          let watches = filter_alike (register_watch_counts (deciding s)) (register_watch_counts (deciding z)) r.watchers
          (all_mapped SameWatch (λ w. register_watch_counts (deciding s) w ≡ register_watch_counts (deciding z) w) (λ w same. ap (λ m. has_token m w.sid.session w.call) same) r.watchers a) in
          λ i. Some (let x : RegisterRec = record r { watchers = watches i } in x)

  -- ---- a file

  pub record SameFileRecords (file : ℕ) : Type 0 where
    pub share : s.shares file ≡ z.shares file
    pub range : s.ranges file ≡ z.ranges file
    pub entries : IfSome (s.shares file) (λ (r : ShareRec). AllByRecursion SameEntry r.entries)
    pub watchers : IfSome (s.shares file) (λ (r : ShareRec). AllByRecursion SameWatch r.watchers)
    pub range_watchers : IfSome (s.ranges file) (λ (r : RangeRec). AllByRecursion SameWatch r.watchers)

  module _ (file : ℕ) (h : SameFileRecords file) where
    entries_same : (r : ShareRec) → AllByRecursion SameEntry r.entries → AllByRecursion (λ e. entry_counts (deciding s) file e ≡ entry_counts (deciding z) file e) r.entries
    entries_same r all = all_mapped SameEntry (λ e. entry_counts (deciding s) file e ≡ entry_counts (deciding z) file e) (entry_same file) r.entries all

    opens_of_record : (r : ShareRec) → AllByRecursion SameEntry r.entries
        → map (λ e. file_open (lives (deciding s)) (open_row file e)) (filter (entry_counts (deciding s) file) r.entries)
        ≡ map (λ e. file_open (lives (deciding z)) (open_row file e)) (filter (entry_counts (deciding z) file) r.entries)
    opens_of_record r all =
        ap (map (λ e. file_open (lives (deciding s)) (open_row file e))) (filter_alike (entry_counts (deciding s) file) (entry_counts (deciding z) file) r.entries (entries_same r all))
        ∙ map_each (λ e. file_open (lives (deciding s)) (open_row file e)) (λ e. file_open (lives (deciding z)) (open_row file e)) (filter (entry_counts (deciding z) file) r.entries) (λ e i.
        ap (λ b. let o : FileOpen = record { row = open_row file e; connected = b } in o)
        (lives_same e.owner (all_of SameEntry r.entries all e (in_filter (entry_counts (deciding z) file) r.entries e i).0).owner))

    opens_shown : (shown file s).opens ≡ (shown file z).opens
    opens_shown =
        map_part (λ e. file_open (lives (deciding s)) (open_row file e)) (λ (r : ShareRec). filter (entry_counts (deciding s) file) r.entries) (s.shares file)
        ∙ mapped_same (λ (r : ShareRec). AllByRecursion SameEntry r.entries) _ (λ r. map (λ e. file_open (lives (deciding z)) (open_row file e)) (filter (entry_counts (deciding z) file) r.entries)) [] (s.shares file) h.entries opens_of_record
        ∙ sym (map_part (λ e. file_open (lives (deciding z)) (open_row file e)) (λ (r : ShareRec). filter (entry_counts (deciding z) file) r.entries) (s.shares file))
        ∙ ap (λ o. map (λ e. file_open (lives (deciding z)) (open_row file e)) (part_of (λ (r : ShareRec). filter (entry_counts (deciding z) file) r.entries) o)) h.share

    -- ---- its ranges

    of_id_same : (id : OpenId) (o : Option ShareRec) → IfSome o (λ (r : ShareRec). AllByRecursion SameEntry r.entries) → entry_of_id_counts (deciding s) file id o ≡ entry_of_id_counts (deciding z) file id o
    of_id_same id None all = refl
    of_id_same id (Some r) all =
        any_alike (λ e. same_id e.id id && entry_counts (deciding s) file e) (λ e. same_id e.id id && entry_counts (deciding z) file e) r.entries
        (all_mapped SameEntry (λ e. (same_id e.id id && entry_counts (deciding s) file e) ≡ (same_id e.id id && entry_counts (deciding z) file e)) (λ e same i. same_id e.id id && entry_same file e same i) r.entries all)

    range_same : (item : RangeItem) → range_counts (deciding s) file item ≡ range_counts (deciding z) file item
    range_same item = of_id_same item.id (s.shares file) h.entries ∙ ap (entry_of_id_counts (deciding z) file item.id) h.share

    some_range : (o : Option RangeRec) → part_of (λ (r : RangeRec). filter (range_counts (deciding s) file) r.ranges) o ≡ part_of (λ (r : RangeRec). filter (range_counts (deciding z) file) r.ranges) o
    some_range None = refl
    some_range (Some r) = filter_alike (range_counts (deciding s) file) (range_counts (deciding z) file) r.ranges (all_by _ r.ranges (λ item i. range_same item))

    ranges_shown : (shown file s).ranges ≡ (shown file z).ranges
    ranges_shown = ap (map (range_row file)) (some_range (s.ranges file) ∙ ap (part_of (λ (r : RangeRec). filter (range_counts (deciding z) file) r.ranges)) h.range)

    -- ---- who waits

    watches_same : (spot : Spot) (ws : List WatchRec) → AllByRecursion SameWatch ws → filter (watch_counts (deciding s) spot) ws ≡ filter (watch_counts (deciding z) spot) ws
    watches_same spot ws all = filter_alike (watch_counts (deciding s) spot) (watch_counts (deciding z) spot) ws (all_mapped SameWatch (λ w. watch_counts (deciding s) spot w ≡ watch_counts (deciding z) spot w) (watch_same spot) ws all)

    watches_shown : (shown file s).open_watches ≡ (shown file z).open_watches
    watches_shown =
        ap (map watch_row)
        (mapped_same (λ (r : ShareRec). AllByRecursion SameWatch r.watchers) (λ r. filter (watch_counts (deciding s) (OpenOf file)) r.watchers) (λ r. filter (watch_counts (deciding z) (OpenOf file)) r.watchers) [] (s.shares file) h.watchers
        (λ r all. watches_same (OpenOf file) r.watchers all)
        ∙ ap (part_of (λ (r : ShareRec). filter (watch_counts (deciding z) (OpenOf file)) r.watchers)) h.share)

    range_watches_shown : (shown file s).range_watches ≡ (shown file z).range_watches
    range_watches_shown =
        ap (map watch_row)
        (mapped_same (λ (r : RangeRec). AllByRecursion SameWatch r.watchers) (λ r. filter (watch_counts (deciding s) (RangesOf file)) r.watchers) (λ r. filter (watch_counts (deciding z) (RangesOf file)) r.watchers) [] (s.ranges file) h.range_watchers
        (λ r all. watches_same (RangesOf file) r.watchers all)
        ∙ ap (part_of (λ (r : RangeRec). filter (watch_counts (deciding z) (RangesOf file)) r.watchers)) h.range)

    -- ---- its leases

    named_in : (name : LeaseName) (o : Option ShareRec) → IfSome o (λ (r : ShareRec). AllByRecursion SameEntry r.entries) → list_any (λ (e : ShareEntry). carries name e.lease) (part_of (λ (r : ShareRec). r.entries) o) ≡ true → SameLease name
    named_in name None all e = absurd cc
    named_in name (Some r) all e =
        let x = one_of (λ (e : ShareEntry). carries name e.lease) r.entries e in
        carried x.0.lease x.2 (all_of SameEntry r.entries all x.0 x.1).lease
      where
        carried : (lease : Option LeaseName) → carries name lease ≡ true → IfSome lease SameLease → SameLease name
        carried None c same = absurd cc
        carried (Some own) c same = subst SameLease (same_name-eq own name c) same

    lease_by : (name : LeaseName) (b : Bool) → is_named s file name ≡ b
        → cond b (option_map_or (if_of_file file name) (option_and_then (settled_lease (deciding s)) (s.leases name)) []) [] ≡ cond b (option_map_or (if_of_file file name) (option_and_then (settled_lease (deciding z)) (z.leases name)) []) []
    lease_by name false e = refl
    lease_by name true e =
        let same = named_in name (s.shares file) h.entries e in
        ap (λ o. option_map_or (if_of_file file name) o []) (settled_same (s.leases name) same.1 ∙ ap (option_and_then (settled_lease (deciding z))) same.0)

    leases_shown : (name : LeaseName) → lease_shown s file name ≡ lease_shown z file name
    leases_shown name =
        lease_by name (is_named s file name) refl
        ∙ ap (λ o. cond (list_any (λ (e : ShareEntry). carries name e.lease) (part_of (λ (r : ShareRec). r.entries) o)) (option_map_or (if_of_file file name) (option_and_then (settled_lease (deciding z)) (z.leases name)) []) []) h.share

    -- ---- whether it is to go

    pending_same : pending_shown s file ≡ pending_shown z file
    pending_same =
        mapped_same (λ (r : ShareRec). AllByRecursion SameEntry r.entries) (λ r. r.pending && pending_counts (deciding s) file r) (λ r. r.pending && pending_counts (deciding z) file r) false (s.shares file) h.entries
        (λ r all. ap (λ b. r.pending && b) (any_alike (entry_counts (deciding s) file) (entry_counts (deciding z) file) r.entries (entries_same r all)))
        ∙ ap (λ o. option_map_or (λ (r : ShareRec). r.pending && pending_counts (deciding z) file r) o false) h.share

    pub shown_same : shown file s ≡ shown file z
    shown_same = λ i. record {
      opens = opens_shown i;
      leases = λ name. leases_shown name i;
      ranges = ranges_shown i;
      open_watches = watches_shown i;
      range_watches = range_watches_shown i;
      pending = pending_same i;
    }
