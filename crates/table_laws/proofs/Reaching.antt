-- What counts of a record goes by the records that it reaches.
use Rattle.std.proofs.Common.{◌≡◌, ℕ, zero, suc, Bool, false, cond, not, ◌&&◌, ◌||◌, eqb, List, [], ◌∷◌, ◌++◌, map, Option, Some, None, refl, sym, ap, ◌∙◌}
use Rattle.std.specs.Prelude.{IfSome}
use Rattle.std.specs.List.{AllByRecursion, flat_map, list_any}
use Rattle.std.specs.Option.{option_map_or}
use Rattle.sid_core.specs.declared.ids.Sid.{Sid}
use Rattle.sid_core.specs.declared.ids.OpenId.{OpenId}
use Rattle.sid_core.specs.declared.ids.LeaseName.{LeaseName}
use Rattle.sid_core.specs.declared.ids.Spot.{Spot}
use Rattle.sid_core.specs.declared.ids.Spot.TheVariants.{OpenOf, RangesOf, LockOf}
use Rattle.sid_core.specs.Ids.{same_id}
use Rattle.sid_core.specs.Values.{has}
use Rattle.sid_core.specs.declared.entry.Entry.{Entry}
use Rattle.sid_core.specs.declared.setup.Setup.{Setup}
use Rattle.serial_table.specs.View.{View}
use Rattle.chain_map.specs.declared.db.Db.{Db}
use Rattle.chain_map.specs.declared.db.Db.TheVariants as db
use Rattle.record_codec.specs.declared.watch.WatchRec.{WatchRec}
use Rattle.record_codec.specs.declared.glock_rec.GLockRec.{GLockRec}
use Rattle.record_codec.specs.declared.glock_rec.Hold.{Hold}
use Rattle.record_codec.specs.declared.share_rec.ShareRec.{ShareRec}
use Rattle.record_codec.specs.declared.share_rec.ShareEntry.{ShareEntry}
use Rattle.record_codec.specs.declared.lease_rec.LeaseRec.{LeaseRec}
use Rattle.record_codec.specs.declared.range_rec.RangeRec.{RangeRec}
use Rattle.record_codec.specs.declared.range_rec.RangeItem.{RangeItem}
use Rattle.record_codec.specs.OpenRec.{open_rec}
use Rattle.record_codec.specs.GLockRec.{glock_rec}
use Rattle.record_codec.specs.ShareRec.{share_rec}
use Rattle.record_codec.specs.LeaseRec.{lease_rec}
use Rattle.record_codec.specs.RegisterRec.{register_rec}
use Rattle.record_codec.specs.RangeRec.{range_rec}
use Rattle.record_codec.specs.MailRec.{mail_rec}
use Rattle.record_codec.specs.Counts.{Records, is_current, lives, hold_counts, has_token, has_token_at, watch_counts, register_watch_counts, is_connected, is_unanswered, settled_state, ref_counts, keeps, is_kept, entry_counts, entry_of_id_counts, id_counts, range_counts}
use Rattle.stored_table.specs.Keys.{pid_key, name_key, file_key, pid_in, lock_in, file_in}
use Rattle.stored_table.specs.Places.{Chains, Place, place, HasChains, among, value_at}
use Rattle.stored_table.specs.Decoded.{decoded, deciding, records_of}
use Rattle.stored_table.specs.Met.{places_in, record_at, holders, watchers, entry_owners, names_in, name_of_entry, ref_owners}
use Rattle.stored_table.specs.Move.{move, added, is_by_old, new_at, places_written}
use Rattle.stored_table.proofs.Meeting.{all_split, all_unmap}
use Rattle.stored_table.proofs.Writing.{value_at-write_all}
use Rattle.table_laws.specs.Reached.{decided_by, share_decided_by, reached, IsUnchanged, ReachesUnchanged, AllAlike, LockAlike, ShareAlike, LeaseAlike, RangesAlike, CountAlikeIn, SamePartsCount}

-- ---- lists

module _ {X : Type 0} where
  all_mapped : (P Q : X → Type 0) → ((x : X) → P x → Q x) → (xs : List X) → AllByRecursion P xs → AllByRecursion Q xs
  all_mapped P Q f [] all = tt
  all_mapped P Q f (x ∷ xs) all = (f x all.0, all_mapped P Q f xs all.1)

  any_alike : (p q : X → Bool) (xs : List X) → AllByRecursion (λ x. p x ≡ q x) xs → list_any p xs ≡ list_any q xs
  any_alike p q [] all = refl
  any_alike p q (x ∷ xs) all = λ i. all.0 i || any_alike p q xs all.1 i

  all_swapped : {I : Type 0} (P : I → X → Type 0) (xs : List X) → ((i : I) → AllByRecursion (P i) xs) → AllByRecursion (λ x. (i : I) → P i x) xs
  all_swapped P [] h = tt
  all_swapped P (x ∷ xs) h = ((λ i. (h i).0), all_swapped P xs (λ i. (h i).1))

  all_zipped : (P Q : X → Type 0) (xs : List X) → AllByRecursion P xs → AllByRecursion Q xs → AllByRecursion (λ x. P x × Q x) xs
  all_zipped P Q [] a b = tt
  all_zipped P Q (x ∷ xs) a b = ((a.0, b.0), all_zipped P Q xs a.1 b.1)

  all_flat : {Y : Type 0} (P : Y → Type 0) (f : X → List Y) (xs : List X) → AllByRecursion P (flat_map f xs) → AllByRecursion (λ x. AllByRecursion P (f x)) xs
  all_flat P f [] h = tt
  all_flat P f (x ∷ xs) h = let parts = all_split P (f x) (flat_map f xs) h in (parts.0, all_flat P f xs parts.1)

-- ---- what the records that decide a record are, and what they reach

module _ (setup : Setup) (n : ℕ) (k j : Chains) where
  abbrev a : Records
  a = deciding (records_of setup n k)

  abbrev b : Records
  b = deciding (records_of setup n j)

  -- the same here, and reaching the same
  abbrev Stays : Place → Type 0
  Stays p = IsUnchanged n k j p × ReachesUnchanged setup n k j p

  abbrev AllStay : List Place → Type 0
  AllStay ps = AllByRecursion Stays ps

  next : (p : Place) → ReachesUnchanged setup n k j p → AllStay (decided_by setup n k p.db p.key)
  next p h =
      all_zipped (IsUnchanged n k j) (ReachesUnchanged setup n k j) (decided_by setup n k p.db p.key)
      (all_split (IsUnchanged n k j) (decided_by setup n k p.db p.key) (flat_map (reached setup n k zero) (decided_by setup n k p.db p.key)) (h 1)).0
      (all_swapped (λ steps q. AllByRecursion (IsUnchanged n k j) (reached setup n k steps q)) (decided_by setup n k p.db p.key)
      (λ steps. all_flat (IsUnchanged n k j) (reached setup n k steps) (decided_by setup n k p.db p.key)
      (all_split (IsUnchanged n k j) (decided_by setup n k p.db p.key) (flat_map (reached setup n k steps) (decided_by setup n k p.db p.key)) (h (suc steps))).1))

  -- ---- sessions and mailboxes

  lives_alike : (sid : Sid) → Stays (place db.Register (pid_key sid.pid)) → lives a sid ≡ lives b sid
  lives_alike sid h = ap (λ value. is_current (decoded register_rec value) sid.session) h.0

  token_at_alike : (spot : Spot) (w : WatchRec) → Stays (place db.Mailbox (pid_key w.sid.pid)) → watch_counts a spot w ≡ watch_counts b spot w
  token_at_alike spot w h = ap (λ value. has_token_at (decoded mail_rec value) w.sid.session spot w.call) h.0

  token_alike : (w : WatchRec) → Stays (place db.Mailbox (pid_key w.sid.pid)) → register_watch_counts a w ≡ register_watch_counts b w
  token_alike w h = ap (λ value. has_token (decoded mail_rec value) w.sid.session w.call) h.0

  -- the places of what is named by a list's items
  each_named : {X : Type 0} (d : Db) (key : X → List ℕ) (xs : List X) → AllStay (places_in d (map key xs)) → AllByRecursion (λ x. Stays (place d (key x))) xs
  each_named d key xs h = all_unmap (λ y. Stays (place d y)) key xs (all_unmap Stays (place d) (map key xs) h)

  watches_alike : (spot : Spot) (ws : List WatchRec) → AllStay (places_in db.Mailbox (watchers ws)) → AllAlike (watch_counts a spot) (watch_counts b spot) ws
  watches_alike spot ws h = all_mapped (λ w. Stays (place db.Mailbox (pid_key w.sid.pid))) (λ w. watch_counts a spot w ≡ watch_counts b spot w) (token_at_alike spot) ws (each_named db.Mailbox (λ w. pid_key w.sid.pid) ws h)

  register_watches_alike : (ws : List WatchRec) → AllStay (places_in db.Mailbox (watchers ws)) → AllAlike (register_watch_counts a) (register_watch_counts b) ws
  register_watches_alike ws h = all_mapped (λ w. Stays (place db.Mailbox (pid_key w.sid.pid))) (λ w. register_watch_counts a w ≡ register_watch_counts b w) token_alike ws (each_named db.Mailbox (λ w. pid_key w.sid.pid) ws h)

  -- ---- leases

  module _ (x : LeaseRec) (h : AllStay (places_in db.Register (ref_owners x))) where
    owners_alike : AllByRecursion (λ ref. is_connected a ref ≡ is_connected b ref) x.refs
    owners_alike = all_mapped (λ ref. Stays (place db.Register (pid_key ref.owner.pid))) (λ ref. is_connected a ref ≡ is_connected b ref) (λ ref. lives_alike ref.owner) x.refs (each_named db.Register (λ ref. pid_key ref.owner.pid) x.refs h)

    unanswered_alike : is_unanswered a x ≡ is_unanswered b x
    unanswered_alike = λ i. x.breaking && not (any_alike (is_connected a) (is_connected b) x.refs owners_alike i)

    state_alike : settled_state a x ≡ settled_state b x
    state_alike = λ i. cond (unanswered_alike i) x.needed x.held

    lease_alike : LeaseAlike a b x
    lease_alike = (
      all_mapped (λ ref. is_connected a ref ≡ is_connected b ref) (λ ref. ref_counts a x ref ≡ ref_counts b x ref)
          (λ ref e i. e i || (not (eqb ref.durable 0) && has (state_alike i).0 2)) x.refs owners_alike,
      unanswered_alike,
    )

  keeps_alike : (file : ℕ) (id : OpenId) (o : Option LeaseRec) → AllStay (option_map_or (λ r. places_in db.Register (ref_owners r)) o []) → keeps a file id o ≡ keeps b file id o
  keeps_alike file id None h = refl
  keeps_alike file id (Some x) h = λ i. eqb x.file file && list_any (λ ref. same_id ref.id id) x.refs && has (state_alike x h i).0 2

  -- ---- entries

  kept_alike : (file : ℕ) (id : OpenId) (o : Option LeaseName) → AllStay (places_in db.Leases (name_of_entry o)) → is_kept a file id o ≡ is_kept b file id o
  kept_alike file id None h = refl
  kept_alike file id (Some name) h =
      keeps_alike file id (a.lease name) (next (place db.Leases (name_key name)) (h.0).1)
      ∙ ap (λ value. keeps b file id (decoded lease_rec value)) (h.0).0

  entry_alike : (file : ℕ) (e : ShareEntry) → Stays (place db.Register (pid_key e.owner.pid)) → AllStay (places_in db.Leases (name_of_entry e.lease)) → entry_counts a file e ≡ entry_counts b file e
  entry_alike file e owner lease = λ i. lives_alike e.owner owner i || (not (eqb e.durable 0) && kept_alike file e.id e.lease lease i)

  names_each : (es : List ShareEntry) → AllStay (places_in db.Leases (flat_map (λ e. name_of_entry e.lease) es)) → AllByRecursion (λ e. AllStay (places_in db.Leases (name_of_entry e.lease))) es
  names_each es h =
      all_mapped (λ (e : ShareEntry). AllByRecursion (λ y. Stays (place db.Leases y)) (name_of_entry e.lease)) (λ e. AllStay (places_in db.Leases (name_of_entry e.lease)))
      (λ e. one e.lease) es (all_flat (λ y. Stays (place db.Leases y)) (λ e. name_of_entry e.lease) es (all_unmap Stays (place db.Leases) (flat_map (λ e. name_of_entry e.lease) es) h))
    where
      one : (o : Option LeaseName) → AllByRecursion (λ y. Stays (place db.Leases y)) (name_of_entry o) → AllStay (places_in db.Leases (name_of_entry o))
      one None h = tt
      one (Some name) h = h

  entries_alike : (file : ℕ) (x : ShareRec) → AllStay (share_decided_by x) → AllAlike (entry_counts a file) (entry_counts b file) x.entries
  entries_alike file x h =
      let parts = all_split Stays (places_in db.Register (entry_owners x)) _ h in
      let later = all_split Stays (places_in db.Leases (names_in x)) _ parts.1 in
      all_mapped (λ (e : ShareEntry). Stays (place db.Register (pid_key e.owner.pid)) × AllStay (places_in db.Leases (name_of_entry e.lease))) (λ e. entry_counts a file e ≡ entry_counts b file e)
      (λ e s. entry_alike file e s.0 s.1) x.entries
      (all_zipped (λ (e : ShareEntry). Stays (place db.Register (pid_key e.owner.pid))) (λ e. AllStay (places_in db.Leases (name_of_entry e.lease))) x.entries
      (each_named db.Register (λ (e : ShareEntry). pid_key e.owner.pid) x.entries parts.0) (names_each x.entries later.0))

  share_alike : (file : ℕ) (x : ShareRec) → AllStay (share_decided_by x) → ShareAlike a b file x
  share_alike file x h =
      let parts = all_split Stays (places_in db.Register (entry_owners x)) _ h in
      let later = all_split Stays (places_in db.Leases (names_in x)) _ parts.1 in (
        entries_alike file x h,
        watches_alike (OpenOf file) x.watchers later.1,
        any_alike (entry_counts a file) (entry_counts b file) x.entries (entries_alike file x h),
      )

  of_id_alike : (file : ℕ) (id : OpenId) (o : Option ShareRec) → AllStay (option_map_or share_decided_by o []) → entry_of_id_counts a file id o ≡ entry_of_id_counts b file id o
  of_id_alike file id None h = refl
  of_id_alike file id (Some x) h =
      any_alike (λ e. same_id e.id id && entry_counts a file e) (λ e. same_id e.id id && entry_counts b file e) x.entries
      (all_mapped (λ (e : ShareEntry). entry_counts a file e ≡ entry_counts b file e) (λ e. (same_id e.id id && entry_counts a file e) ≡ (same_id e.id id && entry_counts b file e))
      (λ e s i. same_id e.id id && s i) x.entries (entries_alike file x h))

  id_alike : (file : ℕ) (id : OpenId) → Stays (place db.Locking (file_key setup file)) → id_counts a file id ≡ id_counts b file id
  id_alike file id h =
      of_id_alike file id (a.share file) (next (place db.Locking (file_key setup file)) h.1)
      ∙ ap (λ value. entry_of_id_counts b file id (decoded share_rec value)) h.0

  -- ---- each kind of record

  lock_alike : (key : ℕ) (x : GLockRec) → AllStay (places_in db.Register (holders x) ++ places_in db.Mailbox (watchers x.watchers)) → LockAlike a b key x
  lock_alike key x h =
      let parts = all_split Stays (places_in db.Register (holders x)) _ h in (
        all_mapped (λ (hold : Hold). Stays (place db.Register (pid_key hold.sid.pid))) (λ hold. hold_counts a hold ≡ hold_counts b hold) (λ hold. lives_alike hold.sid) x.holds
            (each_named db.Register (λ (hold : Hold). pid_key hold.sid.pid) x.holds parts.0),
        watches_alike (LockOf key) x.watchers parts.1,
      )

  all_same : {X : Type 0} (P : X → Type 0) (xs : List X) → ((x : X) → P x) → AllByRecursion P xs
  all_same P [] h = tt
  all_same P (x ∷ xs) h = (h x, all_same P xs h)

  ranges_alike : (file : ℕ) (x : RangeRec) → AllStay (place db.Locking (file_key setup file) ∷ places_in db.Mailbox (watchers x.watchers)) → RangesAlike a b file x
  ranges_alike file x h = (
    all_same (λ (r : RangeItem). range_counts a file r ≡ range_counts b file r) x.ranges (λ r. id_alike file r.id h.0),
    watches_alike (RangesOf file) x.watchers h.1,
  )

  if_some : {X : Type 0} (P : X → Type 0) (f : X → List Place) (o : Option X) → AllStay (option_map_or f o []) → ((x : X) → AllStay (f x) → P x) → IfSome o P
  if_some P f None h g = tt
  if_some P f (Some x) h g = g x h

  count_alike : (d : Db) (key : List ℕ) → AllStay (decided_by setup n k d key) → CountAlikeIn setup a b d key (value_at n k (place d key))
  count_alike db.Opens key h = if_some _ _ (record_at open_rec n k db.Opens key) h (λ x s. id_alike x.file x.id s.0)
  count_alike db.GLock key h = if_some _ _ (record_at glock_rec n k db.GLock key) h (lock_alike (lock_in key))
  count_alike db.Locking key h = if_some _ _ (record_at share_rec n k db.Locking key) h (share_alike (file_in setup key))
  count_alike db.Leases key h = if_some _ _ (record_at lease_rec n k db.Leases key) h lease_alike
  count_alike db.Register key h = if_some _ _ (record_at register_rec n k db.Register key) h (λ x s. register_watches_alike x.watchers s)
  count_alike db.Brlock key h = if_some _ _ (record_at range_rec n k db.Brlock key) h (ranges_alike (file_in setup key))
  count_alike db.Mailbox key h = if_some _ _ (record_at mail_rec n k db.Mailbox key) h (λ x s. lives_alike (record { pid = pid_in key; session = x.session }) s.0)

  pub same_parts_count : (p : Place) → value_at n k p ≡ value_at n j p → ReachesUnchanged setup n k j p → SamePartsCount setup n k j p
  same_parts_count p same h = record { same = same; alike = count_alike p.db p.key (next p h) }

-- what isn't written stays
pub elsewhere : (setup : Setup) (n : ℕ) (k : Chains) (e : Entry) (v : View) (p : Place) → HasChains n k → among p (places_written setup n k e) ≡ false
    → ReachesUnchanged setup n k (move setup n k e v) p → SamePartsCount setup n k (move setup n k e v) p
elsewhere setup n k e v p chains out h =
    same_parts_count setup n k (move setup n k e v) p
    (sym (value_at-write_all n (new_at setup n k (is_by_old setup e) v (added setup v e)) (places_written setup n k e) k p chains
    ∙ ap (λ c. cond c (new_at setup n k (is_by_old setup e) v (added setup v e) p) (value_at n k p)) out)) h
