-- The exact records of a table have spellings, where the table is sound and bounded and its numbers lie in their sets.
use Rattle.std.proofs.Common.{◌≡◌, ℕ, zero, suc, ◌-◌, ◌^◌, ◌<◌, ◌≤◌, Bool, true, false, cond, ◌&&◌, ◌||◌, not, eqb, List, [], ◌∷◌, length, map, filter, find, Option, Some, None, refl, sym, ap, ap₂, subst, ◌∙◌, arith, ◌⊎◌, inl, inr}
use Rattle.std.specs.Prelude.{IfSome, is_some}
use Rattle.std.specs.List.{AllByRecursion}
use Rattle.std.specs.Option.{option_map, option_and_then}
use Rattle.std.proofs.lemmas.Bool.{eqb-true, and_parts, both_ways}
use Rattle.std.proofs.lemmas.List.{length-map}
use Rattle.std.proofs.lemmas.Option.{slice_get_within}
use Rattle.sid_core.specs.declared.ids.Sid.{Sid}
use Rattle.sid_core.specs.declared.ids.OpenId.{OpenId}
use Rattle.sid_core.specs.declared.ids.LeaseName.{LeaseName}
use Rattle.sid_core.specs.declared.ids.Spot.{Spot}
use Rattle.sid_core.specs.declared.ids.Spot.TheVariants.{OpenOf, RangesOf, LockOf}
use Rattle.sid_core.specs.declared.entry.Letter.{Letter}
use Rattle.sid_core.specs.declared.entry.Letter.TheVariants.{Wake, Break}
use Rattle.sid_core.specs.declared.entry.Entry.{Entry}
use Rattle.sid_core.specs.declared.entry.Event.{Event}
use Rattle.sid_core.specs.declared.entry.Event.TheVariants.{Called, Died, Tidied}
use Rattle.sid_core.specs.declared.call.Call.{Call}
use Rattle.sid_core.specs.declared.call.Call.TheVariants as call
use Rattle.sid_core.specs.declared.reply.Reply.{Reply}
use Rattle.sid_core.specs.declared.reply.Reply.TheVariants as replies
use Rattle.sid_core.specs.declared.setup.Setup.{Setup}
use Rattle.sid_core.specs.declared.setup.FileInfo.{FileInfo}
use Rattle.sid_core.specs.declared.setup.WorkerInfo.{WorkerInfo}
use Rattle.sid_core.specs.Ids.{same_name, same_spot}
use Rattle.sid_core.specs.Setup.{IsSetup, IsFile}
use Rattle.sid_core.specs.Values.{IsU32, IsU64, IsMoment, is_state}
use Rattle.serial_table.specs.declared.rows.OpenRow.{OpenRow}
use Rattle.serial_table.specs.declared.rows.LeaseRow.{LeaseRow}
use Rattle.serial_table.specs.declared.rows.Breaking.{Breaking}
use Rattle.serial_table.specs.declared.rows.RangeRow.{RangeRow}
use Rattle.serial_table.specs.declared.rows.HoldRow.{HoldRow}
use Rattle.serial_table.specs.declared.rows.WaiterRow.{WaiterRow}
use Rattle.serial_table.specs.declared.rows.WorkerRow.{WorkerRow}
use Rattle.serial_table.specs.declared.rows.EndedRow.{EndedRow}
use Rattle.serial_table.specs.declared.rows.Watch.{Watch}
use Rattle.serial_table.specs.declared.table.Table.{Table}
use Rattle.serial_table.specs.ByNumber.{declared_at}
use Rattle.serial_table.specs.View.{view, is_of_file, is_range_of, is_hold_of, has_name, has_id, has_pid, is_end_of, is_to, waits_on, waits_behind, waits_for, watch_on, watch_behind, is_lock, token_of}
use Rattle.serial_table.specs.View as table
use Rattle.serial_table.specs.Sound.{IsConsistent, is_leased_if_durable, may_delete_if_marked, states_agree, breaks_well}
use Rattle.serial_table.specs.Delete.{may_delete}
use Rattle.serial_table.specs.Bounded.{IsBounded}
use Rattle.serial_table.specs.InSets as sets
use Rattle.serial_table.specs.InSets.{IsInSets, ended_count, ended_sessions}
use Rattle.serial_table.proofs.Members.{IsIn, each, all_of, all_by, in_filter, in_map, found_in, some_same}
use Rattle.serial_table.proofs.Counting.{length_filtered}
use Rattle.record_codec.specs.declared.share_rec.ShareRec.{ShareRec}
use Rattle.record_codec.specs.declared.lease_rec.LeaseRef.{LeaseRef}
use Rattle.record_codec.specs.Fields.{IsSid, IsOpenId, IsWatch, IsListOf}
use Rattle.record_codec.specs.GLockRec.{glock_rec, IsHold, IsUpgradeWatch}
use Rattle.record_codec.specs.ShareRec.{share_rec, IsShareEntry, IsLeaseName}
use Rattle.record_codec.specs.LeaseRec.{lease_rec, IsLeaseRef, IsLeaseRec}
use Rattle.record_codec.specs.RegisterRec.{register_rec, IsRegisterRec}
use Rattle.record_codec.specs.RangeRec.{range_rec, IsRangeItem}
use Rattle.record_codec.specs.MailRec as mail
use Rattle.record_codec.specs.MailRec.{mail_rec, IsToken}
use Rattle.record_codec.proofs.OpenExact.{open_set}
use Rattle.record_codec.proofs.GLockExact.{glock_set}
use Rattle.record_codec.proofs.ShareExact.{share_set}
use Rattle.record_codec.proofs.LeaseExact.{lease_set}
use Rattle.record_codec.proofs.RegisterExact.{register_set}
use Rattle.record_codec.proofs.RangeExact.{range_set}
use Rattle.record_codec.proofs.MailExact.{mail_set}
use Rattle.record_codec.proofs.Unbroken.{unbroken_sets}
use Rattle.record_rows.specs.Rows as rows
use Rattle.record_rows.specs.Rows.{entry_of, ref_of, item_of, hold_of, watch_of}
use Rattle.stored_table.specs.Exact.{is_empty, unless_both_empty, share_of, ranges_of, exact_lock, lease_with, lease_record, opens_under, lease_of, exact_lease, register_record, mail_of_session, mail_if_alive}
use Rattle.stored_table.specs.Keys.{open_key}
use Rattle.stored_table.specs.Move.{added_for, added_by_caller, id_by, added_by_call, added_by, added}
use Rattle.stored_table.specs.Stands.{AddedHasSpelling, HasSpelling, HaveSpellings}
use Rattle.stored_table.proofs.Files.{at_place}

-- ---- lists

module _ {X : Type 0} where
  some_in : (xs : List X) → is_empty xs ≡ false → (x : X) × IsIn x xs
  some_in [] e = absurd cc
  some_in (x ∷ xs) e = (x, inl refl)

  -- a list with fewer than 2^32 elements, mapped
  listed : {Y : Type 0} (Is : Y → Type 0) (f : X → Y) (xs : List X) → length xs < 2 ^ 32 → ((x : X) → IsIn x xs → Is (f x)) → IsListOf Is (map f xs)
  listed Is f xs few h = record {
    few = subst (λ n. n < 2 ^ 32) (sym (length-map xs f)) few;
    each = all_by Is (map f xs) (λ y i. let m = in_map f xs y i in subst Is m.2 (h m.0 m.1));
  }

  fewer : (p : X → Bool) (xs : List X) → length xs < 2 ^ 32 → length (filter p xs) < 2 ^ 32
  fewer p xs few = omega (arith, length_filtered p xs, few)

  -- rows that pass a test, mapped
  kept : {Y : Type 0} (Is : Y → Type 0) (f : X → Y) (p : X → Bool) (xs : List X) → length xs < 2 ^ 32 → ((x : X) → IsIn x xs → p x ≡ true → Is (f x)) → IsListOf Is (map f (filter p xs))
  kept Is f p xs few h = listed Is f (filter p xs) (fewer p xs few) (λ x i. let k = in_filter p xs x i in h x k.0 k.1)

-- of two lists one has an element
one_has : {X Y : Type 0} (xs : List X) (ys : List Y) → (is_empty xs && is_empty ys) ≡ false → ((x : X) × IsIn x xs) ⊎ ((y : Y) × IsIn y ys)
one_has (x ∷ xs) ys e = inl (x, inl refl)
one_has [] (y ∷ ys) e = inr (y, inl refl)
one_has [] [] e = absurd cc

by_emptiness : {R : Type 0} (P : R → Type 0) (b : Bool) (r : R) → (b ≡ false → P r) → IfSome (cond b None (Some r)) P
by_emptiness P true r h = tt
by_emptiness P false r h = h refl

-- what holds of the record where one of its lists isn't empty holds of it where it is there
unless_some : {X Y R : Type 0} (P : R → Type 0) (xs : List X) (ys : List Y) (r : R) → ((is_empty xs && is_empty ys) ≡ false → P r) → IfSome (unless_both_empty xs ys r) P
unless_some P xs ys r h = by_emptiness P (is_empty xs && is_empty ys) r h

-- ---- names

sid_fits : (setup : Setup) (sid : Sid) → sets.IsSid setup sid → IsSid sid
sid_fits setup sid h = record { pid = h.pid.number; session = h.session.1 }

id_fits : (setup : Setup) (id : OpenId) → sets.IsOpenId setup id → IsOpenId id
id_fits setup id h = record { pid = h.pid.number; call = h.call }

lease_fits : (o : Option LeaseName) → IfSome o sets.IsLeaseName → IsLeaseName o
lease_fits None h = tt
lease_fits (Some name) h = record { guid = h.guid; key = h.key }

spot_fits : (setup : Setup) (spot : Spot) → sets.IsSpot setup spot → mail.IsSpot spot
spot_fits setup (OpenOf file) h = h.number
spot_fits setup (RangesOf file) h = h.number
spot_fits setup (LockOf key) h = h

letter_fits : (setup : Setup) (letter : Letter) → sets.IsLetter setup letter → mail.IsLetter letter
letter_fits setup (Wake call) h = h
letter_fits setup (Break file key from to ack) h = record { file = h.file.number; key = h.key; from = h.from; to = h.to; lowers = h.less }

-- the number of what is declared
number_of : {A : Type 0} (xs : List A) (number : ℕ) (x : A) → declared_at xs number ≡ Some x → (1 ≤ number) × (number ≤ length xs)
number_of xs zero x e = absurd cc
number_of xs (suc i) x e = (omega arith, omega (arith, slice_get_within xs i x e))

info_of : (files : List FileInfo) (file : ℕ) (info : FileInfo) → declared_at files file ≡ Some info → AllByRecursion IsFile files → IsFile info
info_of files zero info e all = absurd cc
info_of files (suc i) info e all = at_place IsFile files i info e all

-- ---- rows as parts of records

unleased : (o : OpenRow) → is_leased_if_durable o ≡ true → o.lease ≡ None → o.durable ≡ 0
unleased o h e = go (eqb o.durable 0) refl
  where
    go : (b : Bool) → eqb o.durable 0 ≡ b → o.durable ≡ 0
    go true d = eqb-true o.durable 0 d
    go false d = absurd (both_ways (is_leased_if_durable o) (ap₂ (λ b (l : Option LeaseName). not (not b) || is_some l) d e) h)

deletes : (o : OpenRow) → may_delete_if_marked o ≡ true → o.marked ≡ true → may_delete o.access ≡ true
deletes o h m = ap (λ b. not b || may_delete o.access) (sym m) ∙ h

entry_fits : (setup : Setup) (o : OpenRow) → sets.IsOpenRow setup o → is_leased_if_durable o ≡ true → may_delete_if_marked o ≡ true → IsShareEntry (entry_of o)
entry_fits setup o h leased marked = record {
  id = id_fits setup o.id h.id;
  owner = sid_fits setup o.owner h.owner;
  handle = h.handle;
  access = h.access;
  share = h.share;
  lease = lease_fits o.lease h.lease;
  durable = h.durable;
  without_lease = unleased o leased;
  opened = h.opened;
  marked = deletes o marked;
}

ref_fits : (setup : Setup) (o : OpenRow) → sets.IsOpenRow setup o → IsLeaseRef (ref_of o)
ref_fits setup o h = record { id = id_fits setup o.id h.id; owner = sid_fits setup o.owner h.owner; durable = h.durable }

item_fits : (setup : Setup) (r : RangeRow) → sets.IsRangeRow setup r → IsRangeItem (item_of r)
item_fits setup r h = record { id = id_fits setup r.id h.id; start = h.span.0; length = h.span.1; last = λ some. omega (arith, some, h.end) }

hold_fits : (setup : Setup) (h : HoldRow) → sets.IsHoldRow setup h → IsHold (hold_of h)
hold_fits setup h is = record { sid = sid_fits setup h.owner is.owner }

token_fits : (setup : Setup) (w : WaiterRow) → sets.IsWaiterRow setup w → IsToken (rows.token_of (token_of w))
token_fits setup w h = record { spot = spot_fits setup w.spot h.spot; call = h.call }

-- ---- the records of a table

module _ (setup : Setup) (t : Table) (is : IsSetup setup) (sets_ : IsInSets setup t) (sound : IsConsistent t) (bounds : IsBounded t) where
  open_in_sets : (o : OpenRow) → IsIn o t.opens → sets.IsOpenRow setup o
  open_in_sets o i = all_of (sets.IsOpenRow setup) t.opens sets_.opens o i

  waiter_in_sets : (w : WaiterRow) → IsIn w t.waiters → sets.IsWaiterRow setup w
  waiter_in_sets w i = all_of (sets.IsWaiterRow setup) t.waiters sets_.waiters w i

  -- the waiters that pass a test, as watches whose flag isn't written
  watches : (f : WaiterRow → Watch) (p : WaiterRow → Bool) → ((w : WaiterRow) → (f w).sid ≡ w.sid) → ((w : WaiterRow) → (f w).call ≡ w.call) → ((w : WaiterRow) → (f w).upgrade ≡ false)
      → IsListOf IsWatch (map watch_of (map f (filter p t.waiters)))
  watches f p same_sid same_call none =
      listed IsWatch watch_of (map f (filter p t.waiters)) (subst (λ n. n < 2 ^ 32) (sym (length-map (filter p t.waiters) f)) (fewer p t.waiters bounds.waiters))
      (λ w i. let m = in_map f (filter p t.waiters) w i in
      let row = m.0 in
      let h = waiter_in_sets row (in_filter p t.waiters row m.1).0 in
      subst (λ x. IsWatch (watch_of x)) m.2 (record {
        sid = subst IsSid (sym (same_sid row)) (sid_fits setup row.sid h.sid);
        call = subst IsU32 (sym (same_call row)) h.call;
        no_upgrade = none row;
      }))

  watches_of_file : (spot : Spot) → is_lock spot ≡ false → IsListOf IsWatch (map watch_of ((view t).watches_on spot))
  watches_of_file spot plain = watches (watch_on spot) (waits_on spot) (λ w. refl) (λ w. refl) (λ w. ap (λ b. b && w.upgrade) plain)

  watches_of_session : (sid : Sid) → IsListOf IsWatch (map watch_of ((view t).watches_behind sid))
  watches_of_session sid = watches watch_behind (waits_behind sid) (λ w. refl) (λ w. refl) (λ w. refl)

  -- ---- locks

  lock_watch : (key : ℕ) (w : WaiterRow) → IsIn w t.waiters → IsUpgradeWatch (watch_of (watch_on (LockOf key) w))
  lock_watch key w i = let h = waiter_in_sets w i in record { sid = sid_fits setup w.sid h.sid; call = h.call }

  lock_watches : (key : ℕ) → IsListOf IsUpgradeWatch (map watch_of ((view t).watches_on (LockOf key)))
  lock_watches key =
      listed IsUpgradeWatch watch_of (map (watch_on (LockOf key)) (filter (waits_on (LockOf key)) t.waiters))
      (subst (λ n. n < 2 ^ 32) (sym (length-map (filter (waits_on (LockOf key)) t.waiters) (watch_on (LockOf key)))) (fewer (waits_on (LockOf key)) t.waiters bounds.waiters))
      (λ w i. let m = in_map (watch_on (LockOf key)) (filter (waits_on (LockOf key)) t.waiters) w i in
      subst (λ x. IsUpgradeWatch (watch_of x)) m.2 (lock_watch key m.0 (in_filter (waits_on (LockOf key)) t.waiters m.0 m.1).0))

  key_of_spot : (key : ℕ) (spot : Spot) → sets.IsSpot setup spot → same_spot spot (LockOf key) ≡ true → key < 2 ^ 64
  key_of_spot key (LockOf other) h e = subst IsU64 (eqb-true other key e) h
  key_of_spot key (OpenOf file) h e = absurd cc
  key_of_spot key (RangesOf file) h e = absurd cc

  key_by : (key : ℕ) → ((h : _) × IsIn h (map hold_of (filter (is_hold_of key) t.holds))) ⊎ ((w : _) × IsIn w (map watch_of (map (watch_on (LockOf key)) (filter (waits_on (LockOf key)) t.waiters)))) → key < 2 ^ 64
  key_by key (inl h) =
      let m = in_map hold_of (filter (is_hold_of key) t.holds) h.0 h.1 in
      let k = in_filter (is_hold_of key) t.holds m.0 m.1 in
      subst IsU64 (eqb-true m.0.key key k.1) (all_of (sets.IsHoldRow setup) t.holds sets_.holds m.0 k.0).key
  key_by key (inr w) =
      let m = in_map watch_of (map (watch_on (LockOf key)) (filter (waits_on (LockOf key)) t.waiters)) w.0 w.1 in
      let l = in_map (watch_on (LockOf key)) (filter (waits_on (LockOf key)) t.waiters) m.0 m.1 in
      let k = in_filter (waits_on (LockOf key)) t.waiters l.0 l.1 in
      key_of_spot key l.0.spot (waiter_in_sets l.0 k.0).spot k.1

  lock_spells : (key : ℕ) → HasSpelling glock_rec 1 (key < 2 ^ 64) (exact_lock (view t) key)
  lock_spells key =
      let holds = map hold_of ((view t).holds_of key) in
      let watchers = map watch_of ((view t).watches_on (LockOf key)) in
      unless_some (λ x. glock_rec.valid (1, x) × (key < 2 ^ 64)) holds watchers (record { holds = holds; watchers = watchers })
      (λ e. (
        (glock_set (record { holds = holds; watchers = watchers })).0 (record {
          holds = kept IsHold hold_of (is_hold_of key) t.holds bounds.holds (λ h i _. hold_fits setup h (all_of (sets.IsHoldRow setup) t.holds sets_.holds h i));
          watchers = lock_watches key;
        }),
        key_by key (one_has holds watchers e),
      ))

  -- ---- files

  file_fits : (file : ℕ) (info : FileInfo) → declared_at setup.files file ≡ Some info → IsU32 file
  file_fits file info e = omega (arith, (number_of setup.files file info e).1, is.few_files)

  entries : (file : ℕ) → IsListOf IsShareEntry (map entry_of ((view t).opens_of file))
  entries file = kept IsShareEntry entry_of (is_of_file file) t.opens bounds.opens (λ o i _. entry_fits setup o (open_in_sets o i) (each is_leased_if_durable t.opens sound.durable_are_leased o i) (each may_delete_if_marked t.opens sound.marked_may_delete o i))

  share_by : (file : ℕ) (o : Option FileInfo) → declared_at setup.files file ≡ o → IfSome (option_and_then (share_of (view t) file) o) (λ r. share_rec.valid (2, r))
  share_by file None e = tt
  share_by file (Some info) e =
      let es = map entry_of ((view t).opens_of file) in
      let ws = map watch_of ((view t).watches_on (OpenOf file)) in
      let r : ShareRec = record { file = file; path = info.path; name = info.name; pending = (view t).is_pending file; entries = es; watchers = ws } in
      let h = info_of setup.files file info e is.files in
      unless_some (λ x. share_rec.valid (2, x)) es ws r
      (λ _. (share_set r).0 (record { file = file_fits file info e; path = h.path; name = h.name; entries = entries file; watchers = watches_of_file (OpenOf file) refl }))

  items : (file : ℕ) → IsListOf IsRangeItem (map item_of ((view t).ranges_of file))
  items file = kept IsRangeItem item_of (is_range_of file) t.ranges bounds.ranges (λ r i _. item_fits setup r (all_of (sets.IsRangeRow setup) t.ranges sets_.ranges r i))

  ranges_by : (file : ℕ) (o : Option FileInfo) → declared_at setup.files file ≡ o → IfSome (option_and_then (ranges_of (view t) file) o) (λ r. range_rec.valid (1, r))
  ranges_by file None e = tt
  ranges_by file (Some info) e =
      let rs = map item_of ((view t).ranges_of file) in
      let ws = map watch_of ((view t).watches_on (RangesOf file)) in
      unless_some (λ x. range_rec.valid (1, x)) rs ws (record { file = file; ranges = rs; watchers = ws })
      (λ _. (range_set (record { file = file; ranges = rs; watchers = ws })).0 (record { file = file_fits file info e; ranges = items file; watchers = watches_of_file (RangesOf file) refl }))

  -- ---- leases

  refs : (name : LeaseName) (file : ℕ) → IsListOf IsLeaseRef (map ref_of (opens_under (view t) name file))
  refs name file =
      listed IsLeaseRef ref_of (opens_under (view t) name file) (fewer (λ o. table.carries name o.lease) (filter (is_of_file file) t.opens) (fewer (is_of_file file) t.opens bounds.opens))
      (λ o i. ref_fits setup o (open_in_sets o (in_filter (is_of_file file) t.opens o (in_filter (λ x. table.carries name x.lease) (filter (is_of_file file) t.opens) o i).0).0))

  lease_valid : (l : LeaseRow) (b : Option Breaking) (rs : List LeaseRef) → sets.IsLeaseRow setup l → breaks_well l.held.0 b ≡ true → IfSome b sets.IsBreaking → IsListOf IsLeaseRef rs → IsLeaseRec (lease_with l b rs)
  lease_valid l None rs h well until all = unbroken_sets l.file l.held rs h.file.number h.held all
  lease_valid l (Some b) rs h well until all =
      let p = and_parts (is_state b.asked.0) _ well in
      let q = and_parts (is_state b.needed.0) _ p.1 in
      let r = and_parts _ _ q.1 in
      record {
        file = h.file.number;
        held = h.held;
        asked = p.0;
        needed = q.0;
        unbroken_asked = λ e. absurd cc;
        unbroken_needed = λ e. absurd cc;
        broken_asked = λ _. r.1;
        broken_needed = λ _. r.0;
        unbroken_until = λ e. absurd cc;
        broken_until = λ _. record { first = until.until.0; last = until.until.1 };
        refs = all;
      }

  lease_some : (name : LeaseName) (l : LeaseRow) (rs : List LeaseRef) → IsLeaseRec (lease_with l l.breaking rs) → IsLeaseName (Some name) → HasSpelling lease_rec 2 ((name.guid < 2 ^ 64) × (name.key < 2 ^ 64)) (lease_record l rs)
  lease_some name l [] h n = tt
  lease_some name l (r ∷ rs) h n = ((lease_set (lease_with l l.breaking (r ∷ rs))).0 h, (n.guid, n.key))

  name_fits : (name own : LeaseName) → same_name own name ≡ true → sets.IsLeaseName own → IsLeaseName (Some name)
  name_fits name own e h =
      let p = and_parts (eqb own.guid name.guid) (eqb own.key name.key) e in
      record { guid = subst IsU64 (eqb-true own.guid name.guid p.0) h.guid; key = subst IsU64 (eqb-true own.key name.key p.1) h.key }

  lease_by : (name : LeaseName) (ls : List LeaseRow) → ((l : LeaseRow) → IsIn l ls → IsIn l t.leases × (has_name name l ≡ true)) → HasSpelling lease_rec 2 ((name.guid < 2 ^ 64) × (name.key < 2 ^ 64)) (lease_of (view t) name ls)
  lease_by name [] h = tt
  lease_by name (l ∷ ls) h =
      let i = h l (inl refl) in
      let row = all_of (sets.IsLeaseRow setup) t.leases sets_.leases l i.0 in
      let agree = and_parts _ (breaks_well l.held.0 l.breaking) (each (λ x. states_agree x.held.0 x.breaking) t.leases sound.leases_agree l i.0) in
      lease_some name l (map ref_of (opens_under (view t) name l.file))
      (lease_valid l l.breaking (map ref_of (opens_under (view t) name l.file)) row agree.1 row.breaking (refs name l.file))
      (name_fits name l.name i.1 row.name)

  lease_spells : (name : LeaseName) → HasSpelling lease_rec 2 ((name.guid < 2 ^ 64) × (name.key < 2 ^ 64)) (exact_lease (view t) name)
  lease_spells name = lease_by name ((view t).leases_of name) (λ l i. in_filter (has_name name) t.leases l i)

  -- ---- workers

  worker_in_sets : (w : WorkerRow) → IsIn w t.workers → sets.IsWorkerRow setup w
  worker_in_sets w i = all_of (sets.IsWorkerRow setup) t.workers sets_.workers w i

  worker_number : (w : WorkerRow) (o : Option WorkerInfo) → declared_at setup.workers w.worker ≡ o → option_map (λ info. info.pid) o ≡ Some w.pid → (1 ≤ w.worker) × (w.worker ≤ length setup.workers)
  worker_number w None e h = absurd cc
  worker_number w (Some info) e h = number_of setup.workers w.worker info e

  ended_moments : (pid : ℕ) → AllByRecursion IsMoment (map (λ e. e.moment.0) ((view t).ended_of pid))
  ended_moments pid = all_by IsMoment (map (λ e. e.moment.0) ((view t).ended_of pid))
      (λ m i. let x = in_map (λ (e : EndedRow). e.moment.0) (filter (is_end_of pid) t.ended) m i in
      subst IsMoment x.2 (all_of (sets.IsEndedRow setup) t.ended sets_.ended x.0 (in_filter (is_end_of pid) t.ended x.0 x.1).0).moment)

  ended_number : (w : WorkerRow) → find (has_pid w.pid) t.workers ≡ Some w → length (map (λ e. e.moment.0) ((view t).ended_of w.pid)) ≡ ended_count w
  ended_number w e =
      length-map ((view t).ended_of w.pid) (λ e. e.moment.0) ∙ sym (length-map ((view t).ended_of w.pid) (λ e. e.sid.session))
      ∙ some_is (find (has_pid w.pid) t.workers) e (sets_.ended_all w.pid)
    where
      some_is : (o : Option WorkerRow) → o ≡ Some w → IfSome o (λ x. length (ended_sessions t w.pid) ≡ ended_count x) → length (ended_sessions t w.pid) ≡ ended_count w
      some_is None h f = absurd cc
      some_is (Some x) h f = f ∙ ap ended_count (some_same x w h)

  living_count : (w : WorkerRow) → w.alive ≡ true → ended_count w ≡ w.session - 1
  living_count w e = ap (λ b. cond b (w.session - 1) w.session) e

  dead_count : (w : WorkerRow) → w.alive ≡ false → ended_count w ≡ w.session
  dead_count w e = ap (λ b. cond b (w.session - 1) w.session) e

  register_valid : (w : WorkerRow) → IsIn w t.workers → find (has_pid w.pid) t.workers ≡ Some w → IsRegisterRec (register_record (view t) w)
  register_valid w i e =
      let h = worker_in_sets w i in
      let number = worker_number w (declared_at setup.workers w.worker) refl h.declared in
      record {
        first_worker = number.0;
        last_worker = omega (arith, number.1, is.few_workers);
        first_session = h.session.0;
        session = h.session.1;
        connected = h.connected;
        ended = ended_moments w.pid;
        ended_of_living = λ a. ended_number w e ∙ living_count w a;
        ended_of_dead = λ a. ended_number w e ∙ dead_count w a;
        watchers = watches_of_session (record { pid = w.pid; session = w.session });
      }

  -- the worker that is found under a pid
  found_pid : (pid : ℕ) (w : WorkerRow) → find (has_pid pid) t.workers ≡ Some w → IsIn w t.workers × (w.pid ≡ pid)
  found_pid pid w e = let f = found_in (has_pid pid) t.workers w e in (f.0, eqb-true w.pid pid f.1)

  register_by : (pid : ℕ) (o : Option WorkerRow) → find (has_pid pid) t.workers ≡ o → HasSpelling register_rec 1 (pid < 2 ^ 32) (option_map (register_record (view t)) o)
  register_by pid None e = tt
  register_by pid (Some w) e =
      let f = found_pid pid w e in (
        (register_set (register_record (view t) w)).0 (register_valid w f.0 (ap (λ p. find (has_pid p) t.workers) f.1 ∙ e)),
        subst IsU32 f.1 (worker_in_sets w f.0).pid.number,
      )

  -- ---- mailboxes

  tokens : (sid : Sid) → IsListOf IsToken (map rows.token_of ((view t).tokens_of sid))
  tokens sid =
      listed IsToken rows.token_of (map token_of (filter (waits_for sid) t.waiters))
      (subst (λ n. n < 2 ^ 32) (sym (length-map (filter (waits_for sid) t.waiters) token_of)) (fewer (waits_for sid) t.waiters bounds.waiters))
      (λ x i. let m = in_map token_of (filter (waits_for sid) t.waiters) x i in
      subst (λ y. IsToken (rows.token_of y)) m.2 (token_fits setup m.0 (waiter_in_sets m.0 (in_filter (waits_for sid) t.waiters m.0 m.1).0)))

  letters : (sid : Sid) → IsListOf mail.IsLetter (map (λ post. post.letter) ((view t).letters_of sid))
  letters sid = kept mail.IsLetter (λ post. post.letter) (is_to sid) t.letters bounds.letters (λ post i _. letter_fits setup post.letter (all_of (sets.IsPost setup) t.letters sets_.letters post i).letter)

  mail_some : (w : WorkerRow) (pid : ℕ) → IsIn w t.workers → w.pid ≡ pid → HasSpelling mail_rec 1 (pid < 2 ^ 32) (mail_of_session (view t) (record { pid = w.pid; session = w.session }))
  mail_some w pid i same =
      let sid : Sid = record { pid = w.pid; session = w.session } in
      let h = worker_in_sets w i in
      let ts = map rows.token_of ((view t).tokens_of sid) in
      let ls = map (λ post. post.letter) ((view t).letters_of sid) in
      unless_some (λ x. mail_rec.valid (1, x) × (pid < 2 ^ 32)) ts ls (record { session = w.session; tokens = ts; letters = ls })
      (λ _. ((mail_set (record { session = w.session; tokens = ts; letters = ls })).0 (record { session = h.session.1; tokens = tokens sid; letters = letters sid }), subst IsU32 same h.pid.number))

  mail_alive : (w : WorkerRow) (pid : ℕ) (b : Bool) → IsIn w t.workers → w.pid ≡ pid → HasSpelling mail_rec 1 (pid < 2 ^ 32) (cond b (mail_of_session (view t) (record { pid = w.pid; session = w.session })) None)
  mail_alive w pid true i same = mail_some w pid i same
  mail_alive w pid false i same = tt

  mail_by : (pid : ℕ) (o : Option WorkerRow) → find (has_pid pid) t.workers ≡ o → HasSpelling mail_rec 1 (pid < 2 ^ 32) (option_and_then (mail_if_alive (view t)) o)
  mail_by pid None e = tt
  mail_by pid (Some w) e = let f = found_pid pid w e in mail_alive w pid w.alive f.0 f.1

  pub have_spellings : HaveSpellings setup (view t)
  have_spellings = record {
    locks = lock_spells;
    shares = λ file. share_by file (declared_at setup.files file) refl;
    leases = lease_spells;
    register = λ pid. register_by pid (find (has_pid pid) t.workers) refl;
    ranges = λ file. ranges_by file (declared_at setup.files file) refl;
    mail = λ pid. mail_by pid (find (has_pid pid) t.workers) refl;
  }

  -- ---- the open record that an entry adds

  added_some : (key : List ℕ) (os : List OpenRow) → ((o : OpenRow) → IsIn o os → IsIn o t.opens) → AddedHasSpelling (added_for key os)
  added_some key [] h = tt
  added_some key (o ∷ os) h =
      let row = open_in_sets o (h o (inl refl)) in
      (open_set (record { id = o.id; file = o.file })).0 (record { id = id_fits setup o.id row.id; file = row.file.number })

  added_by_id : (number : ℕ) (id : OpenId) (o : Option WorkerInfo) → AddedHasSpelling (option_and_then (added_by_caller (view t) number id) o)
  added_by_id number id None = tt
  added_by_id number id (Some caller) = added_some (open_key caller.pid number) ((view t).opens_of_id id) (λ o i. (in_filter (has_id id) t.opens o i).0)

  added_open : (number : ℕ) (o : Option WorkerInfo) → AddedHasSpelling (option_and_then (λ caller. added_by_caller (view t) number (id_by number caller) caller) o)
  added_open number None = tt
  added_open number (Some caller) = added_by_id number (id_by number caller) (Some caller)

  added_reconnect : (by number made : ℕ) (o : Option WorkerInfo)
      → AddedHasSpelling (option_and_then (λ named. option_and_then (added_by_caller (view t) number (id_by made named)) (declared_at setup.workers by)) o)
  added_reconnect by number made None = tt
  added_reconnect by number made (Some named) = added_by_id number (id_by made named) (declared_at setup.workers by)

  added_call : (by number : ℕ) (call : Call) (reply : Reply) → AddedHasSpelling (added_by_call setup (view t) by number call reply)
  added_call by number (call.OpenFile file access share lease durable overwrite delete) reply = by_open reply
    where
      by_open : (r : Reply) → AddedHasSpelling (added_by_call setup (view t) by number (call.OpenFile file access share lease durable overwrite delete) r)
      by_open (replies.Granted state stays) = added_open number (declared_at setup.workers by)
      by_open _ = tt
  added_call by number (call.Reconnect worker made key) reply = by_reconnect reply
    where
      by_reconnect : (r : Reply) → AddedHasSpelling (added_by_call setup (view t) by number (call.Reconnect worker made key) r)
      by_reconnect (replies.Granted state stays) = added_reconnect by number made (declared_at setup.workers worker)
      by_reconnect _ = tt
  added_call by number _ reply = tt

  added_event : (by : ℕ) (event : Event) → AddedHasSpelling (added_by setup (view t) by event)
  added_event by (Called number moment call reply) = added_call by number call reply
  added_event by (Died worker moment) = tt
  added_event by (Tidied chain) = tt

  pub added_has_spelling : (e : Entry) → AddedHasSpelling (added setup (view t) e)
  added_has_spelling e = added_event e.by e.what
