-- What an entry writes stands for the table after it, where it does nothing beside the places that it writes.
use Rattle.std.proofs.Common.{◌≡◌, ℕ, Bool, true, false, cond, not, ◌==◌, ◌&&◌, List, [], ◌∷◌, map, filter, Option, Some, None, refl, sym, ap, ◌∙◌, subst, inl, inr, ◌⊎◌}
use Rattle.std.specs.Prelude.{IfSome}
use Rattle.std.specs.List.{list_any, AllByRecursion}
use Rattle.std.specs.Option.{option_map, option_and_then}
use Rattle.std.proofs.lemmas.Bool.{and_parts, and_from, or_left, or_right, or_cases, both_ways, eqb-true, eq-eqb, false_from_ne_true}
use Rattle.std.proofs.Math.Bool.{and-false}
use Rattle.sid_core.specs.declared.ids.Sid.{Sid}
use Rattle.sid_core.specs.declared.ids.OpenId.{OpenId}
use Rattle.sid_core.specs.declared.ids.LeaseName.{LeaseName}
use Rattle.sid_core.specs.declared.ids.Spot.{Spot}
use Rattle.sid_core.specs.declared.ids.Spot.TheVariants.{OpenOf, RangesOf, LockOf}
use Rattle.sid_core.specs.Ids.{same_id, same_sid}
use Rattle.sid_core.specs.Values.{has}
use Rattle.sid_core.specs.declared.bits.LeaseState.{LeaseState}
use Rattle.sid_core.specs.declared.setup.FileInfo.{FileInfo}
use Rattle.sid_core.specs.declared.setup.Setup.{Setup}
use Rattle.serial_table.specs.declared.rows.OpenRow.{OpenRow}
use Rattle.serial_table.specs.declared.rows.LeaseRow.{LeaseRow}
use Rattle.serial_table.specs.declared.rows.WorkerRow.{WorkerRow}
use Rattle.serial_table.specs.declared.table.Table.{Table}
use Rattle.serial_table.specs.ByNumber.{declared_at}
use Rattle.serial_table.specs.View as table
use Rattle.serial_table.specs.View.{View, view, is_of_file, is_range_of, is_hold_of, names_file, has_pid, carries, leases_at}
use Rattle.serial_table.specs.Sound.{IsSound, have_same_id, has_its_open, is_opened}
use Rattle.serial_table.specs.InSets.{IsInSets}
use Rattle.serial_table.proofs.Filters.{any_filtered}
use Rattle.serial_table.proofs.SameIds.{eqb-flip, same_id-refl, same_name-refl, same_sid-refl}
use Rattle.serial_table.proofs.Members.{IsIn, each, all_of, all_by, any_of, one_of, in_filter, passes_in, mapped_in, in_map, found_in, one_in}
use Rattle.record_codec.specs.declared.watch.WatchRec.{WatchRec}
use Rattle.record_codec.specs.declared.glock_rec.Hold.{Hold}
use Rattle.record_codec.specs.declared.glock_rec.GLockRec.{GLockRec}
use Rattle.record_codec.specs.declared.share_rec.ShareRec.{ShareRec}
use Rattle.record_codec.specs.declared.share_rec.ShareEntry.{ShareEntry}
use Rattle.record_codec.specs.declared.lease_rec.LeaseRef.{LeaseRef}
use Rattle.record_codec.specs.declared.lease_rec.LeaseRec.{LeaseRec}
use Rattle.record_codec.specs.declared.register_rec.RegisterRec.{RegisterRec}
use Rattle.record_codec.specs.declared.range_rec.RangeRec.{RangeRec}
use Rattle.record_codec.specs.declared.range_rec.RangeItem.{RangeItem}
use Rattle.record_codec.specs.Counts.{Records, is_current, lives, hold_counts, has_token, has_token_at, watch_counts, register_watch_counts, ref_counts, settled_state, settled_lease, keeps, is_kept, entry_counts, pending_counts, entry_of_id_counts, id_counts, range_counts}
use Rattle.stored_table.specs.Places.{Place, among}
use Rattle.stored_table.specs.Decoded.{AllRecords, deciding}
use Rattle.record_rows.specs.Rows.{entry_of, ref_of, item_of, hold_of, watch_of, token_of}
use Rattle.stored_table.specs.Exact.{is_empty, unless_both_empty, share_of, ranges_of, exact_share, exact_ranges, exact_lock, lease_with, opens_under, exact_lease, register_record, exact_register, mail_record, mail_if_alive, exact_mail}
use Rattle.stored_table.specs.Shown.{part_of}
use Rattle.stored_table.specs.Move.{AddedOpen}
use Rattle.stored_table.specs.Moved.{moved}
use Rattle.stored_table.specs.Stands.{AgreeWith, HasOpenRecords, clean_share, clean_ranges, clean_lock, clean_register}
use Rattle.stored_table.proofs.Telling.{none_in, entries_exact, no_opens, current_clean, current_exact, lives_alike}
use Rattle.table_laws.specs.Standing.{IsUnnamed}
use Rattle.table_laws.proofs.Lists.{filter_each, filter_every, filter_twice, filter_mapped, any_in_filter, any_mapped, any_alike}
use Rattle.table_laws.proofs.Contained.{share_place, ranges_place, lock_place, lease_place, register_place, mail_place, spot_place}
use Rattle.table_laws.proofs.Meets.{part_first}
use Rattle.table_laws.proofs.Lessened.{KeepsHandle, LessFile, Lessened}
use Rattle.table_laws.proofs.Tokens.{counts_at, counts_anywhere}
use Rattle.table_laws.proofs.Watching.{tokens_stay, waits_there, watches_stay, behind_stay, waits_anywhere, own_tokens, own_tokens_behind}
use Rattle.table_laws.proofs.Settling.{AreOwnersLess, is_left, some_left_by, settled_again, keeps_less}
use Rattle.table_laws.proofs.Exactly.{refs_back, in_opens, of_file, IsUnder, in_refs, exact_is, lease_row_of, kept_by_lease, entry_exact, exact_settled, kept_by}

-- ---- what is written, or else as before

either : {A : Type 0} (b : Bool) (x y : A) → (b ≡ false → y ≡ x) → cond b x y ≡ x
either true x y h = refl
either false x y h = h refl

-- the same of what is made of it
pub either_of : {A B : Type 0} (f : A → B) (b : Bool) (x y : A) (z : B) → f x ≡ z → (b ≡ false → f y ≡ z) → f (cond b x y) ≡ z
either_of f true x y z e h = e
either_of f false x y z e h = h refl

-- ---- records with two lists

-- A record that counts whole stays.
whole_stays : {R : Type 0} (f : R → Option R) (b : Bool) (r : R) → f r ≡ cond b None (Some r) → option_and_then f (cond b None (Some r)) ≡ cond b None (Some r)
whole_stays f true r e = refl
whole_stays f false r e = e

-- both lists thinned out
thinned : {A W R : Type 0} (mk left : List A → List W → R) (f : A → Bool) (g : W → Bool) (thin : R → Option R)
    → ((xs : List A) (ys : List W) → thin (mk xs ys) ≡ unless_both_empty (filter f xs) (filter g ys) (left xs ys))
    → (xs : List A) (ys : List W) → option_and_then thin (unless_both_empty xs ys (mk xs ys)) ≡ unless_both_empty (filter f xs) (filter g ys) (left xs ys)
thinned mk left f g thin h [] [] = refl
thinned mk left f g thin h [] (y ∷ ys) = h [] (y ∷ ys)
thinned mk left f g thin h (x ∷ xs) ys = h (x ∷ xs) ys

then_thinned : {R : Type 0} (f g thin : R → Option R) (o : Option R) → ((r : R) → o ≡ Some r → f r ≡ option_and_then thin (g r)) → option_and_then f o ≡ option_and_then thin (option_and_then g o)
then_thinned f g thin None h = refl
then_thinned f g thin (Some r) h = h r refl

and_turned : (a b : Bool) → (a && b) ≡ (b && a)
and_turned true true = refl
and_turned true false = refl
and_turned false true = refl
and_turned false false = refl

both_test : (b c : Bool) → (b ≡ true → c ≡ true) → b ≡ (c && b)
both_test true c h = sym (ap (λ x. x && true) (h refl))
both_test false c h = sym (and-false c)

-- a test that asks more, before or after the other
thins : {X : Type 0} (p q : X → Bool) (xs : List X) → ((x : X) → IsIn x xs → p x ≡ true → q x ≡ true) → filter p xs ≡ filter p (filter q xs)
thins p q xs h = filter_each p (λ x. q x && p x) xs (λ x i. both_test (p x) (q x) (h x i)) ∙ sym (filter_twice q p xs)

module _ (setup : Setup) (ps : List Place) (added : Option AddedOpen) (s : AllRecords) (t u : Table) (agree : AgreeWith setup s (view t))
    (sound : IsSound t) (sets : IsInSets setup t) (sound_after : IsSound u) (sets_after : IsInSets setup u)
    (broken : (name : LeaseName) → IfSome (s.leases name) KeepsHandle) (c : Lessened setup ps s t u) where
  abbrev v : View
  v = view t

  abbrev w : View
  w = view u

  abbrev after : AllRecords
  after = moved setup ps added w s

  -- those that decide what counts, before and after
  abbrev old : Records
  old = deciding s

  abbrev new : Records
  new = deciding after

  abbrev still : WatchRec → Bool
  still watch = c.waits.stays watch.sid watch.call

  not_here : (file : ℕ) → among (share_place setup file) ps ≡ false → c.here file ≡ false
  not_here file unmet = false_from_ne_true (c.here file) (λ e. both_ways (among (share_place setup file) ps) unmet (c.written file e).0)

  not_here_ranges : (file : ℕ) → among (ranges_place setup file) ps ≡ false → c.here file ≡ false
  not_here_ranges file unmet = false_from_ne_true (c.here file) (λ e. both_ways (among (ranges_place setup file) ps) unmet (c.written file e).1)

  -- ---- mailboxes

  mail_by : (pid : ℕ) → among (mail_place pid) ps ≡ false → (o : Option WorkerRow) → v.worker_of pid ≡ o → option_and_then (mail_if_alive v) o ≡ option_and_then (mail_if_alive w) o
  mail_by pid unmet None e = refl
  mail_by pid unmet (Some row) e =
      let own : among (mail_place row.pid) ps ≡ false = ap (λ p. among (mail_place p) ps) (eqb-true row.pid pid (found_in (has_pid pid) t.workers row e).1) ∙ unmet in
      let sid : Sid = record { pid = row.pid; session = row.session } in
      λ i. cond row.alive
      (mail_record row.session (map token_of (sym (tokens_stay setup ps s t u sound sound_after c.waits sid own) i)) (map (λ post. post.letter) (sym (c.letters sid own) i)))
      None

  mail_stays : (pid : ℕ) → among (mail_place pid) ps ≡ false → exact_mail v pid ≡ exact_mail w pid
  mail_stays pid unmet = mail_by pid unmet (v.worker_of pid) refl ∙ ap (option_and_then (mail_if_alive w)) (sym (c.worker_mail pid unmet))

  mail_is : (pid : ℕ) → after.mail pid ≡ exact_mail w pid
  mail_is pid = either (among (mail_place pid) ps) (exact_mail w pid) (s.mail pid) (λ unmet. agree.mail pid ∙ mail_stays pid unmet)

  -- ---- watches

  watch_is : (spot : Spot) (watch : WatchRec) → watch_counts new spot watch ≡ has_token_at (exact_mail w watch.sid.pid) watch.sid.session spot watch.call
  watch_is spot watch = ap (λ m. has_token_at m watch.sid.session spot watch.call) (mail_is watch.sid.pid)

  -- in a record that isn't written a watch counts as before, unless its waiter went
  watch_step : (spot : Spot) → among (spot_place setup spot) ps ≡ false → (watch : WatchRec) → watch_counts new spot watch ≡ (watch_counts old spot watch && still watch)
  watch_step spot unmet watch =
      watch_is spot watch
      ∙ counts_at u sound_after spot watch.sid watch.call
      ∙ waits_there setup ps s t u sound sound_after c.waits spot unmet watch.sid watch.call
      ∙ and_turned (still watch) _
      ∙ ap (λ b. b && still watch) (sym (counts_at t sound spot watch.sid watch.call))
      ∙ ap (λ m. has_token_at m watch.sid.session spot watch.call && still watch) (sym (agree.mail watch.sid.pid))

  watches_thin : (spot : Spot) → among (spot_place setup spot) ps ≡ false → (ws : List WatchRec) → filter (watch_counts new spot) ws ≡ filter still (filter (watch_counts old spot) ws)
  watches_thin spot unmet ws =
      filter_each (watch_counts new spot) (λ x. watch_counts old spot x && still x) ws (λ x i. watch_step spot unmet x)
      ∙ sym (filter_twice (watch_counts old spot) still ws)

  exact_thin : (spot : Spot) → among (spot_place setup spot) ps ≡ false → filter still (map watch_of (v.watches_on spot)) ≡ map watch_of (w.watches_on spot)
  exact_thin spot unmet =
      filter_mapped still watch_of (v.watches_on spot)
      ∙ ap (map watch_of) (sym (watches_stay setup ps s t u sound sound_after c.waits spot unmet))

  watches_whole : (spot : Spot) → filter (watch_counts new spot) (map watch_of (w.watches_on spot)) ≡ map watch_of (w.watches_on spot)
  watches_whole spot = filter_every (watch_counts new spot) (map watch_of (w.watches_on spot)) (λ x i. watch_is spot x ∙ own_tokens u sound_after spot x i)

  -- ---- register records

  register_watch_is : (watch : WatchRec) → register_watch_counts new watch ≡ has_token (exact_mail w watch.sid.pid) watch.sid.session watch.call
  register_watch_is watch = ap (λ m. has_token m watch.sid.session watch.call) (mail_is watch.sid.pid)

  register_thin : (pid : ℕ) (r : RegisterRec) → s.register pid ≡ Some r → filter (register_watch_counts new) r.watchers ≡ filter still (filter (register_watch_counts old) r.watchers)
  register_thin pid r e =
      filter_each (register_watch_counts new) (λ x. register_watch_counts old x && still x) r.watchers (λ x i.
      register_watch_is x
      ∙ counts_anywhere u sound_after x.sid x.call
      ∙ waits_anywhere setup ps s t u sound sound_after c.waits pid x (subst (λ o. IsIn x (part_of (λ (z : RegisterRec). z.watchers) o)) (sym e) i)
      ∙ and_turned (still x) _
      ∙ ap (λ b. b && still x) (sym (counts_anywhere t sound x.sid x.call))
      ∙ ap (λ m. has_token m x.sid.session x.call && still x) (sym (agree.mail x.sid.pid)))
      ∙ sym (filter_twice (register_watch_counts old) still r.watchers)

  abbrev thin_register : RegisterRec → RegisterRec
  thin_register r = record r { watchers = filter still r.watchers }

  register_unmet : (pid : ℕ) → among (register_place pid) ps ≡ false → (o : Option RegisterRec) → s.register pid ≡ o
      → option_map (clean_register new) o ≡ option_map thin_register (option_map (clean_register old) o)
  register_unmet pid unmet None e = refl
  register_unmet pid unmet (Some r) e = ap (λ ws. Some (let x : RegisterRec = record r { watchers = ws } in x)) (register_thin pid r e)

  register_exact : (pid : ℕ) → among (register_place pid) ps ≡ false → (o : Option WorkerRow) → v.worker_of pid ≡ o → option_map thin_register (option_map (register_record v) o) ≡ option_map (register_record w) o
  register_exact pid unmet None e = refl
  register_exact pid unmet (Some row) e =
      let sid : Sid = record { pid = row.pid; session = row.session } in
      let own : among (register_place sid.pid) ps ≡ false = ap (λ p. among (register_place p) ps) (eqb-true row.pid pid (found_in (has_pid pid) t.workers row e).1) ∙ unmet in
      let watches : filter still (map watch_of (v.watches_behind sid)) ≡ map watch_of (w.watches_behind sid) =
      filter_mapped still watch_of (v.watches_behind sid) ∙ ap (map watch_of) (sym (behind_stay setup ps s t u sound sound_after c.waits sid own)) in
      λ i. Some (let x : RegisterRec = record {
        worker = row.worker;
        alive = row.alive;
        session = row.session;
        connected = row.connected.0;
        ended = map (λ ended. ended.moment.0) (sym (c.worker_register row.pid own).1 i);
        watchers = watches i;
      } in x)

  register_whole : (o : Option WorkerRow) → option_map (clean_register new) (option_map (register_record w) o) ≡ option_map (register_record w) o
  register_whole None = refl
  register_whole (Some row) =
      let sid : Sid = record { pid = row.pid; session = row.session } in
      ap (λ ws. Some (let x : RegisterRec = record (register_record w row) { watchers = ws } in x))
      (filter_every (register_watch_counts new) (map watch_of (w.watches_behind sid)) (λ x i. register_watch_is x ∙ own_tokens_behind u sound_after sid x i))

  register_is : (pid : ℕ) → option_map (clean_register new) (after.register pid) ≡ exact_register w pid
  register_is pid =
      either_of (option_map (clean_register new)) (among (register_place pid) ps) (exact_register w pid) (s.register pid) (exact_register w pid)
      (register_whole (w.worker_of pid))
      (λ unmet.
      register_unmet pid unmet (s.register pid) refl
      ∙ ap (option_map thin_register) (agree.register pid)
      ∙ register_exact pid unmet (v.worker_of pid) refl
      ∙ ap (option_map (register_record w)) (sym (c.worker_register pid unmet).0))

  -- who lives
  living_is : (sid : Sid) → lives new sid ≡ table.lives w sid
  living_is sid =
      current_clean new sid.session (after.register sid.pid)
      ∙ ap (λ (o : Option RegisterRec). is_current o sid.session) (register_is sid.pid)
      ∙ current_exact w sid.session (w.worker_of sid.pid)

  -- who lives afterwards lived before, or no record names it
  living_less : (sid : Sid) → lives new sid ≡ true → (lives old sid ≡ true) ⊎ IsUnnamed s sid
  living_less sid e = by (c.living sid (sym (living_is sid) ∙ e))
    where
      by : (table.lives v sid ≡ true) ⊎ IsUnnamed s sid → (lives old sid ≡ true) ⊎ IsUnnamed s sid
      by (inl e) = inl (lives_alike setup s t agree sets sound sid ∙ e)
      by (inr h) = inr h

  -- of a part that a record has
  living_if : {X : Type 0} (owner : X → Sid) (parts : List X) → ((sid : Sid) → IsUnnamed s sid → AllByRecursion (λ x. same_sid sid (owner x) ≡ false) parts) → (x : X) → IsIn x parts
      → lives new (owner x) ≡ true → lives old (owner x) ≡ true
  living_if owner parts none x i e = by (living_less (owner x) e)
    where
      by : (lives old (owner x) ≡ true) ⊎ IsUnnamed s (owner x) → lives old (owner x) ≡ true
      by (inl e) = e
      by (inr h) = absurd (both_ways (same_sid (owner x) (owner x)) (all_of (λ y. same_sid (owner x) (owner y) ≡ false) parts (none (owner x) h) x i) (same_sid-refl (owner x)))

  owners_less : (name : LeaseName) (r : LeaseRec) → s.leases name ≡ Some r → AreOwnersLess new old r.refs
  owners_less name r is = living_if (λ (ref : LeaseRef). ref.owner) r.refs (λ sid h. subst (λ o. AllByRecursion (λ (ref : LeaseRef). same_sid sid ref.owner ≡ false) (part_of (λ (x : LeaseRec). x.refs) o)) is (h.refs name))

  all_owners_less : (name : LeaseName) (o : Option LeaseRec) → s.leases name ≡ o → IfSome o (λ r. AreOwnersLess new old r.refs)
  all_owners_less name None is = tt
  all_owners_less name (Some r) is = owners_less name r is

  -- ---- leases

  settled_twice : (o : Option LeaseRec) → IfSome o (λ r. AreOwnersLess new old r.refs) → IfSome o KeepsHandle → option_and_then (settled_lease new) o ≡ option_and_then (settled_lease new) (option_and_then (settled_lease old) o)
  settled_twice None less h = refl
  settled_twice (Some r) less h = settled_again new old r less h

  lease_is : (name : LeaseName) → option_and_then (settled_lease new) (after.leases name) ≡ exact_lease w name
  lease_is name =
      either_of (option_and_then (settled_lease new)) (among (lease_place name) ps) (exact_lease w name) (s.leases name) (exact_lease w name)
      (exact_settled u sound_after new living_is name)
      (λ unmet. settled_twice (s.leases name) (all_owners_less name (s.leases name) refl) (broken name) ∙ ap (option_and_then (settled_lease new)) (agree.leases name) ∙ c.leases name unmet new living_is)

  -- ---- entries of records that aren't written

  module _ (file : ℕ) (out : c.here file ≡ false) where
    abbrev less : LessFile file v w
    less = c.others file out

    -- an open that is still there was there before, and stays
    there_before : (o : OpenRow) → IsIn o (w.opens_of file) → IsIn o (v.opens_of file) × (less.stays o ≡ true)
    there_before o i = in_filter less.stays (v.opens_of file) o (subst (IsIn o) less.opens i)

    kept_before : (name : LeaseName) (id : OpenId) (b : Bool) → among (lease_place name) ps ≡ b → keeps new file id (cond b (exact_lease w name) (s.leases name)) ≡ true → keeps old file id (s.leases name) ≡ true
    kept_before name id false unmet e = keeps_less new old file id (s.leases name) (all_owners_less name (s.leases name) refl) (broken name) e
    kept_before name id true met e =
        let k = kept_by u sound_after new living_is name file id e in
        let here : IsIn k.row (leases_at w name file) = passes_in (λ (x : LeaseRow). x.file == file) (w.leases_of name) k.row k.under.lease (eq-eqb k.row.file file k.file) in
        let was = c.handles file out name k.row here k.handle in
        let l = in_filter (λ (x : LeaseRow). x.file == file) (v.leases_of name) was.0 was.1 in
        let same : was.0.file ≡ file = eqb-true was.0.file file l.1 in
        let o : IsIn k.open_row (v.opens_of was.0.file) = subst (λ g. IsIn k.open_row (v.opens_of g)) (sym same) (there_before k.open_row (subst (λ g. IsIn k.open_row (w.opens_of g)) k.file k.under.row)).0 in
        subst (λ g. keeps old g id (s.leases name) ≡ true) same
        (subst (λ x. keeps old was.0.file x (s.leases name) ≡ true) k.same
        (kept_by_lease t sound old (s.leases name) name was.0 k.open_row (agree.leases name) (record { lease = l.0; row = o; carried = k.under.carried }) was.2))

    kept_of_entry : (id : OpenId) (lease : Option LeaseName) → is_kept new file id lease ≡ true → is_kept old file id lease ≡ true
    kept_of_entry id None e = e
    kept_of_entry id (Some name) e = kept_before name id (among (lease_place name) ps) refl e

    counted_before : (r : ShareRec) → s.shares file ≡ Some r → (e : ShareEntry) → IsIn e r.entries → entry_counts new file e ≡ true → entry_counts old file e ≡ true
    counted_before r is e i h = by_case (or_cases (lives new e.owner) (not (e.durable == 0) && is_kept new file e.id e.lease) h)
      where
        by_case : (lives new e.owner ≡ true) ⊎ ((not (e.durable == 0) && is_kept new file e.id e.lease) ≡ true) → entry_counts old file e ≡ true
        by_case (inl l) = or_left (lives old e.owner) _ (living_if (λ (x : ShareEntry). x.owner) r.entries (λ sid h. subst (λ o. AllByRecursion (λ (x : ShareEntry). same_sid sid x.owner ≡ false) (part_of (λ (x : ShareRec). x.entries) o)) is (h.entries file)) e i l)
        by_case (inr k) =
            let p = and_parts (not (e.durable == 0)) (is_kept new file e.id e.lease) k in
            or_right (lives old e.owner) _ (and_from (not (e.durable == 0)) (is_kept old file e.id e.lease) p.0 (kept_of_entry e.id e.lease p.1))

    -- ---- an open's entry counts where the open stays

    -- the same id among the opens that stay is the same open
    stays_by_id : (o x : OpenRow) → IsIn o (v.opens_of file) → IsIn x (w.opens_of file) → x.id ≡ o.id → less.stays o ≡ true
    stays_by_id o x i j e =
        let k = there_before x j in
        let a = of_file t sound file x k.0 in
        let d = of_file t sound file o i in
        subst (λ y. less.stays y ≡ true) (one_in have_same_id (λ p q. id_flip p.id q.id) t.opens sound.rows.ids_differ x o a.0 d.0 (ap (λ m. same_id m o.id) e ∙ same_id-refl o.id)) k.1
      where
        id_flip : (p q : OpenId) → same_id p q ≡ same_id q p
        id_flip p q = λ m. eqb-flip p.pid q.pid m && eqb-flip p.call q.call m

    -- what a record keeps that settles to the exact one, the exact one keeps
    kept_exactly : (name : LeaseName) (o : OpenRow) (raw : LeaseRec) → s.leases name ≡ Some raw → option_and_then (settled_lease new) (Some raw) ≡ exact_lease w name
        → IsIn o (v.opens_of file) → o.lease ≡ Some name → not (o.durable == 0) ≡ true → keeps new file o.id (Some raw) ≡ true → keeps new file o.id (exact_lease w name) ≡ true
    kept_exactly name o raw is settles i lease durable e =
        let p = and_parts ((raw.file == file) && list_any (λ ref. same_id ref.id o.id) raw.refs) (has (settled_state new raw).0 2) e in
        let q = and_parts (raw.file == file) (list_any (λ ref. same_id ref.id o.id) raw.refs) p.0 in
        let row = of_file t sound file o i in
        let l = lease_row_of t sound o name row.0 lease in
        let under : IsUnder t sound name l.0 o = record { lease = l.1; row = subst (λ g. IsIn o (v.opens_of g)) (sym (l.2 ∙ row.1)) i; carried = ap (carries name) lease ∙ same_name-refl name } in
        let exact = exact_is t sound name l.0 o under in
        let was = is_left old raw (lease_with l.0 l.0.breaking (map ref_of (opens_under v name l.0.file))) (sym (ap (option_and_then (settled_lease old)) is) ∙ agree.leases name ∙ exact) in
        let in_raw : IsIn (ref_of o) raw.refs = (in_filter (ref_counts old raw) raw.refs (ref_of o)
        (subst (IsIn (ref_of o)) (sym (refs_back l.0 l.0.breaking (map ref_of (opens_under v name l.0.file))) ∙ was.refs) (in_refs t sound name l.0 o under))).0 in
        let counts : ref_counts new raw (ref_of o) ≡ true = or_right (lives new o.owner) _ (and_from (not (o.durable == 0)) (has (settled_state new raw).0 2) durable p.1) in
        let left = some_left_by new raw (ref_of o) (passes_in (ref_counts new raw) raw.refs (ref_of o) in_raw counts) in
        let whole : exact_lease w name ≡ Some left.0 = sym settles ∙ left.1 in
        let is_it = is_left new raw left.0 left.1 in
        let again = is_left new left.0 left.0 (sym (ap (option_and_then (settled_lease new)) whole) ∙ exact_settled u sound_after new living_is name ∙ whole) in
        subst (λ x. keeps new file o.id x ≡ true) (sym whole)
        (and_from ((left.0.file == file) && list_any (λ ref. same_id ref.id o.id) left.0.refs) (has (settled_state new left.0).0 2)
        (and_from (left.0.file == file) (list_any (λ ref. same_id ref.id o.id) left.0.refs)
        (ap (λ f. f == file) is_it.file ∙ q.0)
        (any_of (λ ref. same_id ref.id o.id) left.0.refs (ref_of o) (subst (IsIn (ref_of o)) (sym is_it.refs) (passes_in (ref_counts new raw) raw.refs (ref_of o) in_raw counts)) (same_id-refl o.id)))
        (ap (λ (x : LeaseState). has x.0 2) (sym again.held ∙ is_it.held) ∙ p.1))

    kept_either : (name : LeaseName) (o : OpenRow) (b : Bool) (x : Option LeaseRec) → among (lease_place name) ps ≡ b → s.leases name ≡ x → IsIn o (v.opens_of file) → o.lease ≡ Some name → not (o.durable == 0) ≡ true
        → keeps new file o.id (cond b (exact_lease w name) x) ≡ true → keeps new file o.id (exact_lease w name) ≡ true
    kept_either name o true x met is i lease durable e = e
    kept_either name o false None unmet is i lease durable e = absurd cc
    kept_either name o false (Some raw) unmet is i lease durable e =
        kept_exactly name o raw is
        (ap (option_and_then (settled_lease new)) (sym (ap (λ b. cond b (exact_lease w name) (s.leases name)) unmet ∙ is)) ∙ lease_is name) i lease durable e

    gone_by : (o : OpenRow) (lease : Option LeaseName) → o.lease ≡ lease → IsIn o (v.opens_of file) → not (o.durable == 0) ≡ true → is_kept new file o.id lease ≡ true → less.stays o ≡ true
    gone_by o None is i durable e = absurd cc
    gone_by o (Some name) is i durable e =
        let k = kept_by u sound_after new living_is name file o.id
        (kept_either name o (among (lease_place name) ps) (s.leases name) refl refl i is durable e) in
        stays_by_id o k.open_row i (subst (λ g. IsIn k.open_row (w.opens_of g)) k.file k.under.row) k.same

    entry_stays : (o : OpenRow) → IsIn o (v.opens_of file) → entry_counts new file (entry_of o) ≡ less.stays o
    entry_stays o i = by_stay (less.stays o) refl
      where
        by_stay : (b : Bool) → less.stays o ≡ b → entry_counts new file (entry_of o) ≡ b
        by_stay true st = entry_exact u sound_after new living_is lease_is file o (subst (IsIn o) (sym less.opens) (passes_in less.stays (v.opens_of file) o i st))
        by_stay false st = false_from_ne_true (entry_counts new file (entry_of o)) (λ e. counts_none (or_cases (lives new o.owner) (not (o.durable == 0) && is_kept new file o.id o.lease) e))
          where
            counts_none : (lives new o.owner ≡ true) ⊎ ((not (o.durable == 0) && is_kept new file o.id o.lease) ≡ true) → ⊥
            counts_none (inl l) = both_ways (lives new o.owner) (living_is o.owner ∙ less.gone o i st) l
            counts_none (inr k) =
                let p = and_parts (not (o.durable == 0)) (is_kept new file o.id o.lease) k in
                both_ways (less.stays o) st (gone_by o o.lease refl i p.0 p.1)

    -- those that counted thinned out
    entries_thin : (r : ShareRec) → s.shares file ≡ Some r → filter (entry_counts new file) r.entries ≡ filter (entry_counts new file) (filter (entry_counts old file) r.entries)
    entries_thin r is = thins (entry_counts new file) (entry_counts old file) r.entries (counted_before r is)

    exact_entries : filter (entry_counts new file) (map entry_of (v.opens_of file)) ≡ map entry_of (w.opens_of file)
    exact_entries =
        filter_mapped (entry_counts new file) entry_of (v.opens_of file)
        ∙ ap (map entry_of) (filter_each (λ o. entry_counts new file (entry_of o)) less.stays (v.opens_of file) entry_stays ∙ sym less.opens)

    exact_pending : (v.is_pending file && list_any (entry_counts new file) (map entry_of (v.opens_of file))) ≡ w.is_pending file
    exact_pending =
        ap (λ b. v.is_pending file && b) (any_mapped (entry_counts new file) entry_of (v.opens_of file)
        ∙ any_alike (λ o. entry_counts new file (entry_of o)) less.stays (v.opens_of file) (all_by _ (v.opens_of file) entry_stays)
        ∙ sym (any_filtered less.stays (v.opens_of file))
        ∙ ap (list_any (λ (o : OpenRow). true)) (sym less.opens))
        ∙ sym less.pending

  -- ---- share mode records

  abbrev share_with : ShareRec → Bool → List ShareEntry → List WatchRec → ShareRec
  share_with r pending entries watchers = record r { pending = pending; entries = entries; watchers = watchers }

  -- what is left of a cleaned record
  abbrev thin_share : ℕ → ShareRec → Option ShareRec
  thin_share file r =
      unless_both_empty (filter (entry_counts new file) r.entries) (filter still r.watchers)
      (share_with r (r.pending && list_any (entry_counts new file) r.entries) (filter (entry_counts new file) r.entries) (filter still r.watchers))

  pending_thin : (p q o : Bool) → (q ≡ true → o ≡ true) → (p && q) ≡ ((p && o) && q)
  pending_thin true true o h = ap (λ b. b && true) (sym (h refl))
  pending_thin true false o h = sym (and-false o)
  pending_thin false q o h = refl

  any_thin : (file : ℕ) → c.here file ≡ false → (es : List ShareEntry) → ((e : ShareEntry) → IsIn e es → entry_counts new file e ≡ true → entry_counts old file e ≡ true)
      → list_any (entry_counts new file) es ≡ list_any (entry_counts new file) (filter (entry_counts old file) es)
  any_thin file out es before =
      any_alike (entry_counts new file) (λ e. entry_counts old file e && entry_counts new file e) es
      (all_by _ es (λ e i. both_test (entry_counts new file e) (entry_counts old file e) (before e i)))
      ∙ sym (any_in_filter (entry_counts new file) (entry_counts old file) es)

  share_unmet : (file : ℕ) → among (share_place setup file) ps ≡ false → (r : ShareRec) → s.shares file ≡ Some r → clean_share new file r ≡ option_and_then (thin_share file) (clean_share old file r)
  share_unmet file unmet r is =
      let out = not_here file unmet in
      let cn = entry_counts new file in
      let co = entry_counts old file in
      let entries = entries_thin file out r is in
      let watches = watches_thin (OpenOf file) unmet r.watchers in
      let pending : (r.pending && list_any cn r.entries) ≡ ((r.pending && list_any co r.entries) && list_any cn (filter co r.entries)) =
      pending_thin r.pending (list_any cn r.entries) (list_any co r.entries)
      (λ e. let x = one_of cn r.entries e in any_of co r.entries x.0 x.1 (counted_before file out r is x.0 x.1 x.2))
      ∙ ap (λ b. (r.pending && list_any co r.entries) && b) (any_thin file out r.entries (counted_before file out r is)) in
      (λ i. unless_both_empty (entries i) (watches i) (share_with r (pending i) (entries i) (watches i)))
      ∙ sym (thinned (share_with r (r.pending && list_any co r.entries)) (λ xs ys. share_with r ((r.pending && list_any co r.entries) && list_any cn xs) (filter cn xs) (filter still ys)) cn still (thin_share file) (λ xs ys. refl)
      (filter co r.entries) (filter (watch_counts old (OpenOf file)) r.watchers))

  share_exact : (file : ℕ) → among (share_place setup file) ps ≡ false → (o : Option FileInfo) → option_and_then (thin_share file) (option_and_then (share_of v file) o) ≡ option_and_then (share_of w file) o
  share_exact file unmet None = refl
  share_exact file unmet (Some info) =
      let out = not_here file unmet in
      let cn = entry_counts new file in
      let base : ShareRec = record { file = file; path = info.path; name = info.name; pending = v.is_pending file; entries = map entry_of (v.opens_of file); watchers = map watch_of (v.watches_on (OpenOf file)) } in
      thinned (share_with base (v.is_pending file)) (λ xs ys. share_with base (v.is_pending file && list_any cn xs) (filter cn xs) (filter still ys)) cn still (thin_share file) (λ xs ys. refl)
      (map entry_of (v.opens_of file)) (map watch_of (v.watches_on (OpenOf file)))
      ∙ (λ i. unless_both_empty (exact_entries file out i) (exact_thin (OpenOf file) unmet i)
      (share_with base (exact_pending file out i) (exact_entries file out i) (exact_thin (OpenOf file) unmet i)))

  -- a file that is to go has an open
  pending_whole : (file : ℕ) (b : Bool) → w.is_pending file ≡ b → (b && list_any (entry_counts new file) (map entry_of (w.opens_of file))) ≡ b
  pending_whole file false e = refl
  pending_whole file true e =
      let p = one_of (names_file file) u.pending e in
      let o = one_of (is_of_file p.0) u.opens (each (is_opened u.opens) u.pending sound_after.pending_have_opens p.0 p.1) in
      let i : IsIn o.0 (w.opens_of file) = subst (λ g. IsIn o.0 (w.opens_of g)) (eqb-true o.0.file p.0 o.2 ∙ eqb-true p.0 file p.2) (in_opens u sound_after o.0 o.1) in
      any_of (entry_counts new file) (map entry_of (w.opens_of file)) (entry_of o.0) (mapped_in entry_of (w.opens_of file) o.0 i) (entry_exact u sound_after new living_is lease_is file o.0 i)

  share_whole : (file : ℕ) (o : Option FileInfo) → option_and_then (clean_share new file) (option_and_then (share_of w file) o) ≡ option_and_then (share_of w file) o
  share_whole file None = refl
  share_whole file (Some info) =
      let es = map entry_of (w.opens_of file) in
      let ws = map watch_of (w.watches_on (OpenOf file)) in
      let base : ShareRec = record { file = file; path = info.path; name = info.name; pending = w.is_pending file; entries = es; watchers = ws } in
      let entries : filter (entry_counts new file) es ≡ es = filter_every (entry_counts new file) es (λ e i.
      let o = in_map entry_of (w.opens_of file) e i in
      subst (λ x. entry_counts new file x ≡ true) o.2 (entry_exact u sound_after new living_is lease_is file o.0 o.1)) in
      whole_stays (clean_share new file) (is_empty es && is_empty ws) base
      (λ i. unless_both_empty (entries i) (watches_whole (OpenOf file) i) (share_with base (pending_whole file (w.is_pending file) refl i) (entries i) (watches_whole (OpenOf file) i)))

  share_is : (file : ℕ) → option_and_then (clean_share new file) (after.shares file) ≡ exact_share setup w file
  share_is file =
      either_of (option_and_then (clean_share new file)) (among (share_place setup file) ps) (exact_share setup w file) (s.shares file) (exact_share setup w file)
      (share_whole file (declared_at setup.files file))
      (λ unmet.
      then_thinned (clean_share new file) (clean_share old file) (thin_share file) (s.shares file) (share_unmet file unmet)
      ∙ ap (option_and_then (thin_share file)) (agree.shares file)
      ∙ share_exact file unmet (declared_at setup.files file))

  -- ---- ids that count

  ids_of : (r : Records) (file : ℕ) (id : OpenId) (o : Option ShareRec) → entry_of_id_counts r file id o ≡ list_any (λ e. same_id e.id id) (part_of (λ x. x.entries) (option_and_then (clean_share r file) o))
  ids_of r file id None = refl
  ids_of r file id (Some x) =
      let es = filter (entry_counts r file) x.entries in
      let ws = filter (watch_counts r (OpenOf file)) x.watchers in
      any_alike (λ e. same_id e.id id && entry_counts r file e) (λ e. entry_counts r file e && same_id e.id id) x.entries (all_by _ x.entries (λ e i. and_turned (same_id e.id id) (entry_counts r file e)))
      ∙ sym (any_in_filter (λ e. same_id e.id id) (entry_counts r file) x.entries)
      ∙ ap (list_any (λ (e : ShareEntry). same_id e.id id)) (sym (part_first (λ (y : ShareRec). y.entries) es ws (share_with x (x.pending && pending_counts r file x) es ws) refl))

  id_is : (file : ℕ) (id : OpenId) → id_counts new file id ≡ list_any (λ o. same_id o.id id) (w.opens_of file)
  id_is file id =
      ids_of new file id (after.shares file)
      ∙ ap (λ o. list_any (λ e. same_id e.id id) (part_of (λ (x : ShareRec). x.entries) o)) (share_is file)
      ∙ ap (list_any (λ (e : ShareEntry). same_id e.id id)) (entries_exact w file (declared_at setup.files file) (no_opens_after file))
      ∙ any_mapped (λ e. same_id e.id id) entry_of (w.opens_of file)
    where
      no_opens_after : (file : ℕ) → declared_at setup.files file ≡ None → w.opens_of file ≡ []
      no_opens_after file e = none_in (filter (is_of_file file) u.opens) (λ o i.
          let k = in_filter (is_of_file file) u.opens o i in
          Rattle.stored_table.proofs.Telling.not_declared setup.files file e (subst (Rattle.sid_core.specs.Setup.IsDeclared setup.files) (eqb-true o.file file k.1) (all_of (Rattle.serial_table.specs.InSets.IsOpenRow setup) u.opens sets_after.opens o k.0).file.declared))

  id_was : (file : ℕ) (id : OpenId) → id_counts old file id ≡ list_any (λ o. same_id o.id id) (v.opens_of file)
  id_was file id =
      ids_of old file id (s.shares file)
      ∙ ap (λ o. list_any (λ e. same_id e.id id) (part_of (λ (x : ShareRec). x.entries) o)) (agree.shares file)
      ∙ ap (list_any (λ (e : ShareEntry). same_id e.id id)) (entries_exact v file (declared_at setup.files file) (no_opens setup s t agree sets sound file))
      ∙ any_mapped (λ e. same_id e.id id) entry_of (v.opens_of file)

  -- ---- records of ranges

  abbrev ranges_with : RangeRec → List RangeItem → List WatchRec → RangeRec
  ranges_with r ranges watchers = record r { ranges = ranges; watchers = watchers }

  abbrev thin_ranges : ℕ → RangeRec → Option RangeRec
  thin_ranges file r = unless_both_empty (filter (range_counts new file) r.ranges) (filter still r.watchers) (ranges_with r (filter (range_counts new file) r.ranges) (filter still r.watchers))

  range_before : (file : ℕ) → c.here file ≡ false → (x : RangeItem) → range_counts new file x ≡ true → range_counts old file x ≡ true
  range_before file out x e =
      let o = one_of (λ (o : OpenRow). same_id o.id x.id) (w.opens_of file) (sym (id_is file x.id) ∙ e) in
      id_was file x.id ∙ any_of (λ (o : OpenRow). same_id o.id x.id) (v.opens_of file) o.0 (there_before file out o.0 o.1).0 o.2

  ranges_unmet : (file : ℕ) → among (ranges_place setup file) ps ≡ false → (r : RangeRec) → s.ranges file ≡ Some r → clean_ranges new file r ≡ option_and_then (thin_ranges file) (clean_ranges old file r)
  ranges_unmet file unmet r is =
      let out = not_here_ranges file unmet in
      let ranges = thins (range_counts new file) (range_counts old file) r.ranges (λ x i. range_before file out x) in
      let watches = watches_thin (RangesOf file) unmet r.watchers in
      (λ i. unless_both_empty (ranges i) (watches i) (ranges_with r (ranges i) (watches i)))
      ∙ sym (thinned (ranges_with r) (λ xs ys. ranges_with r (filter (range_counts new file) xs) (filter still ys)) (range_counts new file) still (thin_ranges file) (λ xs ys. refl)
      (filter (range_counts old file) r.ranges) (filter (watch_counts old (RangesOf file)) r.watchers))

  ranges_exact : (file : ℕ) → among (ranges_place setup file) ps ≡ false → (o : Option FileInfo) → option_and_then (thin_ranges file) (option_and_then (ranges_of v file) o) ≡ option_and_then (ranges_of w file) o
  ranges_exact file unmet None = refl
  ranges_exact file unmet (Some info) =
      let less = c.others file (not_here_ranges file unmet) in
      let base : RangeRec = record { file = file; ranges = map item_of (v.ranges_of file); watchers = map watch_of (v.watches_on (RangesOf file)) } in
      let ranges : filter (range_counts new file) (map item_of (v.ranges_of file)) ≡ map item_of (w.ranges_of file) =
      filter_mapped (range_counts new file) item_of (v.ranges_of file)
      ∙ ap (map item_of) (filter_each (λ r. range_counts new file (item_of r)) (λ r. list_any (λ o. same_id o.id r.id) (w.opens_of file)) (v.ranges_of file) (λ r i. id_is file r.id) ∙ sym less.ranges) in
      thinned (ranges_with base) (λ xs ys. ranges_with base (filter (range_counts new file) xs) (filter still ys)) (range_counts new file) still (thin_ranges file) (λ xs ys. refl)
      (map item_of (v.ranges_of file)) (map watch_of (v.watches_on (RangesOf file)))
      ∙ (λ i. unless_both_empty (ranges i) (exact_thin (RangesOf file) unmet i) (ranges_with base (ranges i) (exact_thin (RangesOf file) unmet i)))

  ranges_whole : (file : ℕ) (o : Option FileInfo) → option_and_then (clean_ranges new file) (option_and_then (ranges_of w file) o) ≡ option_and_then (ranges_of w file) o
  ranges_whole file None = refl
  ranges_whole file (Some info) =
      let rs = map item_of (w.ranges_of file) in
      let ws = map watch_of (w.watches_on (RangesOf file)) in
      let base : RangeRec = record { file = file; ranges = rs; watchers = ws } in
      let ranges : filter (range_counts new file) rs ≡ rs = filter_every (range_counts new file) rs (λ x i.
      let r = in_map item_of (w.ranges_of file) x i in
      let k = in_filter (is_range_of file) u.ranges r.0 r.1 in
      let o = one_of (λ o. (o.file == r.0.file) && same_id o.id r.0.id) u.opens (each (has_its_open u.opens) u.ranges sound_after.rows.ranges_have_opens r.0 k.0) in
      let p = and_parts (o.0.file == r.0.file) (same_id o.0.id r.0.id) o.2 in
      id_is file x.id
      ∙ any_of (λ y. same_id y.id x.id) (w.opens_of file) o.0
      (subst (λ g. IsIn o.0 (w.opens_of g)) (eqb-true o.0.file r.0.file p.0 ∙ eqb-true r.0.file file k.1) (in_opens u sound_after o.0 o.1))
      (ap (λ (y : RangeItem). same_id o.0.id y.id) (sym r.2) ∙ p.1)) in
      whole_stays (clean_ranges new file) (is_empty rs && is_empty ws) base
      (λ i. unless_both_empty (ranges i) (watches_whole (RangesOf file) i) (ranges_with base (ranges i) (watches_whole (RangesOf file) i)))

  ranges_are : (file : ℕ) → option_and_then (clean_ranges new file) (after.ranges file) ≡ exact_ranges setup w file
  ranges_are file =
      either_of (option_and_then (clean_ranges new file)) (among (ranges_place setup file) ps) (exact_ranges setup w file) (s.ranges file) (exact_ranges setup w file)
      (ranges_whole file (declared_at setup.files file))
      (λ unmet.
      then_thinned (clean_ranges new file) (clean_ranges old file) (thin_ranges file) (s.ranges file) (ranges_unmet file unmet)
      ∙ ap (option_and_then (thin_ranges file)) (agree.ranges file)
      ∙ ranges_exact file unmet (declared_at setup.files file))

  -- ---- records of global locks

  abbrev lock_with : List Hold → List WatchRec → GLockRec
  lock_with holds watchers = record { holds = holds; watchers = watchers }

  abbrev thin_lock : GLockRec → Option GLockRec
  thin_lock r = unless_both_empty (filter (hold_counts new) r.holds) (filter still r.watchers) (lock_with (filter (hold_counts new) r.holds) (filter still r.watchers))

  lock_unmet : (key : ℕ) → among (lock_place key) ps ≡ false → (r : GLockRec) → s.locks key ≡ Some r → clean_lock new key r ≡ option_and_then thin_lock (clean_lock old key r)
  lock_unmet key unmet r is =
      let holds = thins (hold_counts new) (hold_counts old) r.holds
      (living_if (λ (h : Hold). h.sid) r.holds (λ sid h. subst (λ o. AllByRecursion (λ (x : Hold). same_sid sid x.sid ≡ false) (part_of (λ (x : GLockRec). x.holds) o)) is (h.holds key))) in
      let watches = watches_thin (LockOf key) unmet r.watchers in
      (λ i. unless_both_empty (holds i) (watches i) (lock_with (holds i) (watches i)))
      ∙ sym (thinned lock_with (λ xs ys. lock_with (filter (hold_counts new) xs) (filter still ys)) (hold_counts new) still thin_lock (λ xs ys. refl) (filter (hold_counts old) r.holds) (filter (watch_counts old (LockOf key)) r.watchers))

  lock_exact : (key : ℕ) → among (lock_place key) ps ≡ false → option_and_then thin_lock (exact_lock v key) ≡ exact_lock w key
  lock_exact key unmet =
      let holds : filter (hold_counts new) (map hold_of (v.holds_of key)) ≡ map hold_of (w.holds_of key) =
      filter_mapped (hold_counts new) hold_of (v.holds_of key)
      ∙ ap (map hold_of) (filter_each (λ h. hold_counts new (hold_of h)) (λ h. table.lives w h.owner) (v.holds_of key) (λ h i. living_is h.owner) ∙ sym (c.holds key unmet)) in
      thinned lock_with (λ xs ys. lock_with (filter (hold_counts new) xs) (filter still ys)) (hold_counts new) still thin_lock (λ xs ys. refl) (map hold_of (v.holds_of key)) (map watch_of (v.watches_on (LockOf key)))
      ∙ (λ i. unless_both_empty (holds i) (exact_thin (LockOf key) unmet i) (lock_with (holds i) (exact_thin (LockOf key) unmet i)))

  lock_whole : (key : ℕ) → option_and_then (clean_lock new key) (exact_lock w key) ≡ exact_lock w key
  lock_whole key =
      let hs = map hold_of (w.holds_of key) in
      let ws = map watch_of (w.watches_on (LockOf key)) in
      let holds : filter (hold_counts new) hs ≡ hs = filter_every (hold_counts new) hs (λ h i.
      let r = in_map hold_of (w.holds_of key) h i in
      living_is h.sid ∙ ap (λ (x : Hold). table.lives w x.sid) (sym r.2)
      ∙ each (λ x. table.lives w x.owner) u.holds sound_after.rows.holders_live r.0 (in_filter (is_hold_of key) u.holds r.0 r.1).0) in
      whole_stays (clean_lock new key) (is_empty hs && is_empty ws) (lock_with hs ws)
      (λ i. unless_both_empty (holds i) (watches_whole (LockOf key) i) (lock_with (holds i) (watches_whole (LockOf key) i)))

  lock_is : (key : ℕ) → option_and_then (clean_lock new key) (after.locks key) ≡ exact_lock w key
  lock_is key =
      either_of (option_and_then (clean_lock new key)) (among (lock_place key) ps) (exact_lock w key) (s.locks key) (exact_lock w key)
      (lock_whole key)
      (λ unmet.
      then_thinned (clean_lock new key) (clean_lock old key) thin_lock (s.locks key) (lock_unmet key unmet)
      ∙ ap (option_and_then thin_lock) (agree.locks key)
      ∙ lock_exact key unmet)

  -- ---- all of it

  pub agree_after : ((file : ℕ) → AllByRecursion (HasOpenRecords (moved setup ps added (view u) s)) ((view u).opens_of file)) → AgreeWith setup (moved setup ps added (view u) s) (view u)
  agree_after opens = record {
    locks = lock_is;
    shares = share_is;
    leases = lease_is;
    register = register_is;
    ranges = ranges_are;
    mail = mail_is;
    opens = opens;
  }
