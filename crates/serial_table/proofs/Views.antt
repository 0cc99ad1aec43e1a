-- Each change of the table is the same change key by key.
use Rattle.std.proofs.Common.{◌≡◌, ◌==◌, ◌&&◌, ◌+◌, not, ℕ, Bool, true, false, cond, List, [], ◌∷◌, ◌++◌, filter, map, Option, Some, None, refl, sym, ap, ◌∙◌, eq-eqb}
use Rattle.std.proofs.lemmas.Bool.{eqb-true, and_parts, or_parts}
use Rattle.std.specs.List.{list_any}
use Rattle.std.proofs.lemmas.List.{map-append}
use Rattle.std.proofs.lemmas.List.Elements.{filter-append}
use Rattle.sid_core.specs.declared.ids.Sid.{Sid}
use Rattle.sid_core.specs.declared.ids.OpenId.{OpenId}
use Rattle.sid_core.specs.declared.ids.LeaseName.{LeaseName}
use Rattle.sid_core.specs.declared.ids.Moment.{Moment}
use Rattle.sid_core.specs.declared.call.Mode.{Mode}
use Rattle.sid_core.specs.declared.bits.LeaseState.{LeaseState}
use Rattle.sid_core.specs.declared.entry.Post.{Post}
use Rattle.sid_core.specs.Ids.{same_name, same_id, same_sid}
use Rattle.serial_table.specs.declared.rows.OpenRow.{OpenRow}
use Rattle.serial_table.specs.declared.rows.LeaseRow.{LeaseRow}
use Rattle.serial_table.specs.declared.rows.RangeRow.{RangeRow}
use Rattle.serial_table.specs.declared.rows.HoldRow.{HoldRow}
use Rattle.serial_table.specs.declared.rows.WaiterRow.{WaiterRow}
use Rattle.serial_table.specs.declared.rows.WorkerRow.{WorkerRow}
use Rattle.serial_table.specs.declared.rows.Breaking.{Breaking}
use Rattle.serial_table.specs.declared.table.Table.{Table}
use Rattle.serial_table.specs.declared.change.Change.{Change}
use Rattle.serial_table.specs.declared.change.Change.TheVariants as c
use Rattle.serial_table.specs.View.{View, view, is_of_file, is_of_handle, has_id, has_name, is_range_of, is_hold_of, waits_on, waits_behind, waits_for, is_to, has_pid, is_end_of, names_file, watch_on, watch_behind, token_of}
use Rattle.serial_table.specs.File.{FileView, file_view, is_under}
use Rattle.serial_table.specs.Settle.{settle_where, settle_by_key, settled_lease, broken_to_needed, row_stays, range_stays, lease_settles, lease_stays, pending_stays}
use Rattle.serial_table.specs.Change.{perform, perform_all, perform_by_key, perform_all_by_key, is_open, is_other_open, is_other_range, is_other_wait, new_owner, new_owner_by_key, set_lease, is_lease, same_range, same_mode, is_hold, set_hold, outlives, range_outlives, end_session, begin_session, end_at}
use Rattle.serial_table.proofs.Filters.{filter-filter, filter-map, filter_kept, filter-drop_first, find-map, any_filtered, map-filter}
use Rattle.serial_table.proofs.Names.{same_sid-eq}
use Rattle.serial_table.proofs.Pending.{named_kept, named_added}

-- ---- rows that keep their keys

over_kept : {K : Type 0} (key : OpenRow → K) (b : Bool) (x : OpenRow) (owner : Sid) (handle : ℕ) → key (record x { owner = owner; handle = handle }) ≡ key x → key (cond b (record x { owner = owner; handle = handle }) x) ≡ key x
over_kept key true x owner handle e = e
over_kept key false x owner handle e = refl

pub file-new_owner : (file : ℕ) (id : OpenId) (owner : Sid) (handle : ℕ) (x : OpenRow) → (new_owner file id owner handle x).file ≡ x.file
unfolding new_owner
file-new_owner file id owner handle x = over_kept (λ (r : OpenRow). r.file) (is_open file id x) x owner handle refl

pub id-new_owner : (file : ℕ) (id : OpenId) (owner : Sid) (handle : ℕ) (x : OpenRow) → (new_owner file id owner handle x).id ≡ x.id
unfolding new_owner
id-new_owner file id owner handle x = over_kept (λ (r : OpenRow). r.id) (is_open file id x) x owner handle refl

name_set : (b : Bool) (l : LeaseRow) (held : LeaseState) (breaking : Option Breaking) → (cond b (record l { held = held; breaking = breaking }) l).name ≡ l.name
name_set true l held breaking = refl
name_set false l held breaking = refl

pub name-set_lease : (file : ℕ) (name : LeaseName) (held : LeaseState) (breaking : Option Breaking) (l : LeaseRow) → (set_lease file name held breaking l).name ≡ l.name
unfolding set_lease
name-set_lease file name held breaking l = name_set (is_lease file name l) l held breaking

key_set : (b : Bool) (h : HoldRow) (mode : Mode) → (cond b (record h { mode = mode }) h).key ≡ h.key
key_set true h mode = refl
key_set false h mode = refl

key-set_hold : (key : ℕ) (owner : Sid) (mode : Mode) (h : HoldRow) → (set_hold key owner mode h).key ≡ h.key
unfolding set_hold
key-set_hold key owner mode h = key_set (is_hold key owner h) h mode

pid_ended : (b : Bool) (w : WorkerRow) → (cond b (record w { alive = false }) w).pid ≡ w.pid
pid_ended true w = refl
pid_ended false w = refl

pub pid-end_session : (sid : Sid) (w : WorkerRow) → (end_session sid w).pid ≡ w.pid
unfolding end_session
pid-end_session sid w = pid_ended ((w.pid == sid.pid) && (w.session == sid.session)) w

pid_begun : (b : Bool) (w : WorkerRow) (n : ℕ) (m : Moment) → (cond b (record w { alive = true; session = n; connected = m }) w).pid ≡ w.pid
pid_begun true w n m = refl
pid_begun false w n m = refl

pub pid-begin_session : (sid : Sid) (m : Moment) (w : WorkerRow) → (begin_session sid m w).pid ≡ w.pid
unfolding begin_session
pid-begin_session sid m w = pid_begun ((w.pid == sid.pid) && (w.session == sid.session)) w (sid.session + 1) m

-- ---- a lease keeps its name and its file where it settles

name_kept : (l : LeaseRow) (b : Option Breaking) (c : Bool) → (cond c l (broken_to_needed l b)).name ≡ l.name
name_kept l b true = refl
name_kept l None false = refl
name_kept l (Some b) false = refl

pub name-settled_lease : (f : FileView) (l : LeaseRow) → (settled_lease f l).name ≡ l.name
name-settled_lease f l = name_kept l l.breaking (list_any (λ o. is_under l.name o && o.connected) f.opens)

file_kept : (l : LeaseRow) (b : Option Breaking) (c : Bool) → (cond c l (broken_to_needed l b)).file ≡ l.file
file_kept l b true = refl
file_kept l None false = refl
file_kept l (Some b) false = refl

pub file-settled_lease : (f : FileView) (l : LeaseRow) → (settled_lease f l).file ≡ l.file
file-settled_lease f l = file_kept l l.breaking (list_any (λ o. is_under l.name o && o.connected) f.opens)

-- ---- an open with a new owner

its_handle : (b : Bool) (x : OpenRow) (owner : Sid) (handle : ℕ) → is_of_handle owner handle x ≡ false → is_of_handle owner handle (cond b (record x { owner = owner; handle = handle }) x) ≡ b
its_handle true x owner handle e =
    ap (λ b. (b && (owner.session == owner.session)) && (handle == handle)) (eq-eqb owner.pid owner.pid refl)
    ∙ ap (λ b. b && (handle == handle)) (eq-eqb owner.session owner.session refl) ∙ eq-eqb handle handle refl
its_handle false x owner handle e = e

has_handle : (file : ℕ) (id : OpenId) (owner : Sid) (handle : ℕ) (x : OpenRow) → is_of_handle owner handle x ≡ false → is_of_handle owner handle (new_owner file id owner handle x) ≡ is_open file id x
unfolding new_owner
has_handle file id owner handle x e = its_handle (is_open file id x) x owner handle e

map_here : (b : Bool) (x : OpenRow) (f : OpenRow → OpenRow) (ys : List OpenRow) → map f (cond b (x ∷ ys) ys) ≡ cond b (f x ∷ map f ys) (map f ys)
map_here true x f ys = refl
map_here false x f ys = refl

-- under the new handle
new_handle : (file : ℕ) (id : OpenId) (owner : Sid) (handle : ℕ) (xs : List OpenRow) → list_any (is_of_handle owner handle) xs ≡ false
    → filter (is_of_handle owner handle) (map (new_owner file id owner handle) xs) ≡ map (new_owner file id owner handle) (filter (is_open file id) xs)
new_handle file id owner handle [] e = refl
new_handle file id owner handle (x ∷ xs) e =
    let t = new_owner file id owner handle in
    let parts = or_parts (is_of_handle owner handle x) (list_any (is_of_handle owner handle) xs) e in
    ap (λ b. cond b (t x ∷ filter (is_of_handle owner handle) (map t xs)) (filter (is_of_handle owner handle) (map t xs))) (has_handle file id owner handle x parts.0)
    ∙ ap (λ ys. cond (is_open file id x) (t x ∷ ys) ys) (new_handle file id owner handle xs parts.1)
    ∙ sym (map_here (is_open file id x) x t (filter (is_open file id) xs))

old_here : (b d : Bool) (x : OpenRow) (owner s : Sid) (handle h : ℕ) (file : ℕ) (id : OpenId) (ys zs : List OpenRow) → (same_sid owner s && (handle == h)) ≡ false → is_open file id x ≡ b → is_of_handle s h x ≡ d
    → ys ≡ filter (is_other_open file id) zs
    → cond (is_of_handle s h (cond b (record x { owner = owner; handle = handle }) x)) (cond b (record x { owner = owner; handle = handle }) x ∷ ys) ys
    ≡ filter (is_other_open file id) (cond d (x ∷ zs) zs)
old_here true true x owner s handle h file id ys zs n it own e =
    ap (λ b. cond b (record x { owner = owner; handle = handle } ∷ ys) ys) n ∙ e ∙ ap (λ b. cond (not b) (x ∷ filter (is_other_open file id) zs) (filter (is_other_open file id) zs)) (sym it)
old_here true false x owner s handle h file id ys zs n it own e =
    ap (λ b. cond b (record x { owner = owner; handle = handle } ∷ ys) ys) n ∙ e
old_here false true x owner s handle h file id ys zs n it own e =
    ap (λ b. cond b (x ∷ ys) ys) own ∙ ap (λ zs. x ∷ zs) e ∙ ap (λ b. cond (not b) (x ∷ filter (is_other_open file id) zs) (filter (is_other_open file id) zs)) (sym it)
old_here false false x owner s handle h file id ys zs n it own e = ap (λ b. cond b (x ∷ ys) ys) own ∙ e

-- under any other handle
old_handle : (file : ℕ) (id : OpenId) (owner s : Sid) (handle h : ℕ) (xs : List OpenRow) → (same_sid owner s && (handle == h)) ≡ false
    → filter (is_of_handle s h) (map (new_owner file id owner handle) xs) ≡ filter (is_other_open file id) (filter (is_of_handle s h) xs)
unfolding new_owner
old_handle file id owner s handle h [] n = refl
old_handle file id owner s handle h (x ∷ xs) n =
    old_here (is_open file id x) (is_of_handle s h x) x owner s handle h file id (filter (is_of_handle s h) (map (new_owner file id owner handle) xs)) (filter (is_of_handle s h) xs) n refl refl
    (old_handle file id owner s handle h xs n)

under_handle : (b : Bool) (file : ℕ) (id : OpenId) (owner s : Sid) (handle h : ℕ) (xs : List OpenRow) → list_any (is_of_handle owner handle) xs ≡ false → (same_sid owner s && (handle == h)) ≡ b
    → filter (is_of_handle s h) (map (new_owner file id owner handle) xs)
    ≡ cond b (map (new_owner file id owner handle) (filter (is_open file id) (filter (has_id id) xs))) (filter (is_other_open file id) (filter (is_of_handle s h) xs))
under_handle true file id owner s handle h xs free e =
    let both = and_parts (same_sid owner s) (handle == h) e in
    let t = new_owner file id owner handle in
    ap (λ (o : Sid). filter (is_of_handle o h) (map t xs)) (sym (same_sid-eq owner s both.0)) ∙ ap (λ n. filter (is_of_handle owner n) (map t xs)) (sym (eqb-true handle h both.1))
    ∙ new_handle file id owner handle xs free
    ∙ ap (map t) (sym (filter-filter (is_open file id) (has_id id) xs ∙ filter_kept (is_open file id) (has_id id) (λ x k. (and_parts (x.file == file) (has_id id x) k).1) xs))
under_handle false file id owner s handle h xs free e = old_handle file id owner s handle h xs e

take_over : (b : Bool) (file : ℕ) (id : OpenId) (owner : Sid) (handle : ℕ) (t : Table) → list_any (is_of_handle owner handle) t.opens ≡ b
    → view (cond b t (record t { opens = map (new_owner file id owner handle) t.opens })) ≡ cond b (view t) (new_owner_by_key file id owner handle (view t))
take_over true file id owner handle t e = refl
take_over false file id owner handle t e =
    let to = new_owner file id owner handle in
    λ i. record (view t) {
      opens_of = λ f. filter-map (is_of_file f) to (λ x. ap (λ n. n == f) (file-new_owner file id owner handle x)) t.opens i;
      opens_of_handle = λ s h. under_handle (same_sid owner s && (handle == h)) file id owner s handle h t.opens e refl i;
      opens_of_id = λ o. filter-map (has_id o) to (λ x. ap (λ (n : OpenId). same_id n o) (id-new_owner file id owner handle x)) t.opens i;
    }

-- ---- leases, ranges and letters

leases_settle : (v : View) (n : LeaseName) (ls : List LeaseRow) → filter (has_name n) (filter (lease_stays (λ file. true) v) (map (lease_settles (λ file. true) v) ls))
    ≡ filter (lease_stays (λ file. true) v) (map (lease_settles (λ file. true) v) (filter (has_name n) ls))
leases_settle v n ls =
    filter-filter (has_name n) (lease_stays (λ file. true) v) (map (lease_settles (λ file. true) v) ls)
    ∙ ap (filter (lease_stays (λ file. true) v)) (filter-map (has_name n) (lease_settles (λ file. true) v) (λ l. ap (λ (name : LeaseName). same_name name n) (name-settled_lease (file_view l.file v) l)) ls)

pub leases_set : (file : ℕ) (name : LeaseName) (held : LeaseState) (breaking : Option Breaking) (n : LeaseName) (ls : List LeaseRow)
    → filter (has_name n) (map (set_lease file name held breaking) ls) ≡ map (set_lease file name held breaking) (filter (has_name n) ls)
leases_set file name held breaking n ls = filter-map (has_name n) (set_lease file name held breaking) (λ l. ap (λ (m : LeaseName). same_name m n) (name-set_lease file name held breaking l)) ls

-- a range that is the same is of the same file
pub same_file : (range : RangeRow) (f : ℕ) (r : RangeRow) → same_range range r ≡ true → (r.file == f) ≡ (range.file == f)
same_file range f r e =
    ap (λ n. n == f) (eqb-true r.file range.file
    (and_parts (r.file == range.file) (same_id r.id range.id && ((r.span.start == range.span.start) && ((r.span.length == range.span.length) && same_mode r.mode range.mode))) e).0)

same_receiver : (to s : Sid) (p : Post) → is_to to p ≡ true → is_to s p ≡ same_sid to s
same_receiver to s p e = ap (λ (q : Sid). same_sid q s) (same_sid-eq p.to to e)

-- ---- waiters

-- a waiter that comes is told of as it is
waiter_comes : {T : Type 0} (tell : WaiterRow → T) (p : WaiterRow → Bool) (w : WaiterRow) (ws : List WaiterRow) → map tell (filter p (ws ++ w ∷ [])) ≡ map tell (filter p ws) ++ map tell (filter p (w ∷ []))
waiter_comes tell p w ws = ap (map tell) (filter-append p ws (w ∷ [])) ∙ map-append tell (filter p ws) (filter p (w ∷ []))

-- waiters that stay by their session and call stay among those told of
pub waits_kept : {T : Type 0} (tell : WaiterRow → T) (p : WaiterRow → Bool) (stays : Sid → ℕ → Bool) (told : T → Bool) → ((w : WaiterRow) → p w ≡ true → told (tell w) ≡ stays w.sid w.call) → (ws : List WaiterRow)
    → map tell (filter p (filter (λ w. stays w.sid w.call) ws)) ≡ filter told (map tell (filter p ws))
waits_kept tell p stays told h ws =
    ap (map tell) (filter-filter p (λ w. stays w.sid w.call) ws) ∙ map-filter tell (λ w. stays w.sid w.call) p told h ws

tokens_kept : (sid : Sid) (stays : Sid → ℕ → Bool) (w : WaiterRow) → waits_for sid w ≡ true → stays sid w.call ≡ stays w.sid w.call
tokens_kept sid stays w e = ap (λ (s : Sid). stays s w.call) (sym (same_sid-eq w.sid sid e))

-- ---- the law

pub view-perform : (change : Change) (t : Table) → view (perform change t) ≡ perform_by_key change (view t)
unfolding settle_where settle_by_key
view-perform (c.AddOpen open_row) t = λ i. record (view t) {
  opens_of = λ f. filter-append (is_of_file f) t.opens (open_row ∷ []) i;
  opens_of_handle = λ s h. filter-append (is_of_handle s h) t.opens (open_row ∷ []) i;
  opens_of_id = λ o. filter-append (has_id o) t.opens (open_row ∷ []) i;
}
view-perform (c.DropOpen file id) t = λ i. record (view t) {
  opens_of = λ f. filter-filter (is_of_file f) (is_other_open file id) t.opens i;
  opens_of_handle = λ s h. filter-filter (is_of_handle s h) (is_other_open file id) t.opens i;
  opens_of_id = λ o. filter-filter (has_id o) (is_other_open file id) t.opens i;
  ranges_of = λ f. filter-filter (is_range_of f) (is_other_range file id) t.ranges i;
}
view-perform (c.TakeOver file id owner handle) t =
    take_over (list_any (is_of_handle owner handle) t.opens) file id owner handle t refl
    ∙ ap (λ b. cond b (view t) (new_owner_by_key file id owner handle (view t))) (sym (any_filtered (is_of_handle owner handle) t.opens))
view-perform (c.AddLease lease) t = λ i. record (view t) { leases_of = λ n. filter-append (has_name n) t.leases (lease ∷ []) i }
view-perform (c.SetLease file name held breaking) t = λ i. record (view t) { leases_of = λ n. leases_set file name held breaking n t.leases i }
view-perform (c.Acknowledge file name state) t = λ i. record (view t) { leases_of = λ n. leases_set file name state None n t.leases i }
view-perform (c.AddRange range) t = λ i. record (view t) { ranges_of = λ f. filter-append (is_range_of f) t.ranges (range ∷ []) i }
view-perform (c.DropRange range) t = λ i. record (view t) { ranges_of = λ f. filter-drop_first (range.file == f) (same_range range) (is_range_of f) (same_file range f) t.ranges i }
view-perform (c.AddPending file) t = λ i. record (view t) { is_pending = λ f. named_added file f t.pending i }
view-perform (c.DropPending file) t = λ i. record (view t) { is_pending = λ f. named_kept (λ pending. not (names_file file pending)) f t.pending i }
view-perform (c.AddHold hold) t = λ i. record (view t) { holds_of = λ k. filter-append (is_hold_of k) t.holds (hold ∷ []) i }
view-perform (c.SetHold key owner mode) t = λ i. record (view t) { holds_of = λ k. filter-map (is_hold_of k) (set_hold key owner mode) (λ h. ap (λ n. n == k) (key-set_hold key owner mode h)) t.holds i }
view-perform (c.DropHold key owner) t = λ i. record (view t) { holds_of = λ k. filter-filter (is_hold_of k) (λ hold. not (is_hold key owner hold)) t.holds i }
view-perform (c.AddWaiter waiter) t = λ i. record (view t) {
  watches_on = λ spot. waiter_comes (watch_on spot) (waits_on spot) waiter t.waiters i;
  watches_behind = λ sid. waiter_comes watch_behind (waits_behind sid) waiter t.waiters i;
  tokens_of = λ sid. waiter_comes token_of (waits_for sid) waiter t.waiters i;
}
view-perform (c.DropWaiter sid call) t = λ i. record (view t) {
  watches_on = λ spot. waits_kept (watch_on spot) (waits_on spot) (is_other_wait sid call) (λ watch. is_other_wait sid call watch.sid watch.call) (λ w e. refl) t.waiters i;
  watches_behind = λ s. waits_kept watch_behind (waits_behind s) (is_other_wait sid call) (λ watch. is_other_wait sid call watch.sid watch.call) (λ w e. refl) t.waiters i;
  tokens_of = λ s. waits_kept token_of (waits_for s) (is_other_wait sid call) (λ token. is_other_wait sid call s token.call) (tokens_kept s (is_other_wait sid call)) t.waiters i;
}
view-perform (c.Send post) t = λ i. record (view t) { letters_of = λ s. filter-append (is_to s) t.letters (post ∷ []) i }
view-perform (c.TakeLetter to) t = λ i. record (view t) { letters_of = λ s. filter-drop_first (same_sid to s) (is_to to) (is_to s) (same_receiver to s) t.letters i }
view-perform (c.EndSession sid moment) t = λ i. record (view t) {
  opens_of = λ f. filter-filter (is_of_file f) (outlives sid) t.opens i;
  opens_of_handle = λ s h. filter-filter (is_of_handle s h) (outlives sid) t.opens i;
  opens_of_id = λ o. filter-filter (has_id o) (outlives sid) t.opens i;
  ranges_of = λ f. filter-filter (is_range_of f) (range_outlives (view t) sid) t.ranges i;
  holds_of = λ k. filter-filter (is_hold_of k) (λ hold. not (same_sid hold.owner sid)) t.holds i;
  watches_on = λ spot. waits_kept (watch_on spot) (waits_on spot) (λ waiting number. not (same_sid waiting sid)) (λ watch. not (same_sid watch.sid sid)) (λ w e. refl) t.waiters i;
  watches_behind = λ s. waits_kept watch_behind (waits_behind s) (λ waiting number. not (same_sid waiting sid)) (λ watch. not (same_sid watch.sid sid)) (λ w e. refl) t.waiters i;
  tokens_of = λ s. waits_kept token_of (waits_for s) (λ waiting number. not (same_sid waiting sid)) (λ token. not (same_sid s sid)) (tokens_kept s (λ waiting number. not (same_sid waiting sid))) t.waiters i;
  letters_of = λ s. filter-filter (is_to s) (λ post. not (is_to sid post)) t.letters i;
  worker_of = λ pid. find-map (has_pid pid) (end_session sid) (λ w. ap (λ n. n == pid) (pid-end_session sid w)) t.workers i;
  ended_of = λ pid. filter-append (is_end_of pid) t.ended (end_at sid moment ∷ []) i;
}
view-perform (c.NextSession sid moment) t = λ i. record (view t) { worker_of = λ p. find-map (has_pid p) (begin_session sid moment) (λ w. ap (λ n. n == p) (pid-begin_session sid moment w)) t.workers i }
view-perform c.Settle t = λ i. record (view t) {
  opens_of = λ f. filter-filter (is_of_file f) (row_stays (λ file. true) (view t)) t.opens i;
  opens_of_handle = λ s h. filter-filter (is_of_handle s h) (row_stays (λ file. true) (view t)) t.opens i;
  opens_of_id = λ o. filter-filter (has_id o) (row_stays (λ file. true) (view t)) t.opens i;
  ranges_of = λ f. filter-filter (is_range_of f) (range_stays (λ file. true) (view t)) t.ranges i;
  leases_of = λ n. leases_settle (view t) n t.leases i;
  is_pending = λ f. named_kept (pending_stays (λ file. true) (view t)) f t.pending i;
}

pub view-perform_all : (cs : List Change) (t : Table) → view (perform_all cs t) ≡ perform_all_by_key cs (view t)
view-perform_all [] t = refl
view-perform_all (c ∷ cs) t = view-perform_all cs (perform c t) ∙ ap (perform_all_by_key cs) (view-perform c t)
