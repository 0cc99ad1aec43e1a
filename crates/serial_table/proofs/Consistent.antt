-- Each change keeps the table consistent, where what it adds fits.
use Rattle.std.proofs.Common.{◌≡◌, ◌==◌, ◌&&◌, ◌||◌, not, ℕ, Bool, true, false, cond, List, [], ◌∷◌, ◌++◌, filter, map, Option, Some, None, refl, sym, ap, ◌∙◌, eq-eqb}
use Rattle.std.specs.Prelude.{nat_eq}
use Rattle.std.specs.List.{IsDistinct, list_any, list_all}
use Rattle.std.specs.Option.{option_map_or}
use Rattle.std.proofs.lemmas.Bool.{eqb-true, and_parts, and_from, and_left, cond_both, not-true, both_ways, not-false}
use Rattle.std.proofs.lemmas.List.Folds.{list_all-append}
use Rattle.std.proofs.Math.Bool.{or-true}
use Rattle.sid_core.specs.declared.ids.Sid.{Sid}
use Rattle.sid_core.specs.declared.ids.OpenId.{OpenId}
use Rattle.sid_core.specs.declared.ids.LeaseName.{LeaseName}
use Rattle.sid_core.specs.declared.ids.Moment.{Moment}
use Rattle.sid_core.specs.declared.bits.LeaseState.{LeaseState}
use Rattle.sid_core.specs.declared.call.Mode.{Mode}
use Rattle.sid_core.specs.declared.call.Mode.TheVariants.{Shared, Exclusive}
use Rattle.sid_core.specs.declared.entry.Post.{Post}
use Rattle.sid_core.specs.Ids.{same_sid, same_id, same_name}
use Rattle.sid_core.specs.Values.{is_state}
use Rattle.serial_table.specs.declared.rows.OpenRow.{OpenRow}
use Rattle.serial_table.specs.declared.rows.LeaseRow.{LeaseRow}
use Rattle.serial_table.specs.declared.rows.Breaking.{Breaking}
use Rattle.serial_table.specs.declared.rows.RangeRow.{RangeRow}
use Rattle.serial_table.specs.declared.rows.HoldRow.{HoldRow}
use Rattle.serial_table.specs.declared.rows.WaiterRow.{WaiterRow}
use Rattle.serial_table.specs.declared.table.Table.{Table}
use Rattle.serial_table.specs.declared.change.Change.{Change}
use Rattle.serial_table.specs.declared.change.Change.TheVariants as c
use Rattle.serial_table.specs.Lists.{drop_first}
use Rattle.serial_table.specs.View.{View, view, lives, carries, is_of_file, is_of_handle, is_to, waits_behind, names_file}
use Rattle.serial_table.specs.File.{FileView, FileOpen, file_view, file_open, is_under}
use Rattle.serial_table.specs.Settle.{settle, settle_where, broken_to_needed, settled_lease, keeps_open, row_stays, range_stays, lease_settles, lease_stays, pending_stays}
use Rattle.serial_table.specs.Change.{perform, perform_all, is_open, is_other_open, is_other_range, is_other_wait, new_owner, is_lease, set_lease, same_range, same_mode, is_hold, set_hold, with_pending, outlives, range_outlives, end_session, begin_session}
use Rattle.serial_table.specs.Sound.{IsConsistent, Fits, AllFit, have_same_id, have_same_handle, have_same_name, have_same_pid, has_had, has_its_lease, is_leased_if_durable, may_delete_if_marked, lasts, is_durable, breaks_well, states_agree, has_its_open, cannot_both_hold, cannot_both_wait, waits_among_living, may_hold}
use Rattle.serial_table.proofs.SameIds.{same_id-eq, same_name-eq, same_name-refl, same_id-refl, same_sid-refl, same_sid-flip, eqb-flip}
use Rattle.serial_table.proofs.Names.{same_sid-eq}
use Rattle.serial_table.proofs.Views.{pid-end_session, pid-begin_session, file-new_owner, id-new_owner, name-set_lease, name-settled_lease, file-settled_lease}
use Rattle.serial_table.proofs.Members.{IsIn, each, all_each, any_of, one_of, none_of, in_filter, passes_in, old_in, in_drop, distinct_filtered, distinct_pushed, in_map, mapped_in, distinct_mapped}
use Rattle.serial_table.proofs.Living.{lives-end_session, lives-begin_session, lives_had, had-end_session, had-begin_session}

module _ {X : Type 0} where
  -- what all have, those that a filter keeps have
  all_kept : (p q : X → Bool) (xs : List X) → list_all p xs ≡ true → list_all p (filter q xs) ≡ true
  all_kept p q xs e = all_each p (filter q xs) (λ x i. each p xs e x (in_filter q xs x i).0)

  all_dropped : (p q : X → Bool) (xs : List X) → list_all p xs ≡ true → list_all p (drop_first q xs) ≡ true
  all_dropped p q xs e = all_each p (drop_first q xs) (λ x i. each p xs e x (in_drop q xs x i))

  all_pushed : (p : X → Bool) (xs : List X) (x : X) → list_all p xs ≡ true → p x ≡ true → list_all p (xs ++ x ∷ []) ≡ true
  all_pushed p xs x e h = list_all-append p xs (x ∷ []) ∙ and_from (list_all p xs) (p x && true) e (and_from (p x) true h refl)

  all_mapped : (p q : X → Bool) (f : X → X) (xs : List X) → ((x : X) → IsIn x xs → p x ≡ true → q (f x) ≡ true) → list_all p xs ≡ true → list_all q (map f xs) ≡ true
  all_mapped p q f xs h e = all_each q (map f xs) (λ y i. let m = in_map f xs y i in ap q (sym m.2) ∙ h m.0 m.1 (each p xs e m.0 m.1))

  all_weaker : (p q : X → Bool) (xs : List X) → ((x : X) → IsIn x xs → p x ≡ true → q x ≡ true) → list_all p xs ≡ true → list_all q xs ≡ true
  all_weaker p q xs h e = all_each q xs (λ x i. h x i (each p xs e x i))

  any_more : (p : X → Bool) (xs ys : List X) → list_any p xs ≡ true → list_any p (xs ++ ys) ≡ true
  any_more p xs ys e = let o = one_of p xs e in any_of p (xs ++ ys) o.0 (old_in xs ys o.0 o.1) o.2

-- ---- a table by its lists, and what is said of them while its workers stay; a change gives the lists that it alters, and what is said of these

record Rows (t : Table) : Type 0 where
  opens : List OpenRow
  leases : List LeaseRow
  ranges : List RangeRow
  holds : List HoldRow
  waiters : List WaiterRow
  letters : List Post
  pending : List ℕ
  ids_differ : IsDistinct have_same_id opens
  handles_differ : IsDistinct have_same_handle opens
  opens_have_leases : list_all (has_its_lease leases) opens ≡ true
  durable_are_leased : list_all is_leased_if_durable opens ≡ true
  marked_may_delete : list_all may_delete_if_marked opens ≡ true
  opens_last : list_all (lasts (view t)) opens ≡ true
  owners_had : list_all (λ open_row. has_had (view t) open_row.owner) opens ≡ true
  leases_differ : IsDistinct have_same_name leases
  leases_agree : list_all (λ lease. states_agree lease.held.0 lease.breaking) leases ≡ true
  ranges_have_opens : list_all (has_its_open opens) ranges ≡ true
  holders_live : list_all (λ hold. lives (view t) hold.owner) holds ≡ true
  holds_agree : IsDistinct cannot_both_hold holds
  waiters_live : list_all (waits_among_living (view t)) waiters ≡ true
  waits_differ : IsDistinct cannot_both_wait waiters
  receivers_live : list_all (λ post. lives (view t) post.to) letters ≡ true
  pids_differ : IsDistinct have_same_pid t.workers
  pending_differ : IsDistinct nat_eq pending

abbrev rows_of : (t : Table) → IsConsistent t → Rows t
rows_of t k = record {
  opens = t.opens;
  leases = t.leases;
  ranges = t.ranges;
  holds = t.holds;
  waiters = t.waiters;
  letters = t.letters;
  pending = t.pending;
  ids_differ = k.ids_differ;
  handles_differ = k.handles_differ;
  opens_have_leases = k.opens_have_leases;
  durable_are_leased = k.durable_are_leased;
  marked_may_delete = k.marked_may_delete;
  opens_last = k.opens_last;
  owners_had = k.owners_had;
  leases_differ = k.leases_differ;
  leases_agree = k.leases_agree;
  ranges_have_opens = k.ranges_have_opens;
  holders_live = k.holders_live;
  holds_agree = k.holds_agree;
  waiters_live = k.waiters_live;
  waits_differ = k.waits_differ;
  receivers_live = k.receivers_live;
  pids_differ = k.pids_differ;
  pending_differ = k.pending_differ;
}

abbrev with_rows : (t : Table) → Rows t → Table
with_rows t r = record t { opens = r.opens; leases = r.leases; ranges = r.ranges; holds = r.holds; waiters = r.waiters; letters = r.letters; pending = r.pending }

consistent : (t : Table) (r : Rows t) → IsConsistent (with_rows t r)
consistent t r = record {
  ids_differ = r.ids_differ;
  handles_differ = r.handles_differ;
  opens_have_leases = r.opens_have_leases;
  durable_are_leased = r.durable_are_leased;
  marked_may_delete = r.marked_may_delete;
  opens_last = r.opens_last;
  owners_had = r.owners_had;
  leases_differ = r.leases_differ;
  leases_agree = r.leases_agree;
  ranges_have_opens = r.ranges_have_opens;
  holders_live = r.holders_live;
  holds_agree = r.holds_agree;
  waiters_live = r.waiters_live;
  waits_differ = r.waits_differ;
  receivers_live = r.receivers_live;
  pids_differ = r.pids_differ;
  pending_differ = r.pending_differ;
}

-- ---- files that are to go

added_differ : (file : ℕ) (files : List ℕ) → IsDistinct nat_eq files → IsDistinct nat_eq (with_pending file files)
unfolding with_pending
added_differ file files d = cond_both (list_any (names_file file) files) files (files ++ file ∷ []) (IsDistinct nat_eq) (λ _. d) (λ none. distinct_pushed nat_eq files file d none)

-- ---- leases

-- More leases don't take an open's lease away.
lease_more : (leases more : List LeaseRow) (open_row : OpenRow) (name : Option LeaseName)
    → option_map_or (λ n. list_any (λ l. (l.file == open_row.file) && same_name l.name n) leases) name true ≡ true
    → option_map_or (λ n. list_any (λ l. (l.file == open_row.file) && same_name l.name n) (leases ++ more)) name true ≡ true
lease_more leases more open_row None e = refl
lease_more leases more open_row (Some n) e = any_more (λ l. (l.file == open_row.file) && same_name l.name n) leases more e

-- Nor does a map that keeps the names and files of leases.
lease_mapped : (f : LeaseRow → LeaseRow) → ((l : LeaseRow) → (f l).file ≡ l.file) → ((l : LeaseRow) → (f l).name ≡ l.name) → (leases : List LeaseRow) (open_row : OpenRow) (name : Option LeaseName)
    → option_map_or (λ n. list_any (λ l. (l.file == open_row.file) && same_name l.name n) leases) name true ≡ true
    → option_map_or (λ n. list_any (λ l. (l.file == open_row.file) && same_name l.name n) (map f leases)) name true ≡ true
lease_mapped f files names leases open_row None e = refl
lease_mapped f files names leases open_row (Some n) e =
    let o = one_of (λ l. (l.file == open_row.file) && same_name l.name n) leases e in
    any_of (λ l. (l.file == open_row.file) && same_name l.name n) (map f leases) (f o.0) (mapped_in f leases o.0 o.1)
    ((λ i. (files o.0 i == open_row.file) && same_name (names o.0 i) n) ∙ o.2)

file-set_lease : (file : ℕ) (name : LeaseName) (held : LeaseState) (breaking : Option Breaking) (l : LeaseRow) → (set_lease file name held breaking l).file ≡ l.file
unfolding set_lease
file-set_lease file name held breaking l =
    cond_both (is_lease file name l) (record l { held = held; breaking = breaking }) l (λ (x : LeaseRow). x.file ≡ l.file) (λ e. refl) (λ e. refl)

states-set_lease : (file : ℕ) (name : LeaseName) (held : LeaseState) (breaking : Option Breaking) (l : LeaseRow) → states_agree held.0 breaking ≡ true
    → states_agree l.held.0 l.breaking ≡ true → states_agree (set_lease file name held breaking l).held.0 (set_lease file name held breaking l).breaking ≡ true
unfolding set_lease
states-set_lease file name held breaking l new old =
    cond_both (is_lease file name l) (record l { held = held; breaking = breaking }) l (λ (x : LeaseRow). states_agree x.held.0 x.breaking ≡ true) (λ e. new) (λ e. old)

sets_lease : (file : ℕ) (name : LeaseName) (held : LeaseState) (breaking : Option Breaking) (t : Table) → IsConsistent t → states_agree held.0 breaking ≡ true
    → IsConsistent (record t { leases = map (set_lease file name held breaking) t.leases })
sets_lease file name held breaking t k fit =
    let f = set_lease file name held breaking in
    let r = rows_of t k in
    consistent t (record r {
      leases = map f t.leases;
      opens_have_leases = all_weaker (has_its_lease t.leases) (has_its_lease (map f t.leases)) t.opens
          (λ o i h. lease_mapped f (file-set_lease file name held breaking) (name-set_lease file name held breaking) t.leases o o.lease h) k.opens_have_leases;
      leases_differ = distinct_mapped have_same_name have_same_name have_same_name f t.leases
          (λ a b i j e h. (λ i. same_name (name-set_lease file name held breaking a i) (name-set_lease file name held breaking b i)) ∙ e) k.leases_differ k.leases_differ;
      leases_agree = all_mapped (λ l. states_agree l.held.0 l.breaking) (λ l. states_agree l.held.0 l.breaking) f t.leases (λ l i h. states-set_lease file name held breaking l fit h) k.leases_agree;
    })

-- ---- ranges

-- A range whose open stays has its open.
pub range_left : (stays : OpenRow → Bool) (range : RangeRow) (opens : List OpenRow)
    → ((o : OpenRow) → IsIn o opens → ((o.file == range.file) && same_id o.id range.id) ≡ true → stays o ≡ true) → has_its_open opens range ≡ true → has_its_open (filter stays opens) range ≡ true
range_left stays range opens h e =
    let o = one_of (λ o. (o.file == range.file) && same_id o.id range.id) opens e in
    any_of (λ o. (o.file == range.file) && same_id o.id range.id) (filter stays opens) o.0 (passes_in stays opens o.0 o.1 (h o.0 o.1 o.2)) o.2

other_open : (file : ℕ) (id : OpenId) (o : OpenRow) (range : RangeRow) → ((o.file == range.file) && same_id o.id range.id) ≡ true → is_other_open file id o ≡ is_other_range file id range
other_open file id o range e =
    let both = and_parts (o.file == range.file) (same_id o.id range.id) e in
    λ i. not ((eqb-true o.file range.file both.0 i == file) && same_id (same_id-eq o.id range.id both.1 i) id)

-- A range stays only if its open does: one of the file with its id.
stays_with : (t : Table) (goes : OpenRow → Bool) (range : RangeRow) → not (list_any (λ o. same_id o.id range.id && goes o) ((view t).opens_of range.file)) ≡ true
    → (o : OpenRow) → IsIn o t.opens → ((o.file == range.file) && same_id o.id range.id) ≡ true → goes o ≡ false
stays_with t goes range stays o i e =
    let both = and_parts (o.file == range.file) (same_id o.id range.id) e in
    let none = none_of (λ o. same_id o.id range.id && goes o) ((view t).opens_of range.file) (not-true (list_any (λ o. same_id o.id range.id && goes o) ((view t).opens_of range.file)) stays) o (passes_in (is_of_file range.file) t.opens o i both.0) in
    ap (λ b. b && goes o) (sym both.1) ∙ none

-- ---- an open is taken over

-- Ids differ, so at most one row of two changes, and nobody has the handle that it gets.
differ_taken : (file : ℕ) (id : OpenId) (owner : Sid) (handle : ℕ) (a b : OpenRow) (x y : Bool) → is_open file id a ≡ x → is_open file id b ≡ y
    → is_of_handle owner handle a ≡ false → is_of_handle owner handle b ≡ false → have_same_id a b ≡ false → have_same_handle a b ≡ false
    → have_same_handle (cond x (record a { owner = owner; handle = handle }) a) (cond y (record b { owner = owner; handle = handle }) b) ≡ false
differ_taken file id owner handle a b true true ea eb na nb ids handles =
    let one = same_id-eq a.id id (and_parts (a.file == file) (same_id a.id id) ea).1 in
    let other = same_id-eq b.id id (and_parts (b.file == file) (same_id b.id id) eb).1 in
    absurd (both_ways (same_id a.id b.id) ids ((λ i. same_id (one i) (other i)) ∙ same_id-refl id))
differ_taken file id owner handle a b true false ea eb na nb ids handles = (λ i. same_sid-flip owner b.owner i && eqb-flip handle b.handle i) ∙ nb
differ_taken file id owner handle a b false true ea eb na nb ids handles = na
differ_taken file id owner handle a b false false ea eb na nb ids handles = handles

taken_all : (file : ℕ) (id : OpenId) (owner : Sid) (handle : ℕ) (opens : List OpenRow) (p : OpenRow → Bool) → ((o : OpenRow) → p o ≡ true → p (record o { owner = owner; handle = handle }) ≡ true)
    → list_all p opens ≡ true → list_all p (map (new_owner file id owner handle) opens) ≡ true
unfolding new_owner
taken_all file id owner handle opens p h e =
    all_mapped p p (new_owner file id owner handle) opens (λ o i f. cond_both (is_open file id o) (record o { owner = owner; handle = handle }) o (λ x. p x ≡ true) (λ _. h o f) (λ _. f)) e

takes_over : (file : ℕ) (id : OpenId) (owner : Sid) (handle : ℕ) (t : Table) → IsConsistent t → lives (view t) owner ≡ true → list_any (is_of_handle owner handle) t.opens ≡ false
    → IsConsistent (record t { opens = map (new_owner file id owner handle) t.opens })
unfolding new_owner
takes_over file id owner handle t k live free =
    let r = rows_of t k in
    consistent t (record r {
      opens = map f t.opens;
      ids_differ = distinct_mapped have_same_id have_same_id have_same_id f t.opens (λ a b i j e h. (λ i. same_id (id-new_owner file id owner handle a i) (id-new_owner file id owner handle b i)) ∙ e)
          k.ids_differ k.ids_differ;
      handles_differ = distinct_mapped have_same_id have_same_handle have_same_handle f t.opens
          (λ a b i j e h. differ_taken file id owner handle a b (is_open file id a) (is_open file id b) refl refl (none_of (is_of_handle owner handle) t.opens free a i) (none_of (is_of_handle owner handle) t.opens free b j) e h)
          k.ids_differ k.handles_differ;
      opens_have_leases = taken_all file id owner handle t.opens (has_its_lease t.leases) (λ o e. e) k.opens_have_leases;
      durable_are_leased = taken_all file id owner handle t.opens is_leased_if_durable (λ o e. e) k.durable_are_leased;
      marked_may_delete = taken_all file id owner handle t.opens may_delete_if_marked (λ o e. e) k.marked_may_delete;
      opens_last = taken_all file id owner handle t.opens (lasts (view t)) (λ o e. ap (λ b. b || is_durable o) live) k.opens_last;
      owners_had = taken_all file id owner handle t.opens (λ (o : OpenRow). has_had (view t) o.owner) (λ o e. lives_had t.workers owner live) k.owners_had;
      ranges_have_opens = all_weaker (has_its_open t.opens) (has_its_open (map f t.opens)) t.ranges
          (λ range i e. let o = one_of (λ o. (o.file == range.file) && same_id o.id range.id) t.opens e in
          any_of (λ o. (o.file == range.file) && same_id o.id range.id) (map f t.opens) (f o.0) (mapped_in f t.opens o.0 o.1)
          ((λ i. (file-new_owner file id owner handle o.0 i == range.file) && same_id (id-new_owner file id owner handle o.0 i) range.id) ∙ o.2)) k.ranges_have_opens;
    })
  where
    f : OpenRow → OpenRow
    f = new_owner file id owner handle

-- ---- a hold gets another mode

is_alone : (k s : Bool) → (not k || s) ≡ true → (k && s) ≡ false → k ≡ false
is_alone true s e f = absurd (both_ways s f e)
is_alone false s e f = refl

lowered_left : (k s m n : Bool) → (k && (s || (m || n))) ≡ false → (k && (s || n)) ≡ false
lowered_left true true m n e = e
lowered_left true false true n e = absurd cc
lowered_left true false false n e = e
lowered_left false s m n e = refl

lowered_right : (k s m n : Bool) → (k && (s || (m || n))) ≡ false → (k && (s || (m || false))) ≡ false
lowered_right true true m n e = e
lowered_right true false true n e = e
lowered_right true false false n e = refl
lowered_right false s m n e = refl

-- one gets the mode, the other is no hold of this lock and session
holds_left : (key : ℕ) (owner : Sid) (mode : Mode) (a b : HoldRow) → is_hold key owner a ≡ true → is_hold key owner b ≡ false → may_hold key owner mode b ≡ true → cannot_both_hold a b ≡ false
    → cannot_both_hold (record a { mode = mode }) b ≡ false
holds_left key owner Shared a b ea eb may e = lowered_left (a.key == b.key) (same_sid a.owner b.owner) (same_mode a.mode Exclusive) (same_mode b.mode Exclusive) e
holds_left key owner Exclusive a b ea eb may e =
    and_left (a.key == b.key) (same_sid a.owner b.owner || (true || same_mode b.mode Exclusive))
    (ap (λ n. n == b.key) (eqb-true a.key key (and_parts (a.key == key) (same_sid a.owner owner) ea).0) ∙ eqb-flip key b.key ∙ is_alone (b.key == key) (same_sid b.owner owner) may eb)

holds_right : (key : ℕ) (owner : Sid) (mode : Mode) (a b : HoldRow) → is_hold key owner a ≡ false → is_hold key owner b ≡ true → may_hold key owner mode a ≡ true → cannot_both_hold a b ≡ false
    → cannot_both_hold a (record b { mode = mode }) ≡ false
holds_right key owner Shared a b ea eb may e = lowered_right (a.key == b.key) (same_sid a.owner b.owner) (same_mode a.mode Exclusive) (same_mode b.mode Exclusive) e
holds_right key owner Exclusive a b ea eb may e =
    and_left (a.key == b.key) (same_sid a.owner b.owner || (same_mode a.mode Exclusive || true))
    (ap (λ n. a.key == n) (eqb-true b.key key (and_parts (b.key == key) (same_sid b.owner owner) eb).0) ∙ is_alone (a.key == key) (same_sid a.owner owner) may ea)

same_hold : (key : ℕ) (owner : Sid) (a b : HoldRow) → is_hold key owner a ≡ true → is_hold key owner b ≡ true → cannot_both_hold a b ≡ true
same_hold key owner a b ea eb =
    let one = and_parts (a.key == key) (same_sid a.owner owner) ea in
    let other = and_parts (b.key == key) (same_sid b.owner owner) eb in
    and_from (a.key == b.key) (same_sid a.owner b.owner || (same_mode a.mode Exclusive || same_mode b.mode Exclusive))
    (eq-eqb a.key b.key (eqb-true a.key key one.0 ∙ sym (eqb-true b.key key other.0)))
    (ap (λ s. s || (same_mode a.mode Exclusive || same_mode b.mode Exclusive)) ((λ i. same_sid (same_sid-eq a.owner owner one.1 i) (same_sid-eq b.owner owner other.1 i)) ∙ same_sid-refl owner))

holds_set : (key : ℕ) (owner : Sid) (mode : Mode) (a b : HoldRow) (x y : Bool) → is_hold key owner a ≡ x → is_hold key owner b ≡ y → may_hold key owner mode a ≡ true → may_hold key owner mode b ≡ true
    → cannot_both_hold a b ≡ false → cannot_both_hold (cond x (record a { mode = mode }) a) (cond y (record b { mode = mode }) b) ≡ false
holds_set key owner mode a b true true ea eb ma mb e = absurd (both_ways (cannot_both_hold a b) e (same_hold key owner a b ea eb))
holds_set key owner mode a b true false ea eb ma mb e = holds_left key owner mode a b ea eb mb e
holds_set key owner mode a b false true ea eb ma mb e = holds_right key owner mode a b ea eb ma e
holds_set key owner mode a b false false ea eb ma mb e = e

sets_hold : (key : ℕ) (owner : Sid) (mode : Mode) (t : Table) → IsConsistent t → list_all (may_hold key owner mode) t.holds ≡ true → IsConsistent (record t { holds = map (set_hold key owner mode) t.holds })
unfolding set_hold
sets_hold key owner mode t k fit =
    let r = rows_of t k in
    consistent t (record r {
      holds = map (set_hold key owner mode) t.holds;
      holders_live = all_mapped (λ hold. lives (view t) hold.owner) (λ hold. lives (view t) hold.owner) (set_hold key owner mode) t.holds
          (λ h i e. cond_both (is_hold key owner h) (record h { mode = mode }) h (λ (x : HoldRow). lives (view t) x.owner ≡ true) (λ _. e) (λ _. e)) k.holders_live;
      holds_agree = distinct_mapped cannot_both_hold cannot_both_hold cannot_both_hold (set_hold key owner mode) t.holds
          (λ a b i j e h. holds_set key owner mode a b (is_hold key owner a) (is_hold key owner b) refl refl (each (may_hold key owner mode) t.holds fit a i) (each (may_hold key owner mode) t.holds fit b j) e)
          k.holds_agree k.holds_agree;
    })

-- ---- the table settles

module _ (t : Table) where
  abbrev v : View
  v = view t

  abbrev settled : List LeaseRow
  settled = filter (lease_stays (λ file. true) v) (map (lease_settles (λ file. true) v) t.leases)

  -- of a file, some open is under the name and stays
  abbrev keeps_name : ℕ → LeaseName → Bool
  keeps_name file name = list_any (λ o. is_under name o && keeps_open (file_view file v) o) (file_view file v).opens

  lease_left : (o : OpenRow) (name : LeaseName) → o.lease ≡ Some name → IsIn o t.opens → row_stays (λ file. true) v o ≡ true
      → list_any (λ l. (l.file == o.file) && same_name l.name name) t.leases ≡ true → list_any (λ l. (l.file == o.file) && same_name l.name name) settled ≡ true
  lease_left o name is i stays e =
      let l = one_of (λ l. (l.file == o.file) && same_name l.name name) t.leases e in
      let both = and_parts (l.0.file == o.file) (same_name l.0.name name) l.2 in
      let s : LeaseRow = lease_settles (λ file. true) v l.0 in
      let file : s.file ≡ o.file = file-settled_lease (file_view l.0.file v) l.0 ∙ eqb-true l.0.file o.file both.0 in
      let called : s.name ≡ name = name-settled_lease (file_view l.0.file v) l.0 ∙ same_name-eq l.0.name name both.1 in
      let kept : keeps_name o.file name ≡ true =
      any_of (λ x. is_under name x && keeps_open (file_view o.file v) x) (file_view o.file v).opens (file_open (lives v) o)
      (mapped_in (file_open (lives v)) (v.opens_of o.file) o (passes_in (is_of_file o.file) t.opens o i (eq-eqb o.file o.file refl)))
      (and_from (is_under name (file_open (lives v) o)) (row_stays (λ file. true) v o) (ap (carries name) is ∙ same_name-refl name) stays) in
      any_of (λ l. (l.file == o.file) && same_name l.name name) settled s
      (passes_in (lease_stays (λ file. true) v) (map (lease_settles (λ file. true) v) t.leases) s (mapped_in (lease_settles (λ file. true) v) t.leases l.0 l.1) ((λ i. keeps_name (file i) (called i)) ∙ kept))
      ((λ i. (file i == o.file) && same_name (called i) name) ∙ and_from (o.file == o.file) (same_name name name) (eq-eqb o.file o.file refl) (same_name-refl name))

  leases_left : (o : OpenRow) (name : Option LeaseName) → o.lease ≡ name → IsIn o t.opens → row_stays (λ file. true) v o ≡ true
      → option_map_or (λ n. list_any (λ l. (l.file == o.file) && same_name l.name n) t.leases) name true ≡ true
      → option_map_or (λ n. list_any (λ l. (l.file == o.file) && same_name l.name n) settled) name true ≡ true
  leases_left o None is i stays e = refl
  leases_left o (Some name) is i stays e = lease_left o name is i stays e

states_broken : (l : LeaseRow) (breaking : Option Breaking) → l.breaking ≡ breaking → states_agree l.held.0 breaking ≡ true
    → states_agree (broken_to_needed l breaking).held.0 (broken_to_needed l breaking).breaking ≡ true
states_broken l None is e = ap (states_agree l.held.0) is ∙ e
states_broken l (Some b) is e =
    let parts = and_parts (is_state l.held.0) (breaks_well l.held.0 (Some b)) e in
    let rest = and_parts (is_state b.asked.0) _ parts.1 in
    ap (λ b. b && true) (and_parts (is_state b.needed.0) _ rest.1).0

states_settled : (f : FileView) (l : LeaseRow) → states_agree l.held.0 l.breaking ≡ true → states_agree (settled_lease f l).held.0 (settled_lease f l).breaking ≡ true
states_settled f l e =
    cond_both (list_any (λ o. is_under l.name o && o.connected) f.opens) l (broken_to_needed l l.breaking) (λ (x : LeaseRow). states_agree x.held.0 x.breaking ≡ true)
    (λ _. e) (λ _. states_broken l l.breaking refl e)

-- a range that stays when its file settles has an open that stays
range_with : (t : Table) (range : RangeRow) → range_stays (λ file. true) (view t) range ≡ true
    → (o : OpenRow) → IsIn o t.opens → ((o.file == range.file) && same_id o.id range.id) ≡ true → row_stays (λ file. true) (view t) o ≡ true
range_with t range stays o i e =
    let v = view t in
    let both = and_parts (o.file == range.file) (same_id o.id range.id) e in
    let f = file_view range.file v in
    let x : FileOpen = file_open (lives v) o in
    let within = mapped_in (file_open (lives v)) (v.opens_of range.file) o (passes_in (is_of_file range.file) t.opens o i both.0) in
    let none = none_of (λ x. same_id x.row.id range.id && not (keeps_open f x)) f.opens (not-true (list_any (λ x. same_id x.row.id range.id && not (keeps_open f x)) f.opens) stays) x within in
    ap (λ file. keeps_open (file_view file v) x) (eqb-true o.file range.file both.0) ∙ not-false (keeps_open f x) (ap (λ b. b && not (keeps_open f x)) (sym both.1) ∙ none)

settles : (t : Table) → IsConsistent t → IsConsistent (settle t)
unfolding settle_where
settles t k =
    let v = view t in
    let opens = filter (row_stays (λ file. true) v) t.opens in
    let f = lease_settles (λ file. true) v in
    let r = rows_of t k in
    consistent t (record r {
      opens = opens;
      leases = settled t;
      ranges = filter (range_stays (λ file. true) v) t.ranges;
      pending = filter (pending_stays (λ file. true) v) t.pending;
      ids_differ = distinct_filtered have_same_id (row_stays (λ file. true) v) t.opens k.ids_differ;
      handles_differ = distinct_filtered have_same_handle (row_stays (λ file. true) v) t.opens k.handles_differ;
      opens_have_leases = all_each (has_its_lease (settled t)) opens
          (λ o i. let h = in_filter (row_stays (λ file. true) v) t.opens o i in leases_left t o o.lease refl h.0 h.1 (each (has_its_lease t.leases) t.opens k.opens_have_leases o h.0));
      durable_are_leased = all_kept is_leased_if_durable (row_stays (λ file. true) v) t.opens k.durable_are_leased;
      marked_may_delete = all_kept may_delete_if_marked (row_stays (λ file. true) v) t.opens k.marked_may_delete;
      opens_last = all_kept (lasts v) (row_stays (λ file. true) v) t.opens k.opens_last;
      owners_had = all_kept (λ (o : OpenRow). has_had v o.owner) (row_stays (λ file. true) v) t.opens k.owners_had;
      leases_differ = distinct_filtered have_same_name (lease_stays (λ file. true) v) (map f t.leases)
          (distinct_mapped have_same_name have_same_name have_same_name f t.leases
          (λ a b i j e h. (λ i. same_name (name-settled_lease (file_view a.file v) a i) (name-settled_lease (file_view b.file v) b i)) ∙ e) k.leases_differ k.leases_differ);
      leases_agree = all_kept (λ l. states_agree l.held.0 l.breaking) (lease_stays (λ file. true) v) (map f t.leases)
          (all_mapped (λ l. states_agree l.held.0 l.breaking) (λ l. states_agree l.held.0 l.breaking) f t.leases (λ l i e. states_settled (file_view l.file v) l e) k.leases_agree);
      ranges_have_opens = all_each (has_its_open opens) (filter (range_stays (λ file. true) v) t.ranges)
          (λ range i. let h = in_filter (range_stays (λ file. true) v) t.ranges range i in
          range_left (row_stays (λ file. true) v) range t.opens (λ o j e. range_with t range h.1 o j e) (each (has_its_open t.opens) t.ranges k.ranges_have_opens range h.0));
      pending_differ = distinct_filtered nat_eq (pending_stays (λ file. true) v) t.pending k.pending_differ;
    })

-- ---- sessions end and begin

lasts_on : (a a' s d : Bool) → (a || d) ≡ true → (not s || d) ≡ true → (s ≡ false → a ≡ true → a' ≡ true) → (a' || d) ≡ true
lasts_on a a' s true e h f = or-true a'
lasts_on true a' false false e h f = ap (λ b. b || false) (f refl refl)
lasts_on true a' true false e h f = absurd cc
lasts_on false a' s false e h f = absurd cc

blocker_lives : (alive now : Sid → Bool) (gone : Sid → Bool) → ((sid : Sid) → gone sid ≡ false → alive sid ≡ true → now sid ≡ true) → (blocker : Option Sid)
    → option_map_or gone blocker false ≡ false → option_map_or alive blocker true ≡ true → option_map_or now blocker true ≡ true
blocker_lives alive now gone h None n e = refl
blocker_lives alive now gone h (Some sid) n e = h sid n e

ends_session : (sid : Sid) (moment : Moment) (t : Table) → IsConsistent t → Fits (c.EndSession sid moment) t → IsConsistent (perform (c.EndSession sid moment) t)
ends_session sid moment t k fit =
    let now : Table = perform (c.EndSession sid moment) t in
    let on : (s : Sid) → same_sid s sid ≡ false → lives (view t) s ≡ true → lives (view now) s ≡ true = λ s other e. lives-end_session t.workers sid s other e in
    record {
      ids_differ = distinct_filtered have_same_id (outlives sid) t.opens k.ids_differ;
      handles_differ = distinct_filtered have_same_handle (outlives sid) t.opens k.handles_differ;
      opens_have_leases = all_kept (has_its_lease t.leases) (outlives sid) t.opens k.opens_have_leases;
      durable_are_leased = all_kept is_leased_if_durable (outlives sid) t.opens k.durable_are_leased;
      marked_may_delete = all_kept may_delete_if_marked (outlives sid) t.opens k.marked_may_delete;
      opens_last = all_each (lasts (view now)) (filter (outlives sid) t.opens)
          (λ o i. let h = in_filter (outlives sid) t.opens o i in
          lasts_on (lives (view t) o.owner) (lives (view now) o.owner) (same_sid o.owner sid) (is_durable o) (each (lasts (view t)) t.opens k.opens_last o h.0) h.1 (on o.owner));
      owners_had = all_kept (λ (o : OpenRow). has_had (view now) o.owner) (outlives sid) t.opens (all_weaker (λ (o : OpenRow). has_had (view t) o.owner) (λ o. has_had (view now) o.owner) t.opens (λ o i e. had-end_session t.workers sid o.owner e) k.owners_had);
      leases_differ = k.leases_differ;
      leases_agree = k.leases_agree;
      ranges_have_opens = all_each (has_its_open (filter (outlives sid) t.opens)) (filter (range_outlives (view t) sid) t.ranges)
          (λ range i. let h = in_filter (range_outlives (view t) sid) t.ranges range i in
          range_left (outlives sid) range t.opens (λ o j e. not-false (outlives sid o) (stays_with t (λ o. not (outlives sid o)) range h.1 o j e)) (each (has_its_open t.opens) t.ranges k.ranges_have_opens range h.0));
      holders_live = all_each (λ hold. lives (view now) hold.owner) (filter (λ hold. not (same_sid hold.owner sid)) t.holds)
          (λ hold i. let h = in_filter (λ hold. not (same_sid hold.owner sid)) t.holds hold i in
          on hold.owner (not-true (same_sid hold.owner sid) h.1) (each (λ hold. lives (view t) hold.owner) t.holds k.holders_live hold h.0));
      holds_agree = distinct_filtered cannot_both_hold (λ hold. not (same_sid hold.owner sid)) t.holds k.holds_agree;
      waiters_live = all_each (waits_among_living (view now)) (filter (λ waiter. not (same_sid waiter.sid sid)) t.waiters)
          (λ w i. let h = in_filter (λ waiter. not (same_sid waiter.sid sid)) t.waiters w i in
          let both = and_parts (lives (view t) w.sid) (option_map_or (lives (view t)) w.blocker true) (each (waits_among_living (view t)) t.waiters k.waiters_live w h.0) in
          and_from (lives (view now) w.sid) (option_map_or (lives (view now)) w.blocker true) (on w.sid (not-true (same_sid w.sid sid) h.1) both.0)
          (blocker_lives (lives (view t)) (lives (view now)) (λ s. same_sid s sid) on w.blocker (none_of (waits_behind sid) t.waiters fit.behind w h.0) both.1));
      waits_differ = distinct_filtered cannot_both_wait (λ waiter. not (same_sid waiter.sid sid)) t.waiters k.waits_differ;
      receivers_live = all_each (λ post. lives (view now) post.to) (filter (λ post. not (is_to sid post)) t.letters)
          (λ post i. let h = in_filter (λ post. not (is_to sid post)) t.letters post i in
          on post.to (not-true (is_to sid post) h.1) (each (λ post. lives (view t) post.to) t.letters k.receivers_live post h.0));
      pids_differ = distinct_mapped have_same_pid have_same_pid have_same_pid (end_session sid) t.workers (λ v w i j e h. (λ i. pid-end_session sid v i == pid-end_session sid w i) ∙ e) k.pids_differ k.pids_differ;
      pending_differ = k.pending_differ;
    }

begins_session : (after : Sid) (moment : Moment) (t : Table) → IsConsistent t → Fits (c.NextSession after moment) t → IsConsistent (perform (c.NextSession after moment) t)
begins_session after moment t k fit =
    let now : Table = perform (c.NextSession after moment) t in
    let on : (s : Sid) → lives (view t) s ≡ true → lives (view now) s ≡ true = λ s e. lives-begin_session t.workers after moment s fit e in
    record {
      ids_differ = k.ids_differ;
      handles_differ = k.handles_differ;
      opens_have_leases = k.opens_have_leases;
      durable_are_leased = k.durable_are_leased;
      marked_may_delete = k.marked_may_delete;
      opens_last = all_weaker (lasts (view t)) (lasts (view now)) t.opens (λ o i e. lasts_on (lives (view t) o.owner) (lives (view now) o.owner) false (is_durable o) e refl (λ _. on o.owner)) k.opens_last;
      owners_had = all_weaker (λ (o : OpenRow). has_had (view t) o.owner) (λ o. has_had (view now) o.owner) t.opens (λ o i e. had-begin_session t.workers after moment o.owner e) k.owners_had;
      leases_differ = k.leases_differ;
      leases_agree = k.leases_agree;
      ranges_have_opens = k.ranges_have_opens;
      holders_live = all_weaker (λ hold. lives (view t) hold.owner) (λ hold. lives (view now) hold.owner) t.holds (λ hold i. on hold.owner) k.holders_live;
      holds_agree = k.holds_agree;
      waiters_live = all_weaker (waits_among_living (view t)) (waits_among_living (view now)) t.waiters
          (λ w i e. let both = and_parts (lives (view t) w.sid) (option_map_or (lives (view t)) w.blocker true) e in
          and_from (lives (view now) w.sid) (option_map_or (lives (view now)) w.blocker true) (on w.sid both.0)
          (blocker_lives (lives (view t)) (lives (view now)) (λ s. false) (λ s _. on s) w.blocker (no_blocker w.blocker) both.1)) k.waiters_live;
      waits_differ = k.waits_differ;
      receivers_live = all_weaker (λ post. lives (view t) post.to) (λ post. lives (view now) post.to) t.letters (λ post i. on post.to) k.receivers_live;
      pids_differ = distinct_mapped have_same_pid have_same_pid have_same_pid (begin_session after moment) t.workers (λ v w i j e h. (λ i. pid-begin_session after moment v i == pid-begin_session after moment w i) ∙ e) k.pids_differ k.pids_differ;
      pending_differ = k.pending_differ;
    }
  where
    no_blocker : (blocker : Option Sid) → option_map_or (λ (s : Sid). false) blocker false ≡ false
    no_blocker None = refl
    no_blocker (Some s) = refl

-- ---- each change

pub consistent-perform : (change : Change) (t : Table) → IsConsistent t → Fits change t → IsConsistent (perform change t)
consistent-perform (c.AddOpen row) t k fit =
    let r = rows_of t k in
    consistent t (record r {
      opens = t.opens ++ row ∷ [];
      ids_differ = distinct_pushed have_same_id t.opens row k.ids_differ fit.id;
      handles_differ = distinct_pushed have_same_handle t.opens row k.handles_differ fit.handle;
      opens_have_leases = all_pushed (has_its_lease t.leases) t.opens row k.opens_have_leases fit.lease;
      durable_are_leased = all_pushed is_leased_if_durable t.opens row k.durable_are_leased fit.leased;
      marked_may_delete = all_pushed may_delete_if_marked t.opens row k.marked_may_delete fit.marked;
      opens_last = all_pushed (lasts (view t)) t.opens row k.opens_last (ap (λ b. b || is_durable row) fit.owner);
      owners_had = all_pushed (λ (o : OpenRow). has_had (view t) o.owner) t.opens row k.owners_had (lives_had t.workers row.owner fit.owner);
      ranges_have_opens = all_weaker (has_its_open t.opens) (has_its_open (t.opens ++ row ∷ [])) t.ranges (λ range i e. any_more (λ o. (o.file == range.file) && same_id o.id range.id) t.opens (row ∷ []) e) k.ranges_have_opens;
    })
consistent-perform (c.DropOpen file id) t k fit =
    let r = rows_of t k in
    consistent t (record r {
      opens = filter (is_other_open file id) t.opens;
      ranges = filter (is_other_range file id) t.ranges;
      ids_differ = distinct_filtered have_same_id (is_other_open file id) t.opens k.ids_differ;
      handles_differ = distinct_filtered have_same_handle (is_other_open file id) t.opens k.handles_differ;
      opens_have_leases = all_kept (has_its_lease t.leases) (is_other_open file id) t.opens k.opens_have_leases;
      durable_are_leased = all_kept is_leased_if_durable (is_other_open file id) t.opens k.durable_are_leased;
      marked_may_delete = all_kept may_delete_if_marked (is_other_open file id) t.opens k.marked_may_delete;
      opens_last = all_kept (lasts (view t)) (is_other_open file id) t.opens k.opens_last;
      owners_had = all_kept (λ (o : OpenRow). has_had (view t) o.owner) (is_other_open file id) t.opens k.owners_had;
      ranges_have_opens = all_each (has_its_open (filter (is_other_open file id) t.opens)) (filter (is_other_range file id) t.ranges)
          (λ range i. let h = in_filter (is_other_range file id) t.ranges range i in
          range_left (is_other_open file id) range t.opens (λ o j e. other_open file id o range e ∙ h.1) (each (has_its_open t.opens) t.ranges k.ranges_have_opens range h.0));
    })
consistent-perform (c.TakeOver file id owner handle) t k fit =
    cond_both (list_any (is_of_handle owner handle) t.opens) t (record t { opens = map (new_owner file id owner handle) t.opens }) IsConsistent (λ _. k) (λ free. takes_over file id owner handle t k fit free)
consistent-perform (c.AddLease lease) t k fit =
    let r = rows_of t k in
    consistent t (record r {
      leases = t.leases ++ lease ∷ [];
      opens_have_leases = all_weaker (has_its_lease t.leases) (has_its_lease (t.leases ++ lease ∷ [])) t.opens (λ o i e. lease_more t.leases (lease ∷ []) o o.lease e) k.opens_have_leases;
      leases_differ = distinct_pushed have_same_name t.leases lease k.leases_differ fit.name;
      leases_agree = all_pushed (λ l. states_agree l.held.0 l.breaking) t.leases lease k.leases_agree fit.states;
    })
consistent-perform (c.SetLease file name held breaking) t k fit = sets_lease file name held breaking t k fit
consistent-perform (c.Acknowledge file name state) t k fit = sets_lease file name state None t k (ap (λ b. b && true) fit)
consistent-perform (c.AddRange range) t k fit =
    let r = rows_of t k in
    consistent t (record r { ranges = t.ranges ++ range ∷ []; ranges_have_opens = all_pushed (has_its_open t.opens) t.ranges range k.ranges_have_opens fit })
consistent-perform (c.DropRange range) t k fit =
    let r = rows_of t k in
    consistent t (record r { ranges = drop_first (same_range range) t.ranges; ranges_have_opens = all_dropped (has_its_open t.opens) (same_range range) t.ranges k.ranges_have_opens })
consistent-perform (c.AddPending file) t k fit =
    let r = rows_of t k in consistent t (record r { pending = with_pending file t.pending; pending_differ = added_differ file t.pending k.pending_differ })
consistent-perform (c.DropPending file) t k fit =
    let r = rows_of t k in
    let stays = λ (pending : ℕ). not (names_file file pending) in
    consistent t (record r { pending = filter stays t.pending; pending_differ = distinct_filtered nat_eq stays t.pending k.pending_differ })
consistent-perform (c.AddHold hold) t k fit =
    let r = rows_of t k in
    consistent t (record r {
      holds = t.holds ++ hold ∷ [];
      holders_live = all_pushed (λ hold. lives (view t) hold.owner) t.holds hold k.holders_live fit.owner;
      holds_agree = distinct_pushed cannot_both_hold t.holds hold k.holds_agree fit.others;
    })
consistent-perform (c.SetHold key owner mode) t k fit = sets_hold key owner mode t k fit
consistent-perform (c.DropHold key owner) t k fit =
    let r = rows_of t k in
    let stays = λ (hold : HoldRow). not (is_hold key owner hold) in
    consistent t (record r {
      holds = filter stays t.holds;
      holders_live = all_kept (λ hold. lives (view t) hold.owner) stays t.holds k.holders_live;
      holds_agree = distinct_filtered cannot_both_hold stays t.holds k.holds_agree;
    })
consistent-perform (c.AddWaiter waiter) t k fit =
    let r = rows_of t k in
    consistent t (record r {
      waiters = t.waiters ++ waiter ∷ [];
      waiters_live = all_pushed (waits_among_living (view t)) t.waiters waiter k.waiters_live fit.living;
      waits_differ = distinct_pushed cannot_both_wait t.waiters waiter k.waits_differ fit.others;
    })
consistent-perform (c.DropWaiter sid call) t k fit =
    let r = rows_of t k in
    let stays = λ (w : WaiterRow). is_other_wait sid call w.sid w.call in
    consistent t (record r {
      waiters = filter stays t.waiters;
      waiters_live = all_kept (waits_among_living (view t)) stays t.waiters k.waiters_live;
      waits_differ = distinct_filtered cannot_both_wait stays t.waiters k.waits_differ;
    })
consistent-perform (c.Send post) t k fit =
    let r = rows_of t k in consistent t (record r { letters = t.letters ++ post ∷ []; receivers_live = all_pushed (λ post. lives (view t) post.to) t.letters post k.receivers_live fit })
consistent-perform (c.TakeLetter to) t k fit =
    let r = rows_of t k in
    consistent t (record r { letters = drop_first (is_to to) t.letters; receivers_live = all_dropped (λ post. lives (view t) post.to) (is_to to) t.letters k.receivers_live })
consistent-perform (c.EndSession sid moment) t k fit = ends_session sid moment t k fit
consistent-perform (c.NextSession after moment) t k fit = begins_session after moment t k fit
consistent-perform c.Settle t k fit = settles t k

pub consistent-perform_all : (cs : List Change) (t : Table) → IsConsistent t → AllFit cs t → IsConsistent (perform_all cs t)
consistent-perform_all [] t k fit = k
consistent-perform_all (change ∷ cs) t k fit = consistent-perform_all cs (perform change t) (consistent-perform change t k fit.0) fit.1
