-- Settling in place is settling.
use Rattle.std.proofs.Common.{◌≡◌, ◌==◌, ◌&&◌, ◌||◌, not, ℕ, Bool, true, false, cond, List, [], ◌∷◌, filter, map, Option, Some, None, refl, sym, ap, ◌∙◌}
use Rattle.std.proofs.lemmas.Bool.{eqb-true}
use Rattle.std.proofs.Math.Bool.{and_assoc, and_comm, and-false}
use Rattle.std.proofs.Math.Path.{fun_ext}
use Rattle.std.specs.List.{list_any}
use Rattle.std.specs.Option.{option_map_or}
use Rattle.sid_core.specs.declared.ids.LeaseName.{LeaseName}
use Rattle.sid_core.specs.declared.ids.OpenId.{OpenId}
use Rattle.sid_core.specs.Ids.{same_id, same_name}
use Rattle.sid_core.specs.Values.{has}
use Rattle.serial_table.specs.declared.rows.OpenRow.{OpenRow}
use Rattle.serial_table.specs.declared.rows.LeaseRow.{LeaseRow}
use Rattle.serial_table.specs.declared.rows.RangeRow.{RangeRow}
use Rattle.serial_table.specs.declared.rows.Breaking.{Breaking}
use Rattle.serial_table.specs.declared.table.Table.{Table}
use Rattle.serial_table.specs.View.{view, lives, carries, is_of_file, is_range_of, has_name, has_id}
use Rattle.serial_table.specs.File.{FileView, file_view, file_open, is_under}
use Rattle.serial_table.specs.Settle.{settle_where, settled_lease, broken_to_needed, lacks_handle, keeps_open, keeps_range, keeps_lease, keeps_pending, row_stays, range_stays, lease_settles, lease_stays, pending_stays}
use Rattle.serial_table.specs.InPlace.{is_lease_of, is_under_lease, break_if_any_ends, lease_ends_break, lacks_lease, goes, goes_with, range_goes, lease_goes, pending_goes, without_what_goes, lacks_once_settled, goes_once_settled}
use Rattle.serial_table.proofs.Unmoved.{none_leaves}
use Rattle.serial_table.proofs.Filters.{filter-map, any_here, any_same, filter_all}
use Rattle.serial_table.proofs.Views.{name-settled_lease, file-settled_lease}

-- ---- lists

by_all : {X : Type 0} (p q : X → Bool) (xs : List X) → ((x : X) → p x ≡ q x) → list_any p xs ≡ list_any q xs
by_all p q xs h = ap (λ r. list_any r xs) (fun_ext h)

pub any_in_map : {X Y : Type 0} (f : X → Y) (p : Y → Bool) (xs : List X) → list_any p (map f xs) ≡ list_any (λ x. p (f x)) xs
any_in_map f p [] = refl
any_in_map f p (x ∷ xs) = ap (λ b. p (f x) || b) (any_in_map f p xs)

pub any_in_filter : {X : Type 0} (p c : X → Bool) (xs : List X) → list_any p (filter c xs) ≡ list_any (λ x. c x && p x) xs
any_in_filter p c [] = refl
any_in_filter p c (x ∷ xs) = any_here (c x) x p (filter c xs) ∙ ap (λ b. (c x && p x) || b) (any_in_filter p c xs)

-- ---- truth values

stays_case : (h k k' a : Bool) → (h ≡ true → k ≡ k') → not (h && (k && not a)) ≡ (not h || (a || not k'))
stays_case false k k' a e = refl
stays_case true true k' true e = refl
stays_case true false k' true e = refl
stays_case true true k' false e = ap not (e refl)
stays_case true false k' false e = ap not (e refl)

not_both : (h k k' : Bool) → (h ≡ true → k ≡ k') → not (h && k) ≡ (not h || not k')
not_both false k k' e = refl
not_both true k k' e = ap not (e refl)

goes_not : (g h k : Bool) → not g ≡ (not h || k) → h ≡ true → g ≡ not k
goes_not true true true e i = absurd cc
goes_not true true false e i = refl
goes_not false true true e i = refl
goes_not false true false e i = absurd cc
goes_not g false k e i = absurd cc

under_case : (f u s k : Bool) → (f ≡ true → s ≡ k) → (s && (f && u)) ≡ (f && (u && k))
under_case false u s k e = and-false s
under_case true u s k e = and_comm s u ∙ ap (λ b. u && b) (e refl)

here_case : (f s k : Bool) → (f ≡ true → s ≡ k) → (s && f) ≡ (f && k)
here_case false s k e = and-false s
here_case true s k e = and_comm s true ∙ e refl

double : (h k : Bool) → (not h || not (not k)) ≡ (not h || k)
double h true = refl
double h false = refl

-- ---- a break ends in the same way

ends_case : (l : LeaseRow) (b : Option Breaking) (h c : Bool) → cond (not h || c) l (broken_to_needed l b) ≡ cond h (cond c l (broken_to_needed l b)) l
ends_case l b true c = refl
ends_case l b false c = refl

if_any : (l : LeaseRow) (h c : Bool) → l ≡ cond h (cond c l l) l
if_any l true true = refl
if_any l true false = refl
if_any l false c = refl

name_kept : (b : Bool) (f : FileView) (l : LeaseRow) → (cond b (settled_lease f l) l).name ≡ l.name
name_kept true f l = name-settled_lease f l
name_kept false f l = refl

file_kept : (b : Bool) (f : FileView) (l : LeaseRow) → (cond b (settled_lease f l) l).file ≡ l.file
file_kept true f l = file-settled_lease f l
file_kept false f l = refl

module _ (here : ℕ → Bool) (t : Table) where
  opens_under : (l : LeaseRow) → list_any (λ o. is_under_lease l o && lives (view t) o.owner) t.opens ≡ list_any (λ o. is_under l.name o && o.connected) (file_view l.file (view t)).opens
  opens_under l =
      by_all (λ o. is_under_lease l o && lives (view t) o.owner) (λ o. is_of_file l.file o && (carries l.name o.lease && lives (view t) o.owner)) t.opens
      (λ o. and_assoc (o.file == l.file) (carries l.name o.lease) (lives (view t) o.owner))
      ∙ sym (any_in_filter (λ o. carries l.name o.lease && lives (view t) o.owner) (is_of_file l.file) t.opens)
      ∙ sym (any_in_map (file_open (lives (view t))) (λ o. is_under l.name o && o.connected) (filter (is_of_file l.file) t.opens))

  break_by : (l : LeaseRow) (b : Option Breaking) → break_if_any_ends here t.opens (lives (view t)) l b
      ≡ cond (here l.file) (cond (list_any (λ o. is_under l.name o && o.connected) (file_view l.file (view t)).opens) l (broken_to_needed l b)) l
  break_by l None = if_any l (here l.file) (list_any (λ o. is_under l.name o && o.connected) (file_view l.file (view t)).opens)
  break_by l (Some breaking) =
      ap (λ c. cond (not (here l.file) || c) l (broken_to_needed l (Some breaking))) (opens_under l)
      ∙ ends_case l (Some breaking) (here l.file) (list_any (λ o. is_under l.name o && o.connected) (file_view l.file (view t)).opens)

  -- a lease settles in the same way
  lease_same : (l : LeaseRow) → lease_ends_break here t.opens (lives (view t)) l ≡ lease_settles here (view t) l
  lease_same l = break_by l l.breaking

  leases_same : map (lease_ends_break here t.opens (lives (view t))) t.leases ≡ map (lease_settles here (view t)) t.leases
  leases_same = ap (λ s. map s t.leases) (fun_ext lease_same)

  -- ---- the opens that go

  settles_here : (l : LeaseRow) (file : ℕ) → here file ≡ true → (l.file == file) ≡ true → lease_settles here (view t) l ≡ settled_lease (file_view file (view t)) l
  settles_here l file h e =
      let same = eqb-true l.file file e in
      ap (λ b. cond b (settled_lease (file_view l.file (view t)) l) l) (ap here same ∙ h) ∙ ap (λ f. settled_lease (file_view f (view t)) l) same

  lacks_in : (file : ℕ) (name : LeaseName) → here file ≡ true
      → list_any (λ lease. not (has lease.held.0 2)) (filter (is_lease_of file) (filter (has_name name) (map (lease_settles here (view t)) t.leases)))
      ≡ list_any (lacks_handle (file_view file (view t))) (filter (is_lease_of file) (filter (has_name name) t.leases))
  lacks_in file name h =
      let s = lease_settles here (view t) in
      ap (λ ls. list_any (λ (lease : LeaseRow). not (has lease.held.0 2)) (filter (is_lease_of file) ls))
      (filter-map (has_name name) s (λ l. ap (λ (n : LeaseName). same_name n name) (name_kept (here l.file) (file_view l.file (view t)) l)) t.leases)
      ∙ ap (list_any (λ (lease : LeaseRow). not (has lease.held.0 2)))
      (filter-map (is_lease_of file) s (λ l. ap (λ f. f == file) (file_kept (here l.file) (file_view l.file (view t)) l)) (filter (has_name name) t.leases))
      ∙ any_in_map s (λ lease. not (has lease.held.0 2)) (filter (is_lease_of file) (filter (has_name name) t.leases))
      ∙ any_same (λ l. not (has (s l).held.0 2)) (lacks_handle (file_view file (view t))) (is_lease_of file)
      (λ l e. ap (λ (k : LeaseRow). not (has k.held.0 2)) (settles_here l file h e)) (filter (has_name name) t.leases)

  lacks_by : (file : ℕ) (lease : Option LeaseName) → here file ≡ true
      → option_map_or (λ name. list_any (λ lease. not (has lease.held.0 2)) (filter (is_lease_of file) (filter (has_name name) (map (lease_settles here (view t)) t.leases)))) lease false
      ≡ option_map_or (λ name. list_any (lacks_handle (file_view file (view t))) (filter (is_lease_of file) (filter (has_name name) t.leases))) lease false
  lacks_by file None h = refl
  lacks_by file (Some name) h = lacks_in file name h

  -- by leases that are settled, the opens that go are those that don't stay
  open_same : (o : OpenRow) → not (goes here (lives (view t)) (map (lease_settles here (view t)) t.leases) o) ≡ row_stays here (view t) o
  open_same o =
      stays_case (here o.file) (lacks_lease (map (lease_settles here (view t)) t.leases) o) _ (lives (view t) o.owner) (lacks_by o.file o.lease)

  goes_same : (o : OpenRow) (file : ℕ) → here file ≡ true → (o.file == file) ≡ true
      → goes here (lives (view t)) (map (lease_settles here (view t)) t.leases) o ≡ not (keeps_open (file_view file (view t)) (file_open (lives (view t)) o))
  goes_same o file h e =
      let same = eqb-true o.file file e in
      goes_not _ (here o.file) (keeps_open (file_view o.file (view t)) (file_open (lives (view t)) o)) (open_same o) (ap here same ∙ h)
      ∙ ap (λ f. not (keeps_open (file_view f (view t)) (file_open (lives (view t)) o))) same

  ranges_in : (r : RangeRow) → here r.file ≡ true
      → list_any (goes_with (goes here (lives (view t)) (map (lease_settles here (view t)) t.leases)) r) (filter (is_of_file r.file) t.opens)
      ≡ list_any (λ o. same_id o.row.id r.id && not (keeps_open (file_view r.file (view t)) o)) (file_view r.file (view t)).opens
  ranges_in r h =
      any_same (goes_with (goes here (lives (view t)) (map (lease_settles here (view t)) t.leases)) r)
      (λ o. same_id o.id r.id && not (keeps_open (file_view r.file (view t)) (file_open (lives (view t)) o))) (is_of_file r.file)
      (λ o e. ap (λ b. same_id o.id r.id && b) (goes_same o r.file h e)) t.opens
      ∙ sym (any_in_map (file_open (lives (view t))) (λ o. same_id o.row.id r.id && not (keeps_open (file_view r.file (view t)) o)) (filter (is_of_file r.file) t.opens))

  range_same : (r : RangeRow) → not (range_goes here (goes here (lives (view t)) (map (lease_settles here (view t)) t.leases)) t.opens r) ≡ range_stays here (view t) r
  range_same r = not_both (here r.file) _ _ (ranges_in r)

  -- ---- the leases and the pending files that have no open

  stays_at : (file : ℕ) → here file ≡ true → (o : OpenRow) → (o.file == file) ≡ true → row_stays here (view t) o ≡ keeps_open (file_view file (view t)) (file_open (lives (view t)) o)
  stays_at file h o e =
      let same = eqb-true o.file file e in
      ap (λ b. not b || keeps_open (file_view o.file (view t)) (file_open (lives (view t)) o)) (ap here same ∙ h)
      ∙ ap (λ f. keeps_open (file_view f (view t)) (file_open (lives (view t)) o)) same

  pending_opens : (file : ℕ) → here file ≡ true → not (list_any (is_of_file file) (filter (row_stays here (view t)) t.opens)) ≡ not (keeps_pending (file_view file (view t)))
  pending_opens file h = ap not (
      any_in_filter (is_of_file file) (row_stays here (view t)) t.opens
      ∙ by_all (λ o. row_stays here (view t) o && is_of_file file o) (λ o. is_of_file file o && keeps_open (file_view file (view t)) (file_open (lives (view t)) o)) t.opens
      (λ o. here_case (o.file == file) (row_stays here (view t) o) (keeps_open (file_view file (view t)) (file_open (lives (view t)) o)) (stays_at file h o))
      ∙ sym (any_in_filter (λ o. keeps_open (file_view file (view t)) (file_open (lives (view t)) o)) (is_of_file file) t.opens)
      ∙ sym (any_in_map (file_open (lives (view t))) (keeps_open (file_view file (view t))) (filter (is_of_file file) t.opens)))

  pending_same : (file : ℕ) → not (pending_goes here (filter (row_stays here (view t)) t.opens) file) ≡ pending_stays here (view t) file
  pending_same file = not_both (here file) _ _ (pending_opens file) ∙ double (here file) (keeps_pending (file_view file (view t)))

  lease_opens : (l : LeaseRow) → here l.file ≡ true
      → not (list_any (is_under_lease l) (filter (row_stays here (view t)) t.opens)) ≡ not (keeps_lease (file_view l.file (view t)) l)
  lease_opens l h = ap not (
      any_in_filter (is_under_lease l) (row_stays here (view t)) t.opens
      ∙ by_all (λ o. row_stays here (view t) o && is_under_lease l o) (λ o. is_of_file l.file o && (carries l.name o.lease && keeps_open (file_view l.file (view t)) (file_open (lives (view t)) o))) t.opens
      (λ o. under_case (o.file == l.file) (carries l.name o.lease) (row_stays here (view t) o) (keeps_open (file_view l.file (view t)) (file_open (lives (view t)) o)) (stays_at l.file h o))
      ∙ sym (any_in_filter (λ o. carries l.name o.lease && keeps_open (file_view l.file (view t)) (file_open (lives (view t)) o)) (is_of_file l.file) t.opens)
      ∙ sym (any_in_map (file_open (lives (view t))) (λ o. is_under l.name o && keeps_open (file_view l.file (view t)) o) (filter (is_of_file l.file) t.opens)))

  lease_same_goes : (l : LeaseRow) → not (lease_goes here (filter (row_stays here (view t)) t.opens) l) ≡ lease_stays here (view t) l
  lease_same_goes l = not_both (here l.file) _ _ (lease_opens l) ∙ double (here l.file) (keeps_lease (file_view l.file (view t)) l)

-- ---- the whole

-- the last step: the leases and the pending files that have no open go
abbrev pub without_empty : (ℕ → Bool) → Table → Table
without_empty here t = record t {
  leases = filter (λ l. not (lease_goes here t.opens l)) t.leases;
  pending = filter (λ file. not (pending_goes here t.opens file)) t.pending;
}

abbrev pub with_settled_leases : (ℕ → Bool) → Table → Table
with_settled_leases here t = record t { leases = map (lease_ends_break here t.opens (lives (view t))) t.leases }

pub settles_in_place : (here : ℕ → Bool) (t : Table) → without_empty here (without_what_goes here (with_settled_leases here t)) ≡ settle_where here t
unfolding settle_where
settles_in_place here t =
    ap (λ ls. without_empty here (without_what_goes here (record t { leases = ls }))) (leases_same here t)
    ∙ (λ i. record t {
      opens = filter (λ o. open_same here t o i) t.opens;
      ranges = filter (λ r. range_same here t r i) t.ranges;
      leases = filter (λ l. not (lease_goes here (filter (λ o. open_same here t o i) t.opens) l)) (map (lease_settles here (view t)) t.leases);
      pending = filter (λ file. not (pending_goes here (filter (λ o. open_same here t o i) t.opens) file)) t.pending;
    })
    ∙ (λ i. record (settle_where here t) {
      leases = filter (λ l. lease_same_goes here t l i) (map (lease_settles here (view t)) t.leases);
      pending = filter (λ file. pending_same here t file i) t.pending;
    })

-- where nothing goes, nothing changes
none_goes_here : (b c : Bool) → (b || c) ≡ false → b ≡ false
none_goes_here true c e = e
none_goes_here false c e = refl

none_goes_later : (b c : Bool) → (b || c) ≡ false → c ≡ false
none_goes_later true c e = absurd cc
none_goes_later false c e = e

none_with : {X : Type 0} (p q c : X → Bool) (xs : List X) → list_any q xs ≡ false → list_any (λ x. p x && q x) (filter c xs) ≡ false
none_with p q c [] e = refl
none_with p q c (x ∷ xs) e =
    any_here (c x) x (λ x. p x && q x) (filter c xs)
    ∙ ap (λ b. (c x && (p x && b)) || list_any (λ x. p x && q x) (filter c xs)) (none_goes_here (q x) (list_any q xs) e)
    ∙ ap (λ b. (c x && b) || list_any (λ x. p x && q x) (filter c xs)) (and-false (p x))
    ∙ ap (λ b. b || list_any (λ x. p x && q x) (filter c xs)) (and-false (c x))
    ∙ none_with p q c xs (none_goes_later (q x) (list_any q xs) e)

pub nothing_goes : (here : ℕ → Bool) (t : Table) → list_any (goes here (lives (view t)) t.leases) t.opens ≡ false → without_what_goes here t ≡ t
nothing_goes here t e = λ i. record t {
  opens = none_leaves (goes here (lives (view t)) t.leases) t.opens e i;
  ranges = (filter_all (λ r. not (range_goes here (goes here (lives (view t)) t.leases) t.opens r))
      (λ r. ap (λ b. not (here r.file && b)) (none_with (λ o. same_id o.id r.id) (goes here (lives (view t)) t.leases) (is_of_file r.file) t.opens e) ∙ ap not (and-false (here r.file))) t.ranges) i;
}

-- ---- what settling will take out, judged before it does

goes_case : (l l' a : Bool) → l ≡ l' → (l && not a) ≡ not (a || not l')
goes_case true l' true e = refl
goes_case false l' true e = refl
goes_case l true false e = ap (λ b. b && true) e
goes_case l false false e = ap (λ b. b && true) e

twice_not : (b : Bool) → b ≡ not (not b)
twice_not true = refl
twice_not false = refl

module _ (t : Table) where
  will_lack : (file : ℕ) (name : LeaseName) → list_any (lacks_once_settled t.opens (lives (view t))) (filter (is_lease_of file) (filter (has_name name) t.leases))
      ≡ list_any (lacks_handle (file_view file (view t))) (filter (is_lease_of file) (filter (has_name name) t.leases))
  will_lack file name =
      any_same (lacks_once_settled t.opens (lives (view t))) (lacks_handle (file_view file (view t))) (is_lease_of file)
      (λ l e. ap (λ (k : LeaseRow). not (has k.held.0 2)) (lease_same (λ _. true) t l ∙ settles_here (λ _. true) t l file refl e)) (filter (has_name name) t.leases)

  will_lose : (file : ℕ) (lease : Option LeaseName)
      → option_map_or (λ name. list_any (lacks_once_settled t.opens (lives (view t))) (filter (is_lease_of file) (filter (has_name name) t.leases))) lease false
      ≡ option_map_or (λ name. list_any (lacks_handle (file_view file (view t))) (filter (is_lease_of file) (filter (has_name name) t.leases))) lease false
  will_lose file None = refl
  will_lose file (Some name) = will_lack file name

  will_go : (file : ℕ) (o : OpenRow) → (o.file == file) ≡ true → goes_once_settled t o ≡ not (keeps_open (file_view file (view t)) (file_open (lives (view t)) o))
  will_go file o e =
      goes_case _ _ (lives (view t) o.owner) (will_lose o.file o.lease)
      ∙ ap (λ f. not (keeps_open (file_view f (view t)) (file_open (lives (view t)) o))) (eqb-true o.file file e)

  pub opens_will_go : (file : ℕ) → list_any (goes_once_settled t) (filter (is_of_file file) t.opens) ≡ list_any (λ o. not (keeps_open (file_view file (view t)) o)) (file_view file (view t)).opens
  opens_will_go file =
      any_same (goes_once_settled t) (λ o. not (keeps_open (file_view file (view t)) (file_open (lives (view t)) o))) (is_of_file file) (will_go file) t.opens
      ∙ sym (any_in_map (file_open (lives (view t))) (λ o. not (keeps_open (file_view file (view t)) o)) (filter (is_of_file file) t.opens))

  range_will_go : (file : ℕ) (r : RangeRow) → list_any (goes_with (goes_once_settled t) r) (filter (is_of_file file) t.opens) ≡ not (keeps_range (file_view file (view t)) r)
  range_will_go file r =
      any_same (goes_with (goes_once_settled t) r) (λ o. same_id o.id r.id && not (keeps_open (file_view file (view t)) (file_open (lives (view t)) o))) (is_of_file file)
      (λ o e. ap (λ b. same_id o.id r.id && b) (will_go file o e)) t.opens
      ∙ sym (any_in_map (file_open (lives (view t))) (λ o. same_id o.row.id r.id && not (keeps_open (file_view file (view t)) o)) (filter (is_of_file file) t.opens))
      ∙ twice_not (list_any (λ o. same_id o.row.id r.id && not (keeps_open (file_view file (view t)) o)) (file_view file (view t)).opens)

  pub ranges_will_go : (file : ℕ) → list_any (λ r. list_any (goes_with (goes_once_settled t) r) (filter (is_of_file file) t.opens)) (filter (is_range_of file) t.ranges)
      ≡ list_any (λ r. not (keeps_range (file_view file (view t)) r)) (file_view file (view t)).ranges
  ranges_will_go file = by_all _ _ (filter (is_range_of file) t.ranges) (range_will_go file)

  pub open_there : (file : ℕ) (id : OpenId) → list_any (has_id id) (filter (is_of_file file) t.opens) ≡ list_any (λ o. has_id id o.row) (file_view file (view t)).opens
  open_there file id = sym (any_in_map (file_open (lives (view t))) (λ o. has_id id o.row) (filter (is_of_file file) t.opens))
