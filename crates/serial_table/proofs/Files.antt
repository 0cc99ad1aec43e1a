-- What a change of one file does to what that file shows.
use Rattle.std.proofs.Common.{◌≡◌, ◌==◌, ℕ, Bool, true, false, cond, not, List, [], ◌∷◌, ◌++◌, filter, map, Option, None, refl, sym, ap, ◌∙◌}
use Rattle.std.proofs.lemmas.Bool.{eqb-true, and_parts, and_right, or_left}
use Rattle.std.proofs.lemmas.List.{map-append}
use Rattle.std.proofs.lemmas.List.Elements.{filter-append}
use Rattle.sid_core.specs.declared.ids.Sid.{Sid}
use Rattle.sid_core.specs.declared.ids.LeaseName.{LeaseName}
use Rattle.sid_core.specs.declared.ids.Spot.TheVariants.{OpenOf, RangesOf}
use Rattle.sid_core.specs.declared.bits.LeaseState.{LeaseState}
use Rattle.serial_table.specs.declared.rows.OpenRow.{OpenRow}
use Rattle.serial_table.specs.declared.rows.LeaseRow.{LeaseRow}
use Rattle.serial_table.specs.declared.rows.Breaking.{Breaking}
use Rattle.serial_table.specs.declared.table.Table.{Table}
use Rattle.serial_table.specs.declared.change.Change.{Change}
use Rattle.serial_table.specs.declared.change.Change.TheVariants as c
use Rattle.serial_table.specs.View.{View, view, lives, is_of_file, is_range_of, has_name, waits_on, watch_on}
use Rattle.serial_table.specs.File.{file_view, file_open}
use Rattle.serial_table.specs.Settle.{settle_where, settle_by_key, settle_file, settled_lease, keeps_open, keeps_range, keeps_lease, row_stays, range_stays, lease_settles, lease_stays}
use Rattle.serial_table.specs.Change.{perform, perform_all, is_other_open, is_other_range, is_other_wait, set_lease, is_lease, same_range}
use Rattle.serial_table.specs.Local.{perform_in_file, perform_all_in_file, is_in, all_in, is_other_watch, without}
use Rattle.serial_table.proofs.Filters.{filter-filter, filter-map, filter-drop_first, map-filter, filter-same, filter-map-same}
use Rattle.serial_table.proofs.Views.{view-perform, file-settled_lease, same_file, waits_kept}
use Rattle.serial_table.proofs.SameIds.{eqb-flip}

-- a lease is of a file
abbrev pub is_lease_of : ℕ → LeaseRow → Bool
is_lease_of file lease = lease.file == file

-- ---- one change

-- a waiter that goes
pub file_view-without : (file : ℕ) (sid : Sid) (call : ℕ) (t : Table) → file_view file (view (perform (c.DropWaiter sid call) t)) ≡ without sid call (file_view file (view t))
file_view-without file sid call t = λ i. record (file_view file (view t)) {
  open_watches = waits_kept (watch_on (OpenOf file)) (waits_on (OpenOf file)) (is_other_wait sid call) (is_other_watch sid call) (λ w e. refl) t.waiters i;
  range_watches = waits_kept (watch_on (RangesOf file)) (waits_on (RangesOf file)) (is_other_wait sid call) (is_other_watch sid call) (λ w e. refl) t.waiters i;
}

added_row : (alive : Sid → Bool) (row : OpenRow) (b : Bool) → b ≡ true → alive row.owner ≡ true → map (file_open alive) (cond b (row ∷ []) []) ≡ record { row = row; connected = true } ∷ []
added_row alive row true e a = ap (λ x. record { row = row; connected = x } ∷ []) a
added_row alive row false e a = absurd cc

-- a lease that is added is of the file, whatever its name
added_lease : (file : ℕ) (lease : LeaseRow) (b : Bool) → is_lease_of file lease ≡ true → filter (is_lease_of file) (cond b (lease ∷ []) []) ≡ cond b (lease ∷ []) []
added_lease file lease true e = ap (λ b. cond b (lease ∷ []) []) e
added_lease file lease false e = refl

only_one : {X : Type 0} (b : Bool) (x : X) → b ≡ true → cond b (x ∷ []) [] ≡ x ∷ []
only_one true x e = refl
only_one false x e = absurd cc

set_file : (b : Bool) (l : LeaseRow) (m : LeaseRow) → m.file ≡ l.file → (cond b m l).file ≡ l.file
set_file true l m e = e
set_file false l m e = refl

pub file-set_lease : (g : ℕ) (name : LeaseName) (held : LeaseState) (breaking : Option Breaking) (l : LeaseRow) → (set_lease g name held breaking l).file ≡ l.file
unfolding set_lease
file-set_lease g name held breaking l = set_file (is_lease g name l) l (record l { held = held; breaking = breaking }) refl

file_leases_set : (g file : ℕ) (name : LeaseName) (held : LeaseState) (breaking : Option Breaking) (ls : List LeaseRow)
    → filter (is_lease_of file) (map (set_lease g name held breaking) ls) ≡ map (set_lease g name held breaking) (filter (is_lease_of file) ls)
file_leases_set g file name held breaking ls = filter-map (is_lease_of file) (set_lease g name held breaking) (λ l. ap (λ f. f == file) (file-set_lease g name held breaking l)) ls

-- the leases of one file settle by what that file shows
file_leases_settle : (v : View) (file : ℕ) (ls : List LeaseRow) → filter (is_lease_of file) (filter (lease_stays (λ file. true) v) (map (lease_settles (λ file. true) v) ls))
    ≡ filter (keeps_lease (file_view file v)) (map (settled_lease (file_view file v)) (filter (is_lease_of file) ls))
file_leases_settle v file ls =
    filter-filter (is_lease_of file) (lease_stays (λ file. true) v) (map (lease_settles (λ file. true) v) ls)
    ∙ ap (filter (lease_stays (λ file. true) v)) (filter-map (is_lease_of file) (lease_settles (λ file. true) v) (λ l. ap (λ f. f == file) (file-settled_lease (file_view l.file v) l)) ls)
    ∙ filter-map-same (lease_stays (λ file. true) v) (keeps_lease (file_view file v)) (is_lease_of file) (lease_settles (λ file. true) v) (settled_lease (file_view file v))
    (λ l e. ap (λ f. settled_lease (file_view f v) l) (eqb-true l.file file e))
    (λ l e. ap (λ f. keeps_lease (file_view f v) (lease_settles (λ file. true) v l)) (file-settled_lease (file_view l.file v) l ∙ eqb-true l.file file e)) ls

-- a change of a file is the same change of what the file shows
pub file_view-perform : (file : ℕ) (change : Change) (t : Table) → is_in (lives (view t)) file change ≡ true → file_view file (view (perform change t)) ≡ perform_in_file change (file_view file (view t))
unfolding settle_where settle_by_key settle_file
file_view-perform file (c.AddOpen row) t e =
    let both = and_parts (row.file == file) (lives (view t) row.owner) e in
    λ i. record (file_view file (view t)) {
      opens = (ap (map (file_open (lives (view t)))) (filter-append (is_of_file file) t.opens (row ∷ []))
          ∙ map-append (file_open (lives (view t))) (filter (is_of_file file) t.opens) (filter (is_of_file file) (row ∷ []))
          ∙ ap (λ xs. map (file_open (lives (view t))) (filter (is_of_file file) t.opens) ++ xs) (added_row (lives (view t)) row (row.file == file) both.0 both.1)) i;
    }
file_view-perform file (c.DropOpen g id) t e = λ i. record (file_view file (view t)) {
  opens = (ap (map (file_open (lives (view t)))) (filter-filter (is_of_file file) (is_other_open g id) t.opens)
      ∙ map-filter (file_open (lives (view t))) (is_other_open g id) (is_of_file file) (λ o. is_other_open g id o.row) (λ x k. refl) t.opens) i;
  ranges = filter-filter (is_range_of file) (is_other_range g id) t.ranges i;
}
file_view-perform file (c.AddLease lease) t e = λ i. record (file_view file (view t)) {
  leases = λ name. (
      ap (filter (is_lease_of file)) (filter-append (has_name name) t.leases (lease ∷ []))
      ∙ filter-append (is_lease_of file) (filter (has_name name) t.leases) (filter (has_name name) (lease ∷ []))
      ∙ ap (λ xs. filter (is_lease_of file) (filter (has_name name) t.leases) ++ xs) (added_lease file lease (has_name name lease) e)) i;
}
file_view-perform file (c.SetLease g name held breaking) t e = λ i. record (file_view file (view t)) {
  leases = λ n. (
      ap (filter (is_lease_of file)) (ap (λ v. v.leases_of n) (view-perform (c.SetLease g name held breaking) t))
      ∙ file_leases_set g file name held breaking (filter (has_name n) t.leases)) i;
}
file_view-perform file (c.Acknowledge g name state) t e = λ i. record (file_view file (view t)) {
  leases = λ n. (
      ap (filter (is_lease_of file)) (ap (λ v. v.leases_of n) (view-perform (c.Acknowledge g name state) t))
      ∙ file_leases_set g file name state None (filter (has_name n) t.leases)) i;
}
file_view-perform file (c.AddRange range) t e = λ i. record (file_view file (view t)) { ranges = (filter-append (is_range_of file) t.ranges (range ∷ []) ∙ ap (λ xs. filter (is_range_of file) t.ranges ++ xs) (only_one (range.file == file) range e)) i }
file_view-perform file (c.DropRange range) t e = λ i. record (file_view file (view t)) { ranges = filter-drop_first (range.file == file) (same_range range) (is_range_of file) (same_file range file) t.ranges i }
file_view-perform file (c.AddPending g) t e = λ i. record (file_view file (view t)) {
  pending = (ap (λ v. v.is_pending file) (view-perform (c.AddPending g) t) ∙ or_left (file == g) ((view t).is_pending file) (eqb-flip file g ∙ e)) i;
}
file_view-perform file (c.DropPending g) t e = λ i. record (file_view file (view t)) {
  pending = (ap (λ v. v.is_pending file) (view-perform (c.DropPending g) t) ∙ and_right ((view t).is_pending file) (not (file == g)) (ap not (eqb-flip file g ∙ e))) i;
}
file_view-perform file (c.DropWaiter sid call) t e = file_view-without file sid call t
file_view-perform file c.Settle t e = λ i. record (file_view file (view t)) {
  opens = (ap (map (file_open (lives (view t)))) (filter-filter (is_of_file file) (row_stays (λ file. true) (view t)) t.opens)
      ∙ map-filter (file_open (lives (view t))) (row_stays (λ file. true) (view t)) (is_of_file file) (keeps_open (file_view file (view t)))
      (λ x k. ap (λ f. keeps_open (file_view f (view t)) (file_open (lives (view t)) x)) (sym (eqb-true x.file file k))) t.opens) i;
  ranges = (filter-filter (is_range_of file) (range_stays (λ file. true) (view t)) t.ranges
      ∙ filter-same (range_stays (λ file. true) (view t)) (keeps_range (file_view file (view t))) (is_range_of file)
      (λ r k. ap (λ f. keeps_range (file_view f (view t)) r) (eqb-true r.file file k)) t.ranges) i;
  leases = λ name. (
      ap (filter (is_lease_of file)) (ap (λ v. v.leases_of name) (view-perform c.Settle t))
      ∙ file_leases_settle (view t) file (filter (has_name name) t.leases)) i;
  pending = ap (λ v. v.is_pending file) (view-perform c.Settle t) i;
}
file_view-perform file (c.TakeOver g id owner handle) t e = absurd cc
file_view-perform file (c.AddHold hold) t e = absurd cc
file_view-perform file (c.SetHold key owner mode) t e = absurd cc
file_view-perform file (c.DropHold key owner) t e = absurd cc
file_view-perform file (c.TakeLetter to) t e = absurd cc
file_view-perform file (c.AddWaiter waiter) t e = absurd cc
file_view-perform file (c.Send post) t e = absurd cc
file_view-perform file (c.EndSession sid moment) t e = absurd cc
file_view-perform file (c.NextSession sid moment) t e = absurd cc

-- ---- the changes, one after another

-- a change of one file doesn't change who lives
pub lives-perform : (file : ℕ) (change : Change) (t : Table) → is_in (lives (view t)) file change ≡ true → lives (view (perform change t)) ≡ lives (view t)
unfolding settle_where
lives-perform file (c.AddOpen row) t e = refl
lives-perform file (c.DropOpen g id) t e = refl
lives-perform file (c.AddLease lease) t e = refl
lives-perform file (c.SetLease g name held breaking) t e = refl
lives-perform file (c.Acknowledge g name state) t e = refl
lives-perform file (c.AddRange range) t e = refl
lives-perform file (c.DropRange range) t e = refl
lives-perform file (c.AddPending g) t e = refl
lives-perform file (c.DropPending g) t e = refl
lives-perform file (c.DropWaiter sid call) t e = refl
lives-perform file c.Settle t e = refl
lives-perform file (c.TakeOver g id owner handle) t e = absurd cc
lives-perform file (c.AddHold hold) t e = absurd cc
lives-perform file (c.SetHold key owner mode) t e = absurd cc
lives-perform file (c.DropHold key owner) t e = absurd cc
lives-perform file (c.TakeLetter to) t e = absurd cc
lives-perform file (c.AddWaiter waiter) t e = absurd cc
lives-perform file (c.Send post) t e = absurd cc
lives-perform file (c.EndSession sid moment) t e = absurd cc
lives-perform file (c.NextSession sid moment) t e = absurd cc

-- the first of some changes of a file is of that file
pub first_in : (alive : Sid → Bool) (file : ℕ) (change : Change) (cs : List Change) → all_in alive file (change ∷ cs) ≡ true → is_in alive file change ≡ true
first_in alive file change cs e = (and_parts (is_in alive file change) (all_in alive file cs) e).0

-- the others are of that file also once the first is made
pub rest_in : (file : ℕ) (change : Change) (cs : List Change) (t : Table) → all_in (lives (view t)) file (change ∷ cs) ≡ true → all_in (lives (view (perform change t))) file cs ≡ true
rest_in file change cs t e =
    let both = and_parts (is_in (lives (view t)) file change) (all_in (lives (view t)) file cs) e in
    ap (λ (alive : Sid → Bool). all_in alive file cs) (lives-perform file change t both.0) ∙ both.1

pub file_view-perform_all : (file : ℕ) (cs : List Change) (t : Table) → all_in (lives (view t)) file cs ≡ true → file_view file (view (perform_all cs t)) ≡ perform_all_in_file cs (file_view file (view t))
file_view-perform_all file [] t e = refl
file_view-perform_all file (change ∷ cs) t e =
    file_view-perform_all file cs (perform change t) (rest_in file change cs t e)
    ∙ ap (perform_all_in_file cs) (file_view-perform file change t (first_in (lives (view t)) file change cs e))
