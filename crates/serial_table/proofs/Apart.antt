-- A file's changes leave the other files alone, where these are settled.
use Rattle.std.proofs.Common.{◌≡◌, ◌==◌, ◌&&◌, ◌||◌, not, ℕ, Bool, true, false, cond, List, [], ◌∷◌, ◌++◌, filter, map, Option, None, refl, sym, ap, ◌∙◌, eq-eqb}
use Rattle.std.proofs.lemmas.Bool.{eqb-true, and_parts, and_left, not_from_false, false_from_ne_true, both_ways}
use Rattle.std.proofs.Math.Bool.{and-true}
use Rattle.sid_core.specs.declared.ids.LeaseName.{LeaseName}
use Rattle.sid_core.specs.declared.bits.LeaseState.{LeaseState}
use Rattle.sid_core.specs.Ids.{same_name, same_id}
use Rattle.serial_table.specs.declared.rows.LeaseRow.{LeaseRow}
use Rattle.serial_table.specs.declared.rows.Breaking.{Breaking}
use Rattle.serial_table.specs.declared.table.Table.{Table}
use Rattle.serial_table.specs.declared.change.Change.{Change}
use Rattle.serial_table.specs.declared.change.Change.TheVariants as c
use Rattle.serial_table.specs.View.{view, lives, is_of_file, is_range_of, has_name}
use Rattle.serial_table.specs.File.{FileView, file_view, file_open}
use Rattle.serial_table.specs.Settle.{settle_file}
use Rattle.serial_table.specs.Change.{perform, perform_all, is_other_open, is_other_range, set_lease, is_lease, same_range}
use Rattle.serial_table.specs.Local.{is_in, all_in, perform_beside, perform_all_beside, without}
use Rattle.serial_table.proofs.Filters.{filter-filter, filter-map, filter_absorbed, filter_one_out, filter_dropped_out, map_left_alone}
use Rattle.serial_table.proofs.Views.{view-perform, same_file}
use Rattle.serial_table.proofs.Files.{file_view-perform, file_view-without, file-set_lease, is_lease_of, first_in, rest_in}

-- ---- files that differ

-- what is of one file isn't of another
pub of_other : (f g x : ℕ) → (f == g) ≡ false → (x == f) ≡ true → (x == g) ≡ false
of_other f g x d e = ap (λ n. n == g) (eqb-true x f e) ∙ d

pub not_of : (f g x : ℕ) → (f == g) ≡ false → (x == g) ≡ true → (x == f) ≡ false
not_of f g x d e = false_from_ne_true (x == f) (λ h. both_ways (x == g) (of_other f g x d h) e)

-- a row of another file isn't the one that goes
pub not_it : (f g x : ℕ) (same : Bool) → (f == g) ≡ false → (x == g) ≡ true → not ((x == f) && same) ≡ true
not_it f g x same d e = not_from_false ((x == f) && same) (and_left (x == f) same (not_of f g x d e))

-- a change of another file's lease leaves a lease alone
set_apart : (b : Bool) (l m : LeaseRow) → b ≡ false → cond b m l ≡ l
set_apart false l m e = refl
set_apart true l m e = absurd cc

set_lease-apart : (f g : ℕ) (name : LeaseName) (held : LeaseState) (breaking : Option Breaking) → (f == g) ≡ false → (l : LeaseRow) → is_lease_of g l ≡ true → set_lease f name held breaking l ≡ l
unfolding set_lease
set_lease-apart f g name held breaking d l e =
    set_apart (is_lease f name l) l (record l { held = held; breaking = breaking }) (and_left (l.file == f) (same_name l.name name) (not_of f g l.file d e))

pub leases_apart : (f g : ℕ) (name : LeaseName) (held : LeaseState) (breaking : Option Breaking) → (f == g) ≡ false → (ls : List LeaseRow) → filter (is_lease_of g) (map (set_lease f name held breaking) ls) ≡ filter (is_lease_of g) ls
leases_apart f g name held breaking d ls =
    filter-map (is_lease_of g) (set_lease f name held breaking) (λ l. ap (λ x. x == g) (file-set_lease f name held breaking l)) ls
    ∙ map_left_alone (is_lease_of g) (set_lease f name held breaking) (set_lease-apart f g name held breaking d) ls

-- another file is to go as before
pub pending_apart : (f g h : ℕ) (t : Table) → (f == g) ≡ false → (h == f) ≡ true → (view (perform (c.AddPending h) t)).is_pending g ≡ (view t).is_pending g
pending_apart f g h t d e = ap (λ v. v.is_pending g) (view-perform (c.AddPending h) t) ∙ ap (λ b. b || (view t).is_pending g) (not_of h g g (of_other f g h d e) (eq-eqb g g refl))

pub unpending_apart : (f g h : ℕ) (t : Table) → (f == g) ≡ false → (h == f) ≡ true → (view (perform (c.DropPending h) t)).is_pending g ≡ (view t).is_pending g
unpending_apart f g h t d e =
    ap (λ v. v.is_pending g) (view-perform (c.DropPending h) t) ∙ ap (λ b. (view t).is_pending g && not b) (not_of h g g (of_other f g h d e) (eq-eqb g g refl)) ∙ and-true ((view t).is_pending g)

-- ---- one change

pub file_view-beside : (f g : ℕ) (change : Change) (t : Table) → (f == g) ≡ false → is_in (lives (view t)) f change ≡ true → settle_file (file_view g (view t)) ≡ file_view g (view t)
    → file_view g (view (perform change t)) ≡ perform_beside change (file_view g (view t))
file_view-beside f g (c.AddOpen row) t d e s =
    λ i. record (file_view g (view t)) { opens = map (file_open (lives (view t))) (filter_one_out (is_of_file g) row t.opens (of_other f g row.file d (and_parts (row.file == f) (lives (view t) row.owner) e).0) i) }
file_view-beside f g (c.DropOpen h id) t d e s =
    let apart = of_other f g h d e in
    λ i. record (file_view g (view t)) {
      opens = map (file_open (lives (view t))) (filter_absorbed (is_of_file g) (is_other_open h id) (λ x k. not_it h g x.file (same_id x.id id) apart k) t.opens i);
      ranges = filter_absorbed (is_range_of g) (is_other_range h id) (λ x k. not_it h g x.file (same_id x.id id) apart k) t.ranges i;
    }
file_view-beside f g (c.AddLease lease) t d e s = λ i. record (file_view g (view t)) {
  leases = λ name. (
      filter-filter (is_lease_of g) (has_name name) (t.leases ++ lease ∷ [])
      ∙ ap (filter (has_name name)) (filter_one_out (is_lease_of g) lease t.leases (of_other f g lease.file d e))
      ∙ filter-filter (has_name name) (is_lease_of g) t.leases) i;
}
file_view-beside f g (c.SetLease h name held breaking) t d e s = λ i. record (file_view g (view t)) {
  leases = λ n. (
      ap (filter (is_lease_of g)) (ap (λ v. v.leases_of n) (view-perform (c.SetLease h name held breaking) t))
      ∙ leases_apart h g name held breaking (of_other f g h d e) (filter (has_name n) t.leases)) i;
}
file_view-beside f g (c.Acknowledge h name state) t d e s = λ i. record (file_view g (view t)) {
  leases = λ n. (
      ap (filter (is_lease_of g)) (ap (λ v. v.leases_of n) (view-perform (c.Acknowledge h name state) t))
      ∙ leases_apart h g name state None (of_other f g h d e) (filter (has_name n) t.leases)) i;
}
file_view-beside f g (c.AddRange range) t d e s = λ i. record (file_view g (view t)) { ranges = filter_one_out (is_range_of g) range t.ranges (of_other f g range.file d e) i }
file_view-beside f g (c.DropRange range) t d e s =
    λ i. record (file_view g (view t)) { ranges = filter_dropped_out (same_range range) (is_range_of g) (λ r h. same_file range g r h ∙ of_other f g range.file d e) t.ranges i }
file_view-beside f g (c.AddPending h) t d e s = λ i. record (file_view g (view t)) { pending = pending_apart f g h t d e i }
file_view-beside f g (c.DropPending h) t d e s = λ i. record (file_view g (view t)) { pending = unpending_apart f g h t d e i }
file_view-beside f g (c.DropWaiter sid call) t d e s = file_view-without g sid call t
file_view-beside f g c.Settle t d e s = file_view-perform g c.Settle t refl ∙ s
file_view-beside f g (c.TakeOver h id owner handle) t d e s = absurd cc
file_view-beside f g (c.AddHold hold) t d e s = absurd cc
file_view-beside f g (c.SetHold key owner mode) t d e s = absurd cc
file_view-beside f g (c.DropHold key owner) t d e s = absurd cc
file_view-beside f g (c.TakeLetter to) t d e s = absurd cc
file_view-beside f g (c.AddWaiter waiter) t d e s = absurd cc
file_view-beside f g (c.Send post) t d e s = absurd cc
file_view-beside f g (c.EndSession sid moment) t d e s = absurd cc
file_view-beside f g (c.NextSession sid moment) t d e s = absurd cc

-- a waiter that goes leaves a settled file settled
pub beside_settled : (change : Change) (f : FileView) → settle_file f ≡ f → settle_file (perform_beside change f) ≡ perform_beside change f
unfolding settle_file
beside_settled (c.DropWaiter sid call) f s = ap (without sid call) s
beside_settled (c.AddOpen row) f s = s
beside_settled (c.DropOpen h id) f s = s
beside_settled (c.TakeOver h id owner handle) f s = s
beside_settled (c.AddLease lease) f s = s
beside_settled (c.SetLease h name held breaking) f s = s
beside_settled (c.Acknowledge h name state) f s = s
beside_settled (c.AddRange range) f s = s
beside_settled (c.DropRange range) f s = s
beside_settled (c.AddPending h) f s = s
beside_settled (c.DropPending h) f s = s
beside_settled (c.AddHold hold) f s = s
beside_settled (c.SetHold key owner mode) f s = s
beside_settled (c.DropHold key owner) f s = s
beside_settled (c.TakeLetter to) f s = s
beside_settled (c.AddWaiter waiter) f s = s
beside_settled (c.Send post) f s = s
beside_settled (c.EndSession sid moment) f s = s
beside_settled (c.NextSession sid moment) f s = s
beside_settled c.Settle f s = s

-- ---- the changes, one after another

pub beside_all_settled : (cs : List Change) (f : FileView) → settle_file f ≡ f → settle_file (perform_all_beside cs f) ≡ perform_all_beside cs f
beside_all_settled [] f s = s
beside_all_settled (change ∷ cs) f s = beside_all_settled cs (perform_beside change f) (beside_settled change f s)

pub file_view-beside_all : (f g : ℕ) (cs : List Change) (t : Table) → (f == g) ≡ false → all_in (lives (view t)) f cs ≡ true → settle_file (file_view g (view t)) ≡ file_view g (view t)
    → file_view g (view (perform_all cs t)) ≡ perform_all_beside cs (file_view g (view t))
file_view-beside_all f g [] t d e s = refl
file_view-beside_all f g (change ∷ cs) t d e s =
    let one = file_view-beside f g change t d (first_in (lives (view t)) f change cs e) s in
    file_view-beside_all f g cs (perform change t) d (rest_in f change cs t e) (ap settle_file one ∙ beside_settled change (file_view g (view t)) s ∙ sym one) ∙ ap (perform_all_beside cs) one

-- the other file is still settled
pub other_still_settled : (f g : ℕ) (cs : List Change) (t : Table) → (f == g) ≡ false → all_in (lives (view t)) f cs ≡ true → settle_file (file_view g (view t)) ≡ file_view g (view t)
    → settle_file (file_view g (view (perform_all cs t))) ≡ file_view g (view (perform_all cs t))
other_still_settled f g cs t d e s =
    let same = file_view-beside_all f g cs t d e s in
    ap settle_file same ∙ beside_all_settled cs (file_view g (view t)) s ∙ sym same
