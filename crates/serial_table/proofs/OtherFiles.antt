-- Changes that touch no open, no lease and no pending mark of other files than one leave each other file settled: so it is enough to
-- settle that one.
use Rattle.std.proofs.Common.{◌≡◌, ◌==◌, ◌&&◌, not, ℕ, Bool, true, false, List, [], ◌∷◌, ◌++◌, filter, map, Option, Some, None, refl, sym, ap, ◌∙◌, subst, eq-eqb}
use Rattle.std.specs.Prelude.{unwrap_or}
use Rattle.std.specs.List.{list_all, list_any}
use Rattle.std.specs.Option.{option_map_or}
use Rattle.std.proofs.lemmas.Bool.{eqb-true, and_parts, and_from, and_left, and_right, cond_both, cond-false, false_from_ne_true, both_ways}
use Rattle.std.proofs.lemmas.List.Folds.{list_all-append}
use Rattle.sid_core.specs.declared.ids.Sid.{Sid}
use Rattle.sid_core.specs.declared.ids.OpenId.{OpenId}
use Rattle.sid_core.specs.declared.ids.LeaseName.{LeaseName}
use Rattle.sid_core.specs.Ids.{same_id}
use Rattle.serial_table.specs.declared.rows.OpenRow.{OpenRow}
use Rattle.serial_table.specs.declared.rows.RangeRow.{RangeRow}
use Rattle.serial_table.specs.declared.rows.Watch.{Watch}
use Rattle.serial_table.specs.declared.table.Table.{Table}
use Rattle.serial_table.specs.declared.change.Change.{Change}
use Rattle.serial_table.specs.declared.change.Change.TheVariants as c
use Rattle.serial_table.specs.declared.lists.Scope.TheVariants as scope
use Rattle.serial_table.specs.View.{view, lives, is_of_file, is_of_handle, has_name}
use Rattle.serial_table.specs.File.{FileView, file_view, file_open}
use Rattle.serial_table.specs.Settle.{settle, settle_file, keeps_open, keeps_range}
use Rattle.serial_table.specs.Change.{perform, is_open, is_other_open, new_owner}
use Rattle.serial_table.specs.InPlace.{in_scope, file_of_change, file_of_changes, IsEnough, AreEnough}
use Rattle.serial_table.proofs.SameWorkers.{keeps_workers}
use Rattle.serial_table.proofs.Filters.{filter-filter, filter-map, filter_absorbed, filter_all, filter_one_out, map_left_alone}
use Rattle.serial_table.proofs.Members.{all_of, any_none}
use Rattle.serial_table.proofs.Every.{all_kept}
use Rattle.serial_table.proofs.Views.{view-perform, file-new_owner}
use Rattle.serial_table.proofs.Files.{file_view-perform, is_lease_of}
use Rattle.serial_table.proofs.Apart.{of_other, not_of, not_it, leases_apart, pending_apart, unpending_apart}
use Rattle.serial_table.proofs.Settled.{IsSettled, settle_only, files_settled}

-- Nobody comes to live or dies, and the opens and leases of other files stay, and whether they are to go: ranges, holds, waiters and
-- letters may be of any.
abbrev pub leaves_others : ℕ → Change → Bool
leaves_others file change = keeps_workers change && option_map_or (λ named. named == file) (file_of_change change) true

-- ---- a file is settled by its opens and leases, and by whether it is to go

-- where all opens stay, each range does
every_range : (f : FileView) → settle_file f ≡ f → (range : RangeRow) → keeps_range f range ≡ true
unfolding settle_file
every_range f s range =
    let kept = all_kept (keeps_open f) f.opens (ap (λ (x : FileView). x.opens) s) in
    ap not (any_none (λ o. same_id o.row.id range.id && not (keeps_open f o)) f.opens
    (λ o i. and_right (same_id o.row.id range.id) (not (keeps_open f o)) (ap not (all_of (λ o. keeps_open f o ≡ true) f.opens kept o i))))

-- the same opens and leases are settled beside any ranges
with_others : (f : FileView) (ranges : List RangeRow) (open_watches range_watches : List Watch) → settle_file f ≡ f
    → settle_file (record f { ranges = ranges; open_watches = open_watches; range_watches = range_watches }) ≡ record f { ranges = ranges; open_watches = open_watches; range_watches = range_watches }
unfolding settle_file
with_others f ranges open_watches range_watches s =
    let kept = filter_all (keeps_range f) (every_range f s) ranges in
    λ i. record { opens = (s i).opens; leases = (s i).leases; ranges = kept i; open_watches = open_watches; range_watches = range_watches; pending = (s i).pending }

still_settled : (g : ℕ) (t u : Table) → (file_view g (view u)).opens ≡ (file_view g (view t)).opens → ((name : LeaseName) → (file_view g (view u)).leases name ≡ (file_view g (view t)).leases name)
    → (view u).is_pending g ≡ (view t).is_pending g → IsSettled t g → IsSettled u g
still_settled g t u opens leases pending s =
    let shown = file_view g (view u) in
    let same : shown ≡ record (file_view g (view t)) { ranges = shown.ranges; open_watches = shown.open_watches; range_watches = shown.range_watches } =
    λ i. record shown { opens = opens i; leases = λ name. leases name i; pending = pending i } in
    ap settle_file same ∙ with_others (file_view g (view t)) shown.ranges shown.open_watches shown.range_watches s ∙ sym same

-- ---- one change

-- an open of another file keeps its owner
owner_apart : (f g : ℕ) (id : OpenId) (owner : Sid) (handle : ℕ) → (f == g) ≡ false → (o : OpenRow) → is_of_file g o ≡ true → new_owner f id owner handle o ≡ o
unfolding new_owner
owner_apart f g id owner handle d o e =
    cond-false (is_open f id o) (record o { owner = owner; handle = handle }) o (and_left (o.file == f) (same_id o.id id) (not_of f g o.file d e))

owners_apart : (f g : ℕ) (id : OpenId) (owner : Sid) (handle : ℕ) → (f == g) ≡ false → (rows : List OpenRow) → filter (is_of_file g) (map (new_owner f id owner handle) rows) ≡ filter (is_of_file g) rows
owners_apart f g id owner handle d rows =
    filter-map (is_of_file g) (new_owner f id owner handle) (λ o. ap (λ x. x == g) (file-new_owner f id owner handle o)) rows
    ∙ map_left_alone (is_of_file g) (new_owner f id owner handle) (owner_apart f g id owner handle d) rows

-- Another file that was settled still is.
pub leaves_settled : (f g : ℕ) (change : Change) (t : Table) → (f == g) ≡ false → leaves_others f change ≡ true → IsSettled t g → IsSettled (perform change t) g
leaves_settled f g (c.AddOpen row) t d e s =
    still_settled g t (perform (c.AddOpen row) t) (ap (map (file_open (lives (view t)))) (filter_one_out (is_of_file g) row t.opens (of_other f g row.file d e))) (λ name. refl) refl s
leaves_settled f g (c.DropOpen h id) t d e s =
    let apart = of_other f g h d e in
    still_settled g t (perform (c.DropOpen h id) t) (ap (map (file_open (lives (view t)))) (filter_absorbed (is_of_file g) (is_other_open h id) (λ x k. not_it h g x.file (same_id x.id id) apart k) t.opens)) (λ name. refl) refl s
leaves_settled f g (c.TakeOver h id owner handle) t d e s =
    let u : Table = record t { opens = map (new_owner h id owner handle) t.opens } in
    cond_both (list_any (is_of_handle owner handle) t.opens) t u (λ (x : Table). IsSettled x g) (λ _. s)
    (λ _. still_settled g t u (ap (map (file_open (lives (view t)))) (owners_apart h g id owner handle (of_other f g h d e) t.opens)) (λ name. refl) refl s)
leaves_settled f g (c.AddLease lease) t d e s =
    still_settled g t (perform (c.AddLease lease) t) refl
    (λ name. filter-filter (is_lease_of g) (has_name name) (t.leases ++ lease ∷ [])
    ∙ ap (filter (has_name name)) (filter_one_out (is_lease_of g) lease t.leases (of_other f g lease.file d e))
    ∙ filter-filter (has_name name) (is_lease_of g) t.leases) refl s
leaves_settled f g (c.SetLease h name held breaking) t d e s =
    still_settled g t (perform (c.SetLease h name held breaking) t) refl
    (λ n. ap (filter (is_lease_of g)) (ap (λ v. v.leases_of n) (view-perform (c.SetLease h name held breaking) t)) ∙ leases_apart h g name held breaking (of_other f g h d e) (filter (has_name n) t.leases)) refl s
leaves_settled f g (c.Acknowledge h name state) t d e s =
    still_settled g t (perform (c.Acknowledge h name state) t) refl
    (λ n. ap (filter (is_lease_of g)) (ap (λ v. v.leases_of n) (view-perform (c.Acknowledge h name state) t)) ∙ leases_apart h g name state None (of_other f g h d e) (filter (has_name n) t.leases)) refl s
leaves_settled f g c.Settle t d e s = let same = file_view-perform g c.Settle t refl ∙ s in ap settle_file same ∙ s ∙ sym same
leaves_settled f g (c.AddRange range) t d e s = still_settled g t (perform (c.AddRange range) t) refl (λ name. refl) refl s
leaves_settled f g (c.DropRange range) t d e s = still_settled g t (perform (c.DropRange range) t) refl (λ name. refl) refl s
leaves_settled f g (c.AddPending h) t d e s = still_settled g t (perform (c.AddPending h) t) refl (λ name. refl) (pending_apart f g h t d e) s
leaves_settled f g (c.DropPending h) t d e s = still_settled g t (perform (c.DropPending h) t) refl (λ name. refl) (unpending_apart f g h t d e) s
leaves_settled f g (c.AddHold hold) t d e s = still_settled g t (perform (c.AddHold hold) t) refl (λ name. refl) refl s
leaves_settled f g (c.SetHold key owner mode) t d e s = still_settled g t (perform (c.SetHold key owner mode) t) refl (λ name. refl) refl s
leaves_settled f g (c.DropHold key owner) t d e s = still_settled g t (perform (c.DropHold key owner) t) refl (λ name. refl) refl s
leaves_settled f g (c.AddWaiter waiter) t d e s = still_settled g t (perform (c.AddWaiter waiter) t) refl (λ name. refl) refl s
leaves_settled f g (c.DropWaiter sid call) t d e s = still_settled g t (perform (c.DropWaiter sid call) t) refl (λ name. refl) refl s
leaves_settled f g (c.Send post) t d e s = still_settled g t (perform (c.Send post) t) refl (λ name. refl) refl s
leaves_settled f g (c.TakeLetter to) t d e s = still_settled g t (perform (c.TakeLetter to) t) refl (λ name. refl) refl s
leaves_settled f g (c.EndSession sid moment) t d e s = absurd cc
leaves_settled f g (c.NextSession sid moment) t d e s = absurd cc

-- ---- what has to settle

turned : (file g : ℕ) → (g == file) ≡ false → (file == g) ≡ false
turned file g d = false_from_ne_true (file == g) (λ h. both_ways (g == file) d (eq-eqb g file (sym (eqb-true file g h))))

enough_here : (file : ℕ) (change : Change) (t : Table) → ((g : ℕ) → (g == file) ≡ false → IsSettled t g) → IsEnough (scope.File file) change t
enough_here file c.Settle t others = settle_only (in_scope (scope.File file)) t others
enough_here file _ t others = tt

enough_along : (file : ℕ) (cs : List Change) (t : Table) → ((g : ℕ) → (g == file) ≡ false → IsSettled t g) → list_all (leaves_others file) cs ≡ true → AreEnough (scope.File file) cs t
enough_along file [] t others e = tt
enough_along file (change ∷ cs) t others e =
    let both = and_parts (leaves_others file change) (list_all (leaves_others file) cs) e in
    (enough_here file change t others, enough_along file cs (perform change t) (λ g d. leaves_settled file g change t (turned file g d) both.0 (others g d)) both.1)

-- Where the table is settled, it is enough to settle the file whose opens and leases are changed.
pub enough_in_file : (file : ℕ) (cs : List Change) (t : Table) → settle t ≡ t → list_all (leaves_others file) cs ≡ true → AreEnough (scope.File file) (cs ++ c.Settle ∷ []) t
enough_in_file file cs t s e =
    enough_along file (cs ++ c.Settle ∷ []) t (λ g d. files_settled t s g)
    (list_all-append (leaves_others file) cs (c.Settle ∷ []) ∙ and_from (list_all (leaves_others file) cs) true e refl)

-- ---- the file that changes name

-- It is the file of them all, where they are all of one file.
pub named_file : (file : ℕ) (cs : List Change) → list_all (leaves_others file) cs ≡ true → list_all (leaves_others (file_of_changes cs)) cs ≡ true
named_file file [] e = refl
named_file file (change ∷ cs) e =
    let both = and_parts (leaves_others file change) (list_all (leaves_others file) cs) e in
    let parts = and_parts (keeps_workers change) (option_map_or (λ named. named == file) (file_of_change change) true) both.0 in
    by_first (file_of_change change) refl parts.0 parts.1 both.1 (named_file file cs both.1)
  where
    by_first : (o : Option ℕ) → file_of_change change ≡ o → keeps_workers change ≡ true → option_map_or (λ named. named == file) o true ≡ true → list_all (leaves_others file) cs ≡ true
        → list_all (leaves_others (file_of_changes cs)) cs ≡ true → list_all (leaves_others (unwrap_or (file_of_change change) (file_of_changes cs))) (change ∷ cs) ≡ true
    by_first None is stays own rest later =
        subst (λ o. (leaves_others (unwrap_or o (file_of_changes cs)) change && list_all (leaves_others (unwrap_or o (file_of_changes cs))) cs) ≡ true) (sym is)
        (and_from (leaves_others (file_of_changes cs) change) (list_all (leaves_others (file_of_changes cs)) cs)
        (and_from (keeps_workers change) _ stays (ap (λ o. option_map_or (λ named. named == file_of_changes cs) o true) is)) later)
    by_first (Some named) is stays own rest later =
        subst (λ o. (leaves_others (unwrap_or o (file_of_changes cs)) change && list_all (leaves_others (unwrap_or o (file_of_changes cs))) cs) ≡ true) (sym is)
        (and_from (leaves_others named change) (list_all (leaves_others named) cs)
        (and_from (keeps_workers change) _ stays (ap (λ o. option_map_or (λ n. n == named) o true) is ∙ eq-eqb named named refl))
        (ap (λ f. list_all (leaves_others f) cs) (eqb-true named file own) ∙ rest))

-- Where they are all of one file, it is enough to settle the one that they name.
pub enough_in_named : (file : ℕ) (cs : List Change) (t : Table) → settle t ≡ t → list_all (leaves_others file) cs ≡ true → AreEnough (scope.File (file_of_changes cs)) (cs ++ c.Settle ∷ []) t
enough_in_named file cs t s e = enough_in_file (file_of_changes cs) cs t s (named_file file cs e)
