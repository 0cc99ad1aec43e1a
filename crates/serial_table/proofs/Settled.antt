-- Settled tables: where each file is settled, and which files still have to settle.
use Rattle.std.proofs.Common.{◌≡◌, ◌==◌, ℕ, Bool, true, false, cond, not, ◌&&◌, ◌||◌, List, [], ◌∷◌, filter, map, refl, sym, ap, ◌∙◌, eq-eqb}
use Rattle.std.proofs.lemmas.Bool.{eqb-true, and_parts, or_left, or_right, false_from_ne_true, both_ways}
use Rattle.std.specs.List.{AllByRecursion, list_any}
use Rattle.sid_core.specs.declared.ids.LeaseName.{LeaseName}
use Rattle.serial_table.specs.declared.rows.OpenRow.{OpenRow}
use Rattle.serial_table.specs.declared.rows.RangeRow.{RangeRow}
use Rattle.serial_table.specs.declared.rows.LeaseRow.{LeaseRow}
use Rattle.serial_table.specs.declared.table.Table.{Table}
use Rattle.serial_table.specs.declared.change.Change.{Change}
use Rattle.serial_table.specs.declared.change.Change.TheVariants as c
use Rattle.serial_table.specs.View.{View, view, lives, is_of_file, is_range_of, has_name, names_file}
use Rattle.serial_table.specs.File.{FileView, file_view, file_open}
use Rattle.serial_table.specs.Settle.{settle, settle_where, settle_file, settled_lease, keeps_open, keeps_range, keeps_lease, keeps_pending, row_stays, range_stays, lease_settles, lease_stays, pending_stays}
use Rattle.serial_table.specs.Change.{perform_all}
use Rattle.serial_table.specs.Local.{all_in}
use Rattle.serial_table.proofs.Filters.{filter_all}
use Rattle.serial_table.proofs.Every.{all_left_alone, all_kept, filter_alike, filter_map_alike, all_weaker, all_by_key, all_unmap}
use Rattle.serial_table.proofs.Views.{file-settled_lease}
use Rattle.serial_table.proofs.Files.{file_view-perform, is_lease_of}
use Rattle.serial_table.proofs.Settling.{settle_file-twice}
use Rattle.serial_table.proofs.Apart.{other_still_settled}

-- the file is settled: to settle it changes nothing of what it shows
abbrev pub IsSettled : Table → ℕ → Type 0
IsSettled t file = settle_file (file_view file (view t)) ≡ file_view file (view t)

-- ---- what a settled file's rows have

abbrev row_stays_there : View → ℕ → OpenRow → Type 0
row_stays_there v file row = keeps_open (file_view file v) (file_open (lives v) row) ≡ true

abbrev range_stays_there : View → ℕ → RangeRow → Type 0
range_stays_there v file range = keeps_range (file_view file v) range ≡ true

-- the lease is left alone
abbrev lease_stays_there : View → ℕ → LeaseRow → Type 0
lease_stays_there v file lease = (keeps_lease (file_view file v) (settled_lease (file_view file v) lease) ≡ true) × (settled_lease (file_view file v) lease ≡ lease)

settled_opens : (t : Table) (file : ℕ) → IsSettled t file → AllByRecursion (row_stays_there (view t) file) (filter (is_of_file file) t.opens)
unfolding settle_file
settled_opens t file s =
    all_unmap (file_open (lives (view t))) (λ o. keeps_open (file_view file (view t)) o ≡ true) (filter (is_of_file file) t.opens)
    (all_kept (keeps_open (file_view file (view t))) (map (file_open (lives (view t))) (filter (is_of_file file) t.opens)) (ap (λ (f : FileView). f.opens) s))

settled_ranges : (t : Table) (file : ℕ) → IsSettled t file → AllByRecursion (range_stays_there (view t) file) (filter (is_range_of file) t.ranges)
unfolding settle_file
settled_ranges t file s = all_kept (keeps_range (file_view file (view t))) (filter (is_range_of file) t.ranges) (ap (λ (f : FileView). f.ranges) s)

settled_leases : (t : Table) (name : LeaseName) (file : ℕ) → IsSettled t file → AllByRecursion (lease_stays_there (view t) file) (filter (is_lease_of file) (filter (has_name name) t.leases))
unfolding settle_file
settled_leases t name file s =
    all_left_alone (keeps_lease (file_view file (view t))) (settled_lease (file_view file (view t))) (filter (is_lease_of file) (filter (has_name name) t.leases)) (ap (λ (f : FileView). f.leases name) s)

settled_pending : (t : Table) (file : ℕ) → IsSettled t file → (view t).is_pending file ≡ true → keeps_pending (file_view file (view t)) ≡ true
unfolding settle_file
settled_pending t file s e = (and_parts ((view t).is_pending file) (keeps_pending (file_view file (view t))) (ap (λ (f : FileView). f.pending) s ∙ e)).1

-- ---- settling files that are settled changes nothing

row_alike : (b keeps : Bool) → (b ≡ false → keeps ≡ true) → keeps ≡ (not b || keeps)
row_alike true keeps h = refl
row_alike false keeps h = h refl

lease_alike : (here : ℕ → Bool) (v : View) (b : Bool) (l : LeaseRow) → here l.file ≡ b → (b ≡ false → lease_stays_there v l.file l)
    → (lease_settles (λ file. true) v l ≡ cond b (settled_lease (file_view l.file v) l) l)
    × (lease_stays (λ file. true) v (lease_settles (λ file. true) v l) ≡ lease_stays here v (cond b (settled_lease (file_view l.file v) l) l))
lease_alike here v true l e h =
    let k = settled_lease (file_view l.file v) l in
    (refl, sym (ap (λ b. not b || keeps_lease (file_view k.file v) k) (ap here (file-settled_lease (file_view l.file v) l) ∙ e)))
lease_alike here v false l e h =
    let k = settled_lease (file_view l.file v) l in
    let stays : keeps_lease (file_view k.file v) k ≡ true = ap (λ f. keeps_lease (file_view f v) k) (file-settled_lease (file_view l.file v) l) ∙ (h refl).0 in
    ((h refl).1, stays ∙ sym (ap (λ b. not b || keeps_lease (file_view l.file v) l) e))

pending_alike : (here : ℕ → Bool) (t : Table) → ((file : ℕ) → here file ≡ false → IsSettled t file) → (files : List ℕ) → ((file : ℕ) → list_any (names_file file) files ≡ true → (view t).is_pending file ≡ true)
    → AllByRecursion (λ file. pending_stays (λ file. true) (view t) file ≡ pending_stays here (view t) file) files
pending_alike here t others [] named = tt
pending_alike here t others (file ∷ files) named = (
  row_alike (here file) (keeps_pending (file_view file (view t))) (λ h. settled_pending t file (others file h) (named file (or_left (file == file) (list_any (names_file file) files) (eq-eqb file file refl)))),
  pending_alike here t others files (λ g e. named g (or_right (file == g) (list_any (names_file g) files) e)),
)

-- Where all other files are settled, it is enough to settle the files that pass the test.
pub settle_only : (here : ℕ → Bool) (t : Table) → ((file : ℕ) → here file ≡ false → IsSettled t file) → settle t ≡ settle_where here t
unfolding settle_where
settle_only here t others =
    let v = view t in
    let opens = filter_alike (row_stays (λ file. true) v) (row_stays here v) t.opens
    (all_weaker (λ row. here row.file ≡ false → row_stays_there v row.file row) (λ row. row_stays (λ file. true) v row ≡ row_stays here v row)
    (λ row h. row_alike (here row.file) (keeps_open (file_view row.file v) (file_open (lives v) row)) h) t.opens
    (all_by_key is_of_file (λ row. row.file) (λ file. here file ≡ false) (row_stays_there v) (λ row. eq-eqb row.file row.file refl) t.opens (λ file h. settled_opens t file (others file h)))) in
    let ranges = filter_alike (range_stays (λ file. true) v) (range_stays here v) t.ranges
    (all_weaker (λ range. here range.file ≡ false → range_stays_there v range.file range) (λ range. range_stays (λ file. true) v range ≡ range_stays here v range)
    (λ range h. row_alike (here range.file) (keeps_range (file_view range.file v) range) h) t.ranges
    (all_by_key is_range_of (λ range. range.file) (λ file. here file ≡ false) (range_stays_there v) (λ range. eq-eqb range.file range.file refl) t.ranges (λ file h. settled_ranges t file (others file h)))) in
    let leases = filter_map_alike (lease_stays (λ file. true) v) (lease_stays here v) (lease_settles (λ file. true) v) (lease_settles here v) t.leases
    (all_weaker (λ lease. Unit {0} → here lease.file ≡ false → lease_stays_there v lease.file lease)
    (λ lease. (lease_settles (λ file. true) v lease ≡ lease_settles here v lease) × (lease_stays (λ file. true) v (lease_settles (λ file. true) v lease) ≡ lease_stays here v (lease_settles here v lease)))
    (λ lease h. lease_alike here v (here lease.file) lease refl (h tt)) t.leases
    (all_by_key has_name (λ lease. lease.name) (λ name. Unit {0}) (λ name lease. here lease.file ≡ false → lease_stays_there v lease.file lease)
    (λ lease. own_name lease) t.leases
    (λ name _. all_by_key is_lease_of (λ lease. lease.file) (λ file. here file ≡ false) (lease_stays_there v) (λ lease. eq-eqb lease.file lease.file refl) (filter (has_name name) t.leases)
    (λ file h. settled_leases t name file (others file h))))) in
    let pending = filter_alike (pending_stays (λ file. true) v) (pending_stays here v) t.pending (pending_alike here t others t.pending (λ file e. e)) in
    λ i. record t { opens = opens i; ranges = ranges i; leases = leases i; pending = pending i }
  where
    own_name : (lease : LeaseRow) → has_name lease.name lease ≡ true
    own_name lease = ap (λ b. b && (lease.name.key == lease.name.key)) (eq-eqb lease.name.guid lease.name.guid refl) ∙ eq-eqb lease.name.key lease.name.key refl

settle_nothing : (t : Table) → settle_where (λ file. false) t ≡ t
unfolding settle_where
settle_nothing t =
    let v = view t in
    let leases = filter_all (lease_stays (λ file. false) v) (λ _. refl) (map (lease_settles (λ file. false) v) t.leases) ∙ map_same t.leases in
    λ i. record t {
      opens = filter_all (row_stays (λ file. false) v) (λ _. refl) t.opens i;
      ranges = filter_all (range_stays (λ file. false) v) (λ _. refl) t.ranges i;
      leases = leases i;
      pending = filter_all (pending_stays (λ file. false) v) (λ _. refl) t.pending i;
    }
  where
    map_same : (ls : List LeaseRow) → map (λ l. l) ls ≡ ls
    map_same [] = refl
    map_same (l ∷ ls) = ap (λ ks. l ∷ ks) (map_same ls)

-- A table is settled where each file is settled ..
pub settled_by_files : (t : Table) → ((file : ℕ) → IsSettled t file) → settle t ≡ t
settled_by_files t all = settle_only (λ file. false) t (λ file _. all file) ∙ settle_nothing t

-- .. and only there.
pub files_settled : (t : Table) → settle t ≡ t → (file : ℕ) → IsSettled t file
files_settled t e file = sym (file_view-perform file c.Settle t refl) ∙ ap (λ (u : Table). file_view file (view u)) e

-- each file of a table is settled once the table has settled
pub settle-settle : (t : Table) → settle (settle t) ≡ settle t
settle-settle t =
    settled_by_files (settle t) (λ file.
    let same = file_view-perform file c.Settle t refl in
    ap settle_file same ∙ settle_file-twice (file_view file (view t)) ∙ sym same)

-- After changes of one file of a settled table, no other file has to settle.
pub settle_after : (file : ℕ) (cs : List Change) (t : Table) → settle t ≡ t → all_in (lives (view t)) file cs ≡ true → settle (perform_all cs t) ≡ settle_where (λ g. g == file) (perform_all cs t)
settle_after file cs t s e =
    settle_only (λ g. g == file) (perform_all cs t) (λ g d. other_still_settled file g cs t (turned g d) e (files_settled t s g))
  where
    turned : (g : ℕ) → (g == file) ≡ false → (file == g) ≡ false
    turned g d = false_from_ne_true (file == g) (λ h. both_ways (g == file) d (eq-eqb g file (sym (eqb-true file g h))))
