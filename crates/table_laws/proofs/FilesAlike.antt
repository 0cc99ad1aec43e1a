-- The same changes at two tables: what they show of a file stays the same where it was, and so does who is woken by what the file frees.
use Rattle.std.proofs.Common.{◌≡◌, ℕ, Bool, true, false, cond, not, ◌==◌, ◌&&◌, ◌||◌, List, [], ◌∷◌, ◌++◌, map, filter, find, Option, None, refl, sym, ap, ◌∙◌, subst, inl, inr}
use Rattle.std.specs.List.{AllByRecursion, list_all}
use Rattle.std.specs.Option.{option_map_or}
use Rattle.std.proofs.lemmas.Bool.{and_parts, and_from}
use Rattle.std.proofs.lemmas.List.{map-append}
use Rattle.std.proofs.lemmas.List.Folds.{list_all-append}
use Rattle.sid_core.specs.declared.ids.Sid.{Sid}
use Rattle.sid_core.specs.declared.ids.LeaseName.{LeaseName}
use Rattle.sid_core.specs.declared.ids.Spot.{Spot}
use Rattle.sid_core.specs.declared.ids.Spot.TheVariants.{OpenOf, RangesOf}
use Rattle.sid_core.specs.declared.bits.LeaseState.{LeaseState}
use Rattle.serial_table.specs.declared.rows.Breaking.{Breaking}
use Rattle.serial_table.specs.declared.rows.OpenRow.{OpenRow}
use Rattle.serial_table.specs.declared.rows.WorkerRow.{WorkerRow}
use Rattle.serial_table.specs.declared.rows.LeaseRow.{LeaseRow}
use Rattle.serial_table.specs.declared.rows.Watch.{Watch}
use Rattle.serial_table.specs.declared.table.Table.{Table}
use Rattle.serial_table.specs.declared.change.Change.{Change}
use Rattle.serial_table.specs.declared.change.Change.TheVariants as c
use Rattle.serial_table.specs.declared.decision.Decision.{Decision}
use Rattle.serial_table.specs.View.{View, view, lives, is_of_file, is_range_of, has_name, has_pid, watch_on, waits_on, names_file}
use Rattle.serial_table.specs.File.{FileView, FileOpen, file_view, file_open}
use Rattle.serial_table.specs.Lists.{drop_first}
use Rattle.serial_table.specs.Settle.{settle_file}
use Rattle.serial_table.specs.Change.{is_other_open, is_other_range, is_other_wait, set_lease, same_range, perform, perform_all, perform_by_key}
use Rattle.serial_table.specs.Decision.{settling, spots_of, conclude}
use Rattle.serial_table.specs.Wake.{frees_opens, frees_ranges, frees, some_frees}
use Rattle.serial_table.proofs.Files.{is_lease_of, file-set_lease, file_view-perform}
use Rattle.serial_table.proofs.Filters.{filter-map}
use Rattle.serial_table.proofs.Members.{IsIn}
use Rattle.serial_table.proofs.SameWorkers.{keeps_workers, workers-perform}
use Rattle.serial_table.proofs.Views.{view-perform}
use Rattle.table_laws.proofs.Chains.{adds_no_open}
use Rattle.table_laws.proofs.Lists.{filter_joined, filter_mapped, all_joined}
use Rattle.table_laws.proofs.Keywise.{woken_alike, concluded_alike}
use Rattle.table_laws.proofs.Touching.{touches}

-- ---- who owns the opens that come

-- The owner of an open that comes lives in both or in neither, by who lives in each.
abbrev pub ComesAlike : (Sid → Bool) → (Sid → Bool) → Change → Type 0
ComesAlike a b (c.AddOpen row) = a row.owner ≡ b row.owner
ComesAlike a b _ = Unit {0}

-- where none comes
pub none_comes : (a b : Sid → Bool) (cs : List Change) → list_all adds_no_open cs ≡ true → AllByRecursion (ComesAlike a b) cs
none_comes a b [] e = tt
none_comes a b (change ∷ cs) e =
    let p = and_parts (adds_no_open change) (list_all adds_no_open cs) e in
    (one change p.0, none_comes a b cs p.1)
  where
    one : (change : Change) → adds_no_open change ≡ true → ComesAlike a b change
    one (c.AddOpen row) e = absurd cc
    one _ e = tt

-- ---- one change

module _ (here : ℕ → Bool) where
  keeps : (change : Change) → touches here change ≡ true → keeps_workers change ≡ true
  keeps (c.EndSession sid moment) e = absurd cc
  keeps (c.NextSession sid moment) e = absurd cc
  keeps _ e = refl

  -- who lives stays the same
  lives_stay : (change : Change) (t : Table) → touches here change ≡ true → lives (view (perform change t)) ≡ lives (view t)
  lives_stay change t e = λ i sid. option_map_or (λ (worker : WorkerRow). worker.alive && (worker.session == sid.session)) (find (has_pid sid.pid) (workers-perform change t (keeps change e) i)) false

  module _ (file : ℕ) where
    came : (a b : Sid → Bool) (row : OpenRow) (c : Bool) → a row.owner ≡ b row.owner → map (file_open a) (cond c (row ∷ []) []) ≡ map (file_open b) (cond c (row ∷ []) [])
    came a b row true e = λ i. record { row = row; connected = e i } ∷ []
    came a b row false e = refl

    set_alike : (g : ℕ) (name : LeaseName) (held : LeaseState) (breaking : Option Breaking) (ls ms : List LeaseRow) → filter (is_lease_of file) ls ≡ filter (is_lease_of file) ms
        → filter (is_lease_of file) (map (set_lease g name held breaking) ls) ≡ filter (is_lease_of file) (map (set_lease g name held breaking) ms)
    set_alike g name held breaking ls ms e =
        let stays : (l : LeaseRow) → is_lease_of file (set_lease g name held breaking l) ≡ is_lease_of file l = λ l. ap (λ f. f == file) (file-set_lease g name held breaking l) in
        filter-map (is_lease_of file) (set_lease g name held breaking) stays ls
        ∙ ap (map (set_lease g name held breaking)) e
        ∙ sym (filter-map (is_lease_of file) (set_lease g name held breaking) stays ms)

    module _ (t u : Table) (same : file_view file (view t) ≡ file_view file (view u)) where
      by_key : (change : Change) → file_view file (perform_by_key change (view t)) ≡ file_view file (perform_by_key change (view u)) → file_view file (view (perform change t)) ≡ file_view file (view (perform change u))
      by_key change e = ap (file_view file) (view-perform change t) ∙ e ∙ sym (ap (file_view file) (view-perform change u))

      pub file_step : (change : Change) → touches here change ≡ true → ComesAlike (lives (view t)) (lives (view u)) change → file_view file (view (perform change t)) ≡ file_view file (view (perform change u))
      file_step (c.AddOpen row) e h =
          by_key (c.AddOpen row) (λ i. record (same i) {
            opens = (map-append (file_open (lives (view t))) ((view t).opens_of file) (filter (is_of_file file) (row ∷ []))
                ∙ (λ j. (same j).opens ++ came (lives (view t)) (lives (view u)) row (row.file == file) h j)
                ∙ sym (map-append (file_open (lives (view u))) ((view u).opens_of file) (filter (is_of_file file) (row ∷ [])))) i;
          })
      file_step (c.DropOpen g id) e h =
          let stays : FileOpen → Bool = λ o. is_other_open g id o.row in
          by_key (c.DropOpen g id) (λ i. record (same i) {
            opens = (sym (filter_mapped stays (file_open (lives (view t))) ((view t).opens_of file))
                ∙ (λ j. filter stays (same j).opens)
                ∙ filter_mapped stays (file_open (lives (view u))) ((view u).opens_of file)) i;
            ranges = filter (is_other_range g id) (same i).ranges;
          })
      file_step (c.AddLease lease) e h =
          by_key (c.AddLease lease) (λ i. record (same i) {
            leases = λ name. (
                filter_joined (is_lease_of file) ((view t).leases_of name) (filter (has_name name) (lease ∷ []))
                ∙ (λ j. (same j).leases name ++ filter (is_lease_of file) (filter (has_name name) (lease ∷ [])))
                ∙ sym (filter_joined (is_lease_of file) ((view u).leases_of name) (filter (has_name name) (lease ∷ [])))) i;
          })
      file_step (c.SetLease g name held breaking) e h =
          by_key (c.SetLease g name held breaking) (λ i. record (same i) { leases = λ n. set_alike g name held breaking ((view t).leases_of n) ((view u).leases_of n) (λ j. (same j).leases n) i })
      file_step (c.Acknowledge g name state) e h =
          by_key (c.Acknowledge g name state) (λ i. record (same i) { leases = λ n. set_alike g name state None ((view t).leases_of n) ((view u).leases_of n) (λ j. (same j).leases n) i })
      file_step (c.AddRange range) e h = by_key (c.AddRange range) (λ i. record (same i) { ranges = (same i).ranges ++ filter (is_range_of file) (range ∷ []) })
      file_step (c.DropRange range) e h = by_key (c.DropRange range) (λ i. record (same i) { ranges = drop_first (same_range range) (same i).ranges })
      file_step (c.AddPending g) e h = by_key (c.AddPending g) (λ i. record (same i) { pending = names_file g file || (same i).pending })
      file_step (c.DropPending g) e h = by_key (c.DropPending g) (λ i. record (same i) { pending = (same i).pending && not (names_file g file) })
      file_step (c.AddWaiter x) e h =
          by_key (c.AddWaiter x) (λ i. record (same i) {
            open_watches = (same i).open_watches ++ map (watch_on (OpenOf file)) (filter (waits_on (OpenOf file)) (x ∷ []));
            range_watches = (same i).range_watches ++ map (watch_on (RangesOf file)) (filter (waits_on (RangesOf file)) (x ∷ []));
          })
      file_step (c.DropWaiter sid call) e h =
          by_key (c.DropWaiter sid call) (λ i. record (same i) {
            open_watches = filter (λ (watch : Watch). is_other_wait sid call watch.sid watch.call) (same i).open_watches;
            range_watches = filter (λ (watch : Watch). is_other_wait sid call watch.sid watch.call) (same i).range_watches;
          })
      file_step c.Settle e h = file_view-perform file c.Settle t refl ∙ ap settle_file same ∙ sym (file_view-perform file c.Settle u refl)
      file_step (c.AddHold hold) e h = same
      file_step (c.SetHold key owner mode) e h = same
      file_step (c.DropHold key owner) e h = same
      file_step (c.Send post) e h = same
      file_step (c.TakeLetter to) e h = same
      file_step (c.TakeOver g id owner handle) e h = absurd cc
      file_step (c.EndSession sid moment) e h = absurd cc
      file_step (c.NextSession sid moment) e h = absurd cc

    -- ---- changes one after another

    comes_next : (a b : Sid → Bool) (change : Change) (t u : Table) → a ≡ lives (view t) → b ≡ lives (view u) → ComesAlike a b change → ComesAlike (lives (view t)) (lives (view u)) change
    comes_next a b change t u p q h = subst (λ x. ComesAlike x (lives (view u)) change) p (subst (λ y. ComesAlike a y change) q h)

    module _ (a b : Sid → Bool) where
      pub file_alike : (cs : List Change) (t u : Table) → a ≡ lives (view t) → b ≡ lives (view u) → list_all (touches here) cs ≡ true → AllByRecursion (ComesAlike a b) cs → file_view file (view t) ≡ file_view file (view u)
          → file_view file (view (perform_all cs t)) ≡ file_view file (view (perform_all cs u))
      file_alike [] t u p q e h same = same
      file_alike (change ∷ cs) t u p q e h same =
          let both = and_parts (touches here change) (list_all (touches here) cs) e in
          file_alike cs (perform change t) (perform change u) (p ∙ sym (lives_stay change t both.0)) (q ∙ sym (lives_stay change u both.0)) both.1 h.1
          (file_step t u same change both.0 (comes_next a b change t u p q h.0))

      -- a spot of the file, and whether a change frees it by what the file shows
      module _ (spot : Spot) (by_file : Change → FileView → Bool) (is : (change : Change) (v : View) → frees change spot v ≡ by_file change (file_view file v)) where
        pub frees_alike : (cs : List Change) (t u : Table) → a ≡ lives (view t) → b ≡ lives (view u) → list_all (touches here) cs ≡ true → AllByRecursion (ComesAlike a b) cs → file_view file (view t) ≡ file_view file (view u)
            → some_frees cs (view t) spot ≡ some_frees cs (view u) spot
        frees_alike [] t u p q e h same = refl
        frees_alike (change ∷ cs) t u p q e h same =
            let both = and_parts (touches here change) (list_all (touches here) cs) e in
            let first = is change (view t) ∙ ap (by_file change) same ∙ sym (is change (view u)) in
            let later =
            ap (λ v. some_frees cs v spot) (sym (view-perform change t))
            ∙ frees_alike cs (perform change t) (perform change u) (p ∙ sym (lives_stay change t both.0)) (q ∙ sym (lives_stay change u both.0)) both.1 h.1 (file_step t u same change both.0 (comes_next a b change t u p q h.0))
            ∙ ap (λ v. some_frees cs v spot) (view-perform change u) in
            λ i. first i || later i

    -- ---- what a decision comes to that frees spots of the file alone

    pub file_concluded : (d : Decision) (t u : Table) → list_all (touches here) d.changes ≡ true → AllByRecursion (ComesAlike (lives (view t)) (lives (view u))) d.changes
        → ((spot : Spot) → IsIn spot d.spots → IsIn spot (spots_of file)) → file_view file (view t) ≡ file_view file (view u) → (conclude (view t) d).changes ≡ (conclude (view u) d).changes
    file_concluded d t u e h own same =
        concluded_alike (view t) (view u) d (woken_alike (view t) (view u) d (λ spot i. freed spot (own spot i)) (λ spot i. watched spot (own spot i)))
      where
        touched : list_all (touches here) (settling d) ≡ true
        touched = list_all-append (touches here) d.changes (c.Settle ∷ []) ∙ and_from (list_all (touches here) d.changes) true e refl

        comes : AllByRecursion (ComesAlike (lives (view t)) (lives (view u))) (settling d)
        comes = all_joined (ComesAlike (lives (view t)) (lives (view u))) d.changes (c.Settle ∷ []) h (tt, tt)

        freed : (spot : Spot) → IsIn spot (spots_of file) → some_frees (settling d) (view t) spot ≡ some_frees (settling d) (view u) spot
        freed spot (inl is) =
            subst (λ x. some_frees (settling d) (view t) x ≡ some_frees (settling d) (view u) x) is
            (frees_alike (lives (view t)) (lives (view u)) (OpenOf file) (λ change f. frees_opens change file f) (λ change v. refl) (settling d) t u refl refl touched comes same)
        freed spot (inr (inl is)) =
            subst (λ x. some_frees (settling d) (view t) x ≡ some_frees (settling d) (view u) x) is
            (frees_alike (lives (view t)) (lives (view u)) (RangesOf file) (λ change f. frees_ranges change file f) (λ change v. refl) (settling d) t u refl refl touched comes same)
        freed spot (inr (inr is)) = absurd is

        watched : (spot : Spot) → IsIn spot (spots_of file) → (view t).watches_on spot ≡ (view u).watches_on spot
        watched spot (inl is) = subst (λ x. (view t).watches_on x ≡ (view u).watches_on x) is (ap (λ (f : FileView). f.open_watches) same)
        watched spot (inr (inl is)) = subst (λ x. (view t).watches_on x ≡ (view u).watches_on x) is (ap (λ (f : FileView). f.range_watches) same)
        watched spot (inr (inr is)) = absurd is
