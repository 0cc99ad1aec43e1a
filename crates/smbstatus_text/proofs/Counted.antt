-- What is written of the parts that count is what a table tells that shows them.
use Rattle.std.proofs.Common.{◌≡◌, ◌&&◌, ℕ, cond, List, [], ◌∷◌, ◌++◌, filter, find, Option, Some, None, Result, refl, sym, ap, ◌∙◌}
use Rattle.std.proofs.lemmas.Result.{on_ok_weaker}
use Rattle.std.proofs.lemmas.List.Folds.{flat_map-map}
use Rattle.std.specs.Prelude.{map, IfSome}
use Rattle.std.specs.Result.{OnOk}
use Rattle.std.specs.List.{flat_map}
use Rattle.std.specs.Option.{option_map, option_map_or, is_some}
use Rattle.std.specs.Ordering.{nat_cmp}
use Rattle.std.specs.FinMap as finite
use Rattle.std.specs.FinMap.{FinMap}
use Rattle.sid_core.specs.Ids.{same_id}
use Rattle.sid_core.specs.declared.ids.LeaseName.{LeaseName}
use Rattle.sid_core.specs.declared.setup.FileInfo.{FileInfo}
use Rattle.sid_core.specs.declared.setup.Setup.{Setup}
use Rattle.serial_table.specs.ByNumber.{declared_at}
use Rattle.serial_table.specs.View.{View, has_id}
use Rattle.serial_table.specs.File.{FileView, FileOpen, file_open}
use Rattle.serial_table.specs.Tables as tables
use Rattle.serial_table.specs.Tables.{lease_column, pid_text, shares_row, shares_head, shares_table, files_row, file_rows, ranges_row, range_rows}
use Rattle.serial_table.proofs.Adding.{after_three}
use Rattle.serial_table.proofs.Finding.{find-of_map, find-of_filter}
use Rattle.record_codec.specs.declared.share_rec.ShareEntry.{ShareEntry}
use Rattle.record_codec.specs.declared.share_rec.ShareRec.{ShareRec}
use Rattle.record_codec.specs.declared.range_rec.RangeItem.{RangeItem}
use Rattle.record_codec.specs.declared.range_rec.RangeRec.{RangeRec}
use Rattle.record_codec.specs.declared.register_rec.RegisterRec.{RegisterRec}
use Rattle.record_codec.specs.Counts.{Records, lives, entry_counts, range_counts}
use Rattle.server_ids.specs.Sessions.{worker_row}
use Rattle.record_rows.specs.Rows as rows
use Rattle.smbstatus_text.specs.Shown.{ShowsWorkers, lease_of_file, counted, ShowsOpens, with_share, ShowsRanges}
use Rattle.smbstatus_text.specs.Pages.{told}
use Rattle.smbstatus_text.specs.Rows.{entry_row, counted_row, is_open, open_of, item_row, counted_range_row}
use Rattle.smbstatus_text.proofs.Lists.{flat_map-filter, flat_map_alike, all_then, any_is_found, find_alike, and_flip}

-- ---- workers

module _ (setup : Setup) (register : FinMap nat_cmp RegisterRec) (v : View) (shows : ShowsWorkers setup register v) where
  workers_shown : flat_map (λ info. option_map_or (shares_row info) (option_map (worker_row info.pid) (finite.get register info.pid)) []) setup.workers
      ≡ flat_map (λ info. option_map_or (shares_row info) (v.worker_of info.pid) []) setup.workers
  workers_shown =
      flat_map_alike (λ info. option_map_or (shares_row info) (option_map (worker_row info.pid) (finite.get register info.pid)) []) (λ info. option_map_or (shares_row info) (v.worker_of info.pid) []) setup.workers
      (all_then (λ info. v.worker_of info.pid ≡ option_map (worker_row info.pid) (finite.get register info.pid))
      (λ info. option_map_or (shares_row info) (option_map (worker_row info.pid) (finite.get register info.pid)) [] ≡ option_map_or (shares_row info) (v.worker_of info.pid) [])
      (λ info e. ap (λ o. option_map_or (shares_row info) o []) (sym e)) setup.workers shows)

  pub shares_are : (a b new : List ℕ) → a ≡ [] ++ shares_head
      → b ≡ a ++ flat_map (λ info. option_map_or (shares_row info) (option_map (worker_row info.pid) (finite.get register info.pid)) []) setup.workers
      → new ≡ b ++ 10 ∷ [] → new ≡ shares_table setup v
  shares_are a b new ea eb e =
      after_three [] a b new shares_head (flat_map (λ info. option_map_or (shares_row info) (option_map (worker_row info.pid) (finite.get register info.pid)) []) setup.workers) (10 ∷ []) ea eb e
      ∙ ap (λ l. shares_head ++ (l ++ 10 ∷ [])) workers_shown

-- ---- opens

lease_here : (records : Records) (file : ℕ) (f : FileView) (lease : Option LeaseName) → IfSome lease (λ name. f.leases name ≡ lease_of_file records file name)
    → option_map_or (λ name. f.leases name) lease [] ≡ option_map_or (lease_of_file records file) lease []
lease_here records file f (Some name) e = e
lease_here records file f None e = refl

module _ (setup : Setup) (info : FileInfo) (records : Records) (rec : ShareRec) (f : FileView) (shows : ShowsOpens records rec f) where
  abbrev shown_open : ShareEntry → FileOpen
  shown_open e = file_open (lives records) (rows.open_row rec.file e)

  row_is : (e : ShareEntry) → IfSome e.lease (λ name. f.leases name ≡ lease_of_file records rec.file name) → files_row setup info f (shown_open e) ≡ entry_row setup info records rec.file e
  row_is e h = ap (λ leases. tables.open_row setup info (lives records e.owner) (rows.open_row rec.file e) (lease_column leases)) (lease_here records rec.file f e.lease h)

  pub rows_are : file_rows setup info f ≡ flat_map (counted_row setup info records rec.file) rec.entries
  rows_are =
      ap (flat_map (files_row setup info f)) shows.opens_are
      ∙ flat_map-map (files_row setup info f) shown_open (counted records rec)
      ∙ flat_map_alike (λ e. files_row setup info f (shown_open e)) (entry_row setup info records rec.file) (counted records rec)
      (all_then (λ e. IfSome e.lease (λ name. f.leases name ≡ lease_of_file records rec.file name)) (λ e. files_row setup info f (shown_open e) ≡ entry_row setup info records rec.file e) row_is (counted records rec) shows.leases_are)
      ∙ flat_map-filter (entry_counts records rec.file) (entry_row setup info records rec.file) rec.entries

module _ {T E : Type 0} (r : Result T E) (old new : List ℕ) (setup : Setup) (records : Records) (rec : ShareRec) where
  pub opens_told : (info : FileInfo) → declared_at setup.files rec.file ≡ Some info → OnOk r (new ≡ old ++ flat_map (counted_row setup info records rec.file) rec.entries)
      → OnOk r ((f : FileView) → ShowsOpens records rec f → new ≡ old ++ told (file_rows setup) setup.files rec.file f)
  opens_told info is then =
      on_ok_weaker r (λ e. λ f shows.
      e ∙ ap (λ l. old ++ l) (sym (rows_are setup info records rec f shows) ∙ ap (λ o. option_map_or (λ i. file_rows setup i f) o []) (sym is))) then

-- ---- ranges

module _ (info : FileInfo) (records : Records) (ranges : RangeRec) (opens : ShareRec) (same : opens.file ≡ ranges.file) (f : FileView) (shows : ShowsRanges records ranges opens f) where
  abbrev shown_at : ShareEntry → FileOpen
  shown_at e = file_open (lives records) (rows.open_row opens.file e)

  -- the open of a range
  found : (r : RangeItem) → find (λ (o : FileOpen). has_id r.id o.row) f.opens ≡ option_map shown_at (open_of records ranges.file opens.entries r.id)
  found r =
      ap (find (λ (o : FileOpen). has_id r.id o.row)) (shows.opens_are ∙ ap (λ file. map shown_at (filter (entry_counts records file) opens.entries)) same)
      ∙ find-of_map (λ (o : FileOpen). has_id r.id o.row) shown_at (filter (entry_counts records ranges.file) opens.entries)
      ∙ ap (option_map shown_at) (find-of_filter (λ e. same_id e.id r.id) (entry_counts records ranges.file) opens.entries
      ∙ find_alike (λ e. entry_counts records ranges.file e && same_id e.id r.id) (is_open records ranges.file r.id) (λ e. and_flip (entry_counts records ranges.file e) (same_id e.id r.id)) opens.entries)

  row_by : (r : RangeItem) (o : Option ShareEntry)
      → cond (is_some o) (tables.range_row info (option_map_or pid_text (option_map shown_at o) []) (rows.range_row ranges.file r)) [] ≡ option_map_or (item_row info records ranges.file r) o []
  row_by r (Some e) = refl
  row_by r None = refl

  each : (r : RangeItem) → cond (range_counts (with_share opens records) ranges.file r) (ranges_row info f (rows.range_row ranges.file r)) [] ≡ counted_range_row info records ranges.file opens.entries r
  each r =
      ap (λ o. cond (range_counts (with_share opens records) ranges.file r) (tables.range_row info (option_map_or pid_text o []) (rows.range_row ranges.file r)) []) (found r)
      ∙ ap (λ b. cond b (tables.range_row info (option_map_or pid_text (option_map shown_at (open_of records ranges.file opens.entries r.id)) []) (rows.range_row ranges.file r)) []) (any_is_found (is_open records ranges.file r.id) opens.entries)
      ∙ row_by r (open_of records ranges.file opens.entries r.id)

  pub ranges_are : range_rows info f ≡ flat_map (counted_range_row info records ranges.file opens.entries) ranges.ranges
  ranges_are =
      ap (flat_map (ranges_row info f)) shows.ranges_are
      ∙ flat_map-map (ranges_row info f) (rows.range_row ranges.file) (filter (range_counts (with_share opens records) ranges.file) ranges.ranges)
      ∙ flat_map-filter (range_counts (with_share opens records) ranges.file) (λ r. ranges_row info f (rows.range_row ranges.file r)) ranges.ranges
      ∙ (λ i. flat_map (λ r. each r i) ranges.ranges)

module _ (setup : Setup) (records : Records) (ranges : RangeRec) (opens : ShareRec) (same : opens.file ≡ ranges.file) where
  -- the rows of a file that may be declared
  abbrev rows_by : List ShareEntry → Option FileInfo → List ℕ
  rows_by entries o = option_map_or (λ info. flat_map (counted_range_row info records ranges.file entries) ranges.ranges) o []

  told_by : (f : FileView) → ShowsRanges records ranges opens f → (o : Option FileInfo) → rows_by opens.entries o ≡ option_map_or (λ info. range_rows info f) o []
  told_by f shows None = refl
  told_by f shows (Some info) = sym (ranges_are info records ranges opens same f shows)

  -- a page to which they are added has what is told of the file
  pub ranges_told : (rows page after : List ℕ) (infos : List FileInfo) (entries : List ShareEntry) → infos ≡ setup.files → entries ≡ opens.entries → rows ≡ page
      → after ≡ rows ++ option_map_or (λ info. flat_map (counted_range_row info records ranges.file entries) ranges.ranges) (declared_at infos ranges.file) []
      → (f : FileView) → ShowsRanges records ranges opens f → after ≡ page ++ told range_rows setup.files ranges.file f
  ranges_told rows page after infos entries of from is e = λ f shows.
      e ∙ (λ i. is i ++ rows_by (from i) (declared_at (of i) ranges.file)) ∙ ap (λ l. page ++ l) (told_by f shows (declared_at setup.files ranges.file))
