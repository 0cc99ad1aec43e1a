-- A page that is told of one file after another has what is told of all.
use Rattle.std.proofs.Common.{◌≡◌, ℕ, zero, suc, ◌+◌, ◌-◌, ◌<◌, ◌≤◌, List, [], ◌∷◌, ◌++◌, length, take, slice_get, Option, Some, None, refl, sym, ap, ◌∙◌, append_assoc, arith}
use Rattle.std.proofs.lemmas.List.{append-nil, take_all}
use Rattle.std.specs.List.{flat_map}
use Rattle.std.specs.Prelude.{map}
use Rattle.std.specs.Option.{option_map_or}
use Rattle.sid_core.specs.declared.setup.FileInfo.{FileInfo}
use Rattle.sid_core.specs.declared.setup.Setup.{Setup}
use Rattle.serial_table.specs.View.{View, lives}
use Rattle.serial_table.specs.File.{FileView, file_view, file_open}
use Rattle.serial_table.specs.Tables.{of_files, files_row, file_rows, ranges_row, range_rows}
use Rattle.smbstatus_text.specs.Pages.{told, Tells, NoneBetween, NoneBehind}

silent : (g : FileInfo → List ℕ) → ((info : FileInfo) → g info ≡ []) → (o : Option FileInfo) → option_map_or g o [] ≡ []
silent g h (Some info) = h info
silent g h None = refl

module _ (R : FileInfo → FileView → List ℕ) (v : View) where
  -- the first files and the next one
  next : (infos : List FileInfo) (k p : ℕ) → of_files R v k (take (suc p) infos) ≡ of_files R v k (take p infos) ++ option_map_or (λ info. R info (file_view (k + p) v)) (slice_get infos p) []
  next [] k zero = refl
  next [] k (suc p) = refl
  next (info ∷ infos) k zero =
      let same : k ≡ k + 0 = omega arith in
      append-nil (R info (file_view k v)) ∙ ap (λ n. R info (file_view n v)) same
  next (info ∷ infos) k (suc p) =
      let a = R info (file_view k v) in
      let b = of_files R v (suc k) (take p infos) in
      let same : suc k + p ≡ k + suc p = omega arith in
      ap (λ l. a ++ l) (next infos (suc k) p)
      ∙ sym (append_assoc a b (option_map_or (λ info. R info (file_view (suc k + p) v)) (slice_get infos p) []))
      ∙ ap (λ n. (a ++ b) ++ option_map_or (λ info. R info (file_view n v)) (slice_get infos p) []) same

  -- Files of which nothing is told add nothing.
  quiet : (infos : List FileInfo) (k n d : ℕ) → ((i : ℕ) → n ≤ i → i < n + d → (info : FileInfo) → R info (file_view (k + i) v) ≡ [])
      → of_files R v k (take (n + d) infos) ≡ of_files R v k (take n infos)
  quiet infos k n zero h = let same : n + 0 ≡ n = omega arith in ap (λ m. of_files R v k (take m infos)) same
  quiet infos k n (suc d) h =
      let same : n + suc d ≡ suc (n + d) = omega arith in
      let from : n ≤ n + d = omega arith in
      let to : n + d < n + suc d = omega arith in
      ap (λ m. of_files R v k (take m infos)) same
      ∙ next infos k (n + d)
      ∙ ap (λ l. of_files R v k (take (n + d) infos) ++ l) (silent (λ info. R info (file_view (k + (n + d)) v)) (h (n + d) from to) (slice_get infos (n + d)))
      ∙ append-nil (of_files R v k (take (n + d) infos))
      ∙ quiet infos k n d (λ i le lt. let more : i < n + suc d = omega arith in h i le more)

  pub tells_next : (infos : List FileInfo) (last file : ℕ) (page after : List ℕ) → Tells R v infos last page → last < file
      → ((m : ℕ) → last < m → m < file → (info : FileInfo) → R info (file_view m v) ≡ [])
      → after ≡ page ++ told R infos file (file_view file v) → Tells R v infos file after
  tells_next infos last zero page after before lt none e = absurd (omega arith)
  tells_next infos last (suc p) page after before lt none e =
      let gap : last + (p - last) ≡ p = omega arith in
      let one : 1 + p ≡ suc p = omega arith in
      let rest = λ (i : ℕ) (le : last ≤ i) (below : i < last + (p - last)) (info : FileInfo).
      let from : last < 1 + i = omega arith in
      let to : 1 + i < suc p = omega arith in
      none (1 + i) from to info
      in
      e
      ∙ ap (λ l. l ++ told R infos (suc p) (file_view (suc p) v)) (
      before ∙ sym (quiet infos 1 last (p - last) rest) ∙ ap (λ n. of_files R v 1 (take n infos)) gap)
      ∙ ap (λ n. of_files R v 1 (take p infos) ++ option_map_or (λ info. R info (file_view n v)) (slice_get infos p) []) (sym one)
      ∙ sym (next infos 1 p)

  pub tells_all : (infos : List FileInfo) (last : ℕ) (page : List ℕ) → Tells R v infos last page
      → ((m : ℕ) → last < m → (info : FileInfo) → R info (file_view m v) ≡ []) → page ≡ of_files R v 1 infos
  tells_all infos last page before none =
      let rest = λ (i : ℕ) (le : last ≤ i) (below : i < last + length infos) (info : FileInfo).
      let from : last < 1 + i = omega arith in
      none (1 + i) from info
      in
      let whole : length infos ≤ last + length infos = omega arith in
      before ∙ sym (quiet infos 1 last (length infos) rest) ∙ ap (of_files R v 1) (take_all (last + length infos) infos whole)

-- ---- files without opens or without ranges

no_rows : (setup : Setup) (info : FileInfo) (v : View) (file : ℕ) → v.opens_of file ≡ [] → file_rows setup info (file_view file v) ≡ []
no_rows setup info v file e = ap (λ opens. flat_map (files_row setup info (file_view file v)) (map (file_open (lives v)) opens)) e

no_ranges : (info : FileInfo) (v : View) (file : ℕ) → v.ranges_of file ≡ [] → range_rows info (file_view file v) ≡ []
no_ranges info v file e = ap (λ ranges. flat_map (ranges_row info (file_view file v)) ranges) e

module _ (setup : Setup) (v : View) where
  pub opens_next : (last file : ℕ) (page after : List ℕ) → after ≡ page ++ told (file_rows setup) setup.files file (file_view file v)
      → Tells (file_rows setup) v setup.files last page → last < file → NoneBetween v.opens_of last file → Tells (file_rows setup) v setup.files file after
  opens_next last file page after e before lt none =
      tells_next (file_rows setup) v setup.files last file page after before lt (λ m from to info. no_rows setup info v m (none m from to)) e

  pub opens_all : (last : ℕ) (page : List ℕ) → Tells (file_rows setup) v setup.files last page → NoneBehind v.opens_of last → page ≡ of_files (file_rows setup) v 1 setup.files
  opens_all last page before none = tells_all (file_rows setup) v setup.files last page before (λ m from info. no_rows setup info v m (none m from))

  pub ranges_next : (last file : ℕ) (page after : List ℕ) → after ≡ page ++ told range_rows setup.files file (file_view file v)
      → Tells range_rows v setup.files last page → last < file → NoneBetween v.ranges_of last file → Tells range_rows v setup.files file after
  ranges_next last file page after e before lt none =
      tells_next range_rows v setup.files last file page after before lt (λ m from to info. no_ranges info v m (none m from to)) e

  pub ranges_all : (last : ℕ) (page : List ℕ) → Tells range_rows v setup.files last page → NoneBehind v.ranges_of last → page ≡ of_files range_rows v 1 setup.files
  ranges_all last page before none = tells_all range_rows v setup.files last page before (λ m from info. no_ranges info v m (none m from))
