-- What is looked up by a key is what the tables tell of the file, and what they tell of one file after another.
use Rattle.std.proofs.Common.{◌≡◌, ℕ, suc, ◌+◌, ◌<◌, ◌≤◌, ◌&&◌, List, [], ◌∷◌, ◌++◌, length, get_or, drop, filter, find, Option, Some, None, refl, sym, ap, ◌∙◌, append_assoc, add-one}
use Rattle.std.proofs.lemmas.List.{append-nil, at_drop_more, drop_all}
use Rattle.std.specs.Option.{option_map, option_map_or}
use Rattle.sid_core.specs.declared.ids.OpenId.{OpenId}
use Rattle.sid_core.specs.declared.ids.LeaseName.{LeaseName}
use Rattle.sid_core.specs.declared.setup.FileInfo.{FileInfo}
use Rattle.serial_table.specs.declared.rows.LeaseRow.{LeaseRow}
use Rattle.serial_table.specs.declared.table.Table.{Table}
use Rattle.serial_table.specs.View.{View, view, lives, is_of_file, has_id, has_name}
use Rattle.serial_table.specs.File.{FileView, FileOpen, file_view, file_open}
use Rattle.serial_table.specs.InPlace.{is_lease_of}
use Rattle.serial_table.specs.Alone.{is_lease_named}
use Rattle.serial_table.specs.Showing.{lease_text}
use Rattle.serial_table.specs.Tables.{lease_column, of_files}
use Rattle.serial_table.proofs.Heads.{by_first_of_both}
use Rattle.serial_table.proofs.Finding.{find-of_map, find-of_filter}

pub option_map_or-option_map : {X Y Z : Type 0} (g : Y → Z) (f : X → Y) (o : Option X) (z : Z) → option_map_or g (option_map f o) z ≡ option_map_or (λ x. g (f x)) o z
option_map_or-option_map g f (Some x) z = refl
option_map_or-option_map g f None z = refl

alone_text : (found : Option LeaseRow) → lease_text found ≡ option_map_or (λ lease. lease_column (lease ∷ [])) found (lease_column [])
alone_text (Some lease) = refl
alone_text None = refl

pub lease_shown : (t : Table) (file : ℕ) (name : LeaseName) (found : Option LeaseRow) → found ≡ find (is_lease_named file name) t.leases → lease_text found ≡ lease_column ((file_view file (view t)).leases name)
lease_shown t file name found e =
    alone_text found
    ∙ ap (λ o. option_map_or (λ lease. lease_column (lease ∷ [])) o (lease_column [])) e
    ∙ sym (by_first_of_both lease_column (λ lease. lease_column (lease ∷ [])) (lease_column []) refl (λ lease others. refl) (is_lease_of file) (has_name name) t.leases)

pub open_shown : (t : Table) (file : ℕ) (id : OpenId)
    → find (λ (o : FileOpen). has_id id o.row) (file_view file (view t)).opens ≡ option_map (file_open (lives (view t))) (find (λ o. is_of_file file o && has_id id o) t.opens)
open_shown t file id =
    find-of_map (λ (o : FileOpen). has_id id o.row) (file_open (lives (view t))) (filter (is_of_file file) t.opens)
    ∙ ap (option_map (file_open (lives (view t)))) (find-of_filter (has_id id) (is_of_file file) t.opens)

-- ---- the files, one after another

module _ (R : FileInfo → FileView → List ℕ) (v : View) (infos : List FileInfo) where
  -- what is told of the first i files, and of the next
  pub files_next : (i n m : ℕ) (info : FileInfo) (out next all : List ℕ) → i < length infos → info ≡ get_or infos i info → m ≡ n + 1 → next ≡ out ++ R info (file_view n v)
      → out ++ of_files R v n (drop i infos) ≡ all → next ++ of_files R v m (drop (i + 1) infos) ≡ all
  files_next i n m info out next all lt is em more e =
      let later = of_files R v (suc n) (drop (i + 1) infos) in
      (λ j. more j ++ of_files R v ((em ∙ add-one n) j) (drop (i + 1) infos))
      ∙ append_assoc out (R info (file_view n v)) later
      ∙ ap (λ (x : FileInfo). out ++ (R x (file_view n v) ++ later)) is
      ∙ ap (λ l. out ++ l) (sym (at_drop_more (of_files R v n) infos i info lt)) ∙ e

  pub files_all : (i n : ℕ) (out all : List ℕ) → length infos ≤ i → out ++ of_files R v n (drop i infos) ≡ all → out ≡ all
  files_all i n out all le e = sym (append-nil out) ∙ ap (λ (xs : List FileInfo). out ++ of_files R v n xs) (sym (drop_all i infos le)) ∙ e
