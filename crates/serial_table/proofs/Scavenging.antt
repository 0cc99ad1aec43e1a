-- The opens that a scavenge takes out, and the spots that it may free, file by file.
use Rattle.std.proofs.Common.{◌≡◌, ℕ, ◌+◌, ◌||◌, Bool, true, false, cond, List, [], ◌∷◌, ◌++◌, map, filter, refl, sym, ap, ◌∙◌, arith}
use Rattle.std.proofs.lemmas.Bool.{eqb-true}
use Rattle.std.proofs.lemmas.List.{map-append, map-id, append-nil}
use Rattle.std.proofs.lemmas.List.Concat.{flat_map-append}
use Rattle.std.proofs.lemmas.List.Elements.{filter-append}
use Rattle.std.proofs.lemmas.List.FromFn.{map-range_with_len_more}
use Rattle.std.specs.List.{flat_map, list_any, range_with_len}
use Rattle.sid_core.specs.declared.ids.Spot.{Spot}
use Rattle.serial_table.specs.declared.rows.OpenRow.{OpenRow}
use Rattle.serial_table.specs.declared.change.Change.{Change}
use Rattle.serial_table.specs.View.{is_of_file}
use Rattle.serial_table.specs.Decision.{spots_of}
use Rattle.serial_table.specs.ByFile.{spots_of_all}
use Rattle.serial_table.specs.Scavenge.{goes}

pub one_more : (i : ℕ) → range_with_len 1 (i + 1) ≡ range_with_len 1 i ++ (i + 1) ∷ []
one_more i =
    sym (map-id (range_with_len 1 (i + 1))) ∙ map-range_with_len_more (λ (x : ℕ). x) 1 i (i + 1) (omega arith)
    ∙ ap (λ ns. ns ++ (i + 1) ∷ []) (map-id (range_with_len 1 i))

pub goes_more : (F : ℕ → List OpenRow) (i : ℕ) (own : List OpenRow) (changes next : List Change) → own ≡ F (i + 1) → next ≡ changes ++ map goes own → changes ≡ map goes (flat_map F (range_with_len 1 i))
    → next ≡ map goes (flat_map F (range_with_len 1 (i + 1)))
goes_more F i own changes next mine more e =
    more ∙ (λ j. e j ++ map goes (mine j))
    ∙ sym (map-append goes (flat_map F (range_with_len 1 i)) (F (i + 1)))
    ∙ ap (λ rows. map goes (flat_map F (range_with_len 1 i) ++ rows)) (sym (append-nil (F (i + 1))))
    ∙ ap (map goes) (sym (flat_map-append F (range_with_len 1 i) ((i + 1) ∷ [])))
    ∙ ap (λ files. map goes (flat_map F files)) (sym (one_more i))

-- ---- the spots of the files that have any

first_expired : (file : ℕ) (b : Bool) (x : OpenRow) (ys : List OpenRow) (any : Bool) → x.file ≡ file → spots_of_all ys ≡ cond any (spots_of file) [] → spots_of_all (cond b (x ∷ ys) ys) ≡ cond (b || any) (spots_of file) []
first_expired file true x ys any is e = ap spots_of is
first_expired file false x ys any is e = e

in_file : (E : OpenRow → Bool) (file : ℕ) (b : Bool) (x : OpenRow) (ys : List OpenRow) → (b ≡ true → x.file ≡ file) → spots_of_all (filter E ys) ≡ cond (list_any E ys) (spots_of file) []
    → spots_of_all (filter E (cond b (x ∷ ys) ys)) ≡ cond (list_any E (cond b (x ∷ ys) ys)) (spots_of file) []
in_file E file true x ys is e = first_expired file (E x) x (filter E ys) (list_any E ys) (is refl) e
in_file E file false x ys is e = e

pub spots_of_expired : (E : OpenRow → Bool) (file : ℕ) (xs : List OpenRow) → spots_of_all (filter E (filter (is_of_file file) xs)) ≡ cond (list_any E (filter (is_of_file file) xs)) (spots_of file) []
spots_of_expired E file [] = refl
spots_of_expired E file (x ∷ xs) = in_file E file (is_of_file file x) x (filter (is_of_file file) xs) (eqb-true x.file file) (spots_of_expired E file xs)

if_any : (b : Bool) (file : ℕ) → cond b (spots_of file) [] ≡ flat_map spots_of (cond b (file ∷ []) [])
if_any true file = refl
if_any false file = refl

pub spots_more : (E : OpenRow → Bool) (opens : List OpenRow) (i : ℕ) (own : List OpenRow) (spots next : List Spot) → own ≡ filter E (filter (is_of_file (i + 1)) opens) → next ≡ spots ++ spots_of_all own
    → spots ≡ flat_map spots_of (filter (λ file. list_any E (filter (is_of_file file) opens)) (range_with_len 1 i))
    → next ≡ flat_map spots_of (filter (λ file. list_any E (filter (is_of_file file) opens)) (range_with_len 1 (i + 1)))
spots_more E opens i own spots next mine more e =
    let H = λ (file : ℕ). list_any E (filter (is_of_file file) opens) in
    more ∙ (λ j. e j ++ spots_of_all (mine j))
    ∙ ap (λ ss. flat_map spots_of (filter H (range_with_len 1 i)) ++ ss) (spots_of_expired E (i + 1) opens ∙ if_any (H (i + 1)) (i + 1))
    ∙ sym (flat_map-append spots_of (filter H (range_with_len 1 i)) (filter H ((i + 1) ∷ [])))
    ∙ ap (flat_map spots_of) (sym (filter-append H (range_with_len 1 i) ((i + 1) ∷ [])))
    ∙ ap (λ files. flat_map spots_of (filter H files)) (sym (one_more i))

-- ---- names, file by file

pub names_more : {X : Type 0} (F : ℕ → List X) (i : ℕ) (own names next : List X) → own ≡ F (i + 1) → next ≡ names ++ own → names ≡ flat_map F (range_with_len 1 i) → next ≡ flat_map F (range_with_len 1 (i + 1))
names_more F i own names next mine more e =
    more ∙ (λ j. e j ++ mine j)
    ∙ ap (λ rows. flat_map F (range_with_len 1 i) ++ rows) (sym (append-nil (F (i + 1))))
    ∙ sym (flat_map-append F (range_with_len 1 i) ((i + 1) ∷ []))
    ∙ ap (flat_map F) (sym (one_more i))
