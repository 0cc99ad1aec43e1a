-- Which files are to go, by the list that names them.
use Rattle.std.proofs.Common.{◌≡◌, ◌==◌, ◌&&◌, ◌||◌, ℕ, Bool, true, false, cond, List, [], ◌∷◌, ◌++◌, filter, refl, ap, ◌∙◌}
use Rattle.std.specs.List.{list_any}
use Rattle.std.proofs.lemmas.Bool.{eqb-true}
use Rattle.std.proofs.lemmas.List.Folds.{list_any-append}
use Rattle.std.proofs.Math.Bool.{or_comm}
use Rattle.serial_table.specs.View.{names_file}
use Rattle.serial_table.specs.Change.{with_pending}
use Rattle.serial_table.proofs.Filters.{any_here}
use Rattle.serial_table.proofs.SameIds.{eqb-flip}

-- where a filter asks the same of all that are one file
kept_here : (b e k r : Bool) → (e ≡ true → b ≡ k) → ((b && e) || (r && k)) ≡ ((e || r) && k)
kept_here true true true r h = refl
kept_here true true false r h = let w : true ≡ false = h refl in absurd cc
kept_here false true true r h = let w : false ≡ true = h refl in absurd cc
kept_here false true false true h = refl
kept_here false true false false h = refl
kept_here true false k r h = refl
kept_here false false k r h = refl

-- a file is named among those that a filter keeps where it was named and is kept
pub named_kept : (keeps : ℕ → Bool) (file : ℕ) (files : List ℕ) → list_any (names_file file) (filter keeps files) ≡ (list_any (names_file file) files && keeps file)
named_kept keeps file [] = refl
named_kept keeps file (first ∷ files) =
    any_here (keeps first) first (names_file file) (filter keeps files)
    ∙ ap (λ b. (keeps first && (first == file)) || b) (named_kept keeps file files)
    ∙ kept_here (keeps first) (first == file) (keeps file) (list_any (names_file file) files) (λ e. ap keeps (eqb-true first file e))

named_before : (e l : Bool) → (e ≡ true → l ≡ true) → l ≡ (e || l)
named_before true l h = h refl
named_before false l h = refl

added_here : (b : Bool) (file other : ℕ) (files : List ℕ) → list_any (names_file file) files ≡ b
    → list_any (names_file other) (cond b files (files ++ file ∷ [])) ≡ (names_file file other || list_any (names_file other) files)
added_here true file other files e = named_before (other == file) (list_any (names_file other) files) (λ h. ap (λ f. list_any (names_file f) files) (eqb-true other file h) ∙ e)
added_here false file other files e =
    list_any-append (names_file other) files (file ∷ [])
    ∙ or_comm (list_any (names_file other) files) ((file == other) || false)
    ∙ ap (λ b. (b || false) || list_any (names_file other) files) (eqb-flip file other)
    ∙ ap (λ b. b || list_any (names_file other) files) (or_comm (other == file) false)

-- a file is named among those to which one was added where it is that one, or was named
pub named_added : (file other : ℕ) (files : List ℕ) → list_any (names_file other) (with_pending file files) ≡ (names_file file other || list_any (names_file other) files)
unfolding with_pending
named_added file other files = added_here (list_any (names_file file) files) file other files refl
