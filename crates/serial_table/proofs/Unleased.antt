-- An `open` of a file of which there is no lease: an open that conflicts refuses it, and there is nothing to break.
use Rattle.std.proofs.Common.{◌≡◌, ℕ, Bool, true, false, cond, List, [], ◌∷◌, ◌&&◌, ◌||◌, not, filter, Option, Some, None, refl, sym, ap, ◌∙◌}
use Rattle.std.specs.List.{list_any}
use Rattle.std.specs.Option.{option_map_or}
use Rattle.sid_core.specs.declared.ids.LeaseName.{LeaseName}
use Rattle.sid_core.specs.declared.reply.Reply.TheVariants.{SharingViolation}
use Rattle.sid_core.specs.Ids.{same_name}
use Rattle.serial_table.specs.declared.rows.LeaseRow.{LeaseRow}
use Rattle.serial_table.specs.declared.decision.Caller.{Caller}
use Rattle.serial_table.specs.declared.decision.Decision.{Decision}
use Rattle.serial_table.specs.declared.table.Table.{Table}
use Rattle.serial_table.specs.View.{view, has_name}
use Rattle.serial_table.specs.File.{FileView, FileOpen, file_view}
use Rattle.serial_table.specs.InPlace.{is_lease_of}
use Rattle.serial_table.specs.Local.{perform_all_in_file}
use Rattle.serial_table.specs.Decision.{only_reply}
use Rattle.serial_table.specs.Break.{Breaks, no_break, both, break_each, break_first, break_others, names_of, all_but_handle, all_but_write, none_of_them}
use Rattle.serial_table.specs.Asked.{Asked, is_stat, conflicts, in_conflict, refuses, holds_handle, is_asked_and_connected}
use Rattle.serial_table.specs.Grant.{grant}
use Rattle.serial_table.specs.Open.{handle_breaks, other_breaks, wait_or_grant, go_on, open_shared}
use Rattle.serial_table.specs.OpenAt.{open_unleased}

-- no row of a list passes a test that none of the longer list passes
none_among : (p q : LeaseRow → Bool) (xs : List LeaseRow) → list_any p xs ≡ false → filter p (filter q xs) ≡ []
none_among p q [] e = refl
none_among p q (x ∷ xs) e = step (p x) (q x) refl e (none_among p q xs)
  where
    step : (b c : Bool) → p x ≡ b → b || list_any p xs ≡ false → (list_any p xs ≡ false → filter p (filter q xs) ≡ []) → filter p (cond c (x ∷ filter q xs) (filter q xs)) ≡ []
    step true c h e rest = absurd cc
    step false true h e rest = ap (λ b. cond b (x ∷ filter p (filter q xs)) (filter p (filter q xs))) h ∙ rest e
    step false false h e rest = rest e

pub no_lease : (t : Table) (file : ℕ) → list_any (is_lease_of file) t.leases ≡ false → (name : LeaseName) → (file_view file (view t)).leases name ≡ []
no_lease t file e name = none_among (is_lease_of file) (has_name name) t.leases e

module _ (f : FileView) (asked : Asked) (none : (name : LeaseName) → f.leases name ≡ []) where
  lacks_handle : (name : LeaseName) → holds_handle f name ≡ false
  lacks_handle name = ap (list_any _) (none name)

  all_refuse : (o : FileOpen) → refuses f asked o ≡ true
  all_refuse o = by_lease o.row.lease
    where
      by_lease : (lease : Option LeaseName) → option_map_or (λ name. not (holds_handle f name) || is_asked_and_connected f asked name) lease true ≡ true
      by_lease None = refl
      by_lease (Some name) = ap (λ b. not b || is_asked_and_connected f asked name) (lacks_handle name)

  refused : (xs : List FileOpen) → list_any (refuses f asked) (filter (conflicts asked) xs) ≡ list_any (conflicts asked) xs
  refused [] = refl
  refused (x ∷ xs) = step (conflicts asked x) (refused xs)
    where
      step : (b : Bool) → list_any (refuses f asked) (filter (conflicts asked) xs) ≡ list_any (conflicts asked) xs
          → list_any (refuses f asked) (cond b (x ∷ filter (conflicts asked) xs) (filter (conflicts asked) xs)) ≡ b || list_any (conflicts asked) xs
      step true rest = ap (λ b. b || list_any (refuses f asked) (filter (conflicts asked) xs)) (all_refuse x)
      step false rest = rest

  nothing_breaks : (kept : ℕ) (names : List LeaseName) → break_each asked.moment asked.file f kept names ≡ no_break
  unfolding break_each
  nothing_breaks kept [] = refl
  nothing_breaks kept (name ∷ names) =
      ap (λ leases. both (break_first asked.moment asked.file f kept leases) (break_each asked.moment asked.file (perform_all_in_file (break_first asked.moment asked.file f kept leases).changes f) kept names)) (none name)
      ∙ ap (both no_break) (nothing_breaks kept names)

  no_handle_breaks : handle_breaks f asked ≡ no_break
  unfolding handle_breaks
  no_handle_breaks = nothing_breaks all_but_handle (names_of (in_conflict f asked))

  no_other_breaks : other_breaks f asked ≡ no_break
  unfolding other_breaks
  no_other_breaks = step (is_stat asked.access && not asked.overwrite)
    where
      step : (b : Bool) → cond b no_break (break_others asked.moment asked.file f (cond asked.overwrite none_of_them all_but_write) asked.lease) ≡ no_break
      step true = refl
      step false = nothing_breaks (cond asked.overwrite none_of_them all_but_write) (filter (λ name. not (option_map_or (same_name name) asked.lease false)) (names_of f.opens))

  granted : (caller : Caller) → go_on f caller asked (handle_breaks f asked) (handle_breaks f asked).blocker ≡ grant f caller asked no_break
  granted caller =
      ap (λ (b : Breaks). go_on f caller asked b b.blocker) no_handle_breaks
      ∙ ap (λ (b : Breaks). wait_or_grant f caller asked (both no_break b) b.blocker) no_other_breaks

  pub unleased_is : (caller : Caller) → open_shared f caller asked ≡ open_unleased f caller asked
  unfolding open_shared
  unleased_is caller = λ i. cond (refused f.opens i) (only_reply SharingViolation) (granted caller i)
