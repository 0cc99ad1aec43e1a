-- Leases that settling leaves as they are, where none of the scope is breaking, or none of it goes.
use Rattle.std.proofs.Common.{◌≡◌, ℕ, Bool, true, false, not, ◌&&◌, ◌||◌, cond, if◌then◌else◌, List, [], ◌∷◌, Option, Some, None, is_some, map, filter, refl, ap, ◌∙◌}
use Rattle.std.proofs.lemmas.Bool.{or_parts}
use Rattle.std.specs.List.{list_any}
use Rattle.sid_core.specs.declared.ids.Sid.{Sid}
use Rattle.serial_table.specs.declared.rows.Breaking.{Breaking}
use Rattle.serial_table.specs.declared.rows.LeaseRow.{LeaseRow}
use Rattle.serial_table.specs.declared.rows.OpenRow.{OpenRow}
use Rattle.serial_table.specs.InPlace.{break_if_any_ends, lease_ends_break}

out_of_scope : (b other : Bool) (lease ended : LeaseRow) → (b && true) ≡ false → (if not b || other then lease else ended) ≡ lease
out_of_scope true other lease ended e = absurd cc
out_of_scope false other lease ended e = refl

module _ (here : ℕ → Bool) (opens : List OpenRow) (alive : Sid → Bool) where
  stays_so : (lease : LeaseRow) (breaking : Option Breaking) → (here lease.file && is_some breaking) ≡ false → break_if_any_ends here opens alive lease breaking ≡ lease
  stays_so lease None e = refl
  stays_so lease (Some breaking) e = out_of_scope (here lease.file) _ lease _ e

  pub none_ends : (leases : List LeaseRow) → list_any (λ (lease : LeaseRow). here lease.file && is_some lease.breaking) leases ≡ false → map (lease_ends_break here opens alive) leases ≡ leases
  none_ends [] e = refl
  none_ends (lease ∷ leases) e =
      let p = or_parts (here lease.file && is_some lease.breaking) (list_any (λ (lease : LeaseRow). here lease.file && is_some lease.breaking) leases) e in
      λ i. stays_so lease lease.breaking p.0 i ∷ none_ends leases p.1 i

pub none_leaves : {X : Type 0} (p : X → Bool) (xs : List X) → list_any p xs ≡ false → filter (λ x. not (p x)) xs ≡ xs
none_leaves p [] e = refl
none_leaves p (x ∷ xs) e =
    let q = or_parts (p x) (list_any p xs) e in
    ap (λ b. cond (not b) (x ∷ filter (λ x. not (p x)) xs) (filter (λ x. not (p x)) xs)) q.0 ∙ ap (λ ys. x ∷ ys) (none_leaves p xs q.1)
