-- No open goes where no lease that could make it go is there.
use Rattle.std.proofs.Common.{◌≡◌, ℕ, Bool, true, false, List, ◌&&◌, ◌==◌, not, filter, Option, Some, None, refl, sym, ap, ◌∙◌}
use Rattle.std.proofs.lemmas.Bool.{eqb-true}
use Rattle.std.specs.List.{list_any}
use Rattle.std.specs.Option.{option_map_or}
use Rattle.sid_core.specs.declared.ids.Sid.{Sid}
use Rattle.sid_core.specs.declared.ids.LeaseName.{LeaseName}
use Rattle.sid_core.specs.Values.{has}
use Rattle.serial_table.specs.declared.rows.OpenRow.{OpenRow}
use Rattle.serial_table.specs.declared.rows.LeaseRow.{LeaseRow}
use Rattle.serial_table.specs.declared.table.Table.{Table}
use Rattle.serial_table.specs.View.{view, lives, is_of_file, has_name}
use Rattle.serial_table.specs.InPlace.{is_lease_of, lacks_lease, goes, lacks_once_settled, goes_once_settled}
use Rattle.serial_table.proofs.Members.{IsIn, any_none, none_of, in_filter, passes_in}

abbrev lacks : LeaseRow → Bool
lacks lease = not (has lease.held.0 2)

module _ (here : ℕ → Bool) (leases : List LeaseRow) (none : list_any (λ (lease : LeaseRow). here lease.file && lacks lease) leases ≡ false) where
  none_of_these : (file : ℕ) (q : LeaseRow → Bool) → here file ≡ true → list_any lacks (filter (is_lease_of file) (filter q leases)) ≡ false
  none_of_these file q in_scope = any_none lacks (filter (is_lease_of file) (filter q leases)) (λ lease i.
      let of_file = in_filter (is_lease_of file) (filter q leases) lease i in
      let one = in_filter q leases lease of_file.0 in
      ap (λ b. b && lacks lease) (sym (ap here (eqb-true lease.file file of_file.1) ∙ in_scope)) ∙ none_of (λ (lease : LeaseRow). here lease.file && lacks lease) leases none lease one.0)

  lacks_none : (file : ℕ) (name : Option LeaseName) → here file ≡ true → option_map_or (λ name. list_any lacks (filter (is_lease_of file) (filter (has_name name) leases))) name false ≡ false
  lacks_none file None in_scope = refl
  lacks_none file (Some name) in_scope = none_of_these file (has_name name) in_scope

  stays : (alive : Sid → Bool) (o : OpenRow) → goes here alive leases o ≡ false
  stays alive o = by_scope (here o.file) refl
    where
      by_scope : (b : Bool) → here o.file ≡ b → goes here alive leases o ≡ false
      by_scope true e = ap (λ b. here o.file && (b && not (alive o.owner))) (lacks_none o.file o.lease e) ∙ ap (λ b. b && false) e
      by_scope false e = ap (λ b. b && (lacks_lease leases o && not (alive o.owner))) e

  pub none_goes : (alive : Sid → Bool) (opens : List OpenRow) → list_any (goes here alive leases) opens ≡ false
  none_goes alive opens = any_none (goes here alive leases) opens (λ o i. stays alive o)

module _ (t : Table) (file : ℕ) (none : list_any (lacks_once_settled t.opens (lives (view t))) (filter (is_lease_of file) t.leases) ≡ false) where
  abbrev will_lack : LeaseRow → Bool
  will_lack = lacks_once_settled t.opens (lives (view t))

  will_lack_none : (other : ℕ) (name : Option LeaseName) → (other == file) ≡ true → option_map_or (λ name. list_any will_lack (filter (is_lease_of other) (filter (has_name name) t.leases))) name false ≡ false
  will_lack_none other None e = refl
  will_lack_none other (Some name) e =
      any_none will_lack (filter (is_lease_of other) (filter (has_name name) t.leases)) (λ lease i.
      let of_file = in_filter (is_lease_of other) (filter (has_name name) t.leases) lease i in
      let one = in_filter (has_name name) t.leases lease of_file.0 in
      none_of will_lack (filter (is_lease_of file) t.leases) none lease
      (passes_in (is_lease_of file) t.leases lease one.0 (ap (λ f. lease.file == f) (sym (eqb-true other file e)) ∙ of_file.1)))

  pub none_will_go : list_any (goes_once_settled t) (filter (is_of_file file) t.opens) ≡ false
  none_will_go = any_none (goes_once_settled t) (filter (is_of_file file) t.opens) (λ o i.
      ap (λ b. b && not (lives (view t) o.owner)) (will_lack_none o.file o.lease (in_filter (is_of_file file) t.opens o i).1))
