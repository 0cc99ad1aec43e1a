-- Breaks bring no open and no lease: what they leave was there.
use Rattle.std.proofs.Common.{◌≡◌, ℕ, true, List, [], ◌∷◌, filter, map, Option, None, refl, sym, ap, ◌∙◌}
use Rattle.std.specs.List.{list_all}
use Rattle.std.proofs.lemmas.Bool.{and_parts}
use Rattle.sid_core.specs.declared.bits.LeaseState.{LeaseState}
use Rattle.sid_core.specs.declared.ids.LeaseName.{LeaseName}
use Rattle.serial_table.specs.declared.rows.OpenRow.{OpenRow}
use Rattle.serial_table.specs.declared.rows.LeaseRow.{LeaseRow}
use Rattle.serial_table.specs.declared.rows.Breaking.{Breaking}
use Rattle.serial_table.specs.declared.table.Table.{Table}
use Rattle.serial_table.specs.declared.change.Change.{Change}
use Rattle.serial_table.specs.View.{view}
use Rattle.serial_table.specs.File.{file_view}
use Rattle.serial_table.specs.Settle.{settle_where, row_stays, lease_settles, lease_stays}
use Rattle.serial_table.specs.Change.{perform, perform_all, set_lease}
use Rattle.serial_table.proofs.Views.{name-set_lease, name-settled_lease, file-settled_lease}
use Rattle.serial_table.proofs.Files.{file-set_lease}
use Rattle.serial_table.proofs.Members.{IsIn, in_filter, in_map}
use Rattle.serial_table.proofs.Shown.{is_of_break}
use Rattle.serial_table.proofs.BreaksBring.{by_break}

-- the lease of a table that had the name and the file before
pub record IsOldOf (t : Table) (l old : LeaseRow) : Type 0 where
  pub there : IsIn old t.leases
  pub name : l.name ≡ old.name
  pub file : l.file ≡ old.file

pub record ComesFrom (t u : Table) : Type 0 where
  pub opens : (o : OpenRow) → IsIn o u.opens → IsIn o t.opens
  pub leases : (l : LeaseRow) → IsIn l u.leases → (old : LeaseRow) × IsOldOf t l old

lease_set : (file : ℕ) (name : LeaseName) (held : LeaseState) (breaking : Option Breaking) (t : Table) (l : LeaseRow) → IsIn l (map (set_lease file name held breaking) t.leases) → (old : LeaseRow) × IsOldOf t l old
lease_set file name held breaking t l i =
    let x = in_map (set_lease file name held breaking) t.leases l i in (
      x.0,
      record {
        there = x.1;
        name = ap (λ (y : LeaseRow). y.name) (sym x.2) ∙ name-set_lease file name held breaking x.0;
        file = ap (λ (y : LeaseRow). y.file) (sym x.2) ∙ file-set_lease file name held breaking x.0;
      },
    )

lease_settled : (t : Table) (l : LeaseRow) → IsIn l (filter (lease_stays (λ file. true) (view t)) (map (lease_settles (λ file. true) (view t)) t.leases)) → (old : LeaseRow) × IsOldOf t l old
lease_settled t l i =
    let x = in_map (lease_settles (λ file. true) (view t)) t.leases l (in_filter (lease_stays (λ file. true) (view t)) (map (lease_settles (λ file. true) (view t)) t.leases) l i).0 in (
      x.0,
      record {
        there = x.1;
        name = ap (λ (y : LeaseRow). y.name) (sym x.2) ∙ name-settled_lease (file_view x.0.file (view t)) x.0;
        file = ap (λ (y : LeaseRow). y.file) (sym x.2) ∙ file-settled_lease (file_view x.0.file (view t)) x.0;
      },
    )

from_break : (file : ℕ) (change : Change) → is_of_break file change ≡ true → (t : Table) → ComesFrom t (perform change t)
unfolding settle_where
from_break file =
    by_break file (λ change. (t : Table) → ComesFrom t (perform change t)) (λ g name held breaking t. record { opens = λ o i. i; leases = lease_set g name held breaking t })
    (λ g name state t. record { opens = λ o i. i; leases = lease_set g name state None t })
    (λ t. record { opens = λ o i. (in_filter (row_stays (λ file. true) (view t)) t.opens o i).0; leases = lease_settled t })

pub from_breaks : (file : ℕ) (cs : List Change) (t : Table) → list_all (is_of_break file) cs ≡ true → ComesFrom t (perform_all cs t)
from_breaks file [] t e = record { opens = λ o i. i; leases = λ l i. (l, record { there = i; name = refl; file = refl }) }
from_breaks file (change ∷ cs) t e =
    let all = and_parts (is_of_break file change) (list_all (is_of_break file) cs) e in
    let here = from_break file change all.0 t in
    let rest = from_breaks file cs (perform change t) all.1 in
    record {
      opens = λ o i. here.opens o (rest.opens o i);
      leases = λ l i.
          let later = rest.leases l i in
          let old = here.leases later.0 later.1.there in
          (old.0, record { there = old.1.there; name = later.1.name ∙ old.1.name; file = later.1.file ∙ old.1.file });
    }
