-- Lease names in order: by guid, then by key.
use Rattle.std.specs.Prelude.{ℕ, List, map}
use Rattle.std.specs.declared.cmp.Ordering.{Ordering}
use Rattle.std.specs.Ordering.{nat_cmp, on, then_cmp}
use Rattle.std.specs.Coded.{Coded}
use Rattle.sid_core.specs.declared.ids.LeaseName.{LeaseName}
use Rattle.sid_core.specs.contracts.ids.LeaseName as lease_name

abbrev pub name_cmp : LeaseName → LeaseName → Ordering
name_cmp = then_cmp (on (λ n. n.guid) nat_cmp) (on (λ n. n.key) nat_cmp)

-- For the code: a name has a code, and is a pair of numbers.
abbrev pub coded_name : Coded LeaseName
coded_name = (lease_name.the_row).coded

abbrev pub name_at : ℕ × ℕ → LeaseName
name_at p = record { guid = p.0; key = p.1 }

-- entries by name
abbrev pub named : {X : Type 0} → List ((ℕ × ℕ) × X) → List (LeaseName × X)
named es = map (λ e. (name_at e.0, e.1)) es
