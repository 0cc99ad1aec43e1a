-- Breaks go by the opens and leases that a file view has, and a copy of a file's rows has these.
use Rattle.std.proofs.Common.{◌≡◌, not, ℕ, false, List, [], ◌∷◌, filter, map, Option, refl, sym, ap, ◌∙◌}
use Rattle.std.specs.Option.{option_map_or}
use Rattle.sid_core.specs.declared.ids.LeaseName.{LeaseName}
use Rattle.sid_core.specs.Ids.{same_name}
use Rattle.sid_core.specs.declared.ids.Moment.{Moment}
use Rattle.serial_table.specs.declared.rows.LeaseRow.{LeaseRow}
use Rattle.serial_table.specs.declared.table.Table.{Table}
use Rattle.serial_table.specs.declared.change.Change.{Change}
use Rattle.serial_table.specs.declared.change.Change.TheVariants as c
use Rattle.serial_table.specs.View.{view, lives, is_of_file, has_name}
use Rattle.serial_table.specs.File.{FileView, file_view, file_open}
use Rattle.serial_table.specs.Settle.{settle_file}
use Rattle.serial_table.specs.Local.{perform_in_file, perform_all_in_file}
use Rattle.serial_table.specs.Break.{Breaks, both, break_lease, break_first, break_each, break_others, names_of}
use Rattle.serial_table.specs.InPlace.{is_lease_of}
use Rattle.serial_table.specs.Alone.{alone, opens_and_leases}
use Rattle.serial_table.proofs.Filters.{filter-filter, filter_kept}

-- what a change leaves of the opens and leases goes by these alone
seen-perform : (change : Change) (f : FileView) → opens_and_leases (perform_in_file change (opens_and_leases f)) ≡ opens_and_leases (perform_in_file change f)
unfolding settle_file
seen-perform (c.AddOpen row) f = refl
seen-perform (c.DropOpen file id) f = refl
seen-perform (c.TakeOver file id owner handle) f = refl
seen-perform (c.AddLease lease) f = refl
seen-perform (c.SetLease file name held breaking) f = refl
seen-perform (c.Acknowledge file name state) f = refl
seen-perform (c.AddRange range) f = refl
seen-perform (c.DropRange range) f = refl
seen-perform (c.AddPending file) f = refl
seen-perform (c.DropPending file) f = refl
seen-perform (c.AddHold hold) f = refl
seen-perform (c.SetHold key owner mode) f = refl
seen-perform (c.DropHold key owner) f = refl
seen-perform (c.AddWaiter waiter) f = refl
seen-perform (c.DropWaiter sid call) f = refl
seen-perform (c.Send post) f = refl
seen-perform (c.TakeLetter to) f = refl
seen-perform (c.EndSession sid moment) f = refl
seen-perform (c.NextSession sid moment) f = refl
seen-perform c.Settle f = refl

pub seen-perform_all : (changes : List Change) (f g : FileView) → opens_and_leases f ≡ opens_and_leases g → opens_and_leases (perform_all_in_file changes f) ≡ opens_and_leases (perform_all_in_file changes g)
seen-perform_all [] f g e = e
seen-perform_all (change ∷ changes) f g e =
    seen-perform_all changes (perform_in_file change f) (perform_in_file change g)
    (sym (seen-perform change f) ∙ ap (λ (h : FileView). opens_and_leases (perform_in_file change h)) e ∙ seen-perform change g)

seen-break_first : (now : Moment) (file kept : ℕ) (f : FileView) (leases : List LeaseRow) → break_first now file (opens_and_leases f) kept leases ≡ break_first now file f kept leases
unfolding break_lease
seen-break_first now file kept f [] = refl
seen-break_first now file kept f (lease ∷ leases) = refl

pub seen-break_each : (now : Moment) (file kept : ℕ) (names : List LeaseName) (f g : FileView) → opens_and_leases f ≡ opens_and_leases g → break_each now file f kept names ≡ break_each now file g kept names
unfolding break_each
seen-break_each now file kept [] f g e = refl
seen-break_each now file kept (name ∷ names) f g e =
    let first : break_first now file f kept (f.leases name) ≡ break_first now file g kept (g.leases name) =
    sym (seen-break_first now file kept f (f.leases name)) ∙ ap (λ (h : FileView). break_first now file h kept (h.leases name)) e ∙ seen-break_first now file kept g (g.leases name) in
    let after = seen-perform_all (break_first now file f kept (f.leases name)).changes f g e ∙ ap (λ (b : Breaks). opens_and_leases (perform_all_in_file b.changes g)) first in
    let rest = seen-break_each now file kept names (perform_all_in_file (break_first now file f kept (f.leases name)).changes f) (perform_all_in_file (break_first now file g kept (g.leases name)).changes g) after in
    λ i. both (first i) (rest i)

pub seen-break_others : (now : Moment) (file kept : ℕ) (own : Option LeaseName) (f g : FileView) → opens_and_leases f ≡ opens_and_leases g → break_others now file f kept own ≡ break_others now file g kept own
seen-break_others now file kept own f g e =
    ap (λ (h : FileView). break_each now file f kept (filter (λ name. not (option_map_or (same_name name) own false)) (names_of h.opens))) e
    ∙ seen-break_each now file kept (filter (λ name. not (option_map_or (same_name name) own false)) (names_of g.opens)) f g e

alone_leases : (file : ℕ) (t : Table) (name : LeaseName)
    → filter (is_lease_of file) (filter (has_name name) (filter (is_lease_of file) t.leases)) ≡ filter (is_lease_of file) (filter (has_name name) t.leases)
alone_leases file t name =
    ap (filter (is_lease_of file)) (filter-filter (has_name name) (is_lease_of file) t.leases)
    ∙ filter_kept (is_lease_of file) (is_lease_of file) (λ x e. e) (filter (has_name name) t.leases)

-- the file's rows alone show the opens and leases of the file
pub alone_seen : (file : ℕ) (t : Table) → opens_and_leases (file_view file (view (alone file t))) ≡ opens_and_leases (file_view file (view t))
alone_seen file t = λ i. record {
  opens = map (file_open (lives (view t))) (filter_kept (is_of_file file) (is_of_file file) (λ x e. e) t.opens i);
  leases = λ name. alone_leases file t name i;
  ranges = [];
  open_watches = [];
  range_watches = [];
  pending = false;
}

pub broken_alone : (now : Moment) (file kept : ℕ) (own : Option LeaseName) (t u : Table) → u ≡ alone file t → break_others now file (file_view file (view u)) kept own ≡ break_others now file (file_view file (view t)) kept own
broken_alone now file kept own t u e =
    ap (λ (x : Table). break_others now file (file_view file (view x)) kept own) e
    ∙ seen-break_others now file kept own (file_view file (view (alone file t))) (file_view file (view t)) (alone_seen file t)
