-- A file view has the opens and leases that a table shows of the file. Breaks go by no more.
use Rattle.std.proofs.Common.{◌≡◌, ◌==◌, ℕ, Bool, true, false, ◌&&◌, List, [], ◌∷◌, filter, map, None, refl, sym, ap, ◌∙◌, subst}
use Rattle.std.specs.List.{list_all}
use Rattle.std.proofs.lemmas.Bool.{eqb-true, and_parts}
use Rattle.sid_core.specs.declared.ids.Sid.{Sid}
use Rattle.sid_core.specs.declared.ids.LeaseName.{LeaseName}
use Rattle.serial_table.specs.declared.rows.OpenRow.{OpenRow}
use Rattle.serial_table.specs.declared.rows.LeaseRow.{LeaseRow}
use Rattle.serial_table.specs.declared.rows.RangeRow.{RangeRow}
use Rattle.serial_table.specs.declared.rows.Watch.{Watch}
use Rattle.serial_table.specs.declared.table.Table.{Table}
use Rattle.serial_table.specs.declared.change.Change.{Change}
use Rattle.serial_table.specs.declared.change.Change.TheVariants as c
use Rattle.serial_table.specs.View.{view, lives, is_of_file, has_name}
use Rattle.serial_table.specs.File.{FileView, FileOpen, file_view, file_open, is_under}
use Rattle.serial_table.specs.Settle.{settle_file, settled_lease, keeps_open, keeps_lease}
use Rattle.serial_table.specs.Change.{perform, perform_all, set_lease}
use Rattle.serial_table.specs.Decision.{waits_no_more}
use Rattle.serial_table.specs.Local.{perform_in_file, perform_all_in_file, is_in}
use Rattle.serial_table.specs.Break.{connected_under}
use Rattle.serial_table.proofs.SameIds.{same_name-eq}
use Rattle.serial_table.proofs.Members.{IsIn, in_filter, in_map}
use Rattle.serial_table.proofs.Files.{is_lease_of, file_view-perform, lives-perform}
use Rattle.serial_table.proofs.Fitting.{after_drops}

pub record Shows (file : ℕ) (f : FileView) (t : Table) : Type 0 where
  pub opens : f.opens ≡ (file_view file (view t)).opens
  pub leases : f.leases ≡ (file_view file (view t)).leases

pub shows_itself : (file : ℕ) (t : Table) → Shows file (file_view file (view t)) t
shows_itself file t = record { opens = refl; leases = refl }

-- ---- the rows of the table

pub shown_lease : (file : ℕ) (f : FileView) (t : Table) → Shows file f t → (name : LeaseName) (l : LeaseRow) → IsIn l (f.leases name) → IsIn l t.leases × (l.file ≡ file) × (l.name ≡ name)
shown_lease file f t s name l i =
    let here = in_filter (is_lease_of file) (filter (has_name name) t.leases) l (subst (λ (leases : LeaseName → List LeaseRow). IsIn l (leases name)) s.leases i) in
    let named = in_filter (has_name name) t.leases l here.0 in (named.0, eqb-true l.file file here.1, same_name-eq l.name name named.1)

-- a connected open under a lease is of the table, and its owner lives
pub shown_open : (file : ℕ) (f : FileView) (t : Table) → Shows file f t → (name : LeaseName) (row : OpenRow) → IsIn row (connected_under f name) → IsIn row t.opens × (lives (view t) row.owner ≡ true)
shown_open file f t s name row i =
    let o = in_map (λ (o : FileOpen). o.row) (filter (λ o. is_under name o && o.connected) f.opens) row i in
    let here = in_filter (λ o. is_under name o && o.connected) f.opens o.0 o.1 in
    let both = and_parts (is_under name o.0) o.0.connected here.1 in
    let x = in_map (file_open (lives (view t))) (filter (is_of_file file) t.opens) o.0 (subst (IsIn o.0) s.opens here.0) in
    let same : x.0 ≡ row = ap (λ (y : FileOpen). y.row) x.2 ∙ o.2 in (
      subst (λ (y : OpenRow). IsIn y t.opens) same (in_filter (is_of_file file) t.opens x.0 x.1).0,
      ap (λ (y : OpenRow). lives (view t) y.owner) (sym same) ∙ ap (λ (y : FileOpen). y.connected) x.2 ∙ both.1,
    )

-- ---- changes that breaks and acknowledgements make

abbrev pub is_of_break : ℕ → Change → Bool
is_of_break file (c.SetLease g name held breaking) = g == file
is_of_break file (c.Acknowledge g name state) = g == file
is_of_break file c.Settle = true
is_of_break file _ = false

pub break_in : (alive : Sid → Bool) (file : ℕ) (change : Change) → is_of_break file change ≡ true → is_in alive file change ≡ true
break_in alive file (c.SetLease g name held breaking) e = e
break_in alive file (c.Acknowledge g name state) e = e
break_in alive file c.Settle e = refl
break_in alive file (c.AddOpen row) e = absurd cc
break_in alive file (c.DropOpen g id) e = absurd cc
break_in alive file (c.TakeOver g id owner handle) e = absurd cc
break_in alive file (c.AddLease lease) e = absurd cc
break_in alive file (c.AddRange range) e = absurd cc
break_in alive file (c.DropRange range) e = absurd cc
break_in alive file (c.AddPending g) e = absurd cc
break_in alive file (c.DropPending g) e = absurd cc
break_in alive file (c.AddHold hold) e = absurd cc
break_in alive file (c.SetHold key owner mode) e = absurd cc
break_in alive file (c.DropHold key owner) e = absurd cc
break_in alive file (c.AddWaiter waiter) e = absurd cc
break_in alive file (c.DropWaiter sid call) e = absurd cc
break_in alive file (c.Send post) e = absurd cc
break_in alive file (c.TakeLetter to) e = absurd cc
break_in alive file (c.EndSession sid moment) e = absurd cc
break_in alive file (c.NextSession sid moment) e = absurd cc

-- what they leave of the opens and leases goes by the opens and leases
same_after : (file : ℕ) (change : Change) (f g : FileView) → is_of_break file change ≡ true → f.opens ≡ g.opens → f.leases ≡ g.leases
    → ((perform_in_file change f).opens ≡ (perform_in_file change g).opens) × ((perform_in_file change f).leases ≡ (perform_in_file change g).leases)
unfolding settle_file
same_after file (c.SetLease h name held breaking) f g e o l = (o, λ i n. map (set_lease h name held breaking) (l i n))
same_after file (c.Acknowledge h name state) f g e o l = (o, λ i n. map (set_lease h name state None) (l i n))
same_after file c.Settle f g e o l = (
  (λ i. filter (keeps_open (record f { opens = o i; leases = l i })) (o i)),
  (λ i n. filter (keeps_lease (record f { opens = o i; leases = l i })) (map (settled_lease (record f { opens = o i; leases = l i })) (l i n))),
)
same_after file (c.AddOpen row) f g e o l = absurd cc
same_after file (c.DropOpen h id) f g e o l = absurd cc
same_after file (c.TakeOver h id owner handle) f g e o l = absurd cc
same_after file (c.AddLease lease) f g e o l = absurd cc
same_after file (c.AddRange range) f g e o l = absurd cc
same_after file (c.DropRange range) f g e o l = absurd cc
same_after file (c.AddPending h) f g e o l = absurd cc
same_after file (c.DropPending h) f g e o l = absurd cc
same_after file (c.AddHold hold) f g e o l = absurd cc
same_after file (c.SetHold key owner mode) f g e o l = absurd cc
same_after file (c.DropHold key owner) f g e o l = absurd cc
same_after file (c.AddWaiter waiter) f g e o l = absurd cc
same_after file (c.DropWaiter sid call) f g e o l = absurd cc
same_after file (c.Send post) f g e o l = absurd cc
same_after file (c.TakeLetter to) f g e o l = absurd cc
same_after file (c.EndSession sid moment) f g e o l = absurd cc
same_after file (c.NextSession sid moment) f g e o l = absurd cc

pub shows-perform : (file : ℕ) (change : Change) (f : FileView) (t : Table) → is_of_break file change ≡ true → Shows file f t → Shows file (perform_in_file change f) (perform change t)
shows-perform file change f t e s =
    let now = file_view-perform file change t (break_in (lives (view t)) file change e) in
    let same = same_after file change f (file_view file (view t)) e s.opens s.leases in
    record { opens = same.0 ∙ sym (ap (λ (x : FileView). x.opens) now); leases = same.1 ∙ sym (ap (λ (x : FileView). x.leases) now) }

pub shows-perform_all : (file : ℕ) (cs : List Change) (f : FileView) (t : Table) → list_all (is_of_break file) cs ≡ true → Shows file f t → Shows file (perform_all_in_file cs f) (perform_all cs t)
shows-perform_all file [] f t e s = s
shows-perform_all file (change ∷ cs) f t e s =
    let both = and_parts (is_of_break file change) (list_all (is_of_break file) cs) e in
    shows-perform_all file cs (perform_in_file change f) (perform change t) both.1 (shows-perform file change f t both.0 s)

-- they don't change who lives
pub lives-breaks : (file : ℕ) (cs : List Change) (t : Table) → list_all (is_of_break file) cs ≡ true → lives (view (perform_all cs t)) ≡ lives (view t)
lives-breaks file [] t e = refl
lives-breaks file (change ∷ cs) t e =
    let both = and_parts (is_of_break file change) (list_all (is_of_break file) cs) e in
    lives-breaks file cs (perform change t) both.1 ∙ lives-perform file change t (break_in (lives (view t)) file change both.0)

-- ---- waiters that go and ranges that come leave opens and leases as they are

pub shows-drops : (file : ℕ) (watches : List Watch) (f : FileView) (t : Table) → Shows file f t → Shows file f (perform_all (map waits_no_more watches) t)
shows-drops file watches f t s =
    let after = after_drops watches t in
    let now : Shows file f (record t { waiters = after.waiters }) = record { opens = s.opens; leases = s.leases } in
    subst (Shows file f) (sym after.same) now

pub shows-range : (file : ℕ) (range : RangeRow) (f : FileView) (t : Table) → Shows file f t → Shows file f (perform (c.AddRange range) t)
shows-range file range f t s = record { opens = s.opens; leases = s.leases }
