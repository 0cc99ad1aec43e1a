-- What is left of files and leases along changes after which opens go only whose owner lives no longer.
use Rattle.std.proofs.Common.{◌≡◌, ℕ, Bool, true, false, cond, not, ◌==◌, ◌&&◌, ◌||◌, List, [], ◌∷◌, map, filter, Option, Some, None, refl, sym, ap, ◌∙◌, subst, inl, inr}
use Rattle.std.specs.List.{list_any, AllByRecursion}
use Rattle.std.specs.Option.{option_map_or}
use Rattle.std.proofs.lemmas.Bool.{and_parts, and_from, or_parts, both_ways, cond_both, eqb-true, false_from_ne_true, not_from_false, true_from_ne_false, not-false, not-true}
use Rattle.std.proofs.Math.Bool.{and-false, and-true}
use Rattle.sid_core.specs.declared.ids.Sid.{Sid}
use Rattle.sid_core.specs.declared.ids.OpenId.{OpenId}
use Rattle.sid_core.specs.declared.ids.LeaseName.{LeaseName}
use Rattle.sid_core.specs.declared.ids.Moment.{Moment}
use Rattle.sid_core.specs.Ids.{same_id, same_sid, same_name}
use Rattle.sid_core.specs.Values.{has, is_state, is_part_of}
use Rattle.serial_table.specs.declared.rows.OpenRow.{OpenRow}
use Rattle.serial_table.specs.declared.rows.LeaseRow.{LeaseRow}
use Rattle.serial_table.specs.declared.rows.Breaking.{Breaking}
use Rattle.serial_table.specs.declared.rows.RangeRow.{RangeRow}
use Rattle.serial_table.specs.declared.table.Table.{Table}
use Rattle.serial_table.specs.declared.change.Change.{Change}
use Rattle.serial_table.specs.declared.change.Change.TheVariants as c
use Rattle.serial_table.specs.View.{View, view, lives, is_of_file, is_range_of, has_name, leases_at}
use Rattle.serial_table.specs.File.{FileView, file_view, file_open, is_under}
use Rattle.serial_table.specs.Settle.{settle_where, settle_by_key, broken_to_needed, settled_lease, keeps_open, keeps_range, row_stays, range_stays, lease_stays, lease_settles, pending_stays, keeps_pending}
use Rattle.serial_table.specs.Expire.{needed_of, expires, then_settles}
use Rattle.serial_table.specs.Change.{perform, perform_all, is_open, is_other_open, is_other_range, outlives, range_outlives, is_lease, set_lease}
use Rattle.serial_table.specs.Sound.{IsConsistent, IsSound, AllFit, Fits, have_same_id, have_same_name, has_its_open, states_agree, breaks_well}
use Rattle.serial_table.proofs.SameIds.{same_id-eq, same_name-flip, eqb-flip}
use Rattle.serial_table.proofs.Names.{same_sid-eq}
use Rattle.serial_table.proofs.Views.{name-settled_lease, file-settled_lease, view-perform}
use Rattle.serial_table.proofs.Filters.{filter-filter, any_filtered}
use Rattle.serial_table.proofs.Living.{lives-end_session, lives-begin_session}
use Rattle.serial_table.proofs.Consistent.{consistent-perform}
use Rattle.serial_table.proofs.Members.{IsIn, each, any_of, one_of, any_none, in_filter, passes_in, in_map, one_in}
use Rattle.table_laws.proofs.Lists.{all_joined, filter_each, filter_every, filter_twice, any_mapped, same_test}
use Rattle.table_laws.proofs.Handles.{each_three, if_so}
use Rattle.table_laws.proofs.Lessened.{LessFile, same_pending}

-- ---- ranges go with their opens

range_by : (stays : OpenRow → Bool) (range : Bool) (os : List OpenRow) (r : RangeRow) → ((o : OpenRow) → IsIn o os → same_id o.id r.id ≡ true → range ≡ stays o) → list_any (λ o. same_id o.id r.id) os ≡ true
    → range ≡ list_any (λ o. same_id o.id r.id) (filter stays os)
range_by stays range os r h any =
    same_test range (list_any (λ o. same_id o.id r.id) (filter stays os))
    (λ e. let o = one_of (λ o. same_id o.id r.id) os any in any_of (λ o. same_id o.id r.id) (filter stays os) o.0 (passes_in stays os o.0 o.1 (sym (h o.0 o.1 o.2) ∙ e)) o.2)
    (λ e. let o = one_of (λ o. same_id o.id r.id) (filter stays os) e in let k = in_filter stays os o.0 o.1 in h o.0 k.0 o.2 ∙ k.1)

-- where ids differ, no open that goes has the range's id exactly where its own open stays
kept_by_own : (stays : OpenRow → Bool) (t : Table) → IsConsistent t → (file : ℕ) (r : RangeRow) (o : OpenRow) → IsIn o ((view t).opens_of file) → same_id o.id r.id ≡ true
    → not (list_any (λ x. same_id x.id r.id && not (stays x)) ((view t).opens_of file)) ≡ stays o
kept_by_own stays t k file r o i e =
    let test : OpenRow → Bool = λ x. same_id x.id r.id && not (stays x) in
    same_test (not (list_any test ((view t).opens_of file))) (stays o)
    (λ h. true_from_ne_false (stays o) (λ f. both_ways (list_any test ((view t).opens_of file)) (not-true (list_any test ((view t).opens_of file)) h)
    (any_of test ((view t).opens_of file) o i (and_from (same_id o.id r.id) (not (stays o)) e (not_from_false (stays o) f)))))
    (λ h. not_from_false (list_any test ((view t).opens_of file)) (any_none test ((view t).opens_of file) (λ x j. other h x j (same_id x.id r.id) refl)))
  where
    id_flip : (p q : OpenId) → same_id p q ≡ same_id q p
    id_flip p q = λ m. eqb-flip p.pid q.pid m && eqb-flip p.call q.call m

    other : stays o ≡ true → (x : OpenRow) → IsIn x ((view t).opens_of file) → (b : Bool) → same_id x.id r.id ≡ b → (b && not (stays x)) ≡ false
    other h x j false f = refl
    other h x j true f =
        let same : x ≡ o = one_in have_same_id (λ p q. id_flip p.id q.id) t.opens k.ids_differ x o (in_filter (is_of_file file) t.opens x j).0 (in_filter (is_of_file file) t.opens o i).0
        (ap (λ n. same_id x.id n) (same_id-eq o.id r.id e) ∙ f) in
        ap (λ b. not b) (ap stays same ∙ h)

-- the open of a range of the file
opened : (t : Table) → IsConsistent t → (file : ℕ) (r : RangeRow) → IsIn r ((view t).ranges_of file) → list_any (λ o. same_id o.id r.id) ((view t).opens_of file) ≡ true
opened t k file r i =
    let h = in_filter (is_range_of file) t.ranges r i in
    let o = one_of (λ o. (o.file == r.file) && same_id o.id r.id) t.opens (each (has_its_open t.opens) t.ranges k.ranges_have_opens r h.0) in
    let p = and_parts (o.0.file == r.file) (same_id o.0.id r.id) o.2 in
    any_of (λ x. same_id x.id r.id) ((view t).opens_of file) o.0 (passes_in (is_of_file file) t.opens o.0 o.1 (ap (λ f. o.0.file == f) (sym (eqb-true r.file file h.1)) ∙ p.0)) p.1

-- ---- one file

-- what stays of a file: opens go only whose owner isn't among the living, with their ranges
pub record ThinFile (alive : Sid → Bool) (file : ℕ) (v w : View) : Type 0 where
  pub stays : OpenRow → Bool
  pub opens : w.opens_of file ≡ filter stays (v.opens_of file)
  pub gone : (o : OpenRow) → IsIn o (v.opens_of file) → stays o ≡ false → alive o.owner ≡ false
  pub ranges : w.ranges_of file ≡ filter (λ r. list_any (λ o. same_id o.id r.id) (w.opens_of file)) (v.ranges_of file)
  -- while the file has opens
  pub pending : (w.is_pending file && list_any (λ o. true) (w.opens_of file)) ≡ (v.is_pending file && list_any (λ o. true) (w.opens_of file))

less_pending : (p q before now : Bool) → (now ≡ true → before ≡ true) → (p && before) ≡ (q && before) → (p && now) ≡ (q && now)
less_pending p q before true h e = ap (λ b. p && b) (sym (h refl)) ∙ e ∙ ap (λ b. q && b) (h refl)
less_pending p q before false h e = and-false p ∙ sym (and-false q)

within : (b c : Bool) → (b ≡ true → c ≡ true) → (c && b) ≡ b
within true c h = ap (λ x. x && true) (h refl)
within false c h = and-false c

module _ (alive : Sid → Bool) (file : ℕ) where
  thin_then : (a b d : View) → ThinFile alive file a b → ThinFile alive file b d → ThinFile alive file a d
  thin_then a b d x y =
      let in_b : RangeRow → Bool = λ r. list_any (λ o. same_id o.id r.id) (b.opens_of file) in
      let in_d : RangeRow → Bool = λ r. list_any (λ o. same_id o.id r.id) (d.opens_of file) in
      record {
        stays = λ o. x.stays o && y.stays o;
        opens = y.opens ∙ ap (filter y.stays) x.opens ∙ filter_twice x.stays y.stays (a.opens_of file);
        gone = λ o i e. by o i (x.stays o) refl (y.stays o) refl e;
        ranges = y.ranges ∙ ap (filter in_d) x.ranges ∙ filter_twice in_b in_d (a.ranges_of file)
            ∙ filter_each (λ r. in_b r && in_d r) in_d (a.ranges_of file) (λ r i. within (in_d r) (in_b r) (λ e.
            let o = one_of (λ o. same_id o.id r.id) (d.opens_of file) e in any_of (λ o. same_id o.id r.id) (b.opens_of file) o.0 (there o.0 o.1) o.2));
        pending = y.pending ∙ less_pending (b.is_pending file) (a.is_pending file) (list_any (λ o. true) (b.opens_of file)) (list_any (λ o. true) (d.opens_of file))
            (λ e. let o = one_of (λ o. true) (d.opens_of file) e in any_of (λ o. true) (b.opens_of file) o.0 (there o.0 o.1) refl) x.pending;
      }
    where
      there : (o : OpenRow) → IsIn o (d.opens_of file) → IsIn o (b.opens_of file)
      there o i = (in_filter y.stays (b.opens_of file) o (subst (IsIn o) y.opens i)).0

      by : (o : OpenRow) → IsIn o (a.opens_of file) → (p : Bool) → x.stays o ≡ p → (q : Bool) → y.stays o ≡ q → (p && q) ≡ false → alive o.owner ≡ false
      by o i false e q f h = x.gone o i e
      by o i true e false f h = y.gone o (subst (IsIn o) (sym x.opens) (passes_in x.stays (a.opens_of file) o i e)) f
      by o i true e true f h = absurd cc

  -- the same opens, ranges and files that are to go
  thin_same : (t u : Table) → IsConsistent t → u.opens ≡ t.opens → u.ranges ≡ t.ranges → u.pending ≡ t.pending → ThinFile alive file (view t) (view u)
  thin_same t u k opens ranges pending =
      let any = λ (r : RangeRow) (os : List OpenRow). list_any (λ o. same_id o.id r.id) os in
      let same : (view u).opens_of file ≡ (view t).opens_of file = ap (filter (is_of_file file)) opens in
      record {
        stays = λ o. true;
        opens = same ∙ sym (filter_every (λ o. true) ((view t).opens_of file) (λ o i. refl));
        gone = λ o i e. absurd cc;
        ranges = ap (filter (is_range_of file)) ranges ∙ sym (filter_every (λ r. any r ((view u).opens_of file)) ((view t).ranges_of file) (λ r i. ap (any r) same ∙ opened t k file r i));
        pending = ap (λ files. list_any (λ pending. pending == file) files && list_any (λ o. true) ((view u).opens_of file)) pending;
      }

  -- opens that stay by a test, and their ranges
  thin_by : (t u : Table) → IsConsistent t → (stays : OpenRow → Bool) (range : RangeRow → Bool) → (view u).opens_of file ≡ filter stays ((view t).opens_of file)
      → (view u).ranges_of file ≡ filter range ((view t).ranges_of file)
      → ((o : OpenRow) → IsIn o ((view t).opens_of file) → stays o ≡ false → alive o.owner ≡ false)
      → ((r : RangeRow) → IsIn r ((view t).ranges_of file) → (o : OpenRow) → IsIn o ((view t).opens_of file) → same_id o.id r.id ≡ true → range r ≡ stays o)
      → ((view u).is_pending file && list_any (λ o. true) ((view u).opens_of file)) ≡ ((view t).is_pending file && list_any (λ o. true) ((view u).opens_of file))
      → ThinFile alive file (view t) (view u)
  thin_by t u k stays range opens ranges gone own pending = record {
    stays = stays;
    opens = opens;
    gone = gone;
    ranges = ranges
        ∙ filter_each range (λ r. list_any (λ o. same_id o.id r.id) ((view u).opens_of file)) ((view t).ranges_of file)
        (λ r i. range_by stays (range r) ((view t).opens_of file) r (own r i) (opened t k file r i) ∙ ap (list_any (λ (o : OpenRow). same_id o.id r.id)) (sym opens));
    pending = pending;
  }

  -- ---- a session ends

  ended : (t : Table) (sid : Sid) (moment : Moment) → IsConsistent t → alive sid ≡ false → ThinFile alive file (view t) (view (perform (c.EndSession sid moment) t))
  ended t sid moment k dead =
      thin_by t (perform (c.EndSession sid moment) t) k (outlives sid) (range_outlives (view t) sid)
      (filter-filter (is_of_file file) (outlives sid) t.opens) (filter-filter (is_range_of file) (range_outlives (view t) sid) t.ranges)
      (λ o i e. ap alive (same_sid-eq o.owner sid (not-false (same_sid o.owner sid) (or_parts (not (same_sid o.owner sid)) (not (o.durable == 0)) e).0)) ∙ dead)
      (λ r i o j e. ap (λ f. not (list_any (λ x. same_id x.id r.id && not (outlives sid x)) ((view t).opens_of f))) (eqb-true r.file file (in_filter (is_range_of file) t.ranges r i).1) ∙ kept_by_own (outlives sid) t k file r o j e)
      refl

  -- ---- one open goes

  dropped : (t : Table) (f : ℕ) (id : OpenId) → IsConsistent t → ((o : OpenRow) → IsIn o t.opens → is_open f id o ≡ true → alive o.owner ≡ false) → ThinFile alive file (view t) (view (perform (c.DropOpen f id) t))
  dropped t f id k dead =
      thin_by t (perform (c.DropOpen f id) t) k (is_other_open f id) (is_other_range f id)
      (filter-filter (is_of_file file) (is_other_open f id) t.opens) (filter-filter (is_range_of file) (is_other_range f id) t.ranges)
      (λ o i e. dead o (in_filter (is_of_file file) t.opens o i).0 (not-false (is_open f id o) e))
      (λ r i o j e. λ m. not (((eqb-true r.file file (in_filter (is_range_of file) t.ranges r i).1 ∙ sym (eqb-true o.file file (in_filter (is_of_file file) t.opens o j).1)) m == f) && same_id (sym (same_id-eq o.id r.id e) m) id))
      refl

  -- ---- a table settles

  abbrev stays_there : Table → OpenRow → Bool
  stays_there t o = keeps_open (file_view file (view t)) (file_open (lives (view t)) o)

  settled : (t : Table) → IsConsistent t → ((o : OpenRow) → IsIn o t.opens → lives (view t) o.owner ≡ false → alive o.owner ≡ false) → ThinFile alive file (view t) (view (perform c.Settle t))
  unfolding settle_where settle_by_key
  settled t k quiet =
      let v = view t in
      let u = perform c.Settle t in
      let f = file_view file v in
      let opens : (view u).opens_of file ≡ filter (stays_there t) (v.opens_of file) =
      filter-filter (is_of_file file) (row_stays (λ g. true) v) t.opens
      ∙ filter_each (row_stays (λ g. true) v) (stays_there t) (v.opens_of file) (λ o i. ap (λ g. keeps_open (file_view g v) (file_open (lives v) o)) (eqb-true o.file file (in_filter (is_of_file file) t.opens o i).1)) in
      thin_by t u k (stays_there t) (keeps_range f) opens
      (filter-filter (is_range_of file) (range_stays (λ g. true) v) t.ranges
      ∙ filter_each (range_stays (λ g. true) v) (keeps_range f) (v.ranges_of file) (λ r i. ap (λ g. keeps_range (file_view g v) r) (eqb-true r.file file (in_filter (is_range_of file) t.ranges r i).1)))
      (λ o i e. quiet o (in_filter (is_of_file file) t.opens o i).0 (or_parts (lives v o.owner) _ e).0)
      (λ r i o j e. ap not (any_mapped (λ x. same_id x.row.id r.id && not (keeps_open f x)) (file_open (lives v)) (v.opens_of file)) ∙ kept_by_own (stays_there t) t k file r o j e)
      (pending u opens)
    where
      twice : (p q : Bool) → ((p && q) && q) ≡ (p && q)
      twice p true = and-true (p && true)
      twice p false = and-false (p && false) ∙ sym (and-false p)

      pending : (u : Table) → (view u).opens_of file ≡ filter (stays_there t) ((view t).opens_of file)
          → (list_any (λ pending. pending == file) (filter (pending_stays (λ g. true) (view t)) t.pending) && list_any (λ o. true) ((view u).opens_of file))
          ≡ ((view t).is_pending file && list_any (λ o. true) ((view u).opens_of file))
      pending u opens =
          let q = keeps_pending (file_view file (view t)) in
          let any : list_any (λ o. true) ((view u).opens_of file) ≡ q =
          ap (list_any (λ (o : OpenRow). true)) opens ∙ any_filtered (stays_there t) ((view t).opens_of file) ∙ sym (any_mapped (keeps_open (file_view file (view t))) (file_open (lives (view t))) ((view t).opens_of file)) in
          ap (λ b. b && list_any (λ o. true) ((view u).opens_of file)) (ap (λ (w : View). w.is_pending file) (view-perform c.Settle t))
          ∙ ap (λ b. ((view t).is_pending file && q) && b) any ∙ twice ((view t).is_pending file) q ∙ ap (λ b. (view t).is_pending file && b) (sym any)

-- ---- leases

-- a lease of the name and file was there before, with HANDLE where this one has it
pub record IsHigher (t : Table) (l : LeaseRow) : Type 0 where
  pub row : LeaseRow
  pub there : IsIn row t.leases
  pub name : row.name ≡ l.name
  pub file : row.file ≡ l.file
  pub handle : has l.held.0 2 ≡ true → has row.held.0 2 ≡ true

-- what is needed has HANDLE only where what is held has it
pub needs_less : (held : ℕ) (b : Breaking) → states_agree held (Some b) ≡ true → has b.needed.0 2 ≡ true → has held 2 ≡ true
needs_less held b agree e =
    let rest = and_parts (is_state held) (breaks_well held (Some b)) agree in
    let asked = and_parts (is_state b.asked.0) _ rest.1 in
    let needed = and_parts (is_state b.needed.0) _ asked.1 in
    let part = and_parts (is_part_of b.needed.0 b.asked.0) _ needed.1 in
    let whole = and_parts (is_part_of b.asked.0 held) _ part.1 in
    if_so (is_part_of b.needed.0 b.asked.0 && (is_part_of b.asked.0 held && has b.needed.0 2)) (has held 2)
    (each_three (λ n a h. not (is_part_of n a && (is_part_of a h && has n 2)) || has h 2) refl b.needed.0 b.asked.0 held needed.0 asked.0 rest.0)
    (and_from _ _ part.0 (and_from _ _ whole.0 e))

settles_lower : (f : FileView) (l : LeaseRow) → states_agree l.held.0 l.breaking ≡ true → has (settled_lease f l).held.0 2 ≡ true → has l.held.0 2 ≡ true
settles_lower f l agree =
    cond_both (list_any (λ o. is_under l.name o && o.connected) f.opens) l (broken_to_needed l l.breaking) (λ (x : LeaseRow). has x.held.0 2 ≡ true → has l.held.0 2 ≡ true)
    (λ _ e. e) (λ _. broken l.breaking agree)
  where
    broken : (b : Option Breaking) → states_agree l.held.0 b ≡ true → has (broken_to_needed l b).held.0 2 ≡ true → has l.held.0 2 ≡ true
    broken None a e = e
    broken (Some b) a e = needs_less l.held.0 b a e

higher_then : (t u : Table) (l : LeaseRow) → ((x : LeaseRow) → IsIn x t.leases → IsHigher u x) → IsHigher t l → IsHigher u l
higher_then t u l f h =
    let g = f h.row h.there in
    record { row = g.row; there = g.there; name = g.name ∙ h.name; file = g.file ∙ h.file; handle = λ e. g.handle (h.handle e) }

-- ---- one change

-- a session that ends, or an open that goes, isn't among the living; a lease that is set gains no HANDLE
abbrev pub Thins : (Sid → Bool) → Table → Change → Type 0
Thins alive t (c.EndSession sid moment) = alive sid ≡ false
Thins alive t (c.DropOpen file id) = (o : OpenRow) → IsIn o t.opens → is_open file id o ≡ true → alive o.owner ≡ false
Thins alive t (c.SetLease file name held breaking) = (l : LeaseRow) → IsIn l t.leases → is_lease file name l ≡ true → has held.0 2 ≡ true → has l.held.0 2 ≡ true
Thins alive t (c.NextSession sid moment) = Unit {0}
Thins alive t (c.DropWaiter sid call) = Unit {0}
Thins alive t (c.Send post) = Unit {0}
Thins alive t c.Settle = Unit {0}
Thins alive t _ = ⊥

-- what is left of a table
pub record IsThinned (alive : Sid → Bool) (t u : Table) : Type 0 where
  pub files : (file : ℕ) → ThinFile alive file (view t) (view u)
  pub before : (o : OpenRow) → IsIn o u.opens → IsIn o t.opens
  -- who owns an open and lives no longer isn't among the living
  pub quiet : (o : OpenRow) → IsIn o u.opens → lives (view u) o.owner ≡ false → alive o.owner ≡ false
  pub leases : (l : LeaseRow) → IsIn l u.leases → IsHigher t l

itself : (t : Table) (l : LeaseRow) → IsIn l t.leases → IsHigher t l
itself t l i = record { row = l; there = i; name = refl; file = refl; handle = λ e. e }

module _ (alive : Sid → Bool) (t : Table) where
  same_rows : (u x : Table) → IsConsistent u → x.opens ≡ u.opens → x.ranges ≡ u.ranges → x.pending ≡ u.pending → x.leases ≡ u.leases
      → ((o : OpenRow) → IsIn o u.opens → lives (view x) o.owner ≡ false → lives (view u) o.owner ≡ false) → IsThinned alive t u → IsThinned alive t x
  same_rows u x k opens ranges pending leases living h = record {
    files = λ file. thin_then alive file (view t) (view u) (view x) (h.files file) (thin_same alive file u x k opens ranges pending);
    before = λ o i. h.before o (subst (IsIn o) opens i);
    quiet = λ o i e. let j = subst (IsIn o) opens i in h.quiet o j (living o j e);
    leases = λ l i. h.leases l (subst (IsIn l) leases i);
  }

  still_dead : (a b : Bool) → (a ≡ true → b ≡ true) → b ≡ false → a ≡ false
  still_dead a b f e = false_from_ne_true a (λ h. both_ways b e (f h))

  thins : (change : Change) (u : Table) → IsConsistent u → Fits change u → Thins alive t change → IsThinned alive t u → IsThinned alive t (perform change u)
  unfolding settle_where set_lease
  thins (c.EndSession sid moment) u k fit dead h = record {
    files = λ file. thin_then alive file (view t) (view u) (view (perform (c.EndSession sid moment) u)) (h.files file) (ended alive file u sid moment k dead);
    before = λ o i. h.before o (in_filter (outlives sid) u.opens o i).0;
    quiet = λ o i e. by o (in_filter (outlives sid) u.opens o i).0 e (same_sid o.owner sid) refl;
    leases = h.leases;
  }
    where
      by : (o : OpenRow) → IsIn o u.opens → lives (view (perform (c.EndSession sid moment) u)) o.owner ≡ false → (b : Bool) → same_sid o.owner sid ≡ b → alive o.owner ≡ false
      by o i e true s = ap alive (same_sid-eq o.owner sid s) ∙ dead
      by o i e false s = h.quiet o i (still_dead (lives (view u) o.owner) (lives (view (perform (c.EndSession sid moment) u)) o.owner) (lives-end_session u.workers sid o.owner s) e)
  thins (c.DropOpen file id) u k fit dead h = record {
    files = λ g. thin_then alive g (view t) (view u) (view (perform (c.DropOpen file id) u)) (h.files g) (dropped alive g u file id k (λ o i e. dead o (h.before o i) e));
    before = λ o i. h.before o (in_filter (is_other_open file id) u.opens o i).0;
    quiet = λ o i e. h.quiet o (in_filter (is_other_open file id) u.opens o i).0 e;
    leases = h.leases;
  }
  thins (c.SetLease file name held breaking) u k fit low h = record {
    files = λ g. thin_then alive g (view t) (view u) (view (perform (c.SetLease file name held breaking) u)) (h.files g) (thin_same alive g u (perform (c.SetLease file name held breaking) u) k refl refl refl);
    before = h.before;
    quiet = h.quiet;
    leases = λ l i. let m = in_map (set_lease file name held breaking) u.leases l i in subst (IsHigher t) m.2 (set m.0 m.1);
  }
    where
      set : (x : LeaseRow) → IsIn x u.leases → IsHigher t (cond (is_lease file name x) (record x { held = held; breaking = breaking }) x)
      set x i =
          let g = h.leases x i in
          cond_both (is_lease file name x) (record x { held = held; breaking = breaking }) x (IsHigher t)
          (λ e. record { row = g.row; there = g.there; name = g.name; file = g.file; handle = λ hand. low g.row g.there ((λ m. (g.file m == file) && same_name (g.name m) name) ∙ e) hand })
          (λ _. g)
  thins (c.NextSession sid moment) u k fit a h =
      same_rows u (perform (c.NextSession sid moment) u) k refl refl refl refl
      (λ o i e. still_dead (lives (view u) o.owner) (lives (view (perform (c.NextSession sid moment) u)) o.owner) (lives-begin_session u.workers sid moment o.owner fit) e) h
  thins (c.DropWaiter sid call) u k fit a h = same_rows u (perform (c.DropWaiter sid call) u) k refl refl refl refl (λ o i e. e) h
  thins (c.Send post) u k fit a h = same_rows u (perform (c.Send post) u) k refl refl refl refl (λ o i e. e) h
  thins c.Settle u k fit a h = record {
    files = λ file. thin_then alive file (view t) (view u) (view (perform c.Settle u)) (h.files file) (settled alive file u k h.quiet);
    before = λ o i. h.before o (in_filter (row_stays (λ g. true) (view u)) u.opens o i).0;
    quiet = λ o i e. h.quiet o (in_filter (row_stays (λ g. true) (view u)) u.opens o i).0 e;
    leases = λ l i.
        let m = in_map (lease_settles (λ g. true) (view u)) u.leases l (in_filter (lease_stays (λ g. true) (view u)) (map (lease_settles (λ g. true) (view u)) u.leases) l i).0 in
        higher_then u t l h.leases (subst (IsHigher u) m.2 (record {
          row = m.0;
          there = m.1;
          name = sym (name-settled_lease (file_view m.0.file (view u)) m.0);
          file = sym (file-settled_lease (file_view m.0.file (view u)) m.0);
          handle = settles_lower (file_view m.0.file (view u)) m.0 (each (λ (x : LeaseRow). states_agree x.held.0 x.breaking) u.leases k.leases_agree m.0 m.1);
        }));
  }
  thins (c.AddOpen row) u k fit a h = absurd a
  thins (c.TakeOver file id owner handle) u k fit a h = absurd a
  thins (c.AddLease lease) u k fit a h = absurd a
  thins (c.Acknowledge file name state) u k fit a h = absurd a
  thins (c.AddRange range) u k fit a h = absurd a
  thins (c.DropRange range) u k fit a h = absurd a
  thins (c.AddPending file) u k fit a h = absurd a
  thins (c.DropPending file) u k fit a h = absurd a
  thins (c.AddHold hold) u k fit a h = absurd a
  thins (c.SetHold key owner mode) u k fit a h = absurd a
  thins (c.DropHold key owner) u k fit a h = absurd a
  thins (c.AddWaiter x) u k fit a h = absurd a
  thins (c.TakeLetter to) u k fit a h = absurd a

  all_thin : (cs : List Change) (u : Table) → IsConsistent u → AllFit cs u → AllByRecursion (Thins alive t) cs → IsThinned alive t u → IsThinned alive t (perform_all cs u)
  all_thin [] u k fit a h = h
  all_thin (change ∷ cs) u k fit a h = all_thin cs (perform change u) (consistent-perform change u k fit.0) fit.1 a.1 (thins change u k fit.0 a.0 h)

  -- Such changes leave no more than that.
  pub thinned : (cs : List Change) → IsConsistent t → AllFit cs t → AllByRecursion (Thins alive t) cs → ((o : OpenRow) → IsIn o t.opens → lives (view t) o.owner ≡ false → alive o.owner ≡ false) → IsThinned alive t (perform_all cs t)
  thinned cs k fit a quiet = all_thin cs t k fit a (record {
    files = λ file. thin_same alive file t t k refl refl refl;
    before = λ o i. i;
    quiet = quiet;
    leases = itself t;
  })

-- ---- leases that expire

module _ (alive : Sid → Bool) (t : Table) (k : IsConsistent t) where
  -- what is needed of a lease has HANDLE only where what is held has it
  one_expires : (l : LeaseRow) → IsIn l t.leases → Thins alive t (expires l)
  one_expires l i x j e h =
      let same : x ≡ l = one_in have_same_name (λ a b. same_name-flip a.name b.name) t.leases k.leases_differ x l j i (and_parts (x.file == l.file) _ e).1 in
      subst (λ (y : LeaseRow). has y.held.0 2 ≡ true) (sym same) (needed l.breaking refl (each (λ (y : LeaseRow). states_agree y.held.0 y.breaking) t.leases k.leases_agree l i) h)
    where
      needed : (o : Option Breaking) → l.breaking ≡ o → states_agree l.held.0 l.breaking ≡ true → has (needed_of l).0 2 ≡ true → has l.held.0 2 ≡ true
      needed None e a h = ap (λ o. has (option_map_or (λ (b : Breaking). b.needed) o l.held).0 2) (sym e) ∙ h
      needed (Some x) e a h = needs_less l.held.0 x (ap (states_agree l.held.0) (sym e) ∙ a) (ap (λ o. has (option_map_or (λ (b : Breaking). b.needed) o l.held).0 2) (sym e) ∙ h)

  all_expire : (rows : List LeaseRow) → ((l : LeaseRow) → IsIn l rows → IsIn l t.leases) → AllByRecursion (Thins alive t) (map expires rows)
  all_expire [] h = tt
  all_expire (l ∷ rows) h = (one_expires l (h l (inl refl)), all_expire rows (λ x i. h x (inr i)))

  then_thin : (cs : List Change) → AllByRecursion (Thins alive t) cs → AllByRecursion (Thins alive t) (then_settles cs)
  then_thin [] a = tt
  then_thin (change ∷ cs) a = all_joined (Thins alive t) (change ∷ cs) (c.Settle ∷ []) a (tt, tt)

  pub expiry_thin : (rows : List LeaseRow) → ((l : LeaseRow) → IsIn l rows → IsIn l t.leases) → AllByRecursion (Thins alive t) (then_settles (map expires rows))
  expiry_thin rows there = then_thin (map expires rows) (all_expire rows there)

-- ---- as what is less of a table

module _ (t u : Table) (sound : IsSound u) (h : IsThinned (lives (view u)) t u) where
  pub less_file : (file : ℕ) → LessFile file (view t) (view u)
  less_file file =
      let f = h.files file in
      record {
        stays = f.stays;
        opens = f.opens;
        gone = f.gone;
        ranges = f.ranges;
        pending = same_pending_of file ∙ f.pending;
      }
    where
      same_pending_of : (file : ℕ) → (view u).is_pending file ≡ ((view u).is_pending file && list_any (λ o. true) ((view u).opens_of file))
      same_pending_of file = same_pending u sound file ((view u).is_pending file) refl

  pub less_handles : (file : ℕ) (name : LeaseName) (l : LeaseRow) → IsIn l (leases_at (view u) name file) → has l.held.0 2 ≡ true
      → (old : LeaseRow) × IsIn old (leases_at (view t) name file) × (has old.held.0 2 ≡ true)
  less_handles file name l i e =
      let of = in_filter (λ (x : LeaseRow). x.file == file) ((view u).leases_of name) l i in
      let named = in_filter (has_name name) u.leases l of.0 in
      let g = h.leases l named.0 in (
        g.row,
        passes_in (λ (x : LeaseRow). x.file == file) ((view t).leases_of name) g.row
            (passes_in (has_name name) t.leases g.row g.there (ap (λ n. same_name n name) g.name ∙ named.1)) (ap (λ f. f == file) g.file ∙ of.1),
        g.handle e,
      )
