-- Records that agree with a table show of each file what the table shows.
use Rattle.std.proofs.Common.{◌≡◌, ℕ, zero, suc, ◌≤◌, Bool, true, false, cond, ◌&&◌, ◌||◌, eqb, List, [], ◌∷◌, length, map, filter, Option, Some, None, refl, sym, ap, ap₂, subst, ◌∙◌, arith, inl, inr}
use Rattle.std.specs.Prelude.{slice_get}
use Rattle.std.specs.List.{list_any, IsDistinct}
use Rattle.std.specs.Option.{option_map, option_map_or, option_and_then}
use Rattle.std.proofs.lemmas.Bool.{eqb-true, and_parts, and_from, both_ways}
use Rattle.std.proofs.Math.Bool.{and-false}
use Rattle.sid_core.specs.declared.ids.Sid.{Sid}
use Rattle.sid_core.specs.declared.ids.LeaseName.{LeaseName}
use Rattle.sid_core.specs.declared.ids.Spot.{Spot}
use Rattle.sid_core.specs.declared.ids.Spot.TheVariants.{OpenOf, RangesOf, LockOf}
use Rattle.sid_core.specs.declared.setup.Setup.{Setup}
use Rattle.sid_core.specs.declared.setup.FileInfo.{FileInfo}
use Rattle.sid_core.specs.Ids.{same_name, same_spot}
use Rattle.sid_core.specs.Setup.{IsDeclared}
use Rattle.serial_table.specs.declared.rows.OpenRow.{OpenRow}
use Rattle.serial_table.specs.declared.rows.LeaseRow.{LeaseRow}
use Rattle.serial_table.specs.declared.rows.Breaking.{Breaking}
use Rattle.serial_table.specs.declared.rows.RangeRow.{RangeRow}
use Rattle.serial_table.specs.declared.rows.WorkerRow.{WorkerRow}
use Rattle.serial_table.specs.declared.table.Table.{Table}
use Rattle.serial_table.specs.ByNumber.{declared_at}
use Rattle.serial_table.specs.View as table
use Rattle.serial_table.specs.View.{View, view, is_of_file, is_range_of, has_name, names_file, waits_on, watch_on, carries, leases_at}
use Rattle.serial_table.specs.File.{file_open, file_view}
use Rattle.serial_table.specs.Sound.{IsSound, have_same_name, has_open, is_open_under, is_opened}
use Rattle.serial_table.specs.InSets.{IsInSets, IsOpenRow, IsRangeRow, IsWaiterRow, IsSpot}
use Rattle.serial_table.proofs.Members.{IsIn, each, any_of, one_of, all_of, in_filter, passes_in, mapped_in, distinct_filtered}
use Rattle.record_codec.specs.declared.share_rec.ShareEntry.{ShareEntry}
use Rattle.record_codec.specs.declared.share_rec.ShareRec.{ShareRec}
use Rattle.record_codec.specs.declared.lease_rec.LeaseRef.{LeaseRef}
use Rattle.record_codec.specs.declared.lease_rec.LeaseRec.{LeaseRec}
use Rattle.record_codec.specs.declared.register_rec.RegisterRec.{RegisterRec}
use Rattle.record_codec.specs.declared.range_rec.RangeRec.{RangeRec}
use Rattle.record_codec.specs.Counts.{Records, is_current, lives, entry_counts, pending_counts, range_counts, watch_counts, settled_lease}
use Rattle.stored_table.specs.Decoded.{AllRecords, deciding}
use Rattle.record_rows.specs.Rows.{entry_of, ref_of, item_of, watch_of, open_row, breaking_of, lease_row, range_row, watch_row}
use Rattle.stored_table.specs.Exact.{is_empty, unless_both_empty, share_of, ranges_of, lease_with, lease_record, opens_under, lease_of, register_record}
use Rattle.stored_table.specs.Shown.{part_of, valid_entries, valid_ranges, open_watches, range_watches, pending_shown, is_named, if_of_file, lease_shown, shown}
use Rattle.stored_table.specs.Stands.{AgreeWith, clean_share, clean_ranges, clean_register}

-- ---- lists in records

part_kept : {R A B : Type 0} (f : R → List A) (xs : List A) (ys : List B) (r : R) → f r ≡ xs → part_of f (unless_both_empty xs ys r) ≡ xs
part_kept f [] [] r e = refl
part_kept f [] (y ∷ ys) r e = e
part_kept f (x ∷ xs) ys r e = e

part_later : {R A B : Type 0} (f : R → List B) (xs : List A) (ys : List B) (r : R) → f r ≡ ys → part_of f (unless_both_empty xs ys r) ≡ ys
part_later f [] [] r e = refl
part_later f [] (y ∷ ys) r e = e
part_later f (x ∷ xs) ys r e = e

map_back : {A B : Type 0} (f : A → B) (g : B → A) (xs : List A) → ((x : A) → IsIn x xs → g (f x) ≡ x) → map g (map f xs) ≡ xs
map_back f g [] h = refl
map_back f g (x ∷ xs) h = ap₂ (λ (y : _) (ys : List _). y ∷ ys) (h x (inl refl)) (map_back f g xs (λ y i. h y (inr i)))

map_same : {A B : Type 0} (f g : A → B) (xs : List A) → ((x : A) → IsIn x xs → f x ≡ g x) → map f xs ≡ map g xs
map_same f g [] h = refl
map_same f g (x ∷ xs) h = ap₂ (λ (y : _) (ys : List _). y ∷ ys) (h x (inl refl)) (map_same f g xs (λ y i. h y (inr i)))

map_twice : {A B C : Type 0} (f : A → B) (g : B → C) (xs : List A) → map g (map f xs) ≡ map (λ x. g (f x)) xs
map_twice f g [] = refl
map_twice f g (x ∷ xs) = ap (λ ys. g (f x) ∷ ys) (map_twice f g xs)

pub none_in : {A : Type 0} (xs : List A) → ((x : A) → IsIn x xs → ⊥) → xs ≡ []
none_in [] h = refl
none_in (x ∷ xs) h = absurd (h x (inl refl))

-- ---- what isn't declared

get_none : {A : Type 0} (xs : List A) (i : ℕ) → slice_get xs i ≡ None → length xs ≤ i
get_none [] i e = omega arith
get_none (x ∷ xs) zero e = absurd cc
get_none (x ∷ xs) (suc i) e = omega (arith, get_none xs i e)

pub not_declared : {A : Type 0} (xs : List A) (number : ℕ) → declared_at xs number ≡ None → IsDeclared xs number → ⊥
not_declared xs zero e h = omega (arith, h.0)
not_declared xs (suc i) e h = omega (arith, get_none xs i e, h.1)

-- ---- the lists of cleaned records and of exact ones

entries_clean : (r : Records) (file : ℕ) (o : Option ShareRec) → part_of (λ x. x.entries) (option_and_then (clean_share r file) o) ≡ part_of (λ x. filter (entry_counts r file) x.entries) o
entries_clean r file None = refl
entries_clean r file (Some s) = part_kept (λ x. x.entries) (filter (entry_counts r file) s.entries) (filter (watch_counts r (OpenOf file)) s.watchers)
    (record s { pending = s.pending && pending_counts r file s; entries = filter (entry_counts r file) s.entries; watchers = filter (watch_counts r (OpenOf file)) s.watchers }) refl

open_watches_clean : (r : Records) (file : ℕ) (o : Option ShareRec) → part_of (λ x. x.watchers) (option_and_then (clean_share r file) o) ≡ part_of (λ x. filter (watch_counts r (OpenOf file)) x.watchers) o
open_watches_clean r file None = refl
open_watches_clean r file (Some s) = part_later (λ x. x.watchers) (filter (entry_counts r file) s.entries) (filter (watch_counts r (OpenOf file)) s.watchers)
    (record s { pending = s.pending && pending_counts r file s; entries = filter (entry_counts r file) s.entries; watchers = filter (watch_counts r (OpenOf file)) s.watchers }) refl

items_clean : (r : Records) (file : ℕ) (o : Option RangeRec) → part_of (λ x. x.ranges) (option_and_then (clean_ranges r file) o) ≡ part_of (λ x. filter (range_counts r file) x.ranges) o
items_clean r file None = refl
items_clean r file (Some s) = part_kept (λ x. x.ranges) (filter (range_counts r file) s.ranges) (filter (watch_counts r (RangesOf file)) s.watchers)
    (record s { ranges = filter (range_counts r file) s.ranges; watchers = filter (watch_counts r (RangesOf file)) s.watchers }) refl

range_watches_clean : (r : Records) (file : ℕ) (o : Option RangeRec) → part_of (λ x. x.watchers) (option_and_then (clean_ranges r file) o) ≡ part_of (λ x. filter (watch_counts r (RangesOf file)) x.watchers) o
range_watches_clean r file None = refl
range_watches_clean r file (Some s) = part_later (λ x. x.watchers) (filter (range_counts r file) s.ranges) (filter (watch_counts r (RangesOf file)) s.watchers)
    (record s { ranges = filter (range_counts r file) s.ranges; watchers = filter (watch_counts r (RangesOf file)) s.watchers }) refl

pub entries_exact : (v : View) (file : ℕ) (o : Option FileInfo) → (o ≡ None → v.opens_of file ≡ []) → part_of (λ x. x.entries) (option_and_then (share_of v file) o) ≡ map entry_of (v.opens_of file)
entries_exact v file None h = sym (ap (map entry_of) (h refl))
entries_exact v file (Some info) h = part_kept (λ x. x.entries) (map entry_of (v.opens_of file)) (map watch_of (v.watches_on (OpenOf file)))
    (record { file = file; path = info.path; name = info.name; pending = v.is_pending file; entries = map entry_of (v.opens_of file); watchers = map watch_of (v.watches_on (OpenOf file)) }) refl

open_watches_exact : (v : View) (file : ℕ) (o : Option FileInfo) → (o ≡ None → v.watches_on (OpenOf file) ≡ []) → part_of (λ x. x.watchers) (option_and_then (share_of v file) o) ≡ map watch_of (v.watches_on (OpenOf file))
open_watches_exact v file None h = sym (ap (map watch_of) (h refl))
open_watches_exact v file (Some info) h = part_later (λ x. x.watchers) (map entry_of (v.opens_of file)) (map watch_of (v.watches_on (OpenOf file)))
    (record { file = file; path = info.path; name = info.name; pending = v.is_pending file; entries = map entry_of (v.opens_of file); watchers = map watch_of (v.watches_on (OpenOf file)) }) refl

pub items_exact : (v : View) (file : ℕ) (o : Option FileInfo) → (o ≡ None → v.ranges_of file ≡ []) → part_of (λ x. x.ranges) (option_and_then (ranges_of v file) o) ≡ map item_of (v.ranges_of file)
items_exact v file None h = sym (ap (map item_of) (h refl))
items_exact v file (Some info) h = part_kept (λ x. x.ranges) (map item_of (v.ranges_of file)) (map watch_of (v.watches_on (RangesOf file)))
    (record { file = file; ranges = map item_of (v.ranges_of file); watchers = map watch_of (v.watches_on (RangesOf file)) }) refl

range_watches_exact : (v : View) (file : ℕ) (o : Option FileInfo) → (o ≡ None → v.watches_on (RangesOf file) ≡ []) → part_of (λ x. x.watchers) (option_and_then (ranges_of v file) o) ≡ map watch_of (v.watches_on (RangesOf file))
range_watches_exact v file None h = sym (ap (map watch_of) (h refl))
range_watches_exact v file (Some info) h = part_later (λ x. x.watchers) (map item_of (v.ranges_of file)) (map watch_of (v.watches_on (RangesOf file)))
    (record { file = file; ranges = map item_of (v.ranges_of file); watchers = map watch_of (v.watches_on (RangesOf file)) }) refl

-- ---- pending

abbrev says_pending : Option ShareRec → Bool
says_pending o = option_map_or (λ r. r.pending) o false

none_later : {A : Type 0} (x : A) (b : Bool) (xs ys : List A) (c : Bool) → (is_empty ys ≡ true → c ≡ false) → is_empty (cond b (x ∷ ys) ys) ≡ true → (b || c) ≡ false
none_later x true xs ys c h f = absurd cc
none_later x false xs ys c h f = h f

none_pass : {A : Type 0} (p : A → Bool) (xs : List A) → is_empty (filter p xs) ≡ true → list_any p xs ≡ false
none_pass p [] e = refl
none_pass p (x ∷ xs) e = none_later x (p x) xs (filter p xs) (list_any p xs) (none_pass p xs) e

pending_unless : (b p c : Bool) (r : ShareRec) → r.pending ≡ (p && c) → (b ≡ true → c ≡ false) → says_pending (cond b None (Some r)) ≡ (p && c)
pending_unless true p c r e h = sym (ap (λ x. p && x) (h refl) ∙ and-false p)
pending_unless false p c r e h = e

pending_clean : (r : Records) (file : ℕ) (o : Option ShareRec) → says_pending (option_and_then (clean_share r file) o) ≡ option_map_or (λ x. x.pending && pending_counts r file x) o false
pending_clean r file None = refl
pending_clean r file (Some s) =
    let es = filter (entry_counts r file) s.entries in
    let ws = filter (watch_counts r (OpenOf file)) s.watchers in
    pending_unless (is_empty es && is_empty ws) s.pending (pending_counts r file s) (record s { pending = s.pending && pending_counts r file s; entries = es; watchers = ws }) refl
    (λ e. none_pass (entry_counts r file) s.entries (and_parts (is_empty es) (is_empty ws) e).0)

is_empty_map : {A B : Type 0} (f : A → B) (xs : List A) → is_empty (map f xs) ≡ is_empty xs
is_empty_map f [] = refl
is_empty_map f (x ∷ xs) = refl

empty_is : {A : Type 0} (xs : List A) → is_empty xs ≡ true → xs ≡ []
empty_is [] e = refl
empty_is (x ∷ xs) e = absurd cc

pending_or_none : (b p : Bool) (r : ShareRec) → r.pending ≡ p → (b ≡ true → p ≡ false) → says_pending (cond b None (Some r)) ≡ p
pending_or_none true p r e h = sym (h refl)
pending_or_none false p r e h = e

pending_exact : (v : View) (file : ℕ) (o : Option FileInfo) → (o ≡ None → v.opens_of file ≡ []) → (v.opens_of file ≡ [] → v.is_pending file ≡ false) → says_pending (option_and_then (share_of v file) o) ≡ v.is_pending file
pending_exact v file None h f = sym (f (h refl))
pending_exact v file (Some info) h f =
    let es = map entry_of (v.opens_of file) in
    let ws = map watch_of (v.watches_on (OpenOf file)) in
    pending_or_none (is_empty es && is_empty ws) (v.is_pending file) (record { file = file; path = info.path; name = info.name; pending = v.is_pending file; entries = es; watchers = ws }) refl
    (λ e. f (empty_is (v.opens_of file) (sym (is_empty_map entry_of (v.opens_of file)) ∙ (and_parts (is_empty es) (is_empty ws) e).0)))

-- ---- who lives

pub current_clean : (r : Records) (session : ℕ) (o : Option RegisterRec) → is_current o session ≡ is_current (option_map (clean_register r) o) session
current_clean r session None = refl
current_clean r session (Some x) = refl

pub current_exact : (v : View) (session : ℕ) (o : Option WorkerRow) → is_current (option_map (register_record v) o) session ≡ option_map_or (λ w. w.alive && (eqb w.session session)) o false
current_exact v session None = refl
current_exact v session (Some w) = refl

-- ---- rows

row_back : (file : ℕ) (o : OpenRow) → o.file ≡ file → open_row file (entry_of o) ≡ o
row_back file o e = λ i. record o { file = sym e i }

range_back : (file : ℕ) (r : RangeRow) → r.file ≡ file → range_row file (item_of r) ≡ r
range_back file r e = λ i. record r { file = sym e i }

breaking_back : (l : LeaseRow) (b : Option Breaking) (rs : List LeaseRef) → breaking_of (lease_with l b rs) ≡ b
breaking_back l None rs = refl
breaking_back l (Some b) rs = refl

held_back : (l : LeaseRow) (b : Option Breaking) (rs : List LeaseRef) → (lease_with l b rs).held ≡ l.held
held_back l None rs = refl
held_back l (Some b) rs = refl

file_back : (l : LeaseRow) (b : Option Breaking) (rs : List LeaseRef) → (lease_with l b rs).file ≡ l.file
file_back l None rs = refl
file_back l (Some b) rs = refl

lease_back : (name : LeaseName) (l : LeaseRow) (rs : List LeaseRef) → l.name ≡ name → lease_row name (lease_with l l.breaking rs) ≡ l
lease_back name l rs e = λ i. record { name = sym e i; file = file_back l l.breaking rs i; held = held_back l l.breaking rs i; breaking = breaking_back l l.breaking rs i }

of_file_back : (file : ℕ) (name : LeaseName) (l : LeaseRow) (rs : List LeaseRef) → l.name ≡ name → is_empty rs ≡ false → option_map_or (if_of_file file name) (lease_record l rs) [] ≡ filter (λ x. eqb x.file file) (l ∷ [])
of_file_back file name l [] e some = absurd cc
of_file_back file name l (r ∷ rs) e some =
    λ i. cond (eqb (file_back l l.breaking (r ∷ rs) i) file) (lease_back name l (r ∷ rs) e i ∷ []) []

-- ---- records that agree with a table

module _ (setup : Setup) (s : AllRecords) (t : Table) (a : AgreeWith setup s (view t)) (sets : IsInSets setup t) (sound : IsSound t) where
  open_declared : (file : ℕ) (o : OpenRow) → IsIn o (filter (is_of_file file) t.opens) → IsDeclared setup.files file
  open_declared file o i =
      let k = in_filter (is_of_file file) t.opens o i in
      subst (IsDeclared setup.files) (eqb-true o.file file k.1) (all_of (IsOpenRow setup) t.opens sets.opens o k.0).file.declared

  pub no_opens : (file : ℕ) → declared_at setup.files file ≡ None → (view t).opens_of file ≡ []
  no_opens file e = none_in (filter (is_of_file file) t.opens) (λ o i. not_declared setup.files file e (open_declared file o i))

  pub no_ranges : (file : ℕ) → declared_at setup.files file ≡ None → (view t).ranges_of file ≡ []
  no_ranges file e = none_in (filter (is_range_of file) t.ranges) (λ r i.
      let k = in_filter (is_range_of file) t.ranges r i in
      not_declared setup.files file e (subst (IsDeclared setup.files) (eqb-true r.file file k.1) (all_of (IsRangeRow setup) t.ranges sets.ranges r k.0).file.declared))

  open_spot : (file : ℕ) (spot : Spot) → IsSpot setup spot → same_spot spot (OpenOf file) ≡ true → IsDeclared setup.files file
  open_spot file (OpenOf f) h e = subst (IsDeclared setup.files) (eqb-true f file e) h.declared
  open_spot file (RangesOf f) h e = absurd cc
  open_spot file (LockOf key) h e = absurd cc

  range_spot : (file : ℕ) (spot : Spot) → IsSpot setup spot → same_spot spot (RangesOf file) ≡ true → IsDeclared setup.files file
  range_spot file (OpenOf f) h e = absurd cc
  range_spot file (RangesOf f) h e = subst (IsDeclared setup.files) (eqb-true f file e) h.declared
  range_spot file (LockOf key) h e = absurd cc

  no_waiters : (spot : Spot) (file : ℕ) → ((w : Spot) → IsSpot setup w → same_spot w spot ≡ true → IsDeclared setup.files file) → declared_at setup.files file ≡ None → (view t).watches_on spot ≡ []
  no_waiters spot file f e = ap (map (watch_on spot)) (none_in (filter (waits_on spot) t.waiters) (λ w i.
      let k = in_filter (waits_on spot) t.waiters w i in
      not_declared setup.files file e (f w.spot (all_of (IsWaiterRow setup) t.waiters sets.waiters w k.0).spot k.1)))

  -- ---- who lives

  pub lives_alike : (sid : Sid) → lives (deciding s) sid ≡ table.lives (view t) sid
  lives_alike sid =
      current_clean (deciding s) sid.session (s.register sid.pid)
      ∙ ap (λ (o : Option RegisterRec). is_current o sid.session) (a.register sid.pid)
      ∙ current_exact (view t) sid.session ((view t).worker_of sid.pid)

  -- ---- opens, ranges and watches

  pub entries_are : (file : ℕ) → valid_entries s file ≡ map entry_of ((view t).opens_of file)
  entries_are file =
      sym (entries_clean (deciding s) file (s.shares file))
      ∙ ap (part_of (λ (x : ShareRec). x.entries)) (a.shares file)
      ∙ entries_exact (view t) file (declared_at setup.files file) (no_opens file)

  open_back : (file : ℕ) (o : OpenRow) → IsIn o ((view t).opens_of file) → file_open (lives (deciding s)) (open_row file (entry_of o)) ≡ file_open (table.lives (view t)) o
  open_back file o i =
      let row = row_back file o (eqb-true o.file file (in_filter (is_of_file file) t.opens o i).1) in
      λ j. record { row = row j; connected = lives_alike (row j).owner j }

  opens_tell : (file : ℕ) → map (λ e. file_open (lives (deciding s)) (open_row file e)) (valid_entries s file) ≡ map (file_open (table.lives (view t))) ((view t).opens_of file)
  opens_tell file =
      ap (map (λ (e : ShareEntry). file_open (lives (deciding s)) (open_row file e))) (entries_are file)
      ∙ map_twice entry_of (λ e. file_open (lives (deciding s)) (open_row file e)) ((view t).opens_of file)
      ∙ map_same (λ o. file_open (lives (deciding s)) (open_row file (entry_of o))) (file_open (table.lives (view t))) ((view t).opens_of file) (open_back file)

  ranges_tell : (file : ℕ) → map (range_row file) (valid_ranges s file) ≡ (view t).ranges_of file
  ranges_tell file =
      ap (map (range_row file))
      (sym (items_clean (deciding s) file (s.ranges file))
      ∙ ap (part_of (λ (x : RangeRec). x.ranges)) (a.ranges file)
      ∙ items_exact (view t) file (declared_at setup.files file) (no_ranges file))
      ∙ map_back item_of (range_row file) ((view t).ranges_of file) (λ r i. range_back file r (eqb-true r.file file (in_filter (is_range_of file) t.ranges r i).1))

  open_watches_tell : (file : ℕ) → map watch_row (open_watches s file) ≡ (view t).watches_on (OpenOf file)
  open_watches_tell file =
      ap (map watch_row)
      (sym (open_watches_clean (deciding s) file (s.shares file))
      ∙ ap (part_of (λ (x : ShareRec). x.watchers)) (a.shares file)
      ∙ open_watches_exact (view t) file (declared_at setup.files file) (no_waiters (OpenOf file) file (open_spot file)))
      ∙ map_back watch_of watch_row ((view t).watches_on (OpenOf file)) (λ w i. refl)

  range_watches_tell : (file : ℕ) → map watch_row (range_watches s file) ≡ (view t).watches_on (RangesOf file)
  range_watches_tell file =
      ap (map watch_row)
      (sym (range_watches_clean (deciding s) file (s.ranges file))
      ∙ ap (part_of (λ (x : RangeRec). x.watchers)) (a.ranges file)
      ∙ range_watches_exact (view t) file (declared_at setup.files file) (no_waiters (RangesOf file) file (range_spot file)))
      ∙ map_back watch_of watch_row ((view t).watches_on (RangesOf file)) (λ w i. refl)

  -- ---- pending

  opened_in : (file : ℕ) → is_opened t.opens file ≡ true → (view t).opens_of file ≡ [] → ⊥
  opened_in file e none =
      let o = one_of (is_of_file file) t.opens e in
      subst (λ (os : List OpenRow). IsIn o.0 os) none (passes_in (is_of_file file) t.opens o.0 o.1 o.2)

  not_pending : (file : ℕ) (b : Bool) → (view t).is_pending file ≡ b → (view t).opens_of file ≡ [] → b ≡ false
  not_pending file false e none = refl
  not_pending file true e none =
      let p = one_of (names_file file) t.pending e in
      absurd (opened_in file (ap (is_opened t.opens) (sym (eqb-true p.0 file p.2)) ∙ each (is_opened t.opens) t.pending sound.pending_have_opens p.0 p.1) none)

  pending_tells : (file : ℕ) → pending_shown s file ≡ (view t).is_pending file
  pending_tells file =
      sym (pending_clean (deciding s) file (s.shares file))
      ∙ ap says_pending (a.shares file)
      ∙ pending_exact (view t) file (declared_at setup.files file) (no_opens file) (not_pending file ((view t).is_pending file) refl)

  -- ---- leases

  -- the opens under a lease, as its file shows them
  opens_of_lease : (name : LeaseName) (l : LeaseRow) → IsIn l t.leases → l.name ≡ name → (o : OpenRow) × IsIn o ((view t).opens_of l.file) × (carries name o.lease ≡ true)
  opens_of_lease name l i e =
      let o = one_of (is_open_under l) t.opens (each (has_open t.opens) t.leases sound.leases_have_opens l i) in
      let p = and_parts (eqb o.0.file l.file) (carries l.name o.0.lease) o.2 in
      (o.0, passes_in (is_of_file l.file) t.opens o.0 o.1 p.0, ap (λ n. carries n o.0.lease) (sym e) ∙ p.1)

  in_raw : (p : ShareEntry → Bool) (o : Option ShareRec) (f : ShareEntry → Bool) → list_any p (part_of (λ x. filter f x.entries) o) ≡ true → list_any p (part_of (λ x. x.entries) o) ≡ true
  in_raw p None f e = e
  in_raw p (Some r) f e =
      let x = one_of p (filter f r.entries) e in
      any_of p r.entries x.0 (in_filter f r.entries x.0 x.1).0 x.2

  named : (file : ℕ) (name : LeaseName) (o : OpenRow) → IsIn o ((view t).opens_of file) → carries name o.lease ≡ true → is_named s file name ≡ true
  named file name o i e =
      in_raw (λ x. carries name x.lease) (s.shares file) (entry_counts (deciding s) file)
      (ap (list_any (λ (x : ShareEntry). carries name x.lease)) (entries_are file)
      ∙ any_of (λ x. carries name x.lease) (map entry_of ((view t).opens_of file)) (entry_of o) (mapped_in entry_of ((view t).opens_of file) o i) e)

  -- a lease of the file is named by the file's record
  unnamed : (file : ℕ) (name : LeaseName) → is_named s file name ≡ false → leases_at (view t) name file ≡ []
  unnamed file name e = none_in (leases_at (view t) name file) (λ l i.
      let k = in_filter (λ (x : LeaseRow). eqb x.file file) ((view t).leases_of name) l i in
      let m = in_filter (has_name name) t.leases l k.0 in
      let o = opens_of_lease name l m.0 (name_is l.name name m.1) in
      both_ways (is_named s file name) e (named file name o.0 (subst (λ f. IsIn o.0 ((view t).opens_of f)) (eqb-true l.file file k.1) o.1) o.2))
    where
      name_is : (own name : LeaseName) → same_name own name ≡ true → own ≡ name
      name_is own name h =
          let p = and_parts (eqb own.guid name.guid) (eqb own.key name.key) h in
          λ j. record { guid = eqb-true own.guid name.guid p.0 j; key = eqb-true own.key name.key p.1 j }

  name_of : (own name : LeaseName) → same_name own name ≡ true → own ≡ name
  name_of own name h =
      let p = and_parts (eqb own.guid name.guid) (eqb own.key name.key) h in
      λ j. record { guid = eqb-true own.guid name.guid p.0 j; key = eqb-true own.key name.key p.1 j }

  not_empty : {A B : Type 0} (f : A → B) (xs : List A) (x : A) → IsIn x xs → is_empty (map f xs) ≡ false
  not_empty f (y ∷ ys) x i = refl
  not_empty f [] x i = absurd i

  -- the leases of a name: one at most
  by_leases : (file : ℕ) (name : LeaseName) (ls : List LeaseRow) → ((l : LeaseRow) → IsIn l ls → IsIn l t.leases × (l.name ≡ name)) → IsDistinct have_same_name ls
      → option_map_or (if_of_file file name) (lease_of (view t) name ls) [] ≡ filter (λ x. eqb x.file file) ls
  unfolding IsDistinct
  by_leases file name [] h d = refl
  by_leases file name (l ∷ []) h d =
      let i = h l (inl refl) in
      let o = opens_of_lease name l i.0 i.1 in
      of_file_back file name l (map ref_of (opens_under (view t) name l.file)) i.1
      (not_empty ref_of (opens_under (view t) name l.file) o.0 (passes_in (λ x. carries name x.lease) ((view t).opens_of l.file) o.0 o.1 o.2))
  by_leases file name (l ∷ m ∷ ls) h d = absurd (both_ways (have_same_name l m) d.0.0 (same_itself l m ((h l (inl refl)).1) ((h m (inr (inl refl))).1)))
    where
      same_itself : (x y : LeaseRow) → x.name ≡ name → y.name ≡ name → have_same_name x y ≡ true
      same_itself x y e f = ap₂ same_name e f ∙ and_from (eqb name.guid name.guid) (eqb name.key name.key) (Rattle.std.proofs.lemmas.Bool.eq-eqb name.guid name.guid refl) (Rattle.std.proofs.lemmas.Bool.eq-eqb name.key name.key refl)

  lease_by : (file : ℕ) (name : LeaseName) (b : Bool) → is_named s file name ≡ b → cond b (option_map_or (if_of_file file name) (option_and_then (settled_lease (deciding s)) (s.leases name)) []) [] ≡ leases_at (view t) name file
  lease_by file name true e =
      ap (λ (o : Option LeaseRec). option_map_or (if_of_file file name) o []) (a.leases name)
      ∙ by_leases file name ((view t).leases_of name) (λ l i. let k = in_filter (has_name name) t.leases l i in (k.0, name_of l.name name k.1))
      (distinct_filtered have_same_name (has_name name) t.leases sound.rows.leases_differ)
  lease_by file name false e = sym (unnamed file name e)

  leases_tell : (file : ℕ) (name : LeaseName) → lease_shown s file name ≡ leases_at (view t) name file
  leases_tell file name = lease_by file name (is_named s file name) refl

  -- ---- all of it

  pub file_tells : (file : ℕ) → shown file s ≡ file_view file (view t)
  file_tells file = λ i. record {
    opens = opens_tell file i;
    leases = λ name. leases_tell file name i;
    ranges = ranges_tell file i;
    open_watches = open_watches_tell file i;
    range_watches = range_watches_tell file i;
    pending = pending_tells file i;
  }
