-- Leases that code breaks one after another, at a file's rows.
use Rattle.std.proofs.Common.{◌≡◌, ◌&&◌, ◌+◌, ◌<◌, ℕ, Bool, true, false, cond, List, [], ◌∷◌, ◌++◌, length, get_or, drop, filter, map, reverse, find, Option, Some, None, refl, sym, ap, ◌∙◌, eq-eqb, append_assoc}
use Rattle.std.proofs.lemmas.List.{append-nil, at_drop_more, reverse-append}
use Rattle.std.proofs.lemmas.List.Sorted.{IsPermutation-reverse, list_any-IsPermutation}
use Rattle.std.specs.List.{list_any, filter_map, cons_option}
use Rattle.std.specs.Option.{option_map, option_map_or}
use Rattle.sid_core.specs.declared.ids.Sid.{Sid}
use Rattle.sid_core.specs.declared.ids.LeaseName.{LeaseName}
use Rattle.sid_core.specs.Ids.{same_name}
use Rattle.sid_core.specs.Values.{is_part_of}
use Rattle.std.specs.Int.RustNames.{bit_and}
use Rattle.sid_core.specs.declared.ids.Moment.{Moment}
use Rattle.serial_table.specs.declared.rows.OpenRow.{OpenRow}
use Rattle.serial_table.specs.declared.rows.LeaseRow.{LeaseRow}
use Rattle.serial_table.specs.declared.rows.Breaking.{Breaking}
use Rattle.serial_table.specs.declared.table.Table.{Table}
use Rattle.serial_table.specs.declared.change.Change.{Change}
use Rattle.serial_table.specs.declared.lease_break.LeaseBreak.{LeaseBreak}
use Rattle.serial_table.specs.View.{view, lives, carries, is_of_file, has_name}
use Rattle.serial_table.specs.File.{FileView, FileOpen, file_view, file_open, is_under}
use Rattle.serial_table.specs.Change.{perform_all}
use Rattle.serial_table.specs.Local.{perform_in_file, perform_all_in_file, all_in}
use Rattle.serial_table.specs.Break.{Breaks, no_break, both, first_of, first_owner, breaks_to, break_by, break_lease, break_first, break_each, connected_under, each_once, names_of}
use Rattle.serial_table.specs.LeaseBreak.{settles, breaks_if_any, breaks_of_owner, break_by_owner}
use Rattle.serial_table.specs.InPlace.{is_lease_of}
use Rattle.serial_table.specs.Alone.{owner_under, is_lease_named, break_named}
use Rattle.serial_table.proofs.Files.{file_view-perform_all}
use Rattle.serial_table.proofs.Heads.{by_first_of_both}

-- ---- one lease, by the owner of its first connected open

to_owner : (now : Moment) (file : ℕ) (connected : List OpenRow) (lease : LeaseRow) (target : ℕ) → breaks_to now file connected lease target ≡ breaks_of_owner now file (first_owner connected) lease target
to_owner now file [] lease target = refl
to_owner now file (first ∷ others) lease target = refl

pub by_owner : (now : Moment) (file : ℕ) (connected : List OpenRow) (kept : ℕ) (lease : LeaseRow) (b : Option Breaking) → break_by now file connected kept lease b ≡ break_by_owner now file (first_owner connected) kept lease b
by_owner now file connected kept lease (Some breaking) = refl
by_owner now file connected kept lease None = ap (cond (is_part_of lease.held.0 kept) no_break) (to_owner now file connected lease (bit_and lease.held.0 kept))

module _ (t : Table) (file : ℕ) (name : LeaseName) where
  abbrev seen : OpenRow → FileOpen
  seen = file_open (lives (view t))

  abbrev counts : FileOpen → Bool
  counts o = is_under name o && o.connected

  counted : (d : Bool) (x : OpenRow) (zs : List FileOpen) (rest : Option OpenRow) → first_owner (map (λ (o : FileOpen). o.row) zs) ≡ option_map (λ (o : OpenRow). o.owner) rest
      → first_owner (map (λ (o : FileOpen). o.row) (cond d (seen x ∷ zs) zs)) ≡ option_map (λ (o : OpenRow). o.owner) (cond d (Some x) rest)
  counted true x zs rest e = refl
  counted false x zs rest e = e

  of_file : (b : Bool) (x : OpenRow) (ys : List OpenRow) (rest : Option OpenRow) → first_owner (map (λ (o : FileOpen). o.row) (filter counts (map seen ys))) ≡ option_map (λ (o : OpenRow). o.owner) rest
      → first_owner (map (λ (o : FileOpen). o.row) (filter counts (map seen (cond b (x ∷ ys) ys)))) ≡ option_map (λ (o : OpenRow). o.owner) (cond (b && (carries name x.lease && lives (view t) x.owner)) (Some x) rest)
  of_file true x ys rest e = counted (carries name x.lease && lives (view t) x.owner) x (filter counts (map seen ys)) rest e
  of_file false x ys rest e = e

  first_connected : (xs : List OpenRow) → first_owner (map (λ (o : FileOpen). o.row) (filter counts (map seen (filter (is_of_file file) xs)))) ≡ owner_under xs t.workers file name
  first_connected [] = refl
  first_connected (x ∷ xs) = of_file (is_of_file file x) x (filter (is_of_file file) xs) (find (λ o. is_of_file file o && (carries name o.lease && lives (view t) o.owner)) xs) (first_connected xs)

pub break_is : (now : Moment) (t : Table) (file : ℕ) (kept : ℕ) (lease : LeaseRow) → break_by_owner now file (owner_under t.opens t.workers file lease.name) kept lease lease.breaking ≡ break_lease now file (file_view file (view t)) kept lease
unfolding break_lease
break_is now t file kept lease =
    ap (λ to. break_by_owner now file to kept lease lease.breaking) (sym (first_connected t file lease.name t.opens))
    ∙ sym (by_owner now file (connected_under (file_view file (view t)) lease.name) kept lease lease.breaking)

-- the first lease of the name, or none
pub break_named-is : (now : Moment) (t : Table) (file : ℕ) (kept : ℕ) (name : LeaseName)
    → break_named now file (file_view file (view t)) kept name ≡ option_map_or (break_lease now file (file_view file (view t)) kept) (find (is_lease_named file name) t.leases) no_break
unfolding break_named
break_named-is now t file kept name =
    by_first_of_both (break_first now file (file_view file (view t)) kept) (break_lease now file (file_view file (view t)) kept) no_break refl (λ l ls. refl) (is_lease_of file) (has_name name) t.leases

-- ---- what it changes is of the file

settling_in : (file : ℕ) (t : Table) (b : Bool) → all_in (lives (view t)) file (settles b) ≡ true
settling_in file t true = refl
settling_in file t false = refl

breaks_in : (file : ℕ) (t : Table) (lease : LeaseRow) (b : Option LeaseBreak) → all_in (lives (view t)) file (breaks_if_any file lease b).changes ≡ true
breaks_in file t lease None = refl
breaks_in file t lease (Some b) = ap (λ c. c && all_in (lives (view t)) file (settles b.settles)) (eq-eqb file file refl) ∙ settling_in file t b.settles

pub made_shown : (file : ℕ) (lease : LeaseRow) (b : Option LeaseBreak) (t u : Table) → u ≡ perform_all (breaks_if_any file lease b).changes t
    → file_view file (view u) ≡ perform_all_in_file (breaks_if_any file lease b).changes (file_view file (view t))
made_shown file lease b t u e = ap (λ (t : Table). file_view file (view t)) e ∙ file_view-perform_all file (breaks_if_any file lease b).changes t (breaks_in file t lease b)

-- ---- breaks, one after another

first_of-none : (sid : Option Sid) → first_of sid None ≡ sid
first_of-none None = refl
first_of-none (Some sid) = refl

first_of-first_of : (a b c : Option Sid) → first_of (first_of a b) c ≡ first_of a (first_of b c)
first_of-first_of (Some a) b c = refl
first_of-first_of None b c = refl

pub both-no_break : (b : Breaks) → both b no_break ≡ b
both-no_break b = λ i. record { changes = append-nil b.changes i; posts = append-nil b.posts i; blocker = first_of-none b.blocker i }

pub both-both : (a b c : Breaks) → both (both a b) c ≡ both a (both b c)
both-both a b c = λ i. record {
  changes = append_assoc a.changes b.changes c.changes i;
  posts = append_assoc a.posts b.posts c.posts i;
  blocker = first_of-first_of a.blocker b.blocker c.blocker i;
}

pub perform_all_in_file-append : (cs ds : List Change) (f : FileView) → perform_all_in_file (cs ++ ds) f ≡ perform_all_in_file ds (perform_all_in_file cs f)
perform_all_in_file-append [] ds f = refl
perform_all_in_file-append (c ∷ cs) ds f = perform_all_in_file-append cs ds (perform_in_file c f)

break_each-next : (now : Moment) (file : ℕ) (kept : ℕ) (f : FileView) (name : LeaseName) (names : List LeaseName)
    → break_each now file f kept (name ∷ names) ≡ both (break_named now file f kept name) (break_each now file (perform_all_in_file (break_named now file f kept name).changes f) kept names)
unfolding break_each break_named
break_each-next now file kept f name names = refl

break_each-none : (now : Moment) (file : ℕ) (kept : ℕ) (f : FileView) → break_each now file f kept [] ≡ no_break
unfolding break_each
break_each-none now file kept f = refl

module _ (now : Moment) (file : ℕ) (kept : ℕ) (names : List LeaseName) (i : ℕ) (name : LeaseName) (f g : FileView) where
  -- a loop that has broken the first i leases breaks the next
  pub broken_next : (done next all : Breaks) → i < length names → next ≡ both done (break_named now file f kept (get_or names i name)) → g ≡ perform_all_in_file (break_named now file f kept (get_or names i name)).changes f
      → both done (break_each now file f kept (drop i names)) ≡ all → both next (break_each now file g kept (drop (i + 1) names)) ≡ all
  broken_next done next all lt more left e =
      (λ j. both (more j) (break_each now file (left j) kept (drop (i + 1) names)))
      ∙ both-both done (break_named now file f kept (get_or names i name)) (break_each now file (perform_all_in_file (break_named now file f kept (get_or names i name)).changes f) kept (drop (i + 1) names))
      ∙ ap (both done) (sym (break_each-next now file kept f (get_or names i name) (drop (i + 1) names)))
      ∙ ap (both done) (sym (at_drop_more (break_each now file f kept) names i name lt)) ∙ e

  pub left_next : (all : FileView) → i < length names → g ≡ perform_all_in_file (break_named now file f kept (get_or names i name)).changes f
      → perform_all_in_file (break_each now file f kept (drop i names)).changes f ≡ all → perform_all_in_file (break_each now file g kept (drop (i + 1) names)).changes g ≡ all
  left_next all lt left e =
      (λ j. perform_all_in_file (break_each now file (left j) kept (drop (i + 1) names)).changes (left j))
      ∙ sym (perform_all_in_file-append (break_named now file f kept (get_or names i name)).changes
      (break_each now file (perform_all_in_file (break_named now file f kept (get_or names i name)).changes f) kept (drop (i + 1) names)).changes f)
      ∙ ap (λ (b : Breaks). perform_all_in_file b.changes f) (sym (break_each-next now file kept f (get_or names i name) (drop (i + 1) names)))
      ∙ ap (λ (b : Breaks). perform_all_in_file b.changes f) (sym (at_drop_more (break_each now file f kept) names i name lt)) ∙ e

-- at its end
pub broken_all : (now : Moment) (file : ℕ) (kept : ℕ) (names : List LeaseName) (f : FileView) (done all : Breaks) → names ≡ [] → both done (break_each now file f kept names) ≡ all → done ≡ all
broken_all now file kept names f done all z e = sym (both-no_break done) ∙ ap (both done) (sym (ap (break_each now file f kept) z ∙ break_each-none now file kept f)) ∙ e

pub left_all : (now : Moment) (file : ℕ) (kept : ℕ) (names : List LeaseName) (f all : FileView) → names ≡ [] → perform_all_in_file (break_each now file f kept names).changes f ≡ all → f ≡ all
left_all now file kept names f all z e = ap (λ (b : Breaks). perform_all_in_file b.changes f) (sym (ap (break_each now file f kept) z ∙ break_each-none now file kept f)) ∙ e

-- ---- which leases

any-reverse : (p : LeaseName → Bool) (xs : List LeaseName) → list_any p (reverse xs) ≡ list_any p xs
any-reverse p xs = sym (list_any-IsPermutation p xs (reverse xs) (IsPermutation-reverse xs))

once_next : (b : Bool) (names : List LeaseName) (name : LeaseName) (rest : List LeaseName)
    → cond b names (names ++ name ∷ []) ++ each_once (reverse (cond b names (names ++ name ∷ []))) rest ≡ names ++ cond b (each_once (reverse names) rest) (name ∷ each_once (name ∷ reverse names) rest)
once_next true names name rest = refl
once_next false names name rest =
    ap (λ met. (names ++ name ∷ []) ++ each_once met rest) (reverse-append names (name ∷ [])) ∙ append_assoc names (name ∷ []) (each_once (name ∷ reverse names) rest)

-- a loop over the first i names meets the next
pub once_more : (all names next once : List LeaseName) (i : ℕ) (name : LeaseName) → i < length all
    → next ≡ cond (list_any (same_name (get_or all i name)) names) names (names ++ get_or all i name ∷ []) → names ++ each_once (reverse names) (drop i all) ≡ once
    → next ++ each_once (reverse next) (drop (i + 1) all) ≡ once
once_more all names next once i name lt more e =
    ap (λ ns. ns ++ each_once (reverse ns) (drop (i + 1) all)) more
    ∙ once_next (list_any (same_name (get_or all i name)) names) names (get_or all i name) (drop (i + 1) all)
    ∙ ap (λ b. names ++ cond b (each_once (reverse names) (drop (i + 1) all)) (get_or all i name ∷ each_once (get_or all i name ∷ reverse names) (drop (i + 1) all))) (sym (any-reverse (same_name (get_or all i name)) names))
    ∙ ap (λ ns. names ++ ns) (sym (at_drop_more (each_once (reverse names)) all i name lt)) ∙ e

pub filter_map-map : {X Y Z : Type 0} (h : Y → Option Z) (f : X → Y) (xs : List X) → filter_map h (map f xs) ≡ filter_map (λ x. h (f x)) xs
filter_map-map h f [] = refl
filter_map-map h f (x ∷ xs) = ap (cons_option (h (f x))) (filter_map-map h f xs)

pub names-is : (t : Table) (file : ℕ) → names_of (file_view file (view t)).opens ≡ each_once [] (filter_map (λ (o : OpenRow). o.lease) (filter (is_of_file file) t.opens))
names-is t file = ap (each_once []) (filter_map-map (λ (o : FileOpen). o.row.lease) (file_open (lives (view t))) (filter (is_of_file file) t.opens))
