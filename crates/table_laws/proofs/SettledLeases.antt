-- What settling makes of a lease whose opens thinned out is what settling makes of its exact record.
use Rattle.std.proofs.Common.{◌≡◌, ℕ, Bool, true, false, cond, not, ◌==◌, ◌&&◌, ◌||◌, List, [], ◌∷◌, map, filter, Option, Some, None, refl, sym, ap, ◌∙◌, subst, inl}
use Rattle.std.specs.List.{list_any}
use Rattle.std.specs.Option.{option_map_or, option_and_then}
use Rattle.std.proofs.lemmas.Bool.{eq-eqb}
use Rattle.std.proofs.Math.Bool.{and-false}
use Rattle.sid_core.specs.declared.ids.Sid.{Sid}
use Rattle.sid_core.specs.declared.ids.LeaseName.{LeaseName}
use Rattle.sid_core.specs.Values.{has}
use Rattle.serial_table.specs.declared.rows.OpenRow.{OpenRow}
use Rattle.serial_table.specs.declared.rows.LeaseRow.{LeaseRow}
use Rattle.serial_table.specs.declared.rows.Breaking.{Breaking}
use Rattle.serial_table.specs.declared.table.Table.{Table}
use Rattle.serial_table.specs.View as table
use Rattle.serial_table.specs.View.{View, view, is_of_file, has_name, carries, leases_at}
use Rattle.serial_table.specs.File.{FileView, file_view, file_open, is_under}
use Rattle.serial_table.specs.Settle.{broken_to_needed, settled_lease, lacks_handle, keeps_open, keeps_lease, lease_settles, lease_stays}
use Rattle.serial_table.specs.Sound.{IsSound, is_durable}
use Rattle.serial_table.proofs.SameIds.{same_name-eq}
use Rattle.serial_table.proofs.Views.{name-settled_lease, file-settled_lease}
use Rattle.serial_table.proofs.Members.{IsIn, none_of, all_by, in_filter, mapped_in}
use Rattle.record_codec.specs.declared.lease_rec.LeaseRef.{LeaseRef}
use Rattle.record_codec.specs.declared.lease_rec.LeaseRec.{LeaseRec}
use Rattle.record_codec.specs.Counts as record_
use Rattle.record_codec.specs.Counts.{Records, lives, is_connected, is_unanswered, settled_state, ref_counts, settled_refs, with_refs, unless_empty}
use Rattle.record_rows.specs.Rows.{ref_of}
use Rattle.stored_table.specs.Exact.{lease_with, lease_record, opens_under, lease_of, exact_lease}
use Rattle.table_laws.proofs.Lists.{filter_each, filter_twice, filter_none, filter_mapped, any_mapped, any_in_filter, any_alike}
use Rattle.table_laws.proofs.Exactly.{refs_back, single, of_file}

-- ---- one record

-- the lease after settling, by whether an open of it is connected
abbrev after_break : Bool → LeaseRow → Option Breaking → LeaseRow
after_break connected l b = cond connected l (broken_to_needed l b)

settled_with : (l : LeaseRow) (b : Option Breaking) (own refs : List LeaseRef) (connected : Bool) → l.breaking ≡ b
    → cond ((lease_with l b own).breaking && not connected)
    (let x : LeaseRec = record { file = (lease_with l b own).file; held = (lease_with l b own).needed; breaking = false; asked = record { 0 = 0 }; needed = record { 0 = 0 }; until = 0; refs = refs } in x)
    (record (lease_with l b own) { refs = refs })
    ≡ lease_with (after_break connected l b) (after_break connected l b).breaking refs
settled_with l None own refs true is = ap (λ b. lease_with l b refs) (sym is)
settled_with l None own refs false is = ap (λ b. lease_with l b refs) (sym is)
settled_with l (Some b) own refs true is = ap (λ b. lease_with l b refs) (sym is)
settled_with l (Some b) own refs false is = refl

settled_to : (l : LeaseRow) (b : Option Breaking) (own : List LeaseRef) (connected : Bool) → cond ((lease_with l b own).breaking && not connected) (lease_with l b own).needed (lease_with l b own).held ≡ (after_break connected l b).held
settled_to l None own true = refl
settled_to l None own false = refl
settled_to l (Some b) own true = refl
settled_to l (Some b) own false = refl

-- ---- tests of one open, by whether its owner lives

any_tests : (a x d : Bool) → (a && x) ≡ ((x || d) && (a && x))
any_tests true true d = refl
any_tests true false true = refl
any_tests true false false = refl
any_tests false x d = sym (and-false (x || d))

both_tests : (x d h : Bool) → (true && (x || (d && h))) ≡ (((x || d) && (x || h)) && true)
both_tests true d h = refl
both_tests false true true = refl
both_tests false true false = refl
both_tests false false h = refl

double : (b : Bool) → not (not b || false) ≡ b
double true = refl
double false = refl

-- m has the opens of t that are connected or durable, and its leases; u has what settling leaves of these
module _ (t m u : Table) (sound : IsSound t) (leases : m.leases ≡ t.leases)
    (opens : (file : ℕ) → (view m).opens_of file ≡ filter (λ o. table.lives (view m) o.owner || is_durable o) ((view t).opens_of file))
    (opens_after : (file : ℕ) → (view u).opens_of file ≡ filter (λ o. keeps_open (file_view file (view m)) (file_open (table.lives (view m)) o)) ((view m).opens_of file))
    (leases_after : (name : LeaseName) → (view u).leases_of name ≡ filter (lease_stays (λ g. true) (view m)) (map (lease_settles (λ g. true) (view m)) ((view m).leases_of name)))
    (living : (o : OpenRow) → IsIn o t.opens → table.lives (view u) o.owner ≡ table.lives (view m) o.owner)
    (r : Records) (living_is : (sid : Sid) → lives r sid ≡ table.lives (view u) sid) where
  abbrev v : View
  v = view t

  abbrev w : View
  w = view u

  abbrev alive : Sid → Bool
  alive sid = table.lives (view m) sid

  module _ (name : LeaseName) (l : LeaseRow) (only : v.leases_of name ≡ l ∷ []) (own : l.name ≡ name) where
    abbrev f : FileView
    f = file_view l.file (view m)

    abbrev refs : List LeaseRef
    refs = map ref_of (opens_under v name l.file)

    abbrev raw : LeaseRec
    raw = lease_with l l.breaking refs

    abbrev connected : Bool
    connected = list_any (λ o. is_under l.name o && o.connected) f.opens

    abbrev after : LeaseRow
    after = settled_lease f l

    lives_is : (o : OpenRow) → IsIn o (v.opens_of l.file) → lives r o.owner ≡ alive o.owner
    lives_is o i = living_is o.owner ∙ living o (of_file t sound l.file o i).0

    any_connected : list_any (is_connected r) raw.refs ≡ connected
    any_connected =
        ap (list_any (is_connected r)) (refs_back l l.breaking refs)
        ∙ any_mapped (is_connected r) ref_of (opens_under v name l.file)
        ∙ any_in_filter (λ o. lives r o.owner) (λ o. carries name o.lease) (v.opens_of l.file)
        ∙ any_alike (λ o. carries name o.lease && lives r o.owner) (λ o. (alive o.owner || is_durable o) && (carries l.name o.lease && alive o.owner)) (v.opens_of l.file)
        (all_by _ (v.opens_of l.file) (λ o i. (λ j. carries (sym own j) o.lease && lives_is o i j) ∙ any_tests (carries l.name o.lease) (alive o.owner) (is_durable o)))
        ∙ sym (any_in_filter (λ o. carries l.name o.lease && alive o.owner) (λ o. alive o.owner || is_durable o) (v.opens_of l.file))
        ∙ ap (list_any (λ o. carries l.name o.lease && alive o.owner)) (sym (opens l.file))
        ∙ sym (any_mapped (λ o. is_under l.name o && o.connected) (file_open alive) ((view m).opens_of l.file))

    with_is : (kept : List LeaseRef) → with_refs r raw kept ≡ lease_with after after.breaking kept
    with_is kept =
        ap (λ c. cond (raw.breaking && not c) (let x : LeaseRec = record { file = raw.file; held = raw.needed; breaking = false; asked = record { 0 = 0 }; needed = record { 0 = 0 }; until = 0; refs = kept } in x) (record raw { refs = kept })) any_connected
        ∙ settled_with l l.breaking refs kept connected refl

    state_is : settled_state r raw ≡ after.held
    state_is = ap (λ c. cond (raw.breaking && not c) raw.needed raw.held) any_connected ∙ settled_to l l.breaking refs connected

    -- the lease alone stands under its name in its file
    at_file : f.leases name ≡ l ∷ []
    at_file =
        ap (filter (λ (x : LeaseRow). x.file == l.file)) (ap (filter (has_name name)) leases ∙ only)
        ∙ ap (λ b. cond b (l ∷ []) []) (eq-eqb l.file l.file refl)

    stays_is : (o : OpenRow) (lease : Option LeaseName) → carries name lease ≡ true
        → (alive o.owner || not (option_map_or (λ n. list_any (lacks_handle f) (f.leases n)) lease false)) ≡ (alive o.owner || has after.held.0 2)
    stays_is o None e = absurd cc
    stays_is o (Some n) e =
        ap (λ b. alive o.owner || not b) (ap (λ x. list_any (lacks_handle f) (f.leases x)) (same_name-eq n name e) ∙ ap (list_any (lacks_handle f)) at_file)
        ∙ ap (λ b. alive o.owner || b) (double (has after.held.0 2))

    counts_is : (o : OpenRow) → IsIn o (v.opens_of l.file) → (b : Bool) → carries name o.lease ≡ b
        → (b && ref_counts r raw (ref_of o)) ≡ (((alive o.owner || is_durable o) && keeps_open f (file_open alive o)) && b)
    counts_is o i false e = sym (and-false _)
    counts_is o i true e =
        (λ j. true && (lives_is o i j || (not (o.durable == 0) && has (state_is j).0 2)))
        ∙ both_tests (alive o.owner) (is_durable o) (has after.held.0 2)
        ∙ ap (λ b. ((alive o.owner || is_durable o) && b) && true) (sym (stays_is o o.lease e))

    under_after : opens_under w name l.file ≡ filter (λ o. ((alive o.owner || is_durable o) && keeps_open f (file_open alive o)) && carries name o.lease) (v.opens_of l.file)
    under_after =
        ap (filter (λ (o : OpenRow). carries name o.lease))
        (opens_after l.file ∙ ap (filter (λ o. keeps_open f (file_open alive o))) (opens l.file) ∙ filter_twice (λ o. alive o.owner || is_durable o) (λ o. keeps_open f (file_open alive o)) (v.opens_of l.file))
        ∙ filter_twice (λ o. (alive o.owner || is_durable o) && keeps_open f (file_open alive o)) (λ o. carries name o.lease) (v.opens_of l.file)

    refs_are : settled_refs r raw ≡ map ref_of (opens_under w name l.file)
    refs_are =
        ap (filter (ref_counts r raw)) (refs_back l l.breaking refs)
        ∙ filter_mapped (ref_counts r raw) ref_of (opens_under v name l.file)
        ∙ ap (map ref_of) (filter_twice (λ o. carries name o.lease) (λ o. ref_counts r raw (ref_of o)) (v.opens_of l.file)
        ∙ filter_each (λ o. carries name o.lease && ref_counts r raw (ref_of o)) (λ o. ((alive o.owner || is_durable o) && keeps_open f (file_open alive o)) && carries name o.lease) (v.opens_of l.file)
        (λ o i. counts_is o i (carries name o.lease) refl)
        ∙ sym under_after)

    unless_is : (kept : List LeaseRef) → unless_empty r raw kept ≡ lease_record after kept
    unless_is [] = refl
    unless_is (ref ∷ kept) = ap Some (with_is (ref ∷ kept))

    -- ---- what the table shows of it

    none_under : keeps_lease f after ≡ false → opens_under w name l.file ≡ []
    none_under e =
        ap (filter (λ (o : OpenRow). carries name o.lease)) (opens_after l.file)
        ∙ filter_none (λ o. carries name o.lease) (filter (λ o. keeps_open f (file_open alive o)) ((view m).opens_of l.file)) (λ o i.
        let k = in_filter (λ o. keeps_open f (file_open alive o)) ((view m).opens_of l.file) o i in
        let none = none_of (λ x. is_under after.name x && keeps_open f x) f.opens e (file_open alive o) (mapped_in (file_open alive) ((view m).opens_of l.file) o k.0) in
        left_false (carries name o.lease) (keeps_open f (file_open alive o)) k.1 ((λ j. carries ((sym own ∙ sym (name-settled_lease f l)) j) o.lease && keeps_open f (file_open alive o)) ∙ none))
      where
        left_false : (a b : Bool) → b ≡ true → (a && b) ≡ false → a ≡ false
        left_false true b e h = sym e ∙ h
        left_false false b e h = refl

    shown_by : (b : Bool) → keeps_lease f after ≡ b → lease_of w name (cond b (after ∷ []) []) ≡ lease_record after (map ref_of (opens_under w name l.file))
    shown_by true e = ap (λ g. lease_record after (map ref_of (opens_under w name g))) (file-settled_lease f l)
    shown_by false e = ap (λ os. lease_record after (map ref_of os)) (sym (none_under e))

    exact_after : exact_lease w name ≡ lease_record after (map ref_of (opens_under w name l.file))
    exact_after =
        ap (lease_of w name) (leases_after name
        ∙ ap (λ ls. filter (lease_stays (λ g. true) (view m)) (map (lease_settles (λ g. true) (view m)) ls)) (ap (filter (has_name name)) leases ∙ only)
        ∙ ap (λ g. cond (keeps_lease (file_view g (view m)) after) (after ∷ []) []) (file-settled_lease f l))
        ∙ shown_by (keeps_lease f after) refl

    by_refs : (rs : List LeaseRef) → rs ≡ refs → option_and_then (record_.settled_lease r) (lease_record l rs) ≡ exact_lease w name
    by_refs [] e = ap (unless_empty r raw) (sym (empty_refs e)) ∙ later
      where
        later : unless_empty r raw (settled_refs r raw) ≡ exact_lease w name
        later = ap (unless_empty r raw) refs_are ∙ unless_is (map ref_of (opens_under w name l.file)) ∙ sym exact_after

        empty_refs : [] ≡ refs → settled_refs r raw ≡ []
        empty_refs e = ap (filter (ref_counts r raw)) (refs_back l l.breaking refs ∙ sym e)
    by_refs (ref ∷ rs) e =
        ap (λ x. record_.settled_lease r (lease_with l l.breaking x)) e
        ∙ ap (unless_empty r raw) refs_are ∙ unless_is (map ref_of (opens_under w name l.file)) ∙ sym exact_after

  by_leases : (name : LeaseName) (ls : List LeaseRow) → v.leases_of name ≡ ls → option_and_then (record_.settled_lease r) (lease_of v name ls) ≡ exact_lease w name
  by_leases name [] e =
      sym (ap (lease_of w name) (leases_after name ∙ ap (λ ls. filter (lease_stays (λ g. true) (view m)) (map (lease_settles (λ g. true) (view m)) ls)) (ap (filter (has_name name)) leases ∙ e)))
  by_leases name (l ∷ ls) e =
      let i : IsIn l (v.leases_of name) = subst (IsIn l) (sym e) (inl refl) in
      by_refs name l (single t sound name l i) (same_name-eq l.name name (in_filter (has_name name) t.leases l i).1) (map ref_of (opens_under v name l.file)) refl

  -- what settling makes of the exact record
  pub settled_exact : (name : LeaseName) → option_and_then (record_.settled_lease r) (exact_lease v name) ≡ exact_lease w name
  settled_exact name = by_leases name (v.leases_of name) refl
