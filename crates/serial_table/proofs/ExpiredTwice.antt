-- To let leases expire twice is to let them expire once.
use Rattle.std.proofs.Common.{◌≡◌, ◌==◌, Bool, true, false, cond, List, [], ◌∷◌, ◌++◌, map, filter, Option, Some, None, refl, sym, ap, ◌∙◌, subst, inl, inr, eq-eqb}
use Rattle.std.specs.List.{flat_map}
use Rattle.std.proofs.lemmas.Bool.{and_from, cond_both, both_ways}
use Rattle.sid_core.specs.declared.ids.LeaseName.{LeaseName}
use Rattle.sid_core.specs.declared.ids.Moment.{Moment}
use Rattle.sid_core.specs.Ids.{same_name}
use Rattle.serial_table.specs.declared.rows.LeaseRow.{LeaseRow}
use Rattle.serial_table.specs.declared.rows.Breaking.{Breaking}
use Rattle.serial_table.specs.declared.table.Table.{Table}
use Rattle.serial_table.specs.declared.change.Change.{Change}
use Rattle.serial_table.specs.declared.change.Change.TheVariants as c
use Rattle.serial_table.specs.View.{View, view}
use Rattle.serial_table.specs.Settle.{broken_to_needed, lease_settles, lease_stays, settle_by_key}
use Rattle.serial_table.specs.Change.{is_lease, set_lease, perform_all, perform_by_key, perform_all_by_key}
use Rattle.serial_table.specs.Expire.{is_due, needed_of, expires, due, then_settles, expiry, expire}
use Rattle.serial_table.proofs.SameIds.{same_name-refl}
use Rattle.serial_table.proofs.Members.{IsIn, in_filter, in_map, in_flat_map, passes_in, old_in}
use Rattle.serial_table.proofs.Views.{view-perform_all}
use Rattle.serial_table.proofs.ExpiringFits.{each_expired, map_twice, map_same}

-- ---- who isn't due stays so

set_quiet : (now : Moment) (l y : LeaseRow) → is_due now y ≡ false → is_due now (set_lease l.file l.name (needed_of l) None y) ≡ false
unfolding set_lease
set_quiet now l y e = cond_both (is_lease l.file l.name y) (record y { held = needed_of l; breaking = None }) y (λ x. is_due now x ≡ false) (λ _. refl) (λ _. e)

stays_quiet : (now : Moment) (ls : List LeaseRow) (y : LeaseRow) → is_due now y ≡ false → is_due now (each_expired ls y) ≡ false
stays_quiet now [] y e = e
stays_quiet now (l ∷ ls) y e = stays_quiet now ls (set_lease l.file l.name (needed_of l) None y) (set_quiet now l y e)

-- it is set by its own
set_own : (now : Moment) (l y : LeaseRow) → is_lease l.file l.name y ≡ true → is_due now (set_lease l.file l.name (needed_of l) None y) ≡ false
unfolding set_lease
set_own now l y own = cond_both (is_lease l.file l.name y) (record y { held = needed_of l; breaking = None }) y (λ x. is_due now x ≡ false) (λ _. refl) (λ e. absurd (both_ways (is_lease l.file l.name y) e own))

set_named : (l m y : LeaseRow) → is_lease l.file l.name y ≡ true → is_lease l.file l.name (set_lease m.file m.name (needed_of m) None y) ≡ true
unfolding set_lease
set_named l m y own = cond_both (is_lease m.file m.name y) (record y { held = needed_of m; breaking = None }) y (λ x. is_lease l.file l.name x ≡ true) (λ _. own) (λ _. own)

is_quiet : (now : Moment) (l : LeaseRow) (ls : List LeaseRow) (y : LeaseRow) → IsIn l ls → is_lease l.file l.name y ≡ true → is_due now (each_expired ls y) ≡ false
is_quiet now l [] y i own = absurd i
is_quiet now l (m ∷ ls) y (inl e) own = stays_quiet now ls (set_lease m.file m.name (needed_of m) None y) (set_own now m y (subst (λ (x : LeaseRow). is_lease x.file x.name y ≡ true) (sym e) own))
is_quiet now l (m ∷ ls) y (inr i) own = is_quiet now l ls (set_lease m.file m.name (needed_of m) None y) i (set_named l m y own)

itself : (l : LeaseRow) → is_lease l.file l.name l ≡ true
itself l = and_from (l.file == l.file) (same_name l.name l.name) (eq-eqb l.file l.file refl) (same_name-refl l.name)

-- ---- settling makes none due

broken_quiet : (now : Moment) (l : LeaseRow) (b : Option Breaking) → is_due now l ≡ false → is_due now (broken_to_needed l b) ≡ false
broken_quiet now l None e = e
broken_quiet now l (Some b) e = refl

settles_quiet : (now : Moment) (v : View) (l : LeaseRow) → is_due now l ≡ false → is_due now (lease_settles (λ file. true) v l) ≡ false
settles_quiet now v l e =
    cond_both _ l (broken_to_needed l l.breaking) (λ x. is_due now x ≡ false) (λ _. e) (λ _. broken_quiet now l l.breaking e)

-- ---- key by key

leases_of_expired : (ls : List LeaseRow) (v : View) (name : LeaseName) → (perform_all_by_key (map expires ls) v).leases_of name ≡ map (each_expired ls) (v.leases_of name)
leases_of_expired [] v name = map_same (v.leases_of name)
leases_of_expired (l ∷ ls) v name = leases_of_expired ls (perform_by_key (expires l) v) name ∙ map_twice (set_lease l.file l.name (needed_of l) None) (each_expired ls) (v.leases_of name)

perform_all_by_key-append : (cs ds : List Change) (v : View) → perform_all_by_key (cs ++ ds) v ≡ perform_all_by_key ds (perform_all_by_key cs v)
perform_all_by_key-append [] ds v = refl
perform_all_by_key-append (change ∷ cs) ds v = perform_all_by_key-append cs ds (perform_by_key change v)

none_passes : (p : LeaseRow → Bool) (xs : List LeaseRow) → ((x : LeaseRow) → IsIn x xs → p x ≡ false) → filter p xs ≡ []
none_passes p [] h = refl
none_passes p (x ∷ xs) h = one (p x) (h x (inl refl)) (none_passes p xs (λ y i. h y (inr i)))
  where
    one : (b : Bool) → b ≡ false → {ys : List LeaseRow} → ys ≡ [] → cond b (x ∷ ys) ys ≡ []
    one true e f = absurd cc
    one false e f = f

flat_in : (f : LeaseName → List LeaseRow) (names : List LeaseName) (name : LeaseName) (x : LeaseRow) → IsIn name names → IsIn x (f name) → IsIn x (flat_map f names)
flat_in f [] name x n i = absurd n
flat_in f (first ∷ names) name x (inl e) i = old_in (f first) (flat_map f names) x (subst (λ n. IsIn x (f n)) (sym e) i)
flat_in f (first ∷ names) name x (inr n) i = later_in (f first) (flat_map f names) (flat_in f names name x n i)
  where
    later_in : (xs ys : List LeaseRow) → IsIn x ys → IsIn x (xs ++ ys)
    later_in [] ys k = k
    later_in (z ∷ xs) ys k = inr (later_in xs ys k)

module _ (v : View) (now : Moment) (names : List LeaseName) where
  abbrev rows : List LeaseRow
  rows = due v now names

  abbrev after : View
  after = settle_by_key (perform_all_by_key (map expires rows) v)

  by_due : (b : Bool) (name : LeaseName) (x : LeaseRow) → IsIn name names → IsIn x (v.leases_of name) → is_due now x ≡ b → is_due now (each_expired rows x) ≡ false
  by_due true name x n i e = is_quiet now x rows x (passes_in (is_due now) (flat_map (λ name. v.leases_of name) names) x (flat_in (λ name. v.leases_of name) names name x n i) e) (itself x)
  by_due false name x n i e = stays_quiet now rows x e

  named_quiet : (name : LeaseName) (x : LeaseRow) → IsIn name names → IsIn x (after.leases_of name) → is_due now x ≡ false
  unfolding settle_by_key
  named_quiet name x n i =
      let u = perform_all_by_key (map expires rows) v in
      let stays = (in_filter (lease_stays (λ file. true) u) (map (lease_settles (λ file. true) u) (u.leases_of name)) x i).0 in
      let y = in_map (lease_settles (λ file. true) u) (u.leases_of name) x stays in
      let z = in_map (each_expired rows) (v.leases_of name) y.0 (subst (IsIn y.0) (leases_of_expired rows v name) y.1) in
      let quiet : is_due now y.0 ≡ false = ap (is_due now) (sym z.2) ∙ by_due (is_due now z.0) name z.0 n z.1 refl in
      ap (is_due now) (sym y.2) ∙ settles_quiet now u y.0 quiet

  none_due : due after now names ≡ []
  none_due = none_passes (is_due now) (flat_map (λ name. after.leases_of name) names) (λ x i. let name = in_flat_map (λ name. after.leases_of name) names x i in named_quiet name.0 x name.1 name.2)

then_none_due : (v : View) (now : Moment) (names : List LeaseName) (ls : List LeaseRow) → due v now names ≡ ls → due (perform_all_by_key (then_settles (map expires ls)) v) now names ≡ []
then_none_due v now names [] e = e
then_none_due v now names (l ∷ ls) e =
    ap (λ (w : View). due w now names)
    (perform_all_by_key-append (map expires (l ∷ ls)) (c.Settle ∷ []) v ∙ ap (λ ms. settle_by_key (perform_all_by_key (map expires ms) v)) (sym e))
    ∙ none_due v now names

pub expire-expire : (names : List LeaseName) (now : Moment) (t : Table) → expire names now (expire names now t) ≡ expire names now t
expire-expire names now t =
    let first : List Change = expiry (view t) now names in
    let none : due (view (perform_all first t)) now names ≡ [] =
    ap (λ (v : View). due v now names) (view-perform_all first t) ∙ then_none_due (view t) now names (due (view t) now names) refl in
    ap (λ ls. perform_all (then_settles (map expires ls)) (perform_all first t)) none
