-- Rows that a map keeps by their keys: the first of each key.
use Rattle.std.proofs.Common.{◌≡◌, ℕ, ◌+◌, ◌<◌, ◌&&◌, Bool, true, false, cond, eqb, List, [], ◌∷◌, ◌++◌, length, get_or, take, find, Option, Some, None, refl, sym, ap, ◌∙◌, arith}
use Rattle.std.proofs.lemmas.Bool.Decides.{nat_tests}
use Rattle.std.proofs.lemmas.List.{take_more}
use Rattle.std.specs.BTreeMap.{BTreeMap, get}
use Rattle.std.specs.declared.cmp.Ordering.{Ordering}
use Rattle.std.specs.declared.cmp.Ordering.TheVariants.{Less, Equal, Greater}
use Rattle.std.specs.Ordering.{is_eq, nat_cmp, ordering_then}
use Rattle.sid_core.specs.Ids.{same_sid}
use Rattle.serial_table.specs.declared.rows.OpenRow.{OpenRow}
use Rattle.serial_table.specs.declared.rows.LeaseRow.{LeaseRow}
use Rattle.serial_table.specs.declared.rows.EndedRow.{EndedRow}
use Rattle.serial_table.specs.View.{is_of_file, has_id, is_end_of}
use Rattle.serial_table.specs.Alone.{is_lease_named}
use Rattle.serial_table.specs.Keeping.{key_cmp, key_of_id, key_of_name, sid_cmp, key_of_sid, first_found, KeepsFirst, FindsOpens, FindsLeases, FindsEnds}
use Rattle.serial_table.proofs.Finding.{find-of_filter}

module _ {X : Type 0} where
  pub found_already : (b : Bool) (y : X) (found later rest : Option X) → rest ≡ first_found found later → cond b (Some y) rest ≡ first_found (cond b (Some y) found) later
  found_already true y found later rest e = refl
  found_already false y found later rest e = e

  pub find-push : (p : X → Bool) (xs : List X) (x : X) → find p (xs ++ x ∷ []) ≡ first_found (find p xs) (cond (p x) (Some x) None)
  find-push p [] x = refl
  find-push p (y ∷ ys) x = found_already (p y) y (find p ys) (cond (p x) (Some x) None) (find p (ys ++ x ∷ [])) (find-push p ys x)

  -- one more row
  finds_next : {K : Type 0} (cmp : K → K → Ordering) (p : X → Bool) (key q : K) (xs : List X) (i : ℕ) (d : X) (old new : BTreeMap K X) → i < length xs → is_eq (cmp key q) ≡ p (get_or xs i d)
      → KeepsFirst cmp key (get_or xs i d) old new → get cmp old q ≡ find p (take i xs) → get cmp new q ≡ find p (take (i + 1) xs)
  finds_next cmp p key q xs i d old new lt test keeps before =
      keeps q ∙ (λ j. first_found (before j) (cond (test j) (Some (get_or xs i d)) None)) ∙ sym (find-push p (take i xs) (get_or xs i d))
      ∙ ap (find p) (sym (take_more xs i d lt))

-- ---- keys

pub cmp_eq : (a b : ℕ) → is_eq (nat_cmp a b) ≡ eqb a b
cmp_eq a b = grind (arith, nat_tests)

pub then_eq : (o p : Ordering) → is_eq (ordering_then o p) ≡ (is_eq o && is_eq p)
then_eq Less p = refl
then_eq Equal p = refl
then_eq Greater p = refl

and_last : (a b c : Bool) → (a && (b && c)) ≡ ((b && c) && a)
and_last true true true = refl
and_last true true false = refl
and_last true false c = refl
and_last false true true = refl
and_last false true false = refl
and_last false false c = refl

key_eq : (a b c d e f : ℕ) → is_eq (key_cmp (a, (b, c)) (d, (e, f))) ≡ (eqb a d && (eqb b e && eqb c f))
key_eq a b c d e f =
    then_eq (nat_cmp a d) (ordering_then (nat_cmp b e) (nat_cmp c f))
    ∙ (λ i. cmp_eq a d i && (then_eq (nat_cmp b e) (nat_cmp c f) ∙ (λ j. cmp_eq b e j && cmp_eq c f j)) i)

pub finds_open : (map next : BTreeMap (ℕ × (ℕ × ℕ)) OpenRow) (opens : List OpenRow) (i : ℕ) (d : OpenRow) (key : ℕ × (ℕ × ℕ)) → i < length opens → KeepsFirst key_cmp key (get_or opens i d) map next
    → key ≡ key_of_id (get_or opens i d).file (get_or opens i d).id → FindsOpens map (take i opens) → FindsOpens next (take (i + 1) opens)
finds_open map next opens i d key lt keeps is before = λ file id.
    let o = get_or opens i d in
    finds_next key_cmp (λ o. is_of_file file o && has_id id o) key (key_of_id file id) opens i d map next lt
    (ap (λ k. is_eq (key_cmp k (key_of_id file id))) is ∙ key_eq o.file o.id.pid o.id.call file id.pid id.call) keeps (before file id)

pub finds_lease : (map next : BTreeMap (ℕ × (ℕ × ℕ)) LeaseRow) (leases : List LeaseRow) (i : ℕ) (d : LeaseRow) (key : ℕ × (ℕ × ℕ)) → i < length leases → KeepsFirst key_cmp key (get_or leases i d) map next
    → key ≡ key_of_name (get_or leases i d).file (get_or leases i d).name → FindsLeases map (take i leases) → FindsLeases next (take (i + 1) leases)
finds_lease map next leases i d key lt keeps is before = λ file name.
    let l = get_or leases i d in
    finds_next key_cmp (is_lease_named file name) key (key_of_name file name) leases i d map next lt
    (ap (λ k. is_eq (key_cmp k (key_of_name file name))) is
    ∙ key_eq l.file l.name.guid l.name.key file name.guid name.key
    ∙ and_last (eqb l.file file) (eqb l.name.guid name.guid) (eqb l.name.key name.key)) keeps (before file name)

-- ---- ends

twice : (a b : Bool) → (a && b) ≡ (a && (a && b))
twice true b = refl
twice false b = refl

pub finds_end : (map next : BTreeMap (ℕ × ℕ) EndedRow) (ended : List EndedRow) (i : ℕ) (d : EndedRow) (key : ℕ × ℕ) → i < length ended → KeepsFirst sid_cmp key (get_or ended i d) map next → key ≡ key_of_sid (get_or ended i d).sid
    → FindsEnds map (take i ended) → FindsEnds next (take (i + 1) ended)
finds_end map next ended i d key lt keeps is before = λ sid.
    let e = get_or ended i d in
    finds_next sid_cmp (λ e. is_end_of sid.pid e && same_sid e.sid sid) key (key_of_sid sid) ended i d map next lt
    (ap (λ k. is_eq (sid_cmp k (key_of_sid sid))) is
    ∙ then_eq (nat_cmp e.sid.pid sid.pid) (nat_cmp e.sid.session sid.session)
    ∙ (λ j. cmp_eq e.sid.pid sid.pid j && cmp_eq e.sid.session sid.session j)
    ∙ twice (eqb e.sid.pid sid.pid) (eqb e.sid.session sid.session)) keeps (before sid ∙ find-of_filter (λ e. same_sid e.sid sid) (is_end_of sid.pid) (take i ended))
    ∙ sym (find-of_filter (λ e. same_sid e.sid sid) (is_end_of sid.pid) (take (i + 1) ended))
