-- What an `open` is granted: the lease that it is under, and the open.
use Rattle.std.proofs.Common.{◌≡◌, ◌==◌, ◌≤◌, ◌&&◌, ◌||◌, ◌++◌, ℕ, Bool, true, false, not, List, [], ◌∷◌, filter, map, Option, Some, None, refl, sym, ap, ◌∙◌, subst, inl, inr, arith, eq-eqb}
use Rattle.std.specs.Prelude.{is_none, bit_and, bit_or}
use Rattle.std.specs.List.{list_all, list_any, sum_by}
use Rattle.std.specs.Option.{option_map_or}
use Rattle.std.proofs.lemmas.Bool.{and_parts, and_from, or_right, cond_both, not-false, false_from_ne_true}
use Rattle.std.proofs.lemmas.List.Sums.{sum_by-cons}
use Rattle.sid_core.specs.declared.bits.LeaseState.{LeaseState}
use Rattle.sid_core.specs.declared.ids.LeaseName.{LeaseName}
use Rattle.sid_core.specs.declared.setup.Setup.{Setup}
use Rattle.sid_core.specs.Ids.{same_name}
use Rattle.sid_core.specs.Values.{IsState, is_state, is_part_of}
use Rattle.sid_core.specs.Words.{lease_state}
use Rattle.serial_table.specs.declared.rows.OpenRow.{OpenRow}
use Rattle.serial_table.specs.declared.rows.LeaseRow.{LeaseRow}
use Rattle.serial_table.specs.declared.rows.Breaking.{Breaking}
use Rattle.serial_table.specs.declared.table.Table.{Table}
use Rattle.serial_table.specs.declared.change.Change.{Change}
use Rattle.serial_table.specs.declared.change.Change.TheVariants as c
use Rattle.serial_table.specs.declared.decision.Caller.{Caller}
use Rattle.serial_table.specs.View.{view, lives, has_name}
use Rattle.serial_table.specs.File.{FileView, file_view}
use Rattle.serial_table.specs.Change.{perform_all, set_lease}
use Rattle.serial_table.specs.Break.{all_but_write, sets_lease}
use Rattle.serial_table.specs.Asked.{Asked, deletes_without_right, is_elsewhere}
use Rattle.serial_table.specs.Grant.{is_beside, allowed, LeaseGrant, new_lease, lease_by, grant_lease, new_open}
use Rattle.serial_table.specs.Delete.{may_delete}
use Rattle.serial_table.specs.Sound.{IsConsistent, IsNewOpen, IsNewLease, AllAlong, AllFit, have_same_id, have_same_handle, is_leased_if_durable, has_its_lease, states_agree, breaks_well}
use Rattle.serial_table.specs.InSets.{IsFileNumber, IsLeaseName, AllBring}
use Rattle.serial_table.proofs.SameIds.{same_name-refl}
use Rattle.serial_table.proofs.Members.{IsIn, each, any_of, any_none, none_of, passes_in, mapped_in}
use Rattle.serial_table.proofs.Views.{name-set_lease}
use Rattle.serial_table.proofs.Files.{is_lease_of, file-set_lease}
use Rattle.serial_table.proofs.Losing.{adds_bits}
use Rattle.serial_table.proofs.Numbered.{Numbers}
use Rattle.serial_table.proofs.States.{state_and, state_or}
use Rattle.serial_table.proofs.Shown.{Shows, shown_lease}
use Rattle.serial_table.proofs.Owing.{IsFresh, brings}
use Rattle.serial_table.proofs.BreaksOwed.{is_of_rows}
use Rattle.serial_table.proofs.BreaksLeave.{ComesFrom}

-- ---- the lease: what can be granted

-- a lease that holds more than before, and one that stays
abbrev pub more_held : ℕ → LeaseRow → ℕ → LeaseGrant
more_held file lease may = record { changes = sets_lease file lease (bit_or lease.held.0 may) None ∷ []; held = bit_or lease.held.0 may; breaks = false }

abbrev pub as_held : LeaseRow → LeaseGrant
as_held lease = record { changes = []; held = lease.held.0; breaks = not (is_none lease.breaking) }

-- what holds of each lease that can be granted
pub record HoldsOfLeases (Q : LeaseGrant → Type 0) (f : FileView) (asked : Asked) (name : LeaseName) : Type 0 where
  pub made : f.leases name ≡ [] → Q (new_lease name asked.file (allowed f asked))
  pub more : (lease : LeaseRow) → IsIn lease (f.leases name) → Q (more_held asked.file lease (allowed f asked))
  pub same : (lease : LeaseRow) → IsIn lease (f.leases name) → Q (as_held lease)

pub of_lease : (Q : LeaseGrant → Type 0) (f : FileView) (asked : Asked) (name : LeaseName) → HoldsOfLeases Q f asked name → Q (grant_lease f asked name)
of_lease Q f asked name h = by_leases (f.leases name) refl
  where
    by_leases : (leases : List LeaseRow) → f.leases name ≡ leases → Q (lease_by name asked (allowed f asked) leases)
    by_leases [] e = h.made e
    by_leases (lease ∷ others) e =
        let here : IsIn lease (f.leases name) = subst (IsIn lease) (sym e) (inl refl) in
        cond_both (is_none lease.breaking && is_part_of lease.held.0 asked.state.0) (more_held asked.file lease (allowed f asked)) (as_held lease) Q (λ _. h.more lease here) (λ _. h.same lease here)

pub allowed_is : (f : FileView) (asked : Asked) → IsState asked.state.0 → is_state (allowed f asked) ≡ true
allowed_is f asked is = cond_both (list_any (is_beside asked) f.opens) (bit_and asked.state.0 all_but_write) asked.state.0 (λ n. is_state n ≡ true) (λ _. state_and asked.state.0 all_but_write is refl) (λ _. is)

pub lease_passes : (p : Change → Bool) → ((lease : LeaseRow) → p (c.AddLease lease) ≡ true) → ((file : ℕ) (name : LeaseName) (held : LeaseState) (breaking : Option Breaking) → p (c.SetLease file name held breaking) ≡ true)
    → (f : FileView) (asked : Asked) (name : LeaseName) → list_all p (grant_lease f asked name).changes ≡ true
lease_passes p leased set f asked name =
    of_lease (λ g. list_all p g.changes ≡ true) f asked name (record {
      made = λ e. and_from (p (c.AddLease _)) true (leased _) refl;
      more = λ lease i. and_from (p (c.SetLease asked.file lease.name _ None)) true (set _ _ _ _) refl;
      same = λ lease i. refl;
    })

-- ---- what it owes

-- it is there then, for the open
pub record LeaseHolds (t : Table) (file : ℕ) (name : LeaseName) (g : LeaseGrant) : Type 0 where
  pub fits : AllFit g.changes t
  pub numbers : (low : ℕ → ℕ) → AllAlong (Numbers low) g.changes t
  pub of_rows : list_all is_of_rows g.changes ≡ true
  pub rows : sum_by brings g.changes ≤ 1
  pub bits : sum_by adds_bits g.changes ≤ 3
  pub opens : (perform_all g.changes t).opens ≡ t.opens
  pub there : list_any (λ (lease : LeaseRow). (lease.file == file) && same_name lease.name name) (perform_all g.changes t).leases ≡ true

last_in : {X : Type 0} (xs : List X) (x : X) → IsIn x (xs ++ x ∷ [])
last_in [] x = inl refl
last_in (y ∷ xs) x = inr (last_in xs x)

is_there : (leases : List LeaseRow) (file : ℕ) (name : LeaseName) (lease : LeaseRow) → IsIn lease leases → lease.file ≡ file → lease.name ≡ name
    → list_any (λ (lease : LeaseRow). (lease.file == file) && same_name lease.name name) leases ≡ true
is_there leases file name lease i own named =
    any_of (λ (lease : LeaseRow). (lease.file == file) && same_name lease.name name) leases lease i
    (and_from (lease.file == file) (same_name lease.name name) (eq-eqb lease.file file own) (ap (λ n. same_name n name) named ∙ same_name-refl name))

-- No lease of any file has a name that none of this file has, where none of another file had it.
name_is_free : (t u : Table) (f : FileView) (asked : Asked) (name : LeaseName) → ComesFrom t u → Shows asked.file f u → asked.lease ≡ Some name → is_elsewhere (view t) asked ≡ false → f.leases name ≡ []
    → list_any (λ (other : LeaseRow). same_name other.name name) u.leases ≡ false
name_is_free t u f asked name from s under here none = any_none (λ (other : LeaseRow). same_name other.name name) u.leases (λ l i. false_from_ne_true (same_name l.name name) (λ e. clash l i e))
  where
    nowhere_else : list_any (λ (lease : LeaseRow). not (lease.file == asked.file)) (filter (has_name name) t.leases) ≡ false
    nowhere_else = ap (λ o. option_map_or (λ (n : LeaseName). list_any (λ (lease : LeaseRow). not (lease.file == asked.file)) (filter (has_name n) t.leases)) o false) (sym under) ∙ here

    clash : (l : LeaseRow) → IsIn l u.leases → same_name l.name name ≡ true → ⊥
    clash l i e =
        let old = from.leases l i in
        let named : same_name old.0.name name ≡ true = ap (λ n. same_name n name) (sym old.1.name) ∙ e in
        let own : (old.0.file == asked.file) ≡ true =
        not-false (old.0.file == asked.file) (none_of (λ (lease : LeaseRow). not (lease.file == asked.file)) (filter (has_name name) t.leases) nowhere_else old.0 (passes_in (has_name name) t.leases old.0 old.1.there named)) in
        let shown : IsIn l ((file_view asked.file (view u)).leases name) =
        passes_in (is_lease_of asked.file) (filter (has_name name) u.leases) l (passes_in (has_name name) u.leases l i e) (ap (λ file. file == asked.file) old.1.file ∙ own) in
        subst (IsIn l) (ap (λ (leases : LeaseName → List LeaseRow). leases name) (sym s.leases) ∙ none) shown

module _ (t u : Table) (f : FileView) (asked : Asked) (name : LeaseName) (k : IsConsistent u) (s : Shows asked.file f u) (is : IsState asked.state.0) where
  held_is : (lease : LeaseRow) → IsIn lease (f.leases name) → is_state lease.held.0 ≡ true
  held_is lease i =
      let agree = each (λ (l : LeaseRow). states_agree l.held.0 l.breaking) u.leases k.leases_agree lease (shown_lease asked.file f u s name lease i).0 in
      (and_parts (is_state lease.held.0) (breaks_well lease.held.0 lease.breaking) agree).0

  pub lease_holds : ComesFrom t u → asked.lease ≡ Some name → is_elsewhere (view t) asked ≡ false → LeaseHolds u asked.file name (grant_lease f asked name)
  lease_holds from under here =
      of_lease (LeaseHolds u asked.file name) f asked name (record {
        made = λ none.
            let row : LeaseRow = record { name = name; file = asked.file; held = lease_state (allowed f asked); breaking = None } in
            let new : IsNewLease row u = record { name = name_is_free t u f asked name from s under here none; states = and_from (is_state (allowed f asked)) true (allowed_is f asked is) refl } in
            record {
              fits = (new, tt);
              numbers = λ low. (tt, tt);
              of_rows = refl;
              rows = omega (arith, sum_by-cons brings (c.AddLease row) []);
              bits = omega (arith, sum_by-cons adds_bits (c.AddLease row) []);
              opens = refl;
              there = is_there (u.leases ++ row ∷ []) asked.file name row (last_in u.leases row) refl refl;
            };
        more = λ lease i.
            let shown = shown_lease asked.file f u s name lease i in
            let held = bit_or lease.held.0 (allowed f asked) in
            let change = c.SetLease asked.file lease.name (lease_state held) None in
            record {
              fits = (and_from (is_state held) true (state_or lease.held.0 (allowed f asked) (held_is lease i) (allowed_is f asked is)) refl, tt);
              numbers = λ low. (tt, tt);
              of_rows = refl;
              rows = omega (arith, sum_by-cons brings change []);
              bits = omega (arith, sum_by-cons adds_bits change []);
              opens = refl;
              there = is_there (map (set_lease asked.file lease.name (lease_state held) None) u.leases) asked.file name (set_lease asked.file lease.name (lease_state held) None lease)
                  (mapped_in (set_lease asked.file lease.name (lease_state held) None) u.leases lease shown.0) (file-set_lease asked.file lease.name (lease_state held) None lease ∙ shown.1)
                  (name-set_lease asked.file lease.name (lease_state held) None lease ∙ shown.2);
            };
        same = λ lease i.
            let shown = shown_lease asked.file f u s name lease i in
            record { fits = tt; numbers = λ low. tt; of_rows = refl; rows = omega arith; bits = omega arith; opens = refl; there = is_there u.leases asked.file name lease shown.0 shown.1 shown.2 };
      })

  pub lease_brought : (setup : Setup) → IsFileNumber setup asked.file → IsLeaseName name → (x : Table) → AllBring setup (grant_lease f asked name).changes x
  lease_brought setup file named x =
      of_lease (λ g. AllBring setup g.changes x) f asked name (record {
        made = λ none. (record { name = named; file = file; held = allowed_is f asked is; breaking = tt }, tt);
        more = λ lease i. ((state_or lease.held.0 (allowed f asked) (held_is lease i) (allowed_is f asked is), tt), tt);
        same = λ lease i. tt;
      })

-- ---- the open

has_right : (d m : Bool) → (d && not m) ≡ false → (not d || m) ≡ true
has_right true true e = refl
has_right true false e = absurd cc
has_right false m e = refl

-- It is new where no row is, and its lease is there.
pub open_fits : (t u : Table) (caller : Caller) (asked : Asked) (durable : Bool) → IsFresh caller t → ((o : OpenRow) → IsIn o u.opens → IsIn o t.opens) → lives (view u) caller.sid ≡ true
    → deletes_without_right asked ≡ false → is_leased_if_durable (new_open caller asked durable) ≡ true → has_its_lease u.leases (new_open caller asked durable) ≡ true → IsNewOpen (new_open caller asked durable) u
open_fits t u caller asked durable fresh from live right leased there = record {
  id = any_none (λ other. have_same_id other (new_open caller asked durable)) u.opens (λ o i. none_of (λ other. have_same_id other (new_open caller asked durable)) t.opens fresh.id o (from o i));
  handle = any_none (λ other. have_same_handle other (new_open caller asked durable)) u.opens (λ o i. none_of (λ other. have_same_handle other (new_open caller asked durable)) t.opens fresh.handle o (from o i));
  owner = live;
  leased = leased;
  marked = has_right asked.delete (may_delete asked.access) right;
  lease = there;
}

-- An open under no lease is never durable.
pub plain_fits : (t u : Table) (caller : Caller) (asked : Asked) → deletes_without_right asked ≡ false → asked.lease ≡ None → IsFresh caller t → ((o : OpenRow) → IsIn o u.opens → IsIn o t.opens) → lives (view u) caller.sid ≡ true
    → IsNewOpen (new_open caller asked false) u
plain_fits t u caller asked right bare fresh from live =
    open_fits t u caller asked false fresh from live right refl (ap (λ o. option_map_or (λ (n : LeaseName). list_any (λ (lease : LeaseRow). (lease.file == asked.file) && same_name lease.name n) u.leases) o true) bare)

pub under_fits : (t u : Table) (caller : Caller) (asked : Asked) (durable : Bool) → deletes_without_right asked ≡ false → (name : LeaseName) → asked.lease ≡ Some name → IsFresh caller t → ((o : OpenRow) → IsIn o u.opens → IsIn o t.opens)
    → lives (view u) caller.sid ≡ true → list_any (λ (lease : LeaseRow). (lease.file == asked.file) && same_name lease.name name) u.leases ≡ true → IsNewOpen (new_open caller asked durable) u
under_fits t u caller asked durable right name under fresh from live there =
    let row = new_open caller asked durable in
    open_fits t u caller asked durable fresh from live right
    (ap (λ o. is_leased_if_durable (record row { lease = o })) under ∙ or_right (not (not (row.durable == 0))) true refl)
    (ap (λ o. option_map_or (λ (n : LeaseName). list_any (λ (lease : LeaseRow). (lease.file == asked.file) && same_name lease.name n) u.leases) o true) under ∙ there)
