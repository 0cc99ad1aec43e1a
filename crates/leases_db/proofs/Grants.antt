-- A lease that an open is granted, by its record.
use Rattle.std.proofs.Common.{◌≡◌, ◌&&◌, ◌==◌, not, ℕ, Bool, true, false, cond, List, [], ◌∷◌, ◌++◌, map, Option, Some, None, refl, ap, sym, subst, ◌∙◌, eq-eqb}
use Rattle.std.specs.Prelude.{is_none, bit_and, bit_or}
use Rattle.std.specs.List.{list_any, AllByRecursion}
use Rattle.sid_core.specs.declared.bits.LeaseState.{LeaseState}
use Rattle.sid_core.specs.declared.ids.LeaseName.{LeaseName}
use Rattle.sid_core.specs.Ids.{same_name}
use Rattle.sid_core.specs.Values.{has, is_part_of}
use Rattle.sid_core.specs.Words.{lease_state}
use Rattle.serial_table.specs.declared.rows.LeaseRow.{LeaseRow}
use Rattle.serial_table.specs.declared.rows.Breaking.{Breaking}
use Rattle.serial_table.specs.Asked.{asked_of}
use Rattle.serial_table.specs.Change.{set_lease}
use Rattle.serial_table.specs.File.{FileView}
use Rattle.serial_table.specs.Local.{perform_all_in_file}
use Rattle.serial_table.specs.Break.{sets_lease, all_but_write}
use Rattle.serial_table.specs.Grant as table
use Rattle.serial_table.specs.Grant.{LeaseGrant, is_beside, grant_lease, is_durable}
use Rattle.serial_table.proofs.SameIds.{same_name-refl}
use Rattle.record_codec.specs.declared.lease_rec.LeaseRef.{LeaseRef}
use Rattle.record_codec.specs.declared.lease_rec.LeaseRec.{LeaseRec}
use Rattle.record_rows.specs.Rows.{breaking_of, lease_row}
use Rattle.leases_db.specs.Rows.{rows_with, leases_by}
use Rattle.leases_db.specs.Refs.{refs_of}
use Rattle.leases_db.specs.Granted.{OpenAsk, asked_name, AsksLease}
use Rattle.leases_db.specs.Granting.{may_hold, new_lease, grows, old_lease, lease_with, lease_by, stays_durable}

-- what the file has of the lease after it is granted, and whether the open is durable
pub record Grants (f : FileView) (name : LeaseName) (file durable : ℕ) (o : OpenAsk) (lease : LeaseGrant) (rec : LeaseRec) : Type 0 where
  pub row_is : lease_row name rec ∷ [] ≡ (perform_all_in_file lease.changes f).leases name
  pub lasts : stays_durable durable rec ≡ is_durable (asked_of o.caller file o.access o.share (Some o.ask) durable o.overwrite o.delete) lease

none_breaking : (b : Bool) (x : Breaking) → is_none (cond b (Some x) None) ≡ not b
none_breaking true x = refl
none_breaking false x = refl

not_breaking : (b c : Bool) → (not b && c) ≡ true → b ≡ false
not_breaking true c e = absurd cc
not_breaking false c e = refl

-- a new lease
grants_new : (f : FileView) (name : LeaseName) (file durable : ℕ) (o : OpenAsk) (may : ℕ) → f.leases name ≡ [] → Grants f name file durable o (table.new_lease name file may) (new_lease file may)
grants_new f name file durable o may none = record {
  row_is = sym (ap (λ ls. ls ++ cond (same_name name name) (lease_row name (new_lease file may) ∷ []) []) none
      ∙ ap (λ b. cond b (lease_row name (new_lease file may) ∷ []) []) (same_name-refl name));
  lasts = refl;
}

not_not : (b : Bool) → not (not b) ≡ b
not_not true = refl
not_not false = refl

abbrev breaking_at : LeaseRec → Bool → Option Breaking
breaking_at rec b = cond b (Some (record { asked = rec.asked; needed = rec.needed; until = record { 0 = rec.until } })) None

-- an old one, by whether it grows
grants_old : (g : Bool) (f : FileView) (name : LeaseName) (file durable : ℕ) (o : OpenAsk) (may : ℕ) (rec : LeaseRec)
    → (not rec.breaking && is_part_of rec.held.0 o.ask.state.0) ≡ g → f.leases name ≡ lease_row name rec ∷ [] → rec.file ≡ file
    → Grants f name file durable o
    (cond g (record { changes = sets_lease file (lease_row name rec) (bit_or rec.held.0 may) None ∷ []; held = bit_or rec.held.0 may; breaks = false })
    (record { changes = []; held = rec.held.0; breaks = not (is_none (breaking_of rec)) }))
    (cond g (record rec { held = lease_state (bit_or rec.held.0 may) }) rec)
unfolding set_lease
grants_old true f name file durable o may rec e leases at =
    let whole : rec.breaking ≡ false = not_breaking rec.breaking (is_part_of rec.held.0 o.ask.state.0) e in
    let held : LeaseState = lease_state (bit_or rec.held.0 may) in
    record {
      row_is = ap (λ (b : Option Breaking). record { name = name; file = rec.file; held = held; breaking = b } ∷ []) (ap (breaking_at rec) whole)
          ∙ sym (ap (map (set_lease file name held None)) leases
          ∙ ap (λ b. cond (b && same_name name name) (record (lease_row name rec) { held = held; breaking = None }) (lease_row name rec) ∷ []) (eq-eqb rec.file file at)
          ∙ ap (λ b. cond b (record (lease_row name rec) { held = held; breaking = None }) (lease_row name rec) ∷ []) (same_name-refl name));
      lasts = ap (λ b. not (durable == 0) && (has (bit_or rec.held.0 may) 2 && not b)) whole;
    }
grants_old false f name file durable o may rec e leases at = record {
  row_is = sym leases;
  lasts = sym (ap (λ b. not (durable == 0) && (has rec.held.0 2 && not (not b))) (none_breaking rec.breaking _)
      ∙ ap (λ b. not (durable == 0) && (has rec.held.0 2 && b)) (not_not (not rec.breaking)));
}

by_growth : (f : FileView) (name : LeaseName) (file durable : ℕ) (o : OpenAsk) (may : ℕ) (rec : LeaseRec) → f.leases name ≡ lease_row name rec ∷ [] → rec.file ≡ file
    → Grants f name file durable o (table.old_lease file (lease_row name rec) o.ask.state.0 may) (old_lease o.ask.state may rec)
by_growth f name file durable o may rec leases at =
    subst (λ b. Grants f name file durable o
    (cond b (record { changes = sets_lease file (lease_row name rec) (bit_or rec.held.0 may) None ∷ []; held = bit_or rec.held.0 may; breaks = false })
    (record { changes = []; held = rec.held.0; breaks = not (is_none (breaking_of rec)) }))
    (old_lease o.ask.state may rec))
    (sym (ap (λ b. b && is_part_of rec.held.0 o.ask.state.0) (none_breaking rec.breaking _)))
    (grants_old (grows o.ask.state rec) f name file durable o may rec refl leases at)

by_refs : (f : FileView) (name : LeaseName) (file durable : ℕ) (o : OpenAsk) (may : ℕ) (rec : LeaseRec) (refs : List LeaseRef) → f.leases name ≡ rows_with name rec refs
    → AllByRecursion (λ (lease : LeaseRow). lease.file ≡ file) (rows_with name rec refs)
    → Grants f name file durable o (table.lease_by name (asked_of o.caller file o.access o.share (Some o.ask) durable o.overwrite o.delete) may (rows_with name rec refs)) (lease_with file o.ask.state may rec refs)
by_refs f name file durable o may rec [] leases all = grants_new f name file durable o may leases
by_refs f name file durable o may rec (ref ∷ refs) leases all = by_growth f name file durable o may rec leases all.0

by_record : (f : FileView) (name : LeaseName) (file durable : ℕ) (o : OpenAsk) (may : ℕ) (rec : Option LeaseRec) → f.leases name ≡ leases_by name rec
    → AllByRecursion (λ (lease : LeaseRow). lease.file ≡ file) (leases_by name rec)
    → Grants f name file durable o (table.lease_by name (asked_of o.caller file o.access o.share (Some o.ask) durable o.overwrite o.delete) may (leases_by name rec)) (lease_by file o.ask.state may rec)
by_record f name file durable o may None leases all = grants_new f name file durable o may leases
by_record f name file durable o may (Some rec) leases all = by_refs f name file durable o may rec rec.refs leases all

-- the reference comes last
pub refs_kept : (file : ℕ) (state : LeaseState) (may : ℕ) (rec : Option LeaseRec) → (lease_by file state may rec).refs ≡ refs_of rec
refs_kept file state may None = refl
refs_kept file state may (Some rec) = kept rec.refs refl
  where
    grown : (g : Bool) (held : LeaseState) → (cond g (record rec { held = held }) rec).refs ≡ rec.refs
    grown true held = refl
    grown false held = refl

    kept : (refs : List LeaseRef) → rec.refs ≡ refs → (lease_with file state may rec refs).refs ≡ rec.refs
    kept [] e = sym e
    kept (ref ∷ refs) e = grown (grows state rec) (lease_state (bit_or rec.held.0 may))

at_file : (f : FileView) (name : LeaseName) (file durable : ℕ) (o : OpenAsk) (alone : Bool) (rec : Option LeaseRec)
    → f.leases name ≡ leases_by name rec → AllByRecursion (λ (lease : LeaseRow). lease.file ≡ file) (f.leases name) → list_any (is_beside (asked_of o.caller file o.access o.share (Some o.ask) durable o.overwrite o.delete)) f.opens ≡ not alone
    → Grants f name file durable o (grant_lease f (asked_of o.caller file o.access o.share (Some o.ask) durable o.overwrite o.delete) name) (lease_by file o.ask.state (may_hold alone o.ask.state) rec)
at_file f name file durable o alone rec leases all beside =
    subst (λ n. Grants f name file durable o (table.lease_by name (asked_of o.caller file o.access o.share (Some o.ask) durable o.overwrite o.delete) n (f.leases name)) (lease_by file o.ask.state (may_hold alone o.ask.state) rec))
    (sym (ap (λ b. cond b (bit_and o.ask.state.0 all_but_write) o.ask.state.0) beside))
    (subst (λ ls. Grants f name file durable o (table.lease_by name (asked_of o.caller file o.access o.share (Some o.ask) durable o.overwrite o.delete) (may_hold alone o.ask.state) ls) (lease_by file o.ask.state (may_hold alone o.ask.state) rec)) (sym leases)
    (by_record f name file durable o (may_hold alone o.ask.state) rec leases (subst (AllByRecursion (λ (lease : LeaseRow). lease.file ≡ file)) leases all)))

-- for whatever the arguments tell of
pub grants : (rec : Option LeaseRec) (file : ℕ) (state : LeaseState) (alone : Bool) (durable : ℕ) (f : FileView) (o : OpenAsk)
    → AsksLease rec file state alone durable f o
    → Grants f (asked_name o) file durable o (grant_lease f (asked_of o.caller file o.access o.share (Some o.ask) durable o.overwrite o.delete) (asked_name o)) (lease_by file state (may_hold alone state) rec)
grants rec file state alone durable f o asks =
    subst (λ s. Grants f (asked_name o) file durable o (grant_lease f (asked_of o.caller file o.access o.share (Some o.ask) durable o.overwrite o.delete) (asked_name o)) (lease_by file s (may_hold alone s) rec)) asks.state_is
    (at_file f (asked_name o) file durable o alone rec asks.leases_are asks.of_file asks.alone_is)
