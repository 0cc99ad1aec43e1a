-- The lease of another file.
use Rattle.std.proofs.Common.{◌≡◌, ◌==◌, not, ℕ, Bool, true, false, cond, List, [], ◌∷◌, find, Some, None, refl, ap, sym, ◌∙◌}
use Rattle.std.specs.Option.{option_map, is_some}
use Rattle.std.specs.List.{list_any}
use Rattle.sid_core.specs.declared.ids.LeaseName.{LeaseName}
use Rattle.serial_table.specs.declared.rows.LeaseRow.{LeaseRow}
use Rattle.serial_table.specs.View.{View}
use Rattle.serial_table.specs.Asked.{asked_of, is_elsewhere}
use Rattle.leases_db.specs.Granted.{OpenAsk, asked_name}
use Rattle.record_codec.specs.declared.lease_rec.LeaseRef.{LeaseRef}
use Rattle.record_codec.specs.declared.lease_rec.LeaseRec.{LeaseRec}
use Rattle.record_rows.specs.Rows.{lease_row}
use Rattle.leases_db.specs.Rows.{rows_with, leases_by}
use Rattle.leases_db.specs.Refs.{file_unless, other_file}

abbrev pub beside : ℕ → LeaseRow → Bool
beside file lease = not (lease.file == file)

one_row : (b : Bool) (row : LeaseRow) → cond b None (Some row.file) ≡ option_map (λ (lease : LeaseRow). lease.file) (cond (not b) (Some row) None)
one_row true row = refl
one_row false row = refl

by_refs : (name : LeaseName) (file : ℕ) (rec : LeaseRec) (refs : List LeaseRef) → file_unless file rec.file refs ≡ option_map (λ (lease : LeaseRow). lease.file) (find (beside file) (rows_with name rec refs))
by_refs name file rec [] = refl
by_refs name file rec (ref ∷ refs) = one_row (rec.file == file) (lease_row name rec)

pub file_is : (name : LeaseName) (file : ℕ) (rec : LeaseRec) → other_file file rec ≡ option_map (λ (lease : LeaseRow). lease.file) (find (beside file) (leases_by name (Some rec)))
file_is name file rec = by_refs name file rec rec.refs

any_by : (name : LeaseName) (file : ℕ) (rec : LeaseRec) (refs : List LeaseRef) → is_some (file_unless file rec.file refs) ≡ list_any (beside file) (rows_with name rec refs)
any_by name file rec [] = refl
any_by name file rec (ref ∷ refs) = one_here (rec.file == file) rec.file
  where
    one_here : (b : Bool) (n : ℕ) → is_some (cond b None (Some n)) ≡ list_any (λ (c : Bool). not c) (b ∷ [])
    one_here true n = refl
    one_here false n = refl

-- as the table says of the asked lease
pub table_is : (v : View) (o : OpenAsk) (file durable : ℕ) (rows : List LeaseRow) → v.leases_of (asked_name o) ≡ rows → list_any (beside file) rows ≡ is_elsewhere v (asked_of o.caller file o.access o.share (Some o.ask) durable o.overwrite o.delete)
table_is v o file durable rows rows_at = ap (list_any (beside file)) (sym rows_at)

pub table_by_record : (v : View) (o : OpenAsk) (file durable : ℕ) (rec : LeaseRec) → v.leases_of (asked_name o) ≡ leases_by (asked_name o) (Some rec) → is_some (other_file file rec) ≡ is_elsewhere v (asked_of o.caller file o.access o.share (Some o.ask) durable o.overwrite o.delete)
table_by_record v o file durable rec rows_at = any_by (asked_name o) file rec rec.refs ∙ table_is v o file durable (leases_by (asked_name o) (Some rec)) rows_at
