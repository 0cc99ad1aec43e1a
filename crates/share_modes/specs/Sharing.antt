-- What an open meets of the opens of its file.
use Rattle.std.specs.Prelude.{◌≡◌, ℕ, Bool, true, false, ◌&&◌, ◌||◌, not, is_none, List, [], ◌∷◌, ◌++◌, Option, Some, None, map, find, if◌then◌else◌}
use Rattle.std.specs.List.{list_any}
use Rattle.std.specs.Option.{option_map, option_map_or}
use Rattle.std.specs.FinMap as map
use Rattle.std.specs.FinMap.{FinMap}
use Rattle.sid_core.specs.declared.ids.Sid.{Sid}
use Rattle.sid_core.specs.declared.ids.OpenId.{OpenId}
use Rattle.sid_core.specs.declared.ids.LeaseName.{LeaseName}
use Rattle.sid_core.specs.declared.call.LeaseAsk.{LeaseAsk}
use Rattle.sid_core.specs.Ids.{same_name}
use Rattle.sid_core.specs.Values.{has}
use Rattle.serial_table.specs.View.{carries}
use Rattle.serial_table.specs.File.{FileView, FileOpen, file_open}
use Rattle.serial_table.specs.Share.{share_conflict}
use Rattle.serial_table.specs.Break.{names_of}
use Rattle.serial_table.specs.declared.decision.Caller.{Caller}
use Rattle.serial_table.specs.Asked.{own_lease, asked_of, in_conflict}
use Rattle.serial_table.specs.Asked as table
use Rattle.record_codec.specs.declared.share_rec.ShareEntry.{ShareEntry}
use Rattle.record_codec.specs.declared.lease_rec.LeaseRef.{LeaseRef}
use Rattle.record_codec.specs.declared.lease_rec.LeaseRec.{LeaseRec}
use Rattle.record_codec.specs.Counts.{Records, lives}
use Rattle.leases_db.specs.Names.{name_cmp}
use Rattle.leases_db.specs.Rows.{leases_by}
use Rattle.record_rows.specs.Rows.{open_row}
use Rattle.share_modes.specs.declared.asked.Asked.{Asked}
use Rattle.share_modes.specs.declared.asked.Violates.{Violates}
use Rattle.share_modes.specs.declared.asked.Violates.TheVariants.{Nothing, Refused, Breaks, OutOfMemory}

-- ---- what is asked, and what records tell, as a table has them

-- an `open` but for its access and its share mode
pub record OpenCall : Type 0 where
  pub caller : Caller
  pub file : ℕ
  pub lease : Option LeaseAsk
  pub durable : ℕ
  pub overwrite : Bool
  pub delete : Bool

-- It asks for this lease: the one of its client with its key, or none.
abbrev pub AsksLease : OpenCall → Asked → Type 0
AsksLease call asked = asked.lease ≡ option_map (λ (ask : LeaseAsk). own_lease call.caller ask.key) call.lease

-- the opens that conflict with it
abbrev pub conflicting : FileView → OpenCall → Asked → List FileOpen
conflicting f call asked = in_conflict f (asked_of call.caller call.file asked.access asked.share call.lease call.durable call.overwrite call.delete)

-- whether an open that conflicts refuses it
abbrev pub refuses : FileView → OpenCall → Asked → FileOpen → Bool
refuses f call asked = table.refuses f (asked_of call.caller call.file asked.access asked.share call.lease call.durable call.overwrite call.delete)

-- What these opens of the file, their leases and their owners show of the file. Its byte ranges, who waits and whether it is to go, they
-- don't tell.
abbrev pub shown : Records → ℕ → List ShareEntry → FileView
shown records file valid = record {
  opens = map (λ e. file_open (lives records) (open_row file e)) valid;
  leases = λ name. leases_by name (records.lease name);
  ranges = [];
  open_watches = [];
  range_watches = [];
  pending = false;
}

-- ---- the answer

abbrev pub is_refused : Violates → Bool
is_refused Nothing = false
is_refused (Refused id) = true
is_refused (Breaks names) = false
is_refused OutOfMemory = false

abbrev pub is_some : {X : Type 0} → List X → Bool
is_some [] = false
is_some (x ∷ xs) = true

-- Nothing conflicts; or the first open that conflicts and refuses; or, where some conflict and none refuses, the leases of those that
-- conflict.
abbrev pub Meets : (FileOpen → Bool) → List FileOpen → Violates → Type 0
Meets refuses conflicting Nothing = conflicting ≡ []
Meets refuses conflicting (Refused id) = option_map (λ o. o.row.id) (find refuses conflicting) ≡ Some id
Meets refuses conflicting (Breaks names) = (find refuses conflicting ≡ None) × (names.items ≡ names_of conflicting) × (is_some conflicting ≡ true)
Meets refuses conflicting OutOfMemory = Unit {0}

-- ---- for the code: the same by entries

abbrev pub entry_conflicts : Asked → ShareEntry → Bool
entry_conflicts asked e = share_conflict asked.access.0 asked.share.0 e.access.0 e.share.0

-- an open under this lease whose owner lives
abbrev pub is_held_under : (Sid → Bool) → LeaseName → ShareEntry → Bool
is_held_under alive name e = carries name e.lease && alive e.owner

-- the asked lease has such an open
abbrev pub is_own_held : (Sid → Bool) → Option LeaseName → List ShareEntry → Bool
is_own_held alive None valid = false
is_own_held alive (Some name) valid = list_any (is_held_under alive name) valid

abbrev pub has_refs : List LeaseRef → Bool
has_refs [] = false
has_refs (ref ∷ refs) = true

-- a lease that is there and has HANDLE
abbrev pub keeps_handle : Option LeaseRec → Bool
keeps_handle None = false
keeps_handle (Some lease) = has_refs lease.refs && has lease.held.0 2

abbrev pub refuses_under : Records → Asked → Bool → LeaseName → Bool
refuses_under records asked own_held name =
    not (keeps_handle (records.lease name)) || (carries name asked.lease && own_held)

abbrev pub entry_refuses : Records → Asked → Bool → ShareEntry → Bool
entry_refuses records asked own_held e = option_map_or (refuses_under records asked own_held) e.lease true

abbrev pub first_refusal : Records → Asked → Bool → List ShareEntry → Option OpenId
first_refusal records asked own_held valid =
    option_map (λ e. e.id) (find (λ e. entry_conflicts asked e && entry_refuses records asked own_held e) valid)

-- the lease of an open that conflicts
abbrev pub conflict_lease : Asked → ShareEntry → Option LeaseName
conflict_lease asked e = if entry_conflicts asked e then e.lease else None

-- a name behind those before it, once
abbrev pub with_name : LeaseName → List LeaseName → List LeaseName
with_name name names = if list_any (same_name name) names then names else names ++ name ∷ []

abbrev pub with_lease : Option LeaseName → List LeaseName → List LeaseName
with_lease None names = names
with_lease (Some name) names = with_name name names

-- the map has these names and no other
abbrev pub AreMet : List LeaseName → FinMap name_cmp (Unit {0}) → Type 0
AreMet names met = (name : LeaseName) → is_none (map.get met name) ≡ not (list_any (same_name name) names)

-- the answer where no open refuses
abbrev pub IsBreaks : List LeaseName → Violates → Type 0
IsBreaks names Nothing = names ≡ []
IsBreaks names (Refused id) = ⊥
IsBreaks names (Breaks broken) = (broken.items ≡ names) × (is_some names ≡ true)
IsBreaks names OutOfMemory = Unit {0}
