-- For the code: maps that keep the first row of each key, so that looking one up costs no scan.
use Rattle.std.specs.Prelude.{◌≡◌, ℕ, ◌&&◌, List, Option, Some, None, filter, find, if◌then◌else◌}
use Rattle.std.specs.BTreeMap.{BTreeMap, get}
use Rattle.std.specs.declared.cmp.Ordering.{Ordering}
use Rattle.std.specs.Ordering.{is_eq, nat_cmp, ordering_then}
use Rattle.sid_core.specs.declared.ids.Sid.{Sid}
use Rattle.sid_core.specs.declared.ids.OpenId.{OpenId}
use Rattle.sid_core.specs.declared.ids.LeaseName.{LeaseName}
use Rattle.sid_core.specs.Ids.{same_sid}
use Rattle.serial_table.specs.declared.rows.OpenRow.{OpenRow}
use Rattle.serial_table.specs.declared.rows.LeaseRow.{LeaseRow}
use Rattle.serial_table.specs.declared.rows.EndedRow.{EndedRow}
use Rattle.serial_table.specs.View.{is_of_file, has_id, is_end_of}
use Rattle.serial_table.specs.Alone.{is_lease_named}

abbrev pub first_found : {X : Type 0} → Option X → Option X → Option X
first_found None later = later
first_found (Some x) later = Some x

-- the map has a row at its key too, where it had none
abbrev pub KeepsFirst : {K X : Type 0} → (K → K → Ordering) → K → X → BTreeMap K X → BTreeMap K X → Type 0
KeepsFirst {K} cmp key row old new = (q : K) → get cmp new q ≡ first_found (get cmp old q) (if is_eq (cmp key q) then Some row else None)

-- ---- a file, and two numbers: an id or a name

abbrev pub key_cmp : ℕ × (ℕ × ℕ) → ℕ × (ℕ × ℕ) → Ordering
key_cmp a b = ordering_then (nat_cmp a.0 b.0) (ordering_then (nat_cmp a.1.0 b.1.0) (nat_cmp a.1.1 b.1.1))

abbrev pub key_of_id : ℕ → OpenId → ℕ × (ℕ × ℕ)
key_of_id file id = (file, (id.pid, id.call))

abbrev pub key_of_name : ℕ → LeaseName → ℕ × (ℕ × ℕ)
key_of_name file name = (file, (name.guid, name.key))

-- the first of a file's opens with an id, and of its leases with a name
abbrev pub FindsOpens : BTreeMap (ℕ × (ℕ × ℕ)) OpenRow → List OpenRow → Type 0
FindsOpens map opens = (file : ℕ) (id : OpenId) → get key_cmp map (key_of_id file id) ≡ find (λ o. is_of_file file o && has_id id o) opens

abbrev pub FindsLeases : BTreeMap (ℕ × (ℕ × ℕ)) LeaseRow → List LeaseRow → Type 0
FindsLeases map leases = (file : ℕ) (name : LeaseName) → get key_cmp map (key_of_name file name) ≡ find (is_lease_named file name) leases

-- ---- a session

abbrev pub sid_cmp : ℕ × ℕ → ℕ × ℕ → Ordering
sid_cmp a b = ordering_then (nat_cmp a.0 b.0) (nat_cmp a.1 b.1)

abbrev pub key_of_sid : Sid → ℕ × ℕ
key_of_sid sid = (sid.pid, sid.session)

-- the first end of a session
abbrev pub FindsEnds : BTreeMap (ℕ × ℕ) EndedRow → List EndedRow → Type 0
FindsEnds map ended = (sid : Sid) → get sid_cmp map (key_of_sid sid) ≡ find (λ e. same_sid e.sid sid) (filter (is_end_of sid.pid) ended)
