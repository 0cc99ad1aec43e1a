-- Worked examples: how leases settle, expire and grow. Worker 101 lives in session 2, and 102 is dead.
use Rattle.std.specs.Prelude.{◌≡◌, ℕ, Bool, true, false, List, [], ◌∷◌, Some, None, if◌then◌else◌, ◌==◌, refl}
use Rattle.sid_core.specs.declared.bits.LeaseState.{LeaseState}
use Rattle.sid_core.specs.declared.ids.LeaseName.{LeaseName}
use Rattle.record_codec.specs.declared.lease_rec.LeaseRef.{LeaseRef}
use Rattle.record_codec.specs.declared.lease_rec.LeaseRec.{LeaseRec}
use Rattle.record_codec.specs.declared.register_rec.RegisterRec.{RegisterRec}
use Rattle.record_codec.specs.Counts.{Records, settled_refs, with_refs}
use Rattle.serial_table.specs.Expire.{is_due, needed_of}
use Rattle.leases_db.specs.Breaks.{broken}
use Rattle.record_rows.specs.Rows.{lease_row}
use Rattle.leases_db.specs.Rows.{lease_rows}
use Rattle.leases_db.specs.Refs.{without, other_file}
use Rattle.leases_db.specs.Granting.{may_hold, lease_by, stays_durable, new_ref}

abbrev state : ℕ → LeaseState
state bits = record { 0 = bits }

abbrev worker : ℕ → Bool → ℕ → RegisterRec
worker number alive session = record { worker = number; alive = alive; session = session; connected = 0; ended = []; watchers = [] }

abbrev records : Records
records = record {
  register = λ pid. if pid == 101 then Some (worker 1 true 2) else (if pid == 102 then Some (worker 2 false 1) else None);
  mail = λ _. None;
  lease = λ _. None;
  share = λ _. None;
}

abbrev ref : ℕ → ℕ → ℕ → LeaseRef
ref pid session durable = record { id = record { pid = pid; call = 1 }; owner = record { pid = pid; session = session }; durable = durable }

-- the lease of file 4, held as RWH and being broken to RH, of which R is needed
abbrev breaking : List LeaseRef → LeaseRec
breaking refs = record { file = 4; held = state 7; breaking = true; asked = state 3; needed = state 1; until = 60; refs = refs }

abbrev whole : ℕ → List LeaseRef → LeaseRec
whole held refs = record { file = 4; held = state held; breaking = false; asked = state 0; needed = state 0; until = 0; refs = refs }

abbrev settled : LeaseRec → LeaseRec
settled rec = with_refs records rec (settled_refs records rec)

-- ---- settling

-- A connected open can acknowledge the break: it goes on, and durable opens that wait for their worker stay with HANDLE.
pub goes_on : settled (breaking (ref 101 2 0 ∷ ref 102 1 60 ∷ ref 102 1 0 ∷ ref 101 1 0 ∷ [])) ≡ breaking (ref 101 2 0 ∷ ref 102 1 60 ∷ [])
goes_on = refl

-- Nobody can: the lease takes R, has no HANDLE, and loses its durable opens.
pub nobody_answers : settled (breaking (ref 102 1 60 ∷ [])) ≡ whole 1 []
nobody_answers = refl

pub no_lease_is_left : lease_rows (record { guid = 1; key = 7 }) (settled (breaking (ref 102 1 60 ∷ []))) ≡ []
no_lease_is_left = refl

-- A lease with HANDLE keeps the durable ones alone.
pub durable_stays : settled (whole 3 (ref 102 1 60 ∷ ref 102 1 0 ∷ [])) ≡ whole 3 (ref 102 1 60 ∷ [])
durable_stays = refl

-- ---- expiring

abbrev name : LeaseName
name = record { guid = 1; key = 7 }

pub not_yet : is_due (record { 0 = 59 }) (lease_row name (breaking [])) ≡ false
not_yet = refl

pub at_the_moment : is_due (record { 0 = 60 }) (lease_row name (breaking [])) ≡ true
at_the_moment = refl

pub whole_never : is_due (record { 0 = 60 }) (lease_row name (whole 7 [])) ≡ false
whole_never = refl

pub takes_what_is_needed : broken (breaking (ref 101 2 0 ∷ [])) ≡ whole 1 (ref 101 2 0 ∷ [])
takes_what_is_needed = refl

pub needed_is_r : needed_of (lease_row name (breaking [])) ≡ state 1
needed_is_r = refl

-- ---- what is granted

-- Beside another's open RWH becomes RH.
pub not_alone : lease_by 4 (state 7) (may_hold false (state 7)) None ≡ whole 3 []
not_alone = refl

pub alone : lease_by 4 (state 7) (may_hold true (state 7)) None ≡ whole 7 []
alone = refl

-- RH grows to RWH, with the new open beside those of its own lease.
pub grows : lease_by 4 (state 7) (may_hold true (state 7)) (Some (whole 3 (ref 101 2 0 ∷ []))) ≡ whole 7 (ref 101 2 0 ∷ [])
grows = refl

-- RW isn't part of RH, and stays.
pub stays_more : lease_by 4 (state 3) (may_hold true (state 3)) (Some (whole 5 (ref 101 2 0 ∷ []))) ≡ whole 5 (ref 101 2 0 ∷ [])
stays_more = refl

pub stays_breaking : lease_by 4 (state 7) (may_hold true (state 7)) (Some (breaking (ref 101 2 0 ∷ []))) ≡ breaking (ref 101 2 0 ∷ [])
stays_breaking = refl

-- A record without references is none, whatever its file was.
pub anew : lease_by 6 (state 1) (may_hold true (state 1)) (Some (breaking [])) ≡ record (whole 1 []) { file = 6 }
anew = refl

-- durable with HANDLE, and neither without nor while the lease is breaking
pub durable : stays_durable 60 (whole 3 []) ≡ true
durable = refl

pub no_handle : stays_durable 60 (whole 5 []) ≡ false
no_handle = refl

pub not_while_breaking : stays_durable 60 (breaking []) ≡ false
not_while_breaking = refl

pub no_seconds_asked : stays_durable 0 (whole 3 []) ≡ false
no_seconds_asked = refl

pub without_seconds : (new_ref (record { pid = 101; call = 9 }) (record { pid = 101; session = 2 }) 60 false).durable ≡ 0
without_seconds = refl

-- ---- references

pub one_goes : without (record { pid = 102; call = 1 }) (whole 3 (ref 101 2 0 ∷ ref 102 1 60 ∷ [])) ≡ whole 3 (ref 101 2 0 ∷ [])
one_goes = refl

pub of_another_file : other_file 5 (whole 3 (ref 101 2 0 ∷ [])) ≡ Some 4
of_another_file = refl

pub of_this_file : other_file 4 (whole 3 (ref 101 2 0 ∷ [])) ≡ None
of_this_file = refl

pub no_reference_no_lease : other_file 5 (whole 3 []) ≡ None
no_reference_no_lease = refl
