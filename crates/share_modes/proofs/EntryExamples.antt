-- Worked examples: which opens of a file count, and how one comes and another goes.
use Rattle.std.specs.Prelude.{◌≡◌, ℕ, true, false, ◌==◌, ◌&&◌, List, [], ◌∷◌, Option, Some, None, if◌then◌else◌, codes, refl}
use Rattle.sid_core.specs.declared.ids.OpenId.{OpenId}
use Rattle.sid_core.specs.declared.ids.LeaseName.{LeaseName}
use Rattle.record_codec.specs.declared.lease_rec.LeaseRec.{LeaseRec}
use Rattle.record_codec.specs.declared.lease_rec.LeaseRef.{LeaseRef}
use Rattle.record_codec.specs.declared.register_rec.RegisterRec.{RegisterRec}
use Rattle.record_codec.specs.declared.share_rec.ShareEntry.{ShareEntry}
use Rattle.record_codec.specs.declared.share_rec.ShareRec.{ShareRec}
use Rattle.record_codec.specs.Counts.{Records, entry_counts}
use Rattle.record_rows.specs.Rows.{open_row}
use Rattle.share_modes.specs.Entries.{with_entry, without_open}

-- pid 101 lives in its session 2, pid 102 has died in its session 1, and no other pid has a record
abbrev pub register : ℕ → Option RegisterRec
register pid =
    if pid == 101
    then Some (record { worker = 1; alive = true; session = 2; connected = 9; ended = 9 ∷ []; watchers = [] })
    else (if pid == 102
    then Some (record { worker = 2; alive = false; session = 1; connected = 0; ended = 20 ∷ []; watchers = [] })
    else None)

abbrev pub id_of : ℕ → ℕ → OpenId
id_of pid call = record { pid = pid; call = call }

abbrev pub seven : LeaseName
seven = record { guid = 1; key = 7 }

abbrev pub eight : LeaseName
eight = record { guid = 2; key = 8 }

-- an open to read and write that shares nothing
abbrev pub open_of : ℕ → ℕ → ℕ → Option LeaseName → ℕ → ShareEntry
open_of pid session call lease durable = record {
  id = id_of pid call;
  owner = record { pid = pid; session = session };
  handle = call;
  access = record { 0 = 3 };
  share = record { 0 = 0 };
  lease = lease;
  durable = durable;
  opened = 4;
  marked = false;
}

abbrev pub ref_of : ℕ → ℕ → ℕ → ℕ → LeaseRef
ref_of pid session call durable = record { id = id_of pid call; owner = record { pid = pid; session = session }; durable = durable }

abbrev pub lease_of : ℕ → ℕ → List LeaseRef → LeaseRec
lease_of file held refs = record { file = file; held = record { 0 = held }; breaking = false; asked = record { 0 = 0 }; needed = record { 0 = 0 }; until = 0; refs = refs }

-- it is breaking from RWH to RW
abbrev pub broken : List LeaseRef → LeaseRec
broken refs = record { file = 1; held = record { 0 = 7 }; breaking = true; asked = record { 0 = 5 }; needed = record { 0 = 5 }; until = 135; refs = refs }

-- this lease under its name, and no other
abbrev pub with_lease : LeaseRec → Records
with_lease lease = record {
  register = register;
  mail = λ _. None;
  lease = λ name. if (name.guid == 1) && (name.key == 7) then Some lease else None;
  share = λ _. None;
}

-- ---- which count

-- an open of a living session, whatever its lease is
living_counts : entry_counts (with_lease (lease_of 2 0 [])) 1 (open_of 101 2 5 (Some seven) 0) ≡ true
living_counts = refl

-- one of a session that has ended isn't durable
earlier_session : entry_counts (with_lease (lease_of 1 7 [])) 1 (open_of 101 1 3 None 0) ≡ false
earlier_session = refl

-- nor is one of a worker that has died
dead_worker : entry_counts (with_lease (lease_of 1 7 (ref_of 102 1 5 0 ∷ []))) 1 (open_of 102 1 5 (Some seven) 0) ≡ false
dead_worker = refl

-- It is durable, and its lease has HANDLE.
durable_counts : entry_counts (with_lease (lease_of 1 7 (ref_of 102 1 5 60 ∷ []))) 1 (open_of 102 1 5 (Some seven) 60) ≡ true
durable_counts = refl

-- Its lease has none.
without_handle : entry_counts (with_lease (lease_of 1 5 (ref_of 102 1 5 60 ∷ []))) 1 (open_of 102 1 5 (Some seven) 60) ≡ false
without_handle = refl

-- Its lease loses HANDLE, since nobody can acknowledge the break.
unanswered : entry_counts (with_lease (broken (ref_of 102 1 5 60 ∷ []))) 1 (open_of 102 1 5 (Some seven) 60) ≡ false
unanswered = refl

-- Somebody can.
can_be_answered : entry_counts (with_lease (broken (ref_of 102 1 5 60 ∷ ref_of 101 2 6 0 ∷ []))) 1 (open_of 102 1 5 (Some seven) 60) ≡ true
can_be_answered = refl

-- The lease of its name is of another file, is another open's, or is not there.
lease_elsewhere : entry_counts (with_lease (lease_of 2 7 (ref_of 102 1 5 60 ∷ []))) 1 (open_of 102 1 5 (Some seven) 60) ≡ false
lease_elsewhere = refl

lease_of_others : entry_counts (with_lease (lease_of 1 7 (ref_of 102 1 6 60 ∷ []))) 1 (open_of 102 1 5 (Some seven) 60) ≡ false
lease_of_others = refl

no_lease : entry_counts (with_lease (lease_of 1 7 (ref_of 102 1 5 60 ∷ []))) 1 (open_of 102 1 5 (Some eight) 60) ≡ false
no_lease = refl

-- ---- one comes, and one goes

abbrev share : List ShareEntry → ShareRec
share entries = record { file = 1; path = codes "/srv/data"; name = codes "a.txt"; pending = true; entries = entries; watchers = [] }

comes : with_entry (open_of 101 2 5 None 0) (share (open_of 102 1 5 None 0 ∷ [])) ≡ share (open_of 102 1 5 None 0 ∷ open_of 101 2 5 None 0 ∷ [])
comes = refl

-- by the pid and the call that made it
goes : without_open (id_of 102 5) (share (open_of 102 1 4 None 0 ∷ open_of 102 1 5 None 0 ∷ open_of 101 2 5 None 0 ∷ [])) ≡ share (open_of 102 1 4 None 0 ∷ open_of 101 2 5 None 0 ∷ [])
goes = refl

-- what a table has of it
as_a_row : open_row 1 (open_of 101 2 5 (Some seven) 60)
    ≡ record {
      id = id_of 101 5;
      owner = record { pid = 101; session = 2 };
      handle = 5;
      file = 1;
      access = record { 0 = 3 };
      share = record { 0 = 0 };
      lease = Some seven;
      durable = 60;
      opened = record { 0 = 4 };
      marked = false;
    }
as_a_row = refl
