-- Worked examples: what counts in small databases.
use Rattle.std.specs.Prelude.{◌≡◌, ℕ, true, false, ◌==◌, List, [], ◌∷◌, Option, Some, None, if◌then◌else◌, codes, refl}
use Rattle.sid_core.specs.declared.ids.LeaseName.{LeaseName}
use Rattle.sid_core.specs.declared.ids.Spot.{Spot}
use Rattle.sid_core.specs.declared.ids.Spot.TheVariants.{OpenOf, RangesOf}
use Rattle.record_codec.specs.declared.open_rec.OpenRec.{OpenRec}
use Rattle.record_codec.specs.declared.lease_rec.LeaseRec.{LeaseRec}
use Rattle.record_codec.specs.declared.lease_rec.LeaseRef.{LeaseRef}
use Rattle.record_codec.specs.declared.mail_rec.MailRec.{MailRec}
use Rattle.record_codec.specs.declared.register_rec.RegisterRec.{RegisterRec}
use Rattle.record_codec.specs.declared.share_rec.ShareRec.{ShareRec}
use Rattle.record_codec.specs.declared.watch.WatchRec.{WatchRec}
use Rattle.record_codec.specs.Counts.{Records, settled_lease, IsSettledLease, open_counts, pending_counts, watch_counts, register_watch_counts}

-- pid 101 lives in session 1, and no other pid lives
abbrev register : ℕ → Option RegisterRec
register pid =
    if pid == 101
    then Some (record { worker = 1; alive = true; session = 1; connected = 0; ended = []; watchers = [] })
    else None

-- its mailbox: call 4 waits at this spot
abbrev mail : Spot → ℕ → Option MailRec
mail spot pid =
    if pid == 101
    then Some (record { session = 1; tokens = record { spot = spot; call = 4 } ∷ []; letters = [] })
    else None

-- a durable open of pid 102, which doesn't live, as a reference
abbrev disconnected : LeaseRef
disconnected = record { id = record { pid = 102; call = 1 }; owner = record { pid = 102; session = 1 }; durable = 60 }

-- an open of pid 101, which lives, as a reference; it isn't durable
abbrev connected : LeaseRef
connected = record { id = record { pid = 101; call = 2 }; owner = record { pid = 101; session = 1 }; durable = 0 }

-- a lease of a file, with no break
abbrev unbroken : ℕ → ℕ → List LeaseRef → LeaseRec
unbroken file held refs = record { file = file; held = record { 0 = held }; breaking = false; asked = record { 0 = 0 }; needed = record { 0 = 0 }; until = 0; refs = refs }

-- a lease of file 1 in RWH that is being broken to RW
abbrev broken : List LeaseRef → LeaseRec
broken refs = record { file = 1; held = record { 0 = 7 }; breaking = true; asked = record { 0 = 5 }; needed = record { 0 = 5 }; until = 135; refs = refs }

abbrev name : LeaseName
name = record { guid = 1; key = 7 }

-- the share mode record of file 1: that open of pid 102, with that lease name
abbrev share : ShareRec
share = record {
  file = 1;
  path = codes "/srv/data";
  name = codes "a.txt";
  pending = true;
  entries = record {
    id = record { pid = 102; call = 1 };
    owner = record { pid = 102; session = 1 };
    handle = 1;
    access = record { 0 = 3 };
    share = record { 0 = 7 };
    lease = Some name;
    durable = 60;
    opened = 0;
    marked = false;
  } ∷ [];
  watchers = [];
}

-- with this lease under each name, and that share mode record under file 1
abbrev records : LeaseRec → Records
records lease = record {
  register = register;
  mail = mail (OpenOf 1);
  lease = λ _. Some lease;
  share = λ file. if file == 1 then Some share else None;
}

-- ---- settling

-- A lease without references is gone.
no_refs : settled_lease (records (unbroken 1 1 [])) (unbroken 1 1 []) ≡ None
no_refs = refl

-- Without HANDLE a disconnected open goes, and the lease with it.
no_handle : settled_lease (records (unbroken 1 5 [])) (unbroken 1 5 (disconnected ∷ [])) ≡ None
no_handle = refl

-- With HANDLE it stays, and nothing changes.
handle_is_settled : IsSettledLease (records (unbroken 1 7 [])) (unbroken 1 7 (disconnected ∷ []))
handle_is_settled = refl

-- A break to RW that nobody can acknowledge takes HANDLE away, and then the open goes.
break_is_over : settled_lease (records (unbroken 1 7 [])) (broken (disconnected ∷ [])) ≡ None
break_is_over = refl

-- With a connected open it goes on.
break_goes_on : settled_lease (records (unbroken 1 7 [])) (broken (disconnected ∷ connected ∷ [])) ≡ Some (broken (disconnected ∷ connected ∷ []))
break_goes_on = refl

-- ---- entries

abbrev open_ : ℕ → OpenRec
open_ file = record { id = record { pid = 102; call = 1 }; file = file }

-- The lease under the entry's name keeps the entry where it is of its file and has a reference of its id.
kept : open_counts (records (unbroken 1 7 (disconnected ∷ []))) (open_ 1) ≡ true
kept = refl

lease_of_another_file : open_counts (records (unbroken 2 7 (disconnected ∷ []))) (open_ 1) ≡ false
lease_of_another_file = refl

lease_of_another_open : open_counts (records (unbroken 1 7 (connected ∷ []))) (open_ 1) ≡ false
lease_of_another_open = refl

-- There is no share mode record of file 2.
no_share_record : open_counts (records (unbroken 1 7 (disconnected ∷ []))) (open_ 2) ≡ false
no_share_record = refl

-- The pending flag counts where an entry does.
pending : pending_counts (records (unbroken 1 7 (disconnected ∷ []))) 1 share ≡ true
pending = refl

-- The lease is one of file 2, and the open's owner doesn't live.
not_pending : pending_counts (records (unbroken 2 7 (disconnected ∷ []))) 1 share ≡ false
not_pending = refl

pending_without_entries : pending_counts (records (unbroken 1 7 (disconnected ∷ []))) 1 (record share { entries = [] }) ≡ false
pending_without_entries = refl

-- ---- watches

-- call 4 of session 1 of pid 101
abbrev watch : WatchRec
watch = record { sid = record { pid = 101; session = 1 }; call = 4; upgrade = false }

abbrev waiting : Spot → Records
waiting spot = record (records (unbroken 1 1 [])) { mail = mail spot }

-- In a register record it counts whatever the spot for which the call waits.
in_a_register : (spot : Spot) → register_watch_counts (waiting spot) watch ≡ true
in_a_register spot = refl

-- In the record of a spot it counts only where the call waits for this spot.
at_its_spot : watch_counts (waiting (OpenOf 1)) (OpenOf 1) watch ≡ true
at_its_spot = refl

at_another_spot : watch_counts (waiting (RangesOf 1)) (OpenOf 1) watch ≡ false
at_another_spot = refl
