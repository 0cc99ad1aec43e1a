-- What counts in a record. What doesn't is stale: it may stay until someone touches the record or tidies its chain.
use Rattle.std.specs.Prelude.{◌≡◌, ℕ, ◌<◌, Bool, IsTrue, length, false, not, ◌==◌, ◌&&◌, ◌||◌, if◌then◌else◌, Option, Some, None, List, [], ◌∷◌}
use Rattle.std.specs.List.{list_any, list_all, filter}
use Rattle.sid_core.specs.Ids.{same_id, same_spot}
use Rattle.sid_core.specs.Values.{has}
use Rattle.sid_core.specs.declared.ids.Sid.{Sid}
use Rattle.sid_core.specs.declared.ids.Spot.{Spot}
use Rattle.sid_core.specs.declared.ids.OpenId.{OpenId}
use Rattle.sid_core.specs.declared.ids.LeaseName.{LeaseName}
use Rattle.sid_core.specs.declared.bits.LeaseState.{LeaseState}
use Rattle.record_codec.specs.declared.watch.WatchRec.{WatchRec}
use Rattle.record_codec.specs.declared.glock_rec.Hold.{Hold}
use Rattle.record_codec.specs.declared.open_rec.OpenRec.{OpenRec}
use Rattle.record_codec.specs.declared.share_rec.ShareEntry.{ShareEntry}
use Rattle.record_codec.specs.declared.share_rec.ShareRec.{ShareRec}
use Rattle.record_codec.specs.declared.lease_rec.LeaseRef.{LeaseRef}
use Rattle.record_codec.specs.declared.lease_rec.LeaseRec.{LeaseRec}
use Rattle.record_codec.specs.declared.register_rec.RegisterRec.{RegisterRec}
use Rattle.record_codec.specs.declared.range_rec.RangeItem.{RangeItem}
use Rattle.record_codec.specs.declared.mail_rec.MailRec.{MailRec}

-- The records that say what counts, by their keys: the register and mailbox records by pid, the lease records by name,
-- the share mode records by the file's number. A missing record is an empty one.
pub record Records : Type 0 where
  pub register : ℕ → Option RegisterRec
  pub mail : ℕ → Option MailRec
  pub lease : LeaseName → Option LeaseRec
  pub share : ℕ → Option ShareRec

-- ---- sessions and mailboxes

abbrev pub is_current : Option RegisterRec → ℕ → Bool
is_current None session = false
is_current (Some record_) session = record_.alive && (record_.session == session)

-- The session is the current one of a living worker.
abbrev pub lives : Records → Sid → Bool
lives records sid = is_current (records.register sid.pid) sid.session

abbrev pub hold_counts : Records → Hold → Bool
hold_counts records hold = lives records hold.sid

-- the mailbox of this pid
abbrev pub mailbox_counts : Records → ℕ → MailRec → Bool
mailbox_counts records pid mail = lives records (record { pid = pid; session = mail.session })

-- ---- watches

abbrev pub has_token_at : Option MailRec → ℕ → Spot → ℕ → Bool
has_token_at None session spot call = false
has_token_at (Some mail) session spot call =
    (mail.session == session) && list_any (λ token. same_spot token.spot spot && (token.call == call)) mail.tokens

abbrev pub has_token : Option MailRec → ℕ → ℕ → Bool
has_token None session call = false
has_token (Some mail) session call = (mail.session == session) && list_any (λ token. token.call == call) mail.tokens

-- A watch in the record of a spot: the mailbox of its session still waits there with its call.
abbrev pub watch_counts : Records → Spot → WatchRec → Bool
watch_counts records spot watch = has_token_at (records.mail watch.sid.pid) watch.sid.session spot watch.call

-- A watch in the record of a worker: the mailbox of its session still waits with its call, wherever.
abbrev pub register_watch_counts : Records → WatchRec → Bool
register_watch_counts records watch = has_token (records.mail watch.sid.pid) watch.sid.session watch.call

-- ---- leases

abbrev pub is_connected : Records → LeaseRef → Bool
is_connected records ref = lives records ref.owner

-- A break that nobody can acknowledge is over: without a connected open the lease takes what is needed.
abbrev pub is_unanswered : Records → LeaseRec → Bool
is_unanswered records lease = lease.breaking && not (list_any (is_connected records) lease.refs)

abbrev pub settled_state : Records → LeaseRec → LeaseState
settled_state records lease = if is_unanswered records lease then lease.needed else lease.held

-- Its owner lives, or it is durable and the settled lease has HANDLE.
abbrev pub ref_counts : Records → LeaseRec → LeaseRef → Bool
ref_counts records lease ref =
    is_connected records ref || (not (ref.durable == 0) && has (settled_state records lease).0 2)

-- The references that settling leaves: those that count.
abbrev pub settled_refs : Records → LeaseRec → List LeaseRef
settled_refs records lease = filter (ref_counts records lease) lease.refs

-- The lease record with these references, and its break over where nobody can acknowledge it.
abbrev pub with_refs : Records → LeaseRec → List LeaseRef → LeaseRec
with_refs records lease refs =
    if is_unanswered records lease
    then record { file = lease.file; held = lease.needed; breaking = false; asked = record { 0 = 0 }; needed = record { 0 = 0 }; until = 0; refs = refs }
    else record lease { refs = refs }

-- A lease without opens is gone.
abbrev pub unless_empty : Records → LeaseRec → List LeaseRef → Option LeaseRec
unless_empty records lease [] = None
unless_empty records lease (ref ∷ refs) = Some (with_refs records lease (ref ∷ refs))

-- The lease record as settling leaves it, or none where none of its references counts.
abbrev pub settled_lease : Records → LeaseRec → Option LeaseRec
settled_lease records lease = unless_empty records lease (settled_refs records lease)

-- Settling changes nothing. A lease record that settling would change has a stale part.
abbrev pub IsSettledLease : Records → LeaseRec → Type 0
IsSettledLease records lease = settled_lease records lease ≡ Some lease

-- The same by the record's parts: the break isn't over, each reference counts, and there is one.
pub record HasNoStalePart (records : Records) (lease : LeaseRec) : Type 0 where
  pub answered : is_unanswered records lease ≡ false
  pub each_counts : IsTrue (list_all (ref_counts records lease) lease.refs)
  pub some : 0 < length lease.refs

-- ---- opens

-- The record under the entry's lease name keeps an entry of this file where it is of this file, has a reference
-- of the entry's id, and has HANDLE once it is settled.
abbrev pub keeps : Records → ℕ → OpenId → Option LeaseRec → Bool
keeps records file id None = false
keeps records file id (Some lease) =
    (lease.file == file) && list_any (λ ref. same_id ref.id id) lease.refs && has (settled_state records lease).0 2

abbrev pub is_kept : Records → ℕ → OpenId → Option LeaseName → Bool
is_kept records file id None = false
is_kept records file id (Some name) = keeps records file id (records.lease name)

-- An entry of the share mode record of this file: its owner lives, or it is durable and its lease keeps it.
abbrev pub entry_counts : Records → ℕ → ShareEntry → Bool
entry_counts records file entry =
    lives records entry.owner || (not (entry.durable == 0) && is_kept records file entry.id entry.lease)

-- The pending flag of the share mode record of this file: an entry of the record counts.
abbrev pub pending_counts : Records → ℕ → ShareRec → Bool
pending_counts records file share = list_any (entry_counts records file) share.entries

abbrev pub entry_of_id_counts : Records → ℕ → OpenId → Option ShareRec → Bool
entry_of_id_counts records file id None = false
entry_of_id_counts records file id (Some share) = list_any (λ entry. same_id entry.id id && entry_counts records file entry) share.entries

-- There is an entry of this id that counts in the share mode record under the file's key. That the entry is one of this
-- file is said by the key: the record's own field isn't looked at.
abbrev pub id_counts : Records → ℕ → OpenId → Bool
id_counts records file id = entry_of_id_counts records file id (records.share file)

-- A range in the record of this file: the entry of its open counts.
abbrev pub range_counts : Records → ℕ → RangeItem → Bool
range_counts records file range = id_counts records file range.id

-- An open record: of its file there is an entry of its id that counts.
abbrev pub open_counts : Records → OpenRec → Bool
open_counts records open_ = id_counts records open_.file open_.id

abbrev pub entry_serves : Records → ℕ → ℕ → ℕ → OpenId → Option ShareRec → Bool
entry_serves records file pid handle id None = false
entry_serves records file pid handle id (Some share) =
    list_any (λ entry. same_id entry.id id && entry_counts records file entry && (entry.owner.pid == pid) && lives records entry.owner && (entry.handle == handle)) share.entries

-- An open record under this pid and handle serves as a handle: the entry of its id that counts has the current session
-- of the pid as its owner, and this handle.
abbrev pub serves : Records → ℕ → ℕ → OpenRec → Bool
serves records pid handle open_ = entry_serves records open_.file pid handle open_.id (records.share open_.file)
