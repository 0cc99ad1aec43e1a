-- The record of the opens of a file.
use Rattle.std.specs.Prelude.{◌≡◌, ℕ, ◌+◌, Bool, true, false, nat_lt, IsTrue, ◌==◌, ◌&&◌, Option, Some, None, is_some, List, bit_and, codes}
use Rattle.std.specs.List.{AllByRecursion}
use Rattle.sid_core.specs.Values.{IsU32, IsU64, IsAccess, IsShare, IsMoment, IsText, has}
use Rattle.sid_core.specs.declared.bits.Access.{Access}
use Rattle.sid_core.specs.declared.bits.Share.{Share}
use Rattle.sid_core.specs.declared.ids.LeaseName.{LeaseName}
use Rattle.record_codec.specs.declared.share_rec.ShareEntry.{ShareEntry}
use Rattle.record_codec.specs.declared.share_rec.ShareRec.{ShareRec}
use Rattle.record_codec.specs.declared.watch.WatchRec.{WatchRec}
use Rattle.record_codec.specs.Codec.{Codec, ◌⨾◌, left_out, via}
use Rattle.record_codec.specs.Fields.{within, zero_unless, is_moment, u8_in, u32, u32_in, u64_in, truth, truth_in, text, open_id, IsOpenId, sid, IsSid, list, IsListOf, watch, IsWatch}
use Rattle.record_codec.specs.Stored.{stored}

-- some of the fourteen rights, and nothing else
abbrev pub is_access : ℕ → Bool
is_access bits = nat_lt 0 bits && (bit_and bits 0x1F01FF == bits)

abbrev pub access : ℕ → Codec Access
access field = via (λ n. record { 0 = n }) (λ a. a.0) (u32_in field is_access)

abbrev pub share_bits : ℕ → Codec Share
share_bits field = via (λ n. record { 0 = n }) (λ s. s.0) (u8_in field (within 0 7))

abbrev pub lease_of : Bool → ℕ → ℕ → Option LeaseName
lease_of false guid key = None
lease_of true guid key = Some (record { guid = guid; key = key })

abbrev pub lease_guid : Option LeaseName → ℕ
lease_guid None = 0
lease_guid (Some name) = name.guid

abbrev pub lease_key : Option LeaseName → ℕ
lease_key None = 0
lease_key (Some name) = name.key

-- whether there is a lease, and its name, which is 0 where there is none
abbrev pub lease_name : ℕ → ℕ → ℕ → Codec (Option LeaseName)
lease_name leased guid key = via (λ p. lease_of p.0 p.1.0 p.1.1) (λ o. (is_some o, (lease_guid o, lease_key o))) (
    truth leased ⨾ λ leased.
    u64_in guid (zero_unless leased) ⨾ λ guid.
    u64_in key (zero_unless leased))

pub record IsName (name : LeaseName) : Type 0 where
  pub guid : IsU64 name.guid
  pub key : IsU64 name.key

-- a lease name, or none
abbrev pub IsLeaseName : Option LeaseName → Type 0
IsLeaseName None = Unit {0}
IsLeaseName (Some name) = IsName name

-- the right to delete the file
abbrev pub has_delete : Access → Bool
has_delete access = has access.0 0x10000

-- An open without a lease isn't durable, and one that is marked may delete the file.
pub record IsShareEntry (e : ShareEntry) : Type 0 where
  pub id : IsOpenId e.id
  pub owner : IsSid e.owner
  pub handle : IsU32 e.handle
  pub access : IsAccess e.access.0
  pub share : IsShare e.share.0
  pub lease : IsLeaseName e.lease
  pub durable : IsU32 e.durable
  pub without_lease : e.lease ≡ None → e.durable ≡ 0
  pub opened : IsMoment e.opened
  pub marked : e.marked ≡ true → IsTrue (has_delete e.access)

-- an entry that isn't marked
pub record IsUnmarkedEntry (e : ShareEntry) : Type 0 where
  pub entry : IsShareEntry e
  pub unmarked : e.marked ≡ false

-- An entry without its mark, whose fields are numbered from this one on.
unfoldable pub unmarked_entry : ℕ → Codec ShareEntry
unmarked_entry first = via
    (λ p. record { id = p.0; owner = p.1.0; handle = p.1.1.0; access = p.1.1.1.0; share = p.1.1.1.1.0; lease = p.1.1.1.1.1.0; durable = p.1.1.1.1.1.1.0; opened = p.1.1.1.1.1.1.1.0; marked = p.1.1.1.1.1.1.1.1 })
    (λ e. (e.id, (e.owner, (e.handle, (e.access, (e.share, (e.lease, (e.durable, (e.opened, e.marked))))))))) (
    open_id first (first + 1) ⨾ λ id.
    sid (first + 2) (first + 3) ⨾ λ owner.
    u32 (first + 4) ⨾ λ handle.
    access (first + 5) ⨾ λ access.
    share_bits (first + 6) ⨾ λ share.
    lease_name (first + 7) (first + 8) (first + 9) ⨾ λ lease.
    u32_in (first + 10) (zero_unless (is_some lease)) ⨾ λ durable.
    u64_in (first + 11) is_moment ⨾ λ opened.
    left_out false)

-- the entry with that mark
abbrev pub with_mark : Bool → ShareEntry → ShareEntry
with_mark mark e = record e { marked = mark }

-- An entry and its mark, which is false unless the open may delete the file.
unfoldable pub share_entry : Codec ShareEntry
share_entry = via (λ p. with_mark p.1 p.0) (λ e. (with_mark false e, e.marked)) (
    unmarked_entry 8 ⨾ λ entry.
    truth_in 20 (zero_unless (has_delete entry.access)))

pub record IsShareRec (r : ShareRec) : Type 0 where
  pub file : IsU32 r.file
  pub path : IsText r.path
  pub name : IsText r.name
  pub entries : IsListOf IsShareEntry r.entries
  pub watchers : IsListOf IsWatch r.watchers

-- What version 1 has no fields for: the file isn't pending, and no entry is marked.
pub record HasNoMark (r : ShareRec) : Type 0 where
  pub pending : r.pending ≡ false
  pub entries : AllByRecursion (λ e. e.marked ≡ false) r.entries

abbrev pub made_of : ℕ × (List ℕ × (List ℕ × (Bool × (List ShareEntry × List WatchRec)))) → ShareRec
made_of p = record { file = p.0; path = p.1.0; name = p.1.1.0; pending = p.1.1.1.0; entries = p.1.1.1.1.0; watchers = p.1.1.1.1.1 }

abbrev pub parts_of : ShareRec → ℕ × (List ℕ × (List ℕ × (Bool × (List ShareEntry × List WatchRec))))
parts_of r = (r.file, (r.path, (r.name, (r.pending, (r.entries, r.watchers)))))

-- the fields of version 1
unfoldable pub old_share_fields : Codec ShareRec
old_share_fields = via made_of parts_of (
    u32 3 ⨾ λ file.
    text 4 ⨾ λ path.
    text 5 ⨾ λ name.
    left_out false ⨾ λ pending.
    list 6 (unmarked_entry 7) ⨾ λ entries.
    list 19 (watch 20 21 22))

-- the fields of version 2
unfoldable pub share_fields : Codec ShareRec
share_fields = via made_of parts_of (
    u32 3 ⨾ λ file.
    text 4 ⨾ λ path.
    text 5 ⨾ λ name.
    truth 6 ⨾ λ pending.
    list 7 share_entry ⨾ λ entries.
    list 21 (watch 22 23 24))

abbrev pub old_or_new_fields : Bool → Codec ShareRec
old_or_new_fields true = old_share_fields
old_or_new_fields false = share_fields

-- the fields of a version
abbrev pub share_fields_of : ℕ → Codec ShareRec
share_fields_of version = old_or_new_fields (version == 1)

abbrev pub share_rec : Codec (ℕ × ShareRec)
share_rec = stored (codes "SHAR") 1 2 share_fields_of
