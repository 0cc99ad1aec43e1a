-- Records whose values keep their sets.
use Rattle.std.proofs.Common.{◌≡◌, ◌&&◌, ℕ, ◌+◌, ◌<◌, ◌^◌, Bool, true, false, cond, List, [], ◌∷◌, length, map, not, Option, Some, None, sym, subst, arith}
use Rattle.std.specs.List.{AllByRecursion}
use Rattle.std.specs.Option.{option_map}
use Rattle.std.specs.Ordering.{nat_cmp}
use Rattle.std.specs.FinMap.{FinMap}
use Rattle.std.proofs.lemmas.List.{length-map}
use Rattle.sid_core.specs.declared.ids.Sid.{Sid}
use Rattle.sid_core.specs.declared.ids.OpenId.{OpenId}
use Rattle.sid_core.specs.declared.ids.LeaseName.{LeaseName}
use Rattle.sid_core.specs.declared.ids.Moment.{Moment}
use Rattle.sid_core.specs.Values.{IsU32}
use Rattle.serial_table.specs.View.{carries}
use Rattle.record_codec.specs.declared.share_rec.ShareEntry.{ShareEntry}
use Rattle.record_codec.specs.declared.share_rec.ShareRec.{ShareRec}
use Rattle.record_codec.specs.declared.lease_rec.LeaseRef.{LeaseRef}
use Rattle.record_codec.specs.declared.lease_rec.LeaseRec.{LeaseRec}
use Rattle.record_codec.specs.declared.register_rec.RegisterRec.{RegisterRec}
use Rattle.record_codec.specs.Fields.{IsSid, IsListOf}
use Rattle.record_codec.specs.LeaseRec.{IsLeaseRef, IsLeaseRec}
use Rattle.record_codec.specs.ShareRec.{IsShareEntry, IsShareRec}
use Rattle.leases_db.specs.Granted.{IsRecord}
use Rattle.leases_db.specs.Refs.{is_of, without}
use Rattle.leases_db.proofs.Sets.{with_refs_sets, fewer_refs}
use Rattle.durable_open.specs.Keeping.{is_kept_by}
use Rattle.durable_open.specs.Taking.{with_owner, taken_over, ref_taken_over, lease_taken_over}
use Rattle.durable_open.specs.Sweep.{has_expired, goes, once_gone, after_one, kept_of, leases_after}

all_mapped : {X : Type 0} (P : X → Type 0) (f : X → X) → ((x : X) → P x → P (f x)) → (xs : List X) → AllByRecursion P xs → AllByRecursion P (map f xs)
all_mapped P f h [] all = tt
all_mapped P f h (x ∷ xs) all = (h x all.0, all_mapped P f h xs all.1)

mapped : {X : Type 0} (P : X → Type 0) (f : X → X) → ((x : X) → P x → P (f x)) → (xs : List X) → IsListOf P xs → IsListOf P (map f xs)
mapped P f h xs list = record { few = subst IsU32 (sym (length-map xs f)) list.few; each = all_mapped P f h xs list.each }

with_entries : (rec : ShareRec) (entries : List ShareEntry) → IsShareRec rec → IsListOf IsShareEntry entries → IsShareRec (record rec { entries = entries })
with_entries rec entries sets list = record { file = sets.file; path = sets.path; name = sets.name; entries = list; watchers = sets.watchers }

-- ---- an open that is taken over

owned : (b : Bool) (owner : Sid) (handle : ℕ) (e : ShareEntry) → IsSid owner → IsU32 handle → IsShareEntry e → IsShareEntry (cond b (with_owner owner handle e) e)
owned true owner handle e o h is = record {
  id = is.id;
  owner = o;
  handle = h;
  access = is.access;
  share = is.share;
  lease = is.lease;
  durable = is.durable;
  without_lease = is.without_lease;
  opened = is.opened;
  marked = is.marked;
}
owned false owner handle e o h is = is

pub taken_over_keeps : (p : ShareEntry → Bool) (owner : Sid) (handle : ℕ) (rec : ShareRec) → IsShareRec rec → IsSid owner → IsU32 handle
    → IsShareRec (record rec { entries = map (taken_over p owner handle) rec.entries })
taken_over_keeps p owner handle rec sets o h =
    with_entries rec (map (taken_over p owner handle) rec.entries) sets
    (mapped IsShareEntry (taken_over p owner handle) (λ e is. owned (p e) owner handle e o h is) rec.entries sets.entries)

ref_owned : (b : Bool) (owner : Sid) (ref : LeaseRef) → IsSid owner → IsLeaseRef ref → IsLeaseRef (cond b (record ref { owner = owner }) ref)
ref_owned true owner ref o is = record { id = is.id; owner = o; durable = is.durable }
ref_owned false owner ref o is = is

pub lease_keeps : (id : OpenId) (owner : Sid) (rec : LeaseRec) → IsLeaseRec rec → IsSid owner → IsLeaseRec (lease_taken_over id owner rec)
lease_keeps id owner rec sets o =
    with_refs_sets rec (map (ref_taken_over id owner) rec.refs) sets
    (mapped IsLeaseRef (ref_taken_over id owner) (λ ref is. ref_owned (is_of id ref) owner ref o is) rec.refs sets.refs)

-- ---- opens that go

left_or_not : {X : Type 0} (P : X → Type 0) (b : Bool) (x : X) (xs : List X) → P x → AllByRecursion P xs → AllByRecursion P (cond b xs (x ∷ xs))
left_or_not P true x xs h hs = hs
left_or_not P false x xs h hs = (h, hs)

all_left : (register : FinMap nat_cmp RegisterRec) (file : ℕ) (now : Moment) (P : ShareEntry → Type 0) (leases : LeaseName → Option LeaseRec) (es : List ShareEntry)
    → AllByRecursion P es → AllByRecursion P (kept_of register file now leases es)
all_left register file now P leases [] all = tt
all_left register file now P leases (e ∷ es) all =
    left_or_not P (goes register file now leases e) e (kept_of register file now (after_one register file now e leases) es) all.0
    (all_left register file now P (after_one register file now e leases) es all.1)

pub swept_keeps : (register : FinMap nat_cmp RegisterRec) (file : ℕ) (now : Moment) (leases : LeaseName → Option LeaseRec) (rec : ShareRec) (count : ℕ)
    → count + length (kept_of register file now leases rec.entries) ≡ length rec.entries
    → IsShareRec rec → IsShareRec (record rec { entries = kept_of register file now leases rec.entries })
swept_keeps register file now leases rec count e sets =
    let few : length rec.entries < 2 ^ 32 = sets.entries.few in
    with_entries rec (kept_of register file now leases rec.entries) sets (record {
      few = omega (arith, e, few);
      each = all_left register file now IsShareEntry leases rec.entries sets.entries.each;
    })

once_keeps : (b : Bool) (id : OpenId) (rec : LeaseRec) → IsLeaseRec rec → IsLeaseRec (cond b (without id rec) rec)
once_keeps true id rec is = fewer_refs (λ ref. not (is_of id ref)) rec is
once_keeps false id rec is = is

one_keeps : (register : FinMap nat_cmp RegisterRec) (file : ℕ) (now : Moment) (e : ShareEntry) (name : LeaseName) (o : Option LeaseRec)
    → IsRecord o → IsRecord (option_map (once_gone register file now e name) o)
one_keeps register file now e name None is = is
one_keeps register file now e name (Some rec) is = once_keeps (has_expired register file now e && (carries name e.lease && is_kept_by register rec file e)) e.id rec is

pub leases_keep : (register : FinMap nat_cmp RegisterRec) (file : ℕ) (now : Moment) (leases : LeaseName → Option LeaseRec) (es : List ShareEntry)
    → ((name : LeaseName) → IsRecord (leases name)) → (name : LeaseName) → IsRecord (leases_after register file now leases es name)
leases_keep register file now leases [] each = each
leases_keep register file now leases (e ∷ es) each =
    leases_keep register file now (after_one register file now e leases) es (λ name. one_keeps register file now e name (leases name) (each name))
