-- The record of a lease.
use Rattle.std.specs.Prelude.{◌≡◌, ℕ, ◌≤◌, Bool, true, false, IsTrue, ◌==◌, if◌then◌else◌, codes}
use Rattle.sid_core.specs.declared.bits.LeaseState.{LeaseState}
use Rattle.sid_core.specs.Values.{IsU32, IsState, is_part_of}
use Rattle.record_codec.specs.declared.lease_rec.LeaseRef.{LeaseRef}
use Rattle.record_codec.specs.declared.lease_rec.LeaseRec.{LeaseRec}
use Rattle.record_codec.specs.Codec.{Codec, ◌⨾◌, via}
use Rattle.record_codec.specs.Fields.{u32, u64_in, within, truth, state, state_in, is_proper_part_of, lowered, open_id, IsOpenId, sid, IsSid, list, IsListOf}
use Rattle.record_codec.specs.Stored.{stored}

-- an open that has the lease
pub record IsLeaseRef (r : LeaseRef) : Type 0 where
  pub id : IsOpenId r.id
  pub owner : IsSid r.owner
  pub durable : IsU32 r.durable

unfoldable pub lease_ref : Codec LeaseRef
lease_ref = via (λ p. record { id = p.0; owner = p.1.0; durable = p.1.1 }) (λ r. (r.id, (r.owner, r.durable))) (
    open_id 10 11 ⨾ λ id.
    sid 12 13 ⨾ λ owner.
    u32 14)

-- what is needed in the end: no more than is asked, and 0 where nothing is
abbrev pub needed : Bool → LeaseState → ℕ → Bool
needed breaking asked n = if breaking then is_part_of n asked.0 else n == 0

-- The moment at which a break expires: 35 seconds after the break; 0 where there is none.
abbrev pub expires : Bool → ℕ → Bool
expires breaking n = if breaking then within 35 10000000034 n else n == 0

-- 35 seconds after a moment
pub record IsExpiry (moment : ℕ) : Type 0 where
  pub first : 35 ≤ moment
  pub last : moment ≤ 10000000034

pub record IsLeaseRec (r : LeaseRec) : Type 0 where
  pub file : IsU32 r.file
  pub held : IsState r.held.0
  pub asked : IsState r.asked.0
  pub needed : IsState r.needed.0
  pub unbroken_asked : r.breaking ≡ false → r.asked.0 ≡ 0
  pub unbroken_needed : r.breaking ≡ false → r.needed.0 ≡ 0
  pub broken_asked : r.breaking ≡ true → IsTrue (is_proper_part_of r.asked.0 r.held.0)
  pub broken_needed : r.breaking ≡ true → IsTrue (is_part_of r.needed.0 r.asked.0)
  pub unbroken_until : r.breaking ≡ false → r.until ≡ 0
  pub broken_until : r.breaking ≡ true → IsExpiry r.until
  pub refs : IsListOf IsLeaseRef r.refs

unfoldable pub lease_fields : Codec LeaseRec
lease_fields = via
    (λ p. record { file = p.0; held = p.1.0; breaking = p.1.1.0; asked = p.1.1.1.0; needed = p.1.1.1.1.0; until = p.1.1.1.1.1.0; refs = p.1.1.1.1.1.1 })
    (λ r. (r.file, (r.held, (r.breaking, (r.asked, (r.needed, (r.until, r.refs))))))) (
    u32 3 ⨾ λ file.
    state 4 ⨾ λ held.
    truth 5 ⨾ λ breaking.
    state_in 6 (lowered breaking held) ⨾ λ asked.
    state_in 7 (needed breaking asked) ⨾ λ needed.
    u64_in 8 (expires breaking) ⨾ λ until.
    list 9 lease_ref)

abbrev pub lease_rec : Codec (ℕ × LeaseRec)
lease_rec = stored (codes "LEAS") 2 2 (λ version. lease_fields)
