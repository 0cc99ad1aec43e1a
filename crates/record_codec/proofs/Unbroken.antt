-- The record of a lease that isn't breaking is in its sets where its file, its state and its references are in theirs.
use Rattle.std.proofs.Common.{ℕ, false, List, refl}
use Rattle.sid_core.specs.declared.bits.LeaseState.{LeaseState}
use Rattle.sid_core.specs.Values.{IsU32, IsState}
use Rattle.record_codec.specs.declared.lease_rec.LeaseRef.{LeaseRef}
use Rattle.record_codec.specs.declared.lease_rec.LeaseRec.{LeaseRec}
use Rattle.record_codec.specs.Fields.{IsListOf}
use Rattle.record_codec.specs.LeaseRec.{IsLeaseRef, IsLeaseRec}

pub unbroken_sets : (file : ℕ) (held : LeaseState) (refs : List LeaseRef) → IsU32 file → IsState held.0 → IsListOf IsLeaseRef refs
    → IsLeaseRec (record { file = file; held = held; breaking = false; asked = record { 0 = 0 }; needed = record { 0 = 0 }; until = 0; refs = refs })
unbroken_sets file held refs is state all = record {
  file = is;
  held = state;
  asked = refl;
  needed = refl;
  unbroken_asked = λ _. refl;
  unbroken_needed = λ _. refl;
  broken_asked = λ e. absurd cc;
  broken_needed = λ e. absurd cc;
  unbroken_until = λ _. refl;
  broken_until = λ e. absurd cc;
  refs = all;
}
