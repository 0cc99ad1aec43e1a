-- Records whose values keep their sets.
use Rattle.std.proofs.Common.{◌≡◌, ◌&&◌, not, ℕ, ◌+◌, ◌<◌, ◌≤◌, ◌^◌, Bool, true, false, cond, List, [], ◌∷◌, ◌++◌, length, filter, Option, Some, None, refl, sym, subst, arith}
use Rattle.std.specs.Prelude.{bit_or}
use Rattle.std.specs.List.{AllByRecursion}
use Rattle.std.proofs.lemmas.List.{length-append}
use Rattle.sid_core.specs.declared.bits.LeaseState.{LeaseState}
use Rattle.sid_core.specs.Values.{IsU32, IsState, is_part_of}
use Rattle.serial_table.specs.Break.{all_but_write}
use Rattle.serial_table.proofs.Counting.{length_filtered}
use Rattle.serial_table.proofs.States.{state_and, state_or}
use Rattle.record_codec.specs.declared.lease_rec.LeaseRef.{LeaseRef}
use Rattle.record_codec.specs.declared.lease_rec.LeaseRec.{LeaseRec}
use Rattle.record_codec.specs.Fields.{IsListOf}
use Rattle.record_codec.specs.LeaseRec.{IsLeaseRef, IsLeaseRec}
use Rattle.record_codec.proofs.Unbroken.{unbroken_sets}
use Rattle.leases_db.specs.Breaks.{broken}
use Rattle.leases_db.specs.Granted.{IsRecord}
use Rattle.leases_db.specs.Granting.{may_hold, new_lease, grows, lease_with, lease_by, with_ref}
use Rattle.leases_db.specs.Refs.{refs_of}
use Rattle.leases_db.proofs.Lists.{all_kept}

pub broken_sets : (rec : LeaseRec) → IsLeaseRec rec → IsLeaseRec (broken rec)
broken_sets rec sets = unbroken_sets rec.file rec.needed rec.refs sets.file sets.needed sets.refs

pub broken_or_not : (b : Bool) (rec : LeaseRec) → IsLeaseRec rec → IsLeaseRec (cond b (broken rec) rec)
broken_or_not true rec sets = broken_sets rec sets
broken_or_not false rec sets = sets

-- with other references
pub with_refs_sets : (rec : LeaseRec) (refs : List LeaseRef) → IsLeaseRec rec → IsListOf IsLeaseRef refs → IsLeaseRec (record rec { refs = refs })
with_refs_sets rec refs sets list = record {
  file = sets.file;
  held = sets.held;
  asked = sets.asked;
  needed = sets.needed;
  unbroken_asked = sets.unbroken_asked;
  unbroken_needed = sets.unbroken_needed;
  broken_asked = sets.broken_asked;
  broken_needed = sets.broken_needed;
  unbroken_until = sets.unbroken_until;
  broken_until = sets.broken_until;
  refs = list;
}

fewer : (p : LeaseRef → Bool) (refs : List LeaseRef) → IsListOf IsLeaseRef refs → IsListOf IsLeaseRef (filter p refs)
fewer p refs list = record {
  few = let le : length (filter p refs) ≤ length refs = length_filtered p refs in omega (arith, list.few);
  each = all_kept IsLeaseRef p refs list.each;
}

pub fewer_refs : (p : LeaseRef → Bool) (rec : LeaseRec) → IsLeaseRec rec → IsLeaseRec (record rec { refs = filter p rec.refs })
fewer_refs p rec sets = with_refs_sets rec (filter p rec.refs) sets (fewer p rec.refs sets.refs)

-- ---- a lease that is granted

all_push : {X : Type 0} (P : X → Type 0) (xs : List X) (x : X) → AllByRecursion P xs → P x → AllByRecursion P (xs ++ x ∷ [])
all_push P [] x all p = (p, tt)
all_push P (y ∷ ys) x all p = (all.0, all_push P ys x all.1 p)

pub pushed_sets : (ref : LeaseRef) (rec : LeaseRec) → IsLeaseRec rec → IsLeaseRef ref → length rec.refs + 1 < 2 ^ 32 → IsLeaseRec (with_ref ref rec)
pushed_sets ref rec sets is few = with_refs_sets rec (rec.refs ++ ref ∷ []) sets (record {
  few = subst IsU32 (sym (length-append rec.refs (ref ∷ []))) few;
  each = all_push IsLeaseRef rec.refs ref sets.refs.each is;
})

may_is : (alone : Bool) (state : LeaseState) → IsState state.0 → IsState (may_hold alone state)
may_is true state h = h
may_is false state h = state_and state.0 all_but_write h refl

new_sets : (file may : ℕ) → IsU32 file → IsState may → IsLeaseRec (new_lease file may)
new_sets file may is held = unbroken_sets file (record { 0 = may }) [] is held (record { few = omega arith; each = tt })

-- a lease that isn't breaking may hold any state
held_sets : (rec : LeaseRec) (held : LeaseState) → IsLeaseRec rec → rec.breaking ≡ false → IsState held.0 → IsLeaseRec (record rec { held = held })
held_sets rec held sets e is = record {
  file = sets.file;
  held = is;
  asked = sets.asked;
  needed = sets.needed;
  unbroken_asked = sets.unbroken_asked;
  unbroken_needed = sets.unbroken_needed;
  broken_asked = λ b. absurd cc;
  broken_needed = sets.broken_needed;
  unbroken_until = sets.unbroken_until;
  broken_until = sets.broken_until;
  refs = sets.refs;
}

not_breaking : (b c : Bool) → (not b && c) ≡ true → b ≡ false
not_breaking true c e = absurd cc
not_breaking false c e = refl

old_by : (g : Bool) (state : LeaseState) (may : ℕ) (rec : LeaseRec) → grows state rec ≡ g → IsLeaseRec rec → IsState may
    → IsLeaseRec (cond g (record rec { held = record { 0 = bit_or rec.held.0 may } }) rec)
old_by true state may rec e sets is = held_sets rec (record { 0 = bit_or rec.held.0 may }) sets (not_breaking rec.breaking (is_part_of rec.held.0 state.0) e) (state_or rec.held.0 may sets.held is)
old_by false state may rec e sets is = sets

with_sets : (file : ℕ) (state : LeaseState) (may : ℕ) (rec : LeaseRec) (refs : List LeaseRef) → IsU32 file → IsState may → IsLeaseRec rec → IsLeaseRec (lease_with file state may rec refs)
with_sets file state may rec [] is held sets = new_sets file may is held
with_sets file state may rec (ref ∷ refs) is held sets = old_by (grows state rec) state may rec refl sets held

by_sets : (file : ℕ) (state : LeaseState) (may : ℕ) (rec : Option LeaseRec) → IsU32 file → IsState may → IsRecord rec → IsLeaseRec (lease_by file state may rec)
by_sets file state may None is held sets = new_sets file may is held
by_sets file state may (Some rec) is held sets = with_sets file state may rec rec.refs is held sets

pub granted_sets : (file : ℕ) (state : LeaseState) (alone : Bool) (rec : Option LeaseRec) (ref : LeaseRef) → (lease_by file state (may_hold alone state) rec).refs ≡ refs_of rec
    → IsRecord rec → IsU32 file → IsState state.0 → IsLeaseRef ref → length (refs_of rec) + 1 < 2 ^ 32 → IsLeaseRec (with_ref ref (lease_by file state (may_hold alone state) rec))
granted_sets file state alone rec ref same sets is state_is ref_is few =
    pushed_sets ref (lease_by file state (may_hold alone state) rec) (by_sets file state (may_hold alone state) rec is (may_is alone state state_is) sets) ref_is
    (subst (λ (refs : List LeaseRef). length refs + 1 < 2 ^ 32) (sym same) few)
