-- A settled lease, by the parts of its record.
use Rattle.std.proofs.Common.{◌≡◌, suc, ◌<◌, ◌≤◌, Bool, true, false, cond, not, Some, List, [], ◌∷◌, length, refl, sym, ap, ◌∙◌, arith}
use Rattle.std.specs.Prelude.{◌↔◌}
use Rattle.std.specs.List.{filter, list_all, list_any}
use Rattle.record_codec.specs.declared.lease_rec.LeaseRef.{LeaseRef}
use Rattle.record_codec.specs.declared.lease_rec.LeaseRec.{LeaseRec}
use Rattle.record_codec.specs.Counts.{Records, is_connected, is_unanswered, ref_counts, with_refs, unless_empty, IsSettledLease, HasNoStalePart}
use Rattle.record_codec.proofs.Fields.{both}
use Rattle.record_codec.proofs.Sets.{and}

fewer : {A : Type 0} (p : A → Bool) (xs : List A) → length (filter p xs) ≤ length xs
fewer p [] = omega arith
fewer p (x ∷ xs) = go (p x) (fewer p xs) where
  go : (b : Bool) → length (filter p xs) ≤ length xs → length (cond b (x ∷ filter p xs) (filter p xs)) ≤ suc (length xs)
  go true h = omega (arith, h)
  go false h = omega (arith, h)

all_pass : {A : Type 0} (p : A → Bool) (xs : List A) → filter p xs ≡ xs → list_all p xs ≡ true
all_pass p [] e = refl
all_pass {A = A} p (x ∷ xs) e = go (p x) refl e (all_pass p xs) where
  go : (b : Bool) → p x ≡ b → cond b (x ∷ filter p xs) (filter p xs) ≡ x ∷ xs → (filter p xs ≡ xs → list_all p xs ≡ true) → list_all p (x ∷ xs) ≡ true
  go true t f others =
      let same : filter p xs ≡ xs = cc in
      and (p x) (list_all p xs) t (others same)
  go false t f others =
      let h = fewer p xs in
      let l : length (filter p xs) ≡ suc (length xs) = ap (λ (ys : List A). length ys) f in
      absurd (omega (arith, h, l))

stays : {A : Type 0} (p : A → Bool) (xs : List A) → list_all p xs ≡ true → filter p xs ≡ xs
stays p [] e = refl
stays p (x ∷ xs) e =
    let h = both (p x) (list_all p xs) e in
    rw (h.0, stays p xs h.1) refl

breaks : (records : Records) (lease : LeaseRec) → is_unanswered records lease ≡ true → lease.breaking ≡ true
breaks records lease e = (both lease.breaking (not (list_any (is_connected records) lease.refs)) e).0

to_parts : (records : Records) (lease : LeaseRec) → IsSettledLease records lease → HasNoStalePart records lease
to_parts records lease e = go (filter (ref_counts records lease) lease.refs) refl e where
  kept : (refs : List LeaseRef) (b : Bool) → is_unanswered records lease ≡ b → filter (ref_counts records lease) lease.refs ≡ refs → 0 < length refs → with_refs records lease refs ≡ lease → HasNoStalePart records lease
  kept refs true u f some w =
      let over : with_refs records lease refs ≡ record { file = lease.file; held = lease.needed; breaking = false; asked = record { 0 = 0 }; needed = record { 0 = 0 }; until = 0; refs = refs } = rw u refl in
      let no : false ≡ lease.breaking = ap (λ (l : LeaseRec). l.breaking) (sym over ∙ w) in
      let yes = breaks records lease u in
      absurd cc
  kept refs false u f some w =
      let same : with_refs records lease refs ≡ record lease { refs = refs } = rw u refl in
      let all : refs ≡ lease.refs = ap (λ (l : LeaseRec). l.refs) (sym same ∙ w) in
      record { answered = u; each_counts = all_pass (ref_counts records lease) lease.refs (f ∙ all); some = rw (← all) some }

  go : (refs : List LeaseRef) → filter (ref_counts records lease) lease.refs ≡ refs → unless_empty records lease refs ≡ Some lease → HasNoStalePart records lease
  go [] f h = absurd cc
  go (r ∷ refs) f h =
      let w : with_refs records lease (r ∷ refs) ≡ lease = cc in
      kept (r ∷ refs) (is_unanswered records lease) refl f (omega arith) w

some_refs : (records : Records) (lease : LeaseRec) (refs : List LeaseRef) → 0 < length refs → unless_empty records lease refs ≡ Some (with_refs records lease refs)
some_refs records lease [] lt = absurd (omega (arith, lt))
some_refs records lease (r ∷ refs) lt = refl

from_parts : (records : Records) (lease : LeaseRec) → HasNoStalePart records lease → IsSettledLease records lease
from_parts records lease p =
    let same : with_refs records lease lease.refs ≡ lease = rw p.answered refl in
    rw (stays (ref_counts records lease) lease.refs p.each_counts) (some_refs records lease lease.refs p.some ∙ ap (λ (l : LeaseRec). Some l) same)

pub settled : (records : Records) (lease : LeaseRec) → IsSettledLease records lease ↔ HasNoStalePart records lease
settled records lease = (to_parts records lease, from_parts records lease)
