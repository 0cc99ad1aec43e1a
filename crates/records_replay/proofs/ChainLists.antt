-- Chains by their numbers, in lists as rules see them and as records do.
use Rattle.std.proofs.Common.{◌≡◌, ℕ, zero, suc, ◌+◌, ◌*◌, ◌/◌, ◌≤◌, Bool, true, false, cond, eqb, ◌||◌, List, [], ◌∷◌, length, filter, refl, sym, ap, arith, inl, inr}
use mathlib.Core.Option.{some, some-ne-none, some-injective}
use lib.ListN.{get_elem?}
use Rattle.std.specs.List.{AllByRecursion}
use Rattle.std.proofs.lemmas.Bool.{eqb-true, eq-eqb}
use Rattle.serial_table.proofs.Members.{IsIn, all_by}
use Rattle.stored_table.specs.Footprint.{has_number}
use Rattle.stored_table.specs.Met.{count_from}
use Rattle.stored_table.specs.Places.{Chains, HasChains, chain_at}
use Rattle.turn_types.specs.Journal.{Agree, RiseWithin, has}

-- ---- numbers in lists

pub has_of : (c : ℕ) (cs : List ℕ) → IsIn c cs → has c cs ≡ true
has_of c [] i = absurd i
has_of c (d ∷ ds) (inl e) = ap (λ b. cond b true (has c ds)) (eq-eqb d c e)
has_of c (d ∷ ds) (inr i) = by (eqb d c) (has_of c ds i)
  where
    by : (b : Bool) → has c ds ≡ true → cond b true (has c ds) ≡ true
    by true h = refl
    by false h = h

pub same_has : (c : ℕ) (cs : List ℕ) → has_number cs c ≡ has c cs
same_has c [] = refl
same_has c (d ∷ ds) = by (eqb d c) (same_has c ds)
  where
    by : (b : Bool) → has_number ds c ≡ has c ds → (b || has_number ds c) ≡ cond b true (has c ds)
    by true h = refl
    by false h = h

-- those that pass rise as all do
pub rise_filtered : (p : ℕ → Bool) (low top m : ℕ) (from : ℕ) → low ≤ from → from + m ≤ top → RiseWithin low top (filter p (count_from from m))
rise_filtered p low top zero from h g = tt
rise_filtered p low top (suc m) from h g = by (p from) (rise_filtered p (from + 1) top m (suc from) (omega arith) (omega arith)) (rise_filtered p low top m (suc from) (omega arith) (omega arith))
  where
    by : (b : Bool) → RiseWithin (from + 1) top (filter p (count_from (suc from) m)) → RiseWithin low top (filter p (count_from (suc from) m))
        → RiseWithin low top (cond b (from ∷ filter p (count_from (suc from) m)) (filter p (count_from (suc from) m)))
    by true above rest = (h, omega arith, above)
    by false above rest = rest

-- ---- chains

pub chain_of_elem : (k l : Chains) (c : ℕ) → get_elem? k c ≡ get_elem? l c → chain_at k c ≡ chain_at l c
chain_of_elem [] [] c e = refl
chain_of_elem [] (y ∷ l) zero e = absurd (some-ne-none y (sym e))
chain_of_elem [] (y ∷ l) (suc c) e = chain_of_elem [] l c e
chain_of_elem (x ∷ k) [] zero e = absurd (some-ne-none x e)
chain_of_elem (x ∷ k) [] (suc c) e = chain_of_elem k [] c e
chain_of_elem (x ∷ k) (y ∷ l) zero e = some-injective x y e
chain_of_elem (x ∷ k) (y ∷ l) (suc c) e = chain_of_elem k l c e

pub elem_of_chain : (k l : Chains) (c : ℕ) → length k ≡ length l → chain_at k c ≡ chain_at l c → get_elem? k c ≡ get_elem? l c
elem_of_chain [] [] c n e = refl
elem_of_chain [] (y ∷ l) c n e = absurd (omega arith)
elem_of_chain (x ∷ k) [] c n e = absurd (omega arith)
elem_of_chain (x ∷ k) (y ∷ l) zero n e = ap some e
elem_of_chain (x ∷ k) (y ∷ l) (suc c) n e = elem_of_chain k l c (omega arith) e

pub all_agree : (k l : Chains) (cs : List ℕ) → Agree cs k l → AllByRecursion (λ c. chain_at k c ≡ chain_at l c) cs
all_agree k l cs agree = all_by (λ c. chain_at k c ≡ chain_at l c) cs (λ c i. chain_of_elem k l c (agree c (has_of c cs i)))

pub sevenths : (n : ℕ) (k : Chains) → HasChains n k → length k / 7 ≡ n
sevenths n k has = let e : length k ≡ 7 * n = has.count in omega arith

pub in_has : (c : ℕ) (cs : List ℕ) → has c cs ≡ true → IsIn c cs
in_has c [] e = absurd cc
in_has c (d ∷ ds) e = by (eqb d c) refl e (in_has c ds)
  where
    by : (b : Bool) → eqb d c ≡ b → cond b true (has c ds) ≡ true → (has c ds ≡ true → IsIn c ds) → IsIn c (d ∷ ds)
    by true is h rest = inl (eqb-true d c is)
    by false is h rest = inr (rest h)

-- There is no chain behind the last.
pub none_behind : (k : Chains) (c : ℕ) → length k ≤ c → chain_at k c ≡ []
none_behind [] c h = refl
none_behind (x ∷ k) zero h = absurd (omega arith)
none_behind (x ∷ k) (suc c) h = none_behind k c (omega arith)
