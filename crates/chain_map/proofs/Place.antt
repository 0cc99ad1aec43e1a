-- What stands at a key's place, and what an edit there makes.
use Rattle.std.proofs.Common.{◌≡◌, ℕ, zero, suc, ◌<◌, ◌≤◌, true, false, List, [], ◌∷◌, length, get_or, set, refl, sym, ap, subst, ◌∙◌, Some, None, arith}
use Rattle.std.specs.declared.cmp.Ordering.{Ordering}
use Rattle.std.specs.declared.cmp.Ordering.TheVariants.{Less, Equal, Greater}
use Rattle.std.specs.Ordering.{is_eq}
use Rattle.std.specs.List.{insert, remove}
use Rattle.std.specs.FinMap.Entries.{below_all}
use Rattle.std.proofs.lemmas.Bool.{and_parts, both_ways}
use Rattle.chain_map.specs.Pairs.{Pairs, byte_order, IsRising, find, put, without}
use Rattle.chain_map.specs.Place.{IsAt, IsGap, pair_at}
use Rattle.chain_map.proofs.Order.{same_key, turned, less_from_test, equal_from_test}

-- a key is less than the first of those that it is below
pub below_first : (key : List ℕ) (pair : List ℕ × List ℕ) (pairs : Pairs) → below_all byte_order key (pair ∷ pairs) ≡ true → byte_order key pair.0 ≡ Less
below_first key pair pairs below = less_from_test _ (and_parts _ _ below).0

pub below_rest : (key : List ℕ) (pair : List ℕ × List ℕ) (pairs : Pairs) → below_all byte_order key (pair ∷ pairs) ≡ true → below_all byte_order key pairs ≡ true
below_rest key pair pairs below = (and_parts _ _ below).1

pub find_below : (key : List ℕ) (pairs : Pairs) → below_all byte_order key pairs ≡ true → find key pairs ≡ None
find_below key [] below = refl
find_below key (pair ∷ pairs) below = rw (below_first key pair pairs below) (find_below key pairs (below_rest key pair pairs below))

pub without_below : (key : List ℕ) (pairs : Pairs) → below_all byte_order key pairs ≡ true → without key pairs ≡ pairs
without_below key [] below = refl
without_below key (pair ∷ pairs) below = rw (below_first key pair pairs below) (ap (λ rest. pair ∷ rest) (without_below key pairs (below_rest key pair pairs below)))

-- at the key's place

pub IsAt-in_range : (key : List ℕ) (pairs : Pairs) (place : ℕ) → IsAt key pairs place → place < length pairs
IsAt-in_range key [] place at = absurd at
IsAt-in_range key (pair ∷ pairs) zero at = omega arith
IsAt-in_range key (pair ∷ pairs) (suc place) at = omega (arith, IsAt-in_range key pairs place at.1)

pub find_at : (key : List ℕ) (pairs : Pairs) (place : ℕ) (d : List ℕ × List ℕ) → IsAt key pairs place → find key pairs ≡ Some (get_or pairs place d).1
find_at key [] place d at = absurd at
find_at key (pair ∷ pairs) zero d at = rw at refl
find_at key (pair ∷ pairs) (suc place) d at = rw at.0 (find_at key pairs place d at.1)

pub set_at : (key value : List ℕ) (pairs : Pairs) (place : ℕ) → IsAt key pairs place → set pairs place (key, value) ≡ put key value pairs
set_at key value [] place at = absurd at
set_at key value (pair ∷ pairs) zero at = rw at (ap (λ (k : List ℕ). (k, value) ∷ pairs) (same_key key pair.0 at))
set_at key value (pair ∷ pairs) (suc place) at = rw at.0 (ap (λ rest. pair ∷ rest) (set_at key value pairs place at.1))

pub remove_at : (key : List ℕ) (pairs : Pairs) (place : ℕ) → IsRising pairs → IsAt key pairs place → remove pairs place ≡ without key pairs
remove_at key [] place rising at = absurd at
remove_at key (pair ∷ pairs) zero rising at =
    let below : below_all byte_order key pairs ≡ true = subst (λ k. below_all byte_order k pairs ≡ true) (sym (same_key key pair.0 at)) (and_parts _ _ rising).0 in
    rw at (sym (without_below key pairs below))
remove_at key (pair ∷ pairs) (suc place) rising at = rw at.0 (ap (λ rest. pair ∷ rest) (remove_at key pairs place (and_parts _ _ rising).1 at.1))

-- at a gap

pub IsGap-in_range : (key : List ℕ) (pairs : Pairs) (place : ℕ) → IsGap key pairs place → place ≤ length pairs
IsGap-in_range key pairs zero gap = omega arith
IsGap-in_range key [] (suc place) gap = absurd gap
IsGap-in_range key (pair ∷ pairs) (suc place) gap = omega (arith, IsGap-in_range key pairs place gap.1)

pub find_gap : (key : List ℕ) (pairs : Pairs) (place : ℕ) → IsGap key pairs place → find key pairs ≡ None
find_gap key pairs zero gap = find_below key pairs gap
find_gap key [] (suc place) gap = absurd gap
find_gap key (pair ∷ pairs) (suc place) gap = rw gap.0 (find_gap key pairs place gap.1)

pub without_gap : (key : List ℕ) (pairs : Pairs) (place : ℕ) → IsGap key pairs place → without key pairs ≡ pairs
without_gap key pairs zero gap = without_below key pairs gap
without_gap key [] (suc place) gap = absurd gap
without_gap key (pair ∷ pairs) (suc place) gap = rw gap.0 (ap (λ rest. pair ∷ rest) (without_gap key pairs place gap.1))

pub insert_gap : (key value : List ℕ) (pairs : Pairs) (place : ℕ) → IsGap key pairs place → insert pairs place (key, value) ≡ put key value pairs
insert_gap key value [] zero gap = refl
insert_gap key value (pair ∷ pairs) zero gap = rw (below_first key pair pairs gap) refl
insert_gap key value [] (suc place) gap = absurd gap
insert_gap key value (pair ∷ pairs) (suc place) gap = rw gap.0 (ap (λ rest. pair ∷ rest) (insert_gap key value pairs place gap.1))

-- ---- the pair at a place, as a read of it says

pub pair_at_from : (xs ys : Pairs) (at : ℕ) (pair : List ℕ × List ℕ) → xs ≡ ys → at < length ys → pair ≡ get_or xs at pair → pair ≡ pair_at ys at
pair_at_from xs ys at pair same in_range is = is ∙ ap (λ pairs. get_or pairs at pair) same ∙ default ys at pair in_range
  where
    default : (ys : Pairs) (at : ℕ) (pair : List ℕ × List ℕ) → at < length ys → get_or ys at pair ≡ get_or ys at ([], [])
    default [] at pair in_range = absurd (omega arith)
    default (y ∷ ys) zero pair in_range = refl
    default (y ∷ ys) (suc at) pair in_range = default ys at pair (omega arith)

-- ---- one pair alone, as a comparison of its key answers

pub at_one : (key : List ℕ) (pair : List ℕ × List ℕ) (o : Ordering) → o ≡ byte_order pair.0 key → is_eq o ≡ true → IsAt key (pair ∷ []) 0
at_one key pair o e t = turned pair.0 key Equal (sym e ∙ equal_from_test o t)

pub not_one : (key : List ℕ) (pair : List ℕ × List ℕ) (o : Ordering) → o ≡ byte_order pair.0 key → is_eq o ≡ false → (find key (pair ∷ []) ≡ None) × (without key (pair ∷ []) ≡ pair ∷ [])
not_one key pair Less e t = let other : byte_order key pair.0 ≡ Greater = turned pair.0 key Less (sym e) in (rw other refl, rw other refl)
not_one key pair Equal e t = absurd (both_ways _ t refl)
not_one key pair Greater e t = let other : byte_order key pair.0 ≡ Less = turned pair.0 key Greater (sym e) in (rw other refl, rw other refl)
