-- A binary search by the order of keys ends at the key's place, or at the gap for it.
use Rattle.std.proofs.Common.{◌≡◌, ℕ, zero, suc, ◌+◌, ◌<◌, ◌≤◌, true, false, List, [], ◌∷◌, length, get_or, refl, ap, subst, arith, add-one}
use Rattle.std.specs.declared.cmp.Ordering.TheVariants.{Less, Equal, Greater}
use Rattle.std.specs.declared.cmp.Ordering.{Ordering}
use Rattle.std.specs.Ordering.{is_lt, ordering_index}
use Rattle.std.specs.List.Sorted.{IsNonDecreasingBy, IsSortedBy}
use Rattle.std.specs.FinMap.Entries.{below_all}
use Rattle.std.proofs.lemmas.Bool.{and_parts, and_from}
use Rattle.std.proofs.lemmas.List.Sorted.{searchable_from_sorted}
use Rattle.chain_map.specs.Pairs.{Pairs, byte_order, IsRising}
use Rattle.chain_map.specs.Place.{IsAt, IsGap, pair_at}
use Rattle.chain_map.proofs.Order.{total, same_key, turned}
use Rattle.chain_map.proofs.Place.{below_first, below_rest}

below_at : (key : List ℕ) (pairs : Pairs) (i : ℕ) (d : List ℕ × List ℕ) → below_all byte_order key pairs ≡ true → i < length pairs → byte_order key (get_or pairs i d).0 ≡ Less
below_at key [] i d below in_range = absurd (omega arith)
below_at key (pair ∷ pairs) zero d below in_range = below_first key pair pairs below
below_at key (pair ∷ pairs) (suc i) d below in_range = below_at key pairs i d (below_rest key pair pairs below) (omega arith)

-- no key is less than the one before it
in_order : (pairs : Pairs) (i : ℕ) (d : List ℕ × List ℕ) → IsRising pairs → suc i < length pairs → is_lt (byte_order (get_or pairs (suc i) d).0 (get_or pairs i d).0) ≡ false
in_order [] i d rising in_range = absurd (omega arith)
in_order (pair ∷ pairs) zero d rising in_range =
    rw (turned pair.0 (get_or pairs zero d).0 Less (below_at pair.0 pairs zero d (and_parts _ _ rising).0 (omega arith))) refl
in_order (pair ∷ pairs) (suc i) d rising in_range = in_order pairs i d (and_parts _ _ rising).1 (omega arith)

sorted_by_key : (pairs : Pairs) → IsRising pairs → IsSortedBy (λ a b. is_lt (byte_order a.0 b.0)) pairs
sorted_by_key pairs rising i d low in_range = rw add-one (in_order pairs i d rising (omega arith))

pub at_from : (key : List ℕ) (pairs : Pairs) (i : ℕ) (d : List ℕ × List ℕ) → IsRising pairs → i < length pairs → byte_order (get_or pairs i d).0 key ≡ Equal → IsAt key pairs i
at_from key [] i d rising in_range equal = absurd (omega arith)
at_from key (pair ∷ pairs) zero d rising in_range equal = turned pair.0 key Equal equal
at_from key (pair ∷ pairs) (suc i) d rising in_range equal =
    let less : byte_order pair.0 key ≡ Less = subst (λ k. byte_order pair.0 k ≡ Less) (same_key (get_or pairs i d).0 key equal) (below_at pair.0 pairs i d (and_parts _ _ rising).0 (omega arith)) in
    (turned pair.0 key Less less, at_from key pairs i d (and_parts _ _ rising).1 (omega arith) equal)

-- the key is below pairs whose keys are all greater
below_from : (key : List ℕ) (pairs : Pairs) → ((i : ℕ) → i < length pairs → byte_order (pair_at pairs i).0 key ≡ Greater) → below_all byte_order key pairs ≡ true
below_from key [] greater = refl
below_from key (pair ∷ pairs) greater =
    and_from _ _ (ap is_lt (turned pair.0 key Greater (greater 0 (omega arith)))) (below_from key pairs (λ i in_range. greater (suc i) (omega arith)))

-- the keys before this place are less than the sought one
abbrev pub AreLess : List ℕ → Pairs → ℕ → Type 0
AreLess key pairs place = (i : ℕ) → i < place → byte_order (pair_at pairs i).0 key ≡ Less

-- those from this place on are greater
abbrev pub AreGreater : List ℕ → Pairs → ℕ → Type 0
AreGreater key pairs place = (i : ℕ) → place ≤ i → i < length pairs → byte_order (pair_at pairs i).0 key ≡ Greater

pub gap_from : (key : List ℕ) (pairs : Pairs) (place : ℕ) → place ≤ length pairs → AreLess key pairs place → AreGreater key pairs place → IsGap key pairs place
gap_from key pairs zero in_range less greater = below_from key pairs (λ i here. greater i (omega arith) here)
gap_from key [] (suc place) in_range less greater = absurd (omega arith)
gap_from key (pair ∷ pairs) (suc place) in_range less greater = (
  turned pair.0 key Less (less 0 (omega arith)),
  gap_from key pairs place (omega arith) (λ i low. less (suc i) (omega arith)) (λ i high here. greater (suc i) (omega arith) (omega arith)),
)

-- the keys don't fall, as they stand to this one
rises : (key : List ℕ) (pairs : Pairs) → IsRising pairs → IsNonDecreasingBy (λ pair. ordering_index (byte_order pair.0 key)) pairs
rises key pairs rising = searchable_from_sorted total (λ (pair : List ℕ × List ℕ). pair.0) pairs key (sorted_by_key pairs rising)

least_index : (o : Ordering) → ordering_index o ≤ 0 → o ≡ Less
least_index Less l = refl
least_index Equal l = absurd (omega arith)
least_index Greater l = absurd (omega arith)

most_index : (o : Ordering) → 2 ≤ ordering_index o → o ≡ Greater
most_index Less l = absurd (omega arith)
most_index Equal l = absurd (omega arith)
most_index Greater l = refl

-- where a key is less than the sought one, those before it are
pub less_up_to : (key : List ℕ) (pairs : Pairs) (at : ℕ) → IsRising pairs → at < length pairs → byte_order (pair_at pairs at).0 key ≡ Less → AreLess key pairs (at + 1)
less_up_to key pairs at rising in_range less i low =
    let rise : ordering_index (byte_order (pair_at pairs i).0 key) ≤ ordering_index (byte_order (pair_at pairs at).0 key) = rises key pairs rising i at ([], []) (omega arith) in_range in
    least_index _ (subst (λ o. ordering_index (byte_order (pair_at pairs i).0 key) ≤ ordering_index o) less rise)

-- where a key is greater, those behind it are
pub greater_from : (key : List ℕ) (pairs : Pairs) (at : ℕ) → IsRising pairs → byte_order (pair_at pairs at).0 key ≡ Greater → AreGreater key pairs at
greater_from key pairs at rising greater i high here =
    let rise : ordering_index (byte_order (pair_at pairs at).0 key) ≤ ordering_index (byte_order (pair_at pairs i).0 key) = rises key pairs rising at i ([], []) high here in
    most_index _ (subst (λ o. ordering_index o ≤ ordering_index (byte_order (pair_at pairs i).0 key)) greater rise)
