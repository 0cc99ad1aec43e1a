-- The leaf in which a key is at home, and what a change of that leaf makes of all pairs.
use Rattle.std.proofs.Common.{◌≡◌, ℕ, zero, suc, ◌+◌, ◌-◌, ◌<◌, ◌≤◌, ◌==◌, true, false, not, List, [], ◌∷◌, ◌++◌, length, get_or, set, refl, sym, ap, subst, ◌∙◌, Some, None, Option, append_assoc, append-nil, add-one, arith}
use Rattle.std.specs.declared.cmp.Ordering.{Ordering}
use Rattle.std.specs.declared.cmp.Ordering.TheVariants.{Less, Equal, Greater}
use Rattle.std.specs.Ordering.{is_le, is_lt, is_gt}
use Rattle.std.specs.List.{insert, remove, AllWithin}
use Rattle.std.specs.List.Sorted.{IsPartitionedBy}
use Rattle.std.specs.FinMap.Entries.{below_all}
use Rattle.std.proofs.lemmas.Bool.{and_parts, and_from, false≢true, true≢false}
use Rattle.std.proofs.lemmas.Map.Views.{exact_unsigned_eq}
use Rattle.chain_map.specs.Pairs.{Pairs, byte_order, IsRising, find, put, without}
use Rattle.chain_map.specs.Leaves.{joined, has_pairs, both, both_have_pairs, IsFilled, starts_by, above_all, IsHome, spliced}
use Rattle.chain_map.proofs.Order.{total, same_key, turned}
use Rattle.chain_map.proofs.Place.{below_first, below_rest, find_below, without_below}

greater_from_test : (o : Ordering) → is_gt o ≡ true → o ≡ Greater
greater_from_test Less e = absurd (false≢true e)
greater_from_test Equal e = absurd (false≢true e)
greater_from_test Greater e = refl

greater_from_le : (o : Ordering) → is_le o ≡ false → o ≡ Greater
greater_from_le Less e = absurd (true≢false e)
greater_from_le Equal e = absurd (true≢false e)
greater_from_le Greater e = refl

-- below a key that is this one or less
le_chain : (x y key : List ℕ) → byte_order x y ≡ Less → is_le (byte_order y key) ≡ true → byte_order x key ≡ Less
le_chain x y key less le = go (byte_order y key) refl le
  where
    go : (o : Ordering) → byte_order y key ≡ o → is_le o ≡ true → byte_order x key ≡ Less
    go Less e le = total.trans x y key less e
    go Equal e le = subst (λ k. byte_order x k ≡ Less) (same_key y key e) less
    go Greater e le = absurd (false≢true le)

pub below_less : (x y : List ℕ) (pairs : Pairs) → byte_order x y ≡ Less → below_all byte_order y pairs ≡ true → below_all byte_order x pairs ≡ true
below_less x y [] less below = refl
below_less x y (pair ∷ pairs) less below =
    and_from _ _ (ap is_lt (total.trans x y pair.0 less (below_first y pair pairs below))) (below_less x y pairs less (below_rest y pair pairs below))

above_first : (key : List ℕ) (pair : List ℕ × List ℕ) (pairs : Pairs) → above_all key (pair ∷ pairs) ≡ true → byte_order key pair.0 ≡ Greater
above_first key pair pairs above = greater_from_test _ (and_parts _ _ above).0

above_rest : (key : List ℕ) (pair : List ℕ × List ℕ) (pairs : Pairs) → above_all key (pair ∷ pairs) ≡ true → above_all key pairs ≡ true
above_rest key pair pairs above = (and_parts _ _ above).1

-- parts of a rising list

below_front : (key : List ℕ) (xs ys : Pairs) → below_all byte_order key (xs ++ ys) ≡ true → below_all byte_order key xs ≡ true
below_front key [] ys below = refl
below_front key (x ∷ xs) ys below = and_from _ _ (and_parts _ _ below).0 (below_front key xs ys (and_parts _ _ below).1)

below_back : (key : List ℕ) (xs ys : Pairs) → below_all byte_order key (xs ++ ys) ≡ true → below_all byte_order key ys ≡ true
below_back key [] ys below = below
below_back key (x ∷ xs) ys below = below_back key xs ys (and_parts _ _ below).1

pub IsRising-front : (xs ys : Pairs) → IsRising (xs ++ ys) → IsRising xs
IsRising-front [] ys rising = refl
IsRising-front (x ∷ xs) ys rising = and_from _ _ (below_front x.0 xs ys (and_parts _ _ rising).0) (IsRising-front xs ys (and_parts _ _ rising).1)

pub IsRising-back : (xs ys : Pairs) → IsRising (xs ++ ys) → IsRising ys
IsRising-back [] ys rising = rising
IsRising-back (x ∷ xs) ys rising = IsRising-back xs ys (and_parts _ _ rising).1

-- a key that is at least the first of what follows is above what comes before
above_front : (key : List ℕ) (xs : Pairs) (q : List ℕ × List ℕ) (ys : Pairs) → IsRising (xs ++ q ∷ ys) → is_le (byte_order q.0 key) ≡ true → above_all key xs ≡ true
above_front key [] q ys rising le = refl
above_front key (x ∷ xs) q ys rising le =
    let less : byte_order x.0 key ≡ Less = le_chain x.0 q.0 key (below_first x.0 q ys (below_back x.0 xs (q ∷ ys) (and_parts _ _ rising).0)) le in
    and_from _ _ (ap is_gt (turned x.0 key Less less)) (above_front key xs q ys (and_parts _ _ rising).1 le)

-- the search for the leaf

starts_by_first : (key x : List ℕ) (leaves : List Pairs) (i : ℕ) (d : Pairs) → below_all byte_order x (joined leaves) ≡ true → IsFilled leaves → i < length leaves → starts_by key (get_or leaves i d) ≡ true → is_le (byte_order x key) ≡ true
starts_by_first key x [] i d below filled in_range starts = absurd (omega arith)
starts_by_first key x ([] ∷ leaves) i d below filled in_range starts = absurd (false≢true filled.0)
starts_by_first key x ((pair ∷ pairs) ∷ leaves) zero d below filled in_range starts =
    ap is_le (le_chain x pair.0 key (below_first x pair (pairs ++ joined leaves) below) starts)
starts_by_first key x ((pair ∷ pairs) ∷ leaves) (suc i) d below filled in_range starts =
    starts_by_first key x leaves i d (below_back x (pair ∷ pairs) (joined leaves) below) filled.1 (omega arith) starts

pub partitioned : (key : List ℕ) (leaves : List Pairs) → IsRising (joined leaves) → IsFilled leaves → IsPartitionedBy (starts_by key) leaves
partitioned key [] rising filled i j d le in_range starts = absurd (omega arith)
partitioned key ([] ∷ leaves) rising filled i j d le in_range starts = absurd (false≢true filled.0)
partitioned key ((pair ∷ pairs) ∷ leaves) rising filled zero zero d le in_range starts = starts
partitioned key ((pair ∷ pairs) ∷ leaves) rising filled zero (suc j) d le in_range starts =
    starts_by_first key pair.0 leaves j d (below_back pair.0 pairs (joined leaves) (and_parts _ _ rising).0) filled.1 (omega arith) starts
partitioned key ((pair ∷ pairs) ∷ leaves) rising filled (suc i) zero d le in_range starts = absurd (omega arith)
partitioned key ((pair ∷ pairs) ∷ leaves) rising filled (suc i) (suc j) d le in_range starts =
    partitioned key leaves (IsRising-back (pair ∷ pairs) (joined leaves) rising) filled.1 i j d (omega arith) (omega arith) starts

-- where the first leaf starts above the key, so do all
pub below_leaves : (key : List ℕ) (leaves : List Pairs) → IsRising (joined leaves) → IsFilled leaves → ((d : Pairs) → 0 < length leaves → starts_by key (get_or leaves 0 d) ≡ false) → below_all byte_order key (joined leaves) ≡ true
below_leaves key [] rising filled after = refl
below_leaves key ([] ∷ leaves) rising filled after = absurd (false≢true filled.0)
below_leaves key ((pair ∷ pairs) ∷ leaves) rising filled after =
    let less : byte_order key pair.0 ≡ Less = turned pair.0 key Greater (greater_from_le _ (after [] (omega arith))) in
    and_from _ _ (ap is_lt less) (below_less key pair.0 (pairs ++ joined leaves) less (and_parts _ _ rising).0)

pub home_at : (key : List ℕ) (leaves : List Pairs) (i : ℕ) → IsRising (joined leaves) → IsFilled leaves → i < length leaves →
    ((j : ℕ) (d : Pairs) → j ≤ i → starts_by key (get_or leaves j d) ≡ true) →
    ((d : Pairs) → suc i < length leaves → starts_by key (get_or leaves (suc i) d) ≡ false) → IsHome key leaves i
home_at key [] i rising filled in_range before after = absurd (omega arith)
home_at key (leaf ∷ leaves) zero rising filled in_range before after =
    below_leaves key leaves (IsRising-back leaf (joined leaves) rising) filled.1 (λ d some. after d (omega arith))
home_at key (leaf ∷ []) (suc i) rising filled in_range before after = absurd (omega arith)
home_at key (leaf ∷ ([] ∷ leaves)) (suc i) rising filled in_range before after = absurd (false≢true filled.1.0)
home_at key (leaf ∷ ((pair ∷ pairs) ∷ leaves)) (suc i) rising filled in_range before after = (
  above_front key leaf pair (pairs ++ joined leaves) rising (before 1 [] (omega arith)),
  home_at key ((pair ∷ pairs) ∷ leaves) i (IsRising-back leaf (joined ((pair ∷ pairs) ∷ leaves)) rising) filled.1 (omega arith)
      (λ j d low. before (suc j) d (omega arith)) (λ d some. after d (omega arith)),
)

pub IsHome-in_range : (key : List ℕ) (leaves : List Pairs) (i : ℕ) → IsHome key leaves i → i < length leaves
IsHome-in_range key [] i home = absurd home
IsHome-in_range key (leaf ∷ leaves) zero home = omega arith
IsHome-in_range key (leaf ∷ leaves) (suc i) home = omega (arith, IsHome-in_range key leaves i home.1)

-- a look-up, a put and a removal beside smaller and greater keys

find-above : (key : List ℕ) (xs ys : Pairs) → above_all key xs ≡ true → find key (xs ++ ys) ≡ find key ys
find-above key [] ys above = refl
find-above key (x ∷ xs) ys above = rw (above_first key x xs above) (find-above key xs ys (above_rest key x xs above))

find-below : (key : List ℕ) (xs ys : Pairs) → below_all byte_order key ys ≡ true → find key (xs ++ ys) ≡ find key xs
find-below key [] ys below = find_below key ys below
find-below key (x ∷ xs) ys below = rw (find-below key xs ys below) refl

put-above : (key value : List ℕ) (xs ys : Pairs) → above_all key xs ≡ true → put key value (xs ++ ys) ≡ xs ++ put key value ys
put-above key value [] ys above = refl
put-above key value (x ∷ xs) ys above = rw (above_first key x xs above) (ap (λ rest. x ∷ rest) (put-above key value xs ys (above_rest key x xs above)))

pub put-front : (key value : List ℕ) (ys : Pairs) → below_all byte_order key ys ≡ true → put key value ys ≡ (key, value) ∷ ys
put-front key value [] below = refl
put-front key value (y ∷ ys) below = rw (below_first key y ys below) refl

put-below_more : (key value : List ℕ) (x : List ℕ × List ℕ) (xs ys : Pairs) → put key value (xs ++ ys) ≡ put key value xs ++ ys → put key value ((x ∷ xs) ++ ys) ≡ put key value (x ∷ xs) ++ ys
put-below_more key value x xs ys rest = go (byte_order key x.0) refl
  where
    go : (o : Ordering) → byte_order key x.0 ≡ o → put key value ((x ∷ xs) ++ ys) ≡ put key value (x ∷ xs) ++ ys
    go Less e = rw e refl
    go Equal e = rw e refl
    go Greater e = rw e (ap (λ more. x ∷ more) rest)

put-below : (key value : List ℕ) (xs ys : Pairs) → below_all byte_order key ys ≡ true → put key value (xs ++ ys) ≡ put key value xs ++ ys
put-below key value [] ys below = put-front key value ys below
put-below key value (x ∷ xs) ys below = put-below_more key value x xs ys (put-below key value xs ys below)

without-above : (key : List ℕ) (xs ys : Pairs) → above_all key xs ≡ true → without key (xs ++ ys) ≡ xs ++ without key ys
without-above key [] ys above = refl
without-above key (x ∷ xs) ys above = rw (above_first key x xs above) (ap (λ rest. x ∷ rest) (without-above key xs ys (above_rest key x xs above)))

without-below_more : (key : List ℕ) (x : List ℕ × List ℕ) (xs ys : Pairs) → without key (xs ++ ys) ≡ without key xs ++ ys → without key ((x ∷ xs) ++ ys) ≡ without key (x ∷ xs) ++ ys
without-below_more key x xs ys rest = go (byte_order key x.0) refl
  where
    go : (o : Ordering) → byte_order key x.0 ≡ o → without key ((x ∷ xs) ++ ys) ≡ without key (x ∷ xs) ++ ys
    go Less e = rw e (ap (λ more. x ∷ more) rest)
    go Equal e = rw e rest
    go Greater e = rw e (ap (λ more. x ∷ more) rest)

without-below : (key : List ℕ) (xs ys : Pairs) → below_all byte_order key ys ≡ true → without key (xs ++ ys) ≡ without key xs ++ ys
without-below key [] ys below = without_below key ys below
without-below key (x ∷ xs) ys below = without-below_more key x xs ys (without-below key xs ys below)

-- the leaf decides for all

pub find_home : (key : List ℕ) (leaves : List Pairs) (i : ℕ) (d : Pairs) → IsHome key leaves i → find key (joined leaves) ≡ find key (get_or leaves i d)
find_home key [] i d home = absurd home
find_home key (leaf ∷ leaves) zero d home = find-below key leaf (joined leaves) home
find_home key (leaf ∷ leaves) (suc i) d home = find-above key leaf (joined leaves) home.0 ∙ find_home key leaves i d home.1

pub put_home : (key value : List ℕ) (leaves : List Pairs) (i : ℕ) (d new : Pairs) → IsHome key leaves i → new ≡ put key value (get_or leaves i d) → joined (set leaves i new) ≡ put key value (joined leaves)
put_home key value [] i d new home is = absurd home
put_home key value (leaf ∷ leaves) zero d new home is = rw is (sym (put-below key value leaf (joined leaves) home))
put_home key value (leaf ∷ leaves) (suc i) d new home is =
    ap (λ rest. leaf ++ rest) (put_home key value leaves i d new home.1 is) ∙ sym (put-above key value leaf (joined leaves) home.0)

pub without_home : (key : List ℕ) (leaves : List Pairs) (i : ℕ) (d new : Pairs) → IsHome key leaves i → new ≡ without key (get_or leaves i d) → joined (set leaves i new) ≡ without key (joined leaves)
without_home key [] i d new home is = absurd home
without_home key (leaf ∷ leaves) zero d new home is = rw is (sym (without-below key leaf (joined leaves) home))
without_home key (leaf ∷ leaves) (suc i) d new home is =
    ap (λ rest. leaf ++ rest) (without_home key leaves i d new home.1 is) ∙ sym (without-above key leaf (joined leaves) home.0)

pub IsFilled-set : (leaves : List Pairs) (i : ℕ) (new : Pairs) → IsFilled leaves → has_pairs new ≡ true → IsFilled (set leaves i new)
IsFilled-set [] i new filled some = tt
IsFilled-set (leaf ∷ leaves) zero new filled some = (some, filled.1)
IsFilled-set (leaf ∷ leaves) (suc i) new filled some = (filled.0, IsFilled-set leaves i new filled.1 some)

pub IsFilled-insert : (leaves : List Pairs) (i : ℕ) (new : Pairs) → IsFilled leaves → has_pairs new ≡ true → IsFilled (insert leaves i new)
IsFilled-insert leaves zero new filled some = (some, filled)
IsFilled-insert [] (suc i) new filled some = (some, tt)
IsFilled-insert (leaf ∷ leaves) (suc i) new filled some = (filled.0, IsFilled-insert leaves i new filled.1 some)

-- the leaf that was changed goes
pub IsFilled-remove : (leaves : List Pairs) (i : ℕ) (new : Pairs) → IsFilled leaves → IsFilled (remove (set leaves i new) i)
IsFilled-remove [] zero new filled = tt
IsFilled-remove [] (suc i) new filled = tt
IsFilled-remove (leaf ∷ leaves) zero new filled = filled.1
IsFilled-remove (leaf ∷ leaves) (suc i) new filled = (filled.0, IsFilled-remove leaves i new filled.1)

pub has_pairs-put : (key value : List ℕ) (xs : Pairs) → has_pairs (put key value xs) ≡ true
has_pairs-put key value [] = refl
has_pairs-put key value (x ∷ xs) = go (byte_order key x.0) refl
  where
    go : (o : Ordering) → byte_order key x.0 ≡ o → has_pairs (put key value (x ∷ xs)) ≡ true
    go Less e = rw e refl
    go Equal e = rw e refl
    go Greater e = rw e refl

pub has_pairs_some : (xs : Pairs) → 0 < length xs → has_pairs xs ≡ true
has_pairs_some [] some = absurd (omega arith)
has_pairs_some (x ∷ xs) some = refl

-- the place before the first leaf that starts above the key, or the first place

first_home : (key : List ℕ) (leaves : List Pairs) → below_all byte_order key (joined leaves) ≡ true → 0 < length leaves → IsHome key leaves 0
first_home key [] below some = absurd (omega arith)
first_home key (leaf ∷ leaves) below some = below_back key leaf (joined leaves) below

pub home_found : (key : List ℕ) (leaves : List Pairs) → IsRising (joined leaves) → IsFilled leaves → (n : ℕ) → AllWithin (λ leaf. starts_by key leaf ≡ true) leaves 0 n →
    AllWithin (λ leaf. starts_by key leaf ≡ false) leaves n (length leaves) → n ≤ length leaves → 0 < length leaves → IsHome key leaves (n - 1)
home_found key leaves rising filled zero low high bound some =
    first_home key leaves (below_leaves key leaves rising filled (λ d more. high 0 d (omega arith) more)) some
home_found key leaves rising filled (suc n) low high bound some =
    subst (IsHome key leaves) (omega arith)
    (home_at key leaves n rising filled (omega arith) (λ j d le. low j d (omega arith) (omega arith)) (λ d more. high (suc n) d (omega arith) more))

-- one leaf or two, with the pair put

pub IsFilled-spliced : (leaves : List Pairs) (i : ℕ) (left : Pairs) (next : Option Pairs) → IsFilled leaves → both_have_pairs left next ≡ true → IsFilled (spliced leaves i left next)
IsFilled-spliced leaves i left None filled some = IsFilled-set leaves i left filled some
IsFilled-spliced leaves i left (Some right) filled some =
    IsFilled-set (insert leaves (i + 1) right) i left (IsFilled-insert leaves (i + 1) right filled (and_parts _ _ some).1) (and_parts _ _ some).0

-- the leaf's own pairs, in one leaf or in two

joined_set : (leaves : List Pairs) (i : ℕ) (left : Pairs) → left ≡ get_or leaves i [] → joined (set leaves i left) ≡ joined leaves
joined_set [] i left same = refl
joined_set (leaf ∷ leaves) zero left same = ap (λ first. first ++ joined leaves) same
joined_set (leaf ∷ leaves) (suc i) left same = ap (λ rest. leaf ++ rest) (joined_set leaves i left same)

joined_two : (leaves : List Pairs) (i : ℕ) (left right : Pairs) → i < length leaves → left ++ right ≡ get_or leaves i [] → joined (set (insert leaves (suc i) right) i left) ≡ joined leaves
joined_two [] i left right in_range same = absurd (omega arith)
joined_two (leaf ∷ leaves) zero left right in_range same =
    let regrouped : left ++ (right ++ joined leaves) ≡ (left ++ right) ++ joined leaves = simp append_assoc in
    regrouped ∙ ap (λ first. first ++ joined leaves) same
joined_two (leaf ∷ leaves) (suc i) left right in_range same = ap (λ rest. leaf ++ rest) (joined_two leaves i left right (omega arith) same)

pub joined_spliced : (leaves : List Pairs) (i : ℕ) (left : Pairs) (next : Option Pairs) → i < length leaves → both left next ≡ get_or leaves i [] → joined (spliced leaves i left next) ≡ joined leaves
joined_spliced leaves i left None in_range same = joined_set leaves i left same
joined_spliced leaves i left (Some right) in_range same = rw add-one (joined_two leaves i left right in_range same)

length_two : (leaves : List Pairs) (i : ℕ) (left right : Pairs) → i < length leaves → length (set (insert leaves (suc i) right) i left) ≡ length leaves + 1
length_two [] i left right in_range = absurd (omega arith)
length_two (leaf ∷ leaves) zero left right in_range = omega arith
length_two (leaf ∷ leaves) (suc i) left right in_range = omega (arith, length_two leaves i left right (omega arith))

length_one : (leaves : List Pairs) (i : ℕ) (left : Pairs) → length (set leaves i left) ≡ length leaves
length_one [] i left = refl
length_one (leaf ∷ leaves) zero left = refl
length_one (leaf ∷ leaves) (suc i) left = ap suc (length_one leaves i left)

pub length-spliced : (leaves : List Pairs) (i : ℕ) (left : Pairs) (next : Option Pairs) → i < length leaves → length (spliced leaves i left next) ≤ length leaves + 1
length-spliced leaves i left None in_range = omega (arith, length_one leaves i left)
length-spliced leaves i left (Some right) in_range = rw add-one (omega (arith, length_two leaves i left right in_range))

pub no_pairs : (xs : Pairs) → not (has_pairs xs) ≡ true → xs ≡ []
no_pairs [] none = refl
no_pairs (x ∷ xs) none = absurd (false≢true none)

pub some_pairs : (xs : Pairs) → not (has_pairs xs) ≡ false → has_pairs xs ≡ true
some_pairs [] some = absurd (true≢false some)
some_pairs (x ∷ xs) some = refl

-- a leaf that was emptied goes
pub joined-remove_set : (leaves : List Pairs) (i : ℕ) → joined (remove (set leaves i []) i) ≡ joined (set leaves i [])
joined-remove_set [] zero = refl
joined-remove_set [] (suc i) = refl
joined-remove_set (leaf ∷ leaves) zero = refl
joined-remove_set (leaf ∷ leaves) (suc i) = ap (λ rest. leaf ++ rest) (joined-remove_set leaves i)

pub filled_at : (leaves : List Pairs) (i : ℕ) (d : Pairs) → IsFilled leaves → i < length leaves → has_pairs (get_or leaves i d) ≡ true
filled_at [] i d filled in_range = absurd (omega arith)
filled_at (leaf ∷ leaves) zero d filled in_range = filled.0
filled_at (leaf ∷ leaves) (suc i) d filled in_range = filled_at leaves i d filled.1 (omega arith)

-- a leaf more at the end

pub joined-snoc : (leaves : List Pairs) (leaf : Pairs) → joined (leaves ++ leaf ∷ []) ≡ joined leaves ++ leaf
joined-snoc [] leaf = append-nil leaf
joined-snoc (first ∷ leaves) leaf =
    let regrouped : first ++ (joined leaves ++ leaf) ≡ (first ++ joined leaves) ++ leaf = simp append_assoc in
    ap (λ rest. first ++ rest) (joined-snoc leaves leaf) ∙ regrouped

pub IsFilled-snoc : (leaves : List Pairs) (leaf : Pairs) → IsFilled leaves → has_pairs leaf ≡ true → IsFilled (leaves ++ leaf ∷ [])
IsFilled-snoc [] leaf filled some = (some, tt)
IsFilled-snoc (first ∷ leaves) leaf filled some = (filled.0, IsFilled-snoc leaves leaf filled.1 some)

pub remove-set : (leaves : List Pairs) (i : ℕ) (new : Pairs) → remove (set leaves i new) i ≡ remove leaves i
remove-set [] zero new = refl
remove-set [] (suc i) new = refl
remove-set (leaf ∷ leaves) zero new = refl
remove-set (leaf ∷ leaves) (suc i) new = ap (λ rest. leaf ∷ rest) (remove-set leaves i new)

pub filled_from_test : (xs ys : Pairs) → (length ys == 0) ≡ false → ys ≡ xs → has_pairs xs ≡ true
filled_from_test xs ys test same = subst (λ zs. has_pairs zs ≡ true) same (go ys test)
  where
    go : (ys : Pairs) → (length ys == 0) ≡ false → has_pairs ys ≡ true
    go [] test = absurd (true≢false test)
    go (y ∷ ys) test = refl

pub empty_from_test : (xs ys : Pairs) → (length ys == 0) ≡ true → ys ≡ xs → xs ≡ []
empty_from_test xs ys test same = sym same ∙ go ys (exact_unsigned_eq (length ys) 0 test)
  where
    go : (ys : Pairs) → length ys ≡ 0 → ys ≡ []
    go [] none = refl
    go (y ∷ ys) none = absurd (omega arith)

pub only_home : (key : List ℕ) (leaves : List Pairs) → length leaves ≡ 1 → IsHome key leaves 0
only_home key [] one = absurd (omega arith)
only_home key (leaf ∷ []) one = refl
only_home key (leaf ∷ (next ∷ leaves)) one = absurd (omega arith)
