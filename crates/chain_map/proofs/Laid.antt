-- Pairs that are put over others: what look-ups find, and that moving a pair down changes nothing.
use Rattle.std.proofs.Common.{◌≡◌, ℕ, ◌<◌, Bool, true, false, cond, not, List, [], ◌∷◌, length, refl, sym, ap, subst, ◌∙◌, Option, Some, None}
use Rattle.std.specs.Prelude.{is_some, ◌||◌}
use Rattle.std.specs.declared.cmp.Ordering.{Ordering}
use Rattle.std.specs.declared.cmp.Ordering.TheVariants.{Less, Equal, Greater}
use Rattle.std.specs.Ordering.{is_eq, eq_by_cmp}
use Rattle.std.specs.List.{remove}
use Rattle.std.specs.FinMap.Entries.{find-put, find-where_key}
use Rattle.std.proofs.lemmas.Bool.{false≢true}
use Rattle.chain_map.specs.Pairs.{Pairs, byte_order, IsRising, find, put, without}
use Rattle.chain_map.specs.Place.{IsAt, pair_at}
use Rattle.chain_map.specs.Laid.{laid}
use Rattle.chain_map.proofs.Order.{total, same_key, turned, ties_itself, IsRising-put, IsRising-without, same_pairs}
use Rattle.chain_map.proofs.Place.{find_at, remove_at}
use Rattle.chain_map.proofs.Found.{at_from}

abbrev same : List ℕ → List ℕ → Bool
same q key = eq_by_cmp byte_order q key

same_turned : (q key : List ℕ) → same key q ≡ same q key
same_turned q key = go (byte_order q key) refl
  where
    go : (o : Ordering) → byte_order q key ≡ o → same key q ≡ same q key
    go Less e = ap is_eq (turned q key Less e) ∙ sym (ap is_eq e)
    go Equal e = ap is_eq (turned q key Equal e) ∙ sym (ap is_eq e)
    go Greater e = ap is_eq (turned q key Greater e) ∙ sym (ap is_eq e)

key_of_same : (q key : List ℕ) → same q key ≡ true → q ≡ key
key_of_same q key e = go (byte_order q key) refl e
  where
    go : (o : Ordering) → byte_order q key ≡ o → is_eq o ≡ true → q ≡ key
    go Less e t = absurd (false≢true t)
    go Equal e t = same_key q key e
    go Greater e t = absurd (false≢true t)

abbrev or_else : {X : Type 0} → Option X → Option X → Option X
or_else None other = other
or_else (Some x) other = Some x

find_put : (q key value : List ℕ) (pairs : Pairs) → find q (put key value pairs) ≡ cond (same q key) (Some value) (find q pairs)
find_put q key value pairs = find-put byte_order total q key value pairs

find_without : (q key : List ℕ) (pairs : Pairs) → find q (without key pairs) ≡ cond (same q key) None (find q pairs)
find_without q key pairs =
    find-where_key byte_order _ q (λ x e. ap (λ k. not (eq_by_cmp byte_order key k)) (sym (same_key q x e))) pairs
    ∙ ap (λ b. cond (not b) (find q pairs) None) (same_turned q key)
    ∙ elim (same q key) as (λ b. cond (not b) (find q pairs) None ≡ cond b None (find q pairs)) [ true ↦ refl | false ↦ refl ]

pub find_laid : (q : List ℕ) (over base : Pairs) → find q (laid over base) ≡ or_else (find q over) (find q base)
find_laid q [] base = refl
find_laid q (pair ∷ over) base =
    find_put q pair.0 pair.1 (laid over base)
    ∙ ap (cond (same q pair.0) (Some pair.1)) (find_laid q over base)
    ∙ elim (same q pair.0) as (λ b. cond b (Some pair.1) (or_else (find q over) (find q base)) ≡ or_else (cond b (Some pair.1) (find q over)) (find q base)) [ true ↦ refl | false ↦ refl ]

pub IsRising-laid : (over base : Pairs) → IsRising base → IsRising (laid over base)
IsRising-laid [] base rising = rising
IsRising-laid (pair ∷ over) base rising = IsRising-put pair.0 pair.1 (laid over base) (IsRising-laid over base rising)

pub laid_put : (key value : List ℕ) (over base : Pairs) → IsRising base → laid (put key value over) base ≡ put key value (laid over base)
laid_put key value over base rising =
    same_pairs _ _ (IsRising-laid (put key value over) base rising) (IsRising-put key value (laid over base) (IsRising-laid over base rising)) alike
  where
    alike : (q : List ℕ) → find q (laid (put key value over) base) ≡ find q (put key value (laid over base))
    alike q =
        find_laid q (put key value over) base
        ∙ ap (λ o. or_else o (find q base)) (find_put q key value over)
        ∙ elim (same q key) as (λ b. or_else (cond b (Some value) (find q over)) (find q base) ≡ cond b (Some value) (or_else (find q over) (find q base))) [ true ↦ refl | false ↦ refl ]
        ∙ ap (cond (same q key) (Some value)) (sym (find_laid q over base))
        ∙ sym (find_put q key value (laid over base))

pub laid_without : (key : List ℕ) (over base : Pairs) → IsRising base → laid (without key over) (without key base) ≡ without key (laid over base)
laid_without key over base rising =
    same_pairs _ _ (IsRising-laid (without key over) (without key base) (IsRising-without key base rising)) (IsRising-without key (laid over base) (IsRising-laid over base rising)) alike
  where
    alike : (q : List ℕ) → find q (laid (without key over) (without key base)) ≡ find q (without key (laid over base))
    alike q =
        find_laid q (without key over) (without key base)
        ∙ ap (λ o. or_else o (find q (without key base))) (find_without q key over)
        ∙ ap (or_else (cond (same q key) None (find q over))) (find_without q key base)
        ∙ elim (same q key) as (λ b. or_else (cond b None (find q over)) (cond b None (find q base)) ≡ cond b None (or_else (find q over) (find q base))) [ true ↦ refl | false ↦ refl ]
        ∙ ap (cond (same q key) None) (sym (find_laid q over base))
        ∙ sym (find_without q key (laid over base))

-- a pair that is moved down
moved : (key value : List ℕ) (over base : Pairs) → IsRising base → find key over ≡ Some value → laid (without key over) (put key value base) ≡ laid over base
moved key value over base rising found =
    same_pairs _ _ (IsRising-laid (without key over) (put key value base) (IsRising-put key value base rising)) (IsRising-laid over base rising) alike
  where
    by : (q : List ℕ) (b : Bool) → same q key ≡ b → or_else (cond b None (find q over)) (cond b (Some value) (find q base)) ≡ or_else (find q over) (find q base)
    by q true e = sym (ap (λ o. or_else o (find q base)) (ap (λ k. find k over) (key_of_same q key e) ∙ found))
    by q false e = refl

    alike : (q : List ℕ) → find q (laid (without key over) (put key value base)) ≡ find q (laid over base)
    alike q =
        find_laid q (without key over) (put key value base)
        ∙ ap (λ o. or_else o (find q (put key value base))) (find_without q key over)
        ∙ ap (or_else (cond (same q key) None (find q over))) (find_put q key value base)
        ∙ by q (same q key) refl
        ∙ sym (find_laid q over base)

pub laid_moved : (over base : Pairs) (at : ℕ) → IsRising over → IsRising base → at < length over → laid (remove over at) (put (pair_at over at).0 (pair_at over at).1 base) ≡ laid over base
laid_moved over base at over_rising rising in_range =
    let key : List ℕ = (pair_at over at).0 in
    let value : List ℕ = (pair_at over at).1 in
    let stands : IsAt key over at = at_from key over at ([], []) over_rising in_range (ties_itself key) in
    ap (λ rest. laid rest (put key value base)) (remove_at key over at over_rising stands)
    ∙ moved key value over base rising (find_at key over at ([], []) stands)

-- pairs over none
pub laid_none : (over : Pairs) → IsRising over → laid over [] ≡ over
laid_none over rising =
    same_pairs _ _ (IsRising-laid over [] refl) rising (λ q. find_laid q over [] ∙ elim (find q over) as (λ o. or_else o None ≡ o) [ None ↦ refl | Some x ↦ refl ])

pub IsRising-remove : (pairs : Pairs) (at : ℕ) → IsRising pairs → at < length pairs → IsRising (remove pairs at)
IsRising-remove pairs at rising in_range =
    let key : List ℕ = (pair_at pairs at).0 in
    subst IsRising (sym (remove_at key pairs at rising (at_from key pairs at ([], []) rising in_range (ties_itself key)))) (IsRising-without key pairs rising)

pub find_over : (q : List ℕ) (over base : Pairs) (value : List ℕ) → find q over ≡ Some value → find q (laid over base) ≡ Some value
find_over q over base value found = find_laid q over base ∙ ap (λ o. or_else o (find q base)) found

pub find_under : (q : List ℕ) (over base : Pairs) → find q over ≡ None → find q (laid over base) ≡ find q base
find_under q over base none = find_laid q over base ∙ ap (λ o. or_else o (find q base)) none

pub found_either : (q : List ℕ) (over base : Pairs) → (is_some (find q over) || is_some (find q base)) ≡ is_some (find q (laid over base))
found_either q over base =
    elim (find q over) as (λ o. (is_some o || is_some (find q base)) ≡ is_some (or_else o (find q base))) [ None ↦ refl | Some x ↦ refl ]
    ∙ sym (ap is_some (find_laid q over base))

pub rising_two : (left right : List ℕ × List ℕ) → byte_order left.0 right.0 ≡ Less → IsRising (left ∷ right ∷ [])
rising_two left right less = rw less refl
