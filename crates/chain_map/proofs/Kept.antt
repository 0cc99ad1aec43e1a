-- What the marks of a leaf leave of its pairs.
use Rattle.std.proofs.Common.{◌≡◌, ◌≢◌, ℕ, zero, suc, ◌+◌, ◌-◌, ◌^◌, ◌<◌, ◌≤◌, ◌==◌, Bool, true, false, cond, List, [], ◌∷◌, ◌++◌, length, get_or, take, drop, max, refl, sym, ap, subst, ◌∙◌, Some, None, Option, T, not, arith}
use Rattle.std.specs.Prelude.{is_some}
use Rattle.std.specs.Int.{bit_at}
use Rattle.std.specs.Int.RustNames.{bit_or}
use Rattle.std.specs.Ordering.{is_eq, eq_by_cmp}
use Rattle.std.specs.FinMap.Entries.{below_all}
use Rattle.std.proofs.lemmas.Bool.{and_parts, and_from}
use Rattle.std.proofs.lemmas.Nat.Bits.{bit_at-zero, bit_at-lt, bit_at_or, bit_at-pow_same, bit_at-pow_other}
use Rattle.chain_map.specs.Pairs.{Pairs, byte_order, IsRising, find, without}
use Rattle.chain_map.specs.Place.{IsAt}
use Rattle.chain_map.specs.Marks.{is_gone, kept}
use Rattle.chain_map.proofs.Order.{same_key}
use Rattle.chain_map.proofs.Place.{find_below, without_below}

pub below_kept : (key : List ℕ) (mark place : ℕ) (pairs : Pairs) → below_all byte_order key pairs ≡ true → below_all byte_order key (kept mark place pairs) ≡ true
below_kept key mark place [] below = refl
below_kept key mark place (pair ∷ pairs) below =
    let rest = below_kept key mark (suc place) pairs (and_parts _ _ below).1 in
    elim (is_gone mark place) as (λ gone. below_all byte_order key (cond gone (kept mark (suc place) pairs) (pair ∷ kept mark (suc place) pairs)) ≡ true) [
      | true ↦ rest
      | false ↦ and_from _ _ (and_parts _ _ below).0 rest
    ]

pub IsRising-kept : (mark place : ℕ) (pairs : Pairs) → IsRising pairs → IsRising (kept mark place pairs)
IsRising-kept mark place [] rising = refl
IsRising-kept mark place (pair ∷ pairs) rising =
    let rest = IsRising-kept mark (suc place) pairs (and_parts _ _ rising).1 in
    elim (is_gone mark place) as (λ gone. IsRising (cond gone (kept mark (suc place) pairs) (pair ∷ kept mark (suc place) pairs))) [
      | true ↦ rest
      | false ↦ and_from _ _ (below_kept pair.0 mark (suc place) pairs (and_parts _ _ rising).0) rest
    ]

pub length-kept : (mark place : ℕ) (pairs : Pairs) → length (kept mark place pairs) ≤ length pairs
length-kept mark place [] = omega arith
length-kept mark place (pair ∷ pairs) =
    let rest = length-kept mark (suc place) pairs in
    elim (is_gone mark place) as (λ gone. length (cond gone (kept mark (suc place) pairs) (pair ∷ kept mark (suc place) pairs)) ≤ suc (length pairs)) [
      | true ↦ omega (arith, rest)
      | false ↦ omega (arith, rest)
    ]

-- a word of 0 has no bits
pub kept_all : (place : ℕ) (pairs : Pairs) → kept 0 place pairs ≡ pairs
kept_all place [] = refl
kept_all place (pair ∷ pairs) = rw (bit_at-zero place) (ap (λ rest. pair ∷ rest) (kept_all (suc place) pairs))

-- ---- one bit more

gone_same : (mark place : ℕ) → is_gone (bit_or mark (2 ^ place)) place ≡ true
gone_same mark place =
    let one : max (bit_at mark place) 1 ≡ 1 = omega (arith, bit_at-lt mark place) in
    let bit : bit_at (bit_or mark (2 ^ place)) place ≡ 1 = bit_at_or mark (2 ^ place) place ∙ ap (max (bit_at mark place)) (bit_at-pow_same place) ∙ one in
    ap (λ b. b == 1) bit

gone_other : (mark place other : ℕ) → other ≢ place → is_gone (bit_or mark (2 ^ place)) other ≡ is_gone mark other
gone_other mark place other differ =
    let none : max (bit_at mark other) 0 ≡ bit_at mark other = omega arith in
    let bit : bit_at (bit_or mark (2 ^ place)) other ≡ bit_at mark other = bit_at_or mark (2 ^ place) other ∙ ap (max (bit_at mark other)) (bit_at-pow_other place other differ) ∙ none in
    ap (λ b. b == 1) bit

-- a bit before those that are read changes nothing
kept_from : (mark bit place : ℕ) (pairs : Pairs) → bit < place → kept (bit_or mark (2 ^ bit)) place pairs ≡ kept mark place pairs
kept_from mark bit place [] low = refl
kept_from mark bit place (pair ∷ pairs) low =
    let same : is_gone (bit_or mark (2 ^ bit)) place ≡ is_gone mark place = gone_other mark bit place (λ e. absurd (omega (arith, e))) in
    let rest : kept (bit_or mark (2 ^ bit)) (suc place) pairs ≡ kept mark (suc place) pairs = kept_from mark bit (suc place) pairs (omega arith) in
    ap (λ gone. cond gone (kept (bit_or mark (2 ^ bit)) (suc place) pairs) (pair ∷ kept (bit_or mark (2 ^ bit)) (suc place) pairs)) same
    ∙ ap (λ more. cond (is_gone mark place) more (pair ∷ more)) rest

-- ---- the key's pair

-- a key is below the pairs behind the one that has it
below_behind : (key : List ℕ) (pair : List ℕ × List ℕ) (pairs : Pairs) → IsRising (pair ∷ pairs) → IsAt key (pair ∷ pairs) zero → below_all byte_order key pairs ≡ true
below_behind key pair pairs rising at = subst (λ k. below_all byte_order k pairs ≡ true) (sym (same_key key pair.0 at)) (and_parts _ _ rising).0

pub find_live : (key : List ℕ) (mark from : ℕ) (pairs : Pairs) (place : ℕ) (d : List ℕ × List ℕ) → IsAt key pairs place → is_gone mark (from + place) ≡ false → find key (kept mark from pairs) ≡ Some (get_or pairs place d).1
find_live key mark from [] place d at live = absurd at
find_live key mark from (pair ∷ pairs) zero d at live =
    let e : is_gone mark from ≡ false = subst (λ n. is_gone mark n ≡ false) (omega arith) live in
    rw e (rw at refl)
find_live key mark from (pair ∷ pairs) (suc place) d at live =
    let e : is_gone mark (suc from + place) ≡ false = subst (λ n. is_gone mark n ≡ false) (omega arith) live in
    let rest : find key (kept mark (suc from) pairs) ≡ Some (get_or pairs place d).1 = find_live key mark (suc from) pairs place d at.1 e in
    elim (is_gone mark from) as (λ gone. find key (cond gone (kept mark (suc from) pairs) (pair ∷ kept mark (suc from) pairs)) ≡ Some (get_or pairs place d).1) [
      | true ↦ rest
      | false ↦ ap (λ o. cond (is_eq o) (Some pair.1) (find key (kept mark (suc from) pairs))) at.0 ∙ rest
    ]

pub find_gone : (key : List ℕ) (mark from : ℕ) (pairs : Pairs) (place : ℕ) → IsRising pairs → IsAt key pairs place → is_gone mark (from + place) ≡ true → find key (kept mark from pairs) ≡ None
find_gone key mark from [] place rising at gone = refl
find_gone key mark from (pair ∷ pairs) zero rising at gone =
    let e : is_gone mark from ≡ true = subst (λ n. is_gone mark n ≡ true) (omega arith) gone in
    rw e (find_below key (kept mark (suc from) pairs) (below_kept key mark (suc from) pairs (below_behind key pair pairs rising at)))
find_gone key mark from (pair ∷ pairs) (suc place) rising at gone =
    let e : is_gone mark (suc from + place) ≡ true = subst (λ n. is_gone mark n ≡ true) (omega arith) gone in
    let rest : find key (kept mark (suc from) pairs) ≡ None = find_gone key mark (suc from) pairs place (and_parts _ _ rising).1 at.1 e in
    elim (is_gone mark from) as (λ gone. find key (cond gone (kept mark (suc from) pairs) (pair ∷ kept mark (suc from) pairs)) ≡ None) [
      | true ↦ rest
      | false ↦ ap (λ o. cond (is_eq o) (Some pair.1) (find key (kept mark (suc from) pairs))) at.0 ∙ rest
    ]

-- the bit of the key's place, set
pub without_kept : (key : List ℕ) (mark from : ℕ) (pairs : Pairs) (place : ℕ) → IsRising pairs → IsAt key pairs place → kept (bit_or mark (2 ^ (from + place))) from pairs ≡ without key (kept mark from pairs)
without_kept key mark from [] place rising at = refl
without_kept key mark from (pair ∷ pairs) zero rising at =
    let here : from + 0 ≡ from = omega arith in
    let more : Pairs = kept mark (suc from) pairs in
    let below : below_all byte_order key more ≡ true = below_kept key mark (suc from) pairs (below_behind key pair pairs rising at) in
    let stays : without key more ≡ more = without_below key more below in
    let right : without key (cond (is_gone mark from) more (pair ∷ more)) ≡ more =
    elim (is_gone mark from) as (λ gone. without key (cond gone more (pair ∷ more)) ≡ more) [ true ↦ stays | false ↦ rw at stays ] in
    subst (λ n. kept (bit_or mark (2 ^ n)) from (pair ∷ pairs) ≡ without key (kept mark from (pair ∷ pairs))) (sym here)
    (ap (λ gone. cond gone (kept (bit_or mark (2 ^ from)) (suc from) pairs) (pair ∷ kept (bit_or mark (2 ^ from)) (suc from) pairs)) (gone_same mark from)
    ∙ kept_from mark from (suc from) pairs (omega arith) ∙ sym right)
without_kept key mark from (pair ∷ pairs) (suc place) rising at =
    let here : suc from + place ≡ from + suc place = omega arith in
    let more : Pairs = kept mark (suc from) pairs in
    let rest : kept (bit_or mark (2 ^ (suc from + place))) (suc from) pairs ≡ without key more = without_kept key mark (suc from) pairs place (and_parts _ _ rising).1 at.1 in
    let same : is_gone (bit_or mark (2 ^ (suc from + place))) from ≡ is_gone mark from = gone_other mark (suc from + place) from (λ e. absurd (omega (arith, e))) in
    let right : without key (cond (is_gone mark from) more (pair ∷ more)) ≡ cond (is_gone mark from) (without key more) (pair ∷ without key more) =
    elim (is_gone mark from) as (λ gone. without key (cond gone more (pair ∷ more)) ≡ cond gone (without key more) (pair ∷ without key more)) [ true ↦ refl | false ↦ rw at.0 refl ] in
    subst (λ n. kept (bit_or mark (2 ^ n)) from (pair ∷ pairs) ≡ without key (kept mark from (pair ∷ pairs))) here
    (ap (λ gone. cond gone (kept (bit_or mark (2 ^ (suc from + place))) (suc from) pairs) (pair ∷ kept (bit_or mark (2 ^ (suc from + place))) (suc from) pairs)) same
    ∙ ap (λ others. cond (is_gone mark from) others (pair ∷ others)) rest ∙ sym right)

-- ---- a key that isn't there

no_some : {X : Type 0} (b : Bool) (x : X) (other : Option X) → cond b (Some x) other ≡ None → (b ≡ false) × (other ≡ None)
no_some true x other e = absurd (subst T (ap is_some e) tt)
no_some false x other e = (refl, e)

pub none_kept : (key : List ℕ) (mark place : ℕ) (pairs : Pairs) → find key pairs ≡ None → find key (kept mark place pairs) ≡ None
none_kept key mark place [] none = refl
none_kept key mark place (pair ∷ pairs) none =
    let parts = no_some (eq_by_cmp byte_order key pair.0) pair.1 (find key pairs) none in
    let rest : find key (kept mark (suc place) pairs) ≡ None = none_kept key mark (suc place) pairs parts.1 in
    elim (is_gone mark place) as (λ gone. find key (cond gone (kept mark (suc place) pairs) (pair ∷ kept mark (suc place) pairs)) ≡ None) [
      | true ↦ rest
      | false ↦ ap (λ b. cond b (Some pair.1) (find key (kept mark (suc place) pairs))) parts.0 ∙ rest
    ]

pub without_none : (key : List ℕ) (pairs : Pairs) → find key pairs ≡ None → without key pairs ≡ pairs
without_none key [] none = refl
without_none key (pair ∷ pairs) none =
    let parts = no_some (eq_by_cmp byte_order key pair.0) pair.1 (find key pairs) none in
    ap (λ b. cond (not b) (pair ∷ without key pairs) (without key pairs)) parts.0 ∙ ap (λ rest. pair ∷ rest) (without_none key pairs parts.1)

pub none_append : (key : List ℕ) (xs ys : Pairs) → find key (xs ++ ys) ≡ None → (find key xs ≡ None) × (find key ys ≡ None)
none_append key [] ys none = (refl, none)
none_append key (x ∷ xs) ys none =
    let parts = no_some (eq_by_cmp byte_order key x.0) x.1 (find key (xs ++ ys)) none in
    let rest = none_append key xs ys parts.1 in
    (ap (λ b. cond b (Some x.1) (find key xs)) parts.0 ∙ rest.0, rest.1)

pub append_none : (key : List ℕ) (xs ys : Pairs) → find key xs ≡ None → find key ys ≡ None → find key (xs ++ ys) ≡ None
append_none key [] ys none others = others
append_none key (x ∷ xs) ys none others =
    let parts = no_some (eq_by_cmp byte_order key x.0) x.1 (find key xs) none in
    ap (λ b. cond b (Some x.1) (find key (xs ++ ys))) parts.0 ∙ append_none key xs ys parts.1 others

-- ---- dropping marked pairs from the end

pub sweep_live : (mark n i : ℕ) (xs : Pairs) → i < length xs → is_gone mark n ≡ false → take (suc i) xs ++ kept mark (suc n) (drop (suc i) xs) ≡ take i xs ++ kept mark n (drop i xs)
sweep_live mark n i [] in_range live = absurd (omega arith)
sweep_live mark n zero (x ∷ xs) in_range live = rw live refl
sweep_live mark n (suc i) (x ∷ xs) in_range live = ap (λ rest. x ∷ rest) (sweep_live mark n i xs (omega arith) live)

-- one step of that, from what stands up to a place

pub swept_live : (mark at : ℕ) (xs items : Pairs) → 0 < at → at ≤ length xs → items ≡ take at xs ++ kept mark at (drop at xs) → is_gone mark (at - 1) ≡ false → items ≡ take (at - 1) xs ++ kept mark (at - 1) (drop (at - 1) xs)
swept_live mark zero xs items some in_range is live = absurd (omega arith)
swept_live mark (suc i) xs items some in_range is live =
    let less : i ≡ suc i - 1 = omega arith in
    let e : is_gone mark i ≡ false = subst (λ n. is_gone mark n ≡ false) (sym less) live in
    subst (λ n. items ≡ take n xs ++ kept mark n (drop n xs)) less (is ∙ sweep_live mark i i xs (omega arith) e)

pub swept_all : (mark at : ℕ) (xs items : Pairs) → at ≤ 0 → items ≡ take at xs ++ kept mark at (drop at xs) → items ≡ kept mark 0 xs
swept_all mark zero xs items none is = is
swept_all mark (suc at) xs items none is = absurd (omega arith)
