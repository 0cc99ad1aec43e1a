-- What the marks of a chain leave of its leaves.
use Rattle.std.proofs.Common.{◌≡◌, ℕ, zero, suc, ◌+◌, ◌^◌, ◌<◌, ◌≤◌, true, false, cond, List, [], ◌∷◌, ◌++◌, length, get_or, set, take, drop, replicate, add-one, refl, sym, ap, subst, ◌∙◌, Some, None, arith}
use Rattle.std.specs.Int.RustNames.{bit_or}
use Rattle.std.specs.List.{remove}
use Rattle.std.specs.FinMap.Entries.{below_all}
use Rattle.std.proofs.lemmas.Bool.{and_parts, and_from}
use Rattle.std.proofs.lemmas.Map.Views.{exact_unsigned_eq}
use Rattle.chain_map.specs.Pairs.{Pairs, byte_order, IsRising, find, without}
use Rattle.chain_map.specs.Leaves.{joined, above_all, IsHome, IsSpot}
use Rattle.chain_map.specs.Laid.{laid, shown}
use Rattle.chain_map.specs.Marks.{is_gone, kept, kept_each, no_marks, marks_without}
use Rattle.chain_map.proofs.Homes.{find_home, without_home, IsRising-front, IsRising-back}
use Rattle.chain_map.proofs.Kept.{below_kept, kept_all, find_live, find_gone, without_kept, none_kept, none_append, append_none}

-- ---- order

below_parts : (key : List ℕ) (xs ys : Pairs) → below_all byte_order key (xs ++ ys) ≡ true → (below_all byte_order key xs ≡ true) × (below_all byte_order key ys ≡ true)
below_parts key [] ys below = (refl, below)
below_parts key (x ∷ xs) ys below =
    let rest = below_parts key xs ys (and_parts _ _ below).1 in
    (and_from _ _ (and_parts _ _ below).0 rest.0, rest.1)

below_both : (key : List ℕ) (xs ys : Pairs) → below_all byte_order key xs ≡ true → below_all byte_order key ys ≡ true → below_all byte_order key (xs ++ ys) ≡ true
below_both key [] ys front back = back
below_both key (x ∷ xs) ys front back = and_from _ _ (and_parts _ _ front).0 (below_both key xs ys (and_parts _ _ front).1 back)

pub below_each : (key : List ℕ) (leaves : List Pairs) (marks : List ℕ) → below_all byte_order key (joined leaves) ≡ true → below_all byte_order key (joined (kept_each leaves marks)) ≡ true
below_each key [] marks below = refl
below_each key (leaf ∷ leaves) [] below =
    let parts = below_parts key leaf (joined leaves) below in
    below_both key leaf _ parts.0 (below_each key leaves [] parts.1)
below_each key (leaf ∷ leaves) (mark ∷ marks) below =
    let parts = below_parts key leaf (joined leaves) below in
    below_both key (kept mark 0 leaf) _ (below_kept key mark 0 leaf parts.0) (below_each key leaves marks parts.1)

-- pairs behind others, with fewer of both
fewer_front : (mark place : ℕ) (xs ys : Pairs) → IsRising (xs ++ ys) → IsRising (kept mark place xs ++ ys)
fewer_front mark place [] ys rising = rising
fewer_front mark place (x ∷ xs) ys rising =
    let rest = fewer_front mark (suc place) xs ys (and_parts _ _ rising).1 in
    let parts = below_parts x.0 xs ys (and_parts _ _ rising).0 in
    elim (is_gone mark place) as (λ gone. IsRising ((cond gone (kept mark (suc place) xs) (x ∷ kept mark (suc place) xs)) ++ ys)) [
      | true ↦ rest
      | false ↦ and_from _ _ (below_both x.0 (kept mark (suc place) xs) ys (below_kept x.0 mark (suc place) xs parts.0) parts.1) rest
    ]

fewer_back : (xs ys zs : Pairs) → ((key : List ℕ) → below_all byte_order key ys ≡ true → below_all byte_order key zs ≡ true) → IsRising zs → IsRising (xs ++ ys) → IsRising (xs ++ zs)
fewer_back [] ys zs fewer back rising = back
fewer_back (x ∷ xs) ys zs fewer back rising =
    let parts = below_parts x.0 xs ys (and_parts _ _ rising).0 in
    and_from _ _ (below_both x.0 xs zs parts.0 (fewer x.0 parts.1)) (fewer_back xs ys zs fewer back (and_parts _ _ rising).1)

pub IsRising-each : (leaves : List Pairs) (marks : List ℕ) → IsRising (joined leaves) → IsRising (joined (kept_each leaves marks))
IsRising-each [] marks rising = refl
IsRising-each (leaf ∷ leaves) [] rising =
    fewer_back leaf (joined leaves) _ (λ key. below_each key leaves []) (IsRising-each leaves [] (IsRising-back leaf (joined leaves) rising)) rising
IsRising-each (leaf ∷ leaves) (mark ∷ marks) rising =
    fewer_front mark 0 leaf _ (fewer_back leaf (joined leaves) _ (λ key. below_each key leaves marks) (IsRising-each leaves marks (IsRising-back leaf (joined leaves) rising)) rising)

above_kept : (key : List ℕ) (mark place : ℕ) (pairs : Pairs) → above_all key pairs ≡ true → above_all key (kept mark place pairs) ≡ true
above_kept key mark place [] above = refl
above_kept key mark place (pair ∷ pairs) above =
    let rest = above_kept key mark (suc place) pairs (and_parts _ _ above).1 in
    elim (is_gone mark place) as (λ gone. above_all key (cond gone (kept mark (suc place) pairs) (pair ∷ kept mark (suc place) pairs)) ≡ true) [
      | true ↦ rest
      | false ↦ and_from _ _ (and_parts _ _ above).0 rest
    ]

home_each : (key : List ℕ) (leaves : List Pairs) (marks : List ℕ) (i : ℕ) → IsHome key leaves i → IsHome key (kept_each leaves marks) i
home_each key [] marks i home = absurd home
home_each key (leaf ∷ leaves) [] zero home = below_each key leaves [] home
home_each key (leaf ∷ leaves) (mark ∷ marks) zero home = below_each key leaves marks home
home_each key (leaf ∷ leaves) [] (suc i) home = (home.0, home_each key leaves [] i home.1)
home_each key (leaf ∷ leaves) (mark ∷ marks) (suc i) home = (above_kept key mark 0 leaf home.0, home_each key leaves marks i home.1)

-- ---- one leaf of them

get_each : (leaves : List Pairs) (marks : List ℕ) (i : ℕ) → get_or (kept_each leaves marks) i [] ≡ kept (get_or marks i 0) 0 (get_or leaves i [])
get_each [] marks i = refl
get_each (leaf ∷ leaves) [] zero = sym (kept_all 0 leaf)
get_each (leaf ∷ leaves) (mark ∷ marks) zero = refl
get_each (leaf ∷ leaves) [] (suc i) = get_each leaves [] i
get_each (leaf ∷ leaves) (mark ∷ marks) (suc i) = get_each leaves marks i

set_each : (leaves : List Pairs) (marks : List ℕ) (i mark : ℕ) → i < length marks → kept_each leaves (set marks i mark) ≡ set (kept_each leaves marks) i (kept mark 0 (get_or leaves i []))
set_each [] marks i mark in_range = refl
set_each (leaf ∷ leaves) [] i mark in_range = absurd (omega arith)
set_each (leaf ∷ leaves) (m ∷ marks) zero mark in_range = refl
set_each (leaf ∷ leaves) (m ∷ marks) (suc i) mark in_range = ap (λ rest. kept m 0 leaf ∷ rest) (set_each leaves marks i mark (omega arith))

-- ---- no marks

pub each_clean : (leaves : List Pairs) (marks : List ℕ) → no_marks marks ≡ true → kept_each leaves marks ≡ leaves
each_clean [] marks clean = refl
each_clean (leaf ∷ leaves) [] clean = ap (λ rest. leaf ∷ rest) (each_clean leaves [] refl)
each_clean (leaf ∷ leaves) (mark ∷ marks) clean =
    let none : mark ≡ 0 = exact_unsigned_eq mark 0 (and_parts _ _ clean).0 in
    (λ i. kept (none i) 0 leaf ∷ kept_each leaves marks)
    ∙ ap (λ first. first ∷ kept_each leaves marks) (kept_all 0 leaf)
    ∙ ap (λ rest. leaf ∷ rest) (each_clean leaves marks (and_parts _ _ clean).1)

-- a word of 0 is as good as none
pub each_none : (leaves : List Pairs) → kept_each leaves (0 ∷ []) ≡ kept_each leaves []
each_none [] = refl
each_none (leaf ∷ leaves) = ap (λ first. first ∷ kept_each leaves []) (kept_all 0 leaf)

pub clean_more : (marks : List ℕ) → no_marks marks ≡ true → no_marks (marks ++ 0 ∷ []) ≡ true
clean_more [] clean = refl
clean_more (mark ∷ marks) clean = and_from _ _ (and_parts _ _ clean).0 (clean_more marks (and_parts _ _ clean).1)

-- ---- the key's pair

module _ (key : List ℕ) (leaves : List Pairs) (marks : List ℕ) (leaf place : ℕ) (spot : IsSpot key leaves leaf place) where
  from_zero : place ≡ 0 + place
  from_zero = omega arith

  pub spot_live : (d : List ℕ × List ℕ) → is_gone (get_or marks leaf 0) place ≡ false → find key (joined (kept_each leaves marks)) ≡ Some (get_or (get_or leaves leaf []) place d).1
  spot_live d live =
      find_home key (kept_each leaves marks) leaf [] (home_each key leaves marks leaf spot.0)
      ∙ ap (find key) (get_each leaves marks leaf)
      ∙ find_live key (get_or marks leaf 0) 0 (get_or leaves leaf []) place d spot.1 (subst (λ n. is_gone (get_or marks leaf 0) n ≡ false) from_zero live)

  pub spot_gone : IsRising (get_or leaves leaf []) → is_gone (get_or marks leaf 0) place ≡ true → find key (joined (kept_each leaves marks)) ≡ None
  spot_gone rising gone =
      find_home key (kept_each leaves marks) leaf [] (home_each key leaves marks leaf spot.0)
      ∙ ap (find key) (get_each leaves marks leaf)
      ∙ find_gone key (get_or marks leaf 0) 0 (get_or leaves leaf []) place rising spot.1 (subst (λ n. is_gone (get_or marks leaf 0) n ≡ true) from_zero gone)

  pub spot_marked : IsRising (get_or leaves leaf []) → leaf < length marks →
      joined (kept_each leaves (set marks leaf (bit_or (get_or marks leaf 0) (2 ^ place)))) ≡ without key (joined (kept_each leaves marks))
  spot_marked rising in_range =
      let mark : ℕ = get_or marks leaf 0 in
      let new : kept (bit_or mark (2 ^ place)) 0 (get_or leaves leaf []) ≡ without key (kept mark 0 (get_or leaves leaf [])) =
      subst (λ n. kept (bit_or mark (2 ^ n)) 0 (get_or leaves leaf []) ≡ without key (kept mark 0 (get_or leaves leaf []))) (sym from_zero) (without_kept key mark 0 (get_or leaves leaf []) place rising spot.1) in
      ap joined (set_each leaves marks leaf (bit_or mark (2 ^ place)) in_range)
      ∙ without_home key (kept_each leaves marks) leaf [] _ (home_each key leaves marks leaf spot.0) (new ∙ ap (without key) (sym (get_each leaves marks leaf)))

pub none_each : (key : List ℕ) (leaves : List Pairs) (marks : List ℕ) → find key (joined leaves) ≡ None → find key (joined (kept_each leaves marks)) ≡ None
none_each key [] marks none = refl
none_each key (leaf ∷ leaves) [] none =
    let parts = none_append key leaf (joined leaves) none in
    append_none key leaf _ parts.0 (none_each key leaves [] parts.1)
none_each key (leaf ∷ leaves) (mark ∷ marks) none =
    let parts = none_append key leaf (joined leaves) none in
    append_none key (kept mark 0 leaf) _ (none_kept key mark 0 leaf parts.0) (none_each key leaves marks parts.1)

-- ---- a leaf that was swept

pub IsRising-leaf : (leaves : List Pairs) (i : ℕ) → IsRising (joined leaves) → IsRising (get_or leaves i [])
IsRising-leaf [] i rising = refl
IsRising-leaf (leaf ∷ leaves) zero rising = IsRising-front leaf (joined leaves) rising
IsRising-leaf (leaf ∷ leaves) (suc i) rising = IsRising-leaf leaves i (IsRising-back leaf (joined leaves) rising)

below_swept : (key : List ℕ) (mark : ℕ) (leaves : List Pairs) (i : ℕ) → below_all byte_order key (joined leaves) ≡ true → below_all byte_order key (joined (set leaves i (kept mark 0 (get_or leaves i [])))) ≡ true
below_swept key mark [] i below = refl
below_swept key mark (leaf ∷ leaves) zero below =
    let parts = below_parts key leaf (joined leaves) below in
    below_both key (kept mark 0 leaf) _ (below_kept key mark 0 leaf parts.0) parts.1
below_swept key mark (leaf ∷ leaves) (suc i) below =
    let parts = below_parts key leaf (joined leaves) below in
    below_both key leaf _ parts.0 (below_swept key mark leaves i parts.1)

pub IsRising-swept : (mark : ℕ) (leaves : List Pairs) (i : ℕ) → IsRising (joined leaves) → IsRising (joined (set leaves i (kept mark 0 (get_or leaves i []))))
IsRising-swept mark [] i rising = refl
IsRising-swept mark (leaf ∷ leaves) zero rising = fewer_front mark 0 leaf (joined leaves) rising
IsRising-swept mark (leaf ∷ leaves) (suc i) rising =
    fewer_back leaf (joined leaves) _ (λ key. below_swept key mark leaves i) (IsRising-swept mark leaves i (IsRising-back leaf (joined leaves) rising)) rising

pub each_swept : (leaves : List Pairs) (marks : List ℕ) (i : ℕ) → i < length leaves → length leaves ≤ length marks →
    kept_each (set leaves i (kept (get_or marks i 0) 0 (get_or leaves i []))) (set marks i 0) ≡ kept_each leaves marks
each_swept [] marks i in_range fits = absurd (omega arith)
each_swept (leaf ∷ leaves) [] i in_range fits = absurd (omega arith)
each_swept (leaf ∷ leaves) (mark ∷ marks) zero in_range fits = ap (λ first. first ∷ kept_each leaves marks) (kept_all 0 (kept mark 0 leaf))
each_swept (leaf ∷ leaves) (mark ∷ marks) (suc i) in_range fits = ap (λ rest. kept mark 0 leaf ∷ rest) (each_swept leaves marks i (omega arith) (omega arith))

-- a leaf that was emptied goes, with its word
pub each_emptied : (leaves : List Pairs) (marks : List ℕ) (i : ℕ) → i < length leaves → length leaves ≤ length marks → kept (get_or marks i 0) 0 (get_or leaves i []) ≡ [] →
    joined (kept_each (remove leaves i) (marks_without marks i)) ≡ joined (kept_each leaves marks)
each_emptied [] marks i in_range fits emptied = absurd (omega arith)
each_emptied (leaf ∷ leaves) [] i in_range fits emptied = absurd (omega arith)
each_emptied (leaf ∷ []) (mark ∷ []) zero in_range fits emptied = ap (λ first. first ++ []) (sym emptied)
each_emptied (leaf ∷ (next ∷ leaves)) (mark ∷ []) zero in_range fits emptied = absurd (omega arith)
each_emptied (leaf ∷ leaves) (mark ∷ (next ∷ marks)) zero in_range fits emptied = ap (λ first. first ++ joined (kept_each leaves (next ∷ marks))) (sym emptied)
each_emptied (leaf ∷ leaves) (mark ∷ []) (suc i) in_range fits emptied = absurd (omega arith)
each_emptied (leaf ∷ leaves) (mark ∷ (next ∷ marks)) (suc i) in_range fits emptied =
    ap (λ rest. kept mark 0 leaf ++ rest) (each_removed leaves (next ∷ marks) i (omega arith) (omega arith) emptied)
  where
    each_removed : (leaves : List Pairs) (marks : List ℕ) (i : ℕ) → i < length leaves → length leaves ≤ length marks → kept (get_or marks i 0) 0 (get_or leaves i []) ≡ [] →
        joined (kept_each (remove leaves i) (remove marks i)) ≡ joined (kept_each leaves marks)
    each_removed [] marks i in_range fits emptied = absurd (omega arith)
    each_removed (leaf ∷ leaves) [] i in_range fits emptied = absurd (omega arith)
    each_removed (leaf ∷ leaves) (mark ∷ marks) zero in_range fits emptied = ap (λ first. first ++ joined (kept_each leaves marks)) (sym emptied)
    each_removed (leaf ∷ leaves) (mark ∷ marks) (suc i) in_range fits emptied = ap (λ rest. kept mark 0 leaf ++ rest) (each_removed leaves marks i (omega arith) (omega arith) emptied)

-- ---- leaf after leaf

each_from_suc : (leaves : List Pairs) (marks : List ℕ) (at : ℕ) → at < length leaves → at < length marks →
    joined (kept_each (drop at leaves) (drop at marks)) ≡ kept (get_or marks at 0) 0 (get_or leaves at []) ++ joined (kept_each (drop (suc at) leaves) (drop (suc at) marks))
each_from_suc [] marks at in_range fits = absurd (omega arith)
each_from_suc (leaf ∷ leaves) [] at in_range fits = absurd (omega arith)
each_from_suc (leaf ∷ leaves) (mark ∷ marks) zero in_range fits = refl
each_from_suc (leaf ∷ leaves) (mark ∷ marks) (suc at) in_range fits = each_from_suc leaves marks at (omega arith) (omega arith)

pub each_from : (leaves : List Pairs) (marks : List ℕ) (at : ℕ) → at < length leaves → at < length marks →
    joined (kept_each (drop at leaves) (drop at marks)) ≡ kept (get_or marks at 0) 0 (get_or leaves at []) ++ joined (kept_each (drop (at + 1) leaves) (drop (at + 1) marks))
each_from leaves marks at in_range fits = rw add-one (each_from_suc leaves marks at in_range fits)

drop_past : (leaves : List Pairs) (at : ℕ) → length leaves ≤ at → drop at leaves ≡ []
drop_past [] zero past = refl
drop_past [] (suc at) past = refl
drop_past (leaf ∷ leaves) zero past = absurd (omega arith)
drop_past (leaf ∷ leaves) (suc at) past = drop_past leaves at (omega arith)

pub each_past : (leaves : List Pairs) (marks : List ℕ) (at : ℕ) → length leaves ≤ at → joined (kept_each (drop at leaves) (drop at marks)) ≡ []
each_past leaves marks at past = ap (λ ls. joined (kept_each ls (drop at marks))) (drop_past leaves at past)

-- ---- what is shown, where nothing is marked

pub shown_clean : (leaves others : List Pairs) (marks words : List ℕ) (over more : Pairs) → no_marks marks ≡ true → no_marks words ≡ true → laid over (joined leaves) ≡ laid more (joined others) → shown leaves marks over ≡ shown others words more
shown_clean leaves others marks words over more left right same =
    ap (λ ls. laid over (joined ls)) (each_clean leaves marks left) ∙ same ∙ sym (ap (λ ls. laid more (joined ls)) (each_clean others words right))

pub clean_zeros : (n : ℕ) → no_marks (replicate n 0) ≡ true
clean_zeros zero = refl
clean_zeros (suc n) = clean_zeros n

clean_room : (k n : ℕ) → no_marks (take k [] ++ replicate n 0) ≡ true
clean_room zero n = clean_zeros n
clean_room (suc k) n = clean_zeros n

pub cleaned : (k n : ℕ) (old new : List ℕ) → old ≡ [] → new ≡ take k old ++ replicate n 0 → no_marks new ≡ true
cleaned k n old new none is = subst (λ words. no_marks words ≡ true) (sym (is ∙ ap (λ words. take k words ++ replicate n 0) none)) (clean_room k n)

clean_take : (n : ℕ) (marks : List ℕ) → no_marks marks ≡ true → no_marks (take n marks) ≡ true
clean_take zero marks clean = refl
clean_take (suc n) [] clean = refl
clean_take (suc n) (mark ∷ marks) clean = and_from _ _ (and_parts _ _ clean).0 (clean_take n marks (and_parts _ _ clean).1)

pub clean_trimmed : (n mark : ℕ) (rest all : List ℕ) → mark ∷ rest ≡ all → no_marks all ≡ true → no_marks (mark ∷ take n rest) ≡ true
clean_trimmed n mark rest all is clean =
    let parts : no_marks (mark ∷ rest) ≡ true = subst (λ words. no_marks words ≡ true) (sym is) clean in
    and_from _ _ (and_parts _ _ parts).0 (clean_take n rest (and_parts _ _ parts).1)
