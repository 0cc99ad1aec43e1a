-- Eight bytes are in the order of the numbers that they spell, the highest byte first.
use Rattle.std.proofs.Common.{◌≡◌, ℕ, zero, suc, ◌+◌, ◌*◌, ◌<◌, ◌≤◌, List, [], ◌∷◌, length, drop, get_or, get_or-drop, refl, sym, ap, subst, arith}
use Rattle.std.specs.declared.cmp.Ordering.{Ordering}
use Rattle.std.specs.declared.cmp.Ordering.TheVariants.{Less, Equal, Greater}
use Rattle.std.specs.Ordering.{nat_cmp, ordering_then, MatchOrdering}
use Rattle.std.specs.Cmp.{ranks, nat_cmp_is}
use Rattle.std.specs.Cmp.Lexicographic.{slice_cmp}
use Rattle.byteorder.specs.Endian.{big_number}

abbrev pub AreBytes : List ℕ → Type 0
AreBytes xs = (k : ℕ) → get_or xs k 0 < 256

-- the number that the first n bytes spell after a
abbrev spelled : ℕ → ℕ → List ℕ → ℕ
spelled a zero xs = a
spelled a (suc n) [] = a
spelled a (suc n) (x ∷ xs) = spelled (a * 256 + x) n xs

rises : (n a b : ℕ) (us vs : List ℕ) → n ≤ length us → n ≤ length vs → AreBytes us → a < b → spelled a n us < spelled b n vs
rises zero a b us vs p q h l = l
rises (suc n) a b [] vs p q h l = absurd (omega arith)
rises (suc n) a b (u ∷ us) [] p q h l = absurd (omega arith)
rises (suc n) a b (u ∷ us) (v ∷ vs) p q h l =
    let small : u < 256 = h 0 in
    rises n (a * 256 + u) (b * 256 + v) us vs (omega arith) (omega arith) (λ k. h (suc k)) (omega arith)

-- what the numbers say of the bytes
abbrev Says : ℕ → ℕ → Ordering → Ordering → Type 0
Says x y whole rest = MatchOrdering (nat_cmp x y) (whole ≡ Less) (whole ≡ rest) (whole ≡ Greater)

says_less : (x y : ℕ) (whole rest : Ordering) → x < y → whole ≡ Less → Says x y whole rest
says_less x y whole rest l e = subst (λ r. MatchOrdering r (whole ≡ Less) (whole ≡ rest) (whole ≡ Greater)) (nat_cmp_is x y Less l) e

says_greater : (x y : ℕ) (whole rest : Ordering) → y < x → whole ≡ Greater → Says x y whole rest
says_greater x y whole rest l e = subst (λ r. MatchOrdering r (whole ≡ Less) (whole ≡ rest) (whole ≡ Greater)) (nat_cmp_is x y Greater l) e

says_equal : (x : ℕ) (whole rest : Ordering) → whole ≡ rest → Says x x whole rest
says_equal x whole rest e = subst (λ r. MatchOrdering r (whole ≡ Less) (whole ≡ rest) (whole ≡ Greater)) (nat_cmp_is x x Equal refl) e

speaks : (n a : ℕ) (us vs : List ℕ) → n ≤ length us → n ≤ length vs → AreBytes us → AreBytes vs
    → Says (spelled a n us) (spelled a n vs) (slice_cmp nat_cmp us vs) (slice_cmp nat_cmp (drop n us) (drop n vs))
speaks zero a us vs p q g h = says_equal a _ _ refl
speaks (suc n) a [] vs p q g h = absurd (omega arith)
speaks (suc n) a (u ∷ us) [] p q g h = absurd (omega arith)
speaks (suc n) a (u ∷ us) (v ∷ vs) p q g h = by (speaks n (a * 256 + u) us vs (omega arith) (omega arith) (λ k. g (suc k)) (λ k. h (suc k))) (nat_cmp u v) refl (ranks u v)
  where
    by : Says (spelled (a * 256 + u) n us) (spelled (a * 256 + u) n vs) (slice_cmp nat_cmp us vs) (slice_cmp nat_cmp (drop n us) (drop n vs))
        → (r : Ordering) → nat_cmp u v ≡ r → MatchOrdering r (u < v) (u ≡ v) (v < u)
        → Says (spelled (a * 256 + u) n us) (spelled (a * 256 + v) n vs) (slice_cmp nat_cmp (u ∷ us) (v ∷ vs)) (slice_cmp nat_cmp (drop n us) (drop n vs))
    by rest Less e l =
        let under : u < v = l in
        says_less _ _ _ _ (rises n (a * 256 + u) (a * 256 + v) us vs (omega arith) (omega arith) (λ k. g (suc k)) (omega arith)) (ap (λ r. ordering_then r (slice_cmp nat_cmp us vs)) e)
    by rest Greater e l =
        let over : v < u = l in
        says_greater _ _ _ _ (rises n (a * 256 + v) (a * 256 + u) vs us (omega arith) (omega arith) (λ k. h (suc k)) (omega arith)) (ap (λ r. ordering_then r (slice_cmp nat_cmp us vs)) e)
    by rest Equal e l =
        let level : u ≡ v = l in
        subst (λ (whole : Ordering). Says (spelled (a * 256 + u) n us) (spelled (a * 256 + v) n vs) whole (slice_cmp nat_cmp (drop n us) (drop n vs)))
        (sym (ap (λ r. ordering_then r (slice_cmp nat_cmp us vs)) e))
        (subst (λ z. Says (spelled (a * 256 + u) n us) (spelled (a * 256 + z) n vs) (slice_cmp nat_cmp us vs) (slice_cmp nat_cmp (drop n us) (drop n vs))) level rest)

eight : (xs : List ℕ) → 8 ≤ length xs → big_number 8 xs ≡ spelled 0 8 xs
eight (a ∷ b ∷ c ∷ d ∷ e ∷ f ∷ g ∷ h ∷ xs) l = omega arith
eight [] l = absurd (omega arith)
eight (a ∷ []) l = absurd (omega arith)
eight (a ∷ b ∷ []) l = absurd (omega arith)
eight (a ∷ b ∷ c ∷ []) l = absurd (omega arith)
eight (a ∷ b ∷ c ∷ d ∷ []) l = absurd (omega arith)
eight (a ∷ b ∷ c ∷ d ∷ e ∷ []) l = absurd (omega arith)
eight (a ∷ b ∷ c ∷ d ∷ e ∷ f ∷ []) l = absurd (omega arith)
eight (a ∷ b ∷ c ∷ d ∷ e ∷ f ∷ g ∷ []) l = absurd (omega arith)

-- two words by their numbers
pub words : (us vs : List ℕ) → 8 ≤ length us → 8 ≤ length vs → AreBytes us → AreBytes vs
    → Says (big_number 8 us) (big_number 8 vs) (slice_cmp nat_cmp us vs) (slice_cmp nat_cmp (drop 8 us) (drop 8 vs))
words us vs p q g h =
    subst (λ x. Says x (big_number 8 vs) (slice_cmp nat_cmp us vs) (slice_cmp nat_cmp (drop 8 us) (drop 8 vs))) (sym (eight us p))
    (subst (λ y. Says (spelled 0 8 us) y (slice_cmp nat_cmp us vs) (slice_cmp nat_cmp (drop 8 us) (drop 8 vs))) (sym (eight vs q))
    (speaks 8 0 us vs p q g h))

pub same_words : (us vs : List ℕ) → 8 ≤ length us → 8 ≤ length vs → AreBytes us → AreBytes vs → big_number 8 us ≡ big_number 8 vs
    → slice_cmp nat_cmp us vs ≡ slice_cmp nat_cmp (drop 8 us) (drop 8 vs)
same_words us vs p q g h e = by _ (nat_cmp_is (big_number 8 us) (big_number 8 vs) Equal e) (words us vs p q g h)
  where
    by : (r : Ordering) → Equal ≡ r → MatchOrdering r (slice_cmp nat_cmp us vs ≡ Less) (slice_cmp nat_cmp us vs ≡ slice_cmp nat_cmp (drop 8 us) (drop 8 vs)) (slice_cmp nat_cmp us vs ≡ Greater) → slice_cmp nat_cmp us vs ≡ slice_cmp nat_cmp (drop 8 us) (drop 8 vs)
    by r e h = subst (λ r. MatchOrdering r (slice_cmp nat_cmp us vs ≡ Less) (slice_cmp nat_cmp us vs ≡ slice_cmp nat_cmp (drop 8 us) (drop 8 vs)) (slice_cmp nat_cmp us vs ≡ Greater)) (sym e) h

pub other_words : (us vs : List ℕ) → 8 ≤ length us → 8 ≤ length vs → AreBytes us → AreBytes vs → (big_number 8 us ≡ big_number 8 vs → ⊥)
    → nat_cmp (big_number 8 us) (big_number 8 vs) ≡ slice_cmp nat_cmp us vs
other_words us vs p q g h apart = by (nat_cmp (big_number 8 us) (big_number 8 vs)) (ranks (big_number 8 us) (big_number 8 vs)) (words us vs p q g h)
  where
    by : (r : Ordering) → MatchOrdering r (big_number 8 us < big_number 8 vs) (big_number 8 us ≡ big_number 8 vs) (big_number 8 vs < big_number 8 us)
        → MatchOrdering r (slice_cmp nat_cmp us vs ≡ Less) (slice_cmp nat_cmp us vs ≡ slice_cmp nat_cmp (drop 8 us) (drop 8 vs)) (slice_cmp nat_cmp us vs ≡ Greater)
        → r ≡ slice_cmp nat_cmp us vs
    by Less l e = sym e
    by Equal l e = absurd (apart l)
    by Greater l e = sym e

pub bytes_after : (n : ℕ) (xs ys : List ℕ) → ys ≡ drop n xs → AreBytes xs → AreBytes ys
bytes_after n xs ys e h = subst AreBytes (sym e) (λ k. subst (λ m. m < 256) (sym (get_or-drop n xs k 0)) (h (n + k)))

pub none_left : (xs ys : List ℕ) → length xs ≡ 0 → nat_cmp 0 (length ys) ≡ slice_cmp nat_cmp xs ys
none_left [] [] e = sym (nat_cmp_is 0 0 Equal refl)
none_left [] (y ∷ ys) e = sym (nat_cmp_is 0 (length (y ∷ ys)) Less (omega arith))
none_left (x ∷ xs) ys e = absurd (omega arith)
