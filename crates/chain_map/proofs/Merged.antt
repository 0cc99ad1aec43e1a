-- Pairs over others, one after another in the order of their keys.
use Rattle.std.proofs.Common.{◌≡◌, ℕ, true, List, [], ◌∷◌, refl, sym, ap, subst, ◌∙◌, Option, Some, None}
use Rattle.std.specs.declared.cmp.Ordering.{Ordering}
use Rattle.std.specs.declared.cmp.Ordering.TheVariants.{Less, Equal, Greater}
use Rattle.std.specs.Ordering.{is_lt}
use Rattle.std.specs.FinMap.Entries.{below_all}
use Rattle.std.proofs.lemmas.Bool.{and_parts, and_from}
use Rattle.chain_map.specs.Pairs.{Pairs, byte_order, IsRising, put}
use Rattle.chain_map.specs.Laid.{laid, ahead, IsAhead}
use Rattle.chain_map.proofs.Order.{same_key, turned}
use Rattle.chain_map.proofs.Place.{below_first, below_rest}
use Rattle.chain_map.proofs.Homes.{put-front, below_less}
use Rattle.chain_map.proofs.Laid.{laid_none}

below_put : (x key value : List ℕ) (pairs : Pairs) → byte_order x key ≡ Less → below_all byte_order x pairs ≡ true → below_all byte_order x (put key value pairs) ≡ true
below_put x key value [] less below = and_from _ _ (ap is_lt less) refl
below_put x key value (pair ∷ pairs) less below = go (byte_order key pair.0) refl (below_put x key value pairs less (below_rest x pair pairs below))
  where
    go : (o : Ordering) → byte_order key pair.0 ≡ o → below_all byte_order x (put key value pairs) ≡ true → below_all byte_order x (put key value (pair ∷ pairs)) ≡ true
    go Less e rest = rw e (and_from _ _ (ap is_lt less) below)
    go Equal e rest = rw e below
    go Greater e rest = rw e (and_from _ _ (and_parts _ _ below).0 rest)

below_laid : (x : List ℕ) (over base : Pairs) → below_all byte_order x over ≡ true → below_all byte_order x base ≡ true → below_all byte_order x (laid over base) ≡ true
below_laid x [] base upper lower = lower
below_laid x (pair ∷ over) base upper lower = below_put x pair.0 pair.1 (laid over base) (below_first x pair over upper) (below_laid x over base (below_rest x pair over upper) lower)

-- the first below is less than all over it
pub laid_greater : (first : List ℕ × List ℕ) (over rest : Pairs) → below_all byte_order first.0 over ≡ true → laid over (first ∷ rest) ≡ first ∷ laid over rest
laid_greater first [] rest below = refl
laid_greater first (pair ∷ over) rest below =
    let greater : byte_order pair.0 first.0 ≡ Greater = turned first.0 pair.0 Less (below_first first.0 pair over below) in
    ap (put pair.0 pair.1) (laid_greater first over rest (below_rest first.0 pair over below)) ∙ rw greater refl

-- the first over is less than all below
pub laid_less : (pair : List ℕ × List ℕ) (over : Pairs) (first : List ℕ × List ℕ) (rest : Pairs) → IsRising (pair ∷ over) → IsRising (first ∷ rest) → byte_order pair.0 first.0 ≡ Less →
    laid (pair ∷ over) (first ∷ rest) ≡ pair ∷ laid over (first ∷ rest)
laid_less pair over first rest upper lower less =
    put-front pair.0 pair.1 (laid over (first ∷ rest))
    (below_laid pair.0 over (first ∷ rest) (and_parts _ _ upper).0 (and_from _ _ (ap is_lt less) (below_less pair.0 first.0 rest less (and_parts _ _ lower).0)))

pub laid_equal : (pair : List ℕ × List ℕ) (over : Pairs) (first : List ℕ × List ℕ) (rest : Pairs) → IsRising (pair ∷ over) → byte_order pair.0 first.0 ≡ Equal →
    laid (pair ∷ over) (first ∷ rest) ≡ pair ∷ laid over rest
laid_equal pair over first rest upper equal =
    let key : pair.0 ≡ first.0 = same_key pair.0 first.0 equal in
    let below : below_all byte_order first.0 over ≡ true = subst (λ k. below_all byte_order k over ≡ true) key (and_parts _ _ upper).0 in
    ap (put pair.0 pair.1) (laid_greater first over rest below) ∙ rw equal (ap (λ (k : List ℕ). (k, pair.1) ∷ laid over rest) (sym key))

-- nothing is below
pub laid_last : (pair : List ℕ × List ℕ) (over : Pairs) → IsRising (pair ∷ over) → laid (pair ∷ over) [] ≡ pair ∷ laid over []
laid_last pair over upper = laid_none (pair ∷ over) upper ∙ ap (λ rest. pair ∷ rest) (sym (laid_none over (and_parts _ _ upper).1))

-- the first of both, where the lower one may have been read ahead

module _ (over : Pairs) (pair : List ℕ × List ℕ) (others : Pairs) (front : Option (List ℕ × List ℕ)) (rest : Pairs) (upper : IsRising over) (lower : IsRising (ahead front rest)) (starts : over ≡ pair ∷ others) where
  pub step_last : front ≡ None → IsAhead front rest → laid over (ahead front rest) ≡ pair ∷ laid others (ahead front rest)
  step_last none is =
      let empty : ahead front rest ≡ [] = ap (λ f. ahead f rest) none ∙ subst (λ f. IsAhead f rest) none is in
      (λ i. laid (starts i) (empty i)) ∙ laid_last pair others (subst IsRising starts upper) ∙ ap (λ below. pair ∷ laid others below) (sym empty)

  module _ (first : List ℕ × List ℕ) (some : front ≡ Some first) where
    all : ahead front rest ≡ first ∷ rest
    all = ap (λ f. ahead f rest) some

    pub step_less : byte_order pair.0 first.0 ≡ Less → laid over (ahead front rest) ≡ pair ∷ laid others (ahead front rest)
    step_less less =
        (λ i. laid (starts i) (all i)) ∙ laid_less pair others first rest (subst IsRising starts upper) (subst IsRising all lower) less ∙ ap (λ below. pair ∷ laid others below) (sym all)

    pub step_equal : byte_order pair.0 first.0 ≡ Equal → laid over (ahead front rest) ≡ pair ∷ laid others rest
    step_equal equal = (λ i. laid (starts i) (all i)) ∙ laid_equal pair others first rest (subst IsRising starts upper) equal

    pub step_greater : byte_order pair.0 first.0 ≡ Greater → laid over (ahead front rest) ≡ first ∷ laid over rest
    step_greater greater =
        let less : byte_order first.0 pair.0 ≡ Less = turned pair.0 first.0 Greater greater in
        let below : below_all byte_order first.0 over ≡ true =
        subst (λ pairs. below_all byte_order first.0 pairs ≡ true) (sym starts) (and_from _ _ (ap is_lt less) (below_less first.0 pair.0 others less (and_parts _ _ (subst IsRising starts upper)).0)) in
        ap (laid over) all ∙ laid_greater first over rest below
