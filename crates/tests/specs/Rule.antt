-- The law of a rule of chains that count.
use Rattle.std.proofs.Common.{◌≡◌, ℕ, zero, suc, ◌+◌, ◌<◌, Bool, true, false, cond, eqb, eq-eqb, ne_eqb, List, [], ◌∷◌, length, length-set, slice_set, sym, refl, ap, ◌∙◌, subst, arith}
use mathlib.Core.Option.{some, some-ne-none, some-injective}
use lib.ListN.{get_elem?}
use Rattle.std.proofs.lemmas.Bool.{eqb-true}
use Rattle.sid_core.specs.declared.entry.Entry.{Entry}
use Rattle.chain_map.specs.Pairs.{Pairs}
use Rattle.turn_types.specs.Journal.{Chains, Lawful, has}
use Rattle.tests.specs.Counting.{added, raised, chain_of_entry, counted}

pub set_other : {A : Type 0} (xs : List A) (i j : ℕ) (x : A) → (i ≡ j → ⊥) → get_elem? (slice_set xs i x) j ≡ get_elem? xs j
set_other [] i j x n = refl
set_other (y ∷ xs) zero zero x n = absurd (n refl)
set_other (y ∷ xs) zero (suc j) x n = refl
set_other (y ∷ xs) (suc i) zero x n = refl
set_other (y ∷ xs) (suc i) (suc j) x n = set_other xs i j x (λ e. n (ap suc e))

-- a chain that has c is one of the two
pub of_two : (P : ℕ → Type 0) (c w : ℕ) → P c → P (c + 1) → has w (c ∷ (c + 1) ∷ []) ≡ true → P w
of_two P c w p q e = go (eqb c w) refl (eqb (c + 1) w) refl e where
  go : (a : Bool) → eqb c w ≡ a → (b : Bool) → eqb (c + 1) w ≡ b → cond a true (cond b true false) ≡ true → P w
  go true is b other t = subst P (eqb-true c w is) p
  go false f true is t = subst P (eqb-true (c + 1) w is) q
  go false f false other t = absurd cc

first_has : (c d : ℕ) → has c (c ∷ d ∷ []) ≡ true
first_has c d = ap (λ b. cond b true (has c (d ∷ []))) (eq-eqb c c refl)

second_has : (c : ℕ) → has (c + 1) (c ∷ (c + 1) ∷ []) ≡ true
second_has c = ap (λ b. cond b true (has (c + 1) ((c + 1) ∷ []))) (ne_eqb c (c + 1) (λ e. omega arith)) ∙ ap (λ b. cond b true false) (eq-eqb (c + 1) (c + 1) refl)

-- two lists that are the same at a place are so after it counts
same_raised : (k l : Chains) (w : ℕ) → get_elem? k w ≡ get_elem? l w → get_elem? (raised k w) w ≡ get_elem? (raised l w) w
same_raised [] [] w e = refl
same_raised [] (y ∷ l) zero e = absurd (some-ne-none y (sym e))
same_raised [] (y ∷ l) (suc w) e = same_raised [] l w e
same_raised (x ∷ k) [] zero e = absurd (some-ne-none x e)
same_raised (x ∷ k) [] (suc w) e = same_raised k [] w e
same_raised (x ∷ k) (y ∷ l) zero e = ap (λ (z : Pairs). some (counted z)) (some-injective x y e)
same_raised (x ∷ k) (y ∷ l) (suc w) e = same_raised k l w e

raised_at : (k : Chains) (c : ℕ) (y : Pairs) → get_elem? k c ≡ some y → get_elem? (raised k c) c ≡ some (counted y)
raised_at [] c y e = absurd (some-ne-none y (sym e))
raised_at (x ∷ k) zero y e = ap (λ (z : Pairs). some (counted z)) (some-injective x y e)
raised_at (x ∷ k) (suc c) y e = raised_at k c y e

-- what becomes of the two chains
pub first_added : (k : Chains) (e : Entry) (y : Pairs) → get_elem? k (chain_of_entry e) ≡ some y → get_elem? (added k e) (chain_of_entry e) ≡ some (counted y)
first_added k e y at = let c = chain_of_entry e in set_other (raised k c) (c + 1) c _ (λ q. omega arith) ∙ raised_at k c y at

pub second_added : (k : Chains) (e : Entry) (y : Pairs) → get_elem? k (chain_of_entry e + 1) ≡ some y → get_elem? (added k e) (chain_of_entry e + 1) ≡ some (counted y)
second_added k e y at = let c = chain_of_entry e in raised_at (raised k c) (c + 1) y (set_other k c (c + 1) _ (λ q. omega arith) ∙ at)

pub counting_lawful : Lawful (λ k. Unit {0}) added (λ k e. chain_of_entry e + 1 < length k) (λ k e. chain_of_entry e ∷ (chain_of_entry e + 1) ∷ []) (λ js e. Unit {0})
counting_lawful = record {
  local = λ k l e a b same agree. (refl, λ h. omega arith);
  made = λ k l e a b same agree may. let c = chain_of_entry e in λ w is.
      of_two (λ z. get_elem? (added k e) z ≡ get_elem? (added l e) z) c w
      (set_other (raised k c) (c + 1) c _ (λ q. omega arith) ∙ same_raised k l c (agree c (first_has c (c + 1))) ∙ sym (set_other (raised l c) (c + 1) c _ (λ q. omega arith)))
      (same_raised (raised k c) (raised l c) (c + 1) (set_other k c (c + 1) _ (λ q. omega arith) ∙ agree (c + 1) (second_has c) ∙ sym (set_other l c (c + 1) _ (λ q. omega arith))))
      is;
  frame = λ k e a h. let c = chain_of_entry e in (
    length-set (raised k c) (c + 1) _ ∙ length-set k c _,
    λ w no. set_other (raised k c) (c + 1) w _ (λ is. let t : true ≡ false = sym (subst (λ z. has z (c ∷ (c + 1) ∷ []) ≡ true) is (second_has c)) ∙ no in cc)
        ∙ set_other k c w _ (λ is. let t : true ≡ false = sym (subst (λ z. has z (c ∷ (c + 1) ∷ []) ≡ true) is (first_has c (c + 1))) ∙ no in cc),
  );
  named = λ k e a h. (omega arith, omega arith, (omega arith, omega arith, tt));
}
