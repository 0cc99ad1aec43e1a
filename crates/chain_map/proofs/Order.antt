-- The order of keys, and what rising keys entail.
use Rattle.std.proofs.Common.{◌≡◌, ◌≢◌, ℕ, Bool, true, false, T, List, not, refl, sym, ap, subst, ◌∙◌, Some, None, cond}
use Rattle.std.specs.declared.cmp.Ordering.{Ordering}
use Rattle.std.specs.declared.cmp.Ordering.TheVariants.{Less, Equal, Greater}
use Rattle.std.specs.Ordering.{is_lt, is_eq, ordering_reverse, eq_by_cmp}
use Rattle.std.specs.Cmp.{IsTotalOrder}
use Rattle.std.specs.FinMap.{slice_cmp-IsAntisymmetric, nat_cmp-IsAntisymmetric}
use Rattle.std.specs.FinMap.Entries.{is_sorted-put, is_sorted-where_key, find-put, find-where_key, same_entries}
use Rattle.std.proofs.lemmas.Bool.{both_ways, cond-false}
use Rattle.std.proofs.lemmas.Cmp.{nat_list_cmp_total, tied_itself}
use Rattle.chain_map.specs.Pairs.{Pairs, byte_order, IsRising, find, put, without}

pub total : IsTotalOrder byte_order
total = nat_list_cmp_total

-- keys that tie are equal
pub same_key : (a b : List ℕ) → byte_order a b ≡ Equal → a ≡ b
same_key = slice_cmp-IsAntisymmetric nat_cmp-IsAntisymmetric

pub ties_itself : (a : List ℕ) → byte_order a a ≡ Equal
ties_itself a = tied_itself total a

pub turned : (a b : List ℕ) (o : Ordering) → byte_order a b ≡ o → byte_order b a ≡ ordering_reverse o
turned a b o e = total.antisymm b a ∙ ap ordering_reverse e

pub less_from_test : (o : Ordering) → is_lt o ≡ true → o ≡ Less
less_from_test Less e = refl
less_from_test Equal e = absurd (both_ways _ refl e)
less_from_test Greater e = absurd (both_ways _ refl e)

pub equal_from_test : (o : Ordering) → is_eq o ≡ true → o ≡ Equal
equal_from_test Less e = absurd (both_ways _ refl e)
equal_from_test Equal e = refl
equal_from_test Greater e = absurd (both_ways _ refl e)

-- different keys do not tie
pub no_tie : (a b : List ℕ) → a ≢ b → eq_by_cmp byte_order a b ≡ false
no_tie a b differ = by _ (λ e. differ (same_key a b (equal_from_test _ e)))
  where
    by : (b : Bool) → (b ≡ true → ⊥) → b ≡ false
    by true f = absurd (f refl)
    by false f = refl

T_from : (b : Bool) → b ≡ true → T b
T_from b e = subst T (sym e) tt

true_from : (b : Bool) → T b → b ≡ true
true_from true t = refl
true_from false t = absurd t

pub IsRising-put : (key value : List ℕ) (pairs : Pairs) → IsRising pairs → IsRising (put key value pairs)
IsRising-put key value pairs rising = true_from _ (is_sorted-put byte_order total key value pairs (T_from _ rising))

pub IsRising-without : (key : List ℕ) (pairs : Pairs) → IsRising pairs → IsRising (without key pairs)
IsRising-without key pairs rising = true_from _ (is_sorted-where_key byte_order _ pairs (T_from _ rising))

pub find-put_same : (key value : List ℕ) (pairs : Pairs) → find key (put key value pairs) ≡ Some value
find-put_same key value pairs =
    find-put byte_order total key key value pairs ∙ ap (λ o. cond (is_eq o) (Some value) (find key pairs)) (ties_itself key)

pub find-put_other : (key value other : List ℕ) (pairs : Pairs) → other ≢ key → find other (put key value pairs) ≡ find other pairs
find-put_other key value other pairs differ =
    find-put byte_order total other key value pairs ∙ cond-false _ _ _ (no_tie other key differ)

-- whether a key is not this one is answered alike at keys that tie
other_alike : (key q : List ℕ) → (x : List ℕ) → byte_order q x ≡ Equal → not (eq_by_cmp byte_order key x) ≡ not (eq_by_cmp byte_order key q)
other_alike key q x e = ap (λ k. not (eq_by_cmp byte_order key k)) (sym (same_key q x e))

pub find-without_same : (key : List ℕ) (pairs : Pairs) → find key (without key pairs) ≡ None
find-without_same key pairs =
    find-where_key byte_order _ key (other_alike key key) pairs ∙ ap (λ o. cond (not (is_eq o)) (find key pairs) None) (ties_itself key)

pub find-without_other : (key other : List ℕ) (pairs : Pairs) → other ≢ key → find other (without key pairs) ≡ find other pairs
find-without_other key other pairs differ =
    find-where_key byte_order _ other (other_alike key other) pairs
    ∙ ap (λ b. cond (not b) (find other pairs) None) (no_tie key other (λ e. differ (sym e)))

pub same_pairs : (left right : Pairs) → IsRising left → IsRising right → ((key : List ℕ) → find key left ≡ find key right) → left ≡ right
same_pairs left right l r alike = same_entries byte_order total same_key left right (T_from _ l) (T_from _ r) alike
