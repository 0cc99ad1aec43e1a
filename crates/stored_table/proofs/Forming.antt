-- Chains stay well formed where a place gets none, or a spelling of its database's record.
use Rattle.std.proofs.Common.{◌≡◌, ℕ, zero, suc, ◌-◌, ◌*◌, ◌/◌, ◌%◌, ◌<◌, ◌≤◌, Bool, true, false, cond, not, List, [], ◌∷◌, length, set, get_or, Option, Some, None, refl, sym, ap, subst, ◌∙◌, arith, ◌⊎◌, inl, inr}
use Rattle.std.specs.declared.cmp.Ordering.{Ordering}
use Rattle.std.specs.declared.cmp.Ordering.TheVariants.{Less, Equal, Greater}
use Rattle.std.specs.Ordering.{eq_by_cmp}
use Rattle.std.specs.List.{AllByRecursion}
use Rattle.std.specs.FinMap.Entries.{by_order}
use Rattle.std.proofs.Math.Nat.{mod-lt}
use Rattle.std.proofs.lemmas.Nat.{div-mul-add}
use Rattle.std.proofs.lemmas.Bool.{cases_eq}
use Rattle.std.proofs.lemmas.List.{get_or-set_same, get_or-set_other}
use Rattle.chain_map.specs.Hash.{db_number, key_hash}
use Rattle.chain_map.specs.Pairs.{Pairs, byte_order, put, without, IsRising}
use Rattle.chain_map.proofs.Order.{same_key}
use Rattle.stored_table.specs.Keys.{key_length}
use Rattle.stored_table.specs.Places.{Chains, Place, place, chain_of, chain_at, with_value, write_at, write_all, HasChains}
use Rattle.stored_table.specs.Move.{db_of_number}
use Rattle.stored_table.specs.Stands.{IsSpelled, IsPlaced, IsWellFormed}
use Rattle.stored_table.proofs.Writing.{chain_below, has_chains-write, with_value_rises, db_back}

-- ---- pairs that are put and taken out

module _ (P : List ℕ × List ℕ → Type 0) where
  all_put_by : (key value : List ℕ) (pair : List ℕ × List ℕ) (pairs : Pairs) (o : Ordering) → byte_order key pair.0 ≡ o → P (key, value) → AllByRecursion P (pair ∷ pairs) → AllByRecursion P (put key value pairs)
      → AllByRecursion P (by_order o ((key, value) ∷ pair ∷ pairs) ((pair.0, value) ∷ pairs) (pair ∷ put key value pairs))
  all_put_by key value pair pairs Less e p all more = (p, all)
  all_put_by key value pair pairs Equal e p all more = (subst (λ k. P (k, value)) (same_key key pair.0 e) p, all.1)
  all_put_by key value pair pairs Greater e p all more = (all.0, more)

  pub all_put : (key value : List ℕ) (pairs : Pairs) → P (key, value) → AllByRecursion P pairs → AllByRecursion P (put key value pairs)
  all_put key value [] p all = (p, tt)
  all_put key value (pair ∷ pairs) p all = all_put_by key value pair pairs (byte_order key pair.0) refl p all (all_put key value pairs p all.1)

  all_kept : (b : Bool) (pair : List ℕ × List ℕ) (pairs : Pairs) → P pair → AllByRecursion P pairs → AllByRecursion P (cond b (pair ∷ pairs) pairs)
  all_kept true pair pairs p all = (p, all)
  all_kept false pair pairs p all = all

  pub all_without : (key : List ℕ) (pairs : Pairs) → AllByRecursion P pairs → AllByRecursion P (without key pairs)
  all_without key [] all = tt
  all_without key (pair ∷ pairs) all = all_kept (not (eq_by_cmp byte_order key pair.0)) pair (without key pairs) all.0 (all_without key pairs all.1)

-- ---- one place

-- a value that may stand at the place
pub record MayStand (p : Place) (value : List ℕ) : Type 0 where
  pub long : length p.key ≡ key_length p.db
  pub bytes : AllByRecursion (λ byte. byte < 256) p.key
  pub spelled : IsSpelled p.db value

abbrev pub IsValue : Place → Option (List ℕ) → Type 0
IsValue p None = Unit {0}
IsValue p (Some value) = MayStand p value

pub db_of_chain : (n : ℕ) (p : Place) → 1 ≤ n → db_of_number (chain_of n p / n) ≡ p.db
db_of_chain n p some =
    let low : key_hash p.key % n < n = mod-lt (key_hash p.key) (omega arith) in
    ap db_of_number (div-mul-add (db_number p.db - 1) n (key_hash p.key % n) low) ∙ db_back p.db

placed_new : (n : ℕ) (p : Place) (value : List ℕ) → 1 ≤ n → MayStand p value → IsPlaced n (chain_of n p) (p.key, value)
placed_new n p value some m =
    let d = sym (db_of_chain n p some) in
    record {
      long = m.long ∙ ap key_length d;
      bytes = m.bytes;
      at_home = ap (λ x. chain_of n (place x p.key)) (sym d);
      spelled = subst (λ x. IsSpelled x value) d m.spelled;
    }

all_with : (n : ℕ) (p : Place) (value : Option (List ℕ)) (pairs : Pairs) → 1 ≤ n → IsValue p value → AllByRecursion (IsPlaced n (chain_of n p)) pairs → AllByRecursion (IsPlaced n (chain_of n p)) (with_value p.key value pairs)
all_with n p None pairs some m all = all_without (IsPlaced n (chain_of n p)) p.key pairs all
all_with n p (Some value) pairs some m all = all_put (IsPlaced n (chain_of n p)) p.key value pairs (placed_new n p value some m) all

placed-write_at : (n : ℕ) (p : Place) (value : Option (List ℕ)) (k : Chains) → HasChains n k → IsValue p value → ((c : ℕ) → c < 7 * n → AllByRecursion (IsPlaced n c) (chain_at k c)) → (c : ℕ) → c < 7 * n → AllByRecursion (IsPlaced n c) (chain_at (write_at n p value k) c)
placed-write_at n p value k h m all c below = go (cases_eq c (chain_of n p))
  where
    here : AllByRecursion (IsPlaced n (chain_of n p)) (chain_at (write_at n p value k) (chain_of n p))
    here = subst (AllByRecursion (IsPlaced n (chain_of n p)))
        (sym (get_or-set_same k (chain_of n p) (with_value p.key value (chain_at k (chain_of n p))) [] (subst (λ x. chain_of n p < x) (sym h.count) (chain_below n p h.some))))
        (all_with n p value (chain_at k (chain_of n p)) h.some m (all (chain_of n p) (chain_below n p h.some)))

    go : (c ≡ chain_of n p) ⊎ (c ≡ chain_of n p → ⊥) → AllByRecursion (IsPlaced n c) (chain_at (write_at n p value k) c)
    go (inl at) = subst (λ x. AllByRecursion (IsPlaced n x) (chain_at (write_at n p value k) x)) (sym at) here
    go (inr apart) = subst (AllByRecursion (IsPlaced n c)) (sym (get_or-set_other k (chain_of n p) c (with_value p.key value (chain_at k (chain_of n p))) [] apart)) (all c below)

all_set : {A : Type 0} (P : A → Type 0) (xs : List A) (i : ℕ) (x d : A) → (P (get_or xs i d) → P x) → AllByRecursion P xs → AllByRecursion P (set xs i x)
all_set P [] i x d f all = tt
all_set P (y ∷ ys) zero x d f all = (f all.0, all.1)
all_set P (y ∷ ys) (suc i) x d f all = (all.0, all_set P ys i x d f all.1)

pub well_formed-write : (n : ℕ) (p : Place) (value : Option (List ℕ)) (k : Chains) → IsWellFormed n k → IsValue p value → IsWellFormed n (write_at n p value k)
well_formed-write n p value k w m = record {
  chains = has_chains-write n p value k w.chains;
  rising = all_set IsRising k (chain_of n p) (with_value p.key value (chain_at k (chain_of n p))) [] (with_value_rises p.key value (chain_at k (chain_of n p))) w.rising;
  placed = placed-write_at n p value k w.chains m w.placed;
}

pub well_formed-write_all : (n : ℕ) (new : Place → Option (List ℕ)) (ps : List Place) (k : Chains) → IsWellFormed n k → AllByRecursion (λ p. IsValue p (new p)) ps → IsWellFormed n (write_all n new ps k)
well_formed-write_all n new [] k w all = w
well_formed-write_all n new (p ∷ ps) k w all = well_formed-write_all n new ps (write_at n p (new p) k) (well_formed-write n p (new p) k w all.0) all.1
