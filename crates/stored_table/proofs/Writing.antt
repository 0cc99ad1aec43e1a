-- What is looked up after places are written.
use Rattle.std.proofs.Common.{◌≡◌, ◌≢◌, ℕ, ◌+◌, ◌-◌, ◌*◌, ◌%◌, ◌/◌, ◌<◌, ◌≤◌, Bool, true, false, cond, ◌||◌, List, [], ◌∷◌, get_or, Option, Some, None, refl, sym, ap, subst, ◌∙◌, arith, length-set, ◌⊎◌, inl, inr}
use Rattle.std.specs.declared.cmp.Ordering.{Ordering}
use Rattle.std.specs.declared.cmp.Ordering.TheVariants.{Less, Equal, Greater}
use Rattle.std.specs.Ordering.{is_eq}
use Rattle.std.proofs.Math.Nat.{mod-lt, mul-le-mul_right}
use Rattle.std.proofs.lemmas.Nat.{div-mul-add}
use Rattle.std.proofs.lemmas.Bool.{eqb-true, eq-eqb, and_parts, and_from, both_ways, cases_eq}
use Rattle.std.proofs.lemmas.List.{get_or-set_same, get_or-set_other}
use Rattle.chain_map.specs.declared.db.Db.{Db}
use Rattle.chain_map.specs.declared.db.Db.TheVariants as db
use Rattle.chain_map.specs.Hash.{db_number, key_hash}
use Rattle.chain_map.specs.Pairs.{Pairs, byte_order, find, IsRising}
use Rattle.chain_map.proofs.Order.{find-put_same, find-put_other, find-without_same, find-without_other, IsRising-put, IsRising-without, ties_itself, same_key}
use Rattle.stored_table.specs.Move.{db_of_number}
use Rattle.stored_table.specs.Places.{Chains, Place, same_place, among, chain_of, chain_at, value_at, with_value, write_at, write_all, HasChains}

-- ---- homes

slot : (d n h : ℕ) → 1 ≤ d → d ≤ 7 → h < n → (d - 1) * n + h < 7 * n
slot d n h low high below =
    let e : (d - 1) * n ≤ 6 * n = mul-le-mul_right n (omega arith) in omega arith

pub db_low : (d : Db) → 1 ≤ db_number d
db_low db.Opens = omega arith
db_low db.GLock = omega arith
db_low db.Locking = omega arith
db_low db.Leases = omega arith
db_low db.Register = omega arith
db_low db.Brlock = omega arith
db_low db.Mailbox = omega arith

pub db_high : (d : Db) → db_number d ≤ 7
db_high db.Opens = omega arith
db_high db.GLock = omega arith
db_high db.Locking = omega arith
db_high db.Leases = omega arith
db_high db.Register = omega arith
db_high db.Brlock = omega arith
db_high db.Mailbox = omega arith

pub chain_below : (n : ℕ) (p : Place) → 1 ≤ n → chain_of n p < 7 * n
chain_below n p some = slot (db_number p.db) n (key_hash p.key % n) (db_low p.db) (db_high p.db) (mod-lt (key_hash p.key) (omega arith))

-- chains of different databases differ
pub same_db : (n : ℕ) (p q : Place) → 1 ≤ n → chain_of n p ≡ chain_of n q → db_number p.db ≡ db_number q.db
same_db n p q some e =
    let a = div-mul-add (db_number p.db - 1) n (key_hash p.key % n) (mod-lt (key_hash p.key) (omega arith)) in
    let b = div-mul-add (db_number q.db - 1) n (key_hash q.key % n) (mod-lt (key_hash q.key) (omega arith)) in
    let c : db_number p.db - 1 ≡ db_number q.db - 1 = sym a ∙ ap (λ x. x / n) e ∙ b in
    omega (arith, c, db_low p.db, db_low q.db)

-- ---- one place

with_value_same : (key : List ℕ) (value : Option (List ℕ)) (pairs : Pairs) → find key (with_value key value pairs) ≡ value
with_value_same key None pairs = find-without_same key pairs
with_value_same key (Some value) pairs = find-put_same key value pairs

with_value_other : (key other : List ℕ) (value : Option (List ℕ)) (pairs : Pairs) → other ≢ key → find other (with_value key value pairs) ≡ find other pairs
with_value_other key other None pairs differ = find-without_other key other pairs differ
with_value_other key other (Some value) pairs differ = find-put_other key value other pairs differ

pub with_value_rises : (key : List ℕ) (value : Option (List ℕ)) (pairs : Pairs) → IsRising pairs → IsRising (with_value key value pairs)
with_value_rises key None pairs rising = IsRising-without key pairs rising
with_value_rises key (Some value) pairs rising = IsRising-put key value pairs rising

equal_from_test : (o : Ordering) → is_eq o ≡ true → o ≡ Equal
equal_from_test Less e = absurd (both_ways _ refl e)
equal_from_test Equal e = refl
equal_from_test Greater e = absurd (both_ways _ refl e)

pub db_back : (d : Db) → db_of_number (db_number d - 1) ≡ d
db_back db.Opens = refl
db_back db.GLock = refl
db_back db.Locking = refl
db_back db.Leases = refl
db_back db.Register = refl
db_back db.Brlock = refl
db_back db.Mailbox = refl

pub db_is : (c d : Db) → db_number c ≡ db_number d → c ≡ d
db_is c d e = sym (db_back c) ∙ ap (λ n. db_of_number (n - 1)) e ∙ db_back d

pub place_is : (p q : Place) → same_place p q ≡ true → p ≡ q
place_is p q e =
    let parts = and_parts _ _ e in
    let d : p.db ≡ q.db = db_is p.db q.db (eqb-true _ _ parts.0) in
    let key : p.key ≡ q.key = same_key p.key q.key (equal_from_test _ parts.1) in
    λ i. record { db = d i; key = key i }

pub same_itself : (p : Place) → same_place p p ≡ true
same_itself p = and_from _ _ (eq-eqb _ _ refl) (ap is_eq (ties_itself p.key))

-- places that differ and are in one chain have different keys
keys_differ : (n : ℕ) (p q : Place) → 1 ≤ n → same_place q p ≡ false → chain_of n q ≡ chain_of n p → q.key ≢ p.key
keys_differ n p q some e h same =
    let t : same_place q p ≡ true = and_from _ _ (eq-eqb _ _ (sym (same_db n p q some (sym h)))) (ap is_eq (ap (byte_order q.key) (sym same) ∙ ties_itself q.key)) in
    both_ways _ e t

value_at-write_same : (n : ℕ) (p : Place) (value : Option (List ℕ)) (k : Chains) → HasChains n k → value_at n (write_at n p value k) p ≡ value
value_at-write_same n p value k h =
    ap (find p.key) (get_or-set_same k (chain_of n p) (with_value p.key value (chain_at k (chain_of n p))) [] (subst (λ m. chain_of n p < m) (sym h.count) (chain_below n p h.some)))
    ∙ with_value_same p.key value (chain_at k (chain_of n p))

pub value_at-write_other : (n : ℕ) (p q : Place) (value : Option (List ℕ)) (k : Chains) → HasChains n k → same_place q p ≡ false → value_at n (write_at n p value k) q ≡ value_at n k q
value_at-write_other n p q value k h e = go (cases_eq (chain_of n q) (chain_of n p))
  where
    go : (chain_of n q ≡ chain_of n p) ⊎ (chain_of n q ≡ chain_of n p → ⊥) → value_at n (write_at n p value k) q ≡ value_at n k q
    go (inl same) =
        ap (λ c. find q.key (get_or (write_at n p value k) c [])) same
        ∙ ap (find q.key) (get_or-set_same k (chain_of n p) (with_value p.key value (chain_at k (chain_of n p))) [] (subst (λ m. chain_of n p < m) (sym h.count) (chain_below n p h.some)))
        ∙ with_value_other p.key q.key value (chain_at k (chain_of n p)) (keys_differ n p q h.some e same)
        ∙ ap (λ c. find q.key (chain_at k c)) (sym same)
    go (inr apart) = ap (find q.key) (get_or-set_other k (chain_of n p) (chain_of n q) (with_value p.key value (chain_at k (chain_of n p))) [] apart)

pub has_chains-write : (n : ℕ) (p : Place) (value : Option (List ℕ)) (k : Chains) → HasChains n k → HasChains n (write_at n p value k)
has_chains-write n p value k h = record { some = h.some; count = length-set k (chain_of n p) (with_value p.key value (chain_at k (chain_of n p))) ∙ h.count }

-- ---- all places

pub has_chains-write_all : (n : ℕ) (new : Place → Option (List ℕ)) (ps : List Place) (k : Chains) → HasChains n k → HasChains n (write_all n new ps k)
has_chains-write_all n new [] k h = h
has_chains-write_all n new (p ∷ ps) k h = has_chains-write_all n new ps (write_at n p (new p) k) (has_chains-write n p (new p) k h)

one_written : (n : ℕ) (new : Place → Option (List ℕ)) (p q : Place) (k : Chains) → HasChains n k → value_at n (write_at n p (new p) k) q ≡ cond (same_place q p) (new q) (value_at n k q)
one_written n new p q k h = go (same_place q p) refl
  where
    go : (b : Bool) → same_place q p ≡ b → value_at n (write_at n p (new p) k) q ≡ cond b (new q) (value_at n k q)
    go true e = subst (λ r. value_at n (write_at n p (new p) k) r ≡ new r) (sym (place_is q p e)) (value_at-write_same n p (new p) k h)
    go false e = value_at-write_other n p q (new p) k h e

either_way : {A : Type 0} (a b : Bool) (x y : A) → cond b x (cond a x y) ≡ cond (a || b) x y
either_way true true x y = refl
either_way true false x y = refl
either_way false b x y = refl

pub value_at-write_all : (n : ℕ) (new : Place → Option (List ℕ)) (ps : List Place) (k : Chains) (q : Place) → HasChains n k → value_at n (write_all n new ps k) q ≡ cond (among q ps) (new q) (value_at n k q)
value_at-write_all n new [] k q h = refl
value_at-write_all n new (p ∷ ps) k q h =
    value_at-write_all n new ps (write_at n p (new p) k) q (has_chains-write n p (new p) k h)
    ∙ ap (cond (among q ps) (new q)) (one_written n new p q k h)
    ∙ either_way (same_place q p) (among q ps) (new q) (value_at n k q)
