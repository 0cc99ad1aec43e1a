-- The databases as one list of chains, and where each record stands in it.
use Rattle.std.specs.Prelude.{◌≡◌, ℕ, ◌*◌, ◌==◌, ◌&&◌, ◌≤◌, Bool, List, [], ◌∷◌, length, slice_set, slice_index_or, Option, Some, None}
use Rattle.std.specs.Ordering.{eq_by_cmp}
use Rattle.std.specs.List.{list_any}
use Rattle.chain_map.specs.declared.db.Db.{Db}
use Rattle.chain_map.specs.Hash.{db_number, chain_number}
use Rattle.chain_map.specs.Pairs.{Pairs, byte_order, find, put, without}

-- the chains of the seven databases, one database after another
abbrev pub Chains : Type 0
Chains = List Pairs

-- a database, and a key in it
pub record Place : Type 0 where
  pub db : Db
  pub key : List ℕ

abbrev pub place : Db → List ℕ → Place
place d key = record { db = d; key = key }

abbrev pub same_place : Place → Place → Bool
same_place p q = (db_number p.db == db_number q.db) && eq_by_cmp byte_order p.key q.key

abbrev pub among : Place → List Place → Bool
among p ps = list_any (same_place p) ps

-- the number of a place's chain, with so many chains per database
abbrev pub chain_of : ℕ → Place → ℕ
chain_of n p = chain_number p.db p.key n

-- the chain with a number; an empty one where there is none
abbrev pub chain_at : Chains → ℕ → Pairs
chain_at k c = slice_index_or k c []

-- the value at a place
abbrev pub value_at : ℕ → Chains → Place → Option (List ℕ)
value_at n k p = find p.key (chain_at k (chain_of n p))

-- ---- what is written

-- the pairs with this value under the key, or without the key
abbrev pub with_value : List ℕ → Option (List ℕ) → Pairs → Pairs
with_value key None pairs = without key pairs
with_value key (Some value) pairs = put key value pairs

abbrev pub write_at : ℕ → Place → Option (List ℕ) → Chains → Chains
write_at n p value k = slice_set k (chain_of n p) (with_value p.key value (chain_at k (chain_of n p)))

-- each of these places with its new value
abbrev pub write_all : ℕ → (Place → Option (List ℕ)) → List Place → Chains → Chains
write_all n new [] k = k
write_all n new (p ∷ ps) k = write_all n new ps (write_at n p (new p) k)

-- seven databases of so many chains
pub record HasChains (n : ℕ) (k : Chains) : Type 0 where
  pub some : 1 ≤ n
  pub count : length k ≡ 7 * n
