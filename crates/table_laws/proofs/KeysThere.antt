-- The keys of records that are there are among all keys of their database.
use Rattle.std.proofs.Common.{◌≡◌, ℕ, zero, suc, ◌+◌, ◌*◌, ◌-◌, ◌<◌, ◌≤◌, ◌%◌, true, List, Option, Some, None, refl, sym, ap, ◌∙◌, subst, inl, inr, arith}
use Rattle.std.specs.Prelude.{is_some}
use Rattle.std.specs.Ordering.{eq_by_cmp}
use Rattle.std.specs.FinMap.Entries.{is_some-find}
use Rattle.std.proofs.Math.Nat.{mod-lt}
use Rattle.std.proofs.lemmas.Bool.{and_from, eq-eqb}
use Rattle.serial_table.proofs.Members.{IsIn, one_of}
use Rattle.chain_map.specs.declared.db.Db.{Db}
use Rattle.chain_map.specs.Hash.{db_number, key_hash}
use Rattle.chain_map.specs.Pairs.{byte_order}
use Rattle.record_codec.specs.Codec.{Codec}
use Rattle.stored_table.specs.Places.{Chains, Place, place, chain_of, chain_at, value_at}
use Rattle.stored_table.specs.Decoded.{decoded}
use Rattle.stored_table.specs.Met.{count_from, chains_in, keys_at, all_keys, record_at}
use Rattle.stored_table.proofs.Writing.{place_is}
use Rattle.table_laws.proofs.Meets.{flat_mapped_in}

counted_at : (low n i : ℕ) → i < n → IsIn (low + i) (count_from low n)
counted_at low zero i h = absurd (omega (arith, h))
counted_at low (suc n) zero h = inl (omega arith)
counted_at low (suc n) (suc i) h =
    let same : suc low + i ≡ low + suc i = omega arith in
    inr (subst (λ x. IsIn x (count_from (suc low) n)) same (counted_at (suc low) n i (omega (arith, h))))

-- the chain of a key is one of its database
pub own_chain_in : (n : ℕ) (d : Db) (key : List ℕ) → 1 ≤ n → IsIn (chain_of n (place d key)) (chains_in n d)
own_chain_in n d key some =
    let low : key_hash key % n < n = mod-lt (key_hash key) (omega (arith, some)) in
    counted_at ((db_number d - 1) * n) n (key_hash key % n) low

module _ (n : ℕ) (k : Chains) (d : Db) (key : List ℕ) where
  some_key : is_some (value_at n k (place d key)) ≡ true → IsIn key (keys_at k (chain_of n (place d key)))
  some_key e =
      let x = one_of (eq_by_cmp byte_order key) (keys_at k (chain_of n (place d key))) (sym (is_some-find byte_order key (chain_at k (chain_of n (place d key)))) ∙ e) in
      subst (λ y. IsIn y (keys_at k (chain_of n (place d key)))) (ap (λ (p : Place). p.key) (sym (place_is (place d key) (place d x.0) (and_from _ _ (eq-eqb (db_number d) (db_number d) refl) x.2)))) x.1

  key_there : 1 ≤ n → is_some (value_at n k (place d key)) ≡ true → IsIn key (all_keys n k d)
  key_there some e =
      flat_mapped_in (keys_at k) (chains_in n d) (chain_of n (place d key)) key (own_chain_in n d key some) (some_key e)

  some_value : {A : Type 0} (c : Codec (ℕ × A)) (o : Option (List ℕ)) (r : A) → decoded c o ≡ Some r → is_some o ≡ true
  some_value c None r e = absurd cc
  some_value c (Some bytes) r e = refl

  -- a record under the key
  pub recorded_key : {A : Type 0} (c : Codec (ℕ × A)) (r : A) → 1 ≤ n → record_at c n k d key ≡ Some r → IsIn key (all_keys n k d)
  recorded_key c r some e = key_there some (some_value c (value_at n k (place d key)) r e)
