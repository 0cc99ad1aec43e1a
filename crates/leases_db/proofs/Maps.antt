-- A finite map by lease names is what the entries of an ordered map make.
use Rattle.std.proofs.Common.{◌≡◌, ◌&&◌, ℕ, List, [], ◌∷◌, refl, ap, sym, subst, ◌∙◌}
use Rattle.std.specs.Prelude.{Option, Some, None, cond, IsSome, OnSome}
use Rattle.std.specs.Option.{option_copied_mut}
use Rattle.std.specs.Borrow.{MutBor}
use Rattle.std.specs.declared.cmp.Ordering.{Ordering}
use Rattle.std.specs.declared.cmp.Ordering.TheVariants.{Less, Equal, Greater}
use Rattle.std.specs.Ordering.{nat_cmp, ordering_then, is_eq, eq_by_cmp}
use Rattle.std.specs.Cmp.{IsTotalOrder, nat_cmp_total, on_total, then_total, eq_by_cmp_equiv, unsigned_tied}
use Rattle.std.specs.Map.{lookup}
use Rattle.std.specs.BTreeMap.{is_at}
use Rattle.std.specs.FinMap.{FinMap, from_entries, get, insert, remove, find, get-from_entries, get-insert, get-remove, same_map, IsAntisymmetric, nat_cmp-IsAntisymmetric}
use Rattle.sid_core.specs.declared.ids.LeaseName.{LeaseName}
use Rattle.sid_core.specs.Ids.{same_name}
use Rattle.server_ids.proofs.Maps.{lent_so}
use Rattle.leases_db.specs.Names.{name_cmp, named}

-- the order of pairs of numbers
abbrev pub pair_cmp : ℕ × ℕ → ℕ × ℕ → Ordering
pair_cmp x y = ordering_then (nat_cmp x.0 y.0) (nat_cmp x.1 y.1)

abbrev pub pair_of : LeaseName → ℕ × ℕ
pair_of name = (name.guid, name.key)

total : IsTotalOrder name_cmp
total = then_total (on_total (λ n. n.guid) nat_cmp_total) (on_total (λ n. n.key) nat_cmp_total)

both : (r s : Ordering) → ordering_then r s ≡ Equal → (r ≡ Equal) × (s ≡ Equal)
both Less s e = absurd (subst (λ r. Matches r) (sym e) tt)
  where
    Matches : Ordering → Type 0
    Matches Less = ⊥
    Matches Equal = Unit {0}
    Matches Greater = ⊥
both Equal s e = (refl, e)
both Greater s e = absurd (subst (λ r. Matches r) (sym e) tt)
  where
    Matches : Ordering → Type 0
    Matches Less = ⊥
    Matches Equal = Unit {0}
    Matches Greater = ⊥

both_equal : (r s : Ordering) → is_eq (ordering_then r s) ≡ (is_eq r && is_eq s)
both_equal Less s = refl
both_equal Equal s = refl
both_equal Greater s = refl

same_by_cmp : (a b : LeaseName) → eq_by_cmp name_cmp a b ≡ same_name a b
same_by_cmp a b = both_equal (nat_cmp a.guid b.guid) (nat_cmp a.key b.key) ∙ (λ i. unsigned_tied a.guid b.guid i && unsigned_tied a.key b.key i)

-- what a map has after a record is put
pub get_inserted : {X : Type 0} (m : FinMap name_cmp X) (k : LeaseName) (w : X) (q : LeaseName) → get (insert m k w) q ≡ cond (same_name q k) (Some w) (get m q)
get_inserted m k w q = get-insert total m k w q ∙ ap (λ b. cond b (Some w) (get m q)) (same_by_cmp q k)

antisymmetric : IsAntisymmetric name_cmp
antisymmetric x y e =
    let b = both (nat_cmp x.guid y.guid) (nat_cmp x.key y.key) e in
    λ i. record { guid = nat_cmp-IsAntisymmetric x.guid y.guid b.0 i; key = nat_cmp-IsAntisymmetric x.key y.key b.1 i }

module _ {X : Type 0} where
  found : (es : List ((ℕ × ℕ) × X)) (q : LeaseName) → find name_cmp q (named es) ≡ lookup (is_at (pair_cmp (pair_of q))) es
  found [] q = refl
  found (e ∷ es) q = ap (cond (is_at (pair_cmp (pair_of q)) e.0) (Some e.1)) (found es q)

  -- what the map has at a name
  pub get_is : (es : List ((ℕ × ℕ) × X)) (q : LeaseName) → get (from_entries {R = name_cmp} (named es)) q ≡ lookup (is_at (pair_cmp (pair_of q))) es
  get_is es q = get-from_entries total (named es) q ∙ found es q

  -- entries that differ at one name make maps that differ there
  pub inserted : (es fs : List ((ℕ × ℕ) × X)) (k : LeaseName) (v : X)
      → ((q : ℕ × ℕ) → lookup (is_at (pair_cmp q)) fs ≡ cond (is_at (pair_cmp (pair_of k)) q) (Some v) (lookup (is_at (pair_cmp q)) es))
      → from_entries {R = name_cmp} (named fs) ≡ insert (from_entries (named es)) k v
  inserted es fs k v h = same_map total antisymmetric _ _ (λ q.
      get_is fs q ∙ h (pair_of q) ∙ ap (λ b. cond b (Some v) (lookup (is_at (pair_cmp (pair_of q))) es)) ((eq_by_cmp_equiv total).symm k q)
      ∙ sym (get-insert total (from_entries (named es)) k v q ∙ ap (cond (eq_by_cmp name_cmp q k) (Some v)) (get_is es q)))

  -- and so the map of which a record is lent, where it has one, once this record is left
  pub lent_at : (es fs : List ((ℕ × ℕ) × X)) (m : FinMap name_cmp X) (k : LeaseName) (v : X) (r : Option (MutBor X)) → from_entries (named es) ≡ m → option_copied_mut r ≡ lookup (is_at (pair_cmp (pair_of k))) es
      → (IsSome (lookup (is_at (pair_cmp (pair_of k))) es) → (q : ℕ × ℕ) → lookup (is_at (pair_cmp q)) fs ≡ cond (is_at (pair_cmp (pair_of k)) q) (Some v) (lookup (is_at (pair_cmp q)) es))
      → OnSome r (from_entries (named fs) ≡ insert m k v)
  lent_at es fs m k v r is lent h = lent_so r _ _ lent (λ some. inserted es fs k v (h some) ∙ ap (λ m. insert m k v) is)

  pub removed : (es fs : List ((ℕ × ℕ) × X)) (k : LeaseName)
      → ((q : ℕ × ℕ) → lookup (is_at (pair_cmp q)) fs ≡ cond (is_at (pair_cmp (pair_of k)) q) None (lookup (is_at (pair_cmp q)) es))
      → from_entries {R = name_cmp} (named fs) ≡ remove (from_entries (named es)) k
  removed es fs k h = same_map total antisymmetric _ _ (λ q.
      get_is fs q ∙ h (pair_of q) ∙ ap (λ b. cond b None (lookup (is_at (pair_cmp (pair_of q))) es)) ((eq_by_cmp_equiv total).symm k q)
      ∙ sym (get-remove total (from_entries (named es)) k q ∙ ap (cond (eq_by_cmp name_cmp q k) None) (get_is es q)))
