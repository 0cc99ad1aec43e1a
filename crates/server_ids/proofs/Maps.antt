-- A finite map is what the entries of an ordered map make.
use Rattle.std.proofs.Common.{◌≡◌, ℕ, List, [], ◌∷◌, refl, ap, sym, subst, ◌∙◌}
use Rattle.std.specs.Prelude.{Option, Some, None, cond, IsSome, OnSome}
use Rattle.std.specs.Option.{option_copied_mut}
use Rattle.std.specs.Borrow.{MutBor}
use Rattle.std.specs.Ordering.{nat_cmp, eq_by_cmp}
use Rattle.std.specs.Cmp.{nat_cmp_total, eq_by_cmp_equiv}
use Rattle.std.specs.Map.{lookup}
use Rattle.std.specs.BTreeMap.{is_at}
use Rattle.std.specs.FinMap.{FinMap, from_entries, get, insert, remove, find, get-from_entries, get-insert, get-remove, same_map, nat_cmp-IsAntisymmetric}

-- what is said where there was a record is said of what is lent of it
pub lent_so : {X : Type 0} (r : Option (MutBor X)) (o : Option X) (P : Type 0) → option_copied_mut r ≡ o → (IsSome o → P) → OnSome r P
lent_so None o P e h = tt
lent_so (Some r) o P e h = h (subst IsSome e refl)

module _ {X : Type 0} where
  found : (es : List (ℕ × X)) (q : ℕ) → find nat_cmp q es ≡ lookup (is_at (nat_cmp q)) es
  found [] q = refl
  found (e ∷ es) q = ap (cond (is_at (nat_cmp q) e.0) (Some e.1)) (found es q)

  -- what the map has at a pid
  pub get_is : (es : List (ℕ × X)) (q : ℕ) → get (from_entries {R = nat_cmp} es) q ≡ lookup (is_at (nat_cmp q)) es
  get_is es q = get-from_entries nat_cmp_total es q ∙ found es q

  -- entries that differ at one pid make maps that differ there
  pub inserted : (es fs : List (ℕ × X)) (k : ℕ) (v : X)
      → ((q : ℕ) → lookup (is_at (nat_cmp q)) fs ≡ cond (is_at (nat_cmp k) q) (Some v) (lookup (is_at (nat_cmp q)) es))
      → from_entries {R = nat_cmp} fs ≡ insert (from_entries es) k v
  inserted es fs k v h = same_map nat_cmp_total nat_cmp-IsAntisymmetric _ _ (λ q.
      get_is fs q ∙ h q ∙ ap (λ b. cond b (Some v) (lookup (is_at (nat_cmp q)) es)) ((eq_by_cmp_equiv nat_cmp_total).symm k q)
      ∙ sym (get-insert nat_cmp_total (from_entries es) k v q ∙ ap (cond (eq_by_cmp nat_cmp q k) (Some v)) (get_is es q)))

  -- and so the map of which a record is lent, where it has one, once this record is left
  pub lent_at : (es fs : List (ℕ × X)) (m : FinMap nat_cmp X) (k : ℕ) (v : X) (r : Option (MutBor X)) → from_entries es ≡ m → option_copied_mut r ≡ lookup (is_at (nat_cmp k)) es
      → (IsSome (lookup (is_at (nat_cmp k)) es) → (q : ℕ) → lookup (is_at (nat_cmp q)) fs ≡ cond (is_at (nat_cmp k) q) (Some v) (lookup (is_at (nat_cmp q)) es))
      → OnSome r (from_entries fs ≡ insert m k v)
  lent_at es fs m k v r is lent h = lent_so r _ _ lent (λ some. inserted es fs k v (h some) ∙ ap (λ m. insert m k v) is)

  pub removed : (es fs : List (ℕ × X)) (k : ℕ)
      → ((q : ℕ) → lookup (is_at (nat_cmp q)) fs ≡ cond (is_at (nat_cmp k) q) None (lookup (is_at (nat_cmp q)) es))
      → from_entries {R = nat_cmp} fs ≡ remove (from_entries es) k
  removed es fs k h = same_map nat_cmp_total nat_cmp-IsAntisymmetric _ _ (λ q.
      get_is fs q ∙ h q ∙ ap (λ b. cond b None (lookup (is_at (nat_cmp q)) es)) ((eq_by_cmp_equiv nat_cmp_total).symm k q)
      ∙ sym (get-remove nat_cmp_total (from_entries es) k q ∙ ap (cond (eq_by_cmp nat_cmp q k) None) (get_is es q)))
