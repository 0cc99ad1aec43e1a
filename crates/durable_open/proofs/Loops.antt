-- A loop that hands entries over in place.
use Rattle.std.proofs.Common.{◌≡◌, ℕ, zero, suc, ◌+◌, ◌<◌, Bool, true, false, cond, ◌||◌, List, [], ◌∷◌, ◌++◌, length, get_or, take, drop, map, refl, ap, sym, ◌∙◌}
use Rattle.std.specs.List.{list_any}
use Rattle.std.proofs.lemmas.List.Folds.{list_any_more}
use Rattle.sid_core.specs.declared.ids.Sid.{Sid}
use Rattle.record_codec.specs.declared.share_rec.ShareEntry.{ShareEntry}
use Rattle.durable_open.specs.Taking.{with_owner, taken_over}

module _ {X : Type 0} where
  there : (f : X → X) (xs : List X) (i : ℕ) (d : X) → get_or (map f (take i xs) ++ drop i xs) i d ≡ get_or xs i d
  there f [] zero d = refl
  there f [] (suc i) d = refl
  there f (x ∷ xs) zero d = refl
  there f (x ∷ xs) (suc i) d = there f xs i d

  -- whether one has been found, one step on
  pub found_next : (p : X → Bool) (f : X → X) (xs ys : List X) (i : ℕ) (d : X) (found taken next : Bool) → i < length xs → ys ≡ map f (take i xs) ++ drop i xs
      → found ≡ list_any p (take i xs) → taken ≡ p (get_or ys i d) → next ≡ (found || taken) → next ≡ list_any p (take (i + 1) xs)
  found_next p f xs ys i d found taken next lt h before is e =
      e ∙ ap (λ b. b || taken) before ∙ ap (λ b. list_any p (take i xs) || b) (is ∙ ap p (ap (λ zs. get_or zs i d) h ∙ there f xs i d)) ∙ sym (list_any_more p xs i d lt)

pub handed : (p : ShareEntry → Bool) (owner : Sid) (handle : ℕ) (e r : ShareEntry) (taken : Bool) → r ≡ cond taken (with_owner owner handle e) e → taken ≡ p e → r ≡ taken_over p owner handle e
handed p owner handle e r taken is t = is ∙ ap (λ b. cond b (with_owner owner handle e) e) t

-- ---- where none is taken

neither : (a b : Bool) → (a || b) ≡ false → (a ≡ false) × (b ≡ false)
neither true b e = absurd cc
neither false b e = (refl, e)

pub none_taken : (p : ShareEntry → Bool) (owner : Sid) (handle : ℕ) (xs : List ShareEntry) → list_any p xs ≡ false → map (taken_over p owner handle) xs ≡ xs
none_taken p owner handle [] e = refl
none_taken p owner handle (x ∷ xs) e =
    let parts : (p x ≡ false) × (list_any p xs ≡ false) = neither (p x) (list_any p xs) e in
    ap (λ b. cond b (with_owner owner handle x) x ∷ map (taken_over p owner handle) xs) parts.0 ∙ ap (λ ys. x ∷ ys) (none_taken p owner handle xs parts.1)
