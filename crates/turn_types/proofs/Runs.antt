-- What a legal journal makes, entry by entry.
use Rattle.std.proofs.Common.{◌≡◌, ℕ, zero, suc, ◌<◌, ◌≤◌, List, [], ◌∷◌, ◌++◌, length, take, sym, refl, ap, ◌∙◌, subst, arith, append_assoc, append-nil}
use Rattle.std.proofs.lemmas.List.{take-append-le, take_all}
use Rattle.std.proofs.lemmas.List.Sums.{fold_push}
use Rattle.std.specs.Prelude.{fold}
use mathlib.Core.Logic.{dite}
use mathlib.Core.Option.{some, some-ne-none, some-injective}
use native.Mathlib.Decide.{dec_le}
use lib.ListN.{get_elem?}
use Rattle.turn_types.specs.Journal.{Chains, of_pass, Legal, Reached, Lawful, Agree, IsUntouched}
use Rattle.sid_core.specs.declared.entry.Entry.{Entry}

pub at_longer : {A : Type 0} (xs zs : List A) (i : ℕ) (a : A) → get_elem? xs i ≡ some a → get_elem? (xs ++ zs) i ≡ some a
at_longer [] zs i a e = absurd (some-ne-none a (sym e))
at_longer (x ∷ xs) zs zero a e = e
at_longer (x ∷ xs) zs (suc i) a e = at_longer xs zs i a e

pub at_last : {A : Type 0} (xs : List A) (a : A) (i : ℕ) → i ≡ length xs → get_elem? (xs ++ a ∷ []) i ≡ some a
at_last [] a zero e = refl
at_last [] a (suc i) e = absurd (omega arith)
at_last (x ∷ xs) a zero e = absurd (omega arith)
at_last (x ∷ xs) a (suc i) e = at_last xs a i (omega arith)

pub at_front : {A : Type 0} (xs zs : List A) (i : ℕ) (a : A) → i < length xs → get_elem? (xs ++ zs) i ≡ some a → get_elem? xs i ≡ some a
at_front [] zs i a l e = absurd (omega arith)
at_front (x ∷ xs) zs zero a l e = e
at_front (x ∷ xs) zs (suc i) a l e = at_front xs zs i a (omega arith) e

pub at_end : {A : Type 0} (xs : List A) (b : A) (i : ℕ) (a : A) → length xs ≤ i → get_elem? (xs ++ b ∷ []) i ≡ some a → (i ≡ length xs) × (b ≡ a)
at_end [] b zero a l e = (refl, some-injective b a e)
at_end [] b (suc i) a l e = absurd (some-ne-none a (sym e))
at_end (x ∷ xs) b zero a l e = absurd (omega arith)
at_end (x ∷ xs) b (suc i) a l e = let t = at_end xs b i a (omega arith) e in (ap suc t.0, t.1)

pub is_within : {A : Type 0} (xs : List A) (i : ℕ) (a : A) → get_elem? xs i ≡ some a → i < length xs
is_within [] i a e = absurd (some-ne-none a (sym e))
is_within (x ∷ xs) zero a e = omega arith
is_within (x ∷ xs) (suc i) a e = let h = is_within xs i a e in omega arith

module _ (step : Chains → Entry → Chains) (legal : Chains → Entry → Type 0) (follows : List Entry → Entry → Type 0) (k0 : Chains) where
  abbrev IsLegal : List Entry → Type 0
  IsLegal = Legal step legal follows k0

  pub legal_front : (ks zs : List Entry) → IsLegal (ks ++ zs) → IsLegal ks
  legal_front ks zs l i e at = let n = is_within ks i e at in let h : i ≤ length ks = omega arith in
      subst (λ (js : List Entry). legal (fold step k0 js) e × follows (of_pass e.by js) e) (take-append-le i ks zs h) (l i e (at_longer ks zs i e at))

  pub legal_snoc : (js : List Entry) (e : Entry) → IsLegal js → legal (fold step k0 js) e → follows (of_pass e.by js) e → IsLegal (js ++ e ∷ [])
  legal_snoc js e l ok after i d at = dite (dec_le (suc i) (length js))
      (λ in_js. subst (λ (t : List Entry). legal (fold step k0 t) d × follows (of_pass d.by t) d) (sym (take-append-le i js (e ∷ []) (omega arith))) (l i d (at_front js (e ∷ []) i d in_js at)))
      (λ out. let t = at_end js e i d (omega arith) at in let same : js ≡ take i (js ++ e ∷ []) = sym (take-append-le i js (e ∷ []) (omega arith) ∙ take_all i js (omega arith)) in
      subst (λ (p : List Entry × Entry). legal (fold step k0 p.0) p.1 × follows (of_pass p.1.by p.0) p.1) (λ j. (same j, t.1 j)) (ok, after))

  -- an entry at its place
  pub here : (ks zs : List Entry) (z : Entry) → IsLegal (ks ++ (z ∷ zs)) → IsLegal ks × legal (fold step k0 ks) z × follows (of_pass z.by ks) z × IsLegal ((ks ++ z ∷ []) ++ zs)
  here ks zs z l =
      let whole = subst IsLegal (sym (append_assoc ks (z ∷ []) zs)) l in
      let part = legal_front (ks ++ z ∷ []) zs whole in
      let place = subst (λ (t : List Entry). legal (fold step k0 t) z × follows (of_pass z.by t) z) (take-append-le (length ks) ks (z ∷ []) (omega arith) ∙ take_all (length ks) ks (omega arith)) (part (length ks) z (at_last ks z (length ks) refl)) in
      (legal_front ks (z ∷ []) part, place.0, place.1, whole)

  module _ (first : Chains → Type 0) (names : Chains → Entry → List ℕ) (law : Lawful first step legal names follows) (began : first k0) where
    pub reached : (js : List Entry) → IsLegal js → Reached step legal follows first (fold step k0 js)
    reached js l = (k0, js, began, l, refl)

    long : (ks zs : List Entry) → length (fold step k0 ks) ≡ length k0 → IsLegal (ks ++ zs) → length (fold step k0 (ks ++ zs)) ≡ length k0
    long ks [] e l = ap (λ (t : List Entry). length (fold step k0 t)) (append-nil ks) ∙ e
    long ks (z ∷ zs) e l = let h = here ks zs z l in let one = law.frame (fold step k0 ks) z (reached ks h.0) h.1 in
        ap (λ (t : List Entry). length (fold step k0 t)) (sym (append_assoc ks (z ∷ []) zs)) ∙ long (ks ++ z ∷ []) zs (ap length (fold_push step k0 ks z) ∙ one.0 ∙ e) h.3

    pub legal_length : (js : List Entry) → IsLegal js → length (fold step k0 js) ≡ length k0
    legal_length js l = long [] js refl l

    pub untouched : (ks zs : List Entry) (c : ℕ) → IsLegal (ks ++ zs) → IsUntouched step names c (fold step k0 ks) zs → get_elem? (fold step k0 (ks ++ zs)) c ≡ get_elem? (fold step k0 ks) c
    untouched ks [] c l u = ap (λ (t : List Entry). get_elem? (fold step k0 t) c) (append-nil ks)
    untouched ks (z ∷ zs) c l u = let h = here ks zs z l in let push = fold_push step k0 ks z in
        ap (λ (t : List Entry). get_elem? (fold step k0 t) c) (sym (append_assoc ks (z ∷ []) zs))
        ∙ untouched (ks ++ z ∷ []) zs c h.3 (subst (λ (k : Chains). IsUntouched step names c k zs) (sym push) u.1)
        ∙ ap (λ (k : Chains). get_elem? k c) push ∙ (law.frame (fold step k0 ks) z (reached ks h.0) h.1).1 c u.0

    pub moved : (ks js : List Entry) (e : Entry) → IsLegal ks → IsLegal js → follows (of_pass e.by ks) e → follows (of_pass e.by js) e → legal (fold step k0 ks) e → Agree (names (fold step k0 ks) e) (fold step k0 ks) (fold step k0 js)
        → (legal (fold step k0 js) e) × Agree (names (fold step k0 ks) e) (fold step k0 (ks ++ e ∷ [])) (fold step k0 (js ++ e ∷ []))
    moved ks js e l m after other may agree =
        let long = legal_length ks l ∙ sym (legal_length js m) in
        let r = law.local (fold step k0 ks) (fold step k0 js) e (reached ks l) (reached js m) long agree in
        let made = law.made (fold step k0 ks) (fold step k0 js) e (k0, ks, began, l, after, refl) (k0, js, began, m, other, refl) long agree may in
        (r.1 may, λ c h. ap (λ (k : Chains). get_elem? k c) (fold_push step k0 ks e) ∙ made c h ∙ ap (λ (k : Chains). get_elem? k c) (sym (fold_push step k0 js e)))
