-- The chains that a word names.
use Rattle.std.proofs.Common.{◌≡◌, ℕ, zero, suc, ◌+◌, ◌<◌, ◌≤◌, Bool, true, false, cond, eqb, eq-eqb, ne_eqb, List, [], ◌∷◌, ◌++◌, length, slice_set, slice_index_or, sym, refl, ap, ◌∙◌, subst, arith, None}
use Rattle.std.specs.List.{position}
use mathlib.Core.Option.{none, some, some-ne-none, some-injective}
use lib.ListN.{get_elem?}
use Rattle.std.proofs.lemmas.Bool.{eqb-true}
use Rattle.chain_map.specs.Pairs.{Pairs}
use Rattle.turn_types.specs.Journal.{Chains}
use Rattle.turn_types.specs.Shown.{Numbered, look, hold, AllBelow}
use Rattle.dbwrap_core.specs.Shows.{held_by}
use Rattle.dbwrap_core.proofs.Lists.{none_at}

-- those above
none_below : (w i j : ℕ) (ks : Chains) (hs : List ℕ) → j ≤ i → AllBelow j (held_by w i ks hs) → held_by w i ks hs ≡ []
none_below w i j [] hs l b = refl
none_below w i j (k ∷ ks) [] l b = refl
none_below w i j (k ∷ ks) (h ∷ hs) l b = go (none_below w (i + 1) j ks hs (omega arith)) (eqb h w) refl b where
  go : (AllBelow j (held_by w (i + 1) ks hs) → held_by w (i + 1) ks hs ≡ []) → (t : Bool) → eqb h w ≡ t → AllBelow j (cond t ((i, k) ∷ held_by w (i + 1) ks hs) (held_by w (i + 1) ks hs)) → cond t ((i, k) ∷ held_by w (i + 1) ks hs) (held_by w (i + 1) ks hs) ≡ []
  go more true e a = let x = a.0 in absurd (omega arith)
  go more false e a = more a

-- a change between two other words
pub held_aside : (w i c h : ℕ) (ks : Chains) (hs : List ℕ) → (get_elem? hs c ≡ some w → ⊥) → (h ≡ w → ⊥) → held_by w i ks (slice_set hs c h) ≡ held_by w i ks hs
held_aside w i c h [] hs a b = refl
held_aside w i c h (k ∷ ks) [] a b = refl
held_aside w i zero h (k ∷ ks) (g ∷ hs) a b = ap (λ t. cond t ((i, k) ∷ held_by w (i + 1) ks hs) (held_by w (i + 1) ks hs)) (ne_eqb h w b ∙ sym (ne_eqb g w (λ e. a (ap some e))))
held_aside w i (suc c) h (k ∷ ks) (g ∷ hs) a b = ap (λ t. cond (eqb g w) ((i, k) ∷ t) t) (held_aside w (i + 1) c h ks hs a b)

pub held_more : (w i c : ℕ) (ks : Chains) (hs : List ℕ) (g : ℕ) (y : Pairs) → get_elem? hs c ≡ some g → (g ≡ w → ⊥) → get_elem? ks c ≡ some y → AllBelow (i + c) (held_by w i ks hs)
    → held_by w i ks (slice_set hs c w) ≡ held_by w i ks hs ++ (i + c, y) ∷ []
held_more w i c [] hs g y e d f b = absurd (some-ne-none y (sym f))
held_more w i c (k ∷ ks) [] g y e d f b = absurd (some-ne-none g (sym e))
held_more w i zero (k ∷ ks) (h ∷ hs) g y e d f b =
    let off : eqb h w ≡ false = ne_eqb h w (λ q. d (sym (some-injective h g e) ∙ q)) in
    let b' : AllBelow (i + zero) (held_by w (i + 1) ks hs) = subst (λ t. AllBelow (i + zero) (cond t ((i, k) ∷ held_by w (i + 1) ks hs) (held_by w (i + 1) ks hs))) off b in
    let nil : held_by w (i + 1) ks hs ≡ [] = none_below w (i + 1) (i + zero) ks hs (omega arith) b' in
    let on : eqb w w ≡ true = eq-eqb w w refl in
    let l : cond (eqb w w) ((i, k) ∷ held_by w (i + 1) ks hs) (held_by w (i + 1) ks hs) ≡ (i, k) ∷ [] = ap (λ t. cond t ((i, k) ∷ held_by w (i + 1) ks hs) (held_by w (i + 1) ks hs)) on ∙ ap (λ t. (i, k) ∷ t) nil in
    let r : cond (eqb h w) ((i, k) ∷ held_by w (i + 1) ks hs) (held_by w (i + 1) ks hs) ≡ [] = ap (λ t. cond t ((i, k) ∷ held_by w (i + 1) ks hs) (held_by w (i + 1) ks hs)) off ∙ nil in
    let place : i ≡ i + zero = omega arith in
    l ∙ ap (λ (t : ℕ × Pairs). t ∷ []) (λ j. (place j, some-injective k y f j)) ∙ ap (λ (t : Numbered). t ++ (i + zero, y) ∷ []) (sym r)
held_more w i (suc c) (k ∷ ks) (h ∷ hs) g y e d f b = go (held_more w (i + 1) c ks hs g y e d f) (eqb h w) b where
  go : (AllBelow ((i + 1) + c) (held_by w (i + 1) ks hs) → held_by w (i + 1) ks (slice_set hs c w) ≡ held_by w (i + 1) ks hs ++ ((i + 1) + c, y) ∷ []) → (t : Bool) → AllBelow (i + suc c) (cond t ((i, k) ∷ held_by w (i + 1) ks hs) (held_by w (i + 1) ks hs))
      → cond t ((i, k) ∷ held_by w (i + 1) ks (slice_set hs c w)) (held_by w (i + 1) ks (slice_set hs c w)) ≡ cond t ((i, k) ∷ held_by w (i + 1) ks hs) (held_by w (i + 1) ks hs) ++ (i + suc c, y) ∷ []
  go more true a = let n : i + suc c ≡ (i + 1) + c = omega arith in
      ap (λ t. (i, k) ∷ t) (more (subst (λ z. AllBelow z (held_by w (i + 1) ks hs)) n a.1) ∙ ap (λ (z : ℕ). held_by w (i + 1) ks hs ++ (z, y) ∷ []) (sym n))
  go more false a = let n : i + suc c ≡ (i + 1) + c = omega arith in
      more (subst (λ z. AllBelow z (held_by w (i + 1) ks hs)) n a) ∙ ap (λ (z : ℕ). held_by w (i + 1) ks hs ++ (z, y) ∷ []) (sym n)

-- what is held is found
pub held_found : (w i c : ℕ) (ks : Chains) (hs : List ℕ) (y : Pairs) → get_elem? hs c ≡ some w → get_elem? ks c ≡ some y → look (i + c) (held_by w i ks hs) ≡ some y
held_found w i c [] hs y e f = absurd (some-ne-none y (sym f))
held_found w i c (k ∷ ks) [] y e f = absurd (some-ne-none w (sym e))
held_found w i zero (k ∷ ks) (h ∷ hs) y e f =
    let on : eqb h w ≡ true = eq-eqb h w (some-injective h w e) in
    let same : eqb i (i + zero) ≡ true = eq-eqb i (i + zero) (omega arith) in
    ap (λ t. look (i + zero) (cond t ((i, k) ∷ held_by w (i + 1) ks hs) (held_by w (i + 1) ks hs))) on ∙ ap (λ t. cond t (some k) (look (i + zero) (held_by w (i + 1) ks hs))) same ∙ f
held_found w i (suc c) (k ∷ ks) (h ∷ hs) y e f = go (held_found w (i + 1) c ks hs y e f) (eqb h w) where
  n : i + suc c ≡ (i + 1) + c
  n = omega arith

  rest : look ((i + 1) + c) (held_by w (i + 1) ks hs) ≡ some y → look (i + suc c) (held_by w (i + 1) ks hs) ≡ some y
  rest more = ap (λ (z : ℕ). look z (held_by w (i + 1) ks hs)) n ∙ more

  go : look ((i + 1) + c) (held_by w (i + 1) ks hs) ≡ some y → (t : Bool) → look (i + suc c) (cond t ((i, k) ∷ held_by w (i + 1) ks hs) (held_by w (i + 1) ks hs)) ≡ some y
  go more true = ap (λ t. cond t (some k) (look (i + suc c) (held_by w (i + 1) ks hs))) (ne_eqb i (i + suc c) (λ q. omega arith)) ∙ rest more
  go more false = rest more

abbrev Among : ℕ → ℕ → ℕ → Chains → List ℕ → Pairs → Type 0
Among w i c ks hs y = (d : ℕ) × (c ≡ i + d) × (get_elem? hs d ≡ some w) × (get_elem? ks d ≡ some y)

-- what is found is held
pub found_held : (w i c : ℕ) (ks : Chains) (hs : List ℕ) (y : Pairs) → look c (held_by w i ks hs) ≡ some y → (d : ℕ) × (c ≡ i + d) × (get_elem? hs d ≡ some w) × (get_elem? ks d ≡ some y)
found_held w i c [] hs y e = absurd (some-ne-none y (sym e))
found_held w i c (k ∷ ks) [] y e = absurd (some-ne-none y (sym e))
found_held w i c (k ∷ ks) (h ∷ hs) y e = go (λ q. let r = found_held w (i + 1) c ks hs y q in (suc r.0, (let z = r.1 in omega arith), r.2, r.3)) (eqb h w) refl e where
  here : (look c (held_by w (i + 1) ks hs) ≡ some y → Among w i c (k ∷ ks) (h ∷ hs) y) → (t : Bool) → eqb i c ≡ t → eqb h w ≡ true → cond t (some k) (look c (held_by w (i + 1) ks hs)) ≡ some y → Among w i c (k ∷ ks) (h ∷ hs) y
  here more true a b q = (zero, (let z = eqb-true i c a in omega arith), ap some (eqb-true h w b), q)
  here more false a b q = more q

  go : (look c (held_by w (i + 1) ks hs) ≡ some y → Among w i c (k ∷ ks) (h ∷ hs) y) → (t : Bool) → eqb h w ≡ t → look c (cond t ((i, k) ∷ held_by w (i + 1) ks hs) (held_by w (i + 1) ks hs)) ≡ some y → Among w i c (k ∷ ks) (h ∷ hs) y
  go more true a q = here more (eqb i c) refl a q
  go more false a q = more q

pub found_at : (w c : ℕ) (ks : Chains) (hs : List ℕ) (y : Pairs) → look c (held_by w 0 ks hs) ≡ some y → (get_elem? hs c ≡ some w) × (get_elem? ks c ≡ some y)
found_at w c ks hs y e = let r = found_held w 0 c ks hs y e in let same : r.0 ≡ c = let z = r.1 in omega arith in subst (λ d. (get_elem? hs d ≡ some w) × (get_elem? ks d ≡ some y)) same (r.2, r.3)

pub found_here : (w c : ℕ) (ks : Chains) (hs : List ℕ) (y : Pairs) → get_elem? hs c ≡ some w → get_elem? ks c ≡ some y → look c (held_by w 0 ks hs) ≡ some y
found_here w c ks hs y e f = let z : 0 + c ≡ c = omega arith in subst (λ d. look d (held_by w 0 ks hs) ≡ some y) z (held_found w 0 c ks hs y e f)

-- a chain that all held ones are below isn't held
pub not_below : {A : Type 0} (c : ℕ) (xs : List (ℕ × A)) (y : A) → AllBelow c xs → look c xs ≡ some y → ⊥
not_below c [] y b e = some-ne-none y (sym e)
not_below {A} c (x ∷ xs) y b e = let off : eqb x.0 c ≡ false = ne_eqb x.0 c (λ q. let z = b.0 in omega arith) in
    not_below c xs y b.1 (subst (λ t. cond t (some x.1) (look c xs) ≡ some y) off e)

-- a free chain above all that are held joins them
pub held_grows : (w c : ℕ) (ks : Chains) (hs : List ℕ) (y : Pairs) → get_elem? hs c ≡ some 0 → (0 ≡ w → ⊥) → get_elem? ks c ≡ some y → AllBelow c (held_by w 0 ks hs)
    → held_by w 0 ks (slice_set hs c w) ≡ held_by w 0 ks hs ++ (c, y) ∷ []
held_grows w c ks hs y e d f b = let z : c ≡ 0 + c = omega arith in
    held_more w 0 c ks hs 0 y e d f (subst (λ (x : ℕ). AllBelow x (held_by w 0 ks hs)) z b) ∙ ap (λ (x : ℕ). held_by w 0 ks hs ++ (x, y) ∷ []) (sym z)

-- a held chain becomes y
held_sets : (w i c : ℕ) (ks : Chains) (hs : List ℕ) (y : Pairs) → get_elem? hs c ≡ some w → held_by w i (slice_set ks c y) hs ≡ hold (i + c) y (held_by w i ks hs)
held_sets w i c [] hs y e = refl
held_sets w i c (k ∷ ks) [] y e = absurd (some-ne-none w (sym e))
held_sets w i zero (k ∷ ks) (h ∷ hs) y e =
    let on : eqb h w ≡ true = eq-eqb h w (some-injective h w e) in
    let same : eqb i (i + zero) ≡ true = eq-eqb i (i + zero) (omega arith) in
    ap (λ t. cond t ((i, y) ∷ held_by w (i + 1) ks hs) (held_by w (i + 1) ks hs)) on
    ∙ sym (ap (λ t. hold (i + zero) y (cond t ((i, k) ∷ held_by w (i + 1) ks hs) (held_by w (i + 1) ks hs))) on ∙ ap (λ t. cond t ((i, y) ∷ held_by w (i + 1) ks hs) ((i, k) ∷ hold (i + zero) y (held_by w (i + 1) ks hs))) same)
held_sets w i (suc c) (k ∷ ks) (h ∷ hs) y e = go (held_sets w (i + 1) c ks hs y e) (eqb h w) where
  n : (i + 1) + c ≡ i + suc c
  n = omega arith

  go : held_by w (i + 1) (slice_set ks c y) hs ≡ hold ((i + 1) + c) y (held_by w (i + 1) ks hs) → (t : Bool) → cond t ((i, k) ∷ held_by w (i + 1) (slice_set ks c y) hs) (held_by w (i + 1) (slice_set ks c y) hs) ≡ hold (i + suc c) y (cond t ((i, k) ∷ held_by w (i + 1) ks hs) (held_by w (i + 1) ks hs))
  go more true = ap (λ t. (i, k) ∷ t) (more ∙ ap (λ (z : ℕ). hold z y (held_by w (i + 1) ks hs)) n)
      ∙ sym (ap (λ t. cond t ((i, y) ∷ held_by w (i + 1) ks hs) ((i, k) ∷ hold (i + suc c) y (held_by w (i + 1) ks hs))) (ne_eqb i (i + suc c) (λ q. omega arith)))
  go more false = more ∙ ap (λ (z : ℕ). hold z y (held_by w (i + 1) ks hs)) n

pub held_becomes : (w c : ℕ) (ks : Chains) (hs : List ℕ) (y : Pairs) → get_elem? hs c ≡ some w → held_by w 0 (slice_set ks c y) hs ≡ hold c y (held_by w 0 ks hs)
held_becomes w c ks hs y e = let z : 0 + c ≡ c = omega arith in held_sets w 0 c ks hs y e ∙ ap (λ (x : ℕ). hold x y (held_by w 0 ks hs)) z

-- another's chain changes
pub held_same : (w i c : ℕ) (ks : Chains) (hs : List ℕ) (y : Pairs) → (get_elem? hs c ≡ some w → ⊥) → held_by w i (slice_set ks c y) hs ≡ held_by w i ks hs
held_same w i c [] hs y a = refl
held_same w i zero (k ∷ ks) [] y a = refl
held_same w i (suc c) (k ∷ ks) [] y a = refl
held_same w i zero (k ∷ ks) (h ∷ hs) y a = let off = ne_eqb h w (λ q. a (ap some q)) in
    ap (λ t. cond t ((i, y) ∷ held_by w (i + 1) ks hs) (held_by w (i + 1) ks hs)) off ∙ sym (ap (λ t. cond t ((i, k) ∷ held_by w (i + 1) ks hs) (held_by w (i + 1) ks hs)) off)
held_same w i (suc c) (k ∷ ks) (h ∷ hs) y a = ap (λ t. cond (eqb h w) ((i, k) ∷ t) t) (held_same w (i + 1) c ks hs y a)

-- what is found stands at a place
pub found_there : {A : Type 0} (c : ℕ) (xs : List (ℕ × A)) (y : A) → look c xs ≡ some y → (i : ℕ) × (get_elem? xs i ≡ some (c, y))
found_there c [] y e = absurd (some-ne-none y (sym e))
found_there {A} c (x ∷ xs) y e = go (λ q. found_there c xs y q) (eqb x.0 c) refl e where
  go : (look c xs ≡ some y → (i : ℕ) × (get_elem? xs i ≡ some (c, y))) → (t : Bool) → eqb x.0 c ≡ t → cond t (some x.1) (look c xs) ≡ some y → (i : ℕ) × (get_elem? (x ∷ xs) i ≡ some (c, y))
  go more true a q = (zero, λ j. some (eqb-true x.0 c a j, some-injective x.1 y q j))
  go more false a q = let r = more q in (suc r.0, r.1)

pub look_last : (c : ℕ) (xs : Numbered) (y : Pairs) → look c xs ≡ none → look c (xs ++ (c, y) ∷ []) ≡ some y
look_last c [] y e = ap (λ t. cond t (some y) none) (eq-eqb c c refl)
look_last c (x ∷ xs) y e = go (look_last c xs y) (eqb x.0 c) e where
  go : (look c xs ≡ none → look c (xs ++ (c, y) ∷ []) ≡ some y) → (t : Bool) → cond t (some x.1) (look c xs) ≡ none → cond t (some x.1) (look c (xs ++ (c, y) ∷ [])) ≡ some y
  go more true q = absurd (some-ne-none x.1 q)
  go more false q = more q

pub look_aside : (d c : ℕ) (xs : Numbered) (y : Pairs) → (c ≡ d → ⊥) → look d (xs ++ (c, y) ∷ []) ≡ look d xs
look_aside d c [] y n = ap (λ t. cond t (some y) none) (ne_eqb c d n)
look_aside d c (x ∷ xs) y n = ap (λ t. cond (eqb x.0 d) (some x.1) t) (look_aside d c xs y n)

-- the first held chain is given back
held_first : (w i c v : ℕ) (ks : Chains) (hs : List ℕ) (y : Pairs) → get_elem? hs c ≡ some w → get_elem? ks c ≡ some y → ((k : ℕ) → k < c → eqb (slice_index_or hs k 0) w ≡ false) → (v ≡ w → ⊥)
    → held_by w i ks hs ≡ (i + c, y) ∷ held_by w i ks (slice_set hs c v)
held_first w i c v [] hs y e f b n = absurd (some-ne-none y (sym f))
held_first w i c v (k ∷ ks) [] y e f b n = absurd (some-ne-none w (sym e))
held_first w i zero v (k ∷ ks) (h ∷ hs) y e f b n =
    let on : eqb h w ≡ true = eq-eqb h w (some-injective h w e) in let place : i ≡ i + zero = omega arith in
    ap (λ t. cond t ((i, k) ∷ held_by w (i + 1) ks hs) (held_by w (i + 1) ks hs)) on ∙ (λ j. (place j, some-injective k y f j) ∷ held_by w (i + 1) ks hs)
    ∙ ap (λ (t : Numbered). (i + zero, y) ∷ t) (sym (ap (λ t. cond t ((i, k) ∷ held_by w (i + 1) ks hs) (held_by w (i + 1) ks hs)) (ne_eqb v w n)))
held_first w i (suc c) v (k ∷ ks) (h ∷ hs) y e f b n =
    let off : eqb h w ≡ false = b zero (omega arith) in let place : (i + 1) + c ≡ i + suc c = omega arith in
    ap (λ t. cond t ((i, k) ∷ held_by w (i + 1) ks hs) (held_by w (i + 1) ks hs)) off ∙ held_first w (i + 1) c v ks hs y e f (λ x l. b (suc x) (omega arith)) n
    ∙ ap (λ (z : ℕ). (z, y) ∷ held_by w (i + 1) ks (slice_set hs c v)) place
    ∙ ap (λ (t : Numbered). (i + suc c, y) ∷ t) (sym (ap (λ t. cond t ((i, k) ∷ held_by w (i + 1) ks (slice_set hs c v)) (held_by w (i + 1) ks (slice_set hs c v))) off))

pub held_least : (w c v : ℕ) (ks : Chains) (hs : List ℕ) (y : Pairs) → get_elem? hs c ≡ some w → get_elem? ks c ≡ some y → ((k : ℕ) → k < c → eqb (slice_index_or hs k 0) w ≡ false) → (v ≡ w → ⊥)
    → held_by w 0 ks hs ≡ (c, y) ∷ held_by w 0 ks (slice_set hs c v)
held_least w c v ks hs y e f b n = let z : 0 + c ≡ c = omega arith in held_first w 0 c v ks hs y e f b n ∙ ap (λ (x : ℕ). (x, y) ∷ held_by w 0 ks (slice_set hs c v)) z

pub none_held : (w i : ℕ) (ks : Chains) (hs : List ℕ) → ((k : ℕ) → k < length hs → eqb (slice_index_or hs k 0) w ≡ false) → held_by w i ks hs ≡ []
none_held w i [] hs b = refl
none_held w i (k ∷ ks) [] b = refl
none_held w i (k ∷ ks) (h ∷ hs) b = ap (λ t. cond t ((i, k) ∷ held_by w (i + 1) ks hs) (held_by w (i + 1) ks hs)) (b zero (omega arith)) ∙ none_held w (i + 1) ks hs (λ x l. b (suc x) (omega arith))

pub some_held : (w c : ℕ) (ks : Chains) (hs : List ℕ) (y : Pairs) → get_elem? hs c ≡ some w → get_elem? ks c ≡ some y → (h : ℕ × Pairs) × (rest : Numbered) × (held_by w 0 ks hs ≡ h ∷ rest)
some_held w c ks hs y e f = go (held_by w 0 ks hs) refl where
  go : (xs : Numbered) → held_by w 0 ks hs ≡ xs → (h : ℕ × Pairs) × (rest : Numbered) × (held_by w 0 ks hs ≡ h ∷ rest)
  go [] q = absurd (some-ne-none y (sym (ap (λ (t : Numbered). look c t) (sym q) ∙ found_here w c ks hs y e f)))
  go (h ∷ rest) q = (h, rest, q)

-- a chain of pass n is given back, and the others hold what they held
pub held_freed : (n c : ℕ) (ks : Chains) (hs : List ℕ) → get_elem? hs c ≡ some (n + 1) → (m : ℕ) → (m ≡ n → ⊥) → held_by (m + 1) 0 ks (slice_set hs c 0) ≡ held_by (m + 1) 0 ks hs
held_freed n c ks hs word m out = held_aside (m + 1) 0 c 0 ks hs (λ z. let is = some-injective (n + 1) (m + 1) (sym word ∙ z) in out (omega arith)) (λ z. omega arith)

pub none_with : (w : ℕ) (ks : Chains) (hs : List ℕ) → position (λ h. eqb h w) hs ≡ None → held_by w 0 ks hs ≡ []
none_with w ks hs e = none_held w 0 ks hs (λ k l. none_at (λ h. eqb h w) hs k 0 e l)
