-- The chains that a transaction has in hand.
use Rattle.std.proofs.Common.{◌≡◌, ℕ, suc, ◌+◌, ◌<◌, ◌≤◌, Bool, true, false, cond, eqb, eq-eqb, ne_eqb, List, [], ◌∷◌, ◌++◌, length, get_or, slice_set, sym, refl, ap, ◌∙◌, subst, arith}
use Rattle.std.proofs.lemmas.Bool.{eqb-true}
use mathlib.Core.Option.{none, some, some-ne-none, some-injective}
use Rattle.chain_map.specs.Pairs.{Pairs}
use Rattle.turn_types.specs.Shown.{Numbered, AllBelow, RisesFrom, Within, look, or_else, hold}
use Rattle.record_txn.specs.Hand.{chains_of, changes_of, chain_in, place_of, with_change, IsHandOf}
use Rattle.record_txn.specs.Holding.{is_none}
use Rattle.record_txn.specs.declared.hand.Held.{Held}

-- where a chain is found
pub found : (c : ℕ) (y : Pairs) (hand : List Held) (d : Held) → look c (chains_of hand) ≡ some y
    → (place_of c hand < length hand) × ((get_or hand (place_of c hand) d).number ≡ c) × ((get_or hand (place_of c hand) d).chain ≡ y)
found c y [] d e = absurd (some-ne-none y (sym e))
found c y (h ∷ hand) d e = go (eqb h.number c) refl e (found c y hand d) where
  go : (b : Bool) → eqb h.number c ≡ b → cond b (some h.chain) (look c (chains_of hand)) ≡ some y
      → (look c (chains_of hand) ≡ some y → (place_of c hand < length hand) × ((get_or hand (place_of c hand) d).number ≡ c) × ((get_or hand (place_of c hand) d).chain ≡ y))
      → (cond b 0 (suc (place_of c hand)) < length (h ∷ hand)) × ((get_or (h ∷ hand) (cond b 0 (suc (place_of c hand))) d).number ≡ c) × ((get_or (h ∷ hand) (cond b 0 (suc (place_of c hand))) d).chain ≡ y)
  go true is e so = (omega arith, eqb-true h.number c is, some-injective h.chain y e)
  go false is e so = let t = so e in (omega arith, t.1, t.2)

pub chain_is : (c : ℕ) (y : Pairs) (hand : List Held) → look c (chains_of hand) ≡ some y → chain_in c (chains_of hand) ≡ y
chain_is c y hand e = ap (λ o. or_else o []) e

-- the chain at its place becomes another one
pub at_place : (c : ℕ) (y z : Pairs) (hand : List Held) (d : Held) → look c (chains_of hand) ≡ some z → slice_set hand (place_of c hand) (record (get_or hand (place_of c hand) d) { chain = y; is_changed = true }) ≡ with_change c y hand
at_place c y z [] d e = refl
at_place c y z (h ∷ hand) d e = go (eqb h.number c) e (at_place c y z hand d) where
  go : (b : Bool) → cond b (some h.chain) (look c (chains_of hand)) ≡ some z
      → (look c (chains_of hand) ≡ some z → slice_set hand (place_of c hand) (record (get_or hand (place_of c hand) d) { chain = y; is_changed = true }) ≡ with_change c y hand)
      → slice_set (h ∷ hand) (cond b 0 (suc (place_of c hand))) (record (get_or (h ∷ hand) (cond b 0 (suc (place_of c hand))) d) { chain = y; is_changed = true }) ≡ cond b (record h { chain = y; is_changed = true } ∷ hand) (h ∷ with_change c y hand)
  go true e so = refl
  go false e so = ap (λ t. h ∷ t) (so e)

-- a chain is edited at its place
pub edited : (F : Pairs → Pairs) (c i : ℕ) (y z : Pairs) (hand : List Held) (h : Held) → i ≡ place_of c hand → look c (chains_of hand) ≡ some z → h ≡ get_or hand i h → y ≡ F h.chain
    → slice_set hand i (record { number = h.number; chain = y; is_changed = true }) ≡ with_change c (F (chain_in c (chains_of hand))) hand
edited F c i y z hand h at e is make = let here : h ≡ get_or hand (place_of c hand) h = subst (λ k. h ≡ get_or hand k h) at is in let t = found c z hand h e in
    (λ j. slice_set hand (at j) (record { number = (here j).number; chain = y; is_changed = true })) ∙ at_place c y z hand h e
    ∙ ap (λ x. with_change c x hand) (make ∙ ap F (ap (λ (k : Held). k.chain) here ∙ t.2 ∙ sym (chain_is c z hand e)))

pub place_within : (c i : ℕ) (z : Pairs) (hand : List Held) → i ≡ place_of c hand → look c (chains_of hand) ≡ some z → i < length hand
place_within c i z hand at e = let t = found c z hand (record { number = 0; chain = []; is_changed = false }) e in omega arith

pub changes_snoc : (hand : List Held) (h : Held) → changes_of (hand ++ h ∷ []) ≡ changes_of hand ++ cond h.is_changed ((h.number, h.chain) ∷ []) []
changes_snoc [] h = refl
changes_snoc (g ∷ hand) h = go g.is_changed (changes_snoc hand h) where
  go : (b : Bool) → changes_of (hand ++ h ∷ []) ≡ changes_of hand ++ cond h.is_changed ((h.number, h.chain) ∷ []) []
      → cond b ((g.number, g.chain) ∷ changes_of (hand ++ h ∷ [])) (changes_of (hand ++ h ∷ [])) ≡ cond b ((g.number, g.chain) ∷ changes_of hand) (changes_of hand) ++ cond h.is_changed ((h.number, h.chain) ∷ []) []
  go true e = ap (λ t. (g.number, g.chain) ∷ t) e
  go false e = e

pub one_held : (hand : List Held) → eqb (length hand) 0 ≡ is_none (chains_of hand)
one_held [] = refl
one_held (h ∷ hand) = ne_eqb (suc (length hand)) 0 (λ e. omega arith)

pub same_none : (hand : List Held) (held : Numbered) → IsHandOf hand held → is_none (chains_of hand) ≡ is_none held
same_none [] [] o = refl
same_none [] (x ∷ held) o = absurd o
same_none (h ∷ hand) [] o = absurd o
same_none (h ∷ hand) (x ∷ held) o = refl

pub hand_snoc : (hand : List Held) (held : Numbered) (h : Held) (x : ℕ × Pairs) → h.number ≡ x.0 → h.chain ≡ x.1 → IsHandOf hand held → IsHandOf (hand ++ h ∷ []) (held ++ x ∷ [])
hand_snoc [] [] h x n e o = (n, (λ u. e), tt)
hand_snoc [] (y ∷ held) h x n e o = absurd o
hand_snoc (g ∷ hand) [] h x n e o = absurd o
hand_snoc (g ∷ hand) (y ∷ held) h x n e o = (o.0, o.1, hand_snoc hand held h x n e o.2)

pub chains_snoc : (hand : List Held) (h : Held) → chains_of (hand ++ h ∷ []) ≡ chains_of hand ++ (h.number, h.chain) ∷ []
chains_snoc [] h = refl
chains_snoc (g ∷ hand) h = ap (λ t. (g.number, g.chain) ∷ t) (chains_snoc hand h)

pub rises_snoc : (n c : ℕ) (y : Pairs) (held : Numbered) → n ≤ c → RisesFrom n held → AllBelow c held → RisesFrom n (held ++ (c, y) ∷ [])
rises_snoc n c y [] l r b = (l, tt)
rises_snoc n c y (x ∷ held) l r b = (r.0, rises_snoc (x.0 + 1) c y held (let k = b.0 in omega arith) r.1 b.1)

rises_lower : (n m : ℕ) (xs : Numbered) → n ≤ m → RisesFrom m xs → RisesFrom n xs
rises_lower n m [] l r = tt
rises_lower n m (x ∷ xs) l r = ((let k = r.0 in omega arith), r.1)

none_above : (c : ℕ) (xs : Numbered) → RisesFrom (c + 1) xs → look c xs ≡ none
none_above c [] r = refl
none_above c (x ∷ xs) r = ap (λ b. cond b (some x.1) (look c xs)) (ne_eqb x.0 c (λ e. let k = r.0 in omega arith)) ∙ none_above c xs (rises_lower (c + 1) (x.0 + 1) xs (let k = r.0 in omega arith) r.1)

-- changes rise, as what is held does
pub changes_rise : (n : ℕ) (hand : List Held) (held : Numbered) → IsHandOf hand held → RisesFrom n held → RisesFrom n (changes_of hand)
changes_rise n [] held o r = tt
changes_rise n (h ∷ hand) [] o r = absurd o
changes_rise n (h ∷ hand) (x ∷ held) o r = go h.is_changed (changes_rise (x.0 + 1) hand held o.2 r.1) where
  go : (b : Bool) → RisesFrom (x.0 + 1) (changes_of hand) → RisesFrom n (cond b ((h.number, h.chain) ∷ changes_of hand) (changes_of hand))
  go true so = (let k = r.0 in let e = o.0 in omega arith, subst (λ m. RisesFrom (m + 1) (changes_of hand)) (sym o.0) so)
  go false so = rises_lower n (x.0 + 1) (changes_of hand) (let k = r.0 in omega arith) so

within_cons : (xs ys : Numbered) (y : ℕ × Pairs) → Within xs ys → Within xs (y ∷ ys)
within_cons [] ys y w = tt
within_cons (x ∷ xs) ys y w = (go (eqb y.0 x.0) w.0, within_cons xs ys y w.1) where
  go : (b : Bool) → ((z : Pairs) × (look x.0 ys ≡ some z)) → (z : Pairs) × (cond b (some y.1) (look x.0 ys) ≡ some z)
  go true s = (y.1, refl)
  go false s = s

-- and are of held chains
pub changes_within : (hand : List Held) (held : Numbered) → IsHandOf hand held → Within (changes_of hand) held
changes_within [] held o = tt
changes_within (h ∷ hand) [] o = absurd o
changes_within (h ∷ hand) (x ∷ held) o = go h.is_changed (within_cons (changes_of hand) held x (changes_within hand held o.2)) where
  go : (b : Bool) → Within (changes_of hand) (x ∷ held) → Within (cond b ((h.number, h.chain) ∷ changes_of hand) (changes_of hand)) (x ∷ held)
  go true so = ((x.1, ap (λ b. cond b (some x.1) (look h.number held)) (eq-eqb x.0 h.number (sym o.0))), so)
  go false so = so

-- a held chain is in hand, changed or as it is
pub in_hand : (n c : ℕ) (y : Pairs) (hand : List Held) (held : Numbered) → IsHandOf hand held → RisesFrom n held → look c held ≡ some y → look c (chains_of hand) ≡ some (or_else (look c (changes_of hand)) y)
in_hand n c y hand [] o r e = absurd (some-ne-none y (sym e))
in_hand n c y [] (x ∷ held) o r e = absurd o
in_hand n c y (h ∷ hand) (x ∷ held) o r e = go (eqb x.0 c) refl e (in_hand (x.0 + 1) c y hand held o.2 r.1) where
  here : (b : Bool) → h.is_changed ≡ b → x.0 ≡ c → x.1 ≡ y → cond (eqb h.number c) (some h.chain) (look c (chains_of hand)) ≡ some (or_else (look c (cond b ((h.number, h.chain) ∷ changes_of hand) (changes_of hand))) y)
  here true is at s = let t = eq-eqb h.number c (o.0 ∙ at) in ap (λ b. cond b (some h.chain) (look c (chains_of hand))) t ∙ sym (ap (λ b. some (or_else (cond b (some h.chain) (look c (changes_of hand))) y)) t)
  here false is at s = ap (λ b. cond b (some h.chain) (look c (chains_of hand))) (eq-eqb h.number c (o.0 ∙ at)) ∙ ap some (o.1 is ∙ s)
      ∙ sym (ap (λ a. some (or_else a y)) (none_above c (changes_of hand) (subst (λ m. RisesFrom (m + 1) (changes_of hand)) at (changes_rise (x.0 + 1) hand held o.2 r.1))))

  there : (b : Bool) → (h.number ≡ c → ⊥) → look c (chains_of hand) ≡ some (or_else (look c (changes_of hand)) y) → cond (eqb h.number c) (some h.chain) (look c (chains_of hand)) ≡ some (or_else (look c (cond b ((h.number, h.chain) ∷ changes_of hand) (changes_of hand))) y)
  there true n so = let t = ne_eqb h.number c n in ap (λ b. cond b (some h.chain) (look c (chains_of hand))) t ∙ so ∙ sym (ap (λ b. some (or_else (cond b (some h.chain) (look c (changes_of hand))) y)) t)
  there false n so = ap (λ b. cond b (some h.chain) (look c (chains_of hand))) (ne_eqb h.number c n) ∙ so

  go : (b : Bool) → eqb x.0 c ≡ b → cond b (some x.1) (look c held) ≡ some y → (look c held ≡ some y → look c (chains_of hand) ≡ some (or_else (look c (changes_of hand)) y))
      → cond (eqb h.number c) (some h.chain) (look c (chains_of hand)) ≡ some (or_else (look c (cond h.is_changed ((h.number, h.chain) ∷ changes_of hand) (changes_of hand))) y)
  go true is e so = here h.is_changed refl (eqb-true x.0 c is) (some-injective x.1 y e)
  go false is e so = there h.is_changed (λ s. let t : true ≡ false = sym (eq-eqb x.0 c (sym o.0 ∙ s)) ∙ is in cc) (so e)

-- a change is one of its chain alone
pub chains_changed : (c : ℕ) (y : Pairs) (hand : List Held) → chains_of (with_change c y hand) ≡ hold c y (chains_of hand)
chains_changed c y [] = refl
chains_changed c y (h ∷ hand) = go (eqb h.number c) (chains_changed c y hand) where
  go : (b : Bool) → chains_of (with_change c y hand) ≡ hold c y (chains_of hand) → chains_of (cond b (record h { chain = y; is_changed = true } ∷ hand) (h ∷ with_change c y hand)) ≡ cond b ((h.number, y) ∷ chains_of hand) ((h.number, h.chain) ∷ hold c y (chains_of hand))
  go true e = refl
  go false e = ap (λ t. (h.number, h.chain) ∷ t) e

-- and what is in hand stays that of what is held
pub still_hand : (c : ℕ) (y : Pairs) (hand : List Held) (held : Numbered) → IsHandOf hand held → IsHandOf (with_change c y hand) held
still_hand c y [] held o = o
still_hand c y (h ∷ hand) [] o = absurd o
still_hand c y (h ∷ hand) (x ∷ held) o = go (eqb h.number c) (still_hand c y hand held o.2) where
  go : (b : Bool) → IsHandOf (with_change c y hand) held → IsHandOf (cond b (record h { chain = y; is_changed = true } ∷ hand) (h ∷ with_change c y hand)) (x ∷ held)
  go true so = (o.0, (λ u. absurd (let e : true ≡ false = u in cc)), o.2)
  go false so = (o.0, o.1, so)
