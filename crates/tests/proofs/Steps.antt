-- What each call makes of a pass that adds one to two chains.
use Rattle.std.proofs.Common.{◌≡◌, ℕ, zero, suc, ◌+◌, ◌<◌, ◌^◌, Bool, true, false, cond, eqb, eq-eqb, ne_eqb, List, [], ◌∷◌, ◌++◌, length, length-append, fold, sym, refl, ap, ◌∙◌, subst, arith, append_assoc}
use Rattle.std.proofs.Common as std
use mathlib.Core.Option.{some, none, some-ne-none, some-injective}
use lib.ListN.{get_elem?}
use Rattle.std.proofs.lemmas.Bool.{eqb-true}
use Rattle.sid_core.specs.declared.entry.Entry.{Entry}
use Rattle.sid_core.specs.declared.entry.Event.TheVariants.{Tidied}
use Rattle.chain_map.specs.Pairs.{Pairs}
use Rattle.turn_types.specs.Journal.{Chains}
use Rattle.turn_types.specs.Shown.{Shown, Plan, Numbered, IsPart, replay, look, or_else, planned, due, is_made, hold, left_over, RisesFrom, Within, Made, Committed}
use Rattle.turn_types.specs.Calls.{Fits, Stands, Planned, Stored, Released}
use Rattle.turn_types.specs.declared.looked.Looked.{Looked}
use Rattle.tests.specs.Counting.{added, chain_of_entry, counted}
use Rattle.tests.specs.Rule.{of_two, first_added, second_added}
use Rattle.tests.specs.Adding.{At, Before, Placed, two, rule_step, next_entry}
use Rattle.tests.specs.declared.adding.Stage.{Stage}
use Rattle.tests.specs.declared.adding.Stage.TheVariants as stage

pub within : {A : Type 0} (xs : List A) (n : ℕ) (x : A) → get_elem? xs n ≡ some x → n < length xs
within [] n x e = absurd (some-ne-none x (sym e))
within (y ∷ xs) zero x e = omega arith
within (y ∷ xs) (suc n) x e = let h = within xs n x e in omega arith

first_of : (x : ℕ) (a b : Pairs) → look x (two x a b) ≡ some a
first_of x a b = ap (λ t. cond t (some a) (look x ((x + 1, b) ∷ []))) (eq-eqb x x refl)

second_of : (x : ℕ) (a b : Pairs) → look (x + 1) (two x a b) ≡ some b
second_of x a b = ap (λ t. cond t (some a) (look (x + 1) ((x + 1, b) ∷ []))) (ne_eqb x (x + 1) (λ e. omega arith)) ∙ ap (λ t. cond t (some b) none) (eq-eqb (x + 1) (x + 1) refl)

-- what is found in two chains is one of the two
in_two : (P : ℕ → Pairs → Type 0) (x q : ℕ) (a b r : Pairs) → P x a → P (x + 1) b → look q (two x a b) ≡ some r → P q r
in_two P x q a b r p s e = go (eqb x q) refl (eqb (x + 1) q) refl e where
  go : (f : Bool) → eqb x q ≡ f → (g : Bool) → eqb (x + 1) q ≡ g → cond f (some a) (cond g (some b) none) ≡ some r → P q r
  go true is g other t = subst (λ z. P z r) (eqb-true x q is) (subst (λ z. P x z) (some-injective a r t) p)
  go false f true is t = subst (λ z. P z r) (eqb-true (x + 1) q is) (subst (λ z. P (x + 1) z) (some-injective b r t) s)
  go false f false other t = absurd (some-ne-none r (sym t))

-- the pass may commit its next entry
pub fits_add : {R : Type 0} (w : Shown R) (x : ℕ) (y z : Pairs) (by seq : ℕ) → w.held ≡ two x y z → w.plan ≡ Made (two x (counted y) (counted z)) → IsPart w.held (replay rule_step w w.seen)
    → by ≡ w.number → seq ≡ length w.own + 1
    → Fits (λ (r : R) k e. added k e) (λ r k e. chain_of_entry e + 1 < length k) (λ r js e. Unit {0}) (λ r e. std.None) (λ r k e. chain_of_entry e ∷ (chain_of_entry e + 1) ∷ []) w (record { by = by; seq = seq; what = Tidied x })
fits_add w x y z by seq held made parts mine next = record {
  made = ap is_made made;
  by_pass = mine;
  next = next;
  after_own = tt;
  may = within k (x + 1) z at_second;
  has_all = λ q h. of_two (λ c. (r : Pairs) × (look c w.held ≡ some r)) x q (y, first) (z, second) h;
  was = parts;
  will = λ q r at. in_two (λ c s. get_elem? (added k e) c ≡ some (or_else (look c (planned w.plan)) s)) x q y z r
      (first_added k e y at_first ∙ ap some (sym (ap (λ o. or_else o y) (ap (λ (p : Plan). look x (planned p)) made ∙ first_of x (counted y) (counted z)))))
      (second_added k e z at_second ∙ ap some (sym (ap (λ o. or_else o z) (ap (λ (p : Plan). look (x + 1) (planned p)) made ∙ second_of x (counted y) (counted z)))))
      (ap (λ (t : Numbered). look q t) (sym held) ∙ at);
  buried = λ d f. let n : std.None ≡ std.Some d = f in absurd cc;
} where
  e : Entry
  e = record { by = by; seq = seq; what = Tidied x }

  k : Chains
  k = replay rule_step w w.seen

  first : look x w.held ≡ some y
  first = ap (λ (t : Numbered). look x t) held ∙ first_of x y z

  second : look (x + 1) w.held ≡ some z
  second = ap (λ (t : Numbered). look (x + 1) t) held ∙ second_of x y z

  at_first : get_elem? k x ≡ some y
  at_first = parts x y first

  at_second : get_elem? k (x + 1) ≡ some z
  at_second = parts (x + 1) z second

-- what both chains that were read become may be planned
pub fits_both : {R : Type 0} (v w : Shown R) (x : ℕ) (y z : Pairs) (new : Numbered) → new ≡ two x (counted y) (counted z) → At v x (stage.ReadBoth y z) w
    → RisesFrom 0 new × Within new w.held
fits_both v w x y z new is a = subst (λ (t : Numbered). RisesFrom 0 t × Within t w.held) (sym is) (
  (omega arith, (omega arith, tt)),
  ((y, ap (look x) a.1 ∙ first_of x y z), ((z, ap (look (x + 1)) a.1 ∙ second_of x y z), tt)),
)

-- what both chains that were read become is planned
pub planned_both : {R : Type 0} (v w u : Shown R) (x : ℕ) (y z : Pairs) (new : Numbered) → new ≡ two x (counted y) (counted z) → Planned w u new
    → At v x (stage.ReadBoth y z) w → At v x stage.Planned u
planned_both {R} v w u x y z new is p a = subst (λ (t : Shown R). At v x stage.Planned t) (sym p.0) (
  record {
    able = record { lives = a.0.able.lives; recovers_none = a.0.able.recovers_none };
    number = a.0.number;
    seen = a.0.seen;
    own = a.0.own;
  },
  (y, z, a.1, ap Made is),
  a.3,
)

one_more : {R : Type 0} (w : Shown R) (k : Chains) (es : List Entry) (e : Entry) → fold (rule_step w.rule) k (es ++ e ∷ []) ≡ added (fold (rule_step w.rule) k es) e
one_more w k [] e = refl
one_more w k (f ∷ es) e = one_more w (added k f) es e

-- the entry that is committed is placed
pub placed : {R : Type 0} (v w u : Shown R) (x place : ℕ) (y z : Pairs) (by seq : ℕ) → Before v w → w.held ≡ two x y z → w.plan ≡ Made (two x (counted y) (counted z))
    → by ≡ w.number → seq ≡ length w.own + 1
    → Stands (λ (r : R) k e. added k e) (λ r k e. chain_of_entry e + 1 < length k) (λ r js e. Unit {0}) (λ r e. std.None) w u (record { by = by; seq = seq; what = Tidied x }) place
    → At v x (stage.Committed place) u
placed {R} v w u x place y z by seq b held made mine next s = (
  y,
  z,
  record {
    able = record { lives = ap (λ (t : Shown R). t.alive) s.shown ∙ b.able.lives; recovers_none = ap (λ (t : Shown R). t.recovering) s.shown ∙ b.able.recovers_none };
    number = ap (λ (t : Shown R). t.number) s.shown ∙ b.number;
    before = s.before;
    old = (b.seen.0 ++ s.old.0, s.old.1 ∙ ap (λ (es : List Entry). es ++ s.old.0) b.seen.1 ∙ append_assoc v.seen b.seen.0 s.old.0);
    seen = ap (λ (t : Shown R). t.seen) s.shown ∙ (λ j. s.before ++ is j ∷ []);
    at = s.at;
    own = ap (λ (t : Shown R). t.own) s.shown ∙ (λ j. b.own j ++ is j ∷ []);
    was = subst (λ (t : Shown R). IsPart (two x y z) (replay rule_step t s.before)) (sym s.shown) parts;
    becomes = subst (λ (t : Shown R). IsPart (two x (counted y) (counted z)) (replay rule_step t t.seen)) (sym s.shown)
        (λ q r at. in_two (λ c p. get_elem? (fold (rule_step w.rule) w.first (s.before ++ e ∷ [])) c ≡ some p) x q (counted y) (counted z) r
        (ap (λ (k : Chains). get_elem? k x) (one_more w w.first s.before e) ∙ first_added (replay rule_step w s.before) e y (parts x y (first_of x y z)))
        (ap (λ (k : Chains). get_elem? k (x + 1)) (one_more w w.first s.before e) ∙ second_added (replay rule_step w s.before) e z (parts (x + 1) z (second_of x y z)))
        at);
  },
  ap (λ (t : Shown R). t.held) s.shown ∙ held,
  ap (λ (t : Shown R). t.plan) s.shown ∙ ap (λ (p : Plan). Committed (planned p)) made,
) where
  e : Entry
  e = record { by = by; seq = seq; what = Tidied x }

  is : e ≡ next_entry v x
  is = λ j. record { by = (mine ∙ b.number) j; seq = (next ∙ ap (λ (es : List Entry). length es + 1) b.own) j; what = Tidied x }

  parts : IsPart (two x y z) (replay rule_step w s.before)
  parts = subst (λ (t : Numbered). IsPart t (replay rule_step w s.before)) held s.was

-- what is placed stays so while the pass stores and gives back
carried : {R : Type 0} (v w u : Shown R) (x place : ℕ) (y z : Pairs) (held : Numbered) (plan : Plan) (looked : Looked) (done : ℕ) → u ≡ record w { held = held; plan = plan; looked = looked; done = done } → Placed v w x place y z → Placed v u x place y z
carried {R} v w u x place y z held plan looked done shown p = subst (λ (t : Shown R). Placed v t x place y z) (sym shown) (record {
  able = record { lives = p.able.lives; recovers_none = p.able.recovers_none };
  number = p.number;
  before = p.before;
  old = p.old;
  seen = p.seen;
  at = p.at;
  own = p.own;
  was = p.was;
  becomes = p.becomes;
})

head_or : {A : Type 0} → A → List A → A
head_or d [] = d
head_or d (x ∷ xs) = x

tail_of : {A : Type 0} → List A → List A
tail_of [] = []
tail_of (x ∷ xs) = xs

heads : {A : Type 0} (p q : A) (ps qs : List A) → p ∷ ps ≡ q ∷ qs → p ≡ q
unfolding head_or
heads p q ps qs e = ap (head_or p) e

tails : {A : Type 0} (p q : A) (ps qs : List A) → p ∷ ps ≡ q ∷ qs → ps ≡ qs
unfolding tail_of
tails p q ps qs e = ap tail_of e

never_empty : {A : Type 0} (xs : List A) (r : A) → xs ++ r ∷ [] ≡ [] → ⊥
never_empty [] r e = absurd cc
never_empty (x ∷ xs) r e = absurd cc

last_of_two : {A : Type 0} (xs : List A) (p q r : A) → p ∷ q ∷ [] ≡ xs ++ r ∷ [] → (xs ≡ p ∷ []) × (r ≡ q)
last_of_two [] p q r e = absurd (never_empty [] q (tails p r (q ∷ []) [] e))
last_of_two (a ∷ []) p q r e = (ap (λ t. t ∷ []) (sym (heads p a (q ∷ []) (r ∷ []) e)), sym (heads q r [] [] (tails p a (q ∷ []) (r ∷ []) e)))
last_of_two (a ∷ b ∷ ys) p q r e = absurd (never_empty ys r (sym (tails q b [] (ys ++ r ∷ []) (tails p a (q ∷ []) (b ∷ ys ++ r ∷ []) e))))

last_of_one : {A : Type 0} (xs : List A) (p r : A) → p ∷ [] ≡ xs ++ r ∷ [] → (xs ≡ []) × (r ≡ p)
last_of_one [] p r e = (refl, sym (heads p r [] [] e))
last_of_one (a ∷ ys) p r e = absurd (never_empty ys r (sym (tails p a [] (ys ++ r ∷ []) e)))

hold_second : (x : ℕ) (a b d : Pairs) → hold (x + 1) d (two x a b) ≡ two x a d
hold_second x a b d = ap (λ t. cond t ((x, d) ∷ (x + 1, b) ∷ []) ((x, a) ∷ hold (x + 1) d ((x + 1, b) ∷ []))) (ne_eqb x (x + 1) (λ e. omega arith))
    ∙ ap (λ t. (x, a) ∷ cond t ((x + 1, d) ∷ []) ((x + 1, b) ∷ [])) (eq-eqb (x + 1) (x + 1) refl)

hold_first : (x : ℕ) (a b d : Pairs) → hold x d (two x a b) ≡ two x d b
hold_first x a b d = ap (λ t. cond t ((x, d) ∷ (x + 1, b) ∷ []) ((x, a) ∷ hold x d ((x + 1, b) ∷ []))) (eq-eqb x x refl)

pub stored_one : {R : Type 0} (v w u : Shown R) (x place : ℕ) (o : std.Option ℕ) → Stored w u o → At v x (stage.Committed place) w → At v x (stage.StoredOne place) u
stored_one v w u x place std.None s a = absurd (never_empty ((x, counted a.0) ∷ []) (x + 1, counted a.1) (sym (ap due a.4) ∙ s.0))
stored_one {R} v w u x place (std.Some k) s a = let y = a.0 in let z = a.1 in let p = a.2 in
    let l = last_of_two s.1 (x, counted y) (x + 1, counted z) (k, s.0) (sym (ap due a.4) ∙ ap due s.2) in (
      y,
      z,
      carried v w u x place y z _ _ _ _ s.3 p,
      ap (λ (t : Shown R). t.held) s.3 ∙ (λ j. hold (l.1 j).0 (l.1 j).1 (a.3 j)) ∙ hold_second x y z (counted z),
      ap (λ (t : Shown R). t.plan) s.3 ∙ ap Committed l.0,
    )

pub stored_both : {R : Type 0} (v w u : Shown R) (x place : ℕ) (o : std.Option ℕ) → Stored w u o → At v x (stage.StoredOne place) w → At v x (stage.StoredBoth place) u
stored_both v w u x place std.None s a = absurd (never_empty [] (x, counted a.0) (sym (ap due a.4) ∙ s.0))
stored_both {R} v w u x place (std.Some k) s a = let y = a.0 in let z = a.1 in let p = a.2 in
    let l = last_of_one s.1 (x, counted y) (k, s.0) (sym (ap due a.4) ∙ ap due s.2) in (
      y,
      z,
      carried v w u x place y z _ _ _ _ s.3 p,
      ap (λ (t : Shown R). t.held) s.3 ∙ (λ j. hold (l.1 j).0 (l.1 j).1 (a.3 j)) ∙ hold_first x y (counted z) (counted y),
      ap (λ (t : Shown R). t.plan) s.3 ∙ ap Committed l.0,
    )

pub gave_one : {R : Type 0} (v w u : Shown R) (x place : ℕ) (o : std.Option ℕ) → Released w u o → At v x (stage.StoredBoth place) w → At v x (stage.GaveOne place) u
gave_one v w u x place std.None s a = absurd (never_empty ((x, counted a.0) ∷ []) (x + 1, counted a.1) (sym a.3 ∙ s.0))
gave_one {R} v w u x place (std.Some k) s a = let y = a.0 in let z = a.1 in
    let rest = tails (k, s.0) (x, counted y) s.1 ((x + 1, counted z) ∷ []) (sym s.2 ∙ a.3) in (
      y,
      z,
      carried v w u x place y z _ _ _ _ s.3 a.2,
      ap (λ (t : Shown R). t.held) s.3 ∙ rest,
      ap (λ (t : Shown R). t.plan) s.3 ∙ (λ j. left_over (rest j) (a.4 j)),
    )

pub gave_both : {R : Type 0} (v w u : Shown R) (x place : ℕ) (o : std.Option ℕ) → Released w u o → At v x (stage.GaveOne place) w → At v x (stage.Done place) u
gave_both v w u x place std.None s a = absurd (never_empty [] (x + 1, counted a.1) (sym a.3 ∙ s.0))
gave_both {R} v w u x place (std.Some k) s a = let y = a.0 in let z = a.1 in
    let rest = tails (k, s.0) (x + 1, counted z) s.1 [] (sym s.2 ∙ a.3) in (
      y,
      z,
      carried v w u x place y z _ _ _ _ s.3 a.2,
      ap (λ (t : Shown R). t.held) s.3 ∙ rest,
      ap (λ (t : Shown R). t.plan) s.3 ∙ (λ j. left_over (rest j) (a.4 j)),
    )

own_before : {R : Type 0} (v w : Shown R) → Before v w → length v.own + 2 < 2 ^ 32 → length w.own + 1 < 2 ^ 32
own_before v w b l = let o : length w.own ≡ length v.own = ap (λ (es : List Entry). length es) b.own in omega arith

own_placed : {R : Type 0} (v w : Shown R) (x place : ℕ) (y z : Pairs) → Placed v w x place y z → length v.own + 2 < 2 ^ 32 → length w.own + 1 < 2 ^ 32
own_placed v w x place y z p l = let o : length w.own ≡ length v.own + 1 = ap (λ (es : List Entry). length es) p.own ∙ length-append v.own (next_entry v x ∷ []) in omega arith

-- a pass that could commit twice can commit once more at each stage
pub few_at : {R : Type 0} (v w : Shown R) (x : ℕ) (s : Stage) → At v x s w → length v.own + 2 < 2 ^ 32 → length w.own + 1 < 2 ^ 32
few_at v w x stage.Idle a l = own_before v w a.0 l
few_at v w x stage.TookOne a l = own_before v w a.0 l
few_at v w x stage.TookBoth a l = own_before v w a.0 l
few_at v w x (stage.ReadOne low) a l = own_before v w a.0 l
few_at v w x (stage.ReadBoth low high) a l = own_before v w a.0 l
few_at v w x stage.Planned a l = own_before v w a.0 l
few_at v w x (stage.Committed place) a l = own_placed v w x place a.0 a.1 a.2 l
few_at v w x (stage.StoredOne place) a l = own_placed v w x place a.0 a.1 a.2 l
few_at v w x (stage.StoredBoth place) a l = own_placed v w x place a.0 a.1 a.2 l
few_at v w x (stage.GaveOne place) a l = own_placed v w x place a.0 a.1 a.2 l
few_at v w x (stage.Done place) a l = own_placed v w x place a.0 a.1 a.2 l
