-- Plain cells begin well.
use Rattle.std.proofs.Common.{◌≡◌, ℕ, zero, suc, ◌+◌, ◌<◌, ◌≤◌, Bool, true, false, List, [], ◌∷◌, length, replicate, sym, refl, ap, ◌∙◌, subst, arith, take, eqb, ne_eqb, slice_index_or}
use Rattle.std.proofs.lemmas.List.{length-replicate}
use Rattle.std.proofs.Common as std
use Rattle.std.specs.List.{AllByRecursion}
use mathlib.Core.Option.{some, some-ne-none, some-injective}
use lib.ListN.{get_elem?}
use Rattle.sid_core.specs.declared.entry.Entry.{Entry}
use Rattle.turn_types.specs.Journal.{Chains, of_pass}
use Rattle.turn_types.specs.Shown.{planned}
use Rattle.dbwrap_core.specs.declared.pass.PlainPass.{PlainPass}
use Rattle.dbwrap_core.specs.declared.pass.Stage.{Stage}
use Rattle.dbwrap_core.specs.declared.pass.Death.{Death}
use Rattle.dbwrap_core.specs.Shows.{plan_of, shown_of, all_shown, blank, lives, held_at, plan_at}
use Rattle.dbwrap_core.specs.Begun.{Begun}
use Rattle.dbwrap_core.proofs.Lists.{there, place_is}
use Rattle.dbwrap_core.proofs.Holding.{none_held}
use Rattle.dbwrap_core.proofs.Showing.{as_many, shown_there}
use Rattle.dbwrap_core.specs.Sound.{Sound}
use Rattle.dbwrap_core.specs.Fresh.{Fresh}
use Rattle.dbwrap_core.proofs.Keeping.{living_not_dead}

all_at : {A : Type 0} (P : A → Type 0) (xs : List A) (i : ℕ) (x : A) → AllByRecursion P xs → get_elem? xs i ≡ some x → P x
all_at P [] i x a e = absurd (some-ne-none x (sym e))
all_at P (y ∷ xs) zero x a e = subst P (some-injective y x e) a.0
all_at P (y ∷ xs) (suc i) x a e = all_at P xs i x a.1 e

copies : {A : Type 0} (n i : ℕ) (a x : A) → get_elem? (replicate n a) i ≡ some x → x ≡ a
copies zero i a x e = absurd (some-ne-none x (sym e))
copies (suc n) zero a x e = sym (some-injective a x e)
copies (suc n) (suc i) a x e = copies n i a x e

nothing_seen : (s : ℕ) → take s (let z : List Entry = [] in z) ≡ []
nothing_seen zero = refl
nothing_seen (suc s) = refl

-- what a fresh pass shows
pub fresh_shows : {R : Type 0} (rule : R) (k0 : Chains) (hs : List ℕ) (count n : ℕ) (p : PlainPass) → hs ≡ replicate (length k0) 0 → Fresh count p → shown_of rule k0 k0 hs [] n p ≡ blank rule k0 n (replicate count false)
fresh_shows rule k0 hs count n p free f = λ j. record (shown_of rule k0 k0 hs [] n p) {
  alive = lives (f.death j);
  seen = nothing_seen p.seen j;
  own = of_pass n (nothing_seen p.seen j);
  held = (ap (λ (d : std.Option Death). held_at d (n + 1) k0 hs) f.death ∙ none_held (n + 1) 0 k0 hs unheld) j;
  plan = plan_at (f.death j) (f.stage j) (f.new j);
  dead = f.dead j;
  freed = f.freed j;
  recovering = f.recovering j;
  looked = f.looked j;
  taken = f.taken j;
  given_back = f.given_back j;
  done = f.done j;
} where
  unheld : (k : ℕ) → k < length hs → eqb (slice_index_or hs k 0) (n + 1) ≡ false
  unheld k l = let t = there hs k l in let z : t.0 ≡ 0 = copies (length k0) k 0 t.0 (subst (λ (w : List ℕ). get_elem? w k ≡ some t.0) free t.1) in
      ne_eqb (slice_index_or hs k 0) (n + 1) (λ e. let w = place_is hs k t.0 0 t.1 in omega arith)

pub begun : {R : Type 0} (rule : R) (k0 : Chains) (hs : List ℕ) (ps : List PlainPass) (count : ℕ) → hs ≡ replicate (length k0) 0 → length ps ≡ count → AllByRecursion (λ p. Fresh count p) ps
    → Begun rule k0 count (record { journal = []; chains = k0; words = hs; passes = all_shown rule k0 k0 hs [] 0 ps })
begun rule k0 hs ps count free many all = record {
  journal = refl;
  chains = refl;
  words = free;
  many = as_many rule k0 k0 hs [] 0 ps ∙ many;
  passes = λ n l. let t = there ps n (subst (λ z. n < z) (sym many) l) in shown_there rule k0 k0 hs [] ps n t.0 t.1 ∙ ap some (fresh_shows rule k0 hs count n t.0 free (all_at (λ q. Fresh count q) ps n t.0 all t.1));
}

pub begins : {R : Type 0} (first : R → Chains → Type 0) (step : R → Chains → Entry → Chains) (legal : R → Chains → Entry → Type 0) (follows : R → List Entry → Entry → Type 0) (buries : R → Entry → std.Option ℕ) (rule : R)
    (k0 : Chains) (hs : List ℕ) (ps : List PlainPass) → first rule k0 → length k0 ≤ 512 → length ps ≤ 65 → hs ≡ replicate (length k0) 0 → AllByRecursion (λ p. Fresh (length ps) p) ps
    → Sound first step legal follows buries rule k0 k0 hs [] ps
begins first step legal follows buries rule k0 hs ps began few some_passes free all = record {
  began = began;
  is_legal = λ i e at. absurd (some-ne-none e (sym at));
  counted = λ n. tt;
  as_many = refl;
  each_held = ap (λ (t : List ℕ). length t) free ∙ length-replicate (length k0) 0;
  few_chains = few;
  few_passes = some_passes;
  named = λ c h e. let z = word c h e in omega arith;
  free = λ c y e f. f;
  dead_known = λ m h p q a b k l. let f = at m p a in let z : true ≡ false = copies (length ps) h false true (subst (λ (t : List Bool). get_elem? t h ≡ some true) f.dead k) in cc;
  freed_known = λ m h p q a b k l. let f = at m p a in let z : true ≡ false = copies (length ps) h false true (subst (λ (t : List Bool). get_elem? t h ≡ some true) f.freed k) in cc;
  each = λ m p a. let f = at m p a in record {
    parts = λ c y e g. let z = word c (m + 1) e in absurd (omega arith);
    planned = λ i x e. absurd (some-ne-none x (sym (subst (λ (s : Stage). get_elem? (planned (plan_of s p.new.items)) i ≡ some x) f.stage e)));
    rising = λ i j x y e g l. absurd (some-ne-none x (sym (subst (λ (s : Stage). get_elem? (planned (plan_of s p.new.items)) i ≡ some x) f.stage e)));
    idle = λ e. f.new;
    deaths = ap (λ (t : List Bool). length t) f.dead ∙ length-replicate (length ps) false;
    frees = ap (λ (t : List Bool). length t) f.freed ∙ length-replicate (length ps) false;
    recovered = λ c h e g. let z = word c (h + 1) e in absurd (omega arith);
    seen = (let z = f.seen in omega arith);
    own = nothing_taken p.seen m;
    commits = f.commits;
    unburied = λ i e l g b. absurd (some-ne-none e (sym g));
    at_death = λ d e. living_not_dead p d f.death e;
  };
} where
  at : (m : ℕ) (p : PlainPass) → get_elem? ps m ≡ some p → Fresh (length ps) p
  at m p a = all_at (λ q. Fresh (length ps) q) ps m p all a

  word : (c h : ℕ) → get_elem? hs c ≡ some h → h ≡ 0
  word c h e = copies (length k0) c 0 h (subst (λ (t : List ℕ). get_elem? t c ≡ some h) free e)

  nothing_taken : (s m : ℕ) → of_pass m (take s []) ≡ of_pass m []
  nothing_taken zero m = refl
  nothing_taken (suc s) m = refl
