-- What is decided of an entry that stamps, and what it leaves.
use Rattle.std.specs.Prelude.{◌≡◌, ℕ, zero, suc, ◌+◌, ◌<◌, ◌≤◌, Bool, true, false, cond, eqb, List, [], ◌∷◌, ◌++◌, length, None}
use Rattle.std.proofs.Common as std
use Rattle.std.specs.Prelude.{OnOk}
use Rattle.std.proofs.Common.{length-set, refl, sym, ap, ◌∙◌, subst, arith}
use Rattle.std.proofs.lemmas.Bool.{eqb-true}
use mathlib.Core.Option.{some, some-ne-none}
use lib.ListN.{get_elem?}
use Rattle.sid_core.specs.declared.entry.Entry.{Entry}
use Rattle.chain_map.specs.Pairs.{Pairs, put}
use Rattle.turn_types.specs.Journal.{Chains, RiseWithin, has}
use Rattle.turn_types.specs.Shown.{Shown, Numbered, IsPart, look}
use Rattle.turn_types.specs.Beside.{Beside, Leaves}
use Rattle.stored_table.specs.Places.{chain_at}
use Rattle.by_hand.specs.Steps.{AreHeld, parts, with_changes}
use Rattle.by_hand.specs.Decided.{IsDecidedBy, asked_chain, chosen}
use Rattle.by_hand.specs.Idle.{IsIdle, IsSame, IsCarriedOut}
use Rattle.by_hand.specs.declared.change.Choice.{Choice}
use Rattle.by_hand.specs.declared.change.Decision.{Decision}
use Rattle.txn_work.specs.Stamps.{key, stamp, stamp_if, stamped, stamped_chains, numbers_from}
use Rattle.txn_work.specs.Law.{if_there, stamped_at, stamped_length, rises}
use Rattle.txn_work.specs.Ready.{IsReady}
use Rattle.txn_work.specs.declared.rule.Stamping.{Stamping}

-- ---- what the step makes of each chain

there : (k : Chains) (w : ℕ) → w < length k → get_elem? k w ≡ some (chain_at k w)
there [] w l = absurd (omega arith)
there (x ∷ k) zero l = refl
there (x ∷ k) (suc w) l = there k w (omega arith)

pub stamped_is : (c w : ℕ) (k : Chains) → has w (stamped_chains c) ≡ true → w < length k → get_elem? (stamped c k) w ≡ some (put (key w) stamp (chain_at k w))
stamped_is c w k named l = stamped_at c w k ∙ (λ j. if_there (stamp_if (named j) w) (there k w l j))

pub no_parts : (k : Chains) → IsPart [] k
no_parts k c y e = absurd (some-ne-none y (sym e))

pub one_part_more : (n : ℕ) (z : Pairs) (xs : Numbered) (k : Chains) → get_elem? k n ≡ some z → IsPart xs k → IsPart ((n, z) ∷ xs) k
one_part_more n z xs k at rest c y e = by (eqb n c) refl e where
  by : (b : Bool) → eqb n c ≡ b → cond b (some z) (look c xs) ≡ some y → get_elem? k c ≡ some y
  by true is f = subst (λ (m : ℕ). get_elem? k m ≡ some y) (eqb-true n c is) (at ∙ f)
  by false is f = rest c y f

-- ---- what is decided

some_numbers : (n c : ℕ) → 0 < c → 0 < length (numbers_from n c)
some_numbers n zero l = l
some_numbers n (suc c) l = omega arith

either_same : {A : Type 0} (b : Bool) (x y z : A) → x ≡ z → y ≡ z → cond b x y ≡ z
either_same true x y z p q = p
either_same false x y z p q = q

pub decided : (v : Shown Stamping) (k : Chains) (x : Decision) (c : ℕ) (choice : Choice) → v.rule.count ≡ c → length k ≡ 56 → 0 < c → c ≤ 8 → x.found ≡ choice → x.missing ≡ choice → x.footprint.now ≡ stamped_chains c
    → has (asked_chain 8 x) (stamped_chains c) ≡ true → AreHeld 8 (stamped_chains c) choice.changes.now → IsPart (with_changes 8 choice.changes.now (parts (stamped_chains c) k)) (stamped c k)
    → IsDecidedBy {R = Stamping} (λ r m e. stamped r.count m) (λ r m e. 32 + r.count ≤ length m) (λ r js e. Unit {0}) (λ r e. None) (λ r m e. stamped_chains r.count) 8 v k x
decided v k x c choice count long any few found missing footprint asked held makes =
    let chosen_is : chosen 8 k x ≡ choice = either_same _ x.found x.missing choice found missing in record {
      asked = ap (λ (fp : List ℕ). has (asked_chain 8 x) fp) footprint ∙ asked;
      decided = record {
        some_held = subst (λ (fp : List ℕ). 0 < length fp) (sym footprint) (some_numbers 32 c any);
        rise = subst (λ (fp : List ℕ). RiseWithin 0 56 fp) (sym footprint) (rises 32 c 0 56 (omega arith) (omega arith));
        is_legal = omega arith;
        follows_own = tt;
        named = λ w h. subst (λ (fp : List ℕ). has w fp ≡ true) (sym footprint) (subst (λ (m : ℕ). has w (stamped_chains m) ≡ true) count h);
        changed = subst (λ (fp : List ℕ). AreHeld 8 fp (chosen 8 k x).changes.now) (sym footprint) (subst (λ (ch : Choice). AreHeld 8 (stamped_chains c) ch.changes.now) (sym chosen_is) held);
        makes = subst (λ (m : ℕ). IsPart (with_changes 8 (chosen 8 k x).changes.now (parts x.footprint.now k)) (stamped m k)) (sym count)
            (subst (λ (fp : List ℕ). IsPart (with_changes 8 (chosen 8 k x).changes.now (parts fp k)) (stamped c k)) (sym footprint)
            (subst (λ (ch : Choice). IsPart (with_changes 8 ch.changes.now (parts (stamped_chains c) k)) (stamped c k)) (sym chosen_is) makes));
        buries_none = refl;
      };
    }

-- ---- what it leaves

long_more : (xs : List Entry) (e : Entry) → length (xs ++ e ∷ []) ≡ length xs + 1
long_more [] e = refl
long_more (x ∷ xs) e = ap suc (long_more xs e) ∙ omega arith

pub ready_again : (c made : ℕ) (v w : Shown Stamping) (b d : Beside Stamping) (e : Entry) → IsReady c made b v → IsSame v w → Leaves v w b d → IsIdle d → IsCarriedOut (λ m x. stamped v.rule.count m) v w b d e → IsReady c (made + 1) d w
ready_again c made v w b d e is same l idle out = record {
  rule = ap (λ (r : Stamping). r.count) same.rule ∙ is.rule;
  own = ap (λ (own : List Entry). length own) out.own ∙ long_more v.own e ∙ ap (λ (m : ℕ). m + 1) is.own;
  chains = ap (λ (k : Chains). length k) out.chains ∙ stamped_length v.rule.count b.chains ∙ is.chains;
  passes = subst (λ (m : ℕ). 0 < m) (sym (ap (λ (ps : List (Shown Stamping)). length ps) l.passes ∙ length-set b.passes v.number w)) is.passes;
  idle = idle;
}

pub on_ok : {T E A B : Type 0} (r : std.Result T E) → OnOk r A → (A → B) → OnOk r B
on_ok (std.Ok x) p so = so p
on_ok (std.Err e) p so = tt
