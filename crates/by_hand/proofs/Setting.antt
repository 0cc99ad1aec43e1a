-- What is worked out on the chains of the row decides there.
use Rattle.std.specs.Prelude.{◌≡◌, ◌⊎◌, ℕ, zero, suc, ◌+◌, ◌<◌, Bool, true, false, cond, eqb, List, [], ◌∷◌, ◌++◌, length, map, slice_set, None}
use Rattle.std.specs.List.{AllByRecursion}
use Rattle.std.specs.Option.{is_some}
use Rattle.std.proofs.Common.{inl, inr, refl, sym, ap, ◌∙◌, subst, arith}
use Rattle.std.proofs.lemmas.Bool.{eqb-true}
use Rattle.std.proofs.lemmas.List.Sums.{fold_push}
use mathlib.Core.Option.{some, some-ne-none}
use lib.ListN.{get_elem?}
use Rattle.sid_core.specs.declared.entry.Entry.{Entry}
use Rattle.sid_core.specs.declared.entry.Event.{Event}
use Rattle.sid_core.specs.declared.reply.Reply.TheVariants as reply
use Rattle.sid_core.specs.declared.setup.Setup.{Setup}
use Rattle.chain_map.specs.Hash.{chain_number}
use Rattle.chain_map.specs.Pairs.{find}
use Rattle.chain_map.specs.declared.db.Db.{Db}
use Rattle.chain_map.specs.declared.db.Db.TheVariants.{Opens, Locking}
use Rattle.turn_types.specs.Journal.{Chains, has}
use Rattle.turn_types.specs.Shown.{Shown, Numbered, IsPart, look}
use Rattle.turn_types.specs.Beside.{Beside, Leaves}
use Rattle.stored_table.specs.Places.{chain_at}
use Rattle.record_txn.specs.Finishing.{next_entry}
use Rattle.records_replay.specs.Rule.{step, IsLegalStep, names, Follows, buries}
use Rattle.databases.specs.declared.rule.BySetup.{BySetup}
use Rattle.by_hand.specs.Steps.{Plain, plain, parts}
use Rattle.by_hand.specs.Idle.{IsIdle, IsSame, IsCarriedOut}
use Rattle.by_hand.specs.Decided.{IsDecided, IsDecidedBy, asked_chain, is_in, choice_of, chosen}
use Rattle.by_hand.specs.Worked.{row, named_chains, handle_key, file_key, open_writes, close_writes, opening, closing, opened, closed, missed, behind, IsBehind, OpensByHand, ClosesByHand}
use Rattle.by_hand.specs.declared.change.Change.{Change}
use Rattle.by_hand.specs.declared.change.Choice.{Choice}
use Rattle.by_hand.specs.declared.change.Decision.{Decision}
use Rattle.by_hand.proofs.Plainly.{with_plain, plainly, held_plainly}
use Rattle.by_hand.proofs.Row.{IsWorked, first, after_open, behind_none, behind_open, open_fetches, close_fetches, miss_fetches, open_is_worked, close_is_worked, miss_is_worked, first_long, open_long}

-- ---- lists

-- what all of a list have, each that stands there has
all_have : (P : ℕ → Type 0) (cs : List ℕ) (c : ℕ) → AllByRecursion P cs → has c cs ≡ true → P c
all_have P [] c all h = absurd cc
all_have P (x ∷ cs) c all h = go (eqb x c) refl h (all_have P cs c all.1) where
  go : (b : Bool) → eqb x c ≡ b → cond b true (has c cs) ≡ true → (has c cs ≡ true → P c) → P c
  go true is e so = subst P (eqb-true x c is) all.0
  go false is e so = so e

-- chains that stand at their numbers are parts
are_parts : (xs : Numbered) (k : Chains) → AllByRecursion (λ x. get_elem? k x.0 ≡ some x.1) xs → IsPart xs k
are_parts [] k all c y e = absurd (some-ne-none y (sym e))
are_parts (x ∷ xs) k all c y e = go (eqb x.0 c) refl e (are_parts xs k all.1 c y) where
  go : (b : Bool) → eqb x.0 c ≡ b → cond b (some x.1) (look c xs) ≡ some y → (look c xs ≡ some y → get_elem? k c ≡ some y) → get_elem? k c ≡ some y
  go true is h so = ap (λ (n : ℕ). get_elem? k n) (sym (eqb-true x.0 c is)) ∙ all.0 ∙ h
  go false is h so = so h

length_set : {A : Type 0} (xs : List A) (n : ℕ) (x : A) → length (slice_set xs n x) ≡ length xs
length_set [] n x = refl
length_set (y ∷ xs) zero x = refl
length_set (y ∷ xs) (suc n) x = ap suc (length_set xs n x)

-- ---- decided

-- on chains k, with these entries of the pass
pub decided_on : (k : Chains) (own : List Entry) (writes : List Plain) (changes : List Change) (e : Entry) → IsWorked k own writes e → buries e ≡ None → map plain changes ≡ writes
    → IsDecided {R = Setup} (λ s m d. step s m d) (λ s m d. IsLegalStep s m d) (λ s before d. Follows before d) (λ s d. buries d) (λ s m d. names s m d) 8 row k own named_chains changes e
decided_on k own writes changes e w nobody same = record {
  some_held = omega arith;
  rise = (omega arith, omega arith, (omega arith, omega arith, (omega arith, omega arith, (omega arith, omega arith, (omega arith, omega arith, tt)))));
  is_legal = w.legal;
  follows_own = w.follows;
  named = λ c h. all_have (λ n. has n named_chains ≡ true) (names row k e) c w.named h;
  changed = held_plainly 8 named_chains changes (subst (λ (ws : List Plain). AllByRecursion (λ x. has (chain_number x.0 x.1 8) named_chains ≡ true) ws) (sym same) w.held);
  makes = subst (λ (xs : Numbered). IsPart xs (step row k e)) (sym (plainly 8 changes (parts named_chains k) ∙ ap (λ (ws : List Plain). with_plain 8 ws (parts named_chains k)) same)) (are_parts (with_plain 8 writes (parts named_chains k)) (step row k e) w.makes);
  buries_none = nobody;
}

-- of the rule of a setup
pub by_setup : (rule : BySetup) (k : Chains) (own : List Entry) (footprint : List ℕ) (changes : List Change) (e : Entry)
    → IsDecided {R = Setup} (λ s m d. step s m d) (λ s m d. IsLegalStep s m d) (λ s before d. Follows before d) (λ s d. buries d) (λ s m d. names s m d) 8 rule.setup.now k own footprint changes e
    → IsDecided {R = BySetup} (λ r m d. step r.setup.now m d) (λ r m d. IsLegalStep r.setup.now m d) (λ r before d. Follows before d) (λ r d. buries d) (λ r m d. names r.setup.now m d) 8 rule k own footprint changes e
by_setup rule k own footprint changes e d = record {
  some_held = d.some_held;
  rise = d.rise;
  is_legal = d.is_legal;
  follows_own = d.follows_own;
  named = d.named;
  changed = d.changed;
  makes = d.makes;
  buries_none = d.buries_none;
}

-- A decision, beside a pass that is behind these entries: what is fetched is there or isn't, and for that it was worked out.
module _ (before : List Entry) (b : Beside BySetup) (v : Shown BySetup) (k : Chains) (x : Decision) (d : Db) (key : List ℕ) (there : Bool) (what : Event) (is : IsBehind before b v) (behind_is : behind before ≡ k)
    (db_is : x.db ≡ d) (key_is : x.key.now ≡ key) (fetches : is_some (find key (chain_at k (chain_number d key 8))) ≡ there) (event : (choice_of there x).event ≡ what) where
  abbrev made : Entry
  made = record { by = 1; seq = length before + 1; what = what }

  chains : b.chains ≡ k
  chains = is.chains ∙ behind_is

  asked_is : asked_chain 8 x ≡ chain_number d key 8
  asked_is = λ j. chain_number (db_is j) (key_is j) 8

  found : is_in x (chain_at k (asked_chain 8 x)) ≡ there
  found = (λ j. is_some (find (key_is j) (chain_at k (asked_is j)))) ∙ fetches

  choice : choice_of there x ≡ chosen 8 b.chains x
  choice = ap (λ (t : Bool). choice_of t x) (sym found) ∙ ap (λ (m : Chains). chosen 8 m x) (sym chains)

  pub entry_is : next_entry v (chosen 8 b.chains x).event ≡ made
  entry_is = λ j. record { by = is.number j; seq = length (is.own j) + 1; what = (ap (λ (c : Choice). c.event) (sym choice) ∙ event) j }

  pub decides : (writes : List Plain) → x.footprint.now ≡ named_chains → has (chain_number d key 8) named_chains ≡ true → map plain (choice_of there x).changes.now ≡ writes → IsWorked k before writes made → buries made ≡ None
      → IsDecidedBy {R = BySetup} (λ r m y. step r.setup.now m y) (λ r m y. IsLegalStep r.setup.now m y) (λ r es y. Follows es y) (λ r y. buries y) (λ r m y. names r.setup.now m y) 8 v b.chains x
  decides writes footprint asked changed worked nobody =
      let changes : List Change = (chosen 8 b.chains x).changes.now in
      let plainly_is : map plain changes ≡ writes = ap (λ (c : Choice). map plain c.changes.now) (sym choice) ∙ changed in
      let same : (row, k, before, named_chains, made) ≡ (v.rule.setup.now, b.chains, v.own, x.footprint.now, next_entry v (chosen 8 b.chains x).event) = λ j. (sym is.rule j, sym chains j, sym is.own j, sym footprint j, sym entry_is j) in
      let here = subst (λ (t : Setup × Chains × List Entry × List ℕ × Entry). IsDecided {R = Setup} (λ s m y. step s m y) (λ s m y. IsLegalStep s m y) (λ s es y. Follows es y) (λ s y. buries y) (λ s m y. names s m y) 8 t.0 t.1 t.2 t.3 changes t.4) same
      (decided_on k before writes changes made worked nobody plainly_is) in record {
        asked = (λ j. has (asked_is j) (footprint j)) ∙ asked;
        decided = by_setup v.rule b.chains v.own x.footprint.now changes (next_entry v (chosen 8 b.chains x).event) here;
      }

-- ---- behind one entry more

pub behind_more : (before : List Entry) (entry e : Entry) (v w : Shown BySetup) (b d : Beside BySetup) → IsBehind before b v → IsSame v w → Leaves v w b d → IsIdle d
    → IsCarriedOut (λ m x. step v.rule.setup.now m x) v w b d e → e ≡ entry → IsBehind (before ++ entry ∷ []) d w
behind_more before entry e v w b d is same l idle out at = record {
  rule = ap (λ (r : BySetup). r.setup.now) same.rule ∙ is.rule;
  number = same.number ∙ is.number;
  own = out.own ∙ (λ j. is.own j ++ at j ∷ []);
  journal = out.journal ∙ (λ j. is.journal j ++ at j ∷ []);
  chains = out.chains ∙ (λ j. step (is.rule j) (is.chains j) (at j)) ∙ sym (fold_push (step row) (behind []) before entry);
  passes = subst (λ (m : ℕ). 1 < m) (sym (ap (λ (ps : List (Shown BySetup)). length ps) l.passes ∙ length_set b.passes v.number w)) is.passes;
  idle = idle;
}

-- ---- the three cases

abbrev IsDecidedHere : Beside BySetup → Shown BySetup → Decision → Type 0
IsDecidedHere b v x = IsDecidedBy {R = BySetup} (λ r m y. step r.setup.now m y) (λ r m y. IsLegalStep r.setup.now m y) (λ r es y. Follows es y) (λ r y. buries y) (λ r m y. names r.setup.now m y) 8 v b.chains x

module _ (b : Beside BySetup) (v : Shown BySetup) (x : Decision) where
  pub open_decides : IsBehind [] b v → OpensByHand x → IsDecidedHere b v x
  open_decides is o = decides [] b v first x Locking file_key false opening is behind_none o.asked.0 o.asked.1 open_fetches o.missing.1 open_writes o.footprint refl o.missing.0 open_is_worked refl

  pub open_entry : IsBehind [] b v → OpensByHand x → next_entry v (chosen 8 b.chains x).event ≡ opened
  open_entry is o = entry_is [] b v first x Locking file_key false opening is behind_none o.asked.0 o.asked.1 open_fetches o.missing.1

  pub close_decides : IsBehind (opened ∷ []) b v → ClosesByHand x → IsDecidedHere b v x
  close_decides is o = decides (opened ∷ []) b v after_open x Opens handle_key true (closing reply.Done) is behind_open o.asked.0 o.asked.1 close_fetches o.found.1 close_writes o.footprint refl o.found.0 close_is_worked refl

  pub close_entry : IsBehind (opened ∷ []) b v → ClosesByHand x → next_entry v (chosen 8 b.chains x).event ≡ closed
  close_entry is o = entry_is (opened ∷ []) b v after_open x Opens handle_key true (closing reply.Done) is behind_open o.asked.0 o.asked.1 close_fetches o.found.1

  pub miss_decides : IsBehind [] b v → ClosesByHand x → IsDecidedHere b v x
  miss_decides is o = decides [] b v first x Opens handle_key false (closing reply.FileClosed) is behind_none o.asked.0 o.asked.1 miss_fetches o.missing.1 [] o.footprint refl o.missing.0 miss_is_worked refl

  pub miss_entry : IsBehind [] b v → ClosesByHand x → next_entry v (chosen 8 b.chains x).event ≡ missed
  miss_entry is o = entry_is [] b v first x Opens handle_key false (closing reply.FileClosed) is behind_none o.asked.0 o.asked.1 miss_fetches o.missing.1

  pub either_decides : IsBehind [] b v ⊎ IsBehind (opened ∷ []) b v → ClosesByHand x → IsDecidedHere b v x
  either_decides (inl is) o = miss_decides is o
  either_decides (inr is) o = close_decides is o

  pub either_long : IsBehind [] b v ⊎ IsBehind (opened ∷ []) b v → length b.chains ≡ 56
  either_long (inl is) = ap (λ (k : Chains). length k) (is.chains ∙ behind_none) ∙ first_long
  either_long (inr is) = ap (λ (k : Chains). length k) (is.chains ∙ behind_open) ∙ open_long
