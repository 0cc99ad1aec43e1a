-- An entry that is decided on what the journal makes may be finished by a pass that has seen a part of the journal.
use Rattle.std.proofs.Common.{◌≡◌, ℕ, zero, suc, ◌+◌, ◌<◌, ◌≤◌, Bool, true, false, cond, eqb, eq-eqb, ne_eqb, List, [], ◌∷◌, ◌++◌, map, length, slice_index_or, append-nil, sym, refl, ap, ◌∙◌, subst, arith}
use Rattle.std.proofs.Common as std
use Rattle.std.specs.Prelude.{fold, IfSome}
use Rattle.std.proofs.lemmas.List.Sums.{fold_push}
use Rattle.std.proofs.lemmas.Bool.{eqb-true}
use mathlib.Core.Option.{Option, some, some-ne-none, some-injective}
use lib.ListN.{get_elem?}
use Rattle.sid_core.specs.declared.entry.Entry.{Entry}
use Rattle.sid_core.specs.declared.entry.Event.{Event}
use Rattle.sid_core.specs.declared.outside.Point.{Point}
use Rattle.chain_map.specs.Pairs.{Pairs}
use Rattle.turn_types.specs.Journal.{Chains, Agree, Lawful, has, of_pass}
use Rattle.turn_types.specs.Shown.{Shown, Numbered, Nothing, RisesFrom, IsPart, look, or_else, replay}
use Rattle.turn_types.specs.Calls.{Able, Lawfully}
use Rattle.turn_types.specs.Beside.{Beside, WhereTold, Leaves}
use Rattle.turn_types.proofs.Runs as runs
use Rattle.dbwrap_core.specs.Told.{Told}
use Rattle.record_txn.specs.Goes.{Goes}
use Rattle.record_txn.specs.Finishing.{Finished, MayFinish, next_entry}
use Rattle.record_txn.specs.declared.finish.Finish.{Finish}
use Rattle.record_txn.specs.declared.finish.Finish.TheVariants as finish
use Rattle.record_txn.proofs.Going.{goes_on}
use Rattle.record_txn.specs.Hand.{chains_of, chain_in}
use Rattle.record_txn.specs.Open.{IsOpen}
use Rattle.record_txn.specs.declared.hand.Held.{Held}
use Rattle.record_txn.proofs.Becoming.{makes_later}
use Rattle.stored_table.specs.Places.{chain_at}
use Rattle.by_hand.specs.Steps.{HasTaken, HasLeft, AreHeld, numbers, parts, with_change, with_changes, chain_of}
use Rattle.by_hand.specs.Decided.{IsDecided, IsDecidedBeside, asked_chain, is_in, choice_of, chosen}
use Rattle.by_hand.specs.declared.change.Change.{Change}
use Rattle.by_hand.specs.declared.change.Choice.{Choice}
use Rattle.by_hand.specs.declared.change.Decision.{Decision}
use Rattle.by_hand.proofs.Holding.{numbers_hold, has_found, found_has, done_left, only_done, undone_left}

pub place_is : {A : Type 0} (xs : List A) (n : ℕ) (x d : A) → get_elem? xs n ≡ some x → slice_index_or xs n d ≡ x
place_is [] n x d e = absurd (some-ne-none x (sym e))
place_is (y ∷ xs) zero x d e = some-injective y x e
place_is (y ∷ xs) (suc n) x d e = place_is xs n x d e

-- what is found stands above the least number
found_above : (n c : ℕ) (y : Pairs) (held : Numbered) → RisesFrom n held → look c held ≡ some y → n ≤ c
found_above n c y [] r e = absurd (some-ne-none y (sym e))
found_above n c y (x ∷ held) r e = go (eqb x.0 c) refl e (λ f. found_above (x.0 + 1) c y held r.1 f) where
  go : (b : Bool) → eqb x.0 c ≡ b → cond b (some x.1) (look c held) ≡ some y → (look c held ≡ some y → x.0 + 1 ≤ c) → n ≤ c
  go true is f so = let h = r.0 in let s = eqb-true x.0 c is in omega arith
  go false is f so = let h = r.0 in let l = so f in omega arith

-- chains that are parts of others are these parts
pub parts_are : (n : ℕ) (held : Numbered) (k : Chains) → RisesFrom n held → IsPart held k → parts (numbers held) k ≡ held
parts_are n [] k r p = refl
parts_are n (x ∷ held) k r p =
    let head : chain_at k x.0 ≡ x.1 = place_is k x.0 x.1 [] (p x.0 x.1 (ap (λ b. cond b (some x.1) (look x.0 held)) (eq-eqb x.0 x.0 refl))) in
    let tail : parts (numbers held) k ≡ held = parts_are (x.0 + 1) held k r.1 (λ c y e. p c y (ap (λ b. cond b (some x.1) (look c held)) (ne_eqb x.0 c (λ is. let l = found_above (x.0 + 1) c y held r.1 e in omega arith)) ∙ e)) in
    λ j. (x.0, head j) ∷ tail j

pub numbers_change : (n : ℕ) (xs : List Change) (held : Numbered) → numbers (with_changes n xs held) ≡ numbers held
numbers_change n [] held = refl
numbers_change n (x ∷ xs) held = numbers_change n xs (with_change n x held) ∙ numbers_hold (chain_of n x) _ held

-- a list that is another one with something behind it, and is that one, gained nothing
gains_none : {A : Type 0} (xs gained : List A) → xs ≡ xs ++ gained → gained ≡ []
gains_none [] gained e = sym e
gains_none (x ∷ xs) gained e = gains_none xs gained (ap (λ t. std.drop 1 t) e)

-- beside a pass that took its chains stands the same journal
pub told_still : {R : Type 0} (v w : Shown R) (o p : std.Option (Beside R)) (b : Beside R) (footprint : List ℕ) (hand : Numbered) → HasTaken v w footprint hand → WhereTold (Leaves v w) o p → o ≡ std.Some b
    → (d : Beside R) × (p ≡ std.Some d) × (d.journal ≡ b.journal)
told_still v w std.None p b footprint hand t l told = let no : std.None ≡ std.Some b = told in absurd cc
told_still v w (std.Some a) std.None b footprint hand t l told = absurd l
told_still {R} v w (std.Some a) (std.Some d) b footprint hand t l told = (
  d,
  refl,
  l.journal ∙ ap (λ (g : List Entry). a.journal ++ g) (gains_none v.own l.gained (sym (t.same.own ∙ append-nil v.own) ∙ l.own)) ∙ append-nil a.journal ∙ ap (λ (x : std.Option (Beside R)). journal_of x) told,
) where
  journal_of : std.Option (Beside R) → List Entry
  journal_of std.None = []
  journal_of (std.Some x) = x.journal

module _ {R : Type 0} (first : R → Chains → Type 0) (step : R → Chains → Entry → Chains) (legal : R → Chains → Entry → Type 0) (follows : R → List Entry → Entry → Type 0) (buries : R → Entry → std.Option ℕ) (names : R → Chains → Entry → List ℕ) where
  pub decided_still : (v w : Shown R) (journal later : List Entry) (n : ℕ) (footprint : List ℕ) (changes : List Change) (hand : Numbered) (what : Event) → HasTaken v w footprint hand → later ≡ journal
      → IsDecided step legal follows buries names n v.rule (replay step v journal) v.own footprint changes (next_entry v what)
      → IsDecided step legal follows buries names n w.rule (replay step w later) w.own footprint changes (next_entry w what)
  decided_still v w journal later n footprint changes hand what t is d =
      let s = t.same in let own : w.own ≡ v.own = s.own ∙ append-nil v.own in
      let same : (v.rule, v.first, v.number, v.own, journal) ≡ (w.rule, w.first, w.number, w.own, later) = λ j. (sym s.rule j, sym s.first j, sym s.number j, sym own j, sym is j) in
      subst (λ (x : R × Chains × ℕ × List Entry × List Entry). IsDecided step legal follows buries names n x.0 (fold (step x.0) x.1 x.4) x.3 footprint changes (record { by = x.2; seq = length x.3 + 1; what = what })) same d

  module _ (lawful : (r : R) → Lawful (first r) (step r) (legal r) (names r) (follows r)) where
    pub may_finish : (v : Shown R) (e : Entry) (b : Beside R) (n : ℕ) (footprint : List ℕ) (changes : List Change) (hand : Numbered) → e.by ≡ v.number → Told first step legal follows v b → v.alive ≡ true → v.plan ≡ Nothing
        → (0 < length v.held → Lawfully step legal follows buries v) → RisesFrom 0 v.held → IsPart v.held (replay step v v.seen) → numbers v.held ≡ footprint
        → IsDecided step legal follows buries names n v.rule (replay step v b.journal) v.own footprint changes e → hand ≡ with_changes n changes v.held
        → MayFinish step legal follows buries names hand v e
    may_finish v e b n footprint changes hand mine told lives unplanned lawfully_if rising seen_parts held d hand_is = record {
      some_held = long_enough;
      follows_own = d.follows_own;
      may = may_seen;
      has_all = λ c h. in_held c (ap (λ (t : List ℕ). has c t) (sym same_names) ∙ h);
      makes = λ c y at. let z = in_hand c y at in
          ap (λ (t : Chains). get_elem? t c) (sym (fold_push (step v.rule) v.first v.seen e))
          ∙ makes_later (first v.rule) (step v.rule) (legal v.rule) (names v.rule) (follows v.rule) law v.first told.began b.journal v.seen e v.held c y z.0 told.is_legal
          (runs.legal_snoc (step v.rule) (legal v.rule) (follows v.rule) v.first v.seen e lawfully.is_legal may_seen follows_seen)
          d.is_legal follows_now in_held parts_now seen_parts z.1 (changed_now c y at);
      buried = λ x is. let no : std.None ≡ std.Some x = sym d.buries_none ∙ is in absurd cc;
    } where
      law : Lawful (first v.rule) (step v.rule) (legal v.rule) (names v.rule) (follows v.rule)
      law = lawful v.rule

      now : Chains
      now = fold (step v.rule) v.first b.journal

      before : Chains
      before = fold (step v.rule) v.first v.seen

      long_enough : 0 < length v.held
      long_enough = go v.held held where
        go : (t : Numbered) → numbers t ≡ footprint → 0 < length t
        go [] h = let l = ap (λ (f : List ℕ). length f) h in let s = d.some_held in absurd (omega arith)
        go (x ∷ t) h = omega arith

      lawfully : Lawfully step legal follows buries v
      lawfully = lawfully_if long_enough

      parts_now : IsPart v.held now
      parts_now = told.held lives unplanned

      in_held : (c : ℕ) → has c (names v.rule now e) ≡ true → (y : Pairs) × (look c v.held ≡ some y)
      in_held c h = has_found c v.held (ap (λ (t : List ℕ). has c t) held ∙ d.named c h)

      follows_now : follows v.rule (of_pass e.by b.journal) e
      follows_now = subst (λ (t : List Entry). follows v.rule t e) (sym (ap (λ m. of_pass m b.journal) mine ∙ told.own)) d.follows_own

      follows_seen : follows v.rule (of_pass e.by v.seen) e
      follows_seen = subst (λ (t : List Entry). follows v.rule t e) (sym (ap (λ m. of_pass m v.seen) mine ∙ lawfully.own)) d.follows_own

      agree : Agree (names v.rule now e) now before
      agree c h = let x = in_held c h in parts_now c x.0 x.1 ∙ sym (seen_parts c x.0 x.1)

      long : length now ≡ length before
      long = runs.legal_length (step v.rule) (legal v.rule) (follows v.rule) v.first (first v.rule) (names v.rule) law told.began b.journal told.is_legal
          ∙ sym (runs.legal_length (step v.rule) (legal v.rule) (follows v.rule) v.first (first v.rule) (names v.rule) law told.began v.seen lawfully.is_legal)

      local : (names v.rule before e ≡ names v.rule now e) × (legal v.rule now e → legal v.rule before e)
      local = law.local now before e (v.first, b.journal, told.began, told.is_legal, refl) (v.first, v.seen, told.began, lawfully.is_legal, refl) long agree

      same_names : names v.rule before e ≡ names v.rule now e
      same_names = local.0

      may_seen : legal v.rule before e
      may_seen = local.1 d.is_legal

      parts_in : parts footprint now ≡ v.held
      parts_in = (λ j. parts (sym held j) now) ∙ parts_are 0 v.held now rising parts_now

      changed_now : (c : ℕ) (y : Pairs) → look c hand ≡ some y → get_elem? (step v.rule now e) c ≡ some y
      changed_now c y at = d.makes c y (ap (λ (t : Numbered). look c (with_changes n changes t)) parts_in ∙ ap (λ (t : Numbered). look c t) (sym hand_is) ∙ at)

      in_hand : (c : ℕ) (y : Pairs) → look c hand ≡ some y → (z : Pairs) × (look c v.held ≡ some z)
      in_hand c y at = has_found c v.held (ap (λ (t : List ℕ). has c t) (sym (numbers_change n changes v.held)) ∙ found_has c y (with_changes n changes v.held) (ap (λ (t : Numbered). look c t) (sym hand_is) ∙ at))

-- ---- what is decided beside a pass, once its chains are held

module _ {R : Type 0} (first : R → Chains → Type 0) (step : R → Chains → Entry → Chains) (legal : R → Chains → Entry → Type 0) (follows : R → List Entry → Entry → Type 0) (buries : R → Entry → std.Option ℕ) (names : R → Chains → Entry → List ℕ)
    (v w : Shown R) (o p : std.Option (Beside R)) (n : ℕ) (x : Decision) (hand : Numbered) where
  -- The pass showed v and was decided for; it shows w now, and holds the footprint.
  pub record HoldsFor : Type 0 where
    pub taken : HasTaken v w x.footprint.now hand
    pub beside : WhereTold (Leaves v w) o p
    pub decided : IsDecidedBeside step legal follows buries names n v o x
    pub told : IfSome p (Told first step legal follows w)
    pub able : Able w
    pub unplanned : w.plan ≡ Nothing

-- the choice by what a fetch found, where a transaction has as many chains as were decided for
pub choice_found : (x : Decision) (hand : Numbered) (m n : ℕ) (there : Bool) (choice : Choice) → choice ≡ choice_of there x → there ≡ is_in x (chain_in (asked_chain m x) hand) → m ≡ n
    → choice ≡ choice_of (is_in x (chain_in (asked_chain n x) hand)) x
choice_found x hand m n there choice is found same = is ∙ ap (λ b. choice_of b x) (found ∙ ap (λ k. is_in x (chain_in (asked_chain k x) hand)) same)

module _ {S R : Type 0} (bond_of : S → ℕ × ℕ) (count_of : S → ℕ) (quiet_of : S → Type 0) (shown_of : S → Shown R) (beside_of : S → std.Option (Beside R)) where
  -- cells that a transaction began with, then held, changed in hand and left
  pub goes_since : (s began held changed left : S) → began ≡ s → Goes bond_of count_of quiet_of shown_of beside_of began held → changed ≡ held → Goes bond_of count_of quiet_of shown_of beside_of changed left
      → Goes bond_of count_of quiet_of shown_of beside_of s left
  goes_since s began held changed left begins goes same more =
      goes_on bond_of count_of quiet_of shown_of beside_of s changed left
      (subst (λ t. Goes bond_of count_of quiet_of shown_of beside_of s t) (sym same) (subst (λ t. Goes bond_of count_of quiet_of shown_of beside_of t held) begins goes)) more

  pub holds_for : (first : R → Chains → Type 0) (step : R → Chains → Entry → Chains) (legal : R → Chains → Entry → Type 0) (follows : R → List Entry → Entry → Type 0) (buries : R → Entry → std.Option ℕ) (names : R → Chains → Entry → List ℕ)
      (s began held : S) (n chains : ℕ) (x : Decision) (stop : std.Option Point) (in_hand : List Held) → began ≡ s → Goes bond_of count_of quiet_of shown_of beside_of began held
      → HasTaken (shown_of began) (shown_of held) x.footprint.now (chains_of in_hand) → IsOpen step legal follows buries (quiet_of held) (count_of held) chains stop in_hand (shown_of held)
      → IsDecidedBeside step legal follows buries names n (shown_of s) (beside_of s) x → IfSome (beside_of held) (Told first step legal follows (shown_of held))
      → HoldsFor first step legal follows buries names (shown_of s) (shown_of held) (beside_of s) (beside_of held) n x (chains_of in_hand)
  holds_for first step legal follows buries names s began held n chains x stop in_hand begins goes taken opened decided told = record {
    taken = subst (λ t. HasTaken (shown_of t) (shown_of held) x.footprint.now (chains_of in_hand)) begins taken;
    beside = (subst (λ t. Goes bond_of count_of quiet_of shown_of beside_of t held) begins goes).beside;
    decided = decided;
    told = told;
    able = opened.able;
    unplanned = opened.unplanned;
  }

module _ {R : Type 0} (first : R → Chains → Type 0) (step : R → Chains → Entry → Chains) (legal : R → Chains → Entry → Type 0) (follows : R → List Entry → Entry → Type 0) (buries : R → Entry → std.Option ℕ) (names : R → Chains → Entry → List ℕ)
    (v w : Shown R) (o p : std.Option (Beside R)) (n : ℕ) (x : Decision) (hand : Numbered) (h : HoldsFor first step legal follows buries names v w o p n x hand) where
  abbrev t : HasTaken v w x.footprint.now hand
  t = h.taken

  abbrev d : IsDecidedBeside step legal follows buries names n v o x
  d = h.decided

  now : (b : Beside R) × (p ≡ std.Some b) × (b.journal ≡ d.b.journal)
  now = told_still v w o p d.b x.footprint.now hand t h.beside d.told

  told : Told first step legal follows w now.0
  told = subst (λ (q : std.Option (Beside R)). IfSome q (Told first step legal follows w)) now.1 h.told

  -- the chain that has the record is in hand
  pub asked_held : (y : Pairs) × (look (asked_chain n x) hand ≡ some y)
  asked_held = has_found (asked_chain n x) hand (ap (λ (cs : List ℕ). has (asked_chain n x) cs) t.numbered ∙ d.by.asked)

  same_made : replay step w now.0.journal ≡ replay step v d.b.journal
  same_made = λ j. fold (step (t.same.rule j)) (t.same.first j) (now.2 j)

  -- what is in hand decides as the chains do
  pub chosen_is : choice_of (is_in x (chain_in (asked_chain n x) hand)) x ≡ chosen n (replay step v d.b.journal) x
  chosen_is = let c = asked_chain n x in let y = asked_held in
      let there : chain_at (replay step v d.b.journal) c ≡ y.0 = place_is (replay step v d.b.journal) c y.0 [] (ap (λ (k : Chains). get_elem? k c) (sym same_made) ∙ told.held h.able.lives h.unplanned c y.0 (ap (λ (k : Numbered). look c k) t.held ∙ y.1)) in
      ap (λ (z : Pairs). choice_of (is_in x z) x) (ap (λ (z : Option Pairs). or_else z []) y.1 ∙ sym there)

  -- the changes are of chains in hand
  pub changes_held : (choice : Choice) → choice ≡ choice_of (is_in x (chain_in (asked_chain n x) hand)) x → AreHeld n (numbers hand) choice.changes.now
  changes_held choice choice_is = subst (λ (cs : List ℕ). AreHeld n cs choice.changes.now) (sym t.numbered) (subst (λ (c : Choice). AreHeld n x.footprint.now c.changes.now) (sym (choice_is ∙ chosen_is)) d.by.decided.changed)

  -- so the entry may be finished
  pub finishes : ((r : R) → Lawful (first r) (step r) (legal r) (names r) (follows r)) → (choice : Choice) (is_quiet : Type 0) (count chains : ℕ) (stop : std.Option Point) (in_hand : List Held)
      → choice ≡ choice_of (is_in x (chain_in (asked_chain n x) hand)) x
      → IsOpen step legal follows buries is_quiet count chains stop in_hand w → chains_of in_hand ≡ with_changes n choice.changes.now hand
      → MayFinish step legal follows buries names (chains_of in_hand) w (next_entry w choice.event)
  finishes lawful choice is_quiet count chains stop in_hand choice_is opened changed =
      let decided : IsDecided step legal follows buries names n v.rule (replay step v d.b.journal) v.own x.footprint.now choice.changes.now (next_entry v choice.event) =
      subst (λ (c : Choice). IsDecided step legal follows buries names n v.rule (replay step v d.b.journal) v.own x.footprint.now c.changes.now (next_entry v c.event)) (sym (choice_is ∙ chosen_is)) d.by.decided in
      may_finish first step legal follows buries names lawful w (next_entry w choice.event) now.0 n x.footprint.now choice.changes.now (chains_of in_hand) refl told h.able.lives h.unplanned
      opened.law opened.rising opened.parts (ap numbers t.held ∙ t.numbered) (decided_still first step legal follows buries names v w d.b.journal now.0.journal n x.footprint.now choice.changes.now hand choice.event t now.2 decided)
      (changed ∙ ap (λ (k : Numbered). with_changes n choice.changes.now k) (sym t.held))

  -- and what it leaves is as it was decided
  pub left_is : (u : Shown R) (choice : Choice) → choice ≡ choice_of (is_in x (chain_in (asked_chain n x) hand)) x → HasLeft v u (next_entry w choice.event ∷ [])
      → IfSome o (λ b. HasLeft v u (next_entry v (chosen n (replay step v b.journal) x).event ∷ []))
  left_is u choice choice_is left =
      let s = t.same in let own : w.own ≡ v.own = s.own ∙ append-nil v.own in
      let entry : next_entry w choice.event ≡ next_entry v (chosen n (replay step v d.b.journal) x).event = λ j. record { by = s.number j; seq = length (own j) + 1; what = ((choice_is ∙ chosen_is) j).event } in
      subst (λ (q : std.Option (Beside R)). IfSome q (λ b. HasLeft v u (next_entry v (chosen n (replay step v b.journal) x).event ∷ []))) (sym d.told)
      (subst (λ (e : Entry). HasLeft v u (e ∷ [])) entry left)

  -- where it is finished from what is shown still, by a transaction that was to die nowhere
  pub done_is : (u z : Shown R) (choice : Choice) (stop : std.Option Point) (changes : Numbered) (place : ℕ) → choice ≡ choice_of (is_in x (chain_in (asked_chain n x) hand)) x → u ≡ w → stop ≡ std.None
      → Finished step legal follows buries stop changes u z (next_entry u choice.event) (finish.Done place)
      → IfSome o (λ b. HasLeft v z (next_entry v (chosen n (replay step v b.journal) x).event ∷ []))
  done_is u z choice stop changes place choice_is same never finished =
      left_is z choice choice_is
      (done_left step legal follows buries changes x.footprint.now hand v w z (next_entry w choice.event) place t h.able
      (subst (λ y. Finished step legal follows buries y changes w z (next_entry w choice.event) (finish.Done place)) never
      (subst (λ y. Finished step legal follows buries stop changes y z (next_entry y choice.event) (finish.Done place)) same finished)))

  pub undone_is : (u z : Shown R) (stop : std.Option Point) (changes : Numbered) (what : Event) (r : Finish) → u ≡ w → stop ≡ std.None → ((place : ℕ) → r ≡ finish.Done place → ⊥)
      → Finished step legal follows buries stop changes u z (next_entry u what) r → HasLeft v z []
  undone_is u z stop changes what r same never bare finished =
      let end : Finished step legal follows buries std.None changes w z (next_entry w what) r =
      subst (λ y. Finished step legal follows buries y changes w z (next_entry w what) r) never (subst (λ y. Finished step legal follows buries stop changes y z (next_entry y what) r) same finished) in
      undone_left step legal follows buries changes x.footprint.now hand v w z (next_entry w what) r t h.able end (only_done step legal follows buries changes w z (next_entry w what) r end bare)
