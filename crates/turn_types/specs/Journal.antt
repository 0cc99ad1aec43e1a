-- Chains, and what a journal of entries makes of them by a rule.
use Rattle.std.specs.Prelude.{◌≡◌, ℕ, ◌+◌, ◌<◌, ◌≤◌, Bool, true, false, cond, eqb, List, [], ◌∷◌, length, take, fold, filter}
use mathlib.Core.Option.{some}
use lib.ListN.{get_elem?}
use Rattle.sid_core.specs.declared.entry.Entry.{Entry}
use Rattle.chain_map.specs.Pairs.{Pairs}

abbrev pub Chains : Type 0
Chains = List Pairs

-- the entries of one pass, in order
abbrev pub of_pass : ℕ → List Entry → List Entry
of_pass n journal = filter (λ (e : Entry). eqb e.by n) journal

-- c stands in the list
abbrev pub has : ℕ → List ℕ → Bool
has c [] = false
has c (x ∷ xs) = cond (eqb x c) true (has c xs)

-- each number is at least n and below m, and below those after it
abbrev pub RiseWithin : ℕ → ℕ → List ℕ → Type 0
RiseWithin n m [] = Unit {0}
RiseWithin n m (x ∷ xs) = (n ≤ x) × (x < m) × RiseWithin (x + 1) m xs

-- two lists of chains are the same at the numbers of the list
abbrev pub Agree : List ℕ → Chains → Chains → Type 0
Agree cs k l = (c : ℕ) → has c cs ≡ true → get_elem? k c ≡ get_elem? l c

module _ (step : Chains → Entry → Chains) (legal : Chains → Entry → Type 0) (follows : List Entry → Entry → Type 0) where
  -- each entry is legal at its place, and follows the earlier ones of its pass
  abbrev pub Legal : Chains → List Entry → Type 0
  Legal k journal = (i : ℕ) (e : Entry) → get_elem? journal i ≡ some e
      → legal (fold step k (take i journal)) e × follows (of_pass e.by (take i journal)) e

  -- k is what a legal journal makes of some first chains
  abbrev pub Reached : (Chains → Type 0) → Chains → Type 0
  Reached first k = (k0 : Chains) × (journal : List Entry) × first k0 × Legal k0 journal × (k ≡ fold step k0 journal)

  -- and the entry follows the earlier ones of its pass
  abbrev pub ReachedBefore : (Chains → Type 0) → Entry → Chains → Type 0
  ReachedBefore first e k = (k0 : Chains) × (journal : List Entry) × first k0 × Legal k0 journal × follows (of_pass e.by journal) e × (k ≡ fold step k0 journal)

-- none of the entries names the chain
module _ (step : Chains → Entry → Chains) (names : Chains → Entry → List ℕ) (c : ℕ) where
  abbrev pub IsUntouched : Chains → List Entry → Type 0
  IsUntouched k [] = Unit {0}
  IsUntouched k (e ∷ journal) = (has c (names k e) ≡ false) × IsUntouched (step k e) journal

-- The law of a rule, over the chains that legal journals make of first ones.
module _ (first : Chains → Type 0) (step : Chains → Entry → Chains) (legal : Chains → Entry → Type 0) (names : Chains → Entry → List ℕ) (follows : List Entry → Entry → Type 0) where
  pub record Lawful : Type 0 where
    -- what an entry names, and whether it is legal, depends on the named chains alone
    pub local : (k l : Chains) (e : Entry) → Reached step legal follows first k → Reached step legal follows first l → length k ≡ length l → Agree (names k e) k l
        → (names l e ≡ names k e) × (legal k e → legal l e)
    -- so does what a legal step makes, where the entry follows the earlier ones of its pass
    pub made : (k l : Chains) (e : Entry) → ReachedBefore step legal follows first e k → ReachedBefore step legal follows first e l → length k ≡ length l → Agree (names k e) k l
        → legal k e → Agree (names k e) (step k e) (step l e)
    -- a legal step changes the named chains alone
    pub frame : (k : Chains) (e : Entry) → Reached step legal follows first k → legal k e
        → (length (step k e) ≡ length k) × ((c : ℕ) → has c (names k e) ≡ false → get_elem? (step k e) c ≡ get_elem? k c)
    pub named : (k : Chains) (e : Entry) → Reached step legal follows first k → legal k e → RiseWithin 0 (length k) (names k e)

pub record Single (first : Chains → Type 0) (legal : Chains → Entry → Type 0) (follows : List Entry → Entry → Type 0) : Type 0 where
  pub first_is : (k : Chains) → IsProp (first k)
  pub legal_is : (k : Chains) (e : Entry) → IsProp (legal k e)
  pub follows_is : (journal : List Entry) (e : Entry) → IsProp (follows journal e)
