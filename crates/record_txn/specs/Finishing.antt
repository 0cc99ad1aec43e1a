-- What a pass shows when its transaction is finished.
use Rattle.std.specs.Prelude.{◌≡◌, ℕ, ◌+◌, ◌<◌, Bool, true, false, List, [], ◌∷◌, ◌++◌, length, Option, Some, None}
use mathlib.Core.Option.{some}
use Rattle.sid_core.specs.declared.entry.Entry.{Entry}
use Rattle.sid_core.specs.declared.entry.Event.{Event}
use Rattle.sid_core.specs.declared.outside.Point.{Point}
use Rattle.sid_core.specs.declared.outside.Point.TheVariants.{Take, Intent, Store, Release, Mourn}
use Rattle.chain_map.specs.Pairs.{Pairs}
use Rattle.turn_types.specs.Journal.{Chains, has}
use Rattle.turn_types.specs.Shown.{Shown, Numbered, Nothing, Made, Committed, IsPart, replay, look, knows_dead, due, hold, left_over}
use Rattle.turn_types.specs.Calls.{Prefix, Lawfully}
use Rattle.record_txn.specs.Moves.{changed, HasGivenAll}
use Rattle.record_txn.specs.declared.finish.Finish.{Finish}
use Rattle.record_txn.specs.declared.finish.Finish.TheVariants as finish

-- the pass's next entry
abbrev pub next_entry : {R : Type 0} → Shown R → Event → Entry
next_entry v what = record { by = v.number; seq = length v.own + 1; what = what }

module _ {R : Type 0} (step : R → Chains → Entry → Chains) (legal : R → Chains → Entry → Type 0) (follows : R → List Entry → Entry → Type 0) (buries : R → Entry → Option ℕ) where
  -- What a transaction needs to be finished by this entry, where these are its chains, as it has them.
  pub record MayFinish (names : R → Chains → Entry → List ℕ) (chains : Numbered) (v : Shown R) (e : Entry) : Type 0 where
    pub some_held : 0 < length v.held
    pub follows_own : follows v.rule v.own e
    -- its step is legal, all chains that it names are held, and it makes of the held chains what the transaction has
    pub may : legal v.rule (replay step v v.seen) e
    pub has_all : (c : ℕ) → has c (names v.rule (replay step v v.seen) e) ≡ true → (y : Pairs) × (look c v.held ≡ some y)
    pub makes : IsPart chains (step v.rule (replay step v v.seen) e)
    -- a pass that it buries is another one, known as dead
    pub buried : (d : ℕ) → buries v.rule e ≡ Some d → (d ≡ v.number → ⊥) × (knows_dead d v ≡ true)

  -- The journal gained the entry at this place, and so did the pass's own entries. All held chains were their parts of what
  -- the entries before it make.
  pub record IsEntered (changes : Numbered) (v w : Shown R) (e : Entry) (place : ℕ) : Type 0 where
    pub before : List Entry
    pub old : Prefix v.seen before
    pub at : place ≡ length before
    pub shown : w ≡ record v { seen = before ++ e ∷ []; own = v.own ++ e ∷ []; plan = Committed changes; looked = w.looked; done = w.done }
    pub was : IsPart v.held (replay step v before)
    pub law : Lawfully step legal follows buries w

-- how far a pass goes, once it has committed, before it dies
module _ {R : Type 0} (v w : Shown R) where
  -- it stored the last of the chains that were due
  pub record StoredFirst : Type 0 where
    pub left : Numbered
    pub number : ℕ
    pub chain : Pairs
    pub due_before : due v.plan ≡ left ++ (number, chain) ∷ []
    pub shown : w ≡ record v { held = hold number chain v.held; plan = Committed left; looked = w.looked; done = w.done }

  -- it stored all of them, and gave the lowest chain back
  pub record GaveFirst : Type 0 where
    pub number : ℕ
    pub chain : Pairs
    pub left : Numbered
    pub stored : changed (due v.plan) v.held ≡ (number, chain) ∷ left
    pub shown : w ≡ record v { held = left; plan = left_over left (Committed []); looked = w.looked; done = w.done }

  -- where nothing is due there is no first store, and the next step is the first chain that is given back
  abbrev pub Reached : Point → Type 0
  Reached Store = (due v.plan ≡ [] → GaveFirst) × (0 < length (due v.plan) → StoredFirst)
  Reached Release = GaveFirst
  Reached _ = w ≡ v

abbrev pub DiedAt : {R : Type 0} → Shown R → Shown R → Point → Type 0
DiedAt {R} v w p = (u : Shown R) × Reached v u p × (w ≡ record u { alive = false; looked = w.looked })

-- of a pass that committed at this place
abbrev pub EndedAt : {R : Type 0} → Option Point → ℕ → Shown R → Shown R → Finish → Type 0
EndedAt stop place v w (finish.Done at) = (at ≡ place) × (stop ≡ None) × HasGivenAll v w
EndedAt stop place v w (finish.Died (Some at)) = (at ≡ place) × ((p : Point) × (stop ≡ Some p) × DiedAt v w p)
EndedAt stop place v w _ = ⊥

-- whether a pass dies before it commits
abbrev pub dies_early : Option Point → Bool
dies_early (Some Take) = true
dies_early (Some Intent) = true
dies_early (Some Mourn) = true
dies_early _ = false

-- whether there is an entry
abbrev pub has_entry : Finish → Bool
has_entry (finish.Done place) = true
has_entry (finish.Died (Some place)) = true
has_entry _ = false

-- the pass shows what it showed, holds nothing and has no plan, and may have seen more
pub record IsDropped {R : Type 0} (v w : Shown R) : Type 0 where
  pub seen : Prefix v.seen w.seen
  pub shown : w ≡ record v { held = []; plan = Nothing; seen = w.seen; looked = w.looked; done = w.done }

module _ {R : Type 0} (step : R → Chains → Entry → Chains) (legal : R → Chains → Entry → Type 0) (follows : R → List Entry → Entry → Type 0) (buries : R → Entry → Option ℕ) where
  -- The stop, what was changed, the entry, and what the pass showed before and shows now.
  module _ (stop : Option Point) (changes : Numbered) (v w : Shown R) (e : Entry) where
    abbrev pub Finished : Finish → Type 0
    Finished (finish.Done place) = (stop ≡ None) × ((u : Shown R) × IsEntered step legal follows buries changes v u e place × HasGivenAll u w)
    Finished (finish.Died None) = (dies_early stop ≡ true) × (w ≡ record v { alive = false; plan = Made changes; looked = w.looked; done = w.done })
    Finished (finish.Died (Some place)) = (dies_early stop ≡ false) × ((p : Point) × (stop ≡ Some p) × ((u : Shown R) × IsEntered step legal follows buries changes v u e place × DiedAt u w p))
    Finished finish.OutOfMemory = IsDropped v w
    Finished (finish.Busy h) = (h ≡ v.number → ⊥) × IsDropped v w
