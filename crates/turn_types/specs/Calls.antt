-- What each call makes of what its pass shows.
use Rattle.std.specs.Prelude.{◌≡◌, ℕ, ◌+◌, ◌<◌, ◌≤◌, ◌^◌, Bool, true, false, List, [], ◌∷◌, ◌++◌, length, slice_set, Option, Some, None}
use mathlib.Core.Option.{some}
use lib.ListN.{get_elem?}
use Rattle.chain_map.specs.Pairs.{Pairs}
use Rattle.sid_core.specs.declared.entry.Entry.{Entry}
use Rattle.turn_types.specs.Journal.{Chains, Legal, of_pass, has}
use Rattle.turn_types.specs.Shown.{Shown, Numbered, Nothing, Made, Committed, knows_dead, knows_freed, look, or_else, hold, is_made, planned, due, left_over, replay, IsPart}
use Rattle.turn_types.specs.declared.looked.Looked.{Looked}
use Rattle.turn_types.specs.declared.answers.Take.{Take}
use Rattle.turn_types.specs.declared.answers.Take.TheVariants.{Taken, Busy, Orphan}

-- a pass that may make a call: it lives, and has not stopped in a recovery
pub record Able {R : Type 0} (v : Shown R) : Type 0 where
  pub lives : v.alive ≡ true
  pub recovers_none : v.recovering ≡ None

abbrev pub Prefix : List Entry → List Entry → Type 0
Prefix front whole = (rest : List Entry) × (whole ≡ front ++ rest)

-- a count of 64 bits stands still at its end
abbrev pub RoseBy : ℕ → ℕ → ℕ → Type 0
RoseBy n a b = (a + n < 2 ^ 64 → b ≡ a + n) × (a ≤ b)

-- a chain's word named pass h, whose status word was then s
abbrev pub saw_holder : ℕ → ℕ → ℕ → Looked
saw_holder c h s = record { chain = Some (c, h + 1); journal = None; status = Some (h, s) }

-- the journal's word named pass h
abbrev pub saw_writer : ℕ → Looked
saw_writer h = record { chain = None; journal = Some (h + 1); status = None }

-- the status word of pass n was s
abbrev pub saw_status : ℕ → ℕ → Looked
saw_status n s = record { chain = None; journal = None; status = Some (n, s) }

abbrev pub Tried : {R : Type 0} → ℕ → Shown R → Shown R → Take → Type 0
Tried c v w Taken = (y : Pairs) × (w ≡ record v { held = v.held ++ (c, y) ∷ []; looked = w.looked; taken = w.taken; done = w.done }) × RoseBy 1 v.taken w.taken × RoseBy 1 v.done w.done
Tried c v w (Busy h) = (h ≡ v.number → ⊥) × (w ≡ record v { looked = saw_holder c h 0 })
Tried c v w (Orphan h) = (h ≡ v.number → ⊥) × (knows_freed h v ≡ false) × (knows_dead h w ≡ true) × ((s : ℕ) × (0 < s) × (w ≡ record v { dead = slice_set v.dead h true; looked = saw_holder c h s }))

-- The law of the journal, of what a pass has seen.
module _ {R : Type 0} (step : R → Chains → Entry → Chains) (legal : R → Chains → Entry → Type 0) (follows : R → List Entry → Entry → Type 0) (buries : R → Entry → Option ℕ) where
  pub record Lawfully (v : Shown R) : Type 0 where
    -- it is legal, so that each entry follows the earlier ones of its pass
    pub is_legal : Legal (step v.rule) (legal v.rule) (follows v.rule) v.first v.seen
    -- its entries of this pass are the pass's own, each once
    pub own : of_pass v.number v.seen ≡ v.own
    -- it doesn't bury the pass
    pub unburied : (i : ℕ) (e : Entry) → get_elem? v.seen i ≡ some e → buries v.rule e ≡ Some v.number → ⊥

  -- the pass has read a held chain, and knows all that it holds as parts of what the journal makes
  pub record Learnt (c : ℕ) (v w : Shown R) (chain : Pairs) : Type 0 where
    pub shown : w ≡ record v { seen = w.seen; looked = w.looked }
    pub old : Prefix v.seen w.seen
    pub contents : look c w.held ≡ some chain
    pub parts : IsPart w.held (replay step w w.seen)
    pub law : Lawfully w

  -- all as before, but for what the pass has seen and looked at
  pub record Kept (v w : Shown R) : Type 0 where
    pub shown : w ≡ record v { seen = w.seen; looked = w.looked }
    pub old : Prefix v.seen w.seen
    pub law : Lawfully w

  -- What a pass needs to commit an entry.
  pub record Fits (names : R → Chains → Entry → List ℕ) (v : Shown R) (e : Entry) : Type 0 where
    pub made : is_made v.plan ≡ true
    -- the pass's next entry, which follows its own
    pub by_pass : e.by ≡ v.number
    pub next : e.seq ≡ length v.own + 1
    pub after_own : follows v.rule v.own e
    -- its step is legal, and all chains that it names are held
    pub may : legal v.rule (replay step v v.seen) e
    pub has_all : (c : ℕ) → has c (names v.rule (replay step v v.seen) e) ≡ true → (y : Pairs) × (look c v.held ≡ some y)
    -- the held chains are parts of what the journal makes, and the plan is what the step makes of them
    pub was : IsPart v.held (replay step v v.seen)
    pub will : (c : ℕ) (y : Pairs) → look c v.held ≡ some y → get_elem? (step v.rule (replay step v v.seen) e) c ≡ some (or_else (look c (planned v.plan)) y)
    -- a pass that it buries is another one, known as dead
    pub buried : (d : ℕ) → buries v.rule e ≡ Some d → (d ≡ v.number → ⊥) × (knows_dead d v ≡ true)

  -- The entry stands last in what the pass has seen.
  pub record Stands (v w : Shown R) (e : Entry) (place : ℕ) : Type 0 where
    pub before : List Entry
    pub old : Prefix v.seen before
    pub shown : w ≡ record v { seen = before ++ e ∷ []; own = v.own ++ e ∷ []; plan = Committed (planned v.plan); looked = w.looked; done = w.done }
    pub done : RoseBy 1 v.done w.done
    pub at : place ≡ length before
    pub was : IsPart v.held (replay step v before)
    pub law : Lawfully w

abbrev pub Planned : {R : Type 0} → Shown R → Shown R → Numbered → Type 0
Planned v w new = (w ≡ record v { plan = Made new; looked = w.looked; done = w.done }) × RoseBy 1 v.done w.done

abbrev pub Abandoned : {R : Type 0} → Shown R → Shown R → Type 0
Abandoned v w = w ≡ record v { plan = Nothing; looked = w.looked }

-- the last planned chain is stored first
abbrev pub Stored : {R : Type 0} → Shown R → Shown R → Option ℕ → Type 0
Stored v w None = (due v.plan ≡ []) × (w ≡ record v { looked = w.looked })
Stored v w (Some c) = (y : Pairs) × (xs : Numbered) × (v.plan ≡ Committed (xs ++ (c, y) ∷ []))
    × (w ≡ record v { plan = Committed xs; held = hold c y v.held; looked = w.looked; done = w.done }) × RoseBy 1 v.done w.done

-- the lowest held chain is given back first
abbrev pub Released : {R : Type 0} → Shown R → Shown R → Option ℕ → Type 0
Released v w None = (v.held ≡ []) × (w ≡ record v { looked = w.looked })
Released v w (Some c) = (y : Pairs) × (rest : Numbered) × (v.held ≡ (c, y) ∷ rest)
    × (w ≡ record v { held = rest; plan = left_over rest v.plan; looked = w.looked; done = w.done }) × RoseBy 1 v.done w.done

abbrev pub HasDied : {R : Type 0} → Shown R → Shown R → Type 0
HasDied v w = w ≡ record v { alive = false; looked = w.looked }

-- whether another pass is dead
abbrev pub Asked : {R : Type 0} → ℕ → Shown R → Shown R → Bool → Type 0
Asked other v w true = (knows_dead other w ≡ true) × ((s : ℕ) × (0 < s) × (w ≡ record v { dead = slice_set v.dead other true; looked = saw_status other s }))
Asked other v w false = w ≡ record v { looked = saw_status other 0 }
