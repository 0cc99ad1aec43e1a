-- How far a pass is with adding one to a chain and to the next.
use Rattle.std.specs.Prelude.{◌≡◌, ℕ, ◌+◌, List, [], ◌∷◌, ◌++◌, length}
use Rattle.chain_map.specs.Pairs.{Pairs}
use Rattle.sid_core.specs.declared.entry.Entry.{Entry}
use Rattle.sid_core.specs.declared.entry.Event.TheVariants.{Tidied}
use Rattle.turn_types.specs.Journal.{Chains}
use Rattle.turn_types.specs.Shown.{Shown, Numbered, IsPart, replay, Nothing, Made, Committed}
use Rattle.turn_types.specs.Calls.{Able, Prefix}
use Rattle.tests.specs.Counting.{added, counted}
use Rattle.tests.specs.declared.adding.Stage.{Stage}
use Rattle.tests.specs.declared.adding.Stage.TheVariants as stage

abbrev pub two : ℕ → Pairs → Pairs → Numbered
two c low high = (c, low) ∷ (c + 1, high) ∷ []

abbrev pub rule_step : {R : Type 0} → R → Chains → Entry → Chains
rule_step r k e = added k e

-- the pass's next entry
abbrev pub next_entry : {R : Type 0} → Shown R → ℕ → Entry
next_entry v c = record { by = v.number; seq = length v.own + 1; what = Tidied c }

-- nothing was committed since
pub record Before {R : Type 0} (v w : Shown R) : Type 0 where
  pub able : Able w
  pub number : w.number ≡ v.number
  pub seen : Prefix v.seen w.seen
  pub own : w.own ≡ v.own

-- The journal gained the entry at this place. Both chains were their parts of what the entries before it make, and what is
-- stored are their parts of what it makes.
pub record Placed {R : Type 0} (v w : Shown R) (c place : ℕ) (low high : Pairs) : Type 0 where
  pub able : Able w
  pub number : w.number ≡ v.number
  pub before : List Entry
  pub old : Prefix v.seen before
  pub seen : w.seen ≡ before ++ next_entry v c ∷ []
  pub at : place ≡ length before
  pub own : w.own ≡ v.own ++ next_entry v c ∷ []
  pub was : IsPart (two c low high) (replay rule_step w before)
  pub becomes : IsPart (two c (counted low) (counted high)) (replay rule_step w w.seen)

abbrev pub At : {R : Type 0} → Shown R → ℕ → Stage → Shown R → Type 0
At v c stage.Idle w = Before v w × (w.held ≡ []) × (w.plan ≡ Nothing)
At v c stage.TookOne w = Before v w × ((y : Pairs) × (w.held ≡ (c, y) ∷ [])) × (w.plan ≡ Nothing)
At v c stage.TookBoth w = Before v w × ((y z : Pairs) × (w.held ≡ two c y z)) × (w.plan ≡ Nothing)
At v c (stage.ReadOne low) w = Before v w × ((z : Pairs) × (w.held ≡ two c low z)) × (w.plan ≡ Nothing)
At v c (stage.ReadBoth low high) w = Before v w × (w.held ≡ two c low high) × (w.plan ≡ Nothing) × IsPart w.held (replay rule_step w w.seen)
At v c stage.Planned w = Before v w × ((y z : Pairs) × (w.held ≡ two c y z) × (w.plan ≡ Made (two c (counted y) (counted z)))) × IsPart w.held (replay rule_step w w.seen)
At v c (stage.Committed place) w = (y z : Pairs) × Placed v w c place y z × (w.held ≡ two c y z) × (w.plan ≡ Committed (two c (counted y) (counted z)))
At v c (stage.StoredOne place) w = (y z : Pairs) × Placed v w c place y z × (w.held ≡ two c y (counted z)) × (w.plan ≡ Committed ((c, counted y) ∷ []))
At v c (stage.StoredBoth place) w = (y z : Pairs) × Placed v w c place y z × (w.held ≡ two c (counted y) (counted z)) × (w.plan ≡ Committed [])
At v c (stage.GaveOne place) w = (y z : Pairs) × Placed v w c place y z × (w.held ≡ (c + 1, counted z) ∷ []) × (w.plan ≡ Committed [])
At v c (stage.Done place) w = (y z : Pairs) × Placed v w c place y z × (w.held ≡ []) × (w.plan ≡ Nothing)
