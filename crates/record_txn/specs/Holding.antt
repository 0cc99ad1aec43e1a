-- What a pass shows when its transaction holds one more chain, or has ended.
use Rattle.std.specs.Prelude.{◌≡◌, ℕ, ◌+◌, ◌≤◌, ◌⊎◌, Bool, true, false, ◌&&◌, List, [], ◌∷◌, ◌++◌, slice_set, Option, Some, None}
use Rattle.sid_core.specs.declared.entry.Entry.{Entry}
use Rattle.sid_core.specs.declared.outside.Point.{Point}
use Rattle.sid_core.specs.declared.outside.Point.TheVariants.{Take, Mourn}
use Rattle.chain_map.specs.Pairs.{Pairs}
use Rattle.turn_types.specs.Journal.{Chains}
use Rattle.turn_types.specs.Shown.{Shown, Numbered, Nothing, IsPart, replay, knows_dead, knows_freed}
use Rattle.turn_types.specs.Calls.{Prefix, RoseBy, Lawfully}
use Rattle.turn_types.specs.Ends.{HasFreed, HasStopped}
use Rattle.record_txn.specs.Moves.{HasGivenAll}
use Rattle.record_txn.specs.declared.hold.TxnEnd.{TxnEnd}
use Rattle.record_txn.specs.declared.hold.TxnEnd.TheVariants as ends

abbrev pub is_take : Option Point → Bool
is_take (Some Take) = true
is_take _ = false

abbrev pub is_none : Numbered → Bool
is_none [] = true
is_none (x ∷ held) = false

-- a pass dies when its transaction takes its first chain
abbrev pub dies_at_first : Option Point → Numbered → Bool
dies_at_first stop held = is_take stop && is_none held

-- how many steps a recovery may do, where not all
abbrev pub most_steps : Option Point → Option ℕ
most_steps (Some Mourn) = Some 1
most_steps _ = None

-- one more chain is held, and was read
module _ {R : Type 0} (step : R → Chains → Entry → Chains) (legal : R → Chains → Entry → Type 0) (follows : R → List Entry → Entry → Type 0) (buries : R → Entry → Option ℕ) where
  pub record Holds (c : ℕ) (v w : Shown R) (chain : Pairs) : Type 0 where
    pub shown : w ≡ record v { held = v.held ++ (c, chain) ∷ []; seen = w.seen; looked = w.looked; taken = w.taken; done = w.done }
    pub seen : Prefix v.seen w.seen
    pub taken : RoseBy 1 v.taken w.taken
    -- what is held are parts of what the journal makes, as far as it was seen, and its law holds
    pub parts : IsPart w.held (replay step w w.seen)
    pub law : Lawfully step legal follows buries w

module _ {R : Type 0} (v w : Shown R) where
  -- the pass died holding the chain, and hadn't read it
  pub record DiedTaking (c : ℕ) : Type 0 where
    pub chain : Pairs
    pub shown : w ≡ record v { alive = false; held = v.held ++ (c, chain) ∷ []; looked = w.looked; taken = w.taken; done = w.done }
    pub taken : RoseBy 1 v.taken w.taken

  -- the pass died in the recovery of another one, after the one step that it was allowed
  pub record DiedRecovering : Type 0 where
    pub dead : ℕ
    pub other : dead ≡ v.number → ⊥
    pub unknown : knows_freed dead v ≡ false
    pub shown : w ≡ record v { alive = false; dead = slice_set v.dead dead true; recovering = Some dead; looked = w.looked; given_back = w.given_back; done = w.done }
    pub done : RoseBy 1 v.done w.done

  -- the chain was an orphan of this pass, which is known as freed now and wasn't before, and nothing is held
  pub record HasMet (stop : Option Point) (dead : ℕ) : Type 0 where
    pub other : dead ≡ v.number → ⊥
    pub unknown : knows_freed dead v ≡ false
    pub known : (knows_dead dead w ≡ true) × (knows_freed dead w ≡ true)
    pub stored : ℕ
    pub freed : ℕ
    pub allowed : (n : ℕ) → most_steps stop ≡ Some n → stored + freed ≤ n
    pub shown : w ≡ record v { held = []; plan = Nothing; dead = slice_set v.dead dead true; freed = slice_set v.freed dead true; looked = w.looked; given_back = w.given_back; done = w.done }
    pub given_back : RoseBy freed v.given_back w.given_back

  -- Nothing is held, and nothing changed but for what the pass has seen. Where the pass would have died at its first chain,
  -- it took none.
  pub record RanOut (stop : Option Point) : Type 0 where
    pub shown : w ≡ record v { held = []; plan = Nothing; seen = w.seen; looked = w.looked; taken = w.taken; done = w.done }
    pub seen : Prefix v.seen w.seen
    pub untaken : dies_at_first stop v.held ≡ true → w.taken ≡ v.taken

  abbrev pub Ended : ℕ → Option Point → TxnEnd → Type 0
  Ended c stop ends.Died = ((dies_at_first stop v.held ≡ true) × DiedTaking c) ⊎ ((most_steps stop ≡ Some 1) × DiedRecovering)
  Ended c stop (ends.Met dead) = HasMet stop dead
  Ended c stop ends.OutOfMemory = RanOut stop

-- of a pass that knows the other one as dead
module _ {R : Type 0} (dead : ℕ) (stop : Option Point) (v w : Shown R) where
  abbrev pub EndsRecovery : TxnEnd → Type 0
  EndsRecovery ends.Died = (u : Shown R) × HasStopped dead (most_steps stop) v u × (w ≡ record u { alive = false; looked = w.looked })
  EndsRecovery (ends.Met d) = (d ≡ dead) × ((u : Shown R) × HasFreed dead (most_steps stop) v u × HasGivenAll u w)
  EndsRecovery ends.OutOfMemory = ⊥
