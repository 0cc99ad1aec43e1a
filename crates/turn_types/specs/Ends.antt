-- What a commit and a recovery make of what their pass shows.
use Rattle.std.specs.Prelude.{◌≡◌, ℕ, ◌+◌, ◌≤◌, true, List, Option, Some, slice_set}
use Rattle.sid_core.specs.declared.entry.Entry.{Entry}
use Rattle.turn_types.specs.Journal.{Chains}
use Rattle.turn_types.specs.Shown.{Shown, knows_freed}
use Rattle.turn_types.specs.Calls.{Stands, Kept, RoseBy, saw_writer, saw_status}
use Rattle.turn_types.specs.declared.answers.Commit.{Commit}
use Rattle.turn_types.specs.declared.answers.Commit.TheVariants.{Done, Busy, OutOfMemory}
use Rattle.turn_types.specs.declared.answers.Recover.{Recover}
use Rattle.turn_types.specs.declared.answers.Recover.TheVariants.{Freed, Other, Stopped}

abbrev pub Committing : {R : Type 0} → (R → Chains → Entry → Chains) → (R → Chains → Entry → Type 0) → (R → List Entry → Entry → Type 0) → (R → Entry → Option ℕ) → Shown R → Shown R → Entry → Commit → Type 0
Committing step legal follows buries v w e (Done place) = Stands step legal follows buries v w e place
Committing step legal follows buries v w e (Busy h) = Kept step legal follows buries v w × (h ≡ v.number → ⊥) × (w.looked ≡ saw_writer h)
Committing step legal follows buries v w e OutOfMemory = Kept step legal follows buries v w

-- Each step of a recovery stores a chain that was committed, or gives a chain back: two steps a chain at most.
module _ {R : Type 0} (d : ℕ) (stop : Option ℕ) (v w : Shown R) where
  pub record HasFreed : Type 0 where
    pub stored : ℕ
    pub freed : ℕ
    pub each_once : stored ≤ freed
    pub allowed : (n : ℕ) → stop ≡ Some n → stored + freed ≤ n
    pub shown : w ≡ record v { freed = slice_set v.freed d true; looked = w.looked; given_back = w.given_back; done = w.done }
    pub knows : knows_freed d w ≡ true
    pub given_back : RoseBy freed v.given_back w.given_back
    pub done : RoseBy (stored + freed) v.done w.done

  -- all steps that are allowed were done, and a chain's word still named the dead pass
  pub record HasStopped : Type 0 where
    pub stored : ℕ
    pub freed : ℕ
    pub allowed : stop ≡ Some (stored + freed)
    pub chain : ℕ
    pub saw : w.looked.chain ≡ Some (chain, d + 1)
    pub shown : w ≡ record v { recovering = Some d; looked = w.looked; given_back = w.given_back; done = w.done }
    pub given_back : RoseBy freed v.given_back w.given_back
    pub done : RoseBy (stored + freed) v.done w.done

  abbrev pub Recovered : Recover → Type 0
  Recovered Freed = HasFreed
  Recovered (Other by) = (by ≡ v.number → ⊥) × (w ≡ record v { looked = saw_status by 0 })
  Recovered Stopped = HasStopped
