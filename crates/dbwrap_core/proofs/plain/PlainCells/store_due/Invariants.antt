use Rattle.std.proofs.Common.{◌≡◌, ℕ, ◌+◌, ◌≤◌, Some}
use Rattle.dbwrap_core.specs.Redone.{Redone, IsUnmade, left}
use Rattle.dbwrap_core.proofs.plain.PlainCells.store_due.Given as goal

-- the steps so far, and how many are left
abbrev pub invariant-loop-stored : goal.invariant-loop-stored
invariant-loop-stored g l = Redone l.fn.self l.self l.dead × IsUnmade l.self l.dead × (l.self.words.items ≡ l.fn.self.words.items) × (l.stored + left l.self l.dead ≡ left l.fn.self l.dead) × ((most : ℕ) → l.stop ≡ Some most → l.stored ≤ most)
