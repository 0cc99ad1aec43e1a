use Rattle.std.proofs.Common.{◌≡◌, ◌≤◌, length}
use Rattle.std.specs.List.{AllByRecursion}
use Rattle.dbwrap_core.specs.Fresh.{Fresh}
use Rattle.dbwrap_core.proofs.start.fresh_passes.Given as goal

-- as many as were counted, all fresh
abbrev pub invariant-loop : goal.invariant-loop
invariant-loop l = (length l.made.items ≡ l.counter) × (l.counter ≤ l.passes) × AllByRecursion (λ p. Fresh l.passes p) l.made.items
