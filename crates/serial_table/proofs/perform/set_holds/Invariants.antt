use Rattle.std.proofs.Common.{◌≡◌, ◌++◌, map, take, drop}
use Rattle.serial_table.specs.Change.{set_hold}
use Rattle.serial_table.proofs.perform.set_holds.Given as goal

abbrev pub invariant-loop-hold : goal.invariant-loop-hold
invariant-loop-hold l = l.hold-items ≡ map (set_hold l.key l.owner l.mode) (take l.hold-index l.initial.hold-items) ++ drop l.hold-index l.initial.hold-items
