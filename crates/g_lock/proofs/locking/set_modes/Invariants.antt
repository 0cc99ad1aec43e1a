use Rattle.std.proofs.Common.{◌≡◌, ◌++◌, map, take, drop}
use Rattle.g_lock.specs.Scans.{in_mode}
use Rattle.g_lock.proofs.locking.set_modes.Given as goal

abbrev pub invariant-loop-hold : goal.invariant-loop-hold
invariant-loop-hold l = l.hold-items ≡ map (in_mode l.sid l.mode) (take l.hold-index l.initial.hold-items) ++ drop l.hold-index l.initial.hold-items
