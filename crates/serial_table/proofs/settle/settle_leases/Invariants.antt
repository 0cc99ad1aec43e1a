use Rattle.std.proofs.Common.{◌≡◌, ◌++◌, map, take, drop}
use Rattle.serial_table.specs.InPlace.{in_scope, lives_by, lease_ends_break}
use Rattle.serial_table.proofs.settle.settle_leases.Given as goal

abbrev pub invariant-loop-lease : goal.invariant-loop-lease
invariant-loop-lease l =
    l.lease-items ≡ map (lease_ends_break (in_scope l.scope) l.opens (lives_by l.workers)) (take l.lease-index l.initial.lease-items) ++ drop l.lease-index l.initial.lease-items
