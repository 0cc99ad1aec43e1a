use Rattle.std.proofs.Common.{◌≡◌, filter, take}
use Rattle.std.specs.List.{flat_map}
use Rattle.serial_table.specs.View.{has_name}
use Rattle.serial_table.proofs.expire.named.Given as goal

abbrev pub invariant-loop-name : goal.invariant-loop-name
invariant-loop-name l = l.rows.items ≡ flat_map (λ name. filter (has_name name) l.leases) (take l.name-index l.names)
