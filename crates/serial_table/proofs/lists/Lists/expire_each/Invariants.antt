use Rattle.std.proofs.Common.{◌≡◌, map, take}
use Rattle.serial_table.specs.Change.{perform_all}
use Rattle.serial_table.specs.Expire.{expires}
use Rattle.serial_table.specs.InPlace.{table_of}
use Rattle.serial_table.proofs.lists.Lists.expire_each.Given as goal

abbrev pub invariant-loop-lease : goal.invariant-loop-lease
invariant-loop-lease l = table_of l.self ≡ perform_all (map expires (take l.lease-index l.leases)) (table_of l.fn.self)
