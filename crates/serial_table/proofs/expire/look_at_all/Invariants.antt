use Rattle.std.proofs.Common.{◌≡◌}
use Rattle.std.specs.List.{flat_map, range_with_len}
use Rattle.serial_table.specs.View.{view}
use Rattle.serial_table.specs.Expire.{names_at}
use Rattle.serial_table.proofs.expire.look_at_all.Given as goal

-- the names of the first files
abbrev pub invariant-loop-index : goal.invariant-loop-index
invariant-loop-index l = l.names.items ≡ flat_map (names_at (view l.table)) (range_with_len 1 l.index)
