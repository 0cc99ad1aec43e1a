use Rattle.std.proofs.Common.{◌≡◌, map, filter}
use Rattle.std.specs.List.{flat_map, range_with_len}
use Rattle.serial_table.specs.View.{view}
use Rattle.serial_table.specs.Decision.{spots_of}
use Rattle.serial_table.specs.Durable.{is_expired}
use Rattle.serial_table.specs.Scavenge.{goes, has_expired}
use Rattle.serial_table.proofs.scavenge.scavenge.Given as goal

-- what the first files come to
abbrev pub invariant-loop-index : goal.invariant-loop-index
invariant-loop-index l = record {
  changes : l.changes.items ≡ map goes (flat_map (λ file. filter (is_expired (view l.table) l.caller.moment) ((view l.table).opens_of file)) (range_with_len 1 l.index));
  spots : l.spots.items ≡ flat_map spots_of (filter (has_expired (view l.table) l.caller.moment) (range_with_len 1 l.index));
}
