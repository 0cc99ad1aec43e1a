use Rattle.std.proofs.Common.{◌≡◌, ◌++◌, [], drop, reverse}
use Rattle.serial_table.specs.Break.{each_once}
use Rattle.serial_table.proofs.breaks.each_once.Given as goal

abbrev pub invariant-loop-name : goal.invariant-loop-name
invariant-loop-name l = l.names.items ++ each_once (reverse l.names.items) (drop l.name-index l.all) ≡ each_once [] l.all
