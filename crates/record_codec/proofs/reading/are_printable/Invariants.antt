use Rattle.std.proofs.Common.{◌≡◌, length}
use Rattle.std.specs.List.{list_all}
use Rattle.record_codec.specs.Fields.{is_printable}
use Rattle.record_codec.proofs.reading.are_printable.Given as goal

abbrev pub invariant-fours : goal.invariant-fours
invariant-fours l = list_all is_printable l.rest ≡ list_all is_printable l.bytes

abbrev pub decreases-fours : goal.decreases-fours
decreases-fours l = length l.rest
