use Rattle.std.proofs.Common.{◌≡◌, length}
use Rattle.chain_map.specs.Marks.{no_marks}
use Rattle.chain_map.proofs.marks.are_clean.Given as goal

abbrev pub invariant-loop-mark : goal.invariant-loop-mark
invariant-loop-mark l = no_marks l.rest ≡ no_marks l.marks

abbrev pub decreases-loop-mark : goal.decreases-loop-mark
decreases-loop-mark l = length l.rest
