use Rattle.std.specs.Prelude.{slice_set}
use Rattle.std.proofs.Common.{◌∙◌}
use Rattle.by_hand.proofs.Row.{first_is}
use Rattle.by_hand.proofs.begin.first_by_hand.Goals as goal

pub returns : goal.returns
returns c = (λ j. slice_set (slice_set (slice_set (c.in_ok-chains.ensures j) 37 (c.in_ok-chains-2.ensures j)) 38 (c.in_ok-chains-3.ensures j)) 39 (c.in_ok-chains-4.ensures j)) ∙ first_is
