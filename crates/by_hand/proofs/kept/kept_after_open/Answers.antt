use Rattle.std.specs.Prelude.{length}
use Rattle.std.proofs.Common.{ap, ◌∙◌}
use Rattle.turn_types.specs.Journal.{Chains}
use Rattle.by_hand.proofs.Row.{behind_open, open_long}
use Rattle.by_hand.proofs.kept.kept_after_open.Goals as goal

pub keep-requires-clause-seven : goal.keep-requires-clause-seven
keep-requires-clause-seven g c = ap (λ (k : Chains). length k) (c.in_ok-open_by_hand.ensures.opened.chains ∙ behind_open) ∙ open_long
