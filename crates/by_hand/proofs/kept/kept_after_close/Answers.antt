use Rattle.std.specs.Prelude.{length}
use Rattle.std.proofs.Common.{ap, sym, ◌∙◌}
use Rattle.turn_types.specs.Journal.{Chains}
use Rattle.by_hand.proofs.Row.{behind_none, behind_both, first_long}
use Rattle.by_hand.proofs.kept.kept_after_close.Goals as goal

pub keep-requires-clause-seven : goal.keep-requires-clause-seven
keep-requires-clause-seven g c = let is = c.in_ok-close_by_hand.ensures.closed c.in_ok-open_by_hand.ensures.opened in ap (λ (k : Chains). length k) (is.chains ∙ behind_both) ∙ first_long

pub returns : goal.returns
returns g c = let is = c.in_ok-close_by_hand.ensures.closed c.in_ok-open_by_hand.ensures.opened in c.keep.ensures ∙ (λ j. record { chains = 8; all = (is.chains ∙ behind_both ∙ sym behind_none) j; journal = is.journal j })
