use Rattle.std.proofs.Common.{refl, ap, Some, ◌∙◌}
use Rattle.sid_core.specs.Words.{lease_state}
use Rattle.lease_breaks.specs.Breaks.{with_state}
use Rattle.lease_breaks.proofs.breaks.breaks_further.Goals as goal

pub returns : goal.returns
returns c = λ records name. record {
  post = refl;
  blocks = c.blocker-blocks.ensures;
  changes = c.set_breaking.ensures ∙ ap (λ n. with_state c.args.rec.now.held (Some (record c.args.breaking { needed = lease_state n })) c.args.rec.now) c.common_part-needed.ensures;
}
