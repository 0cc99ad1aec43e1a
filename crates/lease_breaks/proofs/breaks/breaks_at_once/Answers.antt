use Rattle.std.proofs.Common.{refl, ap, ◌∙◌}
use Rattle.server_ids.specs.Sessions.{registered}
use Rattle.lease_breaks.specs.Breaks.{settled}
use Rattle.lease_breaks.proofs.breaks.breaks_at_once.Goals as goal

pub returns : goal.returns
returns c = λ name. record { post = refl; blocks = refl; changes = c.settle.ensures.record ∙ ap (settled (registered c.args.register.now)) c.hold.ensures }
