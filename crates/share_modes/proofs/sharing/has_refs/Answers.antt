use Rattle.std.proofs.Common.{not, ap, ◌∙◌}
use Rattle.share_modes.proofs.InTheWay.{some_refs}
use Rattle.share_modes.proofs.sharing.has_refs.Goals as goal

pub returns : goal.returns
returns c = ap not c.is_empty.ensures ∙ some_refs c.args.refs.now
