use Rattle.std.proofs.Common.{ap, sym, ◌∙◌}
use Rattle.std.specs.FinMap as map
use Rattle.server_ids.proofs.Maps.{get_is}
use Rattle.server_ids.proofs.by_pid.ByPid.get.Goals as goal

pub returns : goal.returns
returns g c = c.get.ensures.value ∙ sym (get_is c.self.inside.records.entries c.args.pid) ∙ ap (λ m. map.get m c.args.pid) c.self.view_is
