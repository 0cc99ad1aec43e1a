use Rattle.std.proofs.Common.{ap, sym, ◌∙◌}
use Rattle.std.specs.FinMap as map
use Rattle.server_ids.proofs.Maps.{get_is, removed}
use Rattle.server_ids.proofs.by_pid.ByPid.remove.Goals as goal

pub returns-clause-record_of_pid : goal.returns-clause-record_of_pid
returns-clause-record_of_pid g c = c.remove.ensures.value ∙ sym (get_is c.self.inside.records.entries c.args.pid) ∙ ap (λ m. map.get m c.args.pid) c.self.view_is

pub returns-clause-others : goal.returns-clause-others
returns-clause-others g c = removed c.self.inside.records.entries c.remove.new.self.entries c.args.pid c.remove.ensures.updates.0 ∙ ap (λ m. map.remove m c.args.pid) c.self.view_is
