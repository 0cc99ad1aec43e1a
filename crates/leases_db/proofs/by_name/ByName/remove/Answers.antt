use Rattle.std.proofs.Common.{ap, sym, ◌∙◌}
use Rattle.std.specs.FinMap as map
use Rattle.leases_db.proofs.Maps.{get_is, removed}
use Rattle.leases_db.proofs.by_name.ByName.remove.Goals as goal

pub returns-clause-record_of_name : goal.returns-clause-record_of_name
returns-clause-record_of_name g c = c.remove.ensures.value ∙ sym (get_is c.self.inside.records.entries c.args.name) ∙ ap (λ m. map.get m c.args.name) c.self.view_is

pub returns-clause-others : goal.returns-clause-others
returns-clause-others g c = removed c.self.inside.records.entries c.remove.new.self.entries c.args.name c.remove.ensures.updates.0 ∙ ap (λ m. map.remove m c.args.name) c.self.view_is
