use Rattle.std.proofs.Common.{ap, sym, ◌∙◌}
use Rattle.std.specs.FinMap as map
use Rattle.leases_db.proofs.Maps.{get_is}
use Rattle.leases_db.proofs.by_name.ByName.get.Goals as goal

pub returns : goal.returns
returns g c = c.get.ensures.value ∙ sym (get_is c.self.inside.records.entries c.args.name) ∙ ap (λ m. map.get m c.args.name) c.self.view_is
