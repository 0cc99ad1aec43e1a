use Rattle.std.proofs.Common.{ap, ◌∙◌}
use Rattle.std.specs.FinMap as map
use Rattle.leases_db.proofs.Maps.{inserted}
use Rattle.leases_db.proofs.by_name.ByName.put.Goals as goal

pub returns-clause-ok : goal.returns-clause-ok
returns-clause-ok g c = inserted c.self.inside.records.entries c.insert.new.self.entries c.args.name c.args.rec c.in_ok-insert.ensures.updates.0 ∙ ap (λ m. map.insert m c.args.name c.args.rec) c.self.view_is
