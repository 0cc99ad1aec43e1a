use Rattle.dbwrap_core.proofs.Quietly.{kept}
use Rattle.dbwrap_core.proofs.seat.PlainSeatCells.plan.Goals as goal

pub returns-clause-quiet : goal.returns-clause-quiet
returns-clause-quiet g c = kept c.args.self.now.cells.now c.plan.new.self c.args.self.now.pass c.args.self.now.here c.plan.ensures.still
