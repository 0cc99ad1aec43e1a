use Rattle.dbwrap_core.proofs.Quietly.{kept}
use Rattle.dbwrap_core.proofs.seat.PlainSeatCells.is_dead.Goals as goal

pub returns-clause-quiet : goal.returns-clause-quiet
returns-clause-quiet g c = kept c.args.self.now.cells.now c.is_dead.new.self c.args.self.now.pass c.args.self.now.here c.is_dead.ensures.still
