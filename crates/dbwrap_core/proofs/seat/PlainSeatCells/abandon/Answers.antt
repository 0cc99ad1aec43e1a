use Rattle.dbwrap_core.proofs.Quietly.{kept}
use Rattle.dbwrap_core.proofs.seat.PlainSeatCells.abandon.Goals as goal

pub returns-clause-quiet : goal.returns-clause-quiet
returns-clause-quiet g c = kept c.args.self.now.cells.now c.abandon.new.self c.args.self.now.pass c.args.self.now.here c.abandon.ensures.still
