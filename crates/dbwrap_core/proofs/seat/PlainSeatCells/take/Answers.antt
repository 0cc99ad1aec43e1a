use Rattle.dbwrap_core.proofs.Quietly.{kept}
use Rattle.dbwrap_core.proofs.seat.PlainSeatCells.take.Goals as goal

pub returns-clause-quiet : goal.returns-clause-quiet
returns-clause-quiet g c = kept c.args.self.now.cells.now c.try_take.new.self c.args.self.now.pass c.args.self.now.here c.try_take.ensures.still c.requires.quiet
