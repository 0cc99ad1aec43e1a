use Rattle.dbwrap_core.specs.Plain.{seat_tells, shown_at}
use Rattle.dbwrap_core.proofs.seat.PlainSeatCells.tell.Goals as goal

pub returns : goal.returns
returns g c = let s = c.args.self.now in let v = shown_at s.cells.now s.pass in let at = seat_tells s.cells.now s.pass s.here in let t = c.tell.ensures in record {
  began = (t.legal v.number v at).0;
  is_legal = (t.legal v.number v at).1;
  seen = (t.seen v.number v at).0;
  own = (t.seen v.number v at).1;
  held = t.held v.number v at;
}
