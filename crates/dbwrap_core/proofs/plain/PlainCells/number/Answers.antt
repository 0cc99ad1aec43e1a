use Rattle.std.proofs.Common.{sym, ap}
use Rattle.turn_types.specs.Shown.{Shown}
use Rattle.dbwrap_core.proofs.Lists as lists
use Rattle.dbwrap_core.proofs.Showing as show
use Rattle.dbwrap_core.proofs.plain.PlainCells.number.Goals as goal

pub returns : goal.returns
returns g c =
    let cells = c.args.self.now in let p = lists.there cells.passes.items c.args.pass c.requires in
    sym (ap (λ (v : Shown g.row.R.Denot). v.number) (show.shown_is cells c.args.pass p.0 p.1))
