use Rattle.std.proofs.Common.{ap}
use Rattle.turn_types.specs.Shown.{Shown}
use Rattle.record_txn.proofs.Going.{goes_on, by_call}
use Rattle.record_txn.proofs.finish.drop_plan.Goals as goal

pub returns-clause-goes : goal.returns-clause-goes
returns-clause-goes g c = let it = g.C.Cells in let s = c.args.cells.now in let t = c.abandon.new.self in let e = c.abandon.ensures in
    goes_on it.bond it.chains it.quiet it.shown it.beside s t c.give_all_back.new.cells (by_call it.bond it.chains it.quiet it.shown it.beside s t e.bond e.quiet e.beside (ap (λ (v : Shown g.row.C-Rule.Denot). v.number) e.abandoned)) c.give_all_back.ensures.goes
