use Rattle.std.proofs.Common.{◌<◌, subst}
use Rattle.dbwrap_core.proofs.Showing as show
use Rattle.dbwrap_core.proofs.plain.PlainCells.seat.Goals as goal

pub invariant_of-result : goal.invariant_of-result
invariant_of-result g c = let cells = c.args.self.now in
    record { here = subst (λ n. c.args.pass < n) (show.as_many cells.rule cells.first.value.items cells.chains.items cells.words.items cells.journal.items 0 cells.passes.items) c.requires }
