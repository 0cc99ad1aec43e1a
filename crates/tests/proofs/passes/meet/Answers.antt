use Rattle.std.proofs.Common.{arith}
use Rattle.dbwrap_core.specs.Plain.{beside_of, shown_at}
use Rattle.tests.proofs.Waits.{waits_at, wait_on, behind}
use Rattle.tests.proofs.passes.meet.Goals as goal

pub take_by-requires-clause-able : goal.take_by-requires-clause-able
take_by-requires-clause-able c = let cells = c.args.cells.now in let n = c.args.pass in let six = c.requires.waiting.1 in let w = waits_at cells n n c.requires.waiting.0 (omega arith) six in
    w.able

pub take_by-requires-clause-chain : goal.take_by-requires-clause-chain
take_by-requires-clause-chain c = let cells = c.args.cells.now in let n = c.args.pass in let six = c.requires.waiting.1 in let w = waits_at cells n n c.requires.waiting.0 (omega arith) six in
    let two = c.requires.waiting.0.chains in (omega arith, w.held)

pub returns : goal.returns
returns c = let cells = c.args.cells.now in let n = c.args.pass in let six = c.requires.waiting.1 in let w = waits_at cells n n c.requires.waiting.0 (omega arith) six in
    record { waiting = wait_on (shown_at cells n) (shown_at c.take_by.new.cells n) (beside_of cells) (beside_of c.take_by.new.cells) n c.take_by.ensures.shows c.take_by.ensures.chains w.number (behind (beside_of cells) n c.requires.waiting.0) }
