use Rattle.std.proofs.Common.{List, length, ap, arith}
use Rattle.sid_core.specs.declared.entry.Entry.{Entry}
use Rattle.tests.proofs.Waits.{waits_at}
use Rattle.tests.proofs.passes.counts.Goals as goal

pub add_by-requires-clause-few : goal.add_by-requires-clause-few
add_by-requires-clause-few c = let cells = c.args.cells.now in let n = c.args.pass in let six = c.requires.waiting.1 in let w = waits_at cells n n c.requires.waiting.0 (omega arith) six in
    let o = ap (λ (es : List Entry). length es) w.own in omega arith

pub add_by-requires-clause-idle : goal.add_by-requires-clause-idle
add_by-requires-clause-idle c = let cells = c.args.cells.now in let n = c.args.pass in let six = c.requires.waiting.1 in let w = waits_at cells n n c.requires.waiting.0 (omega arith) six in
    (w.able, w.held, w.plan)
