use Rattle.std.proofs.Common.{List, length, ap, ◌∙◌, arith}
use Rattle.dbwrap_core.specs.Plain.{beside_of, shown_at}
use Rattle.sid_core.specs.declared.entry.Entry.{Entry}
use Rattle.tests.proofs.Waits.{waits_at, wait_on, behind, able_at}
use Rattle.tests.proofs.passes.die_adding.Goals as goal

pub add_by-requires-clause-few : goal.add_by-requires-clause-few
add_by-requires-clause-few c = let cells = c.args.cells.now in let n = c.args.pass in let six = c.requires.waiting.1 in let w = waits_at cells n n c.requires.waiting.0 (omega arith) six in
    let o = ap (λ (es : List Entry). length es) w.own in omega arith

pub add_by-requires-clause-idle : goal.add_by-requires-clause-idle
add_by-requires-clause-idle c = let cells = c.args.cells.now in let n = c.args.pass in let six = c.requires.waiting.1 in let w = waits_at cells n n c.requires.waiting.0 (omega arith) six in
    (w.able, w.held, w.plan)

pub returns : goal.returns
returns c = let cells = c.args.cells.now in let n = c.args.pass in let six = c.requires.waiting.1 in let w = waits_at cells n n c.requires.waiting.0 (omega arith) six in
    let a = able_at (shown_at cells n) (shown_at c.add_by.new.cells n) 0 c.in_ok-add_by.field-0 c.in_ok-add_by.ensures.at in
    record { waiting = wait_on (shown_at c.add_by.new.cells n) (shown_at c.die_by.new.cells n) (beside_of c.add_by.new.cells) (beside_of c.die_by.new.cells) n c.die_by.ensures.shows c.die_by.ensures.chains (a.1 ∙ w.number) (wait_on (shown_at cells n) (shown_at c.add_by.new.cells n) (beside_of cells) (beside_of c.add_by.new.cells) n c.add_by.ensures.shows c.add_by.ensures.chains w.number (behind (beside_of cells) n c.requires.waiting.0)) }
