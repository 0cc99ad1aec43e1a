use Rattle.std.proofs.Common.{◌≡◌, true, false, List, length, sym, ap, ◌∙◌, subst, arith}
use Rattle.dbwrap_core.specs.Plain.{beside_of, shown_at}
use Rattle.sid_core.specs.declared.entry.Entry.{Entry}
use Rattle.tests.specs.Adding.{At}
use Rattle.tests.specs.declared.adding.Stage.{Stage}
use Rattle.tests.proofs.Waits.{waits_at, wait_on, behind, all_free}
use Rattle.tests.proofs.passes.add_and_close.Goals as goal

pub add_by-requires-clause-few : goal.add_by-requires-clause-few
add_by-requires-clause-few c = let cells = c.in_ok-cells.cells in let w = waits_at cells 0 0 c.in_ok-cells.ensures (omega arith) (omega arith) in
    let o = ap (λ (es : List Entry). length es) w.own in omega arith

pub add_by-requires-clause-idle : goal.add_by-requires-clause-idle
add_by-requires-clause-idle c = let cells = c.in_ok-cells.cells in let w = waits_at cells 0 0 c.in_ok-cells.ensures (omega arith) (omega arith) in
    (w.able, w.held, w.plan)

pub close-requires-clause-free : goal.close-requires-clause-free
close-requires-clause-free c = λ n v at alive. let cells = c.in_ok-cells.cells in let w = waits_at cells 0 0 c.in_ok-cells.ensures (omega arith) (omega arith) in
    let a = subst (λ (s : Stage). At (shown_at cells 0) 0 s (shown_at c.add_by.new.cells 0)) c.in-Done.is c.in_ok-add_by.ensures.at in
    (all_free c.add_by.new.cells
    (wait_on (shown_at cells 0) (shown_at c.add_by.new.cells 0) (beside_of cells) (beside_of c.add_by.new.cells) 0 c.add_by.ensures.shows c.add_by.ensures.chains w.number (behind (beside_of cells) 0 c.in_ok-cells.ensures))
    a.2.able a.3 n v at).1

pub close-requires-clause-recovered : goal.close-requires-clause-recovered
close-requires-clause-recovered c = λ n v at dead. let cells = c.in_ok-cells.cells in let w = waits_at cells 0 0 c.in_ok-cells.ensures (omega arith) (omega arith) in
    let a = subst (λ (s : Stage). At (shown_at cells 0) 0 s (shown_at c.add_by.new.cells 0)) c.in-Done.is c.in_ok-add_by.ensures.at in
    let lives = (all_free c.add_by.new.cells
    (wait_on (shown_at cells 0) (shown_at c.add_by.new.cells 0) (beside_of cells) (beside_of c.add_by.new.cells) 0 c.add_by.ensures.shows c.add_by.ensures.chains w.number (behind (beside_of cells) 0 c.in_ok-cells.ensures))
    a.2.able a.3 n v at).0 in
    let no : true ≡ false = sym lives ∙ dead in absurd cc
