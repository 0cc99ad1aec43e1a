use Rattle.std.proofs.Common.{◌∙◌, arith}
use Rattle.dbwrap_core.specs.Plain.{beside_of, shown_at}
use Rattle.tests.proofs.Waits.{waits_at, wait_on, behind, asked_on, recovered_on}
use Rattle.tests.proofs.passes.recover_within.Goals as goal

pub ask_by-requires-clause-able : goal.ask_by-requires-clause-able
ask_by-requires-clause-able c = let cells = c.args.cells.now in let n = c.args.pass in let six = c.requires.waiting.1 in let w = waits_at cells n n c.requires.waiting.0 (omega arith) six in
    w.able

pub ask_by-requires-clause-other : goal.ask_by-requires-clause-other
ask_by-requires-clause-other c = let cells = c.args.cells.now in let n = c.args.pass in let six = c.requires.waiting.1 in let w = waits_at cells n n c.requires.waiting.0 (omega arith) six in
    let many = w.dead in let mine = w.number in let before = c.requires.dead in (omega arith, λ e. omega arith)

pub returns-then-not-ask_by : goal.returns-then-not-ask_by
returns-then-not-ask_by c = let cells = c.args.cells.now in let n = c.args.pass in let six = c.requires.waiting.1 in let w = waits_at cells n n c.requires.waiting.0 (omega arith) six in
    record { waiting = wait_on (shown_at cells n) (shown_at c.ask_by.new.cells n) (beside_of cells) (beside_of c.ask_by.new.cells) n c.ask_by.ensures.shows c.ask_by.ensures.chains w.number (behind (beside_of cells) n c.requires.waiting.0) }

pub recover_by-answer-requires-clause-able : goal.recover_by-answer-requires-clause-able
recover_by-answer-requires-clause-able c = let cells = c.args.cells.now in let n = c.args.pass in let six = c.requires.waiting.1 in let w = waits_at cells n n c.requires.waiting.0 (omega arith) six in let a = asked_on c.args.dead (shown_at cells n) (shown_at c.ask_by.new.cells n) c.ask_by.result c.ask_by.ensures.asked w.able in
    a.0

pub die_by-requires-clause-lives : goal.die_by-requires-clause-lives
die_by-requires-clause-lives c = let cells = c.args.cells.now in let n = c.args.pass in let six = c.requires.waiting.1 in let w = waits_at cells n n c.requires.waiting.0 (omega arith) six in let a = asked_on c.args.dead (shown_at cells n) (shown_at c.ask_by.new.cells n) c.ask_by.result c.ask_by.ensures.asked w.able in let r = recovered_on c.args.dead _ (shown_at c.ask_by.new.cells n) (shown_at c.recover_by-answer.new.cells n) c.recover_by-answer.result c.recover_by-answer.ensures.recovered in
    r.0 ∙ a.0.lives

pub returns-in-Stopped : goal.returns-in-Stopped
returns-in-Stopped c = let cells = c.args.cells.now in let n = c.args.pass in let six = c.requires.waiting.1 in let w = waits_at cells n n c.requires.waiting.0 (omega arith) six in let a = asked_on c.args.dead (shown_at cells n) (shown_at c.ask_by.new.cells n) c.ask_by.result c.ask_by.ensures.asked w.able in let r = recovered_on c.args.dead _ (shown_at c.ask_by.new.cells n) (shown_at c.recover_by-answer.new.cells n) c.recover_by-answer.result c.recover_by-answer.ensures.recovered in
    record { waiting = wait_on (shown_at c.recover_by-answer.new.cells n) (shown_at c.die_by.new.cells n) (beside_of c.recover_by-answer.new.cells) (beside_of c.die_by.new.cells) n c.die_by.ensures.shows c.die_by.ensures.chains (r.1 ∙ a.1 ∙ w.number) (wait_on (shown_at c.ask_by.new.cells n) (shown_at c.recover_by-answer.new.cells n) (beside_of c.ask_by.new.cells) (beside_of c.recover_by-answer.new.cells) n c.recover_by-answer.ensures.shows c.recover_by-answer.ensures.chains (a.1 ∙ w.number) (wait_on (shown_at cells n) (shown_at c.ask_by.new.cells n) (beside_of cells) (beside_of c.ask_by.new.cells) n c.ask_by.ensures.shows c.ask_by.ensures.chains w.number (behind (beside_of cells) n c.requires.waiting.0))) }

pub returns-in_default : goal.returns-in_default
returns-in_default c = let cells = c.args.cells.now in let n = c.args.pass in let six = c.requires.waiting.1 in let w = waits_at cells n n c.requires.waiting.0 (omega arith) six in let a = asked_on c.args.dead (shown_at cells n) (shown_at c.ask_by.new.cells n) c.ask_by.result c.ask_by.ensures.asked w.able in
    record { waiting = wait_on (shown_at c.ask_by.new.cells n) (shown_at c.recover_by-answer.new.cells n) (beside_of c.ask_by.new.cells) (beside_of c.recover_by-answer.new.cells) n c.recover_by-answer.ensures.shows c.recover_by-answer.ensures.chains (a.1 ∙ w.number) (wait_on (shown_at cells n) (shown_at c.ask_by.new.cells n) (beside_of cells) (beside_of c.ask_by.new.cells) n c.ask_by.ensures.shows c.ask_by.ensures.chains w.number (behind (beside_of cells) n c.requires.waiting.0)) }
