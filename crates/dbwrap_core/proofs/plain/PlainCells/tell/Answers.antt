use Rattle.std.proofs.Common.{◌≡◌, ◌+◌, [], sym, ap, subst, ◌∙◌}
use mathlib.Core.Option.{some}
use lib.ListN.{get_elem?}
use Rattle.turn_types.specs.Journal.{Legal, of_pass}
use Rattle.turn_types.specs.Shown.{Shown, Numbered, replay, look, or_else, due}
use Rattle.turn_types.specs.Calls.{Prefix}
use Rattle.dbwrap_core.specs.Shows.{plan_of}
use Rattle.dbwrap_core.proofs.Lists as lists
use Rattle.dbwrap_core.proofs.Holding as holding
use Rattle.dbwrap_core.proofs.Showing as show
use Rattle.dbwrap_core.proofs.Lawful.{buries_the_dead}
use Rattle.dbwrap_core.proofs.Ending.{ends, unnamed}
use Rattle.dbwrap_core.proofs.plain.PlainCells.tell.Goals as goal

pub returns-clause-legal : goal.returns-clause-legal
returns-clause-legal g c n v at =
    let cells = c.args.self.now in let t = show.shown_back cells.rule cells.first.value.items cells.chains.items cells.words.items cells.journal.items cells.passes.items n v at in
    subst (λ (u : Shown g.row.R.Denot). (g.R.Replay.first u.rule u.first) × Legal (g.R.Replay.step u.rule) (g.R.Replay.legal u.rule) (g.R.Replay.follows u.rule) u.first cells.journal.items) (sym t.2)
    (cells.sound.began, cells.sound.is_legal)

pub returns-clause-chains : goal.returns-clause-chains
returns-clause-chains g c free recovered n v at =
    let cells = c.args.self.now in let t = show.shown_back cells.rule cells.first.value.items cells.chains.items cells.words.items cells.journal.items cells.passes.items n v at in
    ends g.R.Replay.first g.R.Replay.step g.R.Replay.legal g.R.Replay.follows g.R.Replay.buries g.R.Replay.names cells.rule cells.first.value.items (g.R.Replay.law cells.rule) cells.chains.items cells.words.items cells.journal.items cells.passes.items cells.sound
    (unnamed g.R.Replay.first g.R.Replay.step g.R.Replay.legal g.R.Replay.follows g.R.Replay.buries cells.rule cells.first.value.items cells.chains.items cells.words.items cells.journal.items cells.passes.items cells.sound free recovered)
    ∙ ap (λ (u : Shown g.row.R.Denot). replay g.R.Replay.step u cells.journal.items) (sym t.2)

pub returns-clause-seen : goal.returns-clause-seen
returns-clause-seen g c n v at =
    let cells = c.args.self.now in let t = show.shown_back cells.rule cells.first.value.items cells.chains.items cells.words.items cells.journal.items cells.passes.items n v at in let o = cells.sound.each n t.0 t.1 in
    subst (λ (u : Shown g.row.R.Denot). Prefix u.seen cells.journal.items × (of_pass n cells.journal.items ≡ u.own)) (sym t.2) (lists.take_prefix t.0.seen cells.journal.items, sym o.own)

pub returns-clause-buried : goal.returns-clause-buried
returns-clause-buried g c = buries_the_dead c.args.self.now.sound

pub returns-clause-held : goal.returns-clause-held
returns-clause-held g c n v at lives idle x y here =
    let cells = c.args.self.now in let t = show.shown_back cells.rule cells.first.value.items cells.chains.items cells.words.items cells.journal.items cells.passes.items n v at in
    let alive = show.alive_none t.0.death (ap (λ (u : Shown g.row.R.Denot). u.alive) (sym t.2) ∙ lives) in
    let is = t.2 ∙ show.living cells.rule cells.first.value.items cells.chains.items cells.words.items cells.journal.items n t.0 alive in
    let f = holding.found_at (n + 1) x cells.chains.items cells.words.items y (ap (λ (u : Shown g.row.R.Denot). look x u.held) (sym is) ∙ here) in
    let none : due (plan_of t.0.stage t.0.new.items) ≡ [] = ap (λ (u : Shown g.row.R.Denot). due u.plan) (sym is) ∙ ap due idle in
    ap (λ (u : Shown g.row.R.Denot). get_elem? (replay g.R.Replay.step u cells.journal.items) x) t.2
    ∙ (cells.sound.each n t.0 t.1).parts x y f.0 f.1 ∙ ap (λ (d : Numbered). some (or_else (look x d) y)) none
