use Rattle.std.proofs.Common.{◌≡◌, sym, ap, subst, ◌∙◌}
use Rattle.turn_types.specs.Journal.{Legal, of_pass}
use Rattle.turn_types.specs.Shown.{Shown, replay}
use Rattle.turn_types.specs.Calls.{Prefix}
use Rattle.dbwrap_core.proofs.Lists as lists
use Rattle.dbwrap_core.proofs.Showing as show
use Rattle.dbwrap_core.proofs.Lawful.{buries_the_dead}
use Rattle.dbwrap_core.proofs.Ending.{ends, unnamed}
use Rattle.dbwrap_core.proofs.plain.PlainCells.close.Goals as goal

pub returns-clause-legal : goal.returns-clause-legal
returns-clause-legal g c n v at =
    let cells = c.args.self in let t = show.shown_back cells.rule cells.first.value.items cells.chains.items cells.words.items cells.journal.items cells.passes.items n v at in
    subst (λ (u : Shown g.row.R.Denot). (g.R.Replay.first u.rule u.first) × Legal (g.R.Replay.step u.rule) (g.R.Replay.legal u.rule) (g.R.Replay.follows u.rule) u.first cells.journal.items) (sym t.2)
    (cells.sound.began, cells.sound.is_legal)

pub returns-clause-chains : goal.returns-clause-chains
returns-clause-chains g c n v at =
    let cells = c.args.self in let t = show.shown_back cells.rule cells.first.value.items cells.chains.items cells.words.items cells.journal.items cells.passes.items n v at in
    ends g.R.Replay.first g.R.Replay.step g.R.Replay.legal g.R.Replay.follows g.R.Replay.buries g.R.Replay.names cells.rule cells.first.value.items (g.R.Replay.law cells.rule) cells.chains.items cells.words.items cells.journal.items cells.passes.items cells.sound
    (unnamed g.R.Replay.first g.R.Replay.step g.R.Replay.legal g.R.Replay.follows g.R.Replay.buries cells.rule cells.first.value.items cells.chains.items cells.words.items cells.journal.items cells.passes.items cells.sound c.requires.free c.requires.recovered)
    ∙ ap (λ (u : Shown g.row.R.Denot). replay g.R.Replay.step u cells.journal.items) (sym t.2)

pub returns-clause-counted : goal.returns-clause-counted
returns-clause-counted g c = c.args.self.sound.counted

pub returns-clause-seen : goal.returns-clause-seen
returns-clause-seen g c n v at =
    let cells = c.args.self in let t = show.shown_back cells.rule cells.first.value.items cells.chains.items cells.words.items cells.journal.items cells.passes.items n v at in let o = cells.sound.each n t.0 t.1 in
    subst (λ (u : Shown g.row.R.Denot). Prefix u.seen cells.journal.items × (of_pass n cells.journal.items ≡ u.own)) (sym t.2) (lists.take_prefix t.0.seen cells.journal.items, sym o.own)

pub returns-clause-buried : goal.returns-clause-buried
returns-clause-buried g c =
    buries_the_dead c.args.self.sound
