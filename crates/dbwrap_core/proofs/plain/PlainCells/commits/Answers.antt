use Rattle.std.proofs.Common.{length, List, sym, ap, ◌∙◌}
use Rattle.sid_core.specs.declared.entry.Entry.{Entry}
use Rattle.turn_types.specs.Shown.{Shown}
use Rattle.dbwrap_core.proofs.Lists as lists
use Rattle.dbwrap_core.proofs.Showing as show
use Rattle.dbwrap_core.proofs.plain.PlainCells.commits.Goals as goal

pub returns : goal.returns
returns g c =
    let cells = c.args.self.now in let ok = cells.sound in let me = c.index.result.now in
    let at = lists.at_place cells.passes.items c.args.pass me c.requires c.index.ensures in let o = ok.each c.args.pass me at in
    o.commits ∙ sym (ap (λ (es : List Entry). length es) o.own) ∙ sym (ap (λ (v : Shown g.row.R.Denot). length v.own) (show.shown_is cells c.args.pass me at))
