use Rattle.std.proofs.Common.{sym, ap, ◌∙◌}
use mathlib.Core.Option.{some-injective}
use Rattle.dbwrap_core.specs.declared.pass.PlainPass.{PlainPass}
use Rattle.dbwrap_core.proofs.Lists as lists
use Rattle.dbwrap_core.proofs.plain.PlainCells.death_of.Goals as goal

pub returns : goal.returns
returns g c = let cells = c.args.self.now in let me = c.index-me.result.now in let at = lists.at_place cells.passes.items c.args.pass me c.requires c.index-me.ensures in
    record {
      chains = ap (λ (v : _). v.items) c.of-2.ensures;
      words = ap (λ (v : _). v.items) c.of-3.ensures;
      plan = λ p e. let is = some-injective me p (sym at ∙ e) in (ap (λ (z : PlainPass). z.stage) is, ap (λ (v : _). v.items) c.of.ensures ∙ ap (λ (z : PlainPass). z.new.items) is);
    }
