use Rattle.std.proofs.Common.{ap, ◌∙◌}
use Rattle.std.specs.Prelude.{length}
use Rattle.databases.proofs.Histories.{keeps_history}
use Rattle.databases.proofs.kept.Databases.of_plain.Goals as goal

pub returns-clause-history : goal.returns-clause-history
returns-clause-history c m v at =
    let closed = c.close-all in
    let legal = closed.ensures.legal m v at in
    keeps_history v.rule.setup.now v.first closed.result.journal.items closed.result.chains.items c.args.chains legal.0 legal.1 closed.ensures.counted (closed.ensures.chains m v at) (ap length closed.ensures.same ∙ c.requires.seven)
