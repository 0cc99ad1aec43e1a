use Rattle.std.proofs.Common.{subst, sym, ◌∙◌}
use Rattle.std.proofs.lemmas.Bool.{false≢true}
use Rattle.chain_map.specs.Pairs.{IsRising}
use Rattle.chain_map.proofs.Each.{IsRising-each}
use Rattle.chain_map.proofs.entries.ChainEntries.new.Goals as goal

pub invariant_of-result : goal.invariant_of-result
invariant_of-result c = (
  c.requires.over,
  (subst IsRising (sym (c.read_ahead-first.ensures.pairs ∙ c.new-below.ensures)) (IsRising-each c.args.leaves.now c.args.marks.now c.requires.leaves), c.read_ahead-first.ensures.ahead (λ t. absurd (false≢true t))),
)
