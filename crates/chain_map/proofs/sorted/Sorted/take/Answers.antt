use Rattle.std.proofs.Common.{arith, ap, length}
use Rattle.chain_map.proofs.Laid.{IsRising-remove}
use Rattle.chain_map.proofs.sorted.Sorted.take.Goals as goal

pub invariant_of-self : goal.invariant_of-self
invariant_of-self c = rw c.remove.ensures.items (IsRising-remove c.self.inside.pairs.items c.args.at c.self.invariant (omega (arith, c.requires, ap length c.self.view_is)))
