use Rattle.std.proofs.Common.{take, drop, sym, subst}
use Rattle.std.proofs.lemmas.List.{take-append-drop}
use Rattle.chain_map.specs.Pairs.{IsRising}
use Rattle.chain_map.proofs.Homes.{IsRising-front, IsRising-back}
use Rattle.chain_map.proofs.sorted.Sorted.split_off.Goals as goal

pub invariant_of-result : goal.invariant_of-result
invariant_of-result c =
    let pairs = c.self.inside.pairs.items in
    rw (c.reserve_exact.ensures.items, c.in_ok-pairs.ensures.tail) (IsRising-back (take c.args.at pairs) (drop c.args.at pairs) (subst IsRising (sym (take-append-drop c.args.at pairs)) c.self.invariant))

pub invariant_of-self-2 : goal.invariant_of-self-2
invariant_of-self-2 c =
    let pairs = c.self.inside.pairs.items in
    rw c.in_ok-pairs.ensures.items (IsRising-front (take c.args.at pairs) (drop c.args.at pairs) (subst IsRising (sym (take-append-drop c.args.at pairs)) c.self.invariant))
