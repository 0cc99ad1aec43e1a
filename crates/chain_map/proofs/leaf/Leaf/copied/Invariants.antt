use Rattle.std.proofs.Common.{◌≡◌, ◌++◌}
use Rattle.chain_map.specs.Marks.{kept}
use Rattle.chain_map.proofs.leaf.Leaf.copied.Given as goal

-- what was copied, and what is left
abbrev pub invariant-loop-pair : goal.invariant-loop-pair
invariant-loop-pair l = l.pairs.items ++ l.pair-iterator ≡ kept l.fn.mark 0 l.fn.self
