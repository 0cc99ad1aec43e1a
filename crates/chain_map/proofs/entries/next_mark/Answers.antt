use Rattle.std.proofs.Common.{◌≡◌, ℕ, List, [], ◌∷◌, length, ap, arith}
use Rattle.chain_map.specs.Leaves.{joined}
use Rattle.chain_map.proofs.Each.{each_none}
use Rattle.chain_map.proofs.entries.next_mark.Goals as goal

none : (xs : List ℕ) → length xs ≡ 0 → xs ≡ []
none [] e = λ i. []
none (x ∷ xs) e = absurd (omega arith)

pub returns-in-None : goal.returns-in-None
returns-in-None c leaves =
    let empty : c.args.marks.now ≡ [] = none c.args.marks.now c.in-None.ensures.cases in
    rw empty (ap joined (each_none leaves))
