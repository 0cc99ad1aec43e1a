use Rattle.std.proofs.Common.{◌≡◌, ap, take, drop, arith, length, length-take, length-drop, ◌∙◌}
use Rattle.std.proofs.lemmas.List.{take-append-drop}
use Rattle.std.proofs.lemmas.Bool.{and_from}
use Rattle.chain_map.proofs.Homes.{has_pairs_some}
use Rattle.chain_map.proofs.Kept.{kept_all}
use Rattle.chain_map.proofs.leaf.Leaf.opened.Goals as goal

pub split_off-requires : goal.split_off-requires
split_off-requires c =
    omega (arith, c.cut.ensures.1, c.if-len-eq-MOST.true, ap length c.as_slice-len.ensures.pairs, ap length c.in_ok-pairs.ensures.pairs, ap length (kept_all 0 c.args.self.now))

pub returns-clause-pairs : goal.returns-clause-pairs
returns-clause-pairs c =
    rw (c.in_ok-new.ensures, c.in_ok-new-2.ensures, c.in_ok-back.ensures.front, c.in_ok-back.ensures.back)
    (take-append-drop c.cut.result c.in_ok-pairs.pairs ∙ c.in_ok-pairs.ensures.pairs ∙ kept_all 0 c.args.self.now)

pub returns-clause-filled : goal.returns-clause-filled
returns-clause-filled c =
    let pairs = c.in_ok-pairs.pairs in
    let long : length pairs ≡ 64 = omega (arith, c.if-len-eq-MOST.true, ap length c.as_slice-len.ensures.pairs, ap length c.in_ok-pairs.ensures.pairs, ap length (kept_all 0 c.args.self.now)) in
    rw (c.in_ok-new.ensures, c.in_ok-new-2.ensures, c.in_ok-back.ensures.front, c.in_ok-back.ensures.back)
    (and_from _ _ (has_pairs_some (take c.cut.result pairs) (omega (arith, length-take c.cut.result pairs, long, c.cut.ensures.0, c.cut.ensures.1)))
    (has_pairs_some (drop c.cut.result pairs) (omega (arith, length-drop c.cut.result pairs, long, c.cut.ensures.1))))

pub returns-2-clause-pairs : goal.returns-2-clause-pairs
returns-2-clause-pairs c = c.in_ok-new-3.ensures ∙ c.in_ok-pairs.ensures.pairs ∙ kept_all 0 c.args.self.now
