use Rattle.std.proofs.Common.{arith}
use Rattle.std.proofs.lemmas.Bool.Decides.{nat_tests}
use Rattle.worker_script.proofs.Front.{has-bad-at, same-end-at, front-at}
use Rattle.worker_script.proofs.text.first_line.Goals.{else-end-bytes-via-then-end-bytes+else-bytes-end-ne10, else-end-bytes-via-else-end-bytes}
use Rattle.worker_script.proofs.text.first_line.Goals as goal

pub returns-then-bytes-end-ne10 : goal.returns-then-bytes-end-ne10
returns-then-bytes-end-ne10 c =
    has-bad-at c.args.bytes.now c.plain_front-end.result c.plain_front-end.ensures.found (grind (arith, nat_tests)) (grind (arith, nat_tests))

pub part_to-requires-clause-end : goal.part_to-requires-clause-end
part_to-requires-clause-end c =
    same-end-at c.args.bytes.now c.plain_front-end.result c.plain_front-end.ensures.found
    (λ more. elim c.else-end-bytes.branch [
      | else-end-bytes-via-then-end-bytes+else-bytes-end-ne10 w ↦ grind (arith, nat_tests)
      | else-end-bytes-via-else-end-bytes w ↦ absurd (grind (arith, nat_tests, more))
    ])

pub returns : goal.returns
returns c = record {
  split = c.part_to.ensures.parts;
  plain = front-at c.args.bytes.now c.part_to.result.0.now c.plain_front-end.result c.plain_front-end.ensures.found c.part_to.ensures.front;
  less = c.part_to.ensures.less;
}
