use Rattle.std.proofs.Common.{sym, ◌∙◌, eq-eqb, arith}
use Rattle.std.proofs.lemmas.Bool.Decides.{nat_tests}
use Rattle.worker_script.proofs.Front.{skip-space, skip-first, skip-end}
use Rattle.worker_script.proofs.text.skips.Goals.{then-loop-start-test+else-line-start-eq32, else-loop-start-test}
use Rattle.worker_script.proofs.text.skips.Goals as goal

pub loop-start-preserved : goal.loop-start-preserved
loop-start-preserved c = record {
  within = grind (arith, nat_tests);
  rest = sym (skip-space c.args.line.now c.loop-start.start (grind (arith, nat_tests)) (grind (arith, nat_tests))) ∙ c.loop-start.invariant.rest;
}

pub returns-then-start-line : goal.returns-then-start-line
returns-then-start-line c =
    eq-eqb c.loop-start.start _ c.if-start-line.true ∙ sym (skip-end c.args.line.now c.loop-start.start c.if-start-line.true) ∙ c.loop-start.invariant.rest

pub returns-else-start-line : goal.returns-else-start-line
returns-else-start-line c = elim c.loop-start-test.branch [
  | then-loop-start-test+else-line-start-eq32 w ↦
      sym (skip-first c.args.line.now c.loop-start.start (grind (arith, nat_tests)) (grind (arith, nat_tests))) ∙ c.loop-start.invariant.rest
  | else-loop-start-test w ↦ (let within = c.loop-start.invariant.within in absurd (grind (arith, nat_tests)))
]
