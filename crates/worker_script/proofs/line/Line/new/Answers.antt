use Rattle.std.proofs.Common.{[], ◌∷◌, arith}
use Rattle.std.proofs.lemmas.Bool.Decides.{nat_tests}
use Rattle.worker_script.specs.Text.{tokens}
use Rattle.worker_script.proofs.Parts.{tokens-skip, tokens-next, tokens-none}
use Rattle.worker_script.proofs.Split.{split-skip, split-kept, split-full, split-done}
use Rattle.worker_script.proofs.line.Line.new.Goals.{then-count-lt9, else-count-lt9}
use Rattle.worker_script.proofs.line.Line.new.Goals as goal

pub loop-rest-preserved-then-is_empty : goal.loop-rest-preserved-then-is_empty
loop-rest-preserved-then-is_empty c =
    let e = tokens-skip c.loop-rest.rest.now c.first_part.result.0.now c.first_part.result.1.now c.first_part.ensures.parts (grind (arith, nat_tests)) in
    let within = c.loop-rest.invariant.within in
    let less = c.first_part.ensures.less in
    record {
      within = omega arith;
      split = split-skip (tokens c.args.text.now) (tokens c.loop-rest.rest.now) (tokens c.first_part.result.1.now) c.loop-rest.count c.loop-rest.first c.loop-rest.last.now e c.loop-rest.invariant.split;
    }

pub loop-rest-preserved : goal.loop-rest-preserved
loop-rest-preserved c =
    let e = tokens-next c.loop-rest.rest.now c.first_part.result.0.now c.first_part.result.1.now c.first_part.ensures.parts (grind (arith, nat_tests)) in
    let within = c.loop-rest.invariant.within in
    let less = c.first_part.ensures.less in
    let before = split-skip (tokens c.args.text.now) (tokens c.loop-rest.rest.now) (c.first_part.result.0.now ∷ tokens c.first_part.result.1.now)
    c.loop-rest.count c.loop-rest.first c.loop-rest.last.now e c.loop-rest.invariant.split in
    record {
      within = omega arith;
      split = elim c.if-count-lt9.branch [
        | then-count-lt9 w ↦ rw w.first-is (split-kept (tokens c.args.text.now) (tokens c.first_part.result.1.now) c.loop-rest.count c.loop-rest.first c.first_part.result.0 c.loop-rest.last.now before)
        | else-count-lt9 w ↦ rw w.first-is (split-full (tokens c.args.text.now) (tokens c.first_part.result.1.now) c.loop-rest.count c.loop-rest.first c.first_part.result.0.now c.loop-rest.last.now (grind (arith, nat_tests)) before)
      ];
    }

pub invariant_of-result : goal.invariant_of-result
invariant_of-result c =
    let e = tokens-none c.loop-rest.rest.now (grind (arith, nat_tests)) in
    split-done (tokens c.args.text.now) c.loop-rest.count c.loop-rest.first c.loop-rest.last.now
    (split-skip (tokens c.args.text.now) (tokens c.loop-rest.rest.now) [] c.loop-rest.count c.loop-rest.first c.loop-rest.last.now e c.loop-rest.invariant.split)
