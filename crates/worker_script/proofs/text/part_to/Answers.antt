use Rattle.std.proofs.Common.{arith}
use Rattle.worker_script.proofs.Parts.{first_part-more, first_part-last}
use Rattle.worker_script.proofs.text.part_to.Goals as goal

pub returns-then-is_empty-clause-parts : goal.returns-then-is_empty-clause-parts
returns-then-is_empty-clause-parts c =
    first_part-last _ _ _ _ _ c.requires.some c.requires.end c.split_at.ensures.front c.split_at.ensures.back (grind arith)

pub returns-clause-parts : goal.returns-clause-parts
returns-clause-parts c =
    rw c.split_at-2.ensures.back (first_part-more _ _ _ _ _ c.requires.some c.requires.end c.split_at.ensures.front c.split_at.ensures.back)
