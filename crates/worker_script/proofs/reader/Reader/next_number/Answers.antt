use Rattle.std.proofs.Common.{◌+◌, ◌-◌, ◌∙◌, ap, arith}
use Rattle.worker_script.specs.declared.reader.Tally.{Tally}
use Rattle.worker_script.specs.Lines.{planned_in}
use Rattle.worker_script.specs.Reader.{draft_of}
use Rattle.worker_script.proofs.Counts.{numbers-few}
use Rattle.worker_script.proofs.reader.Reader.next_number.Goals as goal

pub overflow_add-result : goal.overflow_add-result
overflow_add-result c =
    let tally = c.tally_of.ensures ∙ c.requires.reader.each_tally (c.args.worker - 1) (omega (arith, c.requires.reader.tallies, c.requires.some, c.requires.declared)) in
    let made = ap (λ (s : Tally). s.made) tally in
    let few = numbers-few (c.args.worker - 1 + 1) (planned_in (draft_of c.args.self.now)) in
    omega (arith, made, few, c.requires.reader.calls, c.requires.room)
