use Rattle.std.proofs.Common.{length, drop, ◌-◌, ◌≡◌, ◌≤◌, ◌+◌}
use Rattle.worker_script.specs.Text.{before}
use Rattle.worker_script.proofs.text.find.Given as goal

abbrev pub invariant-loop-end : goal.invariant-loop-end
invariant-loop-end l = record {
  within : l.end ≤ length l.bytes;
  rest : before l.separator (drop l.end l.bytes) + l.end ≡ before l.separator l.bytes;
}

abbrev pub decreases-loop-end : goal.decreases-loop-end
decreases-loop-end l = length l.bytes - l.end
