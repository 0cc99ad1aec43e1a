use Rattle.std.proofs.Common.{length, drop, ◌-◌, ◌≡◌, ◌≤◌}
use Rattle.worker_script.specs.Text.{tokens, token, is_skipped}
use Rattle.worker_script.proofs.text.skips.Given as goal

abbrev pub invariant-loop-start : goal.invariant-loop-start
invariant-loop-start l = record {
  within : l.start ≤ length l.line;
  rest : is_skipped (token 0 (tokens (drop l.start l.line))) ≡ is_skipped (token 0 (tokens l.line));
}

abbrev pub decreases-loop-start : goal.decreases-loop-start
decreases-loop-start l = length l.line - l.start
