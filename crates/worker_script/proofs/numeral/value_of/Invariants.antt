use Rattle.std.proofs.Common.{◌≡◌, drop}
use Rattle.worker_script.specs.Values.{value, value_after}
use Rattle.worker_script.proofs.numeral.value_of.Given as goal

abbrev pub invariant-loop-digit : goal.invariant-loop-digit
invariant-loop-digit l = value_after l.value (drop l.digit-index l.digits) ≡ value l.digits
