use Rattle.std.proofs.Common.{arith}
use Rattle.worker_script.specs.Values.{value}
use Rattle.worker_script.proofs.Values.{value_after-next}
use Rattle.worker_script.proofs.numeral.value_of.Goals as goal

pub returns-in_err-checked_mul : goal.returns-in_err-checked_mul
returns-in_err-checked_mul c =
    let h = value_after-next c.loop-digit.value c.loop-digit.digit-index (value c.args.digits.now) c.args.digits.now c.loop-digit-test.true c.loop-digit.invariant in
    rw c.from_residual.ensures (omega (arith, c.in_err-checked_mul.ensures))

pub returns-in_err-value : goal.returns-in_err-value
returns-in_err-value c =
    let h = value_after-next c.loop-digit.value c.loop-digit.digit-index (value c.args.digits.now) c.args.digits.now c.loop-digit-test.true c.loop-digit.invariant in
    rw c.from_residual-in_err-value.ensures (omega (arith, c.in_err-value.ensures, c.in_ok-checked_mul.ensures))
