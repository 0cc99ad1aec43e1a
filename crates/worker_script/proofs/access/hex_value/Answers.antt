use Rattle.std.proofs.Common.{arith}
use Rattle.worker_script.proofs.Values.{hex-below}
use Rattle.worker_script.proofs.access.hex_value.Goals as goal

pub overflow_mul-value : goal.overflow_mul-value
overflow_mul-value c =
    omega (arith, hex-below c.loop-byte.value c.loop-byte.byte-index c.loop-byte.invariant.bound (omega arith))

pub overflow_add-value : goal.overflow_add-value
overflow_add-value c =
    omega (arith, hex-below c.loop-byte.value c.loop-byte.byte-index c.loop-byte.invariant.bound (omega arith), c.in_ok-hex_digit.ensures.small)

pub overflow_cast-result : goal.overflow_cast-result
overflow_cast-result c =
    omega (arith, hex-below c.loop-byte.value c.loop-byte.byte-index c.loop-byte.invariant.bound (omega arith))
